-- Lines that are written are read back, and texts that follow one another.
use Rattle.std.proofs.Common.{◌≡◌, ℕ, zero, suc, ◌+◌, List, [], ◌∷◌, ◌++◌, All, length, take, drop, map, refl, sym, ◌∙◌, ap, subst, append-nil, append_assoc, arith}
use Rattle.std.proofs.lemmas.List.{length-append, length-map, take_all}
use Rattle.std.proofs.lemmas.List.Elements.{All-append, All-cons, All-head, All-nil, All-tail}
use Rattle.certify_clauses.specs.Problem.{Problem}
use Rattle.certify_making.specs.Texts.{IsPartText, IsSmall, bytes_of, text_of}
use Rattle.certify_recheck.specs.Due.{AreDue, Due, ending, heading, left_of, lines_of, part}
use Rattle.certify_recheck.specs.Laws.{IsLawfulPart}
use Rattle.certify_recheck.specs.Lines.{line_of, size_of_lines, whole_lines}
use Rattle.certify_recheck.specs.Spots.{Passes}
use Rattle.certify_recheck.specs.Written.{IsWritten}
use Rattle.certify_recheck.specs.declared.line.Line.{Line}
use Rattle.certify_recheck.specs.declared.line.Line.TheVariants.{Heading, Duty, Split, Clause, Theory, End, Other}
use Rattle.certify_recheck.specs.declared.spot.Spot.{Spot}
use Rattle.certify_recheck.proofs.Following.{due_append}
use Rattle.certify_recheck.proofs.Growing.{parts}
use Rattle.certify_recheck.proofs.Writing.{written_lines}
use Rattle.certify_scripts.specs.Certificates.{start}
use Rattle.certify_proving.specs.Begun.{IsTextOf}

written : (l : Line) → IsSmall l → IsWritten l (bytes_of l)
written Heading h = refl
written (Duty n) h = record { small = h; is = refl }
written (Split v) h = record { small = h; is = refl }
written (Clause n) h = record { small = h; is = refl }
written Theory h = refl
written End h = refl
written Other h = absurd h

whole_back : (ls : List Line) → All IsSmall ls → whole_lines (text_of ls) ≡ map bytes_of ls
whole_back [] small = refl
whole_back (l ∷ ls) small =
    (written_lines l (bytes_of l) (written l (All-head IsSmall l ls small))).is_first (text_of ls)
    ∙ ap (λ xs. bytes_of l ∷ xs) (whole_back ls (All-tail IsSmall l ls small))

says_back : (ls : List Line) → All IsSmall ls → map line_of (map bytes_of ls) ≡ ls
says_back [] small = refl
says_back (l ∷ ls) small =
    ap (λ k. k ∷ map line_of (map bytes_of ls)) (written_lines l (bytes_of l) (written l (All-head IsSmall l ls small))).says
    ∙ ap (λ xs. l ∷ xs) (says_back ls (All-tail IsSmall l ls small))

size_back : (ls : List Line) → size_of_lines (map bytes_of ls) ≡ length (text_of ls)
size_back [] = refl
size_back (l ∷ ls) = omega (arith, size_back ls, length-append (bytes_of l) (10 ∷ text_of ls))

-- the spot behind a text
abbrev pub behind : (ds : List Due) (text : List ℕ) → IsTextOf ds text → Spot
behind ds text h = record { at = length text; line = 1 + length h.lines }

pub passes : (ds : List Due) (text : List ℕ) (h : IsTextOf ds text) → Passes text start ds (behind ds text h)
passes ds text h =
    let whole : whole_lines text ≡ map bytes_of h.lines = ap whole_lines h.is ∙ whole_back h.lines h.small in
    let says : map line_of (whole_lines text) ≡ h.lines = ap (map line_of) whole ∙ says_back h.lines h.small in
    let all : take (length h.lines) (whole_lines text) ≡ map bytes_of h.lines = ap (take (length h.lines)) whole ∙ take_all (length h.lines) (map bytes_of h.lines) (omega (arith, length-map h.lines bytes_of)) in
    let size : size_of_lines (take (length h.lines) (whole_lines text)) ≡ length text = ap size_of_lines all ∙ (size_back h.lines ∙ sym (ap length h.is)) in
    record {
      count = length h.lines;
      met = subst (λ (ls : List Line). AreDue ds ls (length h.lines)) (sym says) h.due;
      spans = record { at = omega (arith, size); line = refl };
    }

-- ---- texts that follow one another

text-append : (xs ys : List Line) → text_of (xs ++ ys) ≡ text_of xs ++ text_of ys
text-append [] ys = refl
text-append (l ∷ xs) ys = ap (λ t. bytes_of l ++ 10 ∷ t) (text-append xs ys) ∙ sym (append_assoc (bytes_of l) (10 ∷ text_of xs) (text_of ys))

-- lines behind those that are due are not looked at
due_more : (ds : List Due) (ls more : List Line) (n : ℕ) → AreDue ds ls n → AreDue ds (ls ++ more) n
due_more [] ls more zero h = tt
due_more [] ls more (suc n) h = absurd h
due_more (d ∷ ds) [] more n h = absurd h
due_more (d ∷ ds) (l ∷ ls) more zero h = absurd h
due_more (d ∷ ds) (l ∷ ls) more (suc n) h = (h.0, due_more (left_of d l ++ ds) ls more n h.1)

drop_front : (xs ys : List Line) → drop (length xs) (xs ++ ys) ≡ ys
drop_front [] ys = refl
drop_front (x ∷ xs) ys = drop_front xs ys

pub joined : (ds es : List Due) (front back : List ℕ) → IsTextOf ds front → IsTextOf es back → IsTextOf (ds ++ es) (front ++ back)
joined ds es front back a b =
    let first = due_more ds a.lines b.lines (length a.lines) a.due in
    let second = subst (λ (ls : List Line). AreDue es ls (length b.lines)) (sym (drop_front a.lines b.lines)) b.due in
    let count : length a.lines + length b.lines ≡ length (a.lines ++ b.lines) = sym (length-append a.lines b.lines) in
    record {
      lines = a.lines ++ b.lines;
      small = All-append IsSmall a.lines b.lines a.small b.small;
      due = subst (λ n. AreDue (ds ++ es) (a.lines ++ b.lines) n) count (due_append ds es (a.lines ++ b.lines) (length a.lines) (length b.lines) first second);
      is = ap (λ t. t ++ back) a.is ∙ ap (λ t. text_of a.lines ++ t) b.is ∙ sym (text-append a.lines b.lines);
    }

pub no_text : IsTextOf [] []
no_text = record { lines = []; small = All-nil IsSmall; due = tt; is = refl }

pub part_text : (c : Problem) (n : ℕ) (text : List ℕ) → IsPartText c n text → IsTextOf (part c n ∷ []) text
part_text c n text h =
    let lines : List Line = Duty n ∷ lines_of h.tree in
    let own : IsLawfulPart c n lines (length lines) = record {
      tree = h.tree;
      lawful = h.lawful;
      rest = [];
      lines_are = ap (λ (ls : List Line). Duty n ∷ ls) (sym (append-nil (lines_of h.tree)));
      count = omega arith;
    } in
    record { lines = lines; small = h.small; due = (parts c n lines (length lines)).1 own; is = h.is }

one : (l : Line) → IsSmall l → All IsSmall (l ∷ [])
one l small = All-cons IsSmall l [] small (All-nil IsSmall)

pub heading_text : IsTextOf (heading ∷ []) (text_of (Heading ∷ []))
heading_text = record { lines = Heading ∷ []; small = one Heading tt; due = (tt, tt); is = refl }

pub ending_text : IsTextOf (ending ∷ []) (text_of (End ∷ []))
ending_text = record { lines = End ∷ []; small = one End tt; due = (tt, tt); is = refl }
