-- Parts of a certificate that follow one another.
use Rattle.std.proofs.Common.{◌≡◌, ℕ, zero, suc, ◌+◌, ◌-◌, ◌≤◌, List, [], ◌∷◌, ◌++◌, length, take, drop, eqb, map, refl, sym, ◌∙◌, ap, subst, zero-add, arith}
use Rattle.std.proofs.Math.Logic.{⊎_elim}
use Rattle.std.proofs.lemmas.Bool.{cases_Bool, cond-true, cond-false}
use Rattle.std.proofs.lemmas.List.{append_assoc, drop-drop, length-append, length-map}
use Rattle.certify_recheck.specs.Due.{AreDue, Due, IsFirstBad, left_of}
use Rattle.certify_recheck.specs.Following.{PartsFollow}
use Rattle.certify_recheck.specs.Lines.{line_of, lines_at, size_of_lines, whole_lines, whole_lines_behind}
use Rattle.certify_recheck.specs.Spots.{Spans}
use Rattle.certify_recheck.specs.declared.line.Line.{Line}
use Rattle.certify_recheck.specs.declared.spot.Spot.{Spot}

-- what is due first, and then what is due behind it
pub due_append : (ds es : List Due) (ls : List Line) (n m : ℕ) → AreDue ds ls n → AreDue es (drop n ls) m → AreDue (ds ++ es) ls (n + m)
due_append [] es ls zero m are more = subst (λ k. AreDue es ls k) (sym (zero-add m)) more
due_append [] es ls (suc n) m are more = absurd are
due_append (d ∷ ds) es [] n m are more = absurd are
due_append (d ∷ ds) es (l ∷ ls) zero m are more = absurd are
due_append (d ∷ ds) es (l ∷ ls) (suc n) m are more =
    let e : suc (n + m) ≡ suc n + m = omega arith in
    let behind = subst (λ fs. AreDue fs ls (n + m)) (append_assoc (left_of d l) ds es) (due_append (left_of d l ++ ds) es ls n m are.1 more) in
    let all : AreDue (d ∷ (ds ++ es)) (l ∷ ls) (suc (n + m)) = (are.0, behind) in
    subst (λ k. AreDue (d ∷ (ds ++ es)) (l ∷ ls) k) e all

bad_append : (ds es : List Due) (ls : List Line) (n m : ℕ) → AreDue ds ls n → IsFirstBad es (drop n ls) m → IsFirstBad (ds ++ es) ls (n + m)
bad_append [] es ls zero m are bad = subst (λ k. IsFirstBad es ls k) (sym (zero-add m)) bad
bad_append [] es ls (suc n) m are bad = absurd are
bad_append (d ∷ ds) es [] n m are bad = absurd are
bad_append (d ∷ ds) es (l ∷ ls) zero m are bad = absurd are
bad_append (d ∷ ds) es (l ∷ ls) (suc n) m are bad =
    let e : suc (n + m) ≡ suc n + m = omega arith in
    let behind = subst (λ fs. IsFirstBad fs ls (n + m)) (append_assoc (left_of d l) ds es) (bad_append (left_of d l ++ ds) es ls n m are.1 bad) in
    let all : IsFirstBad (d ∷ (ds ++ es)) (l ∷ ls) (suc (n + m)) = (are.0, behind) in
    subst (λ k. IsFirstBad (d ∷ (ds ++ es)) (l ∷ ls) k) e all

bad_front : (ds es : List Due) (ls : List Line) (n : ℕ) → IsFirstBad ds ls n → IsFirstBad (ds ++ es) ls n
bad_front [] es ls n bad = absurd bad
bad_front (d ∷ ds) es [] zero bad = tt
bad_front (d ∷ ds) es [] (suc n) bad = absurd bad
bad_front (d ∷ ds) es (l ∷ ls) zero bad = bad
bad_front (d ∷ ds) es (l ∷ ls) (suc n) bad = (bad.0, subst (λ fs. IsFirstBad fs ls n) (append_assoc (left_of d l) ds es) (bad_front (left_of d l ++ ds) es ls n bad.1))

-- no more lines are due than there are
due_few : (ds : List Due) (ls : List Line) (n : ℕ) → AreDue ds ls n → n ≤ length ls
due_few [] ls zero are = omega arith
due_few [] ls (suc n) are = absurd are
due_few (d ∷ ds) [] n are = absurd are
due_few (d ∷ ds) (l ∷ ls) zero are = omega arith
due_few (d ∷ ds) (l ∷ ls) (suc n) are = omega (arith, due_few (left_of d l ++ ds) ls n are.1)

-- behind the first line stand the others
pub record IsBehind (front xs l : List ℕ) (ls : List (List ℕ)) : Type 0 where
  pub longer : length front ≤ length l
  pub others : ls ≡ whole_lines (drop (length l - length front + 1) xs)

line_behind : (front xs l : List ℕ) (ls : List (List ℕ)) → whole_lines_behind front xs ≡ l ∷ ls → IsBehind front xs l ls
line_behind front [] l ls e = absurd (let f : ◌≡◌ {A = List (List ℕ)} [] (l ∷ ls) = e in cc)
line_behind front (b ∷ bs) l ls e =
    ⊎_elim
    (λ t.
    let f : ◌≡◌ {A = List (List ℕ)} (front ∷ whole_lines bs) (l ∷ ls) = sym (cond-true (eqb b 10) _ _ t) ∙ e in
    let head : front ≡ l = cc in
    let tail : whole_lines bs ≡ ls = cc in
    let n : 1 ≡ length l - length front + 1 = omega (arith, ap length head) in
    let result : IsBehind front (b ∷ bs) l ls = record {
      longer = omega (arith, ap length head);
      others = sym tail ∙ ap (λ k. whole_lines (drop k (b ∷ bs))) n;
    } in
    result)
    (λ t.
    let h = line_behind (front ++ b ∷ []) bs l ls (sym (cond-false (eqb b 10) _ _ t) ∙ e) in
    let longer : length (front ++ b ∷ []) ≤ length l = h.longer in
    let size = length-append front (b ∷ []) in
    let n : suc (length l - length (front ++ b ∷ []) + 1) ≡ length l - length front + 1 = omega arith in
    let result : IsBehind front (b ∷ bs) l ls = record {
      longer = omega arith;
      others = h.others ∙ ap (λ k. whole_lines (drop k (b ∷ bs))) n;
    } in
    result)
    (cases_Bool (eqb b 10))

-- behind so many lines stand the others
lines_left : (n : ℕ) (xs : List ℕ) (ls : List (List ℕ)) → whole_lines xs ≡ ls → n ≤ length ls → whole_lines (drop (size_of_lines (take n ls)) xs) ≡ drop n ls
lines_left zero xs ls e few = e
lines_left (suc n) xs [] e few = absurd (omega arith)
lines_left (suc n) xs (l ∷ ls) e few =
    let h = line_behind [] xs l ls e in
    let k : length l + 1 + size_of_lines (take n ls) ≡ (length l - 0 + 1) + size_of_lines (take n ls) = omega arith in
    ap (λ k. whole_lines (drop k xs)) k
    ∙ ap whole_lines (sym (drop-drop (size_of_lines (take n ls)) (length l - 0 + 1) xs))
    ∙ lines_left n (drop (length l - 0 + 1) xs) ls (sym h.others) (omega arith)

take_nil : (k : ℕ) → take {A = List ℕ} k [] ≡ []
take_nil zero = refl
take_nil (suc k) = refl

size-take : (n m : ℕ) (ls : List (List ℕ)) → size_of_lines (take (n + m) ls) ≡ size_of_lines (take n ls) + size_of_lines (take m (drop n ls))
size-take zero m ls = ap (λ k. size_of_lines (take k ls)) (zero-add m) ∙ sym (zero-add (size_of_lines (take m ls)))
size-take (suc n) m [] = ap size_of_lines (take_nil (suc n + m)) ∙ sym (ap (λ xs. 0 + size_of_lines xs) (take_nil m))
size-take (suc n) m (l ∷ ls) =
    let e : suc n + m ≡ suc (n + m) = omega arith in
    ap (λ k. size_of_lines (take k (l ∷ ls))) e ∙ (omega (arith, size-take n m ls))

map-drop : (n : ℕ) (ls : List (List ℕ)) → map line_of (drop n ls) ≡ drop n (map line_of ls)
map-drop zero ls = refl
map-drop (suc n) [] = refl
map-drop (suc n) (l ∷ ls) = map-drop n ls

module _ (text : List ℕ) (from to : Spot) (n : ℕ) where
  -- the lines at the spot behind some lines
  left_at : n ≤ length (lines_at text from.at) → Spans text from n to → whole_lines (drop to.at text) ≡ drop n (whole_lines (drop from.at text))
  left_at few h =
      let ls = whole_lines (drop from.at text) in
      ap (λ k. whole_lines (drop k text)) h.at
      ∙ ap whole_lines (sym (drop-drop (size_of_lines (take n ls)) from.at text))
      ∙ lines_left n (drop from.at text) ls refl (omega (arith, length-map ls line_of))

pub parts_follow : PartsFollow
parts_follow text from mid ds es = record {
  passes = λ first to more.
      let left = left_at text from mid first.count (due_few ds (lines_at text from.at) first.count first.met) first.spans in
      let lines : lines_at text mid.at ≡ drop first.count (lines_at text from.at) = ap (map line_of) left ∙ map-drop first.count (whole_lines (drop from.at text)) in
      record {
        count = first.count + more.count;
        met = due_append ds es (lines_at text from.at) first.count more.count first.met (subst (λ ls. AreDue es ls more.count) lines more.met);
        spans =
            let ls = whole_lines (drop from.at text) in
            let at_mid : mid.at ≡ from.at + size_of_lines (take first.count ls) = first.spans.at in
            let at_to : to.at ≡ mid.at + size_of_lines (take more.count (drop first.count ls)) = more.spans.at ∙ ap (λ xs. mid.at + size_of_lines (take more.count xs)) left in
            let at_line : mid.line ≡ from.line + first.count = first.spans.line in
            let to_line : to.line ≡ mid.line + more.count = more.spans.line in
            let result : Spans text from (first.count + more.count) to = record { at = omega (arith, size-take first.count more.count ls); line = omega arith } in
            result;
      };
  bad = λ first line more.
      let left = left_at text from mid first.count (due_few ds (lines_at text from.at) first.count first.met) first.spans in
      let lines : lines_at text mid.at ≡ drop first.count (lines_at text from.at) = ap (map line_of) left ∙ map-drop first.count (whole_lines (drop from.at text)) in
      let at_line : mid.line ≡ from.line + first.count = first.spans.line in
      let is_line : line ≡ mid.line + more.count = more.is in
      record {
        count = first.count + more.count;
        bad = bad_append ds es (lines_at text from.at) first.count more.count first.met (subst (λ ls. IsFirstBad es ls more.count) lines more.bad);
        is = omega arith;
      };
  bad_first = λ line h. record {
    count = h.count;
    bad = bad_front ds es (lines_at text from.at) h.count h.bad;
    is = h.is;
  };
}
