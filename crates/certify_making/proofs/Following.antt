-- Lines that follow one another, and the tree that they are.
use Rattle.std.proofs.Common.{◌≡◌, ℕ, Bool, suc, ◌<◌, List, [], ◌∷◌, ◌++◌, length, refl, sym, ◌∙◌, ap, subst, arith, append_assoc, append-nil, All}
use Rattle.std.proofs.lemmas.List.Elements.{All-push}
use Rattle.certify_clauses.specs.Problem.{Columns, Problem, Said}
use Rattle.certify_clauses.specs.declared.literal.Literal.{Literal}
use Rattle.certify_recheck.specs.Due.{AreDue, Due, IsNext, left_of, lines_of, part, tree}
use Rattle.certify_recheck.specs.Walking.{IsReady}
use Rattle.certify_recheck.specs.declared.line.Line.{Line}
use Rattle.certify_recheck.specs.declared.line.Line.TheVariants.{Duty}
use Rattle.certify_recheck.proofs.Growing.{parts}
use Rattle.certify_making.specs.Following.{Follow, IsBegun}
use Rattle.certify_making.specs.Texts.{IsPartText, IsSmall, bytes_of, text_of}

-- one line more
follow_push : (ds : List Due) (ls : List Line) (e : Due) (es : List Due) (l : Line) → Follow ds ls (e ∷ es) → IsNext e l → Follow ds (ls ++ l ∷ []) (left_of e l ++ es)
follow_push [] [] e es l h next = cc
follow_push (d ∷ ds) [] e es l h next =
    let same : d ≡ e = cc in
    let rest : ds ≡ es = cc in
    (subst (λ (x : Due). IsNext x l) (sym same) next, ap (λ (x : Due). left_of x l ++ ds) same ∙ ap (λ xs. left_of e l ++ xs) rest)
follow_push [] (k ∷ ls) e es l h next = absurd h
follow_push (d ∷ ds) (k ∷ ls) e es l h next = (h.0, follow_push (left_of d k ++ ds) ls e es l h.1 next)

text_push : (ls : List Line) (l : Line) → text_of (ls ++ l ∷ []) ≡ text_of ls ++ (bytes_of l ++ 10 ∷ [])
text_push [] l = refl
text_push (k ∷ ls) l = ap (λ t. bytes_of k ++ 10 ∷ t) (text_push ls l) ∙ sym (append_assoc (bytes_of k) (10 ∷ text_of ls) (bytes_of l ++ 10 ∷ []))

module _ (c : Problem) (duty : ℕ) where
  pub begun_more : (text new : List ℕ) (e : Due) (es : List Due) (l : Line) → IsBegun c duty text (e ∷ es) → IsNext e l → IsSmall l → new ≡ text ++ (bytes_of l ++ 10 ∷ [])
      → IsBegun c duty new (left_of e l ++ es)
  begun_more text new e es l h next small is = record {
    lines = h.lines ++ l ∷ [];
    is = is ∙ (ap (λ t. t ++ (bytes_of l ++ 10 ∷ [])) h.is ∙ sym (text_push h.lines l));
    small = All-push IsSmall h.lines l h.small small;
    follow = follow_push (part c duty ∷ []) h.lines e es l h.follow next;
  }

  -- the line of the obligation
  pub begun : (text : List ℕ) → duty < 2000000000 → text ≡ bytes_of (Duty duty) ++ 10 ∷ [] → IsBegun c duty text (tree c [] ∷ [])
  begun text small is = record {
    lines = Duty duty ∷ [];
    is = is;
    small = All-push IsSmall [] (Duty duty) (All-none IsSmall) small;
    follow = (refl, refl);
  }
    where
      All-none : (P : Line → Type 0) → All P []
      All-none P k d within = absurd (omega arith)

-- lines behind which nothing is due are just what was due
due_by : (ds : List Due) (ls : List Line) → Follow ds ls [] → AreDue ds ls (length ls)
due_by [] [] h = tt
due_by (d ∷ ds) [] h = cc
due_by [] (l ∷ ls) h = absurd h
due_by (d ∷ ds) (l ∷ ls) h = (h.0, due_by (left_of d l ++ ds) ls h.1)

-- those of a part are of a lawful tree
pub ended : (c : Problem) (duty : ℕ) (text : List ℕ) → IsBegun c duty text [] → IsPartText c duty text
ended c duty text h =
    let own = (parts c duty h.lines (length h.lines)).0 (due_by (part c duty ∷ []) h.lines h.follow) in
    let front : List Line = lines_of own.tree in
    let sizes : length h.lines ≡ suc (length (front ++ own.rest)) = ap length own.lines_are in
    let none : own.rest ≡ [] = empty front own.rest (omega (arith, sizes, own.count)) in
    let same : h.lines ≡ Duty duty ∷ front = own.lines_are ∙ (ap (λ r. Duty duty ∷ (front ++ r)) none ∙ ap (λ r. Duty duty ∷ r) (append-nil front)) in
    record {
      tree = own.tree;
      lawful = own.lawful;
      small = subst (λ (ls : List Line). All IsSmall ls) same h.small;
      is = h.is ∙ ap text_of same;
    }
  where
    empty : (xs ys : List Line) → length (xs ++ ys) ≡ length xs → ys ≡ []
    empty [] [] e = refl
    empty [] (y ∷ ys) e = absurd (omega arith)
    empty (x ∷ xs) ys e = empty xs ys (omega arith)

-- what was told at the root
pub ready_at : (c : Problem) (path : List Literal) (told : ℕ) (literals : List Said) (capacity : ℕ) (takes : Said → Bool) (models : Columns → Bool) (meets : Columns → Said → Bool) → path ≡ []
    → IsReady c [] told literals capacity takes models meets → IsReady c path told literals capacity takes models meets
ready_at c path told literals capacity takes models meets none h = subst (λ (ls : List Literal). IsReady c ls told literals capacity takes models meets) (sym none) h
