-- What the first literals of a clause say under a trail, and what one more adds.
use Rattle.std.proofs.Common.{◌≡◌, ◌⊎◌, ℕ, ◌+◌, ◌<◌, true, List, [], ◌∷◌, ◌++◌, length, get_or, take, Option, Some, None, MatchOption, inl, inr, refl, sym, ap, ◌∙◌, arith}
use Rattle.std.specs.List.{All, Contains}
use Rattle.std.specs.Option.{option_map}
use Rattle.std.proofs.lemmas.List.{take_more, get_or-take, get_or_default, length-take}
use Rattle.std.proofs.lemmas.List.Elements.{All-contains, All-push, All-weaker, Contains-append_left, Contains-push}
use Rattle.solve_solver.specs.declared.literal.PLit.{PLit}
use Rattle.solve_solver.specs.declared.trail.Entry.{Entry}
use Rattle.solve_solver.specs.Assignment.{signed}
use Rattle.solve_solver.specs.Trail.{value_in, literal_in}
use Rattle.solve_solver.specs.Units.{IsFalseIn, IsUnit, IsOpen}

-- the literals are false but for one that is not set, if any
abbrev pub IsPassed : List Entry → List PLit → Option PLit → Type 0
IsPassed es passed unset = MatchOption unset (All (IsFalseIn es) passed) (IsUnit es passed)

IsPassed-false : (es : List Entry) (passed : List PLit) (x : PLit) (unset : Option PLit) → IsPassed es passed unset → IsFalseIn es x → IsPassed es (passed ++ x ∷ []) unset
IsPassed-false es passed x None h f = All-push (IsFalseIn es) passed x h f
IsPassed-false es passed x (Some l) h f = record {
  unset = h.unset;
  there = Contains-append_left passed (x ∷ []) l h.there;
  others = All-push (λ y. IsFalseIn es y ⊎ (y ≡ l)) passed x h.others (inl f);
}

IsPassed-unset : (es : List Entry) (passed : List PLit) (x : PLit) → All (IsFalseIn es) passed → value_in es x.var ≡ None → IsPassed es (passed ++ x ∷ []) (Some x)
IsPassed-unset es passed x h n = record {
  unset = n;
  there = Contains-push passed x;
  others = All-push (λ y. IsFalseIn es y ⊎ (y ≡ x)) passed x (All-weaker (IsFalseIn es) (λ y. IsFalseIn es y ⊎ (y ≡ x)) (λ y f. inl f) passed h) (inr refl);
}

-- a step of a loop over the clause
pub IsPassed-more_false : (es : List Entry) (clause : List PLit) (i : ℕ) (d : PLit) (unset : Option PLit) → i < length clause → IsPassed es (take i clause) unset → IsFalseIn es (get_or clause i d) → IsPassed es (take (i + 1) clause) unset
IsPassed-more_false es clause i d unset h p f = rw (take_more clause i d h) (IsPassed-false es (take i clause) (get_or clause i d) unset p f)

pub IsPassed-more_unset : (es : List Entry) (clause : List PLit) (i : ℕ) (d : PLit) → i < length clause → All (IsFalseIn es) (take i clause) → value_in es (get_or clause i d).var ≡ None → IsPassed es (take (i + 1) clause) (Some (get_or clause i d))
IsPassed-more_unset es clause i d h p n = rw (take_more clause i d h) (IsPassed-unset es (take i clause) (get_or clause i d) p n)

pub IsPassed-more_same : (es : List Entry) (clause : List PLit) (i : ℕ) (d l : PLit) → i < length clause → IsUnit es (take i clause) l → l ≡ get_or clause i d → IsPassed es (take (i + 1) clause) (Some l)
IsPassed-more_same es clause i d l h u e = rw (take_more clause i d h) (record {
  unset = u.unset;
  there = Contains-append_left (take i clause) (get_or clause i d ∷ []) l u.there;
  others = All-push (λ y. IsFalseIn es y ⊎ (y ≡ l)) (take i clause) (get_or clause i d) u.others (inr (sym e));
})

-- a literal that has no value, or is true, is not false
unset_not_false : (es : List Entry) (x : PLit) → value_in es x.var ≡ None → ¬ IsFalseIn es x
unset_not_false es x n f = let none : literal_in es x ≡ None = ap (option_map (signed x)) n in cc

-- the literal of a unit is the only one that is not false
unit_is : (es : List Entry) (clause : List PLit) (l x : PLit) → IsUnit es clause l → Contains clause x → ¬ IsFalseIn es x → x ≡ l
unit_is es clause l x u there not_false = elim (All-contains (λ y. IsFalseIn es y ⊎ (y ≡ l)) clause x u.others there) [
  | inl f ↦ absurd (not_false f)
  | inr e ↦ e
]

place_in : (clause : List PLit) (i : ℕ) (d : PLit) → i < length clause → Contains clause (get_or clause i d)
place_in clause i d h = (i, h, get_or_default clause i (get_or clause i d) d h)

-- a clause with a true literal, or with two that differ and are not set
pub IsOpen-true : (es : List Entry) (clause : List PLit) (i : ℕ) (d : PLit) → i < length clause → literal_in es (get_or clause i d) ≡ Some true → IsOpen es clause
IsOpen-true es clause i d h t =
    let x = get_or clause i d in
    let there = place_in clause i d h in
    let here : ¬ IsFalseIn es x = λ f. cc in
    record {
      not_false = (there.0, x, there.1, there.2, here);
      no_unit = λ l u.
          let e : x ≡ l = unit_is es clause l x u there here in
          let none : literal_in es l ≡ None = ap (option_map (signed l)) u.unset in
          let same : literal_in es x ≡ literal_in es l = ap (literal_in es) e in
          cc;
    }

pub IsOpen-two : (es : List Entry) (clause : List PLit) (i : ℕ) (d other : PLit) → i < length clause → IsUnit es (take i clause) other → ¬ (other ≡ get_or clause i d) → value_in es (get_or clause i d).var ≡ None → IsOpen es clause
IsOpen-two es clause i d other h u differ n =
    let x = get_or clause i d in
    let there = place_in clause i d h in
    let here = unset_not_false es x n in
    let other_there : Contains clause other = contains_front u.there in
    record {
      not_false = (there.0, x, there.1, there.2, here);
      no_unit = λ l v.
          let e : x ≡ l = unit_is es clause l x v there here in
          let f : other ≡ l = unit_is es clause l other v other_there (unset_not_false es other u.unset) in
          differ (f ∙ sym e);
    }
  where
    contains_front : Contains (take i clause) other → Contains clause other
    contains_front (k, l, is) = (k, omega (arith, length-take i clause, l), sym (get_or-take i clause k other (omega (arith, length-take i clause, l))) ∙ is)
