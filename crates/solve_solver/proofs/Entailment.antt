-- What holds in each assignment that agrees with a trail: conflicts, units and flipped decisions.
use Rattle.std.proofs.Common.{◌≡◌, ◌⊎◌, ℕ, Bool, true, false, not, cond, List, [], ◌∷◌, Option, Some, None, inl, inr, refl, sym, ap, ◌∙◌}
use Rattle.std.specs.Bool.{OnTrue, OnFalse, IsTrue}
use Rattle.std.specs.List.{All}
use Rattle.std.specs.Option.{option_map}
use Rattle.std.proofs.lemmas.Bool.{cases_eq, cases_Bool, both_ways}
use Rattle.std.proofs.lemmas.List.Elements.{All-weaker}
use Rattle.std.proofs.lemmas.List.Folds.{list_any_none}
use Rattle.solve_solver.specs.declared.literal.PLit.{PLit}
use Rattle.solve_solver.specs.declared.trail.Entry.{Entry}
use Rattle.solve_solver.specs.Assignment.{value_at, signed, negated, literal_value, meets_clause}
use Rattle.solve_solver.specs.Trail.{value_in, literal_in, Agrees, Forces, IsRefuted, Follows}
use Rattle.solve_solver.specs.Units.{IsFalseIn, IsUnit}
use Rattle.solve_solver.proofs.Trails.{value_in-here, value_in-other}

signed-true : (plus value : Bool) → cond plus value (not value) ≡ true → value ≡ plus
signed-true true value h = h
signed-true false true h = cc
signed-true false false h = refl

-- a literal is true where its variable has its sign
pub true_from_value : (a : List Bool) (l : PLit) → value_at a l.var ≡ l.plus → literal_value a l ≡ true
true_from_value a l h = ap (signed l) h ∙ signed_self l.plus
  where
    signed_self : (plus : Bool) → cond plus plus (not plus) ≡ true
    signed_self true = refl
    signed_self false = refl

pub value_from_true : (a : List Bool) (l : PLit) → literal_value a l ≡ true → value_at a l.var ≡ l.plus
value_from_true a l h = signed-true l.plus (value_at a l.var) h

signed-not : (plus value : Bool) → cond (not plus) value (not value) ≡ not (cond plus value (not value))
signed-not true value = refl
signed-not false true = refl
signed-not false false = refl

pub literal_value-negated : (a : List Bool) (l : PLit) → literal_value a (negated l) ≡ not (literal_value a l)
literal_value-negated a l = signed-not l.plus (value_at a l.var)

pub same_some : {A : Type 0} (x y : A) → Some x ≡ Some y → x ≡ y
same_some x y h = cc

pub option_map-Some : {A B : Type 0} (f : A → B) (o : Option A) (y : B) → option_map f o ≡ Some y → (x : A) × ((o ≡ Some x) × (f x ≡ y))
option_map-Some f None y h = cc
option_map-Some f (Some x) y h = (x, (refl, cc))

-- what the trail says of a variable and of a literal
pub Agrees-value : (a : List Bool) (es : List Entry) (v : ℕ) (b : Bool) → Agrees a es → value_in es v ≡ Some b → value_at a v ≡ b
Agrees-value a [] v b h e = cc
Agrees-value a (x ∷ es) v b h e = elim (cases_eq x.literal.var v) [
  | inl q ↦ ap (value_at a) (sym q) ∙ value_from_true a x.literal h.0 ∙ same_some _ _ (sym (value_in-here x es v q) ∙ e)
  | inr q ↦ Agrees-value a es v b h.1 (sym (value_in-other x es v q) ∙ e)
]

pub Agrees-literal : (a : List Bool) (es : List Entry) (l : PLit) (b : Bool) → Agrees a es → literal_in es l ≡ Some b → literal_value a l ≡ b
Agrees-literal a es l b h e =
    let parts = option_map-Some (signed l) (value_in es l.var) b e in
    ap (signed l) (Agrees-value a es l.var parts.0 h parts.1.0) ∙ parts.1.1

-- a clause whose literals are all false is not met
pub conflict_not_met : (a : List Bool) (es : List Entry) (clause : List PLit) → Agrees a es → All (IsFalseIn es) clause → ¬ IsTrue (meets_clause a clause)
conflict_not_met a es clause h f met =
    both_ways (meets_clause a clause)
    (list_any_none (literal_value a) clause (All-weaker (IsFalseIn es) (λ l. literal_value a l ≡ false) (λ l e. Agrees-literal a es l false h e) clause f)) met

-- a unit's literal is true where its clause is met
pub unit_is_true : (a : List Bool) (es : List Entry) (clause : List PLit) (l : PLit) → Agrees a es → IsUnit es clause l → IsTrue (meets_clause a clause) → IsTrue (literal_value a l)
unit_is_true a es clause l h u met = elim (cases_Bool (literal_value a l)) [
  | inl t ↦ t
  | inr f ↦ absurd (both_ways (meets_clause a clause)
      (list_any_none (literal_value a) clause
      (All-weaker (λ x. IsFalseIn es x ⊎ (x ≡ l)) (λ x. literal_value a x ≡ false)
      (λ x e. is_false x e f) clause u.others)) met)
]
  where
    is_false : (x : PLit) → IsFalseIn es x ⊎ (x ≡ l) → literal_value a l ≡ false → literal_value a x ≡ false
    is_false x (inl e) f = Agrees-literal a es x false h e
    is_false x (inr e) f = ap (literal_value a) e ∙ f

pub OnTrue-weaker : (b : Bool) {P Q : Type 0} → (P → Q) → OnTrue b P → OnTrue b Q
OnTrue-weaker true f h = f h
OnTrue-weaker false f h = tt

OnFalse-weaker : (b : Bool) {P Q : Type 0} → (P → Q) → OnFalse b P → OnFalse b Q
OnFalse-weaker true f h = tt
OnFalse-weaker false f h = f h

module _ (Lawful : List Bool → Type 0) where
  -- where a decision is refuted, its opposite is forced
  pub flip_forced : (es : List Entry) (e : Entry) → IsRefuted Lawful (e ∷ es) → Forces Lawful es (negated e.literal)
  flip_forced es e h a lawful agrees = elim (cases_Bool (literal_value a e.literal)) [
    | inl t ↦ absurd (h a lawful (t, agrees))
    | inr f ↦ literal_value-negated a e.literal ∙ ap not f
  ]

  -- where what follows is refuted, so is what it follows from
  pub refuted_below : (es : List Entry) (e : Entry) → IsRefuted Lawful (e ∷ es) → Forces Lawful es e.literal → IsRefuted Lawful es
  refuted_below es e h forced a lawful agrees = h a lawful (forced a lawful agrees, agrees)

  -- a literal and its opposite are not both forced
  pub refuted_both : (es : List Entry) (l : PLit) → Forces Lawful es l → Forces Lawful es (negated l) → IsRefuted Lawful es
  refuted_both es l here there a lawful agrees =
      both_ways (literal_value a (negated l)) (literal_value-negated a l ∙ ap not (here a lawful agrees)) (there a lawful agrees)

  -- with fewer lawful assignments as much follows
  pub Follows-fewer : (Fewer : List Bool → Type 0) → ((a : List Bool) → Fewer a → Lawful a) → (es : List Entry) → Follows Lawful es → Follows Fewer es
  Follows-fewer Fewer among [] h = tt
  Follows-fewer Fewer among (e ∷ es) h = (OnFalse-weaker e.decided (λ forced a few agrees. forced a (among a few) agrees) h.0, Follows-fewer Fewer among es h.1)
