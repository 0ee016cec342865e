-- What follows from the marked part of a trail, as literals are marked and taken back.
use Rattle.std.proofs.Common.{◌≡◌, ◌⊎◌, ℕ, ◌<◌, Bool, true, false, not, List, [], ◌∷◌, Option, Some, None, IsTrue, inl, inr, refl, sym, ap, ◌∙◌, replicate}
use Rattle.std.proofs.lemmas.Bool.{cases_eq, cases_Bool, both_ways}
use Rattle.std.proofs.lemmas.List.{get_or-replicate}
use Rattle.std.proofs.lemmas.List.Elements.{All-weaker}
use Rattle.std.proofs.lemmas.List.Folds.{list_any_none}
use Rattle.solve_solver.specs.declared.literal.PLit.{PLit}
use Rattle.solve_solver.specs.declared.trail.Entry.{Entry}
use Rattle.solve_solver.specs.Assignment.{value_at, signed, negated, literal_value, meets_clause}
use Rattle.solve_solver.specs.Marks.{AgreesMarked, ForcesMarked, IsRefutedMarked, IsBacked, IsBackedMarked, HasMarks, IsEntailed, IsMarkedBut}
use Rattle.solve_solver.specs.Trail.{value_in, Agrees, Forces, IsTrail}
use Rattle.solve_solver.specs.Units.{IsFalseIn}
use Rattle.solve_solver.proofs.Entailment.{true_from_value, value_from_true, literal_value-negated, option_map-Some, same_some, Agrees-value}
use Rattle.solve_solver.proofs.Trails.{value_in-here, value_in-other}

-- an assignment that has the whole trail has the marked part
pub AgreesMarked-from_all : (a marks : List Bool) (es : List Entry) → Agrees a es → AgreesMarked a marks es
AgreesMarked-from_all a marks es h v b e m = Agrees-value a es v b h e

pub AgreesMarked-fewer : (a more fewer : List Bool) (es : List Entry) → HasMarks more fewer → AgreesMarked a more es → AgreesMarked a fewer es
AgreesMarked-fewer a more fewer es has h v b e m = h v b e (has v m)

-- one more literal, which is true where it is marked
pub AgreesMarked-pushed : (a marks : List Bool) (e : Entry) (es : List Entry) → (IsTrue (value_at marks e.literal.var) → IsTrue (literal_value a e.literal)) → AgreesMarked a marks es → AgreesMarked a marks (e ∷ es)
AgreesMarked-pushed a marks e es here h v b is m = elim (cases_eq e.literal.var v) [
  | inl q ↦
      let marked : IsTrue (value_at marks e.literal.var) = ap (value_at marks) q ∙ m in
      let sign : e.literal.plus ≡ b = same_some e.literal.plus b (sym (value_in-here e es v q) ∙ is) in
      ap (value_at a) (sym q) ∙ value_from_true a e.literal (here marked) ∙ sign
  | inr q ↦ h v b (sym (value_in-other e es v q) ∙ is) m
]

pub AgreesMarked-unmarked : (a marks : List Bool) (e : Entry) (es : List Entry) → value_at marks e.literal.var ≡ false → AgreesMarked a marks es → AgreesMarked a marks (e ∷ es)
AgreesMarked-unmarked a marks e es unmarked h = AgreesMarked-pushed a marks e es (λ m. absurd (both_ways (value_at marks e.literal.var) unmarked m)) h

-- a literal that is false in the trail and marked is false in the assignment
marked_false : (a marks : List Bool) (es : List Entry) (x : PLit) → AgreesMarked a marks es → IsFalseIn es x → IsTrue (value_at marks x.var) → literal_value a x ≡ false
marked_false a marks es x agrees f m =
    let parts = option_map-Some (signed x) (value_in es x.var) false f in
    ap (signed x) (agrees x.var parts.0 parts.1.0 m) ∙ parts.1.1

-- an assignment that has all that is set, where all of it is marked
Agrees-from_part : (a marks : List Bool) (vars : ℕ) (whole es : List Entry) → ((v : ℕ) (b : Bool) → value_in es v ≡ Some b → value_in whole v ≡ Some b) → ((v : ℕ) → v < vars → IsTrue (value_at marks v)) → IsTrail vars es → AgreesMarked a marks whole → Agrees a es
Agrees-from_part a marks vars whole [] part all t h = tt
Agrees-from_part a marks vars whole (e ∷ es) part all t h = (
  true_from_value a e.literal (h e.literal.var e.literal.plus (part e.literal.var e.literal.plus (value_in-here e es e.literal.var refl)) (all e.literal.var t.0)),
  Agrees-from_part a marks vars whole es below all t.1.1 h,
)
  where
    below : (v : ℕ) (b : Bool) → value_in es v ≡ Some b → value_in whole v ≡ Some b
    below v b is = elim (cases_eq e.literal.var v) [
      | inl q ↦ let fresh : value_in es v ≡ None = ap (value_in es) (sym q) ∙ t.1.0 in cc
      | inr q ↦ part v b (value_in-other e es v q ∙ is)
    ]

Agrees-from_marked : (a marks : List Bool) (vars : ℕ) (es : List Entry) → marks ≡ replicate vars true → IsTrail vars es → AgreesMarked a marks es → Agrees a es
Agrees-from_marked a marks vars es all t agrees =
    Agrees-from_part a marks vars es es (λ v b e. e)
    (λ v l. ap (λ ms. value_at ms v) all ∙ get_or-replicate vars v true false l) t agrees

module _ (Lawful : List Bool → Type 0) where
  pub Forces-from_marked : (marks : List Bool) (es : List Entry) (l : PLit) → ForcesMarked Lawful marks es l → Forces Lawful es l
  Forces-from_marked marks es l h a lawful agrees = h a lawful (AgreesMarked-from_all a marks es agrees)

  pub IsBackedMarked-more : (more fewer : List Bool) (es : List Entry) (but : Option PLit) → HasMarks more fewer → IsBackedMarked Lawful fewer es but → IsBackedMarked Lawful more es but
  IsBackedMarked-more more fewer es None has h = λ a lawful agrees. h a lawful (AgreesMarked-fewer a more fewer es has agrees)
  IsBackedMarked-more more fewer es (Some l) has h = λ a lawful agrees. h a lawful (AgreesMarked-fewer a more fewer es has agrees)

  -- where all is marked, the marked part shows what the trail shows
  pub IsBackedMarked-all : (vars : ℕ) (marks : List Bool) (es : List Entry) (but : Option PLit) → marks ≡ replicate vars true → IsTrail vars es → IsBacked Lawful es but → IsBackedMarked Lawful marks es but
  IsBackedMarked-all vars marks es None all t h = λ a lawful agrees. h a lawful (Agrees-from_marked a marks vars es all t agrees)
  IsBackedMarked-all vars marks es (Some l) all t h = λ a lawful agrees. h a lawful (Agrees-from_marked a marks vars es all t agrees)

  -- a clause that is false shows a conflict
  clause_refutes : (marks : List Bool) (es : List Entry) (clause : List PLit) → IsEntailed Lawful clause → IsMarkedBut marks es None clause → IsRefutedMarked Lawful marks es
  clause_refutes marks es clause entailed marked a lawful agrees =
      both_ways (meets_clause a clause)
      (list_any_none (literal_value a) clause (All-weaker (λ x. (None ≡ Some x) ⊎ (IsFalseIn es x × IsTrue (value_at marks x.var))) (λ x. literal_value a x ≡ false) is_false clause marked))
      (entailed a lawful)
    where
      is_false : (x : PLit) → (None ≡ Some x) ⊎ (IsFalseIn es x × IsTrue (value_at marks x.var)) → literal_value a x ≡ false
      is_false x (inl e) = cc
      is_false x (inr h) = marked_false a marks es x agrees h.0 h.1

  -- one that is false but for one literal shows that this one follows
  clause_forces : (marks : List Bool) (es : List Entry) (l : PLit) (clause : List PLit) → IsEntailed Lawful clause → IsMarkedBut marks es (Some l) clause → ForcesMarked Lawful marks es l
  clause_forces marks es l clause entailed marked a lawful agrees = elim (cases_Bool (literal_value a l)) [
    | inl t ↦ t
    | inr f ↦ absurd (both_ways (meets_clause a clause)
        (list_any_none (literal_value a) clause (All-weaker (λ x. (Some l ≡ Some x) ⊎ (IsFalseIn es x × IsTrue (value_at marks x.var))) (λ x. literal_value a x ≡ false) (λ x. is_false x f) clause marked))
        (entailed a lawful))
  ]
    where
      is_false : (x : PLit) → literal_value a l ≡ false → (Some l ≡ Some x) ⊎ (IsFalseIn es x × IsTrue (value_at marks x.var)) → literal_value a x ≡ false
      is_false x f (inl e) = ap (literal_value a) (sym (same_some l x e)) ∙ f
      is_false x f (inr h) = marked_false a marks es x agrees h.0 h.1

  pub IsBackedMarked-clause : (marks : List Bool) (es : List Entry) (but : Option PLit) (clause : List PLit) → IsEntailed Lawful clause → IsMarkedBut marks es but clause → IsBackedMarked Lawful marks es but
  IsBackedMarked-clause marks es None clause entailed marked = clause_refutes marks es clause entailed marked
  IsBackedMarked-clause marks es (Some l) clause entailed marked = clause_forces marks es l clause entailed marked

  -- a literal and its opposite are not both forced
  pub refuted_both_marked : (marks : List Bool) (es : List Entry) (l : PLit) → ForcesMarked Lawful marks es l → ForcesMarked Lawful marks es (negated l) → IsRefutedMarked Lawful marks es
  refuted_both_marked marks es l here there a lawful agrees =
      both_ways (literal_value a (negated l)) (literal_value-negated a l ∙ ap not (here a lawful agrees)) (there a lawful agrees)

  -- the latest literal taken back: it is not marked, or its opposite is forced, or it follows from marked ones
  pub refuted_unmarked : (marks : List Bool) (e : Entry) (es : List Entry) → value_at marks e.literal.var ≡ false → IsRefutedMarked Lawful marks (e ∷ es) → IsRefutedMarked Lawful marks es
  refuted_unmarked marks e es unmarked h a lawful agrees = h a lawful (AgreesMarked-unmarked a marks e es unmarked agrees)

  pub refuted_forces : (marks : List Bool) (e : Entry) (es : List Entry) → IsRefutedMarked Lawful marks (e ∷ es) → ForcesMarked Lawful marks es (negated e.literal)
  refuted_forces marks e es h a lawful agrees = elim (cases_Bool (literal_value a e.literal)) [
    | inl t ↦ absurd (h a lawful (AgreesMarked-pushed a marks e es (λ m. t) agrees))
    | inr f ↦ literal_value-negated a e.literal ∙ ap not f
  ]

  pub refuted_explained : (more fewer : List Bool) (e : Entry) (es : List Entry) → HasMarks more fewer → ForcesMarked Lawful more es e.literal → IsRefutedMarked Lawful fewer (e ∷ es) → IsRefutedMarked Lawful more es
  refuted_explained more fewer e es has forced h a lawful agrees =
      h a lawful (AgreesMarked-pushed a fewer e es (λ m. forced a lawful agrees) (AgreesMarked-fewer a more fewer es has agrees))
