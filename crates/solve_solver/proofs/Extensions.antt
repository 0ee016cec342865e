-- Literals that follow from the clauses alone.
use Rattle.std.proofs.Common.{◌≡◌, ◌≢◌, ◌⊎◌, ℕ, Bool, true, false, List, ◌∷◌, get_or, Option, Some, None, IsTrue, ◌<◌, inl, inr, refl, sym, ap, ◌∙◌}
use Rattle.std.specs.List.{All, slice_get}
use Rattle.std.proofs.lemmas.Bool.{both_ways, cases_eq, cases_Bool}
use Rattle.std.proofs.lemmas.List.Elements.{All-contains}
use Rattle.std.proofs.lemmas.List.Folds.{list_any_none}
use Rattle.solve_solver.specs.declared.literal.PLit.{PLit}
use Rattle.solve_solver.specs.declared.trail.Entry.{Entry}
use Rattle.solve_solver.specs.declared.units.ClauseState.{ClauseState}
use Rattle.solve_solver.specs.declared.units.ClauseState.TheVariants.{Open, Conflict, UnitLiteral}
use Rattle.solve_solver.specs.Assignment.{literal_value, meets_clause, signed, value_at}
use Rattle.solve_solver.specs.Assumed.{AgreesBelow, IsExtended}
use Rattle.solve_solver.specs.Clauses.{IsWithin}
use Rattle.solve_solver.specs.Trail.{value_in}
use Rattle.solve_solver.specs.Units.{IsAt, IsFalseIn, IsFoundIn, IsUnit}
use Rattle.solve_solver.specs.Watches.{IsMet}
use Rattle.solve_solver.proofs.Entailment.{option_map-Some, same_some, value_from_true}
use Rattle.solve_solver.proofs.Shown.{All-at}
use Rattle.solve_solver.proofs.Trails.{value_in-here, value_in-other}

pub IsExtended-refl : (vars : ℕ) (clauses : List (List PLit)) (es : List Entry) → IsExtended vars clauses es es
IsExtended-refl vars clauses es = record { follow = λ a meets agrees. agrees; stay = λ v b h. h }

-- a unit's literal is true where its clause is met
unit_below : (vars : ℕ) (a : List Bool) (es : List Entry) (clause : List PLit) (l : PLit) → AgreesBelow vars a es → IsWithin vars clause → IsUnit es clause l → IsTrue (meets_clause a clause) → literal_value a l ≡ true
unit_below vars a es clause l h within u met = elim (cases_Bool (literal_value a l)) [
  | inl t ↦ t
  | inr f ↦ absurd (both_ways (meets_clause a clause)
      (list_any_none (literal_value a) clause (λ k d lt. is_false (get_or clause k d) (within k d lt) (u.others k d lt) f)) met)
]
  where
    is_false : (x : PLit) → x.var < vars → IsFalseIn es x ⊎ (x ≡ l) → literal_value a l ≡ false → literal_value a x ≡ false
    is_false x lt (inl e) f =
        let parts = option_map-Some (signed x) (value_in es x.var) false e in
        ap (signed x) (h x.var parts.0 lt parts.1.0) ∙ parts.1.1
    is_false x lt (inr e) f = ap (literal_value a) e ∙ f

-- a unit among the clauses is set
pub IsExtended-unit : (vars : ℕ) (clauses : List (List PLit)) (old es : List Entry) (place : ℕ) (l : PLit) → IsExtended vars clauses old es → All (IsWithin vars) clauses → IsAt es clauses place (UnitLiteral l) → IsExtended vars clauses old (record { literal = l; decided = false } ∷ es)
IsExtended-unit vars clauses old es place l h within unit =
    let e : Entry = record { literal = l; decided = false } in
    record {
      follow = λ a meets agrees v b lt is.
          let before : AgreesBelow vars a es = h.follow a meets agrees in
          let clause_within : IsWithin vars unit.clause = All-at (IsWithin vars) clauses place unit.clause within unit.here in
          let true_there : literal_value a l ≡ true = unit_below vars a es unit.clause l before clause_within unit.is (All-at (λ c. IsTrue (meets_clause a c)) clauses place unit.clause meets unit.here) in
          elim (cases_eq l.var v) [
            | inl q ↦ ap (value_at a) (sym q) ∙ value_from_true a l true_there ∙ same_some l.plus b (sym (value_in-here e es v q) ∙ is)
            | inr q ↦ before v b lt (sym (value_in-other e es v q) ∙ is)
          ];
      stay = λ v b was.
          let there : value_in es v ≡ Some b = h.stay v b was in
          elim (cases_eq l.var v) [
            | inl q ↦ let fresh : value_in es v ≡ None = ap (value_in es) (sym q) ∙ unit.is.unset in cc
            | inr q ↦ value_in-other e es v q ∙ there
          ];
    }

-- the clause of a place is in a state
pub met_at : (es : List Entry) (given : List (List PLit)) (place : ℕ) (state : ClauseState) → state ≢ Open → IsMet es (slice_get given place) state → IsFoundIn es given state place
met_at es given place state closed h = go (slice_get given place) refl state closed h
  where
    go : (o : Option (List PLit)) → slice_get given place ≡ o → (state : ClauseState) → state ≢ Open → IsMet es o state → IsFoundIn es given state place
    go None is Conflict closed h = absurd h
    go None is (UnitLiteral l) closed h = absurd h
    go None is Open closed h = absurd (closed refl)
    go (Some clause) is Conflict closed h = record { clause = clause; here = is; is = h }
    go (Some clause) is (UnitLiteral l) closed h = record { clause = clause; here = is; is = h }
    go (Some clause) is Open closed h = absurd (closed refl)

-- the literal of a unit is below a number
pub unit_within : (vars : ℕ) (es : List Entry) (clauses : List (List PLit)) (place : ℕ) (l : PLit) → All (IsWithin vars) clauses → IsAt es clauses place (UnitLiteral l) → l.var < vars
unit_within vars es clauses place l within unit =
    All-contains (λ (x : PLit). x.var < vars) unit.clause l (All-at (IsWithin vars) clauses place unit.clause within unit.here) unit.is.there
