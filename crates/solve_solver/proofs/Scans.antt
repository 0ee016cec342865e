-- What a scan of clauses that goes round meets.
use Rattle.std.proofs.Common.{◌≡◌, ℕ, List, length, inl, inr, refl, arith}
use Rattle.std.proofs.lemmas.Bool.{cases_lt}
use Rattle.solve_solver.specs.declared.literal.PLit.{PLit}
use Rattle.solve_solver.specs.declared.trail.Entry.{Entry}
use Rattle.solve_solver.specs.declared.units.ClauseState.{ClauseState}
use Rattle.solve_solver.specs.declared.units.ClauseState.TheVariants.{Open, Conflict, UnitLiteral}
use Rattle.solve_solver.specs.Units.{IsFoundIn, IsFoundWithin}

-- from a place to the end, and then up to this place
pub found_round : (es : List Entry) (clauses : List (List PLit)) (middle : ℕ) (first second : ClauseState) (first_place second_place : ℕ) → first ≡ Open → IsFoundWithin es clauses middle (length clauses) first first_place → IsFoundWithin es clauses 0 middle second second_place → IsFoundIn es clauses second second_place
found_round es clauses middle first Conflict first_place second_place no_first h k = k
found_round es clauses middle first (UnitLiteral l) first_place second_place no_first h k = k
found_round es clauses middle first Open first_place second_place no_first h k =
    let behind : IsFoundWithin es clauses middle (length clauses) Open first_place = rw no_first at h in
    λ n d l. elim (cases_lt n middle) [
      | inl before ↦ k n d (omega arith) before
      | inr after ↦ behind n d after l
    ]

-- up to the end alone
pub found_behind : (es : List Entry) (clauses : List (List PLit)) (start end : ℕ) (state : ClauseState) (place : ℕ) → (state ≡ Open → ⊥) → IsFoundWithin es clauses start end state place → IsFoundIn es clauses state place
found_behind es clauses start end Conflict place closed h = h
found_behind es clauses start end (UnitLiteral l) place closed h = h
found_behind es clauses start end Open place closed h = absurd (closed refl)
