-- Clauses and atoms as lists.
use Rattle.std.specs.Prelude.{ℕ, Bool, ◌&&◌, true, Some, Vec, IsTrue, List, Option, None, length, slice_get}
use Rattle.std.specs.List.{list_all}
use Rattle.std.specs.Option.{option_map, option_flatten}
use Rattle.solve_equality.specs.Equality.{takes_literal}
use Rattle.solve_order.specs.Difference.{is_literal}
use Rattle.solve_theory.specs.Pair.{takes_own}
use Rattle.certify_clauses.specs.declared.literal.Literal.{Literal}
use Rattle.certify_clauses.specs.Problem.{Problem, Said}

-- what both say is of terms and numbers that there are
abbrev pub are_taken : ℕ → ℕ → Said × Said → Bool
are_taken terms numbers pair =
    takes_own (takes_literal terms) (is_literal numbers) pair.0 && takes_own (takes_literal terms) (is_literal numbers) pair.1

abbrev pub is_taken : ℕ → ℕ → Option (Said × Said) → Bool
is_taken terms numbers None = true
is_taken terms numbers (Some pair) = are_taken terms numbers pair

abbrev pub AreTaken : ℕ → ℕ → List (Option (Said × Said)) → Type 0
AreTaken terms numbers atoms = IsTrue (list_all (is_taken terms numbers) atoms)

-- the clause of a number is the one at that place, and the atom of a variable likewise
abbrev pub problem_of : {A : Type 0} → List (Vec Literal A) → List (Option (Said × Said)) → ℕ → List ℕ → ℕ → Problem
problem_of clauses atoms terms fixed numbers = record {
  vars = length atoms;
  clause = λ n. option_map (λ c. c.items) (slice_get clauses n);
  atom = λ v. option_flatten (slice_get atoms v);
  terms = terms;
  fixed = fixed;
  numbers = numbers;
}
