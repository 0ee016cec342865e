-- Clauses over variables of which some are atoms of equality or of differences, and their lawful assignments.
use Rattle.std.specs.Prelude.{ℕ, ◌<◌, ℤ, Bool, cond, not, List, Option, IfSome, IsTrue}
use Rattle.std.specs.List.{list_any, filter_map}
use Rattle.std.specs.Option.{option_map}
use Rattle.solve_theory.specs.Pair.{are_models, meets_own}
use Rattle.solve_theory.specs.declared.pair.PairLit.{PairLit}
use Rattle.solve_equality.specs.Equality.{is_classes, meets_literal}
use Rattle.solve_equality.specs.declared.literal.EqualityLit.{EqualityLit}
use Rattle.solve_order.specs.Difference.{is_assignment, meets}
use Rattle.solve_order.specs.declared.diff.Diff.{Diff}
use Rattle.certify_clauses.specs.declared.literal.Literal.{Literal}

-- an equality of terms or a bound on a difference, or the opposite of one
abbrev pub Said : Type 0
Said = PairLit EqualityLit Diff

-- the variables are the numbers below `vars`; a clause has a number, from 0 on; an atom says one thing where it is true and another
-- where it is false. Equalities are of terms below `terms`, of which the fixed ones are pairwise different, and differences of
-- numbers below `numbers`, of which 0 is zero
pub record Problem : Type 0 where
  pub vars : ℕ
  pub clause : ℕ → Option (List Literal)
  pub atom : ℕ → Option (Said × Said)
  pub terms : ℕ
  pub fixed : List ℕ
  pub numbers : ℕ

-- a class for each term and a number for each number
abbrev pub Columns : Type 0
Columns = List ℕ × List ℤ

abbrev pub meets_said : Columns → Said → Bool
meets_said = meets_own meets_literal meets

-- whether the literal is true where the variables have these values
abbrev pub is_true_in : (ℕ → Bool) → Literal → Bool
is_true_in a l = cond l.plus (a l.var) (not (a l.var))

module _ (c : Problem) where
  abbrev pub are_columns : Columns → Bool
  are_columns = are_models (is_classes c.terms c.fixed) (is_assignment c.numbers)

  -- what a literal says for the theories, if its variable is an atom
  abbrev pub said_by : Literal → Option Said
  said_by l = option_map (λ pair. cond l.plus pair.0 pair.1) (c.atom l.var)

  abbrev pub all_said : List Literal → List Said
  all_said path = filter_map said_by path

  -- values that meet each clause, and columns that meet what the atoms then say
  pub record IsLawfulAssignment (a : ℕ → Bool) : Type 0 where
    pub meets_each : (n : ℕ) → IfSome (c.clause n) (λ clause. IsTrue (list_any (is_true_in a) clause))
    pub columns : Columns
    pub are_models : IsTrue (are_columns columns)
    pub meet_atoms : (v : ℕ) → v < c.vars → IfSome (said_by (record { var = v; plus = a v })) (λ said. IsTrue (meets_said columns said))
