-- The clauses of a formula over ground terms.
use Rattle.std.specs.Prelude.{◌≡◌, ℕ, ◌+◌, ◌<◌, All, IfSome, Bool, List, [], ◌++◌, Some, Contains, length, map, slice_get}
use Rattle.std.specs.List.{range_with_len}
use Rattle.std.specs.Option.{option_map}
use Rattle.text_ast.specs.Words.{IsText}
use Rattle.form_formula.specs.NormalForm.{IsNormal}
use Rattle.form_formula.specs.Over.{IsOver}
use Rattle.form_formula.specs.Trees.{Formula}
use Rattle.form_formula.specs.declared.node.Node.{Node}
use Rattle.form_formula.specs.declared.structure.Signature.{Signature}
use Rattle.form_terms.specs.GroundTerms.{GroundTerm}
use Rattle.form_terms.specs.Passing.{IsSatisfiableOver}
use Rattle.form_tables.specs.Clauses.{base_clauses, congruence_clauses}
use Rattle.ground_gates.specs.declared.gate.Literal.{Literal as GateLiteral}
use Rattle.ground_problem.specs.Facts.{clauses_at, fact_at}
use Rattle.ground_problem.specs.GroundClauses.{AreGroundClauses}
use Rattle.ground_problem.specs.Spoken.{IsSpoken}
use Rattle.ground_problem.specs.Words.{vocabulary_at}
use Rattle.ground_problem.specs.declared.facts.FactLiteral.{FactLiteral}
use Rattle.ground_problem.specs.declared.facts.FactNode.{FactNode}
use Rattle.ground_problem.specs.declared.spoken.Spoken.{Spoken}
use Rattle.certify_clauses.specs.Problem.{IsLawfulAssignment, Problem}
use Rattle.certify_clauses.specs.declared.literal.Literal.{Literal}
use Rattle.certify_atoms.specs.Atoms.{Both, IsAtomOf}
use Rattle.certify_atoms.specs.Orders.{AreOrders}
use Rattle.certify_atoms.specs.Texts.{StandOnce}

-- a literal of gates as one of certificates
abbrev pub literal_of : GateLiteral → Literal
literal_of l = record { var = l.var; plus = l.plus }

-- The first variables are the facts of which clauses speak. The clauses are all those of a table, on one term and of congruence; those that say that the
-- numbers are ordered which are equal as facts; and those that say that the formula's gate is true, which can have variables of their own. A variable is an
-- atom only where its fact says something, and then what that says. Terms of equality are the ground terms and behind them the formula's texts, which are
-- pairwise different; numbers are zero and behind it those of ground terms.
pub record IsProblemOf (g : Signature) (f : Formula) (terms : List GroundTerm) (c : Problem) : Type 0 where
  pub nodes : List Node
  pub spoken : Spoken
  pub closed : Bool
  pub is_spoken : IsSpoken g nodes f terms closed spoken
  pub texts : List (List ℕ)
  pub are_texts : (t : List ℕ) → Contains texts t → IsText t
  pub once : StandOnce texts
  pub orders : List (List FactLiteral)
  pub are_orders : AreOrders g nodes spoken.made.terms spoken.words texts orders
  pub facts : List FactNode
  pub clauses : List (List GateLiteral)
  pub ground : AreGroundClauses (map (fact_at nodes spoken.made.terms) facts) spoken.made nodes
      ((base_clauses g (vocabulary_at spoken.made.terms spoken.words) ++ congruence_clauses g (vocabulary_at spoken.made.terms spoken.words)) ++ clauses_at nodes spoken.made.terms orders)
      c.vars clauses
  pub clauses_are : (n : ℕ) → c.clause n ≡ option_map (map literal_of) (slice_get clauses n)
  pub atoms_are : (v : ℕ) (both : Both) → c.atom v ≡ Some both
      → (p : FactNode) × (slice_get facts v ≡ Some p) × IsAtomOf g nodes spoken.made.terms spoken.words texts p both
  pub terms_are : c.terms ≡ length spoken.made.terms + length texts
  pub fixed_are : c.fixed ≡ range_with_len (length spoken.made.terms) (length texts)
  pub numbers_are : c.numbers ≡ length spoken.made.terms + 1

-- where some structure passes a formula over terms, some assignment is lawful
abbrev pub StructuresGiveAssignments : Type 0
StructuresGiveAssignments =
    (g : Signature) (f : Formula) (terms : List GroundTerm) (c : Problem) → IsOver g [] f → IsNormal f → IsProblemOf g f terms c
    → IsSatisfiableOver g f (Contains terms) → (a : ℕ → Bool) × IsLawfulAssignment c a

-- the variables of a formula's clauses are there
abbrev pub VariablesAreBelow : Type 0
VariablesAreBelow =
    (g : Signature) (f : Formula) (terms : List GroundTerm) (c : Problem) → IsProblemOf g f terms c → (n : ℕ) → IfSome (c.clause n) (All (λ l. l.var < c.vars))
