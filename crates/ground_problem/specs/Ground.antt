-- Inputs as variables.
use Rattle.std.specs.Prelude.{◌≡◌, ℕ, List, Some, map}
use Rattle.form_formula.specs.declared.node.Node.{Node}
use Rattle.ground_terms.specs.declared.node.TermNode.{TermNode}
use Rattle.ground_instances.specs.declared.input.Input.{Input}
use Rattle.ground_problem.specs.InputFacts.{input_facts}
use Rattle.ground_problem.specs.declared.facts.FactNode.{FactNode}
use Rattle.ground_problem.specs.Facts.{fact_at}
use Rattle.ground_problem.specs.Numbers.{AreNumbers}

-- the variables are those of the facts that an input stands for
pub record AreVariablesOf (nodes : List Node) (terms : List TermNode) (facts : List FactNode) (variables : List ℕ) (input : Input) : Type 0 where
  pub parts : List FactNode
  pub stand : input_facts nodes terms input ≡ Some (map (fact_at nodes terms) parts)
  pub numbers : AreNumbers facts variables parts
