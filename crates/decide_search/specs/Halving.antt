-- How the halves of equalities of numbers grow.
use Rattle.std.specs.Prelude.{◌≡◌, ℕ, ◌+◌, ◌⊎◌, List, [], ◌∷◌, ◌++◌, length, map}
use Rattle.form_formula.specs.declared.node.Node.{Node}
use Rattle.form_formula.specs.declared.structure.Signature.{Signature}
use Rattle.ground_terms.specs.declared.node.TermNode.{TermNode}
use Rattle.ground_instances.specs.declared.input.Value.{Value}
use Rattle.ground_problem.specs.declared.words.Words.{Words}
use Rattle.ground_problem.specs.declared.facts.FactNode.{FactNode}
use Rattle.ground_problem.specs.declared.facts.FactNode.TheVariants.{Below}
use Rattle.decide_search.specs.declared.halves.Halves.{Halves}
use Rattle.decide_search.specs.Encoding.{AreSameNumbers, link_clauses}

-- the halves of two numbers were put at the end, with the clauses that link their variables with this one
pub record HasHalves (v u : Value) (x vars : ℕ) (old new : Halves) : Type 0 where
  pub facts : new.facts.items ≡ old.facts.items ++ Below v u ∷ Below u v ∷ []
  pub links : map (λ c. c.items) new.links.items ≡ map (λ c. c.items) old.links.items ++ link_clauses x (vars + length old.facts.items)

-- all is as before, or the fact is an equality of numbers, whose halves were added
abbrev pub GoesOnHalving : Signature → List Node → List TermNode → Words → List (List ℕ) → FactNode → ℕ → ℕ → Halves → Halves → Type 0
GoesOnHalving g nodes terms w texts fact x vars old new =
    (new ≡ old) ⊎ ((v : Value) × (u : Value) × AreSameNumbers g nodes terms w texts fact v u × HasHalves v u x vars old new)
