-- Clauses on the order of numbers, as they are made.
use Rattle.std.proofs.Common.{◌≡◌, ℕ, inl, inr, List, [], ◌++◌, subst, Contains, map, ap, Result, Ok, Err, OnOk}
use Rattle.std.proofs.lemmas.List.Elements.{Contains-append_cases}
use Rattle.form_terms.proofs.Lists.{Contains-none}
use Rattle.form_formula.specs.declared.node.Node.{Node}
use Rattle.form_formula.specs.declared.structure.Signature.{Signature}
use Rattle.ground_terms.specs.declared.node.TermNode.{TermNode}
use Rattle.ground_instances.specs.declared.input.Value.{Value}
use Rattle.ground_problem.specs.declared.facts.FactLiteral.{FactLiteral}
use Rattle.ground_problem.specs.declared.words.Words.{Words}
use Rattle.certify_atoms.specs.Orders.{AreOrders, IsNumber, order_clauses}

module _ (g : Signature) (nodes : List Node) (terms : List TermNode) (w : Words) (texts : List (List ℕ)) where
  pub no_orders : {V : Type 0} (vs : List V) (items : V → List FactLiteral) → vs ≡ [] → AreOrders g nodes terms w texts (map items vs)
  no_orders vs items e clause there = Contains-none clause (subst (λ (cs : List (List FactLiteral)). Contains cs clause) (ap (map items) e) there)

  -- those on two numbers more
  pub orders_more : (v u : Value) (old new : List (List FactLiteral)) → IsNumber g nodes terms w texts v → IsNumber g nodes terms w texts u → new ≡ old ++ order_clauses v u
      → AreOrders g nodes terms w texts old → AreOrders g nodes terms w texts new
  orders_more v u old new left right e h clause there =
      elim (Contains-append_cases old (order_clauses v u) clause (subst (λ (cs : List (List FactLiteral)). Contains cs clause) e there)) [
        | inl before ↦ h clause before
        | inr now ↦ record { v = v; u = u; left = left; right = right; listed = now }
      ]

-- what is said of an answer that is right says something else of it
pub on_ok_too : {T E : Type 0} (r : Result T E) (P Q : Type 0) → (P → Q) → OnOk r P → OnOk r Q
on_ok_too (Ok x) P Q h k = h k
on_ok_too (Err e) P Q h k = tt
