use Rattle.std.proofs.Common.{◌≡◌, ◌++◌, ◌∷◌, [], map, take}
use Rattle.ground_gates.specs.Literals.{is_false, is_true}
use Rattle.ground_gates.specs.Said.{clauses_in}
use Rattle.ground_gates.proofs.inputs.push_facts.Given as goal

abbrev pub invariant-loop-fact : goal.invariant-loop-fact
invariant-loop-fact l =
    (l.board.names ≡ l.initial.board.names)
    × (clauses_in l.board ≡ clauses_in l.initial.board ++ map (λ x. is_false l.variable ∷ is_true x ∷ []) (take l.fact-index l.facts))
