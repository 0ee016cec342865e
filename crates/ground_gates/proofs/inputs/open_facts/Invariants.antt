use Rattle.std.proofs.Common.{◌≡◌, ◌||◌, ℕ, Bool, Contains, take}
use Rattle.std.specs.List.{list_all}
use Rattle.ground_gates.specs.Clauses.{meets_clause}
use Rattle.ground_gates.proofs.inputs.open_facts.Given as goal

abbrev pub invariant-loop-fact : goal.invariant-loop-fact
invariant-loop-fact l =
    ((w : ℕ → Bool) → (meets_clause w l.literals || list_all w (take l.fact-index l.facts)) ≡ (meets_clause w l.literals || list_all w l.others.items))
    × ((x : ℕ) → Contains l.others.items x → Contains l.facts x)
