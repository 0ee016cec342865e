use Rattle.std.proofs.Common.{Bool, ℕ, List, refl, map, ◌||◌}
use Rattle.ground_gates.specs.Meaning.{truth, some_part}
use Rattle.ground_gates.specs.declared.parts.Parts.{Parts}
use Rattle.ground_gates.proofs.Disjoined.{apart_on, are_popped, parts_kept, popped}
use Rattle.ground_gates.proofs.disjunctions.name_rest.Goals as goal

pub loop-gate-preserved : goal.loop-gate-preserved
loop-gate-preserved c =
    let t = c.args.source in
    let lists : List (List ℕ) = map (λ xs. xs.items) t.inputs.now in
    let p : Parts = c.loop-gate.parts in
    let q : Parts = record { literals = p.literals; inputs = p.inputs; stack = c.pop.new.self } in
    let now = c.loop-gate.board in
    let k = c.in-Some.gate in
    let (below, are) = are_popped t.gates.now lists t.below c.args.board.now c.args.parts.now p q k refl c.in-Some.ensures.items c.loop-gate.invariant.are in
    let asked : (ℕ → Bool) → Bool = λ w. truth t.gates.now lists w k || some_part t.gates.now lists w q in
    apart_on t.gates.now lists t.below c.args.board.now c.args.parts.now now c.add_named.new.board p c.add_named.new.parts asked c.loop-gate.invariant
    (popped t.gates.now lists t.below c.args.board.now c.args.parts.now p q k refl refl c.in-Some.ensures.items)
    (c.in_ok-add_named.ensures.goes lists) (parts_kept lists t.below q c.add_named.new.parts c.in_ok-add_named.ensures.inputs c.in_ok-add_named.ensures.stack are) c.in_ok-add_named.ensures.within
