use Rattle.std.proofs.Common.{Bool, ℕ, List, refl, map, subst, ◌||◌}
use Rattle.ground_gates.specs.Meaning.{truth, some_part}
use Rattle.ground_gates.specs.Said.{Goes, some_of}
use Rattle.ground_gates.specs.declared.parts.Parts.{Parts}
use Rattle.ground_gates.proofs.Disjoined.{apart_on, apart_always, popped}
use Rattle.ground_gates.proofs.disjunctions.take_apart.Goals as goal

pub returns-then-branch-clause-goes : goal.returns-then-branch-clause-goes
returns-then-branch-clause-goes c =
    let t = c.args.source in
    let lists : List (List ℕ) = map (λ xs. xs.items) t.inputs.now in
    let p : Parts = c.loop-step.parts in
    let q : Parts = record { literals = p.literals; inputs = p.inputs; stack = c.pop.new.self } in
    let now = c.loop-step.board in
    let k = c.in-Some.gate in
    let asked : (ℕ → Bool) → Bool = λ w. truth t.gates.now lists w k || some_part t.gates.now lists w q in
    let P : Bool → Type 0 = λ always. Goes t.gates.now lists t.below now c.take.new.board asked (some_of t.gates.now lists always c.take.new.parts) in
    apart_always t.gates.now lists t.below c.args.board.now c.args.parts.now now c.take.new.board p c.take.new.parts asked c.loop-step.invariant
    (popped t.gates.now lists t.below c.args.board.now c.args.parts.now p q k refl refl c.in-Some.ensures.items) (subst P c.if-branch.true c.in_ok-take.ensures.goes)

pub loop-step-preserved : goal.loop-step-preserved
loop-step-preserved c =
    let t = c.args.source in
    let lists : List (List ℕ) = map (λ xs. xs.items) t.inputs.now in
    let p : Parts = c.loop-step.parts in
    let q : Parts = record { literals = p.literals; inputs = p.inputs; stack = c.pop.new.self } in
    let now = c.loop-step.board in
    let k = c.in-Some.gate in
    let asked : (ℕ → Bool) → Bool = λ w. truth t.gates.now lists w k || some_part t.gates.now lists w q in
    let P : Bool → Type 0 = λ always. Goes t.gates.now lists t.below now c.take.new.board asked (some_of t.gates.now lists always c.take.new.parts) in
    apart_on t.gates.now lists t.below c.args.board.now c.args.parts.now now c.take.new.board p c.take.new.parts asked c.loop-step.invariant
    (popped t.gates.now lists t.below c.args.board.now c.args.parts.now p q k refl refl c.in-Some.ensures.items) (subst P c.if-branch.false c.in_ok-take.ensures.goes) c.in_ok-take.ensures.are c.in_ok-take.ensures.within
