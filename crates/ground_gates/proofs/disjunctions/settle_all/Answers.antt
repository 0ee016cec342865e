use Rattle.std.proofs.Common.{Bool, ℕ, List, refl, map, subst, ◌||◌, ◌∙◌}
use Rattle.ground_gates.specs.Meaning.{input_truth, some_part}
use Rattle.ground_gates.specs.Said.{Goes, some_of}
use Rattle.ground_gates.specs.declared.parts.Parts.{Parts}
use Rattle.ground_gates.proofs.Disjoined.{apart_on, apart_always, popped_input, are_popped_input, parts_kept}
use Rattle.ground_gates.proofs.disjunctions.settle_all.Goals as goal

pub returns-then-branch-clause-goes : goal.returns-then-branch-clause-goes
returns-then-branch-clause-goes c =
    let t = c.args.source in
    let lists : List (List ℕ) = map (λ xs. xs.items) t.inputs.now in
    let p : Parts = c.loop-input.parts in
    let q : Parts = record { literals = p.literals; inputs = c.pop.new.self; stack = p.stack } in
    let now = c.loop-input.board in
    let k = c.in-Some.input in
    let asked : (ℕ → Bool) → Bool = λ w. input_truth t.gates.now lists w k || some_part t.gates.now lists w q in
    let P : Bool → Type 0 = λ always. Goes t.gates.now lists t.below now c.settle.new.board asked (some_of t.gates.now lists always c.settle.new.parts) in
    apart_always t.gates.now lists t.below c.args.board.now c.args.parts.now now c.settle.new.board p c.settle.new.parts asked c.loop-input.invariant.0
    (popped_input t.gates.now lists t.below c.args.board.now c.args.parts.now p q k refl c.in-Some.ensures.items refl) (subst P c.if-branch.true (c.in_ok-settle.ensures.goes t.gates.now t.below))

pub loop-input-preserved : goal.loop-input-preserved
loop-input-preserved c =
    let t = c.args.source in
    let lists : List (List ℕ) = map (λ xs. xs.items) t.inputs.now in
    let p : Parts = c.loop-input.parts in
    let q : Parts = record { literals = p.literals; inputs = c.pop.new.self; stack = p.stack } in
    let now = c.loop-input.board in
    let k = c.in-Some.input in
    let asked : (ℕ → Bool) → Bool = λ w. input_truth t.gates.now lists w k || some_part t.gates.now lists w q in
    let P : Bool → Type 0 = λ always. Goes t.gates.now lists t.below now c.settle.new.board asked (some_of t.gates.now lists always c.settle.new.parts) in
    let (within, are) = are_popped_input t.gates.now lists t.below c.args.board.now c.args.parts.now p q k c.in-Some.ensures.items refl c.loop-input.invariant.0.are in (
      apart_on t.gates.now lists t.below c.args.board.now c.args.parts.now now c.settle.new.board p c.settle.new.parts asked c.loop-input.invariant.0
          (popped_input t.gates.now lists t.below c.args.board.now c.args.parts.now p q k refl c.in-Some.ensures.items refl) (subst P c.if-branch.false (c.in_ok-settle.ensures.goes t.gates.now t.below))
          (parts_kept lists t.below q c.settle.new.parts c.in_ok-settle.ensures.inputs c.in_ok-settle.ensures.stack are) c.in_ok-settle.ensures.within,
      c.in_ok-settle.ensures.stack ∙ c.loop-input.invariant.1,
    )
