use Rattle.std.proofs.Common.{List, ℕ, ◌≡◌, ◌+◌, ◌-◌, map, subst, arith}
use Rattle.ground_gates.specs.declared.board.Board.{Board}
use Rattle.ground_gates.specs.Encoded.{IsEncodedTo}
use Rattle.ground_gates.proofs.encoding.say_named_gates.Goals as goal

pub loop-step-preserved : goal.loop-step-preserved
loop-step-preserved c =
    let t = c.args.source in
    let lists : List (List ℕ) = map (λ xs. xs.items) t.inputs.now in
    let step = c.loop-step.step in
    let gate : ℕ = (t.below - 1) - step in
    let before : t.below - step ≡ gate + 1 = omega (arith, c.loop-step-test.true) in
    let after : gate ≡ t.below - (step + 1) = omega (arith, c.loop-step-test.true) in (
      c.in_ok-say_named_gate.ensures.placed,
      λ base h.
          let P : Board → ℕ → Type 0 = λ board j. IsEncodedTo t.gates.now lists base t.below j board in
          subst (P c.say_named_gate.new.board) after
          (c.in_ok-say_named_gate.ensures.encoded base (subst (P c.loop-step.board) before (c.loop-step.invariant.1 base h))),
    )

pub returns : goal.returns
returns c = λ base h.
    let t = c.args.source in
    let lists : List (List ℕ) = map (λ xs. xs.items) t.inputs.now in
    let last : t.below - c.loop-step.step ≡ 0 = omega (arith, c.loop-step-test.false) in
    let P : ℕ → Type 0 = λ j. IsEncodedTo t.gates.now lists base t.below j c.loop-step.board in
    subst P last (c.loop-step.invariant.1 base h)
