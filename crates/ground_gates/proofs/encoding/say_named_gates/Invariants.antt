use Rattle.std.proofs.Common.{ℕ, ◌-◌, map}
use Rattle.ground_gates.specs.Encoded.{IsEncodedTo}
use Rattle.ground_gates.specs.Said.{IsPlacedFor}
use Rattle.ground_gates.proofs.encoding.say_named_gates.Given as goal

abbrev pub invariant-loop-step : goal.invariant-loop-step
invariant-loop-step l =
    let lists = map (λ xs. xs.items) l.source.inputs.now in
    IsPlacedFor l.source.gates.now lists l.source.below l.board
    × ((base : ℕ) → IsEncodedTo l.source.gates.now lists base l.source.below l.source.below l.initial.board
    → IsEncodedTo l.source.gates.now lists base l.source.below (l.source.below - l.step) l.board)
