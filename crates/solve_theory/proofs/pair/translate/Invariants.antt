use Rattle.std.proofs.Common.{◌≡◌, map, take}
use Rattle.std.specs.List.{slice_index}
use Rattle.solve_theory.proofs.pair.translate.Given as goal

abbrev pub invariant-loop-number : goal.invariant-loop-number
invariant-loop-number l = record {
  items : l.out.items ≡ map (slice_index l.places) (take l.number-index l.numbers);
  capacity : l.out.capacity ≡ l.initial.out.capacity;
}
