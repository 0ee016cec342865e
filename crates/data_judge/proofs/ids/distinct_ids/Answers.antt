use Rattle.std.proofs.Common.{◌≡◌, ◌≤◌, ap, arith, length}
use Rattle.std.specs.List.Sorted.{IsPermutation}
use Rattle.data_judge.specs.InOrder.{NumbersRiseFrom, numbers_in}
use Rattle.data_judge.proofs.Distinct.{distinct-set, distinct-sound}
use Rattle.data_judge.proofs.ids.distinct_ids.Goals as goal

pub returns-then-rise : goal.returns-then-rise
returns-then-rise c =
    let items = c.args.items.now in
    let sorted = c.sorted-numbers.result.items in
    let is : c.in_ok-numbers.numbers.items ≡ numbers_in items = c.in_ok-numbers.ensures in
    let many : length c.in_ok-numbers.numbers.items ≡ length (numbers_in items) = ap length is in
    let full : length items ≤ length (numbers_in items) = omega (arith, many) in
    let moved : IsPermutation (numbers_in items) sorted = rw is at c.sorted-numbers.ensures in
    let up : NumbersRiseFrom 0 sorted = rw c.as_slice.ensures.value at (c.rise.ensures c.if-rise.true) in
    (distinct-sound items sorted full moved up, distinct-set items sorted full moved up)
