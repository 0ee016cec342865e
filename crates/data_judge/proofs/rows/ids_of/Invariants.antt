use Rattle.std.proofs.Common.{◌≡◌, drop, []}
use Rattle.std.specs.List.{fold}
use Rattle.data_judge.specs.Meaning.{with_item}
use Rattle.data_judge.proofs.rows.ids_of.Given as goal

abbrev pub invariant-loop-l : goal.invariant-loop-l
invariant-loop-l l = fold with_item l.seen (drop l.l-index l.items) ≡ fold with_item [] l.items
