use Rattle.std.proofs.Common.{◌≡◌, map}
use Rattle.std.specs.List.{range_with_len}
use Rattle.decide_models.specs.Columns.{entry_at}
use Rattle.decide_models.proofs.values.row_at.Given as goal

abbrev pub invariant-loop-element : goal.invariant-loop-element
invariant-loop-element l =
    l.row ≡ map (entry_at l.source.found.now.values l.source.all.now l.source.defaults.now l.sig l.tellers) (range_with_len 0 l.element)
