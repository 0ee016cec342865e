use Rattle.std.proofs.Common.{◌≡◌, map}
use Rattle.std.specs.List.{range_with_len}
use Rattle.decide_models.specs.Columns.{relation_at}
use Rattle.decide_models.proofs.relations.relations.Given as goal

abbrev pub invariant-loop-relation : goal.invariant-loop-relation
invariant-loop-relation l = l.relations ≡ map (relation_at l.found.related l.elements l.pairs) (range_with_len 0 l.relation)
