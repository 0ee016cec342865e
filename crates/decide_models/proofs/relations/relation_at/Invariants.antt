use Rattle.std.proofs.Common.{◌≡◌, take}
use Rattle.decide_models.specs.Columns.{relation_at}
use Rattle.decide_models.proofs.relations.relation_at.Given as goal

abbrev pub invariant-loop-place : goal.invariant-loop-place
invariant-loop-place l = l.found ≡ relation_at l.related l.elements (take l.place l.pairs) l.relation
