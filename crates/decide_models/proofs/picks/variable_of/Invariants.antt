use Rattle.std.proofs.Common.{◌≡◌, drop}
use Rattle.std.specs.List.{find}
use Rattle.decide_models.specs.Columns.{is_variable_at}
use Rattle.decide_models.proofs.picks.variable_of.Given as goal

abbrev pub invariant-loop-id : goal.invariant-loop-id
invariant-loop-id l = find (is_variable_at l.terms l.number) l.named ≡ find (is_variable_at l.terms l.number) (drop l.id-index l.named)
