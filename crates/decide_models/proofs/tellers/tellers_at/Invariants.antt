use Rattle.std.proofs.Common.{◌≡◌, take}
use Rattle.decide_models.specs.Columns.{tellers_at}
use Rattle.decide_models.proofs.tellers.tellers_at.Given as goal

abbrev pub invariant-loop-id : goal.invariant-loop-id
invariant-loop-id l = l.tellers.items ≡ tellers_at l.found.values l.h l.terms (take l.id-index l.told)
