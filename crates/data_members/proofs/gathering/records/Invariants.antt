use Rattle.std.proofs.Common.{◌≡◌, map, take}
use Rattle.data_meaning.specs.declared.principals.Principal.TheVariants.{Rec}
use Rattle.data_members.proofs.gathering.records.Given as goal

abbrev pub invariant-loop-id : goal.invariant-loop-id
invariant-loop-id l = l.ps.items ≡ map (λ y. Rec l.m y) (take l.id-index l.ids)
