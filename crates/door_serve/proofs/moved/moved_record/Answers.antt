use Rattle.std.proofs.Common.{refl}
use Rattle.door_serve.proofs.MovedPrincipals.{record-none, record-some}
use Rattle.door_serve.proofs.moved.moved_record.Goals as goal

pub returns-in-Some : goal.returns-in-Some
returns-in-Some c = record-some c.args.s.now c.args.m c.args.id c.in-Some.place _ _ refl c.as_slice.ensures c.in-Some.ensures.first

pub returns-in-None : goal.returns-in-None
returns-in-None c = record-none c.args.s.now c.args.m c.args.id _ _ refl c.as_slice.ensures c.in-None.ensures.first
