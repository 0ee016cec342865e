use Rattle.std.proofs.Common.{refl}
use Rattle.door_serve.proofs.MovedPrincipals.{static-none, static-some}
use Rattle.door_serve.proofs.moved.moved_static.Goals as goal

pub returns-in-Some : goal.returns-in-Some
returns-in-Some c = static-some c.args.s.now c.args.n c.in-Some.place _ _ refl c.as_slice.ensures c.in-Some.ensures.first

pub returns-in-None : goal.returns-in-None
returns-in-None c = static-none c.args.s.now c.args.n _ _ refl c.as_slice.ensures c.in-None.ensures.first
