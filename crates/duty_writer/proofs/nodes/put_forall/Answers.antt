use Rattle.std.proofs.Common.{refl, sym, ap, arith}
use Rattle.duty_writer.proofs.Putting.{set_ok}
use Rattle.duty_writer.proofs.nodes.put_forall.Goals as goal

pub returns : goal.returns
returns c = set_ok _ _ _ _ _ refl refl c.mk_forall.ensures.made
