use Rattle.std.proofs.Common.{refl, sym, ap, subst, Bool}
use Rattle.std.specs.Prelude.{IfOk}
use Rattle.duty_meaning.specs.Cases.{constant}
use Rattle.duty_writer.specs.Made.{IsSet}
use Rattle.duty_writer.proofs.Putting.{set_ok}
use Rattle.duty_writer.proofs.nodes.put_constant.Goals as goal

pub returns-then-sign : goal.returns-then-sign
returns-then-sign c = set_ok _ _ _ _ _ (ap constant (sym c.if-sign.true)) refl c.mk_yes.ensures.made

pub returns-else-sign : goal.returns-else-sign
returns-else-sign c = set_ok _ _ _ _ _ (ap constant (sym c.if-sign.false)) refl c.mk_no.ensures.made
