use Rattle.std.proofs.Common.{refl, sym, ap}
use Rattle.form_formula.specs.Nodes.{formula_of}
use Rattle.duty_meaning.specs.Cases.{atom}
use Rattle.duty_writer.proofs.Putting.{set_ok}
use Rattle.duty_writer.proofs.nodes.signed.Goals as goal

pub returns : goal.returns
returns c = set_ok _ _ _ _ _ (ap (λ sign. atom sign (formula_of c.args.arena.now c.args.id)) (sym c.if-sign.false)) refl c.mk_not.ensures.made
