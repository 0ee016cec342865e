use Rattle.std.proofs.Common.{refl}
use Rattle.form_formula.specs.Trees.{both}
use Rattle.form_formula.specs.Nodes.{formula_of}
use Rattle.duty_writer.proofs.Joining.{set_made}
use Rattle.duty_writer.proofs.writer.Writer.both.Goals as goal

pub returns-in_ok-put_both-in-Build : goal.returns-in_ok-put_both-in-Build
returns-in_ok-put_both-in-Build c =
    set_made 1 _ _ _ (λ nodes. both (formula_of nodes c.args.a) (formula_of nodes c.args.b)) _ c.in_ok-pay.ensures
    c.in_ok-put_both-in-Build.ensures refl refl
