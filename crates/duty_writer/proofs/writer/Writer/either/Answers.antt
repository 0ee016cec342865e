use Rattle.std.proofs.Common.{refl}
use Rattle.form_formula.specs.Trees.{either}
use Rattle.form_formula.specs.Nodes.{formula_of}
use Rattle.duty_writer.proofs.Joining.{set_made}
use Rattle.duty_writer.proofs.writer.Writer.either.Goals as goal

pub returns-in_ok-put_either-in-Build : goal.returns-in_ok-put_either-in-Build
returns-in_ok-put_either-in-Build c =
    set_made 1 _ _ _ (λ nodes. either (formula_of nodes c.args.a) (formula_of nodes c.args.b)) _ c.in_ok-pay.ensures
    c.in_ok-put_either-in-Build.ensures refl refl
