use Rattle.type_schema.specs.SchemaViews.{script_of}
use Rattle.duty_formulas.proofs.Joining.{makes_as}
use Rattle.duty_formulas.proofs.InForce.{right_same}
use Rattle.duty_formulas.proofs.rights.right_at.Goals as goal

pub returns : goal.returns
returns c =
    makes_as _ _ _ _ _
    (right_same (script_of c.args.of.now.script.now) c.args.k c.args.target c.args.right _ _ _ _ _ _ _ c.start_at-start.ensures.schema c.start_at-start.ensures.written c.in-Some.ensures)
    c.allowed-made.ensures
