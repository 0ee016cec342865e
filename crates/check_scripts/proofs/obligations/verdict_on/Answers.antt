use Rattle.std.proofs.Common.{[], subst, sym}
use Rattle.type_schema.specs.SchemaViews.{script_of}
use Rattle.form_formula.specs.Over.{IsOver}
use Rattle.form_formula.specs.Trees.{Formula}
use Rattle.duty_meaning.proofs.Speaking.{over_and_closed}
use Rattle.check_scripts.proofs.obligations.verdict_on.Goals as goal

pub verdict_in-requires-clause-over : goal.verdict_in-requires-clause-over
verdict_in-requires-clause-over g c =
    subst (λ (f : Formula). IsOver c.args.signature.now [] f) (sym c.in_ok-id.ensures.formula.1)
    (over_and_closed (script_of c.args.t.now) c.requires.script c.args.signature.now c.requires.signature c.args.duty c.requires.listed).0
