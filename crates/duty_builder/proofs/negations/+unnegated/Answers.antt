use Rattle.std.proofs.Common.{◌∙◌}
use Rattle.duty_builder.proofs.Asked.{not_is}
use Rattle.duty_builder.proofs.negations.+unnegated.Goals as goal

pub returns-in-Not : goal.returns-in-Not
returns-in-Not t c = λ s w env above.
    c.unnegated.ensures s w env above
    ∙ not_is s w env c.args.sign above c.args.e.now c.get.result.now c.in-Not.inner c.in-Not.is c.get.ensures
