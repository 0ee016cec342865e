use Rattle.std.proofs.Common.{arith}
use Rattle.ground_instances.proofs.ValueLaws.{variable_at}
use Rattle.ground_instances.proofs.values.variable.Goals as goal

pub returns-in-Some : goal.returns-in-Some
returns-in-Some c = λ nodes.
    variable_at nodes c.args.terms.now c.args.env.now c.args.sort c.args.depth c.in-Some.t.now c.requires c.in-Some.ensures.lookup.3.0 (c.in-Some.ensures.lookup.4 (omega arith) 0)
