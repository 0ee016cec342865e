use Rattle.std.proofs.Common.{ap, arith, rules}
use Rattle.std.specs.Prelude.{Ok}
use Rattle.type_commands.proofs.Changed.{pushed_added_as}
use Rattle.type_commands.proofs.after.push_added.Goals as goal

pub returns : goal.returns
returns c =
    ap (λ s. Ok s) (pushed_added_as c.args.schema.now c.args.model c.args.field c.in-Some.next c.args.init c.push.new.self (search rules) (omega arith))
