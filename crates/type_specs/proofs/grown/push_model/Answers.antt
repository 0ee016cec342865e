use Rattle.std.proofs.Common.{ap, arith, rules}
use Rattle.std.specs.Prelude.{Ok}
use Rattle.type_specs.proofs.Plain.{pushed_model_as}
use Rattle.type_specs.proofs.grown.push_model.Goals as goal

pub returns : goal.returns
returns c =
    ap (λ s. Ok s)
    (pushed_model_as c.args.schema.now c.args.info c.push.new.self c.in-Some.next_model c.in-Some-checked_add.next_field (search rules) (omega arith) (omega arith))
