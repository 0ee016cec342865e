use Rattle.type_typing.specs.Names.{plain_of}
use Rattle.type_scripts.specs.Counted.{counted}
use Rattle.type_scripts.proofs.Stepped.{spec_typed}
use Rattle.type_scripts.proofs.specs.type_spec.Goals as goal

pub returns : goal.returns
unfolding plain_of
returns c =
    let typed = spec_typed counted c.args.spec.now (plain_of c.in_ok-schema.schema) c.in_ok-models_are_small.field-0 c.in_ok-schema.ensures
    (rw c.as_slice.ensures at c.in_ok-models_are_small.ensures) in
    let steady = c.specs_are_steady.ensures counted c.args.spec.now (plain_of c.in_ok-schema.schema) (rw c.as_slice-2.ensures at c.models_have_literals.ensures) typed in
    record { typed = typed; steady = steady.0; nothing_added = steady.1 }
