use Rattle.std.specs.Prelude.{None, Some}
use Rattle.type_typing.proofs.Lookups.{model_is_named}
use Rattle.type_typing.proofs.names.model_named.Goals as goal

pub returns-in_err-model : goal.returns-in_err-model
returns-in_err-model c =
    rw c.from_residual.ensures (model_is_named c.args.schema.now c.args.name.now None (rw c.as_slice.ensures at c.in_err-model.ensures))

pub returns : goal.returns
returns c = model_is_named c.args.schema.now c.args.name.now (Some c.in_ok-model.model.now) (rw c.as_slice.ensures at c.in_ok-model.ensures)
