use Rattle.std.proofs.Common.{ap, ◌∙◌}
use Rattle.std.specs.Prelude.{None, Some, option_map}
use Rattle.type_typing.proofs.Lookups.{field_is_named, number_and_type}
use Rattle.type_typing.proofs.names.field_named.Goals as goal

pub returns-in_err-model : goal.returns-in_err-model
returns-in_err-model c =
    rw c.from_residual.ensures
    (field_is_named c.args.schema.now c.args.model c.args.name.now None (rw c.as_slice.ensures at c.in_err-model.ensures))

pub returns-in_err-field : goal.returns-in_err-field
returns-in_err-field c =
    rw c.from_residual-in_err-field.ensures
    (ap (option_map number_and_type) (rw c.as_slice-2.ensures at c.in_err-field.ensures)
    ∙ field_is_named c.args.schema.now c.args.model c.args.name.now (Some c.in_ok-model.model.now) (rw c.as_slice.ensures at c.in_ok-model.ensures))

pub returns : goal.returns
returns c =
    ap (option_map number_and_type) (rw c.as_slice-2.ensures at c.in_ok-field.ensures)
    ∙ field_is_named c.args.schema.now c.args.model c.args.name.now (Some c.in_ok-model.model.now) (rw c.as_slice.ensures at c.in_ok-model.ensures)
