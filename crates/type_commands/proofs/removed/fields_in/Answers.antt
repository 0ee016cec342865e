use Rattle.std.proofs.Common.{◌∙◌, ap, map}
use Rattle.std.specs.Prelude.{None, Some}
use Rattle.type_schema.specs.SchemaViews.{field_info_of}
use Rattle.type_commands.proofs.Counted.{fields_found}
use Rattle.type_commands.proofs.removed.fields_in.Goals as goal

pub returns-in-Some : goal.returns-in-Some
returns-in-Some c =
    ap (map field_info_of) c.as_slice-in-Some.ensures
    ∙ fields_found c.args.schema.now c.args.model (Some c.in-Some.info.now) (rw c.as_slice.ensures at c.in-Some.ensures)

pub returns-in-None : goal.returns-in-None
returns-in-None c = fields_found c.args.schema.now c.args.model None (rw c.as_slice.ensures at c.in-None.ensures)
