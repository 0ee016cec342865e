use Rattle.std.proofs.Common.{◌∙◌}
use Rattle.std.specs.Prelude.{None, Some}
use Rattle.type_commands.proofs.Counted.{fields_counted}
use Rattle.type_commands.proofs.parts.field_count.Goals as goal

pub returns-in-Some : goal.returns-in-Some
returns-in-Some c =
    c.len.ensures ∙ fields_counted c.args.schema.now c.args.model (Some c.in-Some.info.now) (rw c.as_slice.ensures at c.in-Some.ensures)

pub returns-in-None : goal.returns-in-None
returns-in-None c = fields_counted c.args.schema.now c.args.model None (rw c.as_slice.ensures at c.in-None.ensures)
