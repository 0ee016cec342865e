use Rattle.std.proofs.Common.{List, ◌∙◌, ap}
use Rattle.type_schema.specs.declared.schemas.RemovedField.{RemovedField}
use Rattle.type_schema.specs.Schema.{Schema}
use Rattle.type_schema.specs.Commands.{without_field}
use Rattle.type_typing.specs.Names.{plain_of}
use Rattle.type_commands.specs.Changes.{changed_schema}
use Rattle.type_commands.proofs.after.after_removed_field.Goals as goal

pub returns : goal.returns
unfolding plain_of
returns c =
    ap (λ (t : Schema). record t { removed = c.in_ok-removed.removed }) c.in_ok-after.ensures
    ∙ ap (λ (r : List RemovedField). record (changed_schema (plain_of c.args.schema.now) c.args.model (without_field c.args.field)) { removed = r })
    c.in_ok-removed.ensures
