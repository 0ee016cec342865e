use Rattle.std.proofs.Common.{subst}
use Rattle.type_schema.specs.SchemaViews.{field_info_of}
use Rattle.type_specs.specs.InTurn.{GivesSeen}
use Rattle.type_commands.proofs.Changed.{seen_goes}
use Rattle.type_commands.proofs.resolve.field_seen.Goals as goal

pub returns : goal.returns
returns c =
    subst (λ o. GivesSeen field_info_of o c.typed_field-2.result)
    (seen_goes c.args.schema.now c.in_ok-known.known c.args.m c.args.f.now (field_info_of c.in_ok-closed.closed) c.in_ok-closed.ensures c.in_ok-known.ensures)
    c.typed_field-2.ensures
