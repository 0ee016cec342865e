use Rattle.std.proofs.Common.{◌≡◌, ◌+◌, ◌++◌, ◌<◌, length, ap, sym, subst, arith}
use Rattle.std.specs.Prelude.{Some}
use Rattle.std.proofs.lemmas.List.{length-map}
use Rattle.type_schema.specs.Schema.{Schema}
use Rattle.type_schema.specs.Commands.{IsCommand}
use Rattle.type_schema.specs.Script.{command_at, schema_at}
use Rattle.type_schema.specs.SchemaViews.{command_of, schema_of, script_of}
use Rattle.store_apply.specs.Notes.{notes_of}
use Rattle.store_apply.proofs.NoteLists.{command-is, left-more, schema-is}
use Rattle.store_apply.proofs.notes.add_all_notes.Goals as goal

pub add_notes-requires : goal.add_notes-requires
add_notes-requires c =
    let t = c.args.t.now in
    let k = c.loop-at.at in
    let within : k < length t.commands = omega (arith, ap length c.as_slice-commands.ensures) in
    let inside : k < length t.schemas
    = omega (arith, length-map t.commands command_of, length-map t.schemas schema_of, c.requires.schemas) in
    let schema : schema_of c.index-schemas-at.result ≡ schema_at (script_of t) k
    = schema-is t.schemas _ k c.index-schemas-at.result _ c.as_slice-schemas.ensures inside c.index-schemas-at.is in
    let command : command_at (script_of t) k ≡ Some (command_of c.index-commands-at.result)
    = command-is t.commands _ k c.index-commands-at.result c.as_slice-commands.ensures within c.index-commands-at.is in
    subst (λ (s : Schema). IsCommand s (command_of c.index-commands-at.result)) (sym schema) (c.requires.commands k (command_of c.index-commands-at.result) command)

pub loop-at-preserved : goal.loop-at-preserved
loop-at-preserved c =
    let t = c.args.t.now in
    let k = c.loop-at.at in
    let within : k < length t.commands = omega (arith, ap length c.as_slice-commands.ensures) in
    let inside : k < length t.schemas
    = omega (arith, length-map t.commands command_of, length-map t.schemas schema_of, c.requires.schemas) in
    let schema : schema_of c.index-schemas-at.result ≡ schema_at (script_of t) k
    = schema-is t.schemas _ k c.index-schemas-at.result _ c.as_slice-schemas.ensures inside c.index-schemas-at.is in
    let command : command_at (script_of t) k ≡ Some (command_of c.index-commands-at.result)
    = command-is t.commands _ k c.index-commands-at.result c.as_slice-commands.ensures within c.index-commands-at.is in
    left-more (script_of t) c.args.version k (command_of c.index-commands-at.result) c.args.notes.now.items c.loop-at.notes.items c.add_notes.new.notes.items command
    c.loop-at.invariant
    (subst (λ (s : Schema). c.add_notes.new.notes.items ≡ c.loop-at.notes.items ++ notes_of s c.args.version (k + 1) (command_of c.index-commands-at.result)) schema
    c.in_ok-add_notes.ensures)
