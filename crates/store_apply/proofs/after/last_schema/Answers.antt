use Rattle.std.proofs.Common.{◌≡◌, ◌<◌, length, ap, sym, ◌∙◌, arith}
use Rattle.std.proofs.lemmas.List.{length-map}
use Rattle.type_schema.specs.Script.{count, schema_at}
use Rattle.type_schema.specs.SchemaViews.{command_of, schema_of, script_of}
use Rattle.store_apply.proofs.NoteLists.{schema-is}
use Rattle.store_apply.proofs.after.last_schema.Goals as goal

pub returns : goal.returns
returns c =
    let t = c.args.t.now in
    let all : c.len-last.result ≡ count (script_of t) = c.len-last.ensures ∙ sym (length-map t.commands command_of) in
    let inside : c.len-last.result < length t.schemas = omega (arith, length-map t.schemas schema_of, c.requires.schemas) in
    schema-is t.schemas _ c.len-last.result c.index-schemas-last.result _ c.as_slice-schemas.ensures inside c.index-schemas-last.is
    ∙ ap (schema_at (script_of t)) all
