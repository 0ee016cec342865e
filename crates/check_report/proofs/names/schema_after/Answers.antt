use Rattle.std.proofs.Common.{sym, ◌∙◌, ap}
use Rattle.std.specs.Prelude.{unwrap_or}
use Rattle.std.proofs.lemmas.Option.{unwrap_or-slice_get}
use Rattle.type_schema.specs.SchemaViews.{schema_of}
use Rattle.check_report.proofs.Searches.{read-through}
use Rattle.check_report.proofs.names.schema_after.Goals as goal

pub returns-in-None : goal.returns-in-None
returns-in-None c =
    ap schema_of (ap (λ o. unwrap_or o c.args.t.now.start) c.in-None.ensures.value ∙ unwrap_or-slice_get c.args.t.now.schemas c.args.k c.args.t.now.start)
    ∙ sym (read-through schema_of c.args.t.now.schemas c.args.k c.args.t.now.start)
