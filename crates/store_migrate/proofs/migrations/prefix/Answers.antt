use Rattle.std.proofs.Common.{ap, sym, ◌∙◌, subst}
use Rattle.type_schema.specs.Script.{schema_at}
use Rattle.type_schema.specs.SchemaViews.{script_of}
use Rattle.data_meaning.specs.Database.{IsDatabase}
use Rattle.data_meaning.specs.Run.{run_to}
use Rattle.data_meaning.proofs.Runs.{keeps}
use Rattle.store_migrate.proofs.migrations.prefix.Goals as goal

pub returns-clause-database : goal.returns-clause-database
returns-clause-database c =
    let s = script_of c.args.t.now in
    let k = c.args.k in
    let is = c.in_ok-run.ensures ∙ ap (run_to s k) c.in_ok-database.ensures in
    subst (IsDatabase (schema_at s k)) (sym is) (keeps s c.requires.script c.args.d.now c.requires.start k c.requires.within)
