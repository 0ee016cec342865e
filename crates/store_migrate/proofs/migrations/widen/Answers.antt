use Rattle.std.proofs.Common.{◌≡◌, ◌++◌, List, ap, sym, ◌∙◌, subst, map}
use Rattle.type_schema.specs.declared.commands.TCommand.{TCommand}
use Rattle.type_schema.specs.Script.{created}
use Rattle.type_schema.specs.SchemaViews.{command_of, script_of}
use Rattle.data_meaning.specs.Database.{Database}
use Rattle.data_meaning.specs.Gain.{IsStart}
use Rattle.data_meaning.specs.Run.{widened}
use Rattle.data_meaning.proofs.Widened.{starts}
use Rattle.data_records.specs.Inserted.{empty_table}
use Rattle.store_migrate.proofs.migrations.widen.Goals as goal

pub returns-clause-start : goal.returns-clause-start
returns-clause-start c =
    let s = script_of c.args.t.now in
    let d = c.args.d.now in
    let is : c.add_all_created.new.database ≡ widened s d
    = c.in_ok-add_all_created.ensures
    ∙ ap (λ (e : Database). e ++ map empty_table (created (map command_of c.as_slice.result.now))) c.in_ok-database.ensures
    ∙ ap (λ (cs : List TCommand). d ++ map empty_table (created (map command_of cs))) c.as_slice.ensures in
    subst (IsStart s) (sym is) (starts s c.requires.script d c.requires.over c.requires.only)
