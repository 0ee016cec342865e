use Rattle.std.proofs.Common.{◌≡◌, ◌+◌, ◌++◌, ap, sym, ◌∙◌, map, take}
use Rattle.type_schema.specs.declared.commands.TCommand.{TCommand}
use Rattle.type_schema.specs.Script.{created, created_by}
use Rattle.type_schema.specs.SchemaViews.{command_of}
use Rattle.store_migrate.proofs.Runs.{created-more, tables-more}
use Rattle.store_migrate.proofs.migrations.add_all_created.Goals as goal

pub loop-command-preserved : goal.loop-command-preserved
loop-command-preserved c =
    let cs = c.args.commands.now in
    let k = c.loop-command.command-index in
    let one = c.command-item.result in
    let front = created (map command_of (take k cs)) in
    let all : created (map command_of (take (k + 1) cs)) ≡ front ++ created_by (command_of one)
    = created-more cs k one c.loop-command-test.true ∙ ap (λ (x : TCommand). front ++ created_by (command_of x)) (sym c.command-item.is) in
    tables-more c.args.database.now c.loop-command.database c.add_created.new.database front (created_by (command_of one)) _ c.loop-command.invariant c.in_ok-add_created.ensures.ok all
