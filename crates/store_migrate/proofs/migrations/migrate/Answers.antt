use Rattle.std.proofs.Common.{◌≡◌, ap, sym, ◌∙◌, subst, arith}
use Rattle.std.proofs.lemmas.List.{length-map}
use Rattle.type_schema.specs.Script.{count, schema_at}
use Rattle.type_schema.specs.SchemaViews.{command_of, script_of}
use Rattle.data_meaning.specs.Database.{HasNoFurtherTables, IsDatabase, IsInOrder}
use Rattle.data_meaning.specs.Run.{run_to, widened}
use Rattle.data_meaning.proofs.Runs.{keeps}
use Rattle.data_meaning.proofs.Widened.{starts}
use Rattle.store_migrate.proofs.Tables.{in-order, no-further}
use Rattle.store_migrate.proofs.migrations.migrate.Goals as goal

pub returns-clause-database : goal.returns-clause-database
returns-clause-database c =
    let s = script_of c.args.t.now in
    let d = c.args.d.now in
    let all : c.len.result ≡ count s = c.len.ensures ∙ sym (length-map c.args.t.now.commands command_of) in
    let is : c.run.new.database ≡ run_to s (count s) (widened s d)
    = c.in_ok-run.ensures ∙ ap (λ k. run_to s k c.in_ok-database.database) all ∙ ap (run_to s (count s)) c.in_ok-database.ensures.widened in
    subst (IsDatabase (schema_at s (count s))) (sym is)
    (keeps s c.requires.script (widened s d) (starts s c.requires.script d c.requires.over c.requires.only) (count s) (omega arith))

pub returns-clause-only : goal.returns-clause-only
returns-clause-only c =
    let s = script_of c.args.t.now in
    let d = c.args.d.now in
    let all : c.len.result ≡ count s = c.len.ensures ∙ sym (length-map c.args.t.now.commands command_of) in
    let is : c.run.new.database ≡ run_to s (count s) (widened s d)
    = c.in_ok-run.ensures ∙ ap (λ k. run_to s k c.in_ok-database.database) all ∙ ap (run_to s (count s)) c.in_ok-database.ensures.widened in
    subst (HasNoFurtherTables (schema_at s (count s))) (sym is) (no-further s c.requires.script d c.requires.over c.requires.only)

pub returns-clause-order : goal.returns-clause-order
returns-clause-order c order =
    let s = script_of c.args.t.now in
    let d = c.args.d.now in
    let all : c.len.result ≡ count s = c.len.ensures ∙ sym (length-map c.args.t.now.commands command_of) in
    let is : c.run.new.database ≡ run_to s (count s) (widened s d)
    = c.in_ok-run.ensures ∙ ap (λ k. run_to s k c.in_ok-database.database) all ∙ ap (run_to s (count s)) c.in_ok-database.ensures.widened in
    subst (IsInOrder (schema_at s (count s))) (sym is) (in-order s c.requires.script d c.requires.over c.requires.only order)
