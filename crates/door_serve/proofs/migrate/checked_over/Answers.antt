use Rattle.std.proofs.Common.{rules, ◌≡◌, refl, arith}
use Rattle.std.specs.Prelude.{Err}
use Rattle.app_store.proofs.Typed.{script-typed}
use Rattle.app_store.specs.declared.stop.StoreStop.TheVariants as why
use Rattle.type_schema.specs.SchemaViews.{schema_of, script_of}
use Rattle.type_typing.specs.Names.{plain_of}
use Rattle.store_keeper.specs.Stored.{stored_of}
use Rattle.door_serve.proofs.Migrating.{asks-checked, asks-spent, asks-stopped}
use Rattle.door_serve.proofs.migrate.checked_over.Goals as goal

pub returns-then-held-ge-LAST_VERSION-clause-asked : goal.returns-then-held-ge-LAST_VERSION-clause-asked
returns-then-held-ge-LAST_VERSION-clause-asked g c =
    asks-spent g.F.Shelf.told g.F.Shelf.calls g.F.Shelf.faults (stored_of c.args.held.now) c.args.name.now c.args.shelf.now (omega (arith, c.requires.last))

pub returns-in_err-checked-clause-asked : goal.returns-in_err-checked-clause-asked
unfolding plain_of
returns-in_err-checked-clause-asked g c =
    let same : c.from_residual.result ≡ Err (why.Files c.in_err-checked.field-0.0) = search rules in
    asks-stopped g.F.Shelf.told g.F.Shelf.calls g.F.Shelf.faults (stored_of c.args.held.now) c.args.name.now c.args.shelf.now _ _ _ c.in_err-checked.field-0.0 (omega arith) c.in_err-checked.ensures.checked refl same c.in_err-checked.ensures.shelf

pub returns-clause-asked : goal.returns-clause-asked
unfolding plain_of
returns-clause-asked g c =
    asks-checked g.F.Shelf.told g.F.Shelf.calls g.F.Shelf.faults (stored_of c.args.held.now) c.args.name.now c.args.shelf.now _ c.in_ok-checked.checked _ (omega arith) c.in_ok-checked.ensures.checked c.in_ok-checked.ensures.shelf

pub returns-clause-start : goal.returns-clause-start
unfolding plain_of
returns-clause-start g c =
    let typed = script-typed (g.F.Shelf.told c.args.shelf.now) c.args.name.now (plain_of c.args.held.now.schema) c.in_ok-checked.checked c.in_ok-checked.ensures.checked in
    c.scripts_start.ensures (schema_of c.args.held.now.schema) typed.tree (script_of c.in_ok-checked.checked.script) typed.typed

pub returns-clause-room : goal.returns-clause-room
unfolding plain_of
returns-clause-room g c =
    let typed = script-typed (g.F.Shelf.told c.args.shelf.now) c.args.name.now (plain_of c.args.held.now.schema) c.in_ok-checked.checked c.in_ok-checked.ensures.checked in
    c.script_settles.ensures (schema_of c.args.held.now.schema) typed.tree c.requires.settled typed.typed typed.is_script
