use Rattle.std.proofs.Common.{rules, ◌≡◌, refl, sym, subst}
use Rattle.std.specs.Prelude.{Result, Err}
use Rattle.type_schema.specs.Schema.{Schema}
use Rattle.type_schema.specs.SchemaViews.{schema_of}
use Rattle.type_schema.specs.declared.schemas.Schema as code
use Rattle.type_typing.specs.Names.{plain_of}
use Rattle.store_apply.specs.Settling.{IsRenumbered}
use Rattle.app_files.proofs.Then.{comes-stopped, comes-behind}
use Rattle.app_files.specs.Answer.{SpecOf}
use Rattle.app_files.specs.Loads.{Fetches}
use Rattle.app_files.specs.Stages.{Stage, ComesTo, Goes, Stopping, Then}
use Rattle.app_files.specs.declared.stop.Stop.TheVariants as stop
use Rattle.app_store.specs.Stages.{Makes}
use Rattle.app_store.specs.declared.stop.StoreStop.{StoreStop}
use Rattle.app_store.specs.declared.stop.StoreStop.TheVariants as why
use Rattle.app_store.proofs.Typed.{spec-typed}
use Rattle.app_store.proofs.stages.settled_schema.Goals as goal

pub returns-in_err-schema-clause-asked : goal.returns-in_err-schema-clause-asked
returns-in_err-schema-clause-asked g c =
    let same : c.from_residual.result ≡ Err (why.Files c.in_err-schema.field-0.0) = search rules in
    let files : Stage Schema = Then (Fetches (g.F.Shelf.told c.args.shelf.now) c.args.name.now) (SpecOf c.args.name.now) in
    comes-stopped (Stopping why.Files files) (λ (s : Schema). Makes (IsRenumbered s)) schema_of c.from_residual.result (why.Files c.in_err-schema.field-0.0)
    (c.in_err-schema.field-0.0, refl, c.in_err-schema.ensures.asked) same

pub settle-requires : goal.settle-requires
unfolding plain_of
settle-requires g c =
    let (spec, typed) = spec-typed (g.F.Shelf.told c.args.shelf.now) c.args.name.now (plain_of c.in_ok-schema.schema) c.in_ok-schema.ensures.asked in
    c.specs_settle.ensures spec (schema_of c.in_ok-schema.schema) typed c.in_ok-schema.ensures.steady

pub returns-in_err-settle-clause-asked : goal.returns-in_err-settle-clause-asked
unfolding plain_of
returns-in_err-settle-clause-asked g c =
    let same : c.from_residual-in_err-settle.result ≡ Err (why.Files stop.OutOfMemory) = search rules in
    let files : Stage Schema = Then (Fetches (g.F.Shelf.told c.args.shelf.now) c.args.name.now) (SpecOf c.args.name.now) in
    subst (λ (z : Result code.Schema StoreStop). ComesTo (Then (Stopping why.Files files) (λ (s : Schema). Makes (IsRenumbered s))) schema_of z) (sym same)
    (comes-behind (Stopping why.Files files) (λ (s : Schema). Makes (IsRenumbered s)) schema_of (Err (why.Files stop.OutOfMemory)) (plain_of c.in_ok-schema.schema) c.in_ok-schema.ensures.asked tt)

pub returns-clause-asked : goal.returns-clause-asked
unfolding plain_of
returns-clause-asked g c = Goes (plain_of c.in_ok-schema.schema) c.in_ok-schema.ensures.asked c.in_ok-settle.ensures.renumbered
