use Rattle.std.proofs.Common.{rules, ◌≡◌, refl}
use Rattle.std.specs.Prelude.{Ok, Err}
use Rattle.type_schema.specs.SchemaViews.{schema_of}
use Rattle.type_typing.specs.Names.{plain_of}
use Rattle.store_keeper.specs.Stored.{stored_of}
use Rattle.app_store.specs.Answer.{ChecksScript}
use Rattle.app_store.specs.Run.{told_by}
use Rattle.app_store.specs.Told.{Told}
use Rattle.app_store.specs.declared.answer.StoreAnswer.TheVariants as answer
use Rattle.app_store.specs.declared.stop.StoreStop.TheVariants as why
use Rattle.app_store.proofs.Ran.{ran-next, ran-stopped, ran-store}
use Rattle.app_store.proofs.Staged.{held-unread, ran-as, ran-checked, ran-unchecked, ran-given, ran-given-stopped}
use Rattle.app_store.proofs.stages.check_over.Goals as goal

pub check_file-requires : goal.check_file-requires
check_file-requires g c = record { steady = c.in_ok-held.ensures.stored.settled.steady; nothing_added = c.in_ok-held.ensures.stored.settled.anew.added }

pub returns-in_err-held-clause-ran : goal.returns-in_err-held-clause-ran
returns-in_err-held-clause-ran g c =
    let same : c.from_residual.result ≡ Err c.in_err-held.field-0.0 = search rules in
    ran-stopped g.F.Shelf.told g.F.Shelf.calls g.F.Shelf.faults g.K.Keeper.told g.K.Keeper.calls g.K.Keeper.faults _ _ stored_of (λ a. a) _ _ _ _ c.in_err-held.field-0.0 _
    (ran-store g.F.Shelf.told g.F.Shelf.calls g.F.Shelf.faults g.K.Keeper.told g.K.Keeper.calls g.K.Keeper.faults _ stored_of _ _ _ (Err c.in_err-held.field-0.0) c.in_err-held.ensures.held c.in_err-held.ensures.store c.in_err-held.ensures.same (held-unread _)) same

pub returns-in_err-checked-clause-ran : goal.returns-in_err-checked-clause-ran
unfolding plain_of
returns-in_err-checked-clause-ran g c =
    let same : c.from_residual-in_err-checked.result ≡ Err (why.Files c.in_err-checked.field-0.0) = search rules in
    let told : Told = told_by (g.F.Shelf.told c.args.shelf.now) (g.K.Keeper.told c.args.store.now) in
    let s = schema_of c.in_ok-held.held.schema in
    ran-as g.F.Shelf.told g.F.Shelf.calls g.F.Shelf.faults g.K.Keeper.told g.K.Keeper.calls g.K.Keeper.faults _ _ _ _ _ _ (Err (why.Files c.in_err-checked.field-0.0)) _ same
    (ran-next g.F.Shelf.told g.F.Shelf.calls g.F.Shelf.faults g.K.Keeper.told g.K.Keeper.calls g.K.Keeper.faults _ _ stored_of (λ a. a) _ _ _ _ _ _ c.in_ok-held.held (Err (why.Files c.in_err-checked.field-0.0))
    (ran-store g.F.Shelf.told g.F.Shelf.calls g.F.Shelf.faults g.K.Keeper.told g.K.Keeper.calls g.K.Keeper.faults _ stored_of _ _ _ (Ok c.in_ok-held.held) c.in_ok-held.ensures.held c.in_ok-held.ensures.store c.in_ok-held.ensures.same (held-unread _))
    (ran-given-stopped g.F.Shelf.told g.F.Shelf.calls g.F.Shelf.faults g.K.Keeper.told g.K.Keeper.calls g.K.Keeper.faults answer.Checked (ChecksScript told c.args.name.now s) _ _ _ _ (why.Files c.in_err-checked.field-0.0)
    (ran-unchecked g.F.Shelf.told g.F.Shelf.calls g.F.Shelf.faults g.K.Keeper.told g.K.Keeper.calls g.K.Keeper.faults told c.args.name.now s _ _ _ _ c.in_err-checked.field-0.0 refl c.in_err-checked.ensures.checked c.in_err-checked.ensures.shelf)))

pub returns-clause-ran : goal.returns-clause-ran
unfolding plain_of
returns-clause-ran g c =
    let told : Told = told_by (g.F.Shelf.told c.args.shelf.now) (g.K.Keeper.told c.args.store.now) in
    let s = schema_of c.in_ok-held.held.schema in
    ran-next g.F.Shelf.told g.F.Shelf.calls g.F.Shelf.faults g.K.Keeper.told g.K.Keeper.calls g.K.Keeper.faults _ _ stored_of (λ a. a) _ _ _ _ _ _ c.in_ok-held.held (Ok (answer.Checked c.in_ok-checked.checked))
    (ran-store g.F.Shelf.told g.F.Shelf.calls g.F.Shelf.faults g.K.Keeper.told g.K.Keeper.calls g.K.Keeper.faults _ stored_of _ _ _ (Ok c.in_ok-held.held) c.in_ok-held.ensures.held c.in_ok-held.ensures.store c.in_ok-held.ensures.same (held-unread _))
    (ran-given g.F.Shelf.told g.F.Shelf.calls g.F.Shelf.faults g.K.Keeper.told g.K.Keeper.calls g.K.Keeper.faults answer.Checked (ChecksScript told c.args.name.now s) _ _ _ _ c.in_ok-checked.checked
    (ran-checked g.F.Shelf.told g.F.Shelf.calls g.F.Shelf.faults g.K.Keeper.told g.K.Keeper.calls g.K.Keeper.faults told c.args.name.now s _ _ _ c.in_ok-checked.checked _ c.in_ok-checked.ensures.checked c.in_ok-checked.ensures.shelf))
