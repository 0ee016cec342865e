use Rattle.std.proofs.Common.{rules, ◌≡◌, refl}
use Rattle.std.specs.Prelude.{Ok, Err, option_copied}
use Rattle.type_schema.specs.SchemaViews.{schema_of}
use Rattle.app_store.specs.Answer.{AsksBase}
use Rattle.app_store.specs.Run.{told_by}
use Rattle.app_store.specs.Told.{Told}
use Rattle.app_store.specs.declared.answer.StoreAnswer.TheVariants as answer
use Rattle.app_store.proofs.Ran.{ran-inside, ran-next, ran-stopped, ran-store}
use Rattle.app_store.proofs.Staged.{free-unread, ran-as, ran-base, ran-schema}
use Rattle.app_store.proofs.stages.init.Goals as goal

pub returns-in_err-ask_free-clause-ran : goal.returns-in_err-ask_free-clause-ran
returns-in_err-ask_free-clause-ran g c =
    let same : c.from_residual.result ≡ Err c.in_err-ask_free.field-0.0 = search rules in
    ran-stopped g.F.Shelf.told g.F.Shelf.calls g.F.Shelf.faults g.K.Keeper.told g.K.Keeper.calls g.K.Keeper.faults _ _ (λ u. u) (λ a. a) _ _ _ _ c.in_err-ask_free.field-0.0 _
    (ran-store g.F.Shelf.told g.F.Shelf.calls g.F.Shelf.faults g.K.Keeper.told g.K.Keeper.calls g.K.Keeper.faults _ (λ u. u) _ _ _ (Err c.in_err-ask_free.field-0.0) c.in_err-ask_free.ensures.free c.in_err-ask_free.ensures.store c.in_err-ask_free.ensures.same (free-unread _)) same

pub returns-in_err-schema-clause-ran : goal.returns-in_err-schema-clause-ran
returns-in_err-schema-clause-ran g c =
    let same : c.from_residual-in_err-schema.result ≡ Err c.in_err-schema.field-0.0 = search rules in
    let told : Told = told_by (g.F.Shelf.told c.args.shelf.now) (g.K.Keeper.told c.args.store.now) in
    ran-as g.F.Shelf.told g.F.Shelf.calls g.F.Shelf.faults g.K.Keeper.told g.K.Keeper.calls g.K.Keeper.faults _ _ _ _ _ _ (Err c.in_err-schema.field-0.0) _ same
    (ran-next g.F.Shelf.told g.F.Shelf.calls g.F.Shelf.faults g.K.Keeper.told g.K.Keeper.calls g.K.Keeper.faults _ _ (λ u. u) (λ a. a) _ _ _ _ _ _ tt (Err c.in_err-schema.field-0.0)
    (ran-store g.F.Shelf.told g.F.Shelf.calls g.F.Shelf.faults g.K.Keeper.told g.K.Keeper.calls g.K.Keeper.faults _ (λ u. u) _ _ _ (Ok tt) c.in_ok-ask_free.ensures.free c.in_ok-ask_free.ensures.store c.in_ok-ask_free.ensures.same (free-unread _))
    (ran-stopped g.F.Shelf.told g.F.Shelf.calls g.F.Shelf.faults g.K.Keeper.told g.K.Keeper.calls g.K.Keeper.faults _ _ schema_of (λ a. a) _ _ _ _ c.in_err-schema.field-0.0 (Err c.in_err-schema.field-0.0)
    (ran-schema g.F.Shelf.told g.F.Shelf.calls g.F.Shelf.faults g.K.Keeper.told g.K.Keeper.calls g.K.Keeper.faults told c.args.spec.now schema_of _ _ _ (Err c.in_err-schema.field-0.0) c.in_err-schema.ensures.asked c.in_err-schema.ensures.shelf) refl))

pub returns-in_err-base-clause-ran : goal.returns-in_err-base-clause-ran
returns-in_err-base-clause-ran g c =
    let same : c.from_residual-in_err-base.result ≡ Err c.in_err-base.field-0.0 = search rules in
    let told : Told = told_by (g.F.Shelf.told c.args.shelf.now) (g.K.Keeper.told c.args.store.now) in
    let s = schema_of c.in_ok-schema.schema in
    ran-as g.F.Shelf.told g.F.Shelf.calls g.F.Shelf.faults g.K.Keeper.told g.K.Keeper.calls g.K.Keeper.faults _ _ _ _ _ _ (Err c.in_err-base.field-0.0) _ same
    (ran-next g.F.Shelf.told g.F.Shelf.calls g.F.Shelf.faults g.K.Keeper.told g.K.Keeper.calls g.K.Keeper.faults _ _ (λ u. u) (λ a. a) _ _ _ _ _ _ tt (Err c.in_err-base.field-0.0)
    (ran-store g.F.Shelf.told g.F.Shelf.calls g.F.Shelf.faults g.K.Keeper.told g.K.Keeper.calls g.K.Keeper.faults _ (λ u. u) _ _ _ (Ok tt) c.in_ok-ask_free.ensures.free c.in_ok-ask_free.ensures.store c.in_ok-ask_free.ensures.same (free-unread _))
    (ran-next g.F.Shelf.told g.F.Shelf.calls g.F.Shelf.faults g.K.Keeper.told g.K.Keeper.calls g.K.Keeper.faults _ _ schema_of (λ a. a) _ _ _ _ _ _ c.in_ok-schema.schema (Err c.in_err-base.field-0.0)
    (ran-schema g.F.Shelf.told g.F.Shelf.calls g.F.Shelf.faults g.K.Keeper.told g.K.Keeper.calls g.K.Keeper.faults told c.args.spec.now schema_of _ _ _ (Ok c.in_ok-schema.schema) c.in_ok-schema.ensures.asked c.in_ok-schema.ensures.shelf)
    (ran-stopped g.F.Shelf.told g.F.Shelf.calls g.F.Shelf.faults g.K.Keeper.told g.K.Keeper.calls g.K.Keeper.faults (AsksBase told (option_copied c.args.base_name) s) _ (λ d. d) (λ a. a) _ _ _ _ c.in_err-base.field-0.0 (Err c.in_err-base.field-0.0)
    (ran-base g.F.Shelf.told g.F.Shelf.calls g.F.Shelf.faults g.K.Keeper.told g.K.Keeper.calls g.K.Keeper.faults told (option_copied c.args.base_name) s _ _ _ (Err c.in_err-base.field-0.0) (rw c.in_ok-schema.ensures.shelf.kept at c.in_err-base.ensures.asked)) refl)))

pub returns-clause-ran : goal.returns-clause-ran
returns-clause-ran g c =
    let told : Told = told_by (g.F.Shelf.told c.args.shelf.now) (g.K.Keeper.told c.args.store.now) in
    let s = schema_of c.in_ok-schema.schema in
    ran-next g.F.Shelf.told g.F.Shelf.calls g.F.Shelf.faults g.K.Keeper.told g.K.Keeper.calls g.K.Keeper.faults _ _ (λ u. u) (λ a. a) _ _ _ _ _ _ tt (Ok (answer.Initialised c.initial.result))
    (ran-store g.F.Shelf.told g.F.Shelf.calls g.F.Shelf.faults g.K.Keeper.told g.K.Keeper.calls g.K.Keeper.faults _ (λ u. u) _ _ _ (Ok tt) c.in_ok-ask_free.ensures.free c.in_ok-ask_free.ensures.store c.in_ok-ask_free.ensures.same (free-unread _))
    (ran-next g.F.Shelf.told g.F.Shelf.calls g.F.Shelf.faults g.K.Keeper.told g.K.Keeper.calls g.K.Keeper.faults _ _ schema_of (λ a. a) _ _ _ _ _ _ c.in_ok-schema.schema (Ok (answer.Initialised c.initial.result))
    (ran-schema g.F.Shelf.told g.F.Shelf.calls g.F.Shelf.faults g.K.Keeper.told g.K.Keeper.calls g.K.Keeper.faults told c.args.spec.now schema_of _ _ _ (Ok c.in_ok-schema.schema) c.in_ok-schema.ensures.asked c.in_ok-schema.ensures.shelf)
    (ran-next g.F.Shelf.told g.F.Shelf.calls g.F.Shelf.faults g.K.Keeper.told g.K.Keeper.calls g.K.Keeper.faults (AsksBase told (option_copied c.args.base_name) s) _ (λ d. d) (λ a. a) _ _ _ _ _ _ c.in_ok-base.base (Ok (answer.Initialised c.initial.result))
    (ran-base g.F.Shelf.told g.F.Shelf.calls g.F.Shelf.faults g.K.Keeper.told g.K.Keeper.calls g.K.Keeper.faults told (option_copied c.args.base_name) s _ _ _ (Ok c.in_ok-base.base) (rw c.in_ok-schema.ensures.shelf.kept at c.in_ok-base.ensures.asked))
    (ran-inside g.F.Shelf.told g.F.Shelf.calls g.F.Shelf.faults g.K.Keeper.told g.K.Keeper.calls g.K.Keeper.faults _ (λ a. a) _ _ (Ok (answer.Initialised c.initial.result)) (c.initial.result, refl, c.initial.ensures.initial) (λ h. h) (λ h. h))))
