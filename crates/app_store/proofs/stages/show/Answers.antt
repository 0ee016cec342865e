use Rattle.std.proofs.Common.{rules, ◌≡◌, refl}
use Rattle.std.specs.Prelude.{Ok, Err}
use Rattle.store_keeper.specs.Stored.{stored_of}
use Rattle.app_store.specs.declared.answer.StoreAnswer.TheVariants as answer
use Rattle.app_store.proofs.Ran.{ran-inside, ran-next, ran-stopped, ran-store}
use Rattle.app_store.proofs.Staged.{held-unread}
use Rattle.app_store.proofs.stages.show.Goals as goal

pub returns-in_err-held-clause-ran : goal.returns-in_err-held-clause-ran
returns-in_err-held-clause-ran g c =
    let same : c.from_residual.result ≡ Err c.in_err-held.field-0.0 = search rules in
    ran-stopped g.F.Shelf.told g.F.Shelf.calls g.F.Shelf.faults g.K.Keeper.told g.K.Keeper.calls g.K.Keeper.faults _ _ stored_of (λ a. a) _ _ _ _ c.in_err-held.field-0.0 _
    (ran-store g.F.Shelf.told g.F.Shelf.calls g.F.Shelf.faults g.K.Keeper.told g.K.Keeper.calls g.K.Keeper.faults _ stored_of _ _ _ (Err c.in_err-held.field-0.0) c.in_err-held.ensures.held c.in_err-held.ensures.store c.in_err-held.ensures.same (held-unread _)) same

pub returns-clause-ran : goal.returns-clause-ran
returns-clause-ran g c =
    ran-next g.F.Shelf.told g.F.Shelf.calls g.F.Shelf.faults g.K.Keeper.told g.K.Keeper.calls g.K.Keeper.faults _ _ stored_of (λ a. a) _ _ _ _ _ _ c.in_ok-held.held (Ok (answer.Shown c.in_ok-held.held))
    (ran-store g.F.Shelf.told g.F.Shelf.calls g.F.Shelf.faults g.K.Keeper.told g.K.Keeper.calls g.K.Keeper.faults _ stored_of _ _ _ (Ok c.in_ok-held.held) c.in_ok-held.ensures.held c.in_ok-held.ensures.store c.in_ok-held.ensures.same (held-unread _))
    (ran-inside g.F.Shelf.told g.F.Shelf.calls g.F.Shelf.faults g.K.Keeper.told g.K.Keeper.calls g.K.Keeper.faults _ (λ a. a) _ _ (Ok (answer.Shown c.in_ok-held.held)) (c.in_ok-held.held, refl, refl) (λ h. h) (λ h. h))
