use Rattle.std.proofs.Common.{rules, ◌≡◌, refl}
use Rattle.std.specs.Prelude.{Some, None, Err}
use Rattle.app_files.specs.Stages.{Goes}
use Rattle.app_files.proofs.Then.{comes-stopped}
use Rattle.store_keeper.specs.Stored.{stored_of}
use Rattle.app_store.proofs.store.ask_held.Goals as goal

pub returns-in_err-stored-clause-held : goal.returns-in_err-stored-clause-held
returns-in_err-stored-clause-held g c =
    let same : c.from_residual.result ≡ Err c.in_err-stored.field-0.0 = search rules in
    comes-stopped _ _ stored_of _ c.in_err-stored.field-0.0 c.in_err-stored.ensures.loads same

pub returns-in-Some-clause-held : goal.returns-in-Some-clause-held
returns-in-Some-clause-held g c = Goes (Some (stored_of c.in-Some.stored)) (rw c.in-Some.is at c.in_ok-stored.ensures.loads) refl

pub returns-in-None-clause-held : goal.returns-in-None-clause-held
returns-in-None-clause-held g c = Goes None (rw c.in-None.is at c.in_ok-stored.ensures.loads) (refl, refl)
