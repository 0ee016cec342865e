use Rattle.std.proofs.Common.{rules, ◌≡◌, refl, arith}
use Rattle.std.specs.Prelude.{Err}
use Rattle.app_files.specs.Stages.{Goes}
use Rattle.app_files.proofs.Then.{comes-stopped}
use Rattle.store_keeper.specs.Stored.{stored_of}
use Rattle.app_store.proofs.store.ask_rising.Goals as goal

pub returns-in_err-stored-clause-held : goal.returns-in_err-stored-clause-held
returns-in_err-stored-clause-held g c =
    let same : c.from_residual.result ≡ Err c.in_err-stored.field-0.0 = search rules in
    comes-stopped _ _ stored_of _ c.in_err-stored.field-0.0 c.in_err-stored.ensures.held same

pub returns-then-stored-lt-LAST_VERSION-clause-held : goal.returns-then-stored-lt-LAST_VERSION-clause-held
returns-then-stored-lt-LAST_VERSION-clause-held g c = Goes (stored_of c.in_ok-stored.stored) c.in_ok-stored.ensures.held (refl, c.if-stored-lt-LAST_VERSION.true)

pub returns-else-stored-lt-LAST_VERSION-clause-held : goal.returns-else-stored-lt-LAST_VERSION-clause-held
returns-else-stored-lt-LAST_VERSION-clause-held g c =
    Goes (stored_of c.in_ok-stored.stored) c.in_ok-stored.ensures.held (refl, omega (arith, c.if-stored-lt-LAST_VERSION.false, c.in_ok-stored.ensures.stored.last))
