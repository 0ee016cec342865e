use Rattle.std.proofs.Common.{rules, ◌≡◌}
use Rattle.std.specs.Prelude.{Err}
use Rattle.std.specs.Option.{option_map}
use Rattle.app_files.specs.Stages.{Stops, Goes}
use Rattle.store_keeper.specs.Stored.{stored_of}
use Rattle.app_store.proofs.store.ask_free.Goals as goal

pub returns-in_err-held-clause-free : goal.returns-in_err-held-clause-free
returns-in_err-held-clause-free g c =
    let same : c.from_residual.result ≡ Err c.in_err-held.field-0.0 = search rules in
    Stops c.in_err-held.field-0.0 c.in_err-held.ensures.loads same

pub returns-clause-free : goal.returns-clause-free
returns-clause-free g c = Goes (option_map stored_of c.in_ok-held.held) c.in_ok-held.ensures.loads c.none_of.ensures
