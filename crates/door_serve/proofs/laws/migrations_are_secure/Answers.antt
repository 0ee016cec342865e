use Rattle.door_serve.proofs.SecureMigrations.{secure-migrations}
use Rattle.door_serve.proofs.laws.migrations_are_secure.Goals as goal

pub returns : goal.returns
returns c = secure-migrations c.accepted_are_secure.ensures
