use Rattle.door_serve.proofs.NeverAhead.{never-ahead}
use Rattle.door_serve.proofs.laws.no_session_runs_ahead.Goals as goal

pub returns : goal.returns
returns c = never-ahead
