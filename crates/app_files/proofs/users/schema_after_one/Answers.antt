use Rattle.std.proofs.Common.{ap}
use Rattle.std.specs.Prelude.{Ok}
use Rattle.type_typing.specs.Names.{plain_of}
use Rattle.type_typing.specs.Outcome.{◌>>=◌}
use Rattle.app_files.proofs.users.schema_after_one.Goals as goal

pub returns : goal.returns
unfolding plain_of
returns c = ap (λ typed. typed >>= (λ step. Ok step.0)) c.in_ok-after.ensures
