use Rattle.data_read.proofs.Short.{few}
use Rattle.data_read.proofs.spelling_laws.printed_databases_are_short.Goals as goal

pub returns : goal.returns
returns c = few
