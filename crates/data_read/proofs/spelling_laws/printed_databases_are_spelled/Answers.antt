use Rattle.data_read.proofs.Spelled.{printed-spelled}
use Rattle.data_read.proofs.spelling_laws.printed_databases_are_spelled.Goals as goal

pub returns : goal.returns
returns c = printed-spelled
