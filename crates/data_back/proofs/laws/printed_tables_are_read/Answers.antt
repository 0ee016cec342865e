use Rattle.data_back.proofs.TablesRead.{printed-read}
use Rattle.data_back.proofs.laws.printed_tables_are_read.Goals as goal

pub returns : goal.returns
returns c = printed-read
