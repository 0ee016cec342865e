use Rattle.data_print.proofs.TableCuts.{texts-tell}
use Rattle.data_print.proofs.laws.texts_tell_databases.Goals as goal

pub returns : goal.returns
returns c = texts-tell
