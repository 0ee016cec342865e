-- What holds of the answers for databases' texts.
use Rattle.data_tree.specs.Grammar as g
use Rattle.data_tree.proofs.GrammarFits.{data_fits, data_limited, data_counts}
use Rattle.data_tree.proofs.Refusals.{OneAnswer, one_answer}

pub data_answer : OneAnswer g.data_form
data_answer = one_answer g.data_form (record { is_fine = data_fits; is_limited = data_limited; counts = data_counts })
