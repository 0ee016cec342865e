-- What holds of the answers for lines.
use Rattle.door_requests.specs.Grammar as g
use Rattle.door_requests.proofs.GrammarFits.{line_fits, line_limited, line_counts}
use Rattle.door_requests.proofs.Refusals.{OneAnswer, one_answer}

pub line_answer : OneAnswer g.line_form
line_answer = one_answer g.line_form (record { is_fine = line_fits; is_limited = line_limited; counts = line_counts })
