use Rattle.form_terms.proofs.Examples.{not_read}
use Rattle.form_terms.proofs.laws.examples_are_counted.Goals as goal

pub returns-clause-five_not_read : goal.returns-clause-five_not_read
returns-clause-five_not_read c = not_read
