use Rattle.form_terms.proofs.Needed.{needed_set, needed_least}
use Rattle.form_terms.proofs.laws.needed_is_least.Goals as goal

pub returns-clause-needed : goal.returns-clause-needed
returns-clause-needed c = λ g f over. needed_set g f over

pub returns-clause-least : goal.returns-clause-least
returns-clause-least c = λ g f test sort has need. needed_least g f test has g.sorts sort need
