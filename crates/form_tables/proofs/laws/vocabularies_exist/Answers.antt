use Rattle.form_tables.proofs.TermsFormed.{terms_within, terms_herbrand}
use Rattle.form_tables.proofs.Vocabularies.{words, is_vocabulary}
use Rattle.form_tables.proofs.laws.vocabularies_exist.Goals as goal

pub returns-clause-exists : goal.returns-clause-exists
returns-clause-exists c = λ g f terms over formed. (words g f terms, is_vocabulary g f terms over formed)

pub returns-clause-within : goal.returns-clause-within
returns-clause-within c = λ g f n terms over lists. terms_within g f over terms n lists

pub returns-clause-herbrand : goal.returns-clause-herbrand
returns-clause-herbrand c = λ g f terms over lists. terms_herbrand g f over terms lists
