use Rattle.form_terms.proofs.Readings.{read_passes, passes_read}
use Rattle.form_terms.proofs.laws.reading_is_passing.Goals as goal

pub returns-clause-passes : goal.returns-clause-passes
returns-clause-passes c = λ g f s choice terms spoken is_there holds over normal speaks fits agree r.
    read_passes g f s choice terms spoken is_there holds agree speaks over normal fits r

pub returns-clause-reads : goal.returns-clause-reads
returns-clause-reads c = λ g f s choice terms spoken is_there holds n over normal speaks structure arises agree p.
    passes_read g f s choice terms spoken is_there holds agree speaks over normal structure n arises p
