use Rattle.form_tables.proofs.Closing.{table_reads}
use Rattle.form_tables.proofs.Own.{own_table}
use Rattle.form_tables.proofs.Sound.{sound, named_there}
use Rattle.form_tables.proofs.laws.structure_has_table.Goals as goal

pub returns-clause-consistent : goal.returns-clause-consistent
returns-clause-consistent c = λ g f s choice terms v structure fits words. sound g f s choice terms v structure fits words

pub returns-clause-agrees : goal.returns-clause-agrees
returns-clause-agrees c = λ g f s choice terms v structure fits words.
    let own = own_table g f s choice v.named in
    record { there = λ t listed. named_there g f s choice terms v structure fits words t listed; atoms = own.atoms }

pub returns-clause-reads : goal.returns-clause-reads
returns-clause-reads c = λ g f s choice terms v over normal structure words p. table_reads g f terms v over normal words s choice structure p
