use Rattle.form_tables.proofs.Closing.{readable, satisfiable}
use Rattle.form_tables.proofs.laws.tables_are_complete.Goals as goal

pub returns : goal.returns
returns c = λ g f terms v over normal words. (readable g f terms v over normal words, satisfiable g f terms v over normal words)
