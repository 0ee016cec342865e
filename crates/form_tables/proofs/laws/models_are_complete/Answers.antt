use Rattle.form_tables.proofs.Modeled.{from_modeled, modeled}
use Rattle.form_tables.proofs.laws.models_are_complete.Goals as goal

pub returns : goal.returns
returns c = λ g f terms v texts over normal words are. (modeled g f terms v over normal words texts are, from_modeled g f terms v over normal words texts are)
