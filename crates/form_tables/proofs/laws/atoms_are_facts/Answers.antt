use Rattle.form_tables.proofs.AtomFacts.{atom_facts}
use Rattle.form_tables.proofs.laws.atoms_are_facts.Goals as goal

pub returns : goal.returns
returns c = λ a env atom facts e. atom_facts a env atom facts e
