use Rattle.ground_problem.proofs.FactsSaid.{atom_is, input_is}
use Rattle.ground_problem.proofs.laws.inputs_are_facts.Goals as goal

pub returns-clause-atoms : goal.returns-clause-atoms
returns-clause-atoms c = λ a atom. atom_is a atom

pub returns-clause-inputs : goal.returns-clause-inputs
returns-clause-inputs c = λ nodes terms a input. input_is a nodes terms input
