use Rattle.certify_recheck.proofs.Growing.{one_answer, parts}
use Rattle.certify_recheck.proofs.laws.parts_are_lawful_trees.Goals as goal

pub returns-clause-trees : goal.returns-clause-trees
returns-clause-trees c = parts

pub returns-clause-one_answer : goal.returns-clause-one_answer
returns-clause-one_answer c = one_answer
