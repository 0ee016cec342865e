use Rattle.data_tree.proofs.GrammarAnswers.{data_answer}
use Rattle.data_tree.proofs.laws.one_data_answer.Goals as goal

pub returns-clause-some : goal.returns-clause-some
returns-clause-some c = data_answer.some

pub returns-clause-one : goal.returns-clause-one
returns-clause-one c = data_answer.one

pub returns-clause-tree : goal.returns-clause-tree
returns-clause-tree c = data_answer.tree

pub returns-clause-refusal : goal.returns-clause-refusal
returns-clause-refusal c = data_answer.refusal

pub returns-clause-got : goal.returns-clause-got
returns-clause-got c = data_answer.got

pub returns-clause-stuck : goal.returns-clause-stuck
returns-clause-stuck c = data_answer.stuck
