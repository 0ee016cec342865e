use Rattle.text_grammar.proofs.CauseAnswers.{script_answer}
use Rattle.text_grammar.proofs.cause_laws.one_script_answer.Goals as goal

pub returns-clause-some : goal.returns-clause-some
returns-clause-some c = script_answer.some

pub returns-clause-tree : goal.returns-clause-tree
returns-clause-tree c = script_answer.tree

pub returns-clause-refusal : goal.returns-clause-refusal
returns-clause-refusal c = script_answer.refusal

pub returns-clause-got : goal.returns-clause-got
returns-clause-got c = script_answer.got

pub returns-clause-stuck : goal.returns-clause-stuck
returns-clause-stuck c = script_answer.stuck
