use Rattle.text_grammar.proofs.CauseAnswers.{spec_answer}
use Rattle.text_grammar.proofs.cause_laws.one_spec_answer.Goals as goal

pub returns-clause-some : goal.returns-clause-some
returns-clause-some c = spec_answer.some

pub returns-clause-tree : goal.returns-clause-tree
returns-clause-tree c = spec_answer.tree

pub returns-clause-refusal : goal.returns-clause-refusal
returns-clause-refusal c = spec_answer.refusal

pub returns-clause-got : goal.returns-clause-got
returns-clause-got c = spec_answer.got

pub returns-clause-stuck : goal.returns-clause-stuck
returns-clause-stuck c = spec_answer.stuck
