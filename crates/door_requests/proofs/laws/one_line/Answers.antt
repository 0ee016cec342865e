use Rattle.door_requests.specs.Grammar.{line_form}
use Rattle.door_requests.proofs.GrammarAnswers.{line_answer}
use Rattle.door_requests.proofs.OneText.{one_text}
use Rattle.door_requests.proofs.laws.one_line.Goals as goal

pub returns-clause-some : goal.returns-clause-some
returns-clause-some c = (one_text line_form line_answer).some

pub returns-clause-one : goal.returns-clause-one
returns-clause-one c = (one_text line_form line_answer).one

pub returns-clause-tree : goal.returns-clause-tree
returns-clause-tree c = (one_text line_form line_answer).tree

pub returns-clause-refusal : goal.returns-clause-refusal
returns-clause-refusal c = (one_text line_form line_answer).refusal
