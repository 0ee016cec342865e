use Rattle.data_tree.specs.Grammar.{data_form}
use Rattle.data_tree.proofs.GrammarAnswers.{data_answer}
use Rattle.data_parse.proofs.OneText.{one_text}
use Rattle.data_parse.proofs.laws.one_data_text.Goals as goal

pub returns-clause-some : goal.returns-clause-some
returns-clause-some c = (one_text data_form data_answer).some

pub returns-clause-one : goal.returns-clause-one
returns-clause-one c = (one_text data_form data_answer).one

pub returns-clause-tree : goal.returns-clause-tree
returns-clause-tree c = (one_text data_form data_answer).tree

pub returns-clause-refusal : goal.returns-clause-refusal
returns-clause-refusal c = (one_text data_form data_answer).refusal
