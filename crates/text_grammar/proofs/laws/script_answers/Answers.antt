use Rattle.text_grammar.proofs.GrammarAnswers.{script_answers}
use Rattle.text_grammar.proofs.laws.script_answers.Goals as goal

pub returns-clause-tree : goal.returns-clause-tree
returns-clause-tree c = script_answers.read

pub returns-clause-means : goal.returns-clause-means
returns-clause-means c = script_answers.means
