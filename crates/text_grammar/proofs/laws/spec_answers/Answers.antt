use Rattle.text_grammar.proofs.GrammarAnswers.{spec_answers}
use Rattle.text_grammar.proofs.laws.spec_answers.Goals as goal

pub returns-clause-tree : goal.returns-clause-tree
returns-clause-tree c = spec_answers.read

pub returns-clause-means : goal.returns-clause-means
returns-clause-means c = spec_answers.means
