use Rattle.data_read.proofs.WordsTyped.{command-words, specification-words, tree-words}
use Rattle.data_read.proofs.words.schemas_have_words.Goals as goal

pub returns-clause-specifications : goal.returns-clause-specifications
returns-clause-specifications c = specification-words

pub returns-clause-commands : goal.returns-clause-commands
returns-clause-commands c = command-words

pub returns-clause-tree : goal.returns-clause-tree
returns-clause-tree c = tree-words
