use Rattle.data_tree.specs.Grammar.{data_form}
use Rattle.data_tree.proofs.GrammarAnswers.{data_answer}
use Rattle.data_parse.proofs.JudgedTexts.{all_placed}
use Rattle.data_parse.proofs.texts.tables_of.Goals as goal

pub judged-requires-clause-placed : goal.judged-requires-clause-placed
judged-requires-clause-placed c =
    all_placed data_form data_answer c.args.text.now c.args.tokens.now c.whole-read.result c.whole-read.new.cursor
    (rw c.new-cursor.ensures at c.whole-read.ensures)

pub returns : goal.returns
returns c = c.judged.ensures _ (rw c.new-cursor.ensures at c.whole-read.ensures)
