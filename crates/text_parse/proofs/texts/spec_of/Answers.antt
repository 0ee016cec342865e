use Rattle.text_tree.specs.Grammar.{spec_form}
use Rattle.text_grammar.proofs.CauseAnswers.{spec_answer}
use Rattle.text_parse.proofs.JudgedTexts.{all_placed}
use Rattle.text_parse.proofs.texts.spec_of.Goals as goal

pub judged-requires-clause-placed : goal.judged-requires-clause-placed
judged-requires-clause-placed c =
    all_placed spec_form spec_answer c.args.text.now c.args.tokens.now c.whole_spec-read.result c.whole_spec-read.new.cursor
    (rw c.new-cursor.ensures at c.whole_spec-read.ensures)

pub returns : goal.returns
returns c = c.judged.ensures _ (rw c.new-cursor.ensures at c.whole_spec-read.ensures)
