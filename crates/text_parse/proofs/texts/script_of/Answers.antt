use Rattle.text_tree.specs.Grammar.{script_form}
use Rattle.text_grammar.proofs.CauseAnswers.{script_answer}
use Rattle.text_parse.proofs.JudgedTexts.{all_placed}
use Rattle.text_parse.proofs.texts.script_of.Goals as goal

pub judged-requires-clause-placed : goal.judged-requires-clause-placed
judged-requires-clause-placed c =
    all_placed script_form script_answer c.args.text.now c.args.tokens.now c.whole_script-read.result c.whole_script-read.new.cursor
    (rw c.new-cursor.ensures at c.whole_script-read.ensures)

pub returns : goal.returns
returns c = c.judged.ensures _ (rw c.new-cursor.ensures at c.whole_script-read.ensures)
