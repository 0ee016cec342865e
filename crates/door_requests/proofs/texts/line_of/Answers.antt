use Rattle.door_requests.specs.Grammar.{line_form}
use Rattle.door_requests.proofs.GrammarAnswers.{line_answer}
use Rattle.door_requests.proofs.JudgedTexts.{all_placed}
use Rattle.door_requests.proofs.texts.line_of.Goals as goal

pub judged-requires-clause-placed : goal.judged-requires-clause-placed
judged-requires-clause-placed c =
    all_placed line_form line_answer c.args.text.now c.args.tokens.now c.whole-read.result c.whole-read.new.cursor
    (rw c.new-cursor.ensures at c.whole-read.ensures)

pub returns : goal.returns
returns c = c.judged.ensures _ (rw c.new-cursor.ensures at c.whole-read.ensures)
