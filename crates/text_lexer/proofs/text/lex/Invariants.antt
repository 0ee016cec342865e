use Rattle.std.proofs.Common.{◌-◌, length}
use Rattle.text_lexer.proofs.OneAnswer.{IsReading}
use Rattle.text_lexer.proofs.text.lex.Given as goal

abbrev pub invariant-loop-at : goal.invariant-loop-at
invariant-loop-at l = IsReading l.text l.tokens.items l.at

abbrev pub decreases-loop-at : goal.decreases-loop-at
decreases-loop-at l = length l.text - l.at
