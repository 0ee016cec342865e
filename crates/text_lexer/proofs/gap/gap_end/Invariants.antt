use Rattle.std.proofs.Common.{◌≡◌, ◌+◌, drop}
use Rattle.text_lexer.specs.Gap.{gap_from, gap_len}
use Rattle.text_lexer.proofs.gap.gap_end.Given as goal

abbrev pub invariant-loop-at : goal.invariant-loop-at
invariant-loop-at l = l.at + gap_from l.in_comment (drop l.at l.text) ≡ gap_len l.text
