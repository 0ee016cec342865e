use Rattle.std.proofs.Common.{length, slice_range, ◌-◌}
use Rattle.text_lexer.proofs.Values.{IsUnescaping}
use Rattle.text_lexer.proofs.literal.unescape.Given as goal

abbrev pub invariant-loop-rest : goal.invariant-loop-rest
invariant-loop-rest l = IsUnescaping (slice_range l.literal 1 (length l.literal - 1)) l.rest l.value.items

abbrev pub decreases-loop-rest : goal.decreases-loop-rest
decreases-loop-rest l = length l.rest
