use Rattle.std.proofs.Common.{◌≡◌, ◌+◌, ◌≤◌, length}
use Rattle.text_lexer.specs.LiteralEnd.{literal_from}
use Rattle.text_lexer.proofs.literal.literal_end.Given as goal

abbrev pub invariant-loop-rest : goal.invariant-loop-rest
invariant-loop-rest l =
    (literal_from 0 l.at l.count l.rest ≡ literal_from 0 1 0 l.text) × (l.at + length l.rest ≡ 1 + length l.text) × (l.count ≤ l.at) × (1 ≤ l.at)

abbrev pub decreases-loop-rest : goal.decreases-loop-rest
decreases-loop-rest l = length l.rest
