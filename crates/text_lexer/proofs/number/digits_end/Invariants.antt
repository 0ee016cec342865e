use Rattle.std.proofs.Common.{◌≡◌, ◌+◌, ◌-◌, ◌≤◌, length, drop, take, IsTrue}
use Rattle.std.specs.Char.{is_ascii_digit}
use Rattle.std.specs.List.{list_all, prefix_len}
use Rattle.text_lexer.proofs.number.digits_end.Given as goal

abbrev pub invariant-loop-end : goal.invariant-loop-end
invariant-loop-end l =
    (l.end + prefix_len is_ascii_digit (drop l.end l.text) ≡ prefix_len is_ascii_digit l.text) × (l.end ≤ length l.text) × IsTrue (list_all is_ascii_digit (take l.end l.text))

abbrev pub decreases-loop-end : goal.decreases-loop-end
decreases-loop-end l = length l.text - l.end
