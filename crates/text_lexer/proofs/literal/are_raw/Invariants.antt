use Rattle.std.proofs.Common.{◌≡◌, ◌&&◌, drop}
use Rattle.std.specs.List.{list_all}
use Rattle.text_lexer.specs.Literal.{is_raw}
use Rattle.text_lexer.proofs.literal.are_raw.Given as goal

abbrev pub invariant-loop-byte : goal.invariant-loop-byte
invariant-loop-byte l = (l.raw && list_all is_raw (drop l.byte-index l.bytes)) ≡ list_all is_raw l.bytes
