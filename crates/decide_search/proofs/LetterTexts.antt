-- Letters are texts.
use Rattle.std.proofs.Common.{ℕ, ◌≤◌, List, length, arith}
use Rattle.std.specs.Str.{IsAscii}
use Rattle.std.proofs.lemmas.Str.{IsUtf8-from_ascii}
use Rattle.text_ast.specs.Words.{IsText}

pub letters_text : (bytes : List ℕ) → IsAscii bytes → length bytes ≤ 7 → IsText bytes
letters_text bytes ascii short = record { utf8 = IsUtf8-from_ascii bytes ascii; short = omega arith }
