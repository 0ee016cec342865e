-- Where the bytes of a name lie.
use Rattle.std.specs.Prelude.{ℕ, ◌≤◌, ◌<◌, List, take}
use Rattle.text_lexer.specs.declared.limits.TheConstants.{MOST_NAME_BYTES}
use Rattle.text_ast.specs.declared.rooms.TheConstants.{MOST_IN_PLACE}
use Rattle.text_ast.specs.declared.rooms.Cells.{Cells}
use Rattle.text_ast.specs.declared.rooms.Cells.TheVariants as cells

-- the first of the cells, as many as the length says
abbrev pub bytes_in : Cells → List ℕ
bytes_in (cells.Short len bytes) = take len bytes
bytes_in (cells.Long len bytes) = take len bytes.value

-- at most 14 bytes lie in place; 15 to 64 lie in a box
abbrev pub Fits : Cells → Type 0
Fits (cells.Short len bytes) = len ≤ MOST_IN_PLACE
Fits (cells.Long len bytes) = (MOST_IN_PLACE < len) × (len ≤ MOST_NAME_BYTES)
