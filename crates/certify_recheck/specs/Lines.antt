-- The lines of a certificate, and what each says.
use Rattle.std.specs.Prelude.{ℕ, ◌+◌, ◌==◌, Bool, cond, List, [], ◌∷◌, ◌++◌, Option, None, Some, codes, drop, length, map, take}
use Rattle.std.specs.Str.{bytes_eq}
use Rattle.certify_recheck.specs.Numbers.{number_of}
use Rattle.certify_recheck.specs.declared.line.Line.{Line}
use Rattle.certify_recheck.specs.declared.line.Line.TheVariants.{Heading, Duty, Split, Clause, Theory, End, Other}

-- the text's lines without their ends: each ends with the byte 10, and what stands behind the last end is no line
abbrev pub whole_lines_behind : List ℕ → List ℕ → List (List ℕ)
whole_lines_behind front [] = []
whole_lines_behind front (b ∷ bs) = cond (b == 10) (front ∷ whole_lines_behind [] bs) (whole_lines_behind (front ++ b ∷ []) bs)

abbrev pub whole_lines : List ℕ → List (List ℕ)
whole_lines text = whole_lines_behind [] text

-- how many bytes lines take, with their ends
abbrev pub size_of_lines : List (List ℕ) → ℕ
size_of_lines [] = 0
size_of_lines (l ∷ ls) = length l + 1 + size_of_lines ls

abbrev pub begins_with : List ℕ → List ℕ → Bool
begins_with bytes word = bytes_eq (take (length word) bytes) word

-- a line with a number, if the bytes are one
abbrev pub numbered : (ℕ → Line) → Option ℕ → Line
numbered line None = Other
numbered line (Some n) = line n

-- a line of a word alone
abbrev pub plain_line_of : List ℕ → Line
plain_line_of bytes = cond (bytes_eq bytes (codes "theory")) Theory (cond (bytes_eq bytes (codes "certificate 1")) Heading (cond (bytes_eq bytes (codes "end")) End Other))

-- what a line says
unfoldable pub line_of : List ℕ → Line
line_of bytes =
    cond (begins_with bytes (codes "clause ")) (numbered Clause (number_of (drop 7 bytes)))
    (cond (begins_with bytes (codes "split ")) (numbered Split (number_of (drop 6 bytes)))
    (cond (begins_with bytes (codes "duty ")) (numbered Duty (number_of (drop 5 bytes)))
    (plain_line_of bytes)))

-- what the lines say that stand in a text from a byte on
abbrev pub lines_at : List ℕ → ℕ → List Line
lines_at text at = map line_of (whole_lines (drop at text))
