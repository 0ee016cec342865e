-- How far the blanks and comments at the front of a text go, as the reader counts.
use Rattle.std.specs.Prelude.{ℕ, suc, Bool, true, false, not, ◌==◌, if◌then◌else◌, List, [], ◌∷◌}
use Rattle.text_lexer.specs.Lexes.{is_blank}

-- the bytes at the front that are blanks or stand in comments, where a comment may have begun before
abbrev pub gap_from : Bool → List ℕ → ℕ
gap_from in_comment [] = 0
gap_from true (b ∷ rest) = suc (gap_from (not (b == 10)) rest)
gap_from false (b ∷ rest) =
    if b == 35 then suc (gap_from true rest) else (if is_blank b then suc (gap_from false rest) else 0)

abbrev pub gap_len : List ℕ → ℕ
gap_len = gap_from false
