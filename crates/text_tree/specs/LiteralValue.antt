-- What the bytes of a literal stand for, as a function.
use Rattle.std.specs.Prelude.{ℕ, zero, suc, ◌+◌, ◌*◌, ◌==◌, if◌then◌else◌, List, [], ◌∷◌, slice_index}
use Rattle.std.specs.Char.{digit_value}

-- what the bytes after a backslash stand for
abbrev pub escape_value : List ℕ → ℕ
escape_value after =
    let letter = slice_index after 0 in
    if letter == 110 then 10 else (if letter == 114 then 13 else (if letter == 116 then 9
    else (if letter == 120 then digit_value (slice_index after 1) * 16 + digit_value (slice_index after 2) else letter)))

-- how many bytes after a backslash belong to it
abbrev pub escape_size : List ℕ → ℕ
escape_size after = if slice_index after 0 == 120 then 3 else 1

-- From the bytes after the opening quote on; the first so many are part of the character before them.
abbrev pub value_from : ℕ → List ℕ → List ℕ
value_from n [] = []
value_from (suc n) (b ∷ rest) = value_from n rest
value_from zero (b ∷ rest) =
    if b == 34 then [] else (if b == 92 then escape_value rest ∷ value_from (escape_size rest) rest else b ∷ value_from zero rest)

abbrev pub literal_value : List ℕ → List ℕ
literal_value [] = []
literal_value (quote ∷ rest) = value_from 0 rest
