-- A text in quotes, and the bytes that it stands for.
use Rattle.std.specs.Prelude.{◌≡◌, ◌≤◌, ℕ, ◌/◌, ◌%◌, Bool, not, ◌||◌, ◌==◌, if◌then◌else◌, IsTrue, ◌⊎◌, List, [], ◌∷◌, ◌++◌, Option, Some, None}
use Rattle.std.specs.Char.{is_ascii_control, digit_char}

-- A byte that stands for itself: 34 is the quote, and 92 the backslash.
abbrev pub is_raw : ℕ → Bool
is_raw b = not (is_ascii_control b || (b == 34 || b == 92))

-- What a quote, a backslash, `n`, `r` and `t` stand for after a backslash.
abbrev pub escaped : ℕ → Option ℕ
escaped b =
    if b == 34 then Some 34 else (if b == 92 then Some 92 else (if b == 110 then Some 10
    else (if b == 114 then Some 13 else (if b == 116 then Some 9 else None))))

-- `written` is one character inside the quotes, and stands for `byte`: raw, after a backslash, or as `\x` and two
-- lower-case hexadecimal digits.
abbrev pub WritesByte : List ℕ → ℕ → Type 0
WritesByte written byte =
    ((written ≡ byte ∷ []) × IsTrue (is_raw byte))
    ⊎ ((letter : ℕ) × (written ≡ 92 ∷ letter ∷ []) × (escaped letter ≡ Some byte))
    ⊎ ((byte ≤ 127) × (written ≡ 92 ∷ 120 ∷ digit_char (byte / 16) ∷ digit_char (byte % 16) ∷ []))

-- `inside` stands for the bytes `value`, character by character.
abbrev pub Writes : List ℕ → List ℕ → Type 0
Writes inside [] = inside ≡ []
Writes inside (byte ∷ value) =
    (written rest : List ℕ) × (inside ≡ written ++ rest) × WritesByte written byte × Writes rest value

-- `bytes` is a literal, and stands for `value`.
abbrev pub IsLiteral : List ℕ → List ℕ → Type 0
IsLiteral bytes value = (inside : List ℕ) × (bytes ≡ 34 ∷ (inside ++ 34 ∷ [])) × Writes inside value
