-- What is printed at the front of a text is read.
use Rattle.std.specs.Prelude.{◌≡◌, ◌<◌, ◌^◌, ℕ, ℤ, false, List, [], ◌∷◌, ◌++◌, Some, FitsSigned}
use Rattle.std.specs.Char.{is_ascii_digit}
use Rattle.std.specs.Fmt.{decimal, signed_decimal}
use Rattle.std.specs.Int.{w64}
use Rattle.text_ast.specs.Words.{is_name_byte, IsName}
use Rattle.text_print.specs.Marks.{quoted}
use Rattle.data_back.specs.Reading.{word_at, number_from, signed_at, text_at, name_at}

-- no digit stands at the front
abbrev pub EndsNumber : List ℕ → Type 0
EndsNumber [] = Unit {0}
EndsNumber (c ∷ rest) = is_ascii_digit c ≡ false

-- nothing stands at the front that goes on with a name
abbrev pub EndsName : List ℕ → Type 0
EndsName [] = Unit {0}
EndsName (c ∷ rest) = is_name_byte c ≡ false

-- what is printed is read, and the bytes behind it are left
pub record PiecesAreRead : Type 0 where
  pub word : (word rest : List ℕ) → word_at word (word ++ rest) ≡ Some (tt, rest)
  pub number : (n : ℕ) (rest : List ℕ) → n < 2 ^ 64 → EndsNumber rest → number_from 0 (decimal n ++ rest) ≡ Some (n, rest)
  pub signed : (n : ℤ) (rest : List ℕ) → FitsSigned w64 n → EndsNumber rest → signed_at (signed_decimal n ++ rest) ≡ Some (n, rest)
  pub text : (bytes rest : List ℕ) → text_at (quoted bytes ++ rest) ≡ Some (bytes, rest)
  pub name : (name rest : List ℕ) → IsName name → EndsName rest → name_at (name ++ rest) ≡ Some (name, rest)
