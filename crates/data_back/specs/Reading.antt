-- What stands at the front of a text, as functions: a value and the bytes behind it, or nothing where something else stands there.
use Rattle.std.specs.Prelude.{◌≡◌, ℕ, zero, suc, ℤ, pos, negsuc, ◌+◌, ◌-◌, ◌*◌, ◌^◌, Bool, true, false, ◌==◌, nat_lt, if◌then◌else◌, List, [], ◌∷◌, ◌++◌, length, take, drop, Option, None, Some, Result, Ok, Err}
use Rattle.std.specs.Char.{is_ascii_digit}
use Rattle.std.specs.Int.{is_in_range}
use Rattle.std.specs.List.{prefix_len}
use Rattle.std.specs.Str.{bytes_eq}
use Rattle.text_ast.specs.Words.{is_name_byte}
use Rattle.text_lexer.specs.Literal.{escaped}
use Rattle.data_back.specs.declared.stop.Stop.{Stop}
use Rattle.data_back.specs.declared.stop.Stop.TheVariants as stop

abbrev pub Answer : Type 0 → Type 0
Answer A = Option (A × List ℕ)

-- what is read behind it
abbrev pub after : {A B : Type 0} → (A → List ℕ → Answer B) → Answer A → Answer B
after next None = None
after next (Some p) = next p.0 p.1

-- what is read behind a word that may stand there, and where it does not
abbrev pub choose : {B : Type 0} → (List ℕ → Answer B) → Answer B → Answer (Unit {0}) → Answer B
choose next other None = other
choose next other (Some p) = next p.1

-- It gives what the answer has, and leaves the bytes behind it, or says that something else stands there, unless memory ran out.
abbrev pub ReadsAs : {A B : Type 0} → (A → B) → Answer B → Result A Stop → List ℕ → Type 0
ReadsAs view answer (Ok x) rest = answer ≡ Some (view x, rest)
ReadsAs view answer (Err stop.Unlike) rest = answer ≡ None
ReadsAs view answer (Err stop.OutOfMemory) rest = Unit {0}

abbrev pub Reads : {A : Type 0} → Answer A → Result A Stop → List ℕ → Type 0
Reads answer result rest = ReadsAs (λ x. x) answer result rest

-- It says whether the word stood there, and leaves the bytes behind it, or all.
abbrev pub Takes : Answer (Unit {0}) → List ℕ → Bool → List ℕ → Type 0
Takes answer text true rest = answer ≡ Some (tt, rest)
Takes answer text false rest = (answer ≡ None) × (rest ≡ text)

-- ---- words and numbers

abbrev pub word_at : List ℕ → List ℕ → Answer (Unit {0})
word_at word text = if bytes_eq (take (length word) text) word then Some (tt, drop (length word) text) else None

-- the digits at the front, behind those of a number, where they write one of 64 bits
abbrev pub number_from : ℕ → List ℕ → Answer ℕ
number_from n [] = Some (n, [])
number_from n (c ∷ text) =
    if is_ascii_digit c then (if nat_lt (10 * n + (c - 48)) (2 ^ 64) then number_from (10 * n + (c - 48)) text else None) else Some (n, c ∷ text)

abbrev pub minus : ℕ → ℤ
minus zero = pos 0
minus (suc n) = negsuc n

abbrev pub signed_at : List ℕ → Answer ℤ
signed_at [] = Some (pos 0, [])
signed_at (c ∷ text) =
    if c == 45 then after (λ n rest. if nat_lt (2 ^ 63) n then None else Some (minus n, rest)) (number_from 0 text)
    else after (λ n rest. if nat_lt n (2 ^ 63) then Some (pos n, rest) else None) (number_from 0 (c ∷ text))

-- ---- texts in quotes

abbrev pub quote : List ℕ
quote = 34 ∷ []

abbrev pub hex_digit : ℕ → Option ℕ
hex_digit c = if is_ascii_digit c then Some (c - 48) else (if is_in_range 97 102 c then Some (c - 87) else None)

abbrev pub hex_pair : Option ℕ → Option ℕ → List ℕ → Answer ℕ
hex_pair None low rest = None
hex_pair (Some high) None rest = None
hex_pair (Some high) (Some low) rest = Some (16 * high + low, rest)

abbrev pub hex_at : List ℕ → Answer ℕ
hex_at [] = None
hex_at (a ∷ []) = None
hex_at (a ∷ b ∷ rest) = hex_pair (hex_digit a) (hex_digit b) rest

abbrev pub letter_at : Option ℕ → List ℕ → Answer ℕ
letter_at None rest = None
letter_at (Some byte) rest = Some (byte, rest)

-- behind a backslash
abbrev pub escaped_at : List ℕ → Answer ℕ
escaped_at [] = None
escaped_at (c ∷ text) = if c == 120 then hex_at text else letter_at (escaped c) text

-- the byte that is written at the front, between quotes
abbrev pub character_at : List ℕ → Answer ℕ
character_at [] = None
character_at (c ∷ text) = if c == 92 then escaped_at text else Some (c, text)

-- the bytes before the closing quote, behind others, in at most so many turns
abbrev pub text_from : List ℕ → ℕ → List ℕ → Answer (List ℕ)
text_from bytes zero text = None
text_from bytes (suc turns) text =
    choose (λ rest. Some (bytes, rest)) (after (λ byte rest. text_from (bytes ++ byte ∷ []) turns rest) (character_at text)) (word_at quote text)

abbrev pub text_at : List ℕ → Answer (List ℕ)
text_at text = after (λ _ rest. text_from [] (length rest) rest) (word_at quote text)

-- ---- names

-- the letters, digits and `_` at the front
abbrev pub name_at : List ℕ → Answer (List ℕ)
name_at text = Some (take (prefix_len is_name_byte text) text, drop (prefix_len is_name_byte text) text)
