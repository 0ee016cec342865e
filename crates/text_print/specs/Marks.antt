-- What a canonical spelling is written in: lexemes, with the blanks between them.
use Rattle.std.specs.Prelude.{ℕ, ℤ, pos, negsuc, suc, ◌/◌, ◌%◌, ◌||◌, ◌==◌, nat_lt, Bool, not, if◌then◌else◌, List, [], ◌∷◌, ◌++◌, codes}
use Rattle.std.specs.Char.{digit_char}
use Rattle.std.specs.Fmt.{decimal}
use Rattle.std.specs.List.{flat_map}
use Rattle.text_lexer.specs.Lexeme.{Lexeme, sign_of}
use Rattle.text_lexer.specs.declared.token.TokenKind.{TokenKind}
use Rattle.text_lexer.specs.declared.token.TokenKind.TheVariants as k

-- a part of a spelling
pub data Mark : Type 0 where
  blank : List ℕ → Mark
  written : Lexeme → Mark

abbrev pub mark_bytes : Mark → List ℕ
mark_bytes (blank bytes) = bytes
mark_bytes (written lexeme) = lexeme.bytes

-- the text that the marks make
abbrev pub text_of_marks : List Mark → List ℕ
text_of_marks [] = []
text_of_marks (m ∷ marks) = mark_bytes m ++ text_of_marks marks

-- the lexemes among them
abbrev pub lexemes_of_marks : List Mark → List Lexeme
lexemes_of_marks [] = []
lexemes_of_marks (blank bytes ∷ marks) = lexemes_of_marks marks
lexemes_of_marks (written lexeme ∷ marks) = lexeme ∷ lexemes_of_marks marks

-- ---- marks

abbrev pub sp : Mark
sp = blank (codes " ")

-- the end of a line
abbrev pub newline : Mark
newline = blank (10 ∷ [])

abbrev pub sign : TokenKind → Mark
sign kind = written (record { kind = kind; bytes = sign_of kind })

abbrev pub lower : List ℕ → Mark
lower word = written (record { kind = k.Lower; bytes = word })

abbrev pub upper : List ℕ → Mark
upper word = written (record { kind = k.Upper; bytes = word })

abbrev pub digits : ℕ → Mark
digits n = written (record { kind = k.Number; bytes = decimal n })

abbrev pub number : ℤ → List Mark
number (pos n) = digits n ∷ []
number (negsuc n) = sign k.Minus ∷ digits (suc n) ∷ []

-- how a byte is written between quotes: `\"`, `\\`, `\n`, `\r`, `\t`, `\xhh` for another control byte, and itself else
abbrev pub escape : ℕ → List ℕ
escape b =
    if b == 34 then codes "\\\"" else (if b == 92 then codes "\\\\" else (if b == 10 then codes "\\n" else (if b == 13 then codes "\\r" else (if b == 9 then codes "\\t"
    else (if nat_lt b 32 || b == 127 then codes "\\x" ++ digit_char (b / 16) ∷ digit_char (b % 16) ∷ [] else b ∷ [])))))

-- whether a byte is written as itself
abbrev pub is_plain : ℕ → Bool
is_plain b = not (nat_lt b 32 || b == 34 || b == 92 || b == 127)

abbrev pub quoted : List ℕ → List ℕ
quoted bytes = codes "\"" ++ (flat_map escape bytes ++ codes "\"")

abbrev pub text : List ℕ → Mark
text bytes = written (record { kind = k.Text; bytes = quoted bytes })
