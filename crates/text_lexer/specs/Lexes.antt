-- Which tokens a text has: blanks, comments and tokens make it up in order, and no token could have been longer.
use Rattle.std.specs.Prelude.{◌≡◌, ℕ, ◌<◌, ◌≤◌, Bool, not, ◌||◌, ◌==◌, IsTrue, ◌⊎◌, List, [], ◌∷◌, ◌++◌, length, drop, slice_range}
use Rattle.std.specs.List.{All, list_all, concat}
use Rattle.std.specs.Str.{IsUtf8}
use Rattle.text_lexer.specs.declared.token.Token.{Token}
use Rattle.text_lexer.specs.declared.token.TokenKind.{TokenKind}
use Rattle.text_lexer.specs.Lexeme.{HasForm, IsLexeme}
use Rattle.text_lexer.specs.Token.{lexeme_of}

-- a space, a tab, a carriage return or the end of a line
abbrev pub is_blank : ℕ → Bool
is_blank b = (b == 32 || b == 9) || (b == 13 || b == 10)

-- A blank; or a comment: `#`, and the rest of the line with its end, the byte 10.
abbrev pub IsBlankOrComment : List ℕ → Type 0
IsBlankOrComment bytes =
    ((b : ℕ) × (bytes ≡ b ∷ []) × IsTrue (is_blank b))
    ⊎ ((rest : List ℕ) × (bytes ≡ 35 ∷ (rest ++ 10 ∷ [])) × IsTrue (list_all (λ b. not (b == 10)) rest))

-- Blanks and comments, one after another.
abbrev pub IsGap : List ℕ → Type 0
IsGap bytes = (pieces : List (List ℕ)) × (concat pieces ≡ bytes) × All IsBlankOrComment pieces

-- The token is a lexeme at its place, and no more bytes from there on have the form of a token.
pub record IsTokenOf (text : List ℕ) (token : Token) : Type 0 where
  pub within : token.end ≤ length text
  pub lexeme : IsLexeme (lexeme_of text token)
  pub longest :
      (kind : TokenKind) (end : ℕ) → token.end < end → end ≤ length text →
      ¬ (HasForm kind (slice_range text token.at end))

-- From the offset `at` on the text has these tokens. The end of the text ends its last line.
abbrev pub LexesFrom : List ℕ → ℕ → List Token → Type 0
LexesFrom text at [] = IsGap (drop at text ++ 10 ∷ [])
LexesFrom text at (token ∷ tokens) =
    (at ≤ token.at) × IsGap (slice_range text at token.at) × IsTokenOf text token × LexesFrom text token.end tokens

-- The text is UTF-8, and these are its tokens.
abbrev pub Lexes : List ℕ → List Token → Type 0
Lexes text tokens = IsUtf8 text × LexesFrom text 0 tokens
