-- A token in its text, and the kinds of tokens that are words.
use Rattle.std.specs.Prelude.{◌≡◌, ◌⊎◌, ℕ, List}
use Rattle.std.specs.List.{All}
use Rattle.std.specs.Str.{IsUtf8}
use Rattle.text_lexer.specs.Lexeme.{IsLexeme}
use Rattle.text_lexer.specs.Token.{IsIn, lexeme_of}
use Rattle.text_lexer.specs.declared.token.Token.{Token}
use Rattle.text_lexer.specs.declared.token.TokenKind.{TokenKind}
use Rattle.text_lexer.specs.declared.token.TokenKind.TheVariants.{Upper, Lower}

-- The token is one of the text, which is UTF-8.
pub record IsTokenIn (text : List ℕ) (token : Token) : Type 0 where
  pub utf8 : IsUtf8 text
  pub within : IsIn text token
  pub lexeme : IsLexeme (lexeme_of text token)

-- All tokens are ones of the text, which is UTF-8.
pub record AreTokensIn (text : List ℕ) (tokens : List Token) : Type 0 where
  pub utf8 : IsUtf8 text
  pub within : All (IsIn text) tokens
  pub lexemes : All (λ token. IsLexeme (lexeme_of text token)) tokens

abbrev pub IsWordKind : TokenKind → Type 0
IsWordKind kind = (kind ≡ Upper) ⊎ (kind ≡ Lower)
