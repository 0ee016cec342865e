-- What it is to spell a tree again, offsets aside.
use Rattle.std.specs.Prelude.{◌≡◌, ◌≤◌, ℕ, List, map, length}
use Rattle.std.specs.List.{All}
use Rattle.text_lexer.specs.Lexeme.{Lexeme}
use Rattle.text_lexer.specs.Written.{IsPart}
use Rattle.text_lexer.specs.Lexes.{Lexes}
use Rattle.text_lexer.specs.declared.token.Token.{Token}
use Rattle.text_ast.specs.Pieces.{Piece, pieces_of}
use Rattle.text_tree.specs.ExprGrammar.{G}
use Rattle.text_tree.specs.Texts.{IsSpelled, IsTextOf}
use Rattle.text_print.specs.Marks.{Mark, lexemes_of_marks}

-- a piece without its place
abbrev pub lexeme : Piece → Lexeme
lexeme l = record { kind = l.kind; bytes = l.bytes }

-- Each piece may be a token in a text that is UTF-8.
abbrev pub AreTokens : List Piece → Type 0
AreTokens ls = All (λ l. IsPart (lexeme l)) ls

-- The pieces are the lexemes among the marks, at any places.
abbrev pub AreOf : List Mark → List Piece → Type 0
AreOf marks ls = map lexeme ls ≡ lexemes_of_marks marks

-- The pieces spell a tree that is x, offsets aside, and are at most so many.
pub record IsReprinted {A : Type 0} (f : G A) (stripped : A → A) (x : A) (most : ℕ) (ls : List Piece) : Type 0 where
  pub tree : A
  pub spells : IsSpelled f tree ls
  pub same : stripped tree ≡ stripped x
  pub short : length ls ≤ most

-- The text spells a tree that is x, offsets aside.
pub record IsPrinted {A : Type 0} (f : G A) (stripped : A → A) (x : A) (text : List ℕ) : Type 0 where
  pub tree : A
  pub spells : IsTextOf f text tree
  pub same : stripped tree ≡ stripped x

-- The texts have the same tokens, at any places.
pub record HaveSameTokens (text other : List ℕ) : Type 0 where
  pub tokens : List Token
  pub others : List Token
  pub lexed : Lexes text tokens
  pub lexed_too : Lexes other others
  pub same : map lexeme (pieces_of text tokens) ≡ map lexeme (pieces_of other others)
