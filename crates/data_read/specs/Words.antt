-- Names that a text can have.
use Rattle.std.specs.Prelude.{IsFalse}
use Rattle.std.specs.List.{AllByRecursion}
use Rattle.text_lexer.specs.declared.token.TokenKind.TheVariants as k
use Rattle.text_lexer.specs.Lexeme.{IsLexeme}
use Rattle.text_ast.specs.Words.{is_reserved_lower, is_reserved_upper}
use Rattle.type_schema.specs.Trees.{Name}
use Rattle.type_schema.specs.Schema.{FieldInfo, ModelInfo, Schema}

-- an upper word of at most 64 bytes that the grammar does not keep for itself
pub record IsModelName (name : Name) : Type 0 where
  pub word : IsLexeme (record { kind = k.Upper; bytes = name })
  pub free : IsFalse (is_reserved_upper name)

-- such a lower word
pub record IsFieldName (name : Name) : Type 0 where
  pub word : IsLexeme (record { kind = k.Lower; bytes = name })
  pub free : IsFalse (is_reserved_lower name)

pub record HasWordsIn (m : ModelInfo) : Type 0 where
  pub model : IsModelName m.name
  pub fields : AllByRecursion (λ (f : FieldInfo). IsFieldName f.name) m.fields

-- The names of models and fields are such words, as in each schema that was written as a text.
abbrev pub HasWords : Schema → Type 0
HasWords s = AllByRecursion HasWordsIn s.models
