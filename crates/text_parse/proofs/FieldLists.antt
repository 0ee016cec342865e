-- The fields of a model are as many as may come.
use Rattle.std.proofs.Common.{◌≡◌, ℕ, List, refl}
use Rattle.text_lexer.specs.declared.token.TokenKind.TheVariants as k
use Rattle.text_ast.specs.Pieces.{Piece}
use Rattle.text_tree.specs.Forms.{Sign, AtMost, TooManyFields, mapped, ended}
use Rattle.text_tree.specs.ExprGrammar.{sign}
use Rattle.text_tree.specs.Grammar.{most_levels, most_fields, field_form, fields_form}
use Rattle.text_grammar.specs.Reading.{read}
use Rattle.text_syntax.specs.Reads.{reading}
use Rattle.text_parse.specs.Items.{fields_from}

fields_at : (most : ℕ) (ls : List Piece)
    → reading most_levels (mapped (λ v. v.0) (ended (AtMost most TooManyFields) (Sign k.Comma) field_form (sign k.BraceClose) (sign k.BraceClose))) ls ≡ fields_from most ls
unfolding read fields_from
fields_at most ls = refl

pub fields_are : (ls : List Piece) → reading most_levels fields_form ls ≡ fields_from most_fields ls
unfolding fields_form
fields_are ls = fields_at most_fields ls
