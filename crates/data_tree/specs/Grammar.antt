-- The grammar of databases' texts.
use Rattle.std.specs.Prelude.{ℕ, true, false, List, [], ◌∷◌, codes, pos}
use Rattle.std.specs.Str.Parse.{digits_value}
use Rattle.text_lexer.specs.declared.token.TokenKind.{TokenKind}
use Rattle.text_lexer.specs.declared.token.TokenKind.TheVariants as k
use Rattle.text_ast.specs.Pieces.{Piece}
use Rattle.text_tree.specs.Forms.{Form, AnyNumber, Sign, Word, Upper, Lower, Plain, Negated, Literal, nothing, token, both, either, each, mapped, part}
use Rattle.text_tree.specs.ExprGrammar.{minus, named}
use Rattle.text_tree.specs.LiteralValue.{literal_value}
use Rattle.data_tree.specs.declared.literals.WrittenId.{WrittenId}
use Rattle.data_tree.specs.declared.literals.Lit.{Lit}
use Rattle.data_tree.specs.declared.literals.Lit.TheVariants as lit
use Rattle.data_tree.specs.declared.tables.FieldLit.{FieldLit}
use Rattle.data_tree.specs.declared.tables.RecordLit.{RecordLit}
use Rattle.data_tree.specs.declared.tables.TableLit.{TableLit}

-- values hold each other
pub data Part : Type 0 where
  Value : Part

abbrev pub tree_of : Part → Type 0
tree_of Value = Lit

abbrev pub G : Type 0 → Type 1
G = Form Part tree_of

-- one form before another
infixr 6 ◌⨾◌
abbrev pub ◌⨾◌ : {A B : Type 0} → G A → G B → G (A × B)
f ⨾ g = both f g

abbrev pub keyword : List ℕ → G Piece
keyword word = token (Word k.Lower word)

abbrev pub sign : TokenKind → G Piece
sign kind = token (Sign kind)

-- a form after a token
abbrev pub behind : {A : Type 0} → G Piece → G A → G A
behind before f = mapped (λ v. v.1) (before ⨾ f)

-- a form between two signs
abbrev pub parens : {A : Type 0} → G A → G A
parens f = mapped (λ v. v.1.0) (sign k.ParenOpen ⨾ f ⨾ sign k.ParenClose)

-- a form, and the form again with commas between; or nothing
abbrev pub listed : {A : Type 0} → G A → G (List A)
listed f = either (mapped (λ v. v.0 ∷ v.1) (f ⨾ each AnyNumber (behind (sign k.Comma) f))) (nothing [])

-- ---- ids

abbrev pub written_id : Piece → WrittenId
written_id l = record { number = digits_value 10 l.bytes; at = l.at }

-- The number behind an `@` may be any that is a token.
unfoldable pub id_form : G (Piece × WrittenId)
id_form = mapped (λ v. (v.0, written_id v.1)) (sign k.At ⨾ sign k.Number)

-- ---- values

unfoldable pub flag : G Lit
flag = either (mapped (λ l. lit.Flag true l.at) (keyword (codes "true"))) (mapped (λ l. lit.Flag false l.at) (keyword (codes "false")))

unfoldable pub number : G Lit
number =
    either (mapped (λ l. lit.Num (pos (digits_value 10 l.bytes)) l.at) (token Plain))
    (mapped (λ v. lit.Num (minus (digits_value 10 v.1.bytes)) v.0.at) (sign k.Minus ⨾ token Negated))

unfoldable pub text : G Lit
text = mapped (λ l. lit.Str (literal_value l.bytes) l.at) (token Literal)

unfoldable pub id : G Lit
id = mapped (λ v. lit.Id v.1 v.0.at) id_form

unfoldable pub option : G Lit
option =
    either (mapped (λ l. lit.NoneLit l.at) (keyword (codes "none")))
    (mapped (λ v. lit.SomeLit v.1 v.0.at) (keyword (codes "some") ⨾ parens (part Value)))

unfoldable pub list : G Lit
list = mapped (λ v. lit.List v.1.0 v.0.at) (sign k.BracketOpen ⨾ listed (part Value) ⨾ sign k.BracketClose)

unfoldable pub value : G Lit
value = either flag (either number (either text (either id (either option list))))

-- the form of a part
abbrev pub rule : (p : Part) → G (tree_of p)
rule Value = value

-- ---- records and tables

unfoldable pub field_form : G FieldLit
field_form = mapped (λ v. record { name = named v.0; value = v.1 }) (token Lower ⨾ behind (sign k.Colon) (part Value))

unfoldable pub record_form : G RecordLit
record_form =
    mapped (λ v. record { id = v.0.1; fields = v.1.1.0; «end» = v.1.1.1.at })
    (id_form ⨾ sign k.BraceOpen ⨾ listed field_form ⨾ sign k.BraceClose)

unfoldable pub table_form : G TableLit
table_form =
    mapped (λ v. record { name = named v.0; next = v.1.0.1; records = v.1.1.1.0 })
    (token Upper ⨾ id_form ⨾ sign k.BraceOpen ⨾ each AnyNumber record_form ⨾ sign k.BraceClose)

unfoldable pub data_form : G (List TableLit)
data_form = each AnyNumber table_form
