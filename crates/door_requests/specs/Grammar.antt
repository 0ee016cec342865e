-- The grammar of requests, a line each.
use Rattle.std.specs.Prelude.{ℕ, true, false, List, [], ◌∷◌, codes, pos, Option, None, Some}
use Rattle.std.specs.Str.Parse.{digits_value}
use Rattle.text_lexer.specs.declared.token.TokenKind.{TokenKind}
use Rattle.text_lexer.specs.declared.token.TokenKind.TheVariants as k
use Rattle.text_ast.specs.Pieces.{Piece}
use Rattle.text_tree.specs.declared.named.Named.{Named}
use Rattle.text_tree.specs.declared.exprs.CmpOp.{CmpOp}
use Rattle.text_tree.specs.declared.exprs.CmpOp.TheVariants as op
use Rattle.text_tree.specs.declared.exprs.FilterOp.{FilterOp}
use Rattle.text_tree.specs.declared.exprs.FilterOp.TheVariants as filter
use Rattle.text_tree.specs.Forms.{Form, AnyNumber, Sign, Word, Upper, Lower, Plain, Negated, Literal, nothing, token, both, either, each, mapped, part}
use Rattle.text_tree.specs.ExprGrammar.{minus, named}
use Rattle.text_tree.specs.LiteralValue.{literal_value}
use Rattle.data_tree.specs.Grammar.{written_id}
use Rattle.data_tree.specs.declared.literals.WrittenId.{WrittenId}
use Rattle.data_tree.specs.declared.literals.Lit.{Lit}
use Rattle.data_tree.specs.declared.literals.Lit.TheVariants as lit
use Rattle.data_tree.specs.declared.tables.FieldLit.{FieldLit}
use Rattle.door_requests.specs.declared.place.Place.{Place}
use Rattle.door_requests.specs.declared.place.Place.TheVariants as place
use Rattle.door_requests.specs.declared.requests.Head.{Head}
use Rattle.door_requests.specs.declared.requests.Spot.{Spot}
use Rattle.door_requests.specs.declared.requests.Who.{Who}
use Rattle.door_requests.specs.declared.requests.Who.TheVariants as who
use Rattle.door_requests.specs.declared.requests.Condition.{Condition}
use Rattle.door_requests.specs.declared.requests.Request.{Request}
use Rattle.door_requests.specs.declared.requests.Request.TheVariants as request

-- values hold each other, in a new row and elsewhere
abbrev pub tree_of : Place → Type 0
tree_of p = Lit

abbrev pub G : Type 0 → Type 1
G = Form Place tree_of

-- one form before another
infixr 6 ◌⨾◌
abbrev pub ◌⨾◌ : {A B : Type 0} → G A → G B → G (A × B)
f ⨾ g = both f g

-- a word that is reserved here
abbrev pub keyword : List ℕ → G Piece
keyword word = token (Word k.Lower word)

abbrev pub sign : TokenKind → G Piece
sign kind = token (Sign kind)

-- a form after a token
abbrev pub behind : {A : Type 0} → G Piece → G A → G A
behind before f = mapped (λ v. v.1) (before ⨾ f)

-- a form between two signs
abbrev pub parens : {A : Type 0} → G A → G A
parens f = mapped (λ v. v.1.0) (sign k.ParenOpen ⨾ f ⨾ sign k.ParenClose)

abbrev pub braces : {A : Type 0} → G A → G A
braces f = mapped (λ v. v.1.0) (sign k.BraceOpen ⨾ f ⨾ sign k.BraceClose)

-- a form, and the form again with commas between; or nothing
abbrev pub listed : {A : Type 0} → G A → G (List A)
listed f = either (mapped (λ v. v.0 ∷ v.1) (f ⨾ each AnyNumber (behind (sign k.Comma) f))) (nothing [])

-- ---- values, as in a database's text

-- The number behind an `@` may be any that is a token.
unfoldable pub id_form : G (Piece × WrittenId)
id_form = mapped (λ v. (v.0, written_id v.1)) (sign k.At ⨾ sign k.Number)

unfoldable pub flag : G Lit
flag = either (mapped (λ l. lit.Flag true l.at) (keyword (codes "true"))) (mapped (λ l. lit.Flag false l.at) (keyword (codes "false")))

unfoldable pub number : G Lit
number =
    either (mapped (λ l. lit.Num (pos (digits_value 10 l.bytes)) l.at) (token Plain))
    (mapped (λ v. lit.Num (minus (digits_value 10 v.1.bytes)) v.0.at) (sign k.Minus ⨾ token Negated))

unfoldable pub text : G Lit
text = mapped (λ l. lit.Str (literal_value l.bytes) l.at) (token Literal)

unfoldable pub id : G Lit
id = mapped (λ v. lit.Id v.1 v.0.at) id_form

unfoldable pub option : Place → G Lit
option p =
    either (mapped (λ l. lit.NoneLit l.at) (keyword (codes "none")))
    (mapped (λ v. lit.SomeLit v.1 v.0.at) (keyword (codes "some") ⨾ parens (part p)))

unfoldable pub list : Place → G Lit
list p = mapped (λ v. lit.List v.1.0 v.0.at) (sign k.BracketOpen ⨾ listed (part p) ⨾ sign k.BracketClose)

unfoldable pub common : Place → G Lit
common p = either flag (either number (either text (either id (either (option p) (list p)))))

-- `self`, the record that is made
unfoldable pub own : G Lit
own = mapped (λ l. lit.SelfId l.at) (keyword (codes "self"))

-- the form of a value at its place
abbrev pub rule : (p : Place) → G (tree_of p)
rule place.Plain = common place.Plain
rule place.NewRow = either own (common place.NewRow)

-- ---- parts of requests

-- the first word, and the name of the session
unfoldable pub head_form : List ℕ → G Head
head_form word = mapped (λ v. record { session = named v.1; at = v.0.at }) (keyword word ⨾ token Lower)

unfoldable pub model_form : G Named
model_form = mapped named (token Upper)

unfoldable pub name_form : G Named
name_form = mapped named (token Lower)

-- UPPER "@" NUMBER
unfoldable pub spot_form : G Spot
spot_form = mapped (λ v. record { model = v.0; id = v.1.1 }) (model_form ⨾ id_form)

-- what follows the name of a principal: "@" NUMBER, or nothing
unfoldable pub record_form : G (Named → Who)
record_form = mapped (λ i name. who.Record name i.1) id_form

unfoldable pub whose_form : G (Named → Who)
whose_form = either record_form (nothing (λ name. who.Static name))

-- UPPER ["@" NUMBER]
unfoldable pub who_form : G Who
who_form = mapped (λ v. v.1 v.0) (model_form ⨾ whose_form)

-- "<" | "<=" | ">" | ">="
unfoldable pub order_form : G FilterOp
order_form =
    either (mapped (λ l. filter.Cmp op.Lt) (sign k.Less)) (either (mapped (λ l. filter.Cmp op.Le) (sign k.LessEq))
    (either (mapped (λ l. filter.Cmp op.Gt) (sign k.Greater)) (mapped (λ l. filter.Cmp op.Ge) (sign k.GreaterEq))))

-- ":" | "has" | "==" | "!=" | "<" | "<=" | ">" | ">="
unfoldable pub op_form : G FilterOp
op_form =
    either (mapped (λ l. filter.Cmp op.Eq) (sign k.Colon)) (either (mapped (λ l. filter.Has) (keyword (codes "has")))
    (either (mapped (λ l. filter.Cmp op.Eq) (sign k.EqEq)) (either (mapped (λ l. filter.Cmp op.Ne) (sign k.NotEq)) order_form)))

-- LOWER op value
unfoldable pub condition_form : G Condition
condition_form = mapped (λ v. record { field = named v.0; op = v.1.0; value = v.1.1 }) (token Lower ⨾ op_form ⨾ part place.Plain)

-- LOWER ":" value
unfoldable pub field_form : G FieldLit
field_form = mapped (λ v. record { name = named v.0; value = v.1 }) (token Lower ⨾ behind (sign k.Colon) (part place.NewRow))

-- "{" [condition {"," condition}] "}"
unfoldable pub conditions_form : G (List Condition)
conditions_form = braces (listed condition_form)

-- "{" [field {"," field}] "}"
unfoldable pub row_form : G (List FieldLit)
row_form = braces (listed field_form)

-- ---- requests

-- "open" LOWER "as" UPPER ["@" NUMBER]
unfoldable pub open_form : G Request
open_form =
    mapped (λ v. request.Open v.0.session v.1 v.0.at) (head_form (codes "open") ⨾ behind (keyword (codes "as")) who_form)

unfoldable pub renew_form : G Request
renew_form = mapped (λ h. request.Renew h.session h.at) (head_form (codes "renew"))

unfoldable pub close_form : G Request
close_form = mapped (λ h. request.Close h.session h.at) (head_form (codes "close"))

-- "read" LOWER UPPER "@" NUMBER LOWER
unfoldable pub read_form : G Request
read_form =
    mapped (λ v. request.Read v.0.session v.1.0.model v.1.0.id v.1.1 v.0.at) (head_form (codes "read") ⨾ spot_form ⨾ name_form)

-- "find" LOWER UPPER "{" [condition {"," condition}] "}"
unfoldable pub find_form : G Request
find_form =
    mapped (λ v. request.Find v.0.session v.1.0 v.1.1 v.0.at) (head_form (codes "find") ⨾ model_form ⨾ conditions_form)

-- "write" LOWER UPPER "@" NUMBER LOWER value
unfoldable pub write_form : G Request
write_form =
    mapped (λ v. request.Write v.0.session v.1.0.model v.1.0.id v.1.1.0 v.1.1.1 v.0.at)
    (head_form (codes "write") ⨾ spot_form ⨾ name_form ⨾ part place.Plain)

-- "create" LOWER UPPER "{" [field {"," field}] "}"
unfoldable pub create_form : G Request
create_form =
    mapped (λ v. request.Create v.0.session v.1.0 v.1.1 v.0.at) (head_form (codes "create") ⨾ model_form ⨾ row_form)

-- "delete" LOWER UPPER "@" NUMBER
unfoldable pub delete_form : G Request
delete_form =
    mapped (λ v. request.Delete v.0.session v.1.model v.1.id v.0.at) (head_form (codes "delete") ⨾ spot_form)

-- "migrate" TEXT
unfoldable pub migrate_form : G Request
migrate_form = mapped (λ v. request.Migrate (literal_value v.1.bytes) v.0.at) (keyword (codes "migrate") ⨾ token Literal)

-- requests on a session, requests that look at records, those that change records, and the others
unfoldable pub session_form : G Request
session_form = either open_form (either renew_form close_form)

unfoldable pub looking_form : G Request
looking_form = either read_form find_form

unfoldable pub changing_form : G Request
changing_form = either write_form (either create_form delete_form)

unfoldable pub request_form : G Request
request_form = either session_form (either looking_form (either changing_form migrate_form))

-- a line: a request, or no token
unfoldable pub line_form : G (Option Request)
line_form = either (mapped Some request_form) (nothing None)
