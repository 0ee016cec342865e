-- The grammar: of which tokens each tree is made.
use Rattle.std.specs.List.{fold}
use Rattle.std.specs.Prelude.{ℕ, ℤ, ◌-◌, true, false, List, [], ◌∷◌, codes, pos, negsuc}
use Rattle.std.specs.Str.Parse.{digits_value}
use Rattle.text_lexer.specs.declared.token.TokenKind.{TokenKind}
use Rattle.text_lexer.specs.declared.token.TokenKind.TheVariants as k
use Rattle.text_tree.specs.declared.named.Named.{Named}
use Rattle.text_tree.specs.declared.exprs.CmpOp.{CmpOp}
use Rattle.text_tree.specs.declared.exprs.CmpOp.TheVariants as op
use Rattle.text_tree.specs.declared.exprs.FilterOp.{FilterOp}
use Rattle.text_tree.specs.declared.exprs.FilterOp.TheVariants as filter
use Rattle.text_tree.specs.declared.exprs.Expr.{Expr}
use Rattle.text_tree.specs.declared.exprs.Expr.TheVariants as e
use Rattle.text_tree.specs.declared.exprs.SetExpr.{SetExpr}
use Rattle.text_tree.specs.declared.exprs.SetExpr.TheVariants as s
use Rattle.text_tree.specs.declared.exprs.Item.{Item}
use Rattle.text_tree.specs.declared.exprs.Item.TheVariants as item
use Rattle.text_tree.specs.declared.exprs.Filter.{Filter, roll-Filter}
use Rattle.text_ast.specs.Pieces.{Piece}
use Rattle.text_tree.specs.Forms.{Form, AnyNumber, Sign, Word, Upper, Lower, Plain, Negated, Literal, nothing, token, both, either, each, ended, mapped, part}
use Rattle.text_tree.specs.Placed.{expr_at, set_at, placed_expr, placed_set}
use Rattle.text_tree.specs.LiteralValue.{literal_value}

-- expressions and sets hold each other
pub data Part : Type 0 where
  Expression : Part
  Set : Part

abbrev pub tree_of : Part → Type 0
tree_of Expression = Expr
tree_of Set = SetExpr

-- a production: a form over expressions and sets
abbrev pub G : Type 0 → Type 1
G = Form Part tree_of

-- one form and then another, with the values of both
infixr 6 ◌⨾◌
abbrev pub ◌⨾◌ : {A B : Type 0} → G A → G B → G (A × B)
f ⨾ g = both f g

-- a reserved word that begins with a lower-case letter
abbrev pub keyword : List ℕ → G Piece
keyword word = token (Word k.Lower word)

-- one that begins with an upper-case letter
abbrev pub upper_keyword : List ℕ → G Piece
upper_keyword word = token (Word k.Upper word)

abbrev pub sign : TokenKind → G Piece
sign kind = token (Sign kind)

-- a form between two signs
abbrev pub parens : {A : Type 0} → G A → G A
parens f = mapped (λ v. v.1.0) (sign k.ParenOpen ⨾ f ⨾ sign k.ParenClose)

abbrev pub braces : {A : Type 0} → G A → G A
braces f = mapped (λ v. v.1.0) (sign k.BraceOpen ⨾ f ⨾ sign k.BraceClose)

-- a form after a token
abbrev pub behind : {A : Type 0} → G Piece → G A → G A
behind before f = mapped (λ v. v.1) (before ⨾ f)

-- a form, and the form again with commas between; or nothing
abbrev pub listed : {A : Type 0} → G A → G (List A)
listed f = either (mapped (λ v. v.0 ∷ v.1) (f ⨾ each AnyNumber (behind (sign k.Comma) f))) (nothing [])

abbrev pub named : Piece → Named
named l = record { name = l.bytes; at = l.at }

-- ---- expressions

abbrev pub var_of : Piece → Expr
var_of l = e.Var l.at (named l)

-- a field of an expression
abbrev pub get : Expr → Piece → Expr
get x field = e.Get (expr_at x) x (named field)

-- LOWER | "(" expr ")"
unfoldable pub path_root : G Expr
path_root = either (mapped var_of (token Lower)) (mapped (λ v. placed_expr v.0.at v.1.0) (sign k.ParenOpen ⨾ part Expression ⨾ sign k.ParenClose))

-- path = (LOWER | "(" expr ")") {"." LOWER}
unfoldable pub path : G Expr
path = mapped (λ v. fold get v.0 v.1) (path_root ⨾ each AnyNumber (behind (sign k.Dot) (token Lower)))

-- "true" | "false"
unfoldable pub flag : G Expr
flag = either (mapped (λ l. e.Flag l.at true) (keyword (codes "true"))) (mapped (λ l. e.Flag l.at false) (keyword (codes "false")))

-- minus this number, which is not 0
abbrev pub minus : ℕ → ℤ
minus n = negsuc (n - 1)

-- NUMBER | "-" NUMBER
unfoldable pub number : G Expr
number =
    either (mapped (λ l. e.Num l.at (pos (digits_value 10 l.bytes))) (token Plain))
    (mapped (λ v. e.Num v.0.at (minus (digits_value 10 v.1.bytes))) (sign k.Minus ⨾ token Negated))

unfoldable pub literal : G Expr
literal = mapped (λ l. e.Str l.at (literal_value l.bytes)) (token Literal)

-- "none" | "some" "(" expr ")"
unfoldable pub option : G Expr
option =
    either (mapped (λ l. e.NoneLit l.at) (keyword (codes "none")))
    (mapped (λ v. e.SomeLit v.0.at v.1) (keyword (codes "some") ⨾ parens (part Expression)))

-- atom = "true" | "false" | NUMBER | "-" NUMBER | TEXT | "none" | "some" "(" expr ")" | path
unfoldable pub atom : G Expr
atom = either flag (either number (either literal (either option path)))

-- unary = ["!"] atom
unfoldable pub unary : G Expr
unary = either (mapped (λ v. e.Not v.0.at v.1) (sign k.Not ⨾ atom)) atom

-- cmpop = "==" | "!=" | "<" | "<=" | ">" | ">="
unfoldable pub cmp_op : G CmpOp
cmp_op =
    either (mapped (λ l. op.Eq) (sign k.EqEq)) (either (mapped (λ l. op.Ne) (sign k.NotEq)) (either (mapped (λ l. op.Lt) (sign k.Less))
    (either (mapped (λ l. op.Le) (sign k.LessEq)) (either (mapped (λ l. op.Gt) (sign k.Greater)) (mapped (λ l. op.Ge) (sign k.GreaterEq))))))

-- the set after `in`: path | "{" set "}"
unfoldable pub container : G SetExpr
container = either (mapped (λ x. s.Path (expr_at x) x) path) (braces (part Set))

-- what a comparison makes of its left side: [cmpop unary | "in" path | "in" "{" set "}"]
unfoldable pub comparison : G (Expr → Expr)
comparison =
    either (mapped (λ v left. e.Cmp (expr_at left) v.0 left v.1) (cmp_op ⨾ unary))
    (either (mapped (λ set left. e.Member (expr_at left) left set) (behind (keyword (codes "in")) container)) (nothing (λ left. left)))

-- cmp = unary [cmpop unary | "in" path | "in" "{" set "}"]
unfoldable pub compared : G Expr
compared = mapped (λ v. v.1 v.0) (unary ⨾ comparison)

-- and = cmp {"&&" cmp}
unfoldable pub conjunction : G Expr
conjunction =
    mapped (λ v. fold (λ left right. e.And (expr_at left) left right) v.0 v.1)
    (compared ⨾ each AnyNumber (behind (sign k.AndAnd) compared))

-- or = and {"||" and}
unfoldable pub disjunction : G Expr
disjunction =
    mapped (λ v. fold (λ left right. e.Or (expr_at left) left right) v.0 v.1)
    (conjunction ⨾ each AnyNumber (behind (sign k.OrOr) conjunction))

-- `if` and its condition
unfoldable pub condition : G (Piece × Expr)
condition = keyword (codes "if") ⨾ part Expression

-- `then` and `else` with what follows them
abbrev pub branches : {A : Type 0} → G A → G (A × A)
branches f = behind (keyword (codes "then")) f ⨾ behind (keyword (codes "else")) f

-- "if" expr "then" expr "else" expr
unfoldable pub if_expr : G Expr
if_expr = mapped (λ v. e.IfE v.0.0.at v.0.1 v.1.0 v.1.1) (condition ⨾ branches (part Expression))

-- `match`, what is taken apart, and `with`
unfoldable pub scrutinee : G (Piece × Expr)
scrutinee = mapped (λ v. (v.0, v.1.0)) (keyword (codes "match") ⨾ part Expression ⨾ keyword (codes "with"))

-- the branch for none
abbrev pub none_branch : {A : Type 0} → G A → G A
none_branch f = behind (keyword (codes "none")) (behind (sign k.Arrow) f)

-- the branch for some, with its variable
abbrev pub some_branch : {A : Type 0} → G A → G (Piece × A)
some_branch f = behind (sign k.Bar) (behind (keyword (codes "some")) (token Lower ⨾ behind (sign k.Arrow) f))

-- "match" expr "with" "none" "->" expr "|" "some" LOWER "->" expr
unfoldable pub match_expr : G Expr
match_expr =
    mapped (λ v. e.MatchE v.0.0.at v.0.1 v.1.0 (named v.1.1.0, v.1.1.1))
    (scrutinee ⨾ none_branch (part Expression) ⨾ some_branch (part Expression))

-- expr
unfoldable pub expression : G Expr
expression = either if_expr (either match_expr disjunction)

-- ---- sets

-- item = UPPER | expr
unfoldable pub item_form : G Item
item_form = either (mapped (λ l. item.Static (named l)) (token Upper)) (mapped item.One (part Expression))

-- "[" [item {"," item}] "]"
unfoldable pub list : G SetExpr
list = mapped (λ v. s.List v.0.at v.1.0) (sign k.BracketOpen ⨾ listed item_form ⨾ sign k.BracketClose)

-- ":" | cmpop | "has"
unfoldable pub filter_op : G FilterOp
filter_op =
    either (mapped (λ l. filter.Cmp op.Eq) (sign k.Colon))
    (either (mapped (λ l. filter.Has) (keyword (codes "has"))) (mapped filter.Cmp cmp_op))

-- filter = LOWER (":" | cmpop | "has") expr
unfoldable pub filter_form : G Filter
filter_form =
    mapped (λ v. roll-Filter (record { field = named v.0; op = v.1.0; value = v.1.1 })) (token Lower ⨾ filter_op ⨾ part Expression)

-- UPPER "::" "Find" "(" "{" [filter {"," filter}] "}" ")"
unfoldable pub find : G SetExpr
find =
    mapped (λ v. s.Find v.0.at (named v.0) v.1)
    (token Upper ⨾ behind (sign k.ColonColon) (behind (upper_keyword (codes "Find")) (parens (braces (listed filter_form)))))

-- a variable and what follows the arrow
abbrev pub lambda : {A : Type 0} → G A → G (Piece × A)
lambda f = token Lower ⨾ behind (sign k.Arrow) f

-- what `map` and `flat_map` make of the set before them: "map" "(" LOWER "->" expr ")", "flat_map" "(" LOWER "->" set ")"
unfoldable pub map_step : G (SetExpr → SetExpr)
map_step = mapped (λ v of. s.MapS (set_at of) of (named v.0) v.1) (behind (keyword (codes "map")) (parens (lambda (part Expression))))

unfoldable pub flat_step : G (SetExpr → SetExpr)
flat_step = mapped (λ v of. s.FlatS (set_at of) of (named v.0) v.1) (behind (keyword (codes "flat_map")) (parens (lambda (part Set))))

abbrev pub step : SetExpr → (SetExpr → SetExpr) → SetExpr
step of make = make of

-- `map` again and again, and `flat_map` at the end
unfoldable pub steps : G (SetExpr → SetExpr)
steps = mapped (λ v of. v.1 (fold step of v.0)) (ended AnyNumber (Sign k.Dot) map_step flat_step (nothing (λ of. of)))

-- chain, where its head is a `Find`
unfoldable pub found : G SetExpr
found = mapped (λ v. v.1 v.0) (find ⨾ steps)

-- what follows the fields of a path
unfoldable pub path_steps : G (SetExpr → SetExpr)
path_steps = either (mapped (λ v of. v.1 (v.0 of)) (map_step ⨾ steps)) flat_step

-- chain, where its head is LOWER {"." LOWER}
unfoldable pub path_chain : G SetExpr
path_chain =
    mapped (λ v. v.1.1 (s.Path v.0.at (fold get (var_of v.0) v.1.0)))
    (token Lower ⨾ ended AnyNumber (Sign k.Dot) (token Lower) path_steps (nothing (λ of. of)))

-- sterm = "public" | "none" | "[" [item {"," item}] "]" | "(" set ")" | chain
unfoldable pub set_term : G SetExpr
set_term =
    either (mapped (λ l. s.Everyone l.at l.at) (keyword (codes "public"))) (either (mapped (λ l. s.Nobody l.at) (keyword (codes "none"))) (either list
    (either (mapped (λ v. placed_set v.0.at v.1.0) (sign k.ParenOpen ⨾ part Set ⨾ sign k.ParenClose)) (either found path_chain))))

-- what a sum or a difference makes of its left side: ("+" | "-") sterm
unfoldable pub set_step : G (SetExpr → SetExpr)
set_step =
    either (mapped (λ right left. s.Sum (set_at left) left right) (behind (sign k.Plus) set_term))
    (mapped (λ right left. s.Less (set_at left) left right) (behind (sign k.Minus) set_term))

-- sterm {("+" | "-") sterm}
unfoldable pub sum : G SetExpr
sum = mapped (λ v. fold step v.0 v.1) (set_term ⨾ each AnyNumber set_step)

-- "if" expr "then" set "else" set
unfoldable pub if_set : G SetExpr
if_set = mapped (λ v. s.IfS v.0.0.at v.0.1 v.1.0 v.1.1) (condition ⨾ branches (part Set))

-- "match" expr "with" "none" "->" set "|" "some" LOWER "->" set
unfoldable pub match_set : G SetExpr
match_set = mapped (λ v. s.MatchS v.0.0.at v.0.1 v.1.0 (named v.1.1.0) v.1.1.1) (scrutinee ⨾ none_branch (part Set) ⨾ some_branch (part Set))

-- set
unfoldable pub set : G SetExpr
set = either if_set (either match_set sum)

-- the form of a part
abbrev pub rule : (p : Part) → G (tree_of p)
rule Expression = expression
rule Set = set
