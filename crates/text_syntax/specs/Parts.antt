-- Parts of productions, and what is made of them.
use Rattle.std.specs.Prelude.{ℕ, codes, if◌then◌else◌, List, [], ◌∷◌, ◌++◌}
use Rattle.text_ast.specs.Pieces.{Piece}
use Rattle.text_lexer.specs.declared.token.TokenKind.TheVariants as k
use Rattle.text_tree.specs.declared.exprs.Expr.{Expr}
use Rattle.text_tree.specs.declared.exprs.Expr.TheVariants as e
use Rattle.text_tree.specs.declared.exprs.SetExpr.{SetExpr}
use Rattle.text_tree.specs.declared.exprs.SetExpr.TheVariants as s
use Rattle.text_tree.specs.Forms.{AnyNumber, Lower, NotGrammar, Sign, ended, first, mapped, nothing, part, token}
use Rattle.text_tree.specs.ExprGrammar.{G, Set, ◌⨾◌, behind, cmp_op, compared, conjunction, container, flat_step, keyword, map_step, path_steps, set_term, sign, step, unary}
use Rattle.text_tree.specs.Placed.{expr_at, placed_set, set_at}
use Rattle.text_tree.specs.Texts.{first_of}
use Rattle.text_grammar.specs.Reading.{Got, Reader, Stuck, after, made, one, starts}
use Rattle.text_syntax.specs.Reads.{reading}

-- what a function makes of this
abbrev pub applied : {A B : Type 0} → A → (A → B) → B
applied x make = make x

-- a dot and the name of a field
abbrev pub field_form : G Piece
field_form = behind (sign k.Dot) (token Lower)

-- the two kinds of comparison
abbrev pub compare_form : G (Expr → Expr)
compare_form = mapped (λ v left. e.Cmp (expr_at left) v.0 left v.1) (cmp_op ⨾ unary)

abbrev pub member_form : G (Expr → Expr)
member_form = mapped (λ set left. e.Member (expr_at left) left set) (behind (keyword (codes "in")) container)

-- what is behind `&&` and `||`, and what is made of both sides
abbrev pub and_form : G Expr
and_form = behind (sign k.AndAnd) compared

abbrev pub or_form : G Expr
or_form = behind (sign k.OrOr) conjunction

abbrev pub and_of : Expr → Expr → Expr
and_of left right = e.And (expr_at left) left right

abbrev pub or_of : Expr → Expr → Expr
or_of left right = e.Or (expr_at left) left right

-- ---- lists

abbrev pub behind_comma : {A : Type 0} → G A → G A
behind_comma f = behind (sign k.Comma) f

abbrev pub pushed : {A : Type 0} → List A → A → List A
pushed xs x = xs ++ x ∷ []

abbrev pub cons_pair : {A : Type 0} → A × List A → List A
cons_pair v = v.0 ∷ v.1

-- ---- sets

abbrev pub paren_form : G SetExpr
paren_form = mapped (λ v. placed_set v.0.at v.1.0) (sign k.ParenOpen ⨾ part Set ⨾ sign k.ParenClose)

abbrev pub sum_form : G (SetExpr → SetExpr)
sum_form = mapped (λ right left. s.Sum (set_at left) left right) (behind (sign k.Plus) set_term)

abbrev pub less_form : G (SetExpr → SetExpr)
less_form = mapped (λ right left. s.Less (set_at left) left right) (behind (sign k.Minus) set_term)

-- after as many steps as there may be
abbrev pub last_step : ℕ → SetExpr → Reader SetExpr
last_step levels of ls =
    if starts (Sign k.Dot ∷ []) ls then after (λ _ rest. if starts (first first_of map_step) rest then Stuck NotGrammar rest
    else made (step of) (reading levels flat_step rest)) (one (Sign k.Dot) ls)
    else Got of ls

-- the fields of a variable, and what follows them
abbrev pub chain_form : G (List Piece × (SetExpr → SetExpr))
chain_form = ended AnyNumber (Sign k.Dot) (token Lower) path_steps (nothing (λ of. of))

-- after as many fields as there may be
abbrev pub last_field : ℕ → SetExpr → Reader SetExpr
last_field levels of ls =
    if starts (Sign k.Dot ∷ []) ls then after (λ _ rest. if starts (Lower ∷ []) rest then Stuck NotGrammar rest
    else made (step of) (reading levels path_steps rest)) (one (Sign k.Dot) ls)
    else Got of ls
