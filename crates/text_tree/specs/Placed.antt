-- The first token of an expression and of a set.
use Rattle.std.specs.Prelude.{ℕ}
use Rattle.text_tree.specs.declared.exprs.Expr.{Expr, out-Expr}
use Rattle.text_tree.specs.declared.exprs.Expr.TheVariants as e
use Rattle.text_tree.specs.declared.exprs.Expr.TheOpen.{Expr-F, SetExpr-F}
use Rattle.text_tree.specs.declared.exprs.SetExpr.{SetExpr, out-SetExpr}
use Rattle.text_tree.specs.declared.exprs.SetExpr.TheVariants as s
use Rattle.text_tree.specs.declared.exprs.Item.{Item}
use Rattle.text_tree.specs.declared.exprs.Filter.{Filter}

-- one level of an expression and of a set
abbrev pub ExprLayer : Type 0
ExprLayer = Expr-F Expr Item SetExpr Filter

abbrev pub SetLayer : Type 0
SetLayer = SetExpr-F Expr Item SetExpr Filter

abbrev pub layer_at : ExprLayer → ℕ
layer_at (Expr-F.Flag at value) = at
layer_at (Expr-F.Num at value) = at
layer_at (Expr-F.Str at text) = at
layer_at (Expr-F.Var at name) = at
layer_at (Expr-F.NoneLit at) = at
layer_at (Expr-F.SomeLit at inner) = at
layer_at (Expr-F.Get at of field) = at
layer_at (Expr-F.Cmp at op left right) = at
layer_at (Expr-F.Member at of set) = at
layer_at (Expr-F.Not at inner) = at
layer_at (Expr-F.And at left right) = at
layer_at (Expr-F.Or at left right) = at
layer_at (Expr-F.IfE at test one other) = at
layer_at (Expr-F.MatchE at of none some) = at

-- the offset of its first token
unfoldable pub expr_at : Expr → ℕ
expr_at x = layer_at (out-Expr x)

abbrev pub layer_moved : ℕ → ExprLayer → Expr
layer_moved at (Expr-F.Flag old value) = e.Flag at value
layer_moved at (Expr-F.Num old value) = e.Num at value
layer_moved at (Expr-F.Str old text) = e.Str at text
layer_moved at (Expr-F.Var old name) = e.Var at name
layer_moved at (Expr-F.NoneLit old) = e.NoneLit at
layer_moved at (Expr-F.SomeLit old inner) = e.SomeLit at inner
layer_moved at (Expr-F.Get old of field) = e.Get at of field
layer_moved at (Expr-F.Cmp old op left right) = e.Cmp at op left right
layer_moved at (Expr-F.Member old of set) = e.Member at of set
layer_moved at (Expr-F.Not old inner) = e.Not at inner
layer_moved at (Expr-F.And old left right) = e.And at left right
layer_moved at (Expr-F.Or old left right) = e.Or at left right
layer_moved at (Expr-F.IfE old test one other) = e.IfE at test one other
layer_moved at (Expr-F.MatchE old of none some) = e.MatchE at of none some

-- the expression, with its first token at this offset
unfoldable pub placed_expr : ℕ → Expr → Expr
placed_expr at x = layer_moved at (out-Expr x)

abbrev pub set_layer_at : SetLayer → ℕ
set_layer_at (SetExpr-F.Everyone at word) = at
set_layer_at (SetExpr-F.Nobody at) = at
set_layer_at (SetExpr-F.List at items) = at
set_layer_at (SetExpr-F.Sum at left right) = at
set_layer_at (SetExpr-F.Less at left right) = at
set_layer_at (SetExpr-F.Find at model filters) = at
set_layer_at (SetExpr-F.Path at path) = at
set_layer_at (SetExpr-F.MapS at of name each) = at
set_layer_at (SetExpr-F.FlatS at of name each) = at
set_layer_at (SetExpr-F.IfS at test one other) = at
set_layer_at (SetExpr-F.MatchS at of none name some) = at

unfoldable pub set_at : SetExpr → ℕ
set_at set = set_layer_at (out-SetExpr set)

abbrev pub set_layer_moved : ℕ → SetLayer → SetExpr
set_layer_moved at (SetExpr-F.Everyone old word) = s.Everyone at word
set_layer_moved at (SetExpr-F.Nobody old) = s.Nobody at
set_layer_moved at (SetExpr-F.List old items) = s.List at items
set_layer_moved at (SetExpr-F.Sum old left right) = s.Sum at left right
set_layer_moved at (SetExpr-F.Less old left right) = s.Less at left right
set_layer_moved at (SetExpr-F.Find old model filters) = s.Find at model filters
set_layer_moved at (SetExpr-F.Path old path) = s.Path at path
set_layer_moved at (SetExpr-F.MapS old of name each) = s.MapS at of name each
set_layer_moved at (SetExpr-F.FlatS old of name each) = s.FlatS at of name each
set_layer_moved at (SetExpr-F.IfS old test one other) = s.IfS at test one other
set_layer_moved at (SetExpr-F.MatchS old of none name some) = s.MatchS at of none name some

unfoldable pub placed_set : ℕ → SetExpr → SetExpr
placed_set at set = set_layer_moved at (out-SetExpr set)
