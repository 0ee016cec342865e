-- Comparisons and filters.
use Rattle.std.specs.Prelude.{ℕ, Option, Some, None, Ok, Err}
use Rattle.text_tree.specs.declared.exprs.CmpOp.{CmpOp}
use Rattle.text_tree.specs.declared.exprs.CmpOp.TheVariants.{Eq, Ne, Lt, Le, Gt, Ge}
use Rattle.text_tree.specs.declared.exprs.FilterOp.{FilterOp}
use Rattle.text_tree.specs.declared.exprs.FilterOp.TheVariants.{Cmp, Has}
use Rattle.type_schema.specs.declared.types.TBase.{TBase}
use Rattle.type_schema.specs.declared.types.TBase.TheVariants as base
use Rattle.type_schema.specs.declared.types.TTy.{TTy}
use Rattle.type_schema.specs.declared.types.TTy.TheVariants.{Plain, Set, Opt}
use Rattle.type_schema.specs.declared.trees.TExpr.{TExpr}
use Rattle.type_schema.specs.declared.trees.TExpr.TheVariants as t
use Rattle.type_typing.specs.declared.type_err.TypeErr.TheVariants.{WrongType}
use Rattle.type_typing.specs.Outcome.{Checked}

-- what a sign asks of the left side
unfoldable pub left_asked : CmpOp → Option TTy
left_asked Eq = None
left_asked Ne = None
left_asked Lt = Some (Plain base.Int)
left_asked Le = Some (Plain base.Int)
left_asked Gt = Some (Plain base.Int)
left_asked Ge = Some (Plain base.Int)

-- equality of two values of a base type
unfoldable pub alike : CmpOp → TBase → TExpr → TExpr → TExpr
alike op base.Bool a b = t.Iff a b op
alike op base.Int a b = t.Eq a b op
alike op base.Text a b = t.Eq a b op
alike op (base.Id m) a b = t.Eq a b op

-- whether the first number is below the second
abbrev pub less : CmpOp → TExpr → TExpr → TExpr
less op low high = t.Less low high op

abbrev pub negated : TExpr → TExpr
negated tree = t.Not tree

-- A comparison by equality and the order: `a != b` is not `a == b`, `a <= b` is not `b < a`, `a > b` is `b < a`, `a >= b` is not `a < b`.
unfoldable pub compared : CmpOp → TBase → TExpr → TExpr → TExpr
compared Eq b left right = alike Eq b left right
compared Ne b left right = negated (alike Ne b left right)
compared Lt b left right = less Lt left right
compared Le b left right = negated (less Le right left)
compared Gt b left right = less Gt right left
compared Ge b left right = negated (less Ge left right)

-- numbers alone have an order
unfoldable pub ordered : TBase → ℕ → Checked TTy
ordered base.Bool at = Err (WrongType at)
ordered base.Int at = Ok (Plain base.Int)
ordered base.Text at = Err (WrongType at)
ordered (base.Id m) at = Err (WrongType at)

unfoldable pub signed : CmpOp → TBase → ℕ → Checked TTy
signed Eq b at = Ok (Plain b)
signed Ne b at = Ok (Plain b)
signed Lt b at = ordered b at
signed Le b at = ordered b at
signed Gt b at = ordered b at
signed Ge b at = ordered b at

-- what a filter on a field of this type asks of its value
unfoldable pub tested : FilterOp → TTy → ℕ → Checked TTy
tested (Cmp op) (Plain b) at = signed op b at
tested (Cmp op) (Set m) at = Err (WrongType at)
tested (Cmp op) (Opt b) at = Err (WrongType at)
tested Has (Plain b) at = Err (WrongType at)
tested Has (Set m) at = Ok (Plain (base.Id m))
tested Has (Opt b) at = Err (WrongType at)
