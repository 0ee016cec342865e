-- What typed expressions of two and more parts stand for, by their parts.
use Rattle.std.proofs.Common.{◌≡◌, ℕ, sym, ◌∙◌, ap}
use Rattle.text_tree.specs.declared.exprs.CmpOp.{CmpOp}
use Rattle.type_schema.specs.declared.trees.TExpr.{TExpr}
use Rattle.type_schema.specs.declared.trees.TExpr.TheOpen.{TExpr-F}
use Rattle.type_schema.specs.declared.trees.TExpr.TheFolds.{fold-roll-TExpr}
use Rattle.type_schema.specs.declared.trees.TExpr.TheVariants as t
use Rattle.type_schema.specs.declared.trees.TSet.{TSet}
use Rattle.type_schema.specs.Trees.{Name, Expr, equal, iff, less, within, both, either, if_expr, match_expr, SetExpr}
use Rattle.type_schema.specs.Views.{ItemsMore, FiltersMore, expr_step, item_step, filter_step, set_step, expr_of, set_of}

pub Eq_seen : (a b : TExpr) (op : CmpOp) → expr_of (t.Eq a b op) ≡ equal (expr_of a) (expr_of b) op
Eq_seen a b op = ap expr_of (sym (t.rolls-Eq a b op)) ∙ fold-roll-TExpr Expr FiltersMore ItemsMore SetExpr expr_step filter_step item_step set_step (TExpr-F.Eq a b op)

pub Iff_seen : (a b : TExpr) (op : CmpOp) → expr_of (t.Iff a b op) ≡ iff (expr_of a) (expr_of b) op
Iff_seen a b op = ap expr_of (sym (t.rolls-Iff a b op)) ∙ fold-roll-TExpr Expr FiltersMore ItemsMore SetExpr expr_step filter_step item_step set_step (TExpr-F.Iff a b op)

pub Less_seen : (a b : TExpr) (op : CmpOp) → expr_of (t.Less a b op) ≡ less (expr_of a) (expr_of b) op
Less_seen a b op = ap expr_of (sym (t.rolls-Less a b op)) ∙ fold-roll-TExpr Expr FiltersMore ItemsMore SetExpr expr_step filter_step item_step set_step (TExpr-F.«TExpr::Less» a b op)

pub Member_seen : (a : TExpr) (m : ℕ) (set : TSet) → expr_of (t.Member a m set) ≡ within (expr_of a) m (set_of set)
Member_seen a m set = ap expr_of (sym (t.rolls-Member a m set)) ∙ fold-roll-TExpr Expr FiltersMore ItemsMore SetExpr expr_step filter_step item_step set_step (TExpr-F.Member a m set)

pub And_seen : (a b : TExpr) → expr_of (t.And a b) ≡ both (expr_of a) (expr_of b)
And_seen a b = ap expr_of (sym (t.rolls-And a b)) ∙ fold-roll-TExpr Expr FiltersMore ItemsMore SetExpr expr_step filter_step item_step set_step (TExpr-F.And a b)

pub Or_seen : (a b : TExpr) → expr_of (t.Or a b) ≡ either (expr_of a) (expr_of b)
Or_seen a b = ap expr_of (sym (t.rolls-Or a b)) ∙ fold-roll-TExpr Expr FiltersMore ItemsMore SetExpr expr_step filter_step item_step set_step (TExpr-F.Or a b)

pub IfE_seen : (a b c : TExpr) → expr_of (t.IfE a b c) ≡ if_expr (expr_of a) (expr_of b) (expr_of c)
IfE_seen a b c = ap expr_of (sym (t.rolls-IfE a b c)) ∙ fold-roll-TExpr Expr FiltersMore ItemsMore SetExpr expr_step filter_step item_step set_step (TExpr-F.IfE a b c)

pub MatchE_seen : (a b : TExpr) (x : Name) (c : TExpr) → expr_of (t.MatchE a b x c) ≡ match_expr (expr_of a) (expr_of b) x (expr_of c)
MatchE_seen a b x c = ap expr_of (sym (t.rolls-MatchE a b x c)) ∙ fold-roll-TExpr Expr FiltersMore ItemsMore SetExpr expr_step filter_step item_step set_step (TExpr-F.MatchE a b x c)
