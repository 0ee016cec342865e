-- The plain data of one level of a tree.
use Rattle.std.proofs.Common.{◌≡◌, ℕ, List, ap, sym, ◌∙◌, map}
use Rattle.type_schema.specs.declared.trees.TExpr.{TExpr}
use Rattle.type_schema.specs.declared.trees.TExpr.TheVariants as e
use Rattle.type_schema.specs.declared.trees.TExpr.TheOpen.{TExpr-F, TSet-F}
use Rattle.type_schema.specs.declared.trees.TExpr.TheFolds.{fold-roll-TExpr, fold-roll-TSet}
use Rattle.type_schema.specs.declared.trees.TSet.{TSet}
use Rattle.type_schema.specs.declared.trees.TSet.TheVariants as s
use Rattle.type_schema.specs.declared.trees.TFilter.{TFilter}
use Rattle.type_schema.specs.Trees.{Expr, match_expr, SetExpr, find, mapped, flat_mapped, if_set, match_set}
use Rattle.type_schema.specs.Views.{ItemsMore, FiltersMore, expr_step, item_step, filter_step, set_step, expr_of, set_of, filter_of, filters_of}

pub MatchE_is : (of none : TExpr) (x : List ℕ) (some : TExpr) → expr_of (e.MatchE of none x some) ≡ match_expr (expr_of of) (expr_of none) x (expr_of some)
MatchE_is of none x some =
    ap expr_of (sym (e.rolls-MatchE of none x some))
    ∙ fold-roll-TExpr Expr FiltersMore ItemsMore SetExpr expr_step filter_step item_step set_step (TExpr-F.MatchE of none x some)

pub MapS_is : (set : TSet) (n : ℕ) (x : List ℕ) (m : ℕ) (body : TExpr) → set_of (s.MapS set n x m body) ≡ mapped (set_of set) n x m (expr_of body)
MapS_is set n x m body =
    ap set_of (sym (s.rolls-MapS set n x m body))
    ∙ fold-roll-TSet Expr FiltersMore ItemsMore SetExpr expr_step filter_step item_step set_step (TSet-F.MapS set n x m body)

pub FlatS_is : (set : TSet) (n : ℕ) (x : List ℕ) (body : TSet) → set_of (s.FlatS set n x body) ≡ flat_mapped (set_of set) n x (set_of body)
FlatS_is set n x body =
    ap set_of (sym (s.rolls-FlatS set n x body))
    ∙ fold-roll-TSet Expr FiltersMore ItemsMore SetExpr expr_step filter_step item_step set_step (TSet-F.FlatS set n x body)

pub IfS_is : (c : TExpr) (a b : TSet) → set_of (s.IfS c a b) ≡ if_set (expr_of c) (set_of a) (set_of b)
IfS_is c a b =
    ap set_of (sym (s.rolls-IfS c a b)) ∙ fold-roll-TSet Expr FiltersMore ItemsMore SetExpr expr_step filter_step item_step set_step (TSet-F.IfS c a b)

pub MatchS_is : (of : TExpr) (none : TSet) (x : List ℕ) (some : TSet) → set_of (s.MatchS of none x some) ≡ match_set (expr_of of) (set_of none) x (set_of some)
MatchS_is of none x some =
    ap set_of (sym (s.rolls-MatchS of none x some))
    ∙ fold-roll-TSet Expr FiltersMore ItemsMore SetExpr expr_step filter_step item_step set_step (TSet-F.MatchS of none x some)

pub Find_is : (m : ℕ) (filters : List TFilter) → set_of (s.Find m filters) ≡ find m (filters_of (map filter_of filters))
Find_is m filters =
    ap set_of (sym (s.rolls-Find m filters))
    ∙ fold-roll-TSet Expr FiltersMore ItemsMore SetExpr expr_step filter_step item_step set_step (TSet-F.Find m filters)
