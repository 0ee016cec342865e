-- What each typed form stands for, by its parts.
use Rattle.std.proofs.Common.{◌≡◌, ℕ, ℤ, Bool, List, map, sym, ◌∙◌, ap}
use Rattle.text_tree.specs.declared.exprs.CmpOp.{CmpOp}
use Rattle.text_tree.specs.declared.exprs.FilterOp.{FilterOp}
use Rattle.type_schema.specs.declared.trees.TExpr.{TExpr}
use Rattle.type_schema.specs.declared.trees.TExpr.TheOpen.{TExpr-F, TSet-F, TItem-F, TFilter-F}
use Rattle.type_schema.specs.declared.trees.TExpr.TheFolds.{fold-roll-TExpr, fold-roll-TSet, fold-roll-TItem, fold-roll-TFilter}
use Rattle.type_schema.specs.declared.trees.TExpr.TheVariants as t
use Rattle.type_schema.specs.declared.trees.TSet.{TSet}
use Rattle.type_schema.specs.declared.trees.TSet.TheVariants as ts
use Rattle.type_schema.specs.declared.trees.TItem.{TItem}
use Rattle.type_schema.specs.declared.trees.TItem.TheVariants as ti
use Rattle.type_schema.specs.declared.trees.TFilter.{TFilter}
use Rattle.type_schema.specs.declared.trees.TFilter.TheVariants as tf
use Rattle.type_schema.specs.Trees.{Name, Expr, flag, num, str, var, nothing, just, get, equal, iff, less, within, negation, both, either, if_expr, match_expr, SetExpr, everyone, nobody, listed, union, minus, find, path, mapped, flat_mapped, if_set, match_set, static_item, record_item, filter_and}
use Rattle.type_schema.specs.Views.{ItemsMore, FiltersMore, items_of, filters_of, expr_step, item_step, filter_step, set_step, expr_of, set_of, item_of, filter_of}

pub NoneLit_seen : expr_of t.NoneLit ≡ nothing
NoneLit_seen = ap expr_of (sym t.rolls-NoneLit) ∙ fold-roll-TExpr Expr FiltersMore ItemsMore SetExpr expr_step filter_step item_step set_step TExpr-F.NoneLit

pub Everyone_seen : set_of ts.Everyone ≡ everyone
Everyone_seen = ap set_of (sym ts.rolls-Everyone) ∙ fold-roll-TSet Expr FiltersMore ItemsMore SetExpr expr_step filter_step item_step set_step TSet-F.Everyone

pub Nobody_seen : set_of ts.Nobody ≡ nobody
Nobody_seen = ap set_of (sym ts.rolls-Nobody) ∙ fold-roll-TSet Expr FiltersMore ItemsMore SetExpr expr_step filter_step item_step set_step TSet-F.Nobody

pub Flag_seen : (b : Bool) → expr_of (t.Flag b) ≡ flag b
Flag_seen b = ap expr_of (sym (t.rolls-Flag b)) ∙ fold-roll-TExpr Expr FiltersMore ItemsMore SetExpr expr_step filter_step item_step set_step (TExpr-F.Flag b)

pub Num_seen : (n : ℤ) → expr_of (t.Num n) ≡ num n
Num_seen n = ap expr_of (sym (t.rolls-Num n)) ∙ fold-roll-TExpr Expr FiltersMore ItemsMore SetExpr expr_step filter_step item_step set_step (TExpr-F.Num n)

pub Str_seen : (bytes : List ℕ) → expr_of (t.Str bytes) ≡ str bytes
Str_seen bytes = ap expr_of (sym (t.rolls-Str bytes)) ∙ fold-roll-TExpr Expr FiltersMore ItemsMore SetExpr expr_step filter_step item_step set_step (TExpr-F.Str bytes)

pub Var_seen : (depth : ℕ) (x : Name) → expr_of (t.Var depth x) ≡ var depth x
Var_seen depth x = ap expr_of (sym (t.rolls-Var depth x)) ∙ fold-roll-TExpr Expr FiltersMore ItemsMore SetExpr expr_step filter_step item_step set_step (TExpr-F.Var depth x)

pub SomeLit_seen : (a : TExpr) → expr_of (t.SomeLit a) ≡ just (expr_of a)
SomeLit_seen a = ap expr_of (sym (t.rolls-SomeLit a)) ∙ fold-roll-TExpr Expr FiltersMore ItemsMore SetExpr expr_step filter_step item_step set_step (TExpr-F.SomeLit a)

pub Get_seen : (a : TExpr) (m f : ℕ) → expr_of (t.Get a m f) ≡ get (expr_of a) m f
Get_seen a m f = ap expr_of (sym (t.rolls-Get a m f)) ∙ fold-roll-TExpr Expr FiltersMore ItemsMore SetExpr expr_step filter_step item_step set_step (TExpr-F.Get a m f)

pub Eq_seen : (a b : TExpr) (op : CmpOp) → expr_of (t.Eq a b op) ≡ equal (expr_of a) (expr_of b) op
Eq_seen a b op = ap expr_of (sym (t.rolls-Eq a b op)) ∙ fold-roll-TExpr Expr FiltersMore ItemsMore SetExpr expr_step filter_step item_step set_step (TExpr-F.Eq a b op)

pub Iff_seen : (a b : TExpr) (op : CmpOp) → expr_of (t.Iff a b op) ≡ iff (expr_of a) (expr_of b) op
Iff_seen a b op = ap expr_of (sym (t.rolls-Iff a b op)) ∙ fold-roll-TExpr Expr FiltersMore ItemsMore SetExpr expr_step filter_step item_step set_step (TExpr-F.Iff a b op)

pub Less_seen : (a b : TExpr) (op : CmpOp) → expr_of (t.Less a b op) ≡ less (expr_of a) (expr_of b) op
Less_seen a b op = ap expr_of (sym (t.rolls-Less a b op)) ∙ fold-roll-TExpr Expr FiltersMore ItemsMore SetExpr expr_step filter_step item_step set_step (TExpr-F.«TExpr::Less» a b op)

pub Member_seen : (a : TExpr) (m : ℕ) (set : TSet) → expr_of (t.Member a m set) ≡ within (expr_of a) m (set_of set)
Member_seen a m set = ap expr_of (sym (t.rolls-Member a m set)) ∙ fold-roll-TExpr Expr FiltersMore ItemsMore SetExpr expr_step filter_step item_step set_step (TExpr-F.Member a m set)

pub Not_seen : (a : TExpr) → expr_of (t.Not a) ≡ negation (expr_of a)
Not_seen a = ap expr_of (sym (t.rolls-Not a)) ∙ fold-roll-TExpr Expr FiltersMore ItemsMore SetExpr expr_step filter_step item_step set_step (TExpr-F.Not a)

pub And_seen : (a b : TExpr) → expr_of (t.And a b) ≡ both (expr_of a) (expr_of b)
And_seen a b = ap expr_of (sym (t.rolls-And a b)) ∙ fold-roll-TExpr Expr FiltersMore ItemsMore SetExpr expr_step filter_step item_step set_step (TExpr-F.And a b)

pub Or_seen : (a b : TExpr) → expr_of (t.Or a b) ≡ either (expr_of a) (expr_of b)
Or_seen a b = ap expr_of (sym (t.rolls-Or a b)) ∙ fold-roll-TExpr Expr FiltersMore ItemsMore SetExpr expr_step filter_step item_step set_step (TExpr-F.Or a b)

pub IfE_seen : (a b c : TExpr) → expr_of (t.IfE a b c) ≡ if_expr (expr_of a) (expr_of b) (expr_of c)
IfE_seen a b c = ap expr_of (sym (t.rolls-IfE a b c)) ∙ fold-roll-TExpr Expr FiltersMore ItemsMore SetExpr expr_step filter_step item_step set_step (TExpr-F.IfE a b c)

pub MatchE_seen : (a b : TExpr) (x : Name) (c : TExpr) → expr_of (t.MatchE a b x c) ≡ match_expr (expr_of a) (expr_of b) x (expr_of c)
MatchE_seen a b x c = ap expr_of (sym (t.rolls-MatchE a b x c)) ∙ fold-roll-TExpr Expr FiltersMore ItemsMore SetExpr expr_step filter_step item_step set_step (TExpr-F.MatchE a b x c)

pub List_seen : (items : List TItem) → set_of (ts.List items) ≡ listed (items_of (map item_of items))
List_seen items = ap set_of (sym (ts.rolls-List items)) ∙ fold-roll-TSet Expr FiltersMore ItemsMore SetExpr expr_step filter_step item_step set_step (TSet-F.List items)

pub Sum_seen : (a b : TSet) → set_of (ts.Sum a b) ≡ union (set_of a) (set_of b)
Sum_seen a b = ap set_of (sym (ts.rolls-Sum a b)) ∙ fold-roll-TSet Expr FiltersMore ItemsMore SetExpr expr_step filter_step item_step set_step (TSet-F.Sum a b)

pub Minus_seen : (a b : TSet) → set_of (ts.Less a b) ≡ minus (set_of a) (set_of b)
Minus_seen a b = ap set_of (sym (ts.rolls-Less a b)) ∙ fold-roll-TSet Expr FiltersMore ItemsMore SetExpr expr_step filter_step item_step set_step (TSet-F.«TSet::Less» a b)

pub Find_seen : (m : ℕ) (fs : List TFilter) → set_of (ts.Find m fs) ≡ find m (filters_of (map filter_of fs))
Find_seen m fs = ap set_of (sym (ts.rolls-Find m fs)) ∙ fold-roll-TSet Expr FiltersMore ItemsMore SetExpr expr_step filter_step item_step set_step (TSet-F.Find m fs)

pub Path_seen : (m : ℕ) (a : TExpr) → set_of (ts.Path m a) ≡ path m (expr_of a)
Path_seen m a = ap set_of (sym (ts.rolls-Path m a)) ∙ fold-roll-TSet Expr FiltersMore ItemsMore SetExpr expr_step filter_step item_step set_step (TSet-F.Path m a)

pub MapS_seen : (a : TSet) (n : ℕ) (x : Name) (m : ℕ) (b : TExpr) → set_of (ts.MapS a n x m b) ≡ mapped (set_of a) n x m (expr_of b)
MapS_seen a n x m b = ap set_of (sym (ts.rolls-MapS a n x m b)) ∙ fold-roll-TSet Expr FiltersMore ItemsMore SetExpr expr_step filter_step item_step set_step (TSet-F.MapS a n x m b)

pub FlatS_seen : (a : TSet) (n : ℕ) (x : Name) (b : TSet) → set_of (ts.FlatS a n x b) ≡ flat_mapped (set_of a) n x (set_of b)
FlatS_seen a n x b = ap set_of (sym (ts.rolls-FlatS a n x b)) ∙ fold-roll-TSet Expr FiltersMore ItemsMore SetExpr expr_step filter_step item_step set_step (TSet-F.FlatS a n x b)

pub IfS_seen : (a : TExpr) (b c : TSet) → set_of (ts.IfS a b c) ≡ if_set (expr_of a) (set_of b) (set_of c)
IfS_seen a b c = ap set_of (sym (ts.rolls-IfS a b c)) ∙ fold-roll-TSet Expr FiltersMore ItemsMore SetExpr expr_step filter_step item_step set_step (TSet-F.IfS a b c)

pub MatchS_seen : (a : TExpr) (b : TSet) (x : Name) (c : TSet) → set_of (ts.MatchS a b x c) ≡ match_set (expr_of a) (set_of b) x (set_of c)
MatchS_seen a b x c = ap set_of (sym (ts.rolls-MatchS a b x c)) ∙ fold-roll-TSet Expr FiltersMore ItemsMore SetExpr expr_step filter_step item_step set_step (TSet-F.MatchS a b x c)

pub Static_seen : (n : ℕ) → item_of (ti.Static n) ≡ static_item n
Static_seen n = ap item_of (sym (ti.rolls-Static n)) ∙ fold-roll-TItem Expr FiltersMore ItemsMore SetExpr expr_step filter_step item_step set_step (TItem-F.Static n)

pub One_seen : (m : ℕ) (a : TExpr) → item_of (ti.One m a) ≡ record_item m (expr_of a)
One_seen m a = ap item_of (sym (ti.rolls-One m a)) ∙ fold-roll-TItem Expr FiltersMore ItemsMore SetExpr expr_step filter_step item_step set_step (TItem-F.One m a)

pub Test_seen : (f : ℕ) (op : FilterOp) (a : TExpr) → filter_of (tf.Test f op a) ≡ filter_and f op (expr_of a)
Test_seen f op a = ap filter_of (sym (tf.rolls-Test f op a)) ∙ fold-roll-TFilter Expr FiltersMore ItemsMore SetExpr expr_step filter_step item_step set_step (TFilter-F.Test f op a)
