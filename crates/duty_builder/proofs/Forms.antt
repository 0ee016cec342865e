-- What the trees of the code stand for, form by form.
use Rattle.std.proofs.Common.{◌≡◌, ℕ, ℤ, Bool, List, map, ap, sym, ◌∙◌}
use Rattle.text_tree.specs.declared.exprs.CmpOp.{CmpOp}
use Rattle.text_tree.specs.declared.exprs.FilterOp.{FilterOp}
use Rattle.type_schema.specs.declared.trees.TItem.TheVariants as it
use Rattle.type_schema.specs.declared.trees.TFilter.{TFilter}
use Rattle.type_schema.specs.declared.trees.TFilter.TheVariants as fi
use Rattle.type_schema.specs.declared.trees.TExpr.{TExpr}
use Rattle.type_schema.specs.declared.trees.TExpr.TheVariants as ex
use Rattle.type_schema.specs.declared.trees.TExpr.TheOpen.{TExpr-F, TSet-F, TItem-F, TFilter-F}
use Rattle.type_schema.specs.declared.trees.TExpr.TheFolds.{fold-roll-TExpr, fold-roll-TSet, fold-roll-TItem, fold-roll-TFilter}
use Rattle.type_schema.specs.declared.trees.TSet.{TSet}
use Rattle.type_schema.specs.declared.trees.TSet.TheVariants as st
use Rattle.type_schema.specs.Trees.{Expr, SetExpr, flag, num, str, var, nothing, just, get, equal, iff, less, within, negation, both, either, if_expr, match_expr, everyone, nobody, union, minus, find, path, mapped, flat_mapped, if_set, match_set, static_item, record_item, filter_and}
use Rattle.type_schema.specs.Views.{ItemsMore, FiltersMore, expr_step, item_step, filter_step, set_step, expr_of, set_of, item_of, filter_of, filters_of}

pub Flag_is : (b : Bool) → expr_of (ex.Flag b) ≡ flag b
Flag_is b =
    ap expr_of (sym (ex.rolls-Flag b)) ∙ fold-roll-TExpr Expr FiltersMore ItemsMore SetExpr expr_step filter_step item_step set_step (TExpr-F.Flag b)

pub Num_is : (n : ℤ) → expr_of (ex.Num n) ≡ num n
Num_is n =
    ap expr_of (sym (ex.rolls-Num n)) ∙ fold-roll-TExpr Expr FiltersMore ItemsMore SetExpr expr_step filter_step item_step set_step (TExpr-F.Num n)

pub Str_is : (bytes : List ℕ) → expr_of (ex.Str bytes) ≡ str bytes
Str_is bytes =
    ap expr_of (sym (ex.rolls-Str bytes)) ∙ fold-roll-TExpr Expr FiltersMore ItemsMore SetExpr expr_step filter_step item_step set_step (TExpr-F.Str bytes)

pub Var_is : (depth : ℕ) (name : List ℕ) → expr_of (ex.Var depth name) ≡ var depth name
Var_is depth name =
    ap expr_of (sym (ex.rolls-Var depth name)) ∙ fold-roll-TExpr Expr FiltersMore ItemsMore SetExpr expr_step filter_step item_step set_step (TExpr-F.Var depth name)

pub NoneLit_is : expr_of (ex.NoneLit) ≡ nothing
NoneLit_is =
    ap expr_of (sym (ex.rolls-NoneLit)) ∙ fold-roll-TExpr Expr FiltersMore ItemsMore SetExpr expr_step filter_step item_step set_step (TExpr-F.NoneLit)

pub SomeLit_is : (e : TExpr) → expr_of (ex.SomeLit e) ≡ just (expr_of e)
SomeLit_is e =
    ap expr_of (sym (ex.rolls-SomeLit e)) ∙ fold-roll-TExpr Expr FiltersMore ItemsMore SetExpr expr_step filter_step item_step set_step (TExpr-F.SomeLit e)

pub Get_is : (e : TExpr) (m : ℕ) (f : ℕ) → expr_of (ex.Get e m f) ≡ get (expr_of e) m f
Get_is e m f =
    ap expr_of (sym (ex.rolls-Get e m f)) ∙ fold-roll-TExpr Expr FiltersMore ItemsMore SetExpr expr_step filter_step item_step set_step (TExpr-F.Get e m f)

pub Eq_is : (a : TExpr) (b : TExpr) (op : CmpOp) → expr_of (ex.Eq a b op) ≡ equal (expr_of a) (expr_of b) op
Eq_is a b op =
    ap expr_of (sym (ex.rolls-Eq a b op)) ∙ fold-roll-TExpr Expr FiltersMore ItemsMore SetExpr expr_step filter_step item_step set_step (TExpr-F.Eq a b op)

pub Iff_is : (a : TExpr) (b : TExpr) (op : CmpOp) → expr_of (ex.Iff a b op) ≡ iff (expr_of a) (expr_of b) op
Iff_is a b op =
    ap expr_of (sym (ex.rolls-Iff a b op)) ∙ fold-roll-TExpr Expr FiltersMore ItemsMore SetExpr expr_step filter_step item_step set_step (TExpr-F.Iff a b op)

pub Less_is : (a : TExpr) (b : TExpr) (op : CmpOp) → expr_of (ex.Less a b op) ≡ less (expr_of a) (expr_of b) op
Less_is a b op =
    ap expr_of (sym (ex.rolls-Less a b op)) ∙ fold-roll-TExpr Expr FiltersMore ItemsMore SetExpr expr_step filter_step item_step set_step (TExpr-F.«TExpr::Less» a b op)

pub Member_is : (e : TExpr) (m : ℕ) (set : TSet) → expr_of (ex.Member e m set) ≡ within (expr_of e) m (set_of set)
Member_is e m set =
    ap expr_of (sym (ex.rolls-Member e m set)) ∙ fold-roll-TExpr Expr FiltersMore ItemsMore SetExpr expr_step filter_step item_step set_step (TExpr-F.Member e m set)

pub Not_is : (a : TExpr) → expr_of (ex.Not a) ≡ negation (expr_of a)
Not_is a =
    ap expr_of (sym (ex.rolls-Not a)) ∙ fold-roll-TExpr Expr FiltersMore ItemsMore SetExpr expr_step filter_step item_step set_step (TExpr-F.Not a)

pub And_is : (a : TExpr) (b : TExpr) → expr_of (ex.And a b) ≡ both (expr_of a) (expr_of b)
And_is a b =
    ap expr_of (sym (ex.rolls-And a b)) ∙ fold-roll-TExpr Expr FiltersMore ItemsMore SetExpr expr_step filter_step item_step set_step (TExpr-F.And a b)

pub Or_is : (a : TExpr) (b : TExpr) → expr_of (ex.Or a b) ≡ either (expr_of a) (expr_of b)
Or_is a b =
    ap expr_of (sym (ex.rolls-Or a b)) ∙ fold-roll-TExpr Expr FiltersMore ItemsMore SetExpr expr_step filter_step item_step set_step (TExpr-F.Or a b)

pub IfE_is : (c : TExpr) (a : TExpr) (b : TExpr) → expr_of (ex.IfE c a b) ≡ if_expr (expr_of c) (expr_of a) (expr_of b)
IfE_is c a b =
    ap expr_of (sym (ex.rolls-IfE c a b)) ∙ fold-roll-TExpr Expr FiltersMore ItemsMore SetExpr expr_step filter_step item_step set_step (TExpr-F.IfE c a b)

pub MatchE_is : (e : TExpr) (a : TExpr) (name : List ℕ) (c : TExpr) → expr_of (ex.MatchE e a name c) ≡ match_expr (expr_of e) (expr_of a) name (expr_of c)
MatchE_is e a name c =
    ap expr_of (sym (ex.rolls-MatchE e a name c)) ∙ fold-roll-TExpr Expr FiltersMore ItemsMore SetExpr expr_step filter_step item_step set_step (TExpr-F.MatchE e a name c)

pub Everyone_set : set_of (st.Everyone) ≡ everyone
Everyone_set =
    ap set_of (sym (st.rolls-Everyone)) ∙ fold-roll-TSet Expr FiltersMore ItemsMore SetExpr expr_step filter_step item_step set_step (TSet-F.Everyone)

pub Nobody_set : set_of (st.Nobody) ≡ nobody
Nobody_set =
    ap set_of (sym (st.rolls-Nobody)) ∙ fold-roll-TSet Expr FiltersMore ItemsMore SetExpr expr_step filter_step item_step set_step (TSet-F.Nobody)

pub Sum_set : (a : TSet) (b : TSet) → set_of (st.Sum a b) ≡ union (set_of a) (set_of b)
Sum_set a b =
    ap set_of (sym (st.rolls-Sum a b)) ∙ fold-roll-TSet Expr FiltersMore ItemsMore SetExpr expr_step filter_step item_step set_step (TSet-F.Sum a b)

pub Less_set : (a : TSet) (b : TSet) → set_of (st.Less a b) ≡ minus (set_of a) (set_of b)
Less_set a b =
    ap set_of (sym (st.rolls-Less a b)) ∙ fold-roll-TSet Expr FiltersMore ItemsMore SetExpr expr_step filter_step item_step set_step (TSet-F.«TSet::Less» a b)

pub Path_set : (m : ℕ) (e : TExpr) → set_of (st.Path m e) ≡ path m (expr_of e)
Path_set m e =
    ap set_of (sym (st.rolls-Path m e)) ∙ fold-roll-TSet Expr FiltersMore ItemsMore SetExpr expr_step filter_step item_step set_step (TSet-F.Path m e)

pub MapS_set : (set : TSet) (n : ℕ) (x : List ℕ) (m : ℕ) (e : TExpr) → set_of (st.MapS set n x m e) ≡ mapped (set_of set) n x m (expr_of e)
MapS_set set n x m e =
    ap set_of (sym (st.rolls-MapS set n x m e)) ∙ fold-roll-TSet Expr FiltersMore ItemsMore SetExpr expr_step filter_step item_step set_step (TSet-F.MapS set n x m e)

pub FlatS_set : (set : TSet) (n : ℕ) (x : List ℕ) (body : TSet) → set_of (st.FlatS set n x body) ≡ flat_mapped (set_of set) n x (set_of body)
FlatS_set set n x body =
    ap set_of (sym (st.rolls-FlatS set n x body)) ∙ fold-roll-TSet Expr FiltersMore ItemsMore SetExpr expr_step filter_step item_step set_step (TSet-F.FlatS set n x body)

pub IfS_set : (c : TExpr) (a : TSet) (b : TSet) → set_of (st.IfS c a b) ≡ if_set (expr_of c) (set_of a) (set_of b)
IfS_set c a b =
    ap set_of (sym (st.rolls-IfS c a b)) ∙ fold-roll-TSet Expr FiltersMore ItemsMore SetExpr expr_step filter_step item_step set_step (TSet-F.IfS c a b)

pub MatchS_set : (e : TExpr) (a : TSet) (name : List ℕ) (c : TSet) → set_of (st.MatchS e a name c) ≡ match_set (expr_of e) (set_of a) name (set_of c)
MatchS_set e a name c =
    ap set_of (sym (st.rolls-MatchS e a name c)) ∙ fold-roll-TSet Expr FiltersMore ItemsMore SetExpr expr_step filter_step item_step set_step (TSet-F.MatchS e a name c)

pub Find_set : (m : ℕ) (filters : List TFilter) → set_of (st.Find m filters) ≡ find m (filters_of (map filter_of filters))
Find_set m filters =
    ap set_of (sym (st.rolls-Find m filters)) ∙ fold-roll-TSet Expr FiltersMore ItemsMore SetExpr expr_step filter_step item_step set_step (TSet-F.Find m filters)

-- an item, and a filter, in front of others
pub Static_item : (n : ℕ) → item_of (it.Static n) ≡ static_item n
Static_item n = ap item_of (sym (it.rolls-Static n)) ∙ fold-roll-TItem Expr FiltersMore ItemsMore SetExpr expr_step filter_step item_step set_step (TItem-F.Static n)

pub One_item : (m : ℕ) (e : TExpr) → item_of (it.One m e) ≡ record_item m (expr_of e)
One_item m e = ap item_of (sym (it.rolls-One m e)) ∙ fold-roll-TItem Expr FiltersMore ItemsMore SetExpr expr_step filter_step item_step set_step (TItem-F.One m e)

pub Test_filter : (f : ℕ) (op : FilterOp) (e : TExpr) → filter_of (fi.Test f op e) ≡ filter_and f op (expr_of e)
Test_filter f op e = ap filter_of (sym (fi.rolls-Test f op e)) ∙ fold-roll-TFilter Expr FiltersMore ItemsMore SetExpr expr_step filter_step item_step set_step (TFilter-F.Test f op e)
