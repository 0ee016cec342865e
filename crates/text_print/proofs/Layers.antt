-- What trees are spelled and stripped to, level by level.
use Rattle.std.proofs.Common.{◌≡◌, ℕ, ℤ, Bool, true, false, List, map, sym, ◌∙◌, ap}
use Rattle.text_tree.specs.declared.named.Named.{Named}
use Rattle.text_tree.specs.declared.exprs.CmpOp.{CmpOp}
use Rattle.text_tree.specs.declared.exprs.Expr.{Expr, out-Expr, roll-Expr, roll-out-Expr}
use Rattle.text_tree.specs.declared.exprs.SetExpr.{SetExpr, out-SetExpr, roll-SetExpr, roll-out-SetExpr}
use Rattle.text_tree.specs.declared.exprs.Item.{Item}
use Rattle.text_tree.specs.declared.exprs.Item.TheVariants as i
use Rattle.text_tree.specs.declared.exprs.Filter.{Filter, roll-Filter}
use Rattle.text_tree.specs.declared.exprs.FilterOp.{FilterOp}
use Rattle.text_tree.specs.declared.exprs.Expr.TheVariants as e
use Rattle.text_tree.specs.declared.exprs.SetExpr.TheVariants as s
use Rattle.text_tree.specs.declared.exprs.Expr.TheOpen.{Expr-F, SetExpr-F, Item-F}
use Rattle.text_tree.specs.declared.exprs.Expr.TheFolds.{fold-roll-Expr, fold-roll-SetExpr, fold-roll-Item, fold-roll-Filter}
use Rattle.text_tree.specs.Placed.{ExprLayer, SetLayer, layer_moved, set_layer_moved, placed_expr, placed_set}
use Rattle.text_tree.specs.Stripped.{expr_level, item_level, set_level, filter_level, stripped_expr, stripped_set, stripped_item, stripped_filter}
use Rattle.text_print.specs.Exprs.{Spelling, expr_spelling, filter_spelling, item_spelling, set_spelling, spelled_expr, spelled_filter, spelled_item, spelled_set}
use Rattle.text_print.specs.Marks.{Mark}

pub Flag_spelled : (v : Bool) (at : ℕ) → spelled_expr (e.Flag at v) ≡ expr_spelling (Expr-F.Flag at v)
Flag_spelled v at = ap spelled_expr (sym (e.rolls-Flag at v)) ∙ fold-roll-Expr Spelling (List Mark) Spelling (List Mark) expr_spelling item_spelling set_spelling filter_spelling (Expr-F.Flag at v)

pub Flag_stripped : (v : Bool) (at : ℕ) → stripped_expr (e.Flag at v) ≡ expr_level (Expr-F.Flag at v)
Flag_stripped v at = ap stripped_expr (sym (e.rolls-Flag at v)) ∙ fold-roll-Expr Expr Item SetExpr Filter expr_level item_level set_level filter_level (Expr-F.Flag at v)

pub Num_spelled : (v : ℤ) (at : ℕ) → spelled_expr (e.Num at v) ≡ expr_spelling (Expr-F.Num at v)
Num_spelled v at = ap spelled_expr (sym (e.rolls-Num at v)) ∙ fold-roll-Expr Spelling (List Mark) Spelling (List Mark) expr_spelling item_spelling set_spelling filter_spelling (Expr-F.Num at v)

pub Num_stripped : (v : ℤ) (at : ℕ) → stripped_expr (e.Num at v) ≡ expr_level (Expr-F.Num at v)
Num_stripped v at = ap stripped_expr (sym (e.rolls-Num at v)) ∙ fold-roll-Expr Expr Item SetExpr Filter expr_level item_level set_level filter_level (Expr-F.Num at v)

pub Str_spelled : (t : List ℕ) (at : ℕ) → spelled_expr (e.Str at t) ≡ expr_spelling (Expr-F.Str at t)
Str_spelled t at = ap spelled_expr (sym (e.rolls-Str at t)) ∙ fold-roll-Expr Spelling (List Mark) Spelling (List Mark) expr_spelling item_spelling set_spelling filter_spelling (Expr-F.Str at t)

pub Str_stripped : (t : List ℕ) (at : ℕ) → stripped_expr (e.Str at t) ≡ expr_level (Expr-F.Str at t)
Str_stripped t at = ap stripped_expr (sym (e.rolls-Str at t)) ∙ fold-roll-Expr Expr Item SetExpr Filter expr_level item_level set_level filter_level (Expr-F.Str at t)

pub Var_spelled : (x : Named) (at : ℕ) → spelled_expr (e.Var at x) ≡ expr_spelling (Expr-F.Var at x)
Var_spelled x at = ap spelled_expr (sym (e.rolls-Var at x)) ∙ fold-roll-Expr Spelling (List Mark) Spelling (List Mark) expr_spelling item_spelling set_spelling filter_spelling (Expr-F.Var at x)

pub Var_stripped : (x : Named) (at : ℕ) → stripped_expr (e.Var at x) ≡ expr_level (Expr-F.Var at x)
Var_stripped x at = ap stripped_expr (sym (e.rolls-Var at x)) ∙ fold-roll-Expr Expr Item SetExpr Filter expr_level item_level set_level filter_level (Expr-F.Var at x)

pub NoneLit_spelled : (at : ℕ) → spelled_expr (e.NoneLit at) ≡ expr_spelling (Expr-F.NoneLit at)
NoneLit_spelled at = ap spelled_expr (sym (e.rolls-NoneLit at)) ∙ fold-roll-Expr Spelling (List Mark) Spelling (List Mark) expr_spelling item_spelling set_spelling filter_spelling (Expr-F.NoneLit at)

pub NoneLit_stripped : (at : ℕ) → stripped_expr (e.NoneLit at) ≡ expr_level (Expr-F.NoneLit at)
NoneLit_stripped at = ap stripped_expr (sym (e.rolls-NoneLit at)) ∙ fold-roll-Expr Expr Item SetExpr Filter expr_level item_level set_level filter_level (Expr-F.NoneLit at)

pub SomeLit_spelled : (a : Expr) (at : ℕ) → spelled_expr (e.SomeLit at a) ≡ expr_spelling (Expr-F.SomeLit at (spelled_expr a))
SomeLit_spelled a at = ap spelled_expr (sym (e.rolls-SomeLit at a)) ∙ fold-roll-Expr Spelling (List Mark) Spelling (List Mark) expr_spelling item_spelling set_spelling filter_spelling (Expr-F.SomeLit at a)

pub SomeLit_stripped : (a : Expr) (at : ℕ) → stripped_expr (e.SomeLit at a) ≡ expr_level (Expr-F.SomeLit at (stripped_expr a))
SomeLit_stripped a at = ap stripped_expr (sym (e.rolls-SomeLit at a)) ∙ fold-roll-Expr Expr Item SetExpr Filter expr_level item_level set_level filter_level (Expr-F.SomeLit at a)

pub Get_spelled : (a : Expr) (f : Named) (at : ℕ) → spelled_expr (e.Get at a f) ≡ expr_spelling (Expr-F.Get at (spelled_expr a) f)
Get_spelled a f at = ap spelled_expr (sym (e.rolls-Get at a f)) ∙ fold-roll-Expr Spelling (List Mark) Spelling (List Mark) expr_spelling item_spelling set_spelling filter_spelling (Expr-F.Get at a f)

pub Get_stripped : (a : Expr) (f : Named) (at : ℕ) → stripped_expr (e.Get at a f) ≡ expr_level (Expr-F.Get at (stripped_expr a) f)
Get_stripped a f at = ap stripped_expr (sym (e.rolls-Get at a f)) ∙ fold-roll-Expr Expr Item SetExpr Filter expr_level item_level set_level filter_level (Expr-F.Get at a f)

pub Cmp_spelled : (op : CmpOp) (a b : Expr) (at : ℕ) → spelled_expr (e.Cmp at op a b) ≡ expr_spelling (Expr-F.Cmp at op (spelled_expr a) (spelled_expr b))
Cmp_spelled op a b at = ap spelled_expr (sym (e.rolls-Cmp at op a b)) ∙ fold-roll-Expr Spelling (List Mark) Spelling (List Mark) expr_spelling item_spelling set_spelling filter_spelling (Expr-F.Cmp at op a b)

pub Cmp_stripped : (op : CmpOp) (a b : Expr) (at : ℕ) → stripped_expr (e.Cmp at op a b) ≡ expr_level (Expr-F.Cmp at op (stripped_expr a) (stripped_expr b))
Cmp_stripped op a b at = ap stripped_expr (sym (e.rolls-Cmp at op a b)) ∙ fold-roll-Expr Expr Item SetExpr Filter expr_level item_level set_level filter_level (Expr-F.Cmp at op a b)

pub Member_spelled : (a : Expr) (t : SetExpr) (at : ℕ) → spelled_expr (e.Member at a t) ≡ expr_spelling (Expr-F.Member at (spelled_expr a) (spelled_set t))
Member_spelled a t at = ap spelled_expr (sym (e.rolls-Member at a t)) ∙ fold-roll-Expr Spelling (List Mark) Spelling (List Mark) expr_spelling item_spelling set_spelling filter_spelling (Expr-F.Member at a t)

pub Member_stripped : (a : Expr) (t : SetExpr) (at : ℕ) → stripped_expr (e.Member at a t) ≡ expr_level (Expr-F.Member at (stripped_expr a) (stripped_set t))
Member_stripped a t at = ap stripped_expr (sym (e.rolls-Member at a t)) ∙ fold-roll-Expr Expr Item SetExpr Filter expr_level item_level set_level filter_level (Expr-F.Member at a t)

pub Not_spelled : (a : Expr) (at : ℕ) → spelled_expr (e.Not at a) ≡ expr_spelling (Expr-F.Not at (spelled_expr a))
Not_spelled a at = ap spelled_expr (sym (e.rolls-Not at a)) ∙ fold-roll-Expr Spelling (List Mark) Spelling (List Mark) expr_spelling item_spelling set_spelling filter_spelling (Expr-F.Not at a)

pub Not_stripped : (a : Expr) (at : ℕ) → stripped_expr (e.Not at a) ≡ expr_level (Expr-F.Not at (stripped_expr a))
Not_stripped a at = ap stripped_expr (sym (e.rolls-Not at a)) ∙ fold-roll-Expr Expr Item SetExpr Filter expr_level item_level set_level filter_level (Expr-F.Not at a)

pub And_spelled : (a b : Expr) (at : ℕ) → spelled_expr (e.And at a b) ≡ expr_spelling (Expr-F.And at (spelled_expr a) (spelled_expr b))
And_spelled a b at = ap spelled_expr (sym (e.rolls-And at a b)) ∙ fold-roll-Expr Spelling (List Mark) Spelling (List Mark) expr_spelling item_spelling set_spelling filter_spelling (Expr-F.And at a b)

pub And_stripped : (a b : Expr) (at : ℕ) → stripped_expr (e.And at a b) ≡ expr_level (Expr-F.And at (stripped_expr a) (stripped_expr b))
And_stripped a b at = ap stripped_expr (sym (e.rolls-And at a b)) ∙ fold-roll-Expr Expr Item SetExpr Filter expr_level item_level set_level filter_level (Expr-F.And at a b)

pub Or_spelled : (a b : Expr) (at : ℕ) → spelled_expr (e.Or at a b) ≡ expr_spelling (Expr-F.Or at (spelled_expr a) (spelled_expr b))
Or_spelled a b at = ap spelled_expr (sym (e.rolls-Or at a b)) ∙ fold-roll-Expr Spelling (List Mark) Spelling (List Mark) expr_spelling item_spelling set_spelling filter_spelling (Expr-F.Or at a b)

pub Or_stripped : (a b : Expr) (at : ℕ) → stripped_expr (e.Or at a b) ≡ expr_level (Expr-F.Or at (stripped_expr a) (stripped_expr b))
Or_stripped a b at = ap stripped_expr (sym (e.rolls-Or at a b)) ∙ fold-roll-Expr Expr Item SetExpr Filter expr_level item_level set_level filter_level (Expr-F.Or at a b)

pub IfE_spelled : (a b d : Expr) (at : ℕ) → spelled_expr (e.IfE at a b d) ≡ expr_spelling (Expr-F.IfE at (spelled_expr a) (spelled_expr b) (spelled_expr d))
IfE_spelled a b d at = ap spelled_expr (sym (e.rolls-IfE at a b d)) ∙ fold-roll-Expr Spelling (List Mark) Spelling (List Mark) expr_spelling item_spelling set_spelling filter_spelling (Expr-F.IfE at a b d)

pub IfE_stripped : (a b d : Expr) (at : ℕ) → stripped_expr (e.IfE at a b d) ≡ expr_level (Expr-F.IfE at (stripped_expr a) (stripped_expr b) (stripped_expr d))
IfE_stripped a b d at = ap stripped_expr (sym (e.rolls-IfE at a b d)) ∙ fold-roll-Expr Expr Item SetExpr Filter expr_level item_level set_level filter_level (Expr-F.IfE at a b d)

pub MatchE_spelled : (a b : Expr) (x : Named) (d : Expr) (at : ℕ) → spelled_expr (e.MatchE at a b (x, d)) ≡ expr_spelling (Expr-F.MatchE at (spelled_expr a) (spelled_expr b) (x, spelled_expr d))
MatchE_spelled a b x d at = ap spelled_expr (sym (e.rolls-MatchE at a b (x, d))) ∙ fold-roll-Expr Spelling (List Mark) Spelling (List Mark) expr_spelling item_spelling set_spelling filter_spelling (Expr-F.MatchE at a b (x, d))

pub MatchE_stripped : (a b : Expr) (x : Named) (d : Expr) (at : ℕ) → stripped_expr (e.MatchE at a b (x, d)) ≡ expr_level (Expr-F.MatchE at (stripped_expr a) (stripped_expr b) (x, stripped_expr d))
MatchE_stripped a b x d at = ap stripped_expr (sym (e.rolls-MatchE at a b (x, d))) ∙ fold-roll-Expr Expr Item SetExpr Filter expr_level item_level set_level filter_level (Expr-F.MatchE at a b (x, d))

pub Everyone_spelled : (w at : ℕ) → spelled_set (s.Everyone at w) ≡ set_spelling (SetExpr-F.Everyone at w)
Everyone_spelled w at = ap spelled_set (sym (s.rolls-Everyone at w)) ∙ fold-roll-SetExpr Spelling (List Mark) Spelling (List Mark) expr_spelling item_spelling set_spelling filter_spelling (SetExpr-F.Everyone at w)

pub Everyone_stripped : (w at : ℕ) → stripped_set (s.Everyone at w) ≡ set_level (SetExpr-F.Everyone at w)
Everyone_stripped w at = ap stripped_set (sym (s.rolls-Everyone at w)) ∙ fold-roll-SetExpr Expr Item SetExpr Filter expr_level item_level set_level filter_level (SetExpr-F.Everyone at w)

pub Nobody_spelled : (at : ℕ) → spelled_set (s.Nobody at) ≡ set_spelling (SetExpr-F.Nobody at)
Nobody_spelled at = ap spelled_set (sym (s.rolls-Nobody at)) ∙ fold-roll-SetExpr Spelling (List Mark) Spelling (List Mark) expr_spelling item_spelling set_spelling filter_spelling (SetExpr-F.Nobody at)

pub Nobody_stripped : (at : ℕ) → stripped_set (s.Nobody at) ≡ set_level (SetExpr-F.Nobody at)
Nobody_stripped at = ap stripped_set (sym (s.rolls-Nobody at)) ∙ fold-roll-SetExpr Expr Item SetExpr Filter expr_level item_level set_level filter_level (SetExpr-F.Nobody at)

pub List_spelled : (xs : List Item) (at : ℕ) → spelled_set (s.List at xs) ≡ set_spelling (SetExpr-F.List at (map spelled_item xs))
List_spelled xs at = ap spelled_set (sym (s.rolls-List at xs)) ∙ fold-roll-SetExpr Spelling (List Mark) Spelling (List Mark) expr_spelling item_spelling set_spelling filter_spelling (SetExpr-F.List at xs)

pub List_stripped : (xs : List Item) (at : ℕ) → stripped_set (s.List at xs) ≡ set_level (SetExpr-F.List at (map stripped_item xs))
List_stripped xs at = ap stripped_set (sym (s.rolls-List at xs)) ∙ fold-roll-SetExpr Expr Item SetExpr Filter expr_level item_level set_level filter_level (SetExpr-F.List at xs)

pub Sum_spelled : (t u : SetExpr) (at : ℕ) → spelled_set (s.Sum at t u) ≡ set_spelling (SetExpr-F.Sum at (spelled_set t) (spelled_set u))
Sum_spelled t u at = ap spelled_set (sym (s.rolls-Sum at t u)) ∙ fold-roll-SetExpr Spelling (List Mark) Spelling (List Mark) expr_spelling item_spelling set_spelling filter_spelling (SetExpr-F.Sum at t u)

pub Sum_stripped : (t u : SetExpr) (at : ℕ) → stripped_set (s.Sum at t u) ≡ set_level (SetExpr-F.Sum at (stripped_set t) (stripped_set u))
Sum_stripped t u at = ap stripped_set (sym (s.rolls-Sum at t u)) ∙ fold-roll-SetExpr Expr Item SetExpr Filter expr_level item_level set_level filter_level (SetExpr-F.Sum at t u)

pub Less_spelled : (t u : SetExpr) (at : ℕ) → spelled_set (s.Less at t u) ≡ set_spelling (SetExpr-F.Less at (spelled_set t) (spelled_set u))
Less_spelled t u at = ap spelled_set (sym (s.rolls-Less at t u)) ∙ fold-roll-SetExpr Spelling (List Mark) Spelling (List Mark) expr_spelling item_spelling set_spelling filter_spelling (SetExpr-F.Less at t u)

pub Less_stripped : (t u : SetExpr) (at : ℕ) → stripped_set (s.Less at t u) ≡ set_level (SetExpr-F.Less at (stripped_set t) (stripped_set u))
Less_stripped t u at = ap stripped_set (sym (s.rolls-Less at t u)) ∙ fold-roll-SetExpr Expr Item SetExpr Filter expr_level item_level set_level filter_level (SetExpr-F.Less at t u)

pub Find_spelled : (x : Named) (fs : List Filter) (at : ℕ) → spelled_set (s.Find at x fs) ≡ set_spelling (SetExpr-F.Find at x (map spelled_filter fs))
Find_spelled x fs at = ap spelled_set (sym (s.rolls-Find at x fs)) ∙ fold-roll-SetExpr Spelling (List Mark) Spelling (List Mark) expr_spelling item_spelling set_spelling filter_spelling (SetExpr-F.Find at x fs)

pub Find_stripped : (x : Named) (fs : List Filter) (at : ℕ) → stripped_set (s.Find at x fs) ≡ set_level (SetExpr-F.Find at x (map stripped_filter fs))
Find_stripped x fs at = ap stripped_set (sym (s.rolls-Find at x fs)) ∙ fold-roll-SetExpr Expr Item SetExpr Filter expr_level item_level set_level filter_level (SetExpr-F.Find at x fs)

pub Path_spelled : (a : Expr) (at : ℕ) → spelled_set (s.Path at a) ≡ set_spelling (SetExpr-F.Path at (spelled_expr a))
Path_spelled a at = ap spelled_set (sym (s.rolls-Path at a)) ∙ fold-roll-SetExpr Spelling (List Mark) Spelling (List Mark) expr_spelling item_spelling set_spelling filter_spelling (SetExpr-F.Path at a)

pub Path_stripped : (a : Expr) (at : ℕ) → stripped_set (s.Path at a) ≡ set_level (SetExpr-F.Path at (stripped_expr a))
Path_stripped a at = ap stripped_set (sym (s.rolls-Path at a)) ∙ fold-roll-SetExpr Expr Item SetExpr Filter expr_level item_level set_level filter_level (SetExpr-F.Path at a)

pub MapS_spelled : (t : SetExpr) (x : Named) (a : Expr) (at : ℕ) → spelled_set (s.MapS at t x a) ≡ set_spelling (SetExpr-F.MapS at (spelled_set t) x (spelled_expr a))
MapS_spelled t x a at = ap spelled_set (sym (s.rolls-MapS at t x a)) ∙ fold-roll-SetExpr Spelling (List Mark) Spelling (List Mark) expr_spelling item_spelling set_spelling filter_spelling (SetExpr-F.MapS at t x a)

pub MapS_stripped : (t : SetExpr) (x : Named) (a : Expr) (at : ℕ) → stripped_set (s.MapS at t x a) ≡ set_level (SetExpr-F.MapS at (stripped_set t) x (stripped_expr a))
MapS_stripped t x a at = ap stripped_set (sym (s.rolls-MapS at t x a)) ∙ fold-roll-SetExpr Expr Item SetExpr Filter expr_level item_level set_level filter_level (SetExpr-F.MapS at t x a)

pub FlatS_spelled : (t : SetExpr) (x : Named) (u : SetExpr) (at : ℕ) → spelled_set (s.FlatS at t x u) ≡ set_spelling (SetExpr-F.FlatS at (spelled_set t) x (spelled_set u))
FlatS_spelled t x u at = ap spelled_set (sym (s.rolls-FlatS at t x u)) ∙ fold-roll-SetExpr Spelling (List Mark) Spelling (List Mark) expr_spelling item_spelling set_spelling filter_spelling (SetExpr-F.FlatS at t x u)

pub FlatS_stripped : (t : SetExpr) (x : Named) (u : SetExpr) (at : ℕ) → stripped_set (s.FlatS at t x u) ≡ set_level (SetExpr-F.FlatS at (stripped_set t) x (stripped_set u))
FlatS_stripped t x u at = ap stripped_set (sym (s.rolls-FlatS at t x u)) ∙ fold-roll-SetExpr Expr Item SetExpr Filter expr_level item_level set_level filter_level (SetExpr-F.FlatS at t x u)

pub IfS_spelled : (a : Expr) (t u : SetExpr) (at : ℕ) → spelled_set (s.IfS at a t u) ≡ set_spelling (SetExpr-F.IfS at (spelled_expr a) (spelled_set t) (spelled_set u))
IfS_spelled a t u at = ap spelled_set (sym (s.rolls-IfS at a t u)) ∙ fold-roll-SetExpr Spelling (List Mark) Spelling (List Mark) expr_spelling item_spelling set_spelling filter_spelling (SetExpr-F.IfS at a t u)

pub IfS_stripped : (a : Expr) (t u : SetExpr) (at : ℕ) → stripped_set (s.IfS at a t u) ≡ set_level (SetExpr-F.IfS at (stripped_expr a) (stripped_set t) (stripped_set u))
IfS_stripped a t u at = ap stripped_set (sym (s.rolls-IfS at a t u)) ∙ fold-roll-SetExpr Expr Item SetExpr Filter expr_level item_level set_level filter_level (SetExpr-F.IfS at a t u)

pub MatchS_spelled : (a : Expr) (t : SetExpr) (x : Named) (u : SetExpr) (at : ℕ) → spelled_set (s.MatchS at a t x u) ≡ set_spelling (SetExpr-F.MatchS at (spelled_expr a) (spelled_set t) x (spelled_set u))
MatchS_spelled a t x u at = ap spelled_set (sym (s.rolls-MatchS at a t x u)) ∙ fold-roll-SetExpr Spelling (List Mark) Spelling (List Mark) expr_spelling item_spelling set_spelling filter_spelling (SetExpr-F.MatchS at a t x u)

pub MatchS_stripped : (a : Expr) (t : SetExpr) (x : Named) (u : SetExpr) (at : ℕ) → stripped_set (s.MatchS at a t x u) ≡ set_level (SetExpr-F.MatchS at (stripped_expr a) (stripped_set t) x (stripped_set u))
MatchS_stripped a t x u at = ap stripped_set (sym (s.rolls-MatchS at a t x u)) ∙ fold-roll-SetExpr Expr Item SetExpr Filter expr_level item_level set_level filter_level (SetExpr-F.MatchS at a t x u)

pub Static_spelled : (x : Named) → spelled_item (i.Static x) ≡ item_spelling (Item-F.Static x)
Static_spelled x = ap spelled_item (sym (i.rolls-Static x)) ∙ fold-roll-Item Spelling (List Mark) Spelling (List Mark) expr_spelling item_spelling set_spelling filter_spelling (Item-F.Static x)

pub Static_stripped : (x : Named) → stripped_item (i.Static x) ≡ item_level (Item-F.Static x)
Static_stripped x = ap stripped_item (sym (i.rolls-Static x)) ∙ fold-roll-Item Expr Item SetExpr Filter expr_level item_level set_level filter_level (Item-F.Static x)

pub One_spelled : (a : Expr) → spelled_item (i.One a) ≡ item_spelling (Item-F.One (spelled_expr a))
One_spelled a = ap spelled_item (sym (i.rolls-One a)) ∙ fold-roll-Item Spelling (List Mark) Spelling (List Mark) expr_spelling item_spelling set_spelling filter_spelling (Item-F.One a)

pub One_stripped : (a : Expr) → stripped_item (i.One a) ≡ item_level (Item-F.One (stripped_expr a))
One_stripped a = ap stripped_item (sym (i.rolls-One a)) ∙ fold-roll-Item Expr Item SetExpr Filter expr_level item_level set_level filter_level (Item-F.One a)

pub Filter_spelled : (x : Named) (op : FilterOp) (a : Expr)
    → spelled_filter (roll-Filter (record { field = x; op = op; value = a })) ≡ filter_spelling (record { field = x; op = op; value = spelled_expr a })
Filter_spelled x op a = fold-roll-Filter Spelling (List Mark) Spelling (List Mark) expr_spelling item_spelling set_spelling filter_spelling (record { field = x; op = op; value = a })

pub Filter_stripped : (x : Named) (op : FilterOp) (a : Expr)
    → stripped_filter (roll-Filter (record { field = x; op = op; value = a })) ≡ filter_level (record { field = x; op = op; value = stripped_expr a })
Filter_stripped x op a = fold-roll-Filter Expr Item SetExpr Filter expr_level item_level set_level filter_level (record { field = x; op = op; value = a })

-- ---- a place of its own

spelled_layer : (at : ℕ) (layer : ExprLayer) → spelled_expr (layer_moved at layer) ≡ spelled_expr (roll-Expr layer)
spelled_layer at (Expr-F.Flag old true) = Flag_spelled true at ∙ sym (fold-roll-Expr Spelling (List Mark) Spelling (List Mark) expr_spelling item_spelling set_spelling filter_spelling (Expr-F.Flag old true))
spelled_layer at (Expr-F.Flag old false) = Flag_spelled false at ∙ sym (fold-roll-Expr Spelling (List Mark) Spelling (List Mark) expr_spelling item_spelling set_spelling filter_spelling (Expr-F.Flag old false))
spelled_layer at (Expr-F.Num old v) = Num_spelled v at ∙ sym (fold-roll-Expr Spelling (List Mark) Spelling (List Mark) expr_spelling item_spelling set_spelling filter_spelling (Expr-F.Num old v))
spelled_layer at (Expr-F.Str old t) = Str_spelled t at ∙ sym (fold-roll-Expr Spelling (List Mark) Spelling (List Mark) expr_spelling item_spelling set_spelling filter_spelling (Expr-F.Str old t))
spelled_layer at (Expr-F.Var old x) = Var_spelled x at ∙ sym (fold-roll-Expr Spelling (List Mark) Spelling (List Mark) expr_spelling item_spelling set_spelling filter_spelling (Expr-F.Var old x))
spelled_layer at (Expr-F.NoneLit old) = NoneLit_spelled at ∙ sym (fold-roll-Expr Spelling (List Mark) Spelling (List Mark) expr_spelling item_spelling set_spelling filter_spelling (Expr-F.NoneLit old))
spelled_layer at (Expr-F.SomeLit old a) = SomeLit_spelled a at ∙ sym (fold-roll-Expr Spelling (List Mark) Spelling (List Mark) expr_spelling item_spelling set_spelling filter_spelling (Expr-F.SomeLit old a))
spelled_layer at (Expr-F.Get old a f) = Get_spelled a f at ∙ sym (fold-roll-Expr Spelling (List Mark) Spelling (List Mark) expr_spelling item_spelling set_spelling filter_spelling (Expr-F.Get old a f))
spelled_layer at (Expr-F.Cmp old op a b) = Cmp_spelled op a b at ∙ sym (fold-roll-Expr Spelling (List Mark) Spelling (List Mark) expr_spelling item_spelling set_spelling filter_spelling (Expr-F.Cmp old op a b))
spelled_layer at (Expr-F.Member old a t) = Member_spelled a t at ∙ sym (fold-roll-Expr Spelling (List Mark) Spelling (List Mark) expr_spelling item_spelling set_spelling filter_spelling (Expr-F.Member old a t))
spelled_layer at (Expr-F.Not old a) = Not_spelled a at ∙ sym (fold-roll-Expr Spelling (List Mark) Spelling (List Mark) expr_spelling item_spelling set_spelling filter_spelling (Expr-F.Not old a))
spelled_layer at (Expr-F.And old a b) = And_spelled a b at ∙ sym (fold-roll-Expr Spelling (List Mark) Spelling (List Mark) expr_spelling item_spelling set_spelling filter_spelling (Expr-F.And old a b))
spelled_layer at (Expr-F.Or old a b) = Or_spelled a b at ∙ sym (fold-roll-Expr Spelling (List Mark) Spelling (List Mark) expr_spelling item_spelling set_spelling filter_spelling (Expr-F.Or old a b))
spelled_layer at (Expr-F.IfE old a b d) = IfE_spelled a b d at ∙ sym (fold-roll-Expr Spelling (List Mark) Spelling (List Mark) expr_spelling item_spelling set_spelling filter_spelling (Expr-F.IfE old a b d))
spelled_layer at (Expr-F.MatchE old a b (x, d)) = MatchE_spelled a b x d at ∙ sym (fold-roll-Expr Spelling (List Mark) Spelling (List Mark) expr_spelling item_spelling set_spelling filter_spelling (Expr-F.MatchE old a b (x, d)))

stripped_layer : (at : ℕ) (layer : ExprLayer) → stripped_expr (layer_moved at layer) ≡ stripped_expr (roll-Expr layer)
stripped_layer at (Expr-F.Flag old v) = Flag_stripped v at ∙ sym (fold-roll-Expr Expr Item SetExpr Filter expr_level item_level set_level filter_level (Expr-F.Flag old v))
stripped_layer at (Expr-F.Num old v) = Num_stripped v at ∙ sym (fold-roll-Expr Expr Item SetExpr Filter expr_level item_level set_level filter_level (Expr-F.Num old v))
stripped_layer at (Expr-F.Str old t) = Str_stripped t at ∙ sym (fold-roll-Expr Expr Item SetExpr Filter expr_level item_level set_level filter_level (Expr-F.Str old t))
stripped_layer at (Expr-F.Var old x) = Var_stripped x at ∙ sym (fold-roll-Expr Expr Item SetExpr Filter expr_level item_level set_level filter_level (Expr-F.Var old x))
stripped_layer at (Expr-F.NoneLit old) = NoneLit_stripped at ∙ sym (fold-roll-Expr Expr Item SetExpr Filter expr_level item_level set_level filter_level (Expr-F.NoneLit old))
stripped_layer at (Expr-F.SomeLit old a) = SomeLit_stripped a at ∙ sym (fold-roll-Expr Expr Item SetExpr Filter expr_level item_level set_level filter_level (Expr-F.SomeLit old a))
stripped_layer at (Expr-F.Get old a f) = Get_stripped a f at ∙ sym (fold-roll-Expr Expr Item SetExpr Filter expr_level item_level set_level filter_level (Expr-F.Get old a f))
stripped_layer at (Expr-F.Cmp old op a b) = Cmp_stripped op a b at ∙ sym (fold-roll-Expr Expr Item SetExpr Filter expr_level item_level set_level filter_level (Expr-F.Cmp old op a b))
stripped_layer at (Expr-F.Member old a t) = Member_stripped a t at ∙ sym (fold-roll-Expr Expr Item SetExpr Filter expr_level item_level set_level filter_level (Expr-F.Member old a t))
stripped_layer at (Expr-F.Not old a) = Not_stripped a at ∙ sym (fold-roll-Expr Expr Item SetExpr Filter expr_level item_level set_level filter_level (Expr-F.Not old a))
stripped_layer at (Expr-F.And old a b) = And_stripped a b at ∙ sym (fold-roll-Expr Expr Item SetExpr Filter expr_level item_level set_level filter_level (Expr-F.And old a b))
stripped_layer at (Expr-F.Or old a b) = Or_stripped a b at ∙ sym (fold-roll-Expr Expr Item SetExpr Filter expr_level item_level set_level filter_level (Expr-F.Or old a b))
stripped_layer at (Expr-F.IfE old a b d) = IfE_stripped a b d at ∙ sym (fold-roll-Expr Expr Item SetExpr Filter expr_level item_level set_level filter_level (Expr-F.IfE old a b d))
stripped_layer at (Expr-F.MatchE old a b (x, d)) = MatchE_stripped a b x d at ∙ sym (fold-roll-Expr Expr Item SetExpr Filter expr_level item_level set_level filter_level (Expr-F.MatchE old a b (x, d)))

spelled_set_layer : (at : ℕ) (layer : SetLayer) → spelled_set (set_layer_moved at layer) ≡ spelled_set (roll-SetExpr layer)
spelled_set_layer at (SetExpr-F.Everyone old w) = Everyone_spelled w at ∙ sym (fold-roll-SetExpr Spelling (List Mark) Spelling (List Mark) expr_spelling item_spelling set_spelling filter_spelling (SetExpr-F.Everyone old w))
spelled_set_layer at (SetExpr-F.Nobody old) = Nobody_spelled at ∙ sym (fold-roll-SetExpr Spelling (List Mark) Spelling (List Mark) expr_spelling item_spelling set_spelling filter_spelling (SetExpr-F.Nobody old))
spelled_set_layer at (SetExpr-F.List old xs) = List_spelled xs at ∙ sym (fold-roll-SetExpr Spelling (List Mark) Spelling (List Mark) expr_spelling item_spelling set_spelling filter_spelling (SetExpr-F.List old xs))
spelled_set_layer at (SetExpr-F.Sum old t u) = Sum_spelled t u at ∙ sym (fold-roll-SetExpr Spelling (List Mark) Spelling (List Mark) expr_spelling item_spelling set_spelling filter_spelling (SetExpr-F.Sum old t u))
spelled_set_layer at (SetExpr-F.Less old t u) = Less_spelled t u at ∙ sym (fold-roll-SetExpr Spelling (List Mark) Spelling (List Mark) expr_spelling item_spelling set_spelling filter_spelling (SetExpr-F.Less old t u))
spelled_set_layer at (SetExpr-F.Find old x fs) = Find_spelled x fs at ∙ sym (fold-roll-SetExpr Spelling (List Mark) Spelling (List Mark) expr_spelling item_spelling set_spelling filter_spelling (SetExpr-F.Find old x fs))
spelled_set_layer at (SetExpr-F.Path old a) = Path_spelled a at ∙ sym (fold-roll-SetExpr Spelling (List Mark) Spelling (List Mark) expr_spelling item_spelling set_spelling filter_spelling (SetExpr-F.Path old a))
spelled_set_layer at (SetExpr-F.MapS old t x a) = MapS_spelled t x a at ∙ sym (fold-roll-SetExpr Spelling (List Mark) Spelling (List Mark) expr_spelling item_spelling set_spelling filter_spelling (SetExpr-F.MapS old t x a))
spelled_set_layer at (SetExpr-F.FlatS old t x u) = FlatS_spelled t x u at ∙ sym (fold-roll-SetExpr Spelling (List Mark) Spelling (List Mark) expr_spelling item_spelling set_spelling filter_spelling (SetExpr-F.FlatS old t x u))
spelled_set_layer at (SetExpr-F.IfS old a t u) = IfS_spelled a t u at ∙ sym (fold-roll-SetExpr Spelling (List Mark) Spelling (List Mark) expr_spelling item_spelling set_spelling filter_spelling (SetExpr-F.IfS old a t u))
spelled_set_layer at (SetExpr-F.MatchS old a t x u) = MatchS_spelled a t x u at ∙ sym (fold-roll-SetExpr Spelling (List Mark) Spelling (List Mark) expr_spelling item_spelling set_spelling filter_spelling (SetExpr-F.MatchS old a t x u))

stripped_set_layer : (at : ℕ) (layer : SetLayer) → stripped_set (set_layer_moved at layer) ≡ stripped_set (roll-SetExpr layer)
stripped_set_layer at (SetExpr-F.Everyone old w) = Everyone_stripped w at ∙ sym (fold-roll-SetExpr Expr Item SetExpr Filter expr_level item_level set_level filter_level (SetExpr-F.Everyone old w))
stripped_set_layer at (SetExpr-F.Nobody old) = Nobody_stripped at ∙ sym (fold-roll-SetExpr Expr Item SetExpr Filter expr_level item_level set_level filter_level (SetExpr-F.Nobody old))
stripped_set_layer at (SetExpr-F.List old xs) = List_stripped xs at ∙ sym (fold-roll-SetExpr Expr Item SetExpr Filter expr_level item_level set_level filter_level (SetExpr-F.List old xs))
stripped_set_layer at (SetExpr-F.Sum old t u) = Sum_stripped t u at ∙ sym (fold-roll-SetExpr Expr Item SetExpr Filter expr_level item_level set_level filter_level (SetExpr-F.Sum old t u))
stripped_set_layer at (SetExpr-F.Less old t u) = Less_stripped t u at ∙ sym (fold-roll-SetExpr Expr Item SetExpr Filter expr_level item_level set_level filter_level (SetExpr-F.Less old t u))
stripped_set_layer at (SetExpr-F.Find old x fs) = Find_stripped x fs at ∙ sym (fold-roll-SetExpr Expr Item SetExpr Filter expr_level item_level set_level filter_level (SetExpr-F.Find old x fs))
stripped_set_layer at (SetExpr-F.Path old a) = Path_stripped a at ∙ sym (fold-roll-SetExpr Expr Item SetExpr Filter expr_level item_level set_level filter_level (SetExpr-F.Path old a))
stripped_set_layer at (SetExpr-F.MapS old t x a) = MapS_stripped t x a at ∙ sym (fold-roll-SetExpr Expr Item SetExpr Filter expr_level item_level set_level filter_level (SetExpr-F.MapS old t x a))
stripped_set_layer at (SetExpr-F.FlatS old t x u) = FlatS_stripped t x u at ∙ sym (fold-roll-SetExpr Expr Item SetExpr Filter expr_level item_level set_level filter_level (SetExpr-F.FlatS old t x u))
stripped_set_layer at (SetExpr-F.IfS old a t u) = IfS_stripped a t u at ∙ sym (fold-roll-SetExpr Expr Item SetExpr Filter expr_level item_level set_level filter_level (SetExpr-F.IfS old a t u))
stripped_set_layer at (SetExpr-F.MatchS old a t x u) = MatchS_stripped a t x u at ∙ sym (fold-roll-SetExpr Expr Item SetExpr Filter expr_level item_level set_level filter_level (SetExpr-F.MatchS old a t x u))

pub spelled_placed_expr : (at : ℕ) (x : Expr) → spelled_expr (placed_expr at x) ≡ spelled_expr x
unfolding placed_expr
spelled_placed_expr at x = spelled_layer at (out-Expr x) ∙ ap spelled_expr (roll-out-Expr x)

pub stripped_placed_expr : (at : ℕ) (x : Expr) → stripped_expr (placed_expr at x) ≡ stripped_expr x
unfolding placed_expr
stripped_placed_expr at x = stripped_layer at (out-Expr x) ∙ ap stripped_expr (roll-out-Expr x)

pub spelled_placed_set : (at : ℕ) (x : SetExpr) → spelled_set (placed_set at x) ≡ spelled_set x
unfolding placed_set
spelled_placed_set at x = spelled_set_layer at (out-SetExpr x) ∙ ap spelled_set (roll-out-SetExpr x)

pub stripped_placed_set : (at : ℕ) (x : SetExpr) → stripped_set (placed_set at x) ≡ stripped_set x
unfolding placed_set
stripped_placed_set at x = stripped_set_layer at (out-SetExpr x) ∙ ap stripped_set (roll-out-SetExpr x)
