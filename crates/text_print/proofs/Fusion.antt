-- A spelling does not depend on places.
use Rattle.std.proofs.Common.{◌≡◌, true, false, List, [], ◌∷◌, map, refl, sym, ◌∙◌, ap, subst}
use Rattle.text_tree.specs.declared.exprs.Expr.{Expr, map-Expr, roll-Expr}
use Rattle.text_tree.specs.declared.exprs.SetExpr.{SetExpr, map-SetExpr, roll-SetExpr}
use Rattle.text_tree.specs.declared.exprs.Item.{Item, map-Item, roll-Item}
use Rattle.text_tree.specs.declared.exprs.Filter.{Filter, map-Filter, roll-Filter}
use Rattle.text_tree.specs.declared.exprs.Expr.TheOpen.{Expr-F, SetExpr-F, Item-F, Filter-F}
use Rattle.text_tree.specs.declared.exprs.Expr.TheFolds.{fold-roll-Expr, fold-roll-SetExpr, fold-roll-Item, fold-roll-Filter, ind-Expr, ind-SetExpr}
use Rattle.text_tree.specs.Stripped.{expr_level, item_level, set_level, filter_level, stripped_expr, stripped_set, stripped_item, stripped_filter, stripped_name}
use Rattle.text_print.specs.Exprs.{Spelling, expr_spelling, filter_spelling, item_spelling, set_spelling, spelled_expr, spelled_filter, spelled_item, spelled_set}
use Rattle.text_print.specs.Marks.{Mark}
use Rattle.text_print.proofs.Layers as layer

abbrev pub ExprSame : Expr → Type 0
ExprSame x = spelled_expr (stripped_expr x) ≡ spelled_expr x

abbrev pub SetSame : SetExpr → Type 0
SetSame x = spelled_set (stripped_set x) ≡ spelled_set x

abbrev pub ItemSame : Item → Type 0
ItemSame x = spelled_item (stripped_item x) ≡ spelled_item x

abbrev pub FilterSame : Filter → Type 0
FilterSame x = spelled_filter (stripped_filter x) ≡ spelled_filter x

-- parts of which it is known
abbrev SureExpr : Type 0
SureExpr = (x : Expr) × ExprSame x

abbrev SureItem : Type 0
SureItem = (x : Item) × ItemSame x

abbrev SureSet : Type 0
SureSet = (x : SetExpr) × SetSame x

abbrev SureFilter : Type 0
SureFilter = (x : Filter) × FilterSame x

items_same : (xs : List SureItem) → map spelled_item (map stripped_item (map (λ e. e.0) xs)) ≡ map spelled_item (map (λ e. e.0) xs)
items_same [] = refl
items_same (x ∷ xs) = ap (λ z. z ∷ map spelled_item (map stripped_item (map (λ e. e.0) xs))) x.1 ∙ ap (λ z. spelled_item x.0 ∷ z) (items_same xs)

filters_same : (xs : List SureFilter) → map spelled_filter (map stripped_filter (map (λ e. e.0) xs)) ≡ map spelled_filter (map (λ e. e.0) xs)
filters_same [] = refl
filters_same (x ∷ xs) = ap (λ z. z ∷ map spelled_filter (map stripped_filter (map (λ e. e.0) xs))) x.1 ∙ ap (λ z. spelled_filter x.0 ∷ z) (filters_same xs)

expr_step : (y : Expr-F SureExpr SureItem SureSet SureFilter)
    → ExprSame (roll-Expr (map-Expr SureExpr SureItem SureSet SureFilter Expr Item SetExpr Filter (λ e. e.0) (λ e. e.0) (λ e. e.0) (λ e. e.0) y))
expr_step (Expr-F.Flag at true) = ap spelled_expr (fold-roll-Expr Expr Item SetExpr Filter expr_level item_level set_level filter_level (Expr-F.Flag at true)) ∙ layer.Flag_spelled true 0 ∙ sym (fold-roll-Expr Spelling (List Mark) Spelling (List Mark) expr_spelling item_spelling set_spelling filter_spelling (Expr-F.Flag at true))
expr_step (Expr-F.Flag at false) = ap spelled_expr (fold-roll-Expr Expr Item SetExpr Filter expr_level item_level set_level filter_level (Expr-F.Flag at false)) ∙ layer.Flag_spelled false 0 ∙ sym (fold-roll-Expr Spelling (List Mark) Spelling (List Mark) expr_spelling item_spelling set_spelling filter_spelling (Expr-F.Flag at false))
expr_step (Expr-F.Num at v) =
    ap spelled_expr (fold-roll-Expr Expr Item SetExpr Filter expr_level item_level set_level filter_level (Expr-F.Num at v)) ∙ layer.Num_spelled v 0 ∙ sym (fold-roll-Expr Spelling (List Mark) Spelling (List Mark) expr_spelling item_spelling set_spelling filter_spelling (Expr-F.Num at v))
expr_step (Expr-F.Str at txt) =
    ap spelled_expr (fold-roll-Expr Expr Item SetExpr Filter expr_level item_level set_level filter_level (Expr-F.Str at txt)) ∙ layer.Str_spelled txt 0 ∙ sym (fold-roll-Expr Spelling (List Mark) Spelling (List Mark) expr_spelling item_spelling set_spelling filter_spelling (Expr-F.Str at txt))
expr_step (Expr-F.Var at x) =
    ap spelled_expr (fold-roll-Expr Expr Item SetExpr Filter expr_level item_level set_level filter_level (Expr-F.Var at x)) ∙ layer.Var_spelled (stripped_name x) 0 ∙ sym (fold-roll-Expr Spelling (List Mark) Spelling (List Mark) expr_spelling item_spelling set_spelling filter_spelling (Expr-F.Var at x))
expr_step (Expr-F.NoneLit at) =
    ap spelled_expr (fold-roll-Expr Expr Item SetExpr Filter expr_level item_level set_level filter_level (Expr-F.NoneLit at)) ∙ layer.NoneLit_spelled 0 ∙ sym (fold-roll-Expr Spelling (List Mark) Spelling (List Mark) expr_spelling item_spelling set_spelling filter_spelling (Expr-F.NoneLit at))
expr_step (Expr-F.SomeLit at a) =
    ap spelled_expr (fold-roll-Expr Expr Item SetExpr Filter expr_level item_level set_level filter_level (Expr-F.SomeLit at a.0)) ∙ layer.SomeLit_spelled (stripped_expr a.0) 0
    ∙ ap (λ z. expr_spelling (Expr-F.SomeLit 0 z)) a.1 ∙ sym (fold-roll-Expr Spelling (List Mark) Spelling (List Mark) expr_spelling item_spelling set_spelling filter_spelling (Expr-F.SomeLit at a.0))
expr_step (Expr-F.Get at a f) =
    ap spelled_expr (fold-roll-Expr Expr Item SetExpr Filter expr_level item_level set_level filter_level (Expr-F.Get at a.0 f)) ∙ layer.Get_spelled (stripped_expr a.0) (stripped_name f) 0
    ∙ ap (λ z. expr_spelling (Expr-F.Get 0 z (stripped_name f))) a.1 ∙ sym (fold-roll-Expr Spelling (List Mark) Spelling (List Mark) expr_spelling item_spelling set_spelling filter_spelling (Expr-F.Get at a.0 f))
expr_step (Expr-F.Cmp at op a b) =
    ap spelled_expr (fold-roll-Expr Expr Item SetExpr Filter expr_level item_level set_level filter_level (Expr-F.Cmp at op a.0 b.0)) ∙ layer.Cmp_spelled op (stripped_expr a.0) (stripped_expr b.0) 0
    ∙ ap (λ z. expr_spelling (Expr-F.Cmp 0 op z (spelled_expr (stripped_expr b.0)))) a.1
    ∙ ap (λ z. expr_spelling (Expr-F.Cmp 0 op (spelled_expr a.0) z)) b.1 ∙ sym (fold-roll-Expr Spelling (List Mark) Spelling (List Mark) expr_spelling item_spelling set_spelling filter_spelling (Expr-F.Cmp at op a.0 b.0))
expr_step (Expr-F.Member at a t) =
    ap spelled_expr (fold-roll-Expr Expr Item SetExpr Filter expr_level item_level set_level filter_level (Expr-F.Member at a.0 t.0)) ∙ layer.Member_spelled (stripped_expr a.0) (stripped_set t.0) 0
    ∙ ap (λ z. expr_spelling (Expr-F.Member 0 z (spelled_set (stripped_set t.0)))) a.1
    ∙ ap (λ z. expr_spelling (Expr-F.Member 0 (spelled_expr a.0) z)) t.1 ∙ sym (fold-roll-Expr Spelling (List Mark) Spelling (List Mark) expr_spelling item_spelling set_spelling filter_spelling (Expr-F.Member at a.0 t.0))
expr_step (Expr-F.Not at a) =
    ap spelled_expr (fold-roll-Expr Expr Item SetExpr Filter expr_level item_level set_level filter_level (Expr-F.Not at a.0)) ∙ layer.Not_spelled (stripped_expr a.0) 0
    ∙ ap (λ z. expr_spelling (Expr-F.Not 0 z)) a.1 ∙ sym (fold-roll-Expr Spelling (List Mark) Spelling (List Mark) expr_spelling item_spelling set_spelling filter_spelling (Expr-F.Not at a.0))
expr_step (Expr-F.And at a b) =
    ap spelled_expr (fold-roll-Expr Expr Item SetExpr Filter expr_level item_level set_level filter_level (Expr-F.And at a.0 b.0)) ∙ layer.And_spelled (stripped_expr a.0) (stripped_expr b.0) 0
    ∙ ap (λ z. expr_spelling (Expr-F.And 0 z (spelled_expr (stripped_expr b.0)))) a.1
    ∙ ap (λ z. expr_spelling (Expr-F.And 0 (spelled_expr a.0) z)) b.1 ∙ sym (fold-roll-Expr Spelling (List Mark) Spelling (List Mark) expr_spelling item_spelling set_spelling filter_spelling (Expr-F.And at a.0 b.0))
expr_step (Expr-F.Or at a b) =
    ap spelled_expr (fold-roll-Expr Expr Item SetExpr Filter expr_level item_level set_level filter_level (Expr-F.Or at a.0 b.0)) ∙ layer.Or_spelled (stripped_expr a.0) (stripped_expr b.0) 0
    ∙ ap (λ z. expr_spelling (Expr-F.Or 0 z (spelled_expr (stripped_expr b.0)))) a.1
    ∙ ap (λ z. expr_spelling (Expr-F.Or 0 (spelled_expr a.0) z)) b.1 ∙ sym (fold-roll-Expr Spelling (List Mark) Spelling (List Mark) expr_spelling item_spelling set_spelling filter_spelling (Expr-F.Or at a.0 b.0))
expr_step (Expr-F.IfE at a b d) =
    ap spelled_expr (fold-roll-Expr Expr Item SetExpr Filter expr_level item_level set_level filter_level (Expr-F.IfE at a.0 b.0 d.0)) ∙ layer.IfE_spelled (stripped_expr a.0) (stripped_expr b.0) (stripped_expr d.0) 0
    ∙ ap (λ z. expr_spelling (Expr-F.IfE 0 z (spelled_expr (stripped_expr b.0)) (spelled_expr (stripped_expr d.0)))) a.1
    ∙ ap (λ z. expr_spelling (Expr-F.IfE 0 (spelled_expr a.0) z (spelled_expr (stripped_expr d.0)))) b.1
    ∙ ap (λ z. expr_spelling (Expr-F.IfE 0 (spelled_expr a.0) (spelled_expr b.0) z)) d.1 ∙ sym (fold-roll-Expr Spelling (List Mark) Spelling (List Mark) expr_spelling item_spelling set_spelling filter_spelling (Expr-F.IfE at a.0 b.0 d.0))
expr_step (Expr-F.MatchE at a b (x, d)) =
    ap spelled_expr (fold-roll-Expr Expr Item SetExpr Filter expr_level item_level set_level filter_level (Expr-F.MatchE at a.0 b.0 (x, d.0))) ∙ layer.MatchE_spelled (stripped_expr a.0) (stripped_expr b.0) (stripped_name x) (stripped_expr d.0) 0
    ∙ ap (λ z. expr_spelling (Expr-F.MatchE 0 z (spelled_expr (stripped_expr b.0)) (stripped_name x, spelled_expr (stripped_expr d.0)))) a.1
    ∙ ap (λ z. expr_spelling (Expr-F.MatchE 0 (spelled_expr a.0) z (stripped_name x, spelled_expr (stripped_expr d.0)))) b.1
    ∙ ap (λ z. expr_spelling (Expr-F.MatchE 0 (spelled_expr a.0) (spelled_expr b.0) (stripped_name x, z))) d.1 ∙ sym (fold-roll-Expr Spelling (List Mark) Spelling (List Mark) expr_spelling item_spelling set_spelling filter_spelling (Expr-F.MatchE at a.0 b.0 (x, d.0)))

set_step : (y : SetExpr-F SureExpr SureItem SureSet SureFilter)
    → SetSame (roll-SetExpr (map-SetExpr SureExpr SureItem SureSet SureFilter Expr Item SetExpr Filter (λ e. e.0) (λ e. e.0) (λ e. e.0) (λ e. e.0) y))
set_step (SetExpr-F.Everyone at w) =
    ap spelled_set (fold-roll-SetExpr Expr Item SetExpr Filter expr_level item_level set_level filter_level (SetExpr-F.Everyone at w)) ∙ layer.Everyone_spelled 0 0 ∙ sym (fold-roll-SetExpr Spelling (List Mark) Spelling (List Mark) expr_spelling item_spelling set_spelling filter_spelling (SetExpr-F.Everyone at w))
set_step (SetExpr-F.Nobody at) =
    ap spelled_set (fold-roll-SetExpr Expr Item SetExpr Filter expr_level item_level set_level filter_level (SetExpr-F.Nobody at)) ∙ layer.Nobody_spelled 0 ∙ sym (fold-roll-SetExpr Spelling (List Mark) Spelling (List Mark) expr_spelling item_spelling set_spelling filter_spelling (SetExpr-F.Nobody at))
set_step (SetExpr-F.List at xs) =
    ap spelled_set (fold-roll-SetExpr Expr Item SetExpr Filter expr_level item_level set_level filter_level (SetExpr-F.List at (map (λ e. e.0) xs))) ∙ layer.List_spelled (map stripped_item (map (λ e. e.0) xs)) 0
    ∙ ap (λ z. set_spelling (SetExpr-F.List 0 z)) (items_same xs) ∙ sym (fold-roll-SetExpr Spelling (List Mark) Spelling (List Mark) expr_spelling item_spelling set_spelling filter_spelling (SetExpr-F.List at (map (λ e. e.0) xs)))
set_step (SetExpr-F.Sum at t u) =
    ap spelled_set (fold-roll-SetExpr Expr Item SetExpr Filter expr_level item_level set_level filter_level (SetExpr-F.Sum at t.0 u.0)) ∙ layer.Sum_spelled (stripped_set t.0) (stripped_set u.0) 0
    ∙ ap (λ z. set_spelling (SetExpr-F.Sum 0 z (spelled_set (stripped_set u.0)))) t.1
    ∙ ap (λ z. set_spelling (SetExpr-F.Sum 0 (spelled_set t.0) z)) u.1 ∙ sym (fold-roll-SetExpr Spelling (List Mark) Spelling (List Mark) expr_spelling item_spelling set_spelling filter_spelling (SetExpr-F.Sum at t.0 u.0))
set_step (SetExpr-F.Less at t u) =
    ap spelled_set (fold-roll-SetExpr Expr Item SetExpr Filter expr_level item_level set_level filter_level (SetExpr-F.Less at t.0 u.0)) ∙ layer.Less_spelled (stripped_set t.0) (stripped_set u.0) 0
    ∙ ap (λ z. set_spelling (SetExpr-F.Less 0 z (spelled_set (stripped_set u.0)))) t.1
    ∙ ap (λ z. set_spelling (SetExpr-F.Less 0 (spelled_set t.0) z)) u.1 ∙ sym (fold-roll-SetExpr Spelling (List Mark) Spelling (List Mark) expr_spelling item_spelling set_spelling filter_spelling (SetExpr-F.Less at t.0 u.0))
set_step (SetExpr-F.Find at x fs) =
    ap spelled_set (fold-roll-SetExpr Expr Item SetExpr Filter expr_level item_level set_level filter_level (SetExpr-F.Find at x (map (λ e. e.0) fs))) ∙ layer.Find_spelled (stripped_name x) (map stripped_filter (map (λ e. e.0) fs)) 0
    ∙ ap (λ z. set_spelling (SetExpr-F.Find 0 (stripped_name x) z)) (filters_same fs) ∙ sym (fold-roll-SetExpr Spelling (List Mark) Spelling (List Mark) expr_spelling item_spelling set_spelling filter_spelling (SetExpr-F.Find at x (map (λ e. e.0) fs)))
set_step (SetExpr-F.Path at a) =
    ap spelled_set (fold-roll-SetExpr Expr Item SetExpr Filter expr_level item_level set_level filter_level (SetExpr-F.Path at a.0)) ∙ layer.Path_spelled (stripped_expr a.0) 0
    ∙ ap (λ z. set_spelling (SetExpr-F.Path 0 z)) a.1 ∙ sym (fold-roll-SetExpr Spelling (List Mark) Spelling (List Mark) expr_spelling item_spelling set_spelling filter_spelling (SetExpr-F.Path at a.0))
set_step (SetExpr-F.MapS at t x a) =
    ap spelled_set (fold-roll-SetExpr Expr Item SetExpr Filter expr_level item_level set_level filter_level (SetExpr-F.MapS at t.0 x a.0)) ∙ layer.MapS_spelled (stripped_set t.0) (stripped_name x) (stripped_expr a.0) 0
    ∙ ap (λ z. set_spelling (SetExpr-F.MapS 0 z (stripped_name x) (spelled_expr (stripped_expr a.0)))) t.1
    ∙ ap (λ z. set_spelling (SetExpr-F.MapS 0 (spelled_set t.0) (stripped_name x) z)) a.1 ∙ sym (fold-roll-SetExpr Spelling (List Mark) Spelling (List Mark) expr_spelling item_spelling set_spelling filter_spelling (SetExpr-F.MapS at t.0 x a.0))
set_step (SetExpr-F.FlatS at t x u) =
    ap spelled_set (fold-roll-SetExpr Expr Item SetExpr Filter expr_level item_level set_level filter_level (SetExpr-F.FlatS at t.0 x u.0)) ∙ layer.FlatS_spelled (stripped_set t.0) (stripped_name x) (stripped_set u.0) 0
    ∙ ap (λ z. set_spelling (SetExpr-F.FlatS 0 z (stripped_name x) (spelled_set (stripped_set u.0)))) t.1
    ∙ ap (λ z. set_spelling (SetExpr-F.FlatS 0 (spelled_set t.0) (stripped_name x) z)) u.1 ∙ sym (fold-roll-SetExpr Spelling (List Mark) Spelling (List Mark) expr_spelling item_spelling set_spelling filter_spelling (SetExpr-F.FlatS at t.0 x u.0))
set_step (SetExpr-F.IfS at a t u) =
    ap spelled_set (fold-roll-SetExpr Expr Item SetExpr Filter expr_level item_level set_level filter_level (SetExpr-F.IfS at a.0 t.0 u.0)) ∙ layer.IfS_spelled (stripped_expr a.0) (stripped_set t.0) (stripped_set u.0) 0
    ∙ ap (λ z. set_spelling (SetExpr-F.IfS 0 z (spelled_set (stripped_set t.0)) (spelled_set (stripped_set u.0)))) a.1
    ∙ ap (λ z. set_spelling (SetExpr-F.IfS 0 (spelled_expr a.0) z (spelled_set (stripped_set u.0)))) t.1
    ∙ ap (λ z. set_spelling (SetExpr-F.IfS 0 (spelled_expr a.0) (spelled_set t.0) z)) u.1 ∙ sym (fold-roll-SetExpr Spelling (List Mark) Spelling (List Mark) expr_spelling item_spelling set_spelling filter_spelling (SetExpr-F.IfS at a.0 t.0 u.0))
set_step (SetExpr-F.MatchS at a t x u) =
    ap spelled_set (fold-roll-SetExpr Expr Item SetExpr Filter expr_level item_level set_level filter_level (SetExpr-F.MatchS at a.0 t.0 x u.0)) ∙ layer.MatchS_spelled (stripped_expr a.0) (stripped_set t.0) (stripped_name x) (stripped_set u.0) 0
    ∙ ap (λ z. set_spelling (SetExpr-F.MatchS 0 z (spelled_set (stripped_set t.0)) (stripped_name x) (spelled_set (stripped_set u.0)))) a.1
    ∙ ap (λ z. set_spelling (SetExpr-F.MatchS 0 (spelled_expr a.0) z (stripped_name x) (spelled_set (stripped_set u.0)))) t.1
    ∙ ap (λ z. set_spelling (SetExpr-F.MatchS 0 (spelled_expr a.0) (spelled_set t.0) (stripped_name x) z)) u.1 ∙ sym (fold-roll-SetExpr Spelling (List Mark) Spelling (List Mark) expr_spelling item_spelling set_spelling filter_spelling (SetExpr-F.MatchS at a.0 t.0 x u.0))

item_step : (y : Item-F SureExpr SureItem SureSet SureFilter)
    → ItemSame (roll-Item (map-Item SureExpr SureItem SureSet SureFilter Expr Item SetExpr Filter (λ e. e.0) (λ e. e.0) (λ e. e.0) (λ e. e.0) y))
item_step (Item-F.Static x) = ap spelled_item (fold-roll-Item Expr Item SetExpr Filter expr_level item_level set_level filter_level (Item-F.Static x)) ∙ layer.Static_spelled (stripped_name x) ∙ sym (fold-roll-Item Spelling (List Mark) Spelling (List Mark) expr_spelling item_spelling set_spelling filter_spelling (Item-F.Static x))
item_step (Item-F.One a) =
    ap spelled_item (fold-roll-Item Expr Item SetExpr Filter expr_level item_level set_level filter_level (Item-F.One a.0)) ∙ layer.One_spelled (stripped_expr a.0) ∙ ap (λ z. item_spelling (Item-F.One z)) a.1
    ∙ sym (fold-roll-Item Spelling (List Mark) Spelling (List Mark) expr_spelling item_spelling set_spelling filter_spelling (Item-F.One a.0))

filter_step : (y : Filter-F SureExpr SureItem SureSet SureFilter)
    → FilterSame (roll-Filter (map-Filter SureExpr SureItem SureSet SureFilter Expr Item SetExpr Filter (λ e. e.0) (λ e. e.0) (λ e. e.0) (λ e. e.0) y))
filter_step y =
    ap spelled_filter (fold-roll-Filter Expr Item SetExpr Filter expr_level item_level set_level filter_level (record { field = y.field; op = y.op; value = y.value.0 }))
    ∙ layer.Filter_spelled (stripped_name y.field) y.op (stripped_expr y.value.0)
    ∙ ap (λ z. filter_spelling (record { field = y.field; op = y.op; value = z })) y.value.1
    ∙ sym (fold-roll-Filter Spelling (List Mark) Spelling (List Mark) expr_spelling item_spelling set_spelling filter_spelling (record { field = y.field; op = y.op; value = y.value.0 }))

pub expr_same : (x : Expr) → ExprSame x
expr_same =
    ind-Expr ExprSame ItemSame SetSame FilterSame (λ x y is. subst (λ z. ExprSame (roll-Expr z)) is (expr_step y)) (λ x y is. subst (λ z. ItemSame (roll-Item z)) is (item_step y))
    (λ x y is. subst (λ z. SetSame (roll-SetExpr z)) is (set_step y)) (λ x y is. subst (λ z. FilterSame (roll-Filter z)) is (filter_step y))

pub set_same : (x : SetExpr) → SetSame x
set_same =
    ind-SetExpr ExprSame ItemSame SetSame FilterSame (λ x y is. subst (λ z. ExprSame (roll-Expr z)) is (expr_step y)) (λ x y is. subst (λ z. ItemSame (roll-Item z)) is (item_step y))
    (λ x y is. subst (λ z. SetSame (roll-SetExpr z)) is (set_step y)) (λ x y is. subst (λ z. FilterSame (roll-Filter z)) is (filter_step y))

-- equal, offsets aside: one spelling
pub one_expr : (x y : Expr) → stripped_expr x ≡ stripped_expr y → spelled_expr x ≡ spelled_expr y
one_expr x y same = sym (expr_same x) ∙ ap spelled_expr same ∙ expr_same y

pub one_set : (x y : SetExpr) → stripped_set x ≡ stripped_set y → spelled_set x ≡ spelled_set y
one_set x y same = sym (set_same x) ∙ ap spelled_set same ∙ set_same y
