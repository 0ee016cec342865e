-- The plain data that the trees of the code stand for.
use Rattle.std.specs.Prelude.{List, [], ◌∷◌}
use Rattle.type_schema.specs.declared.trees.TExpr.{TExpr}
use Rattle.type_schema.specs.declared.trees.TExpr.TheOpen.{TExpr-F, TSet-F, TItem-F, TFilter-F}
use Rattle.type_schema.specs.declared.trees.TExpr.TheFolds.{fold-TExpr, fold-TSet, fold-TItem, fold-TFilter}
use Rattle.type_schema.specs.declared.trees.TSet.{TSet}
use Rattle.type_schema.specs.declared.trees.TItem.{TItem}
use Rattle.type_schema.specs.declared.trees.TFilter.{TFilter}
use Rattle.type_schema.specs.declared.trees.TPolicy.{TPolicy}
use Rattle.type_schema.specs.declared.trees.TPolicy.TheVariants as policy
use Rattle.type_schema.specs.declared.trees.TInit.{TInit}
use Rattle.type_schema.specs.declared.trees.TInit.TheVariants as init
use Rattle.type_schema.specs.Trees.{Expr, flag, num, str, var, nothing, just, get, equal, iff, less, within, negation, both, either, if_expr, match_expr, SetExpr, everyone, nobody, listed, union, minus, find, path, mapped, flat_mapped, if_set, match_set, Items, no_items, static_item, record_item, Filters, no_filters, filter_and, Policy, to_all, to_none, by_record, Init, plain, of_set}

-- an item, and a filter, in front of others
abbrev pub ItemsMore : Type 0
ItemsMore = Items → Items

abbrev pub FiltersMore : Type 0
FiltersMore = Filters → Filters

abbrev pub items_of : List ItemsMore → Items
items_of [] = no_items
items_of (first ∷ rest) = first (items_of rest)

abbrev pub filters_of : List FiltersMore → Filters
filters_of [] = no_filters
filters_of (first ∷ rest) = first (filters_of rest)

-- one level, where each part is already seen so
abbrev pub expr_step : TExpr-F Expr FiltersMore ItemsMore SetExpr → Expr
expr_step (TExpr-F.Flag b) = flag b
expr_step (TExpr-F.Num n) = num n
expr_step (TExpr-F.Str bytes) = str bytes
expr_step (TExpr-F.Var depth name) = var depth name
expr_step TExpr-F.NoneLit = nothing
expr_step (TExpr-F.SomeLit e) = just e
expr_step (TExpr-F.Get e m f) = get e m f
expr_step (TExpr-F.Eq a b op) = equal a b op
expr_step (TExpr-F.Iff a b op) = iff a b op
expr_step (TExpr-F.«TExpr::Less» a b op) = less a b op
expr_step (TExpr-F.Member e m set) = within e m set
expr_step (TExpr-F.Not e) = negation e
expr_step (TExpr-F.And a b) = both a b
expr_step (TExpr-F.Or a b) = either a b
expr_step (TExpr-F.IfE c a b) = if_expr c a b
expr_step (TExpr-F.MatchE e a name b) = match_expr e a name b

abbrev pub item_step : TItem-F Expr FiltersMore ItemsMore SetExpr → ItemsMore
item_step (TItem-F.Static n) = static_item n
item_step (TItem-F.One m e) = record_item m e

abbrev pub filter_step : TFilter-F Expr FiltersMore ItemsMore SetExpr → FiltersMore
filter_step (TFilter-F.Test f op e) = filter_and f op e

abbrev pub set_step : TSet-F Expr FiltersMore ItemsMore SetExpr → SetExpr
set_step TSet-F.Everyone = everyone
set_step TSet-F.Nobody = nobody
set_step (TSet-F.List items) = listed (items_of items)
set_step (TSet-F.Sum a b) = union a b
set_step (TSet-F.«TSet::Less» a b) = minus a b
set_step (TSet-F.Find m filters) = find m (filters_of filters)
set_step (TSet-F.Path m e) = path m e
set_step (TSet-F.MapS set n name m e) = mapped set n name m e
set_step (TSet-F.FlatS set n name body) = flat_mapped set n name body
set_step (TSet-F.IfS c a b) = if_set c a b
set_step (TSet-F.MatchS e a name b) = match_set e a name b

abbrev pub expr_of : TExpr → Expr
expr_of = fold-TExpr Expr FiltersMore ItemsMore SetExpr expr_step filter_step item_step set_step

abbrev pub set_of : TSet → SetExpr
set_of = fold-TSet Expr FiltersMore ItemsMore SetExpr expr_step filter_step item_step set_step

abbrev pub policy_of : TPolicy → Policy
policy_of policy.Everyone = to_all
policy_of policy.Nobody = to_none
policy_of (policy.Fun name set) = by_record name (set_of set)

abbrev pub init_of : TInit → Init
init_of (init.Plain e) = plain (expr_of e)
init_of (init.OfSet m set) = of_set m (set_of set)

abbrev pub item_of : TItem → ItemsMore
item_of = fold-TItem Expr FiltersMore ItemsMore SetExpr expr_step filter_step item_step set_step

abbrev pub filter_of : TFilter → FiltersMore
filter_of = fold-TFilter Expr FiltersMore ItemsMore SetExpr expr_step filter_step item_step set_step
