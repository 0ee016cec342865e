use Rattle.std.proofs.Common.{◌≡◌, ◌++◌, ◌∷◌, [], map, drop}
use Rattle.std.specs.List.{flat_map}
use Rattle.type_schema.specs.Views as view
use Rattle.data_meaning.specs.Values as stored
use Rattle.data_meaning.specs.Touched as read
use Rattle.data_members.specs.Variables.{env_data}
use Rattle.data_members.proofs.touching.+touching.Given as goal

-- what was found, and what is left to find, is what was there and all that is to be found
abbrev pub invariant-touch_at_each-loop-id : goal.invariant-touch_at_each-loop-id
invariant-touch_at_each-loop-id l =
    l.found.items ++ flat_map (λ y. read.touched l.database (env_data l.env ++ stored.Id y ∷ []) (view.expr_of l.e)) (drop l.id-index l.ids)
    ≡ l.fn.found.items ++ flat_map (λ y. read.touched l.database (env_data l.env ++ stored.Id y ∷ []) (view.expr_of l.e)) l.ids

abbrev pub invariant-touch_set_at_each-loop-id : goal.invariant-touch_set_at_each-loop-id
invariant-touch_set_at_each-loop-id l =
    l.found.items ++ flat_map (λ y. read.set_touched l.database (env_data l.env ++ stored.Id y ∷ []) (view.set_of l.set)) (drop l.id-index l.ids)
    ≡ l.fn.found.items ++ flat_map (λ y. read.set_touched l.database (env_data l.env ++ stored.Id y ∷ []) (view.set_of l.set)) l.ids

abbrev pub invariant-touch_items-loop-item : goal.invariant-touch_items-loop-item
invariant-touch_items-loop-item l =
    l.found.items ++ read.items_touched l.database (env_data l.env) (view.items_of (map view.item_of (drop l.item-index l.items)))
    ≡ l.fn.found.items ++ read.items_touched l.database (env_data l.env) (view.items_of (map view.item_of l.items))

abbrev pub invariant-touch_filters-loop-filter : goal.invariant-touch_filters-loop-filter
invariant-touch_filters-loop-filter l =
    l.found.items ++ read.filters_touched l.database (env_data l.env) l.m (view.filters_of (map view.filter_of (drop l.filter-index l.filters)))
    ≡ l.fn.found.items ++ read.filters_touched l.database (env_data l.env) l.m (view.filters_of (map view.filter_of l.filters))
