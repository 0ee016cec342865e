use Rattle.std.proofs.Common.{◌≡◌, ℕ, ◌&&◌, ◌++◌, ◌∷◌, [], map, take, drop, false}
use Rattle.std.specs.Prelude.{filter}
use Rattle.std.specs.List.{list_all, list_any}
use Rattle.type_schema.specs.Views as view
use Rattle.data_meaning.specs.Database.{slots_of}
use Rattle.data_meaning.specs.Values as stored
use Rattle.data_meaning.specs.declared.principals.Principal.TheVariants.{Rec}
use Rattle.data_meaning.specs.Meaning as meaning
use Rattle.data_members.specs.Tests.{passes_in}
use Rattle.data_members.specs.Variables.{env_data}
use Rattle.data_members.proofs.meaning.+meaning.Given as goal

abbrev pub invariant-holds_at-loop-id : goal.invariant-holds_at-loop-id
invariant-holds_at-loop-id l =
    list_any (λ y. meaning.member l.database (env_data l.env ++ stored.Id y ∷ []) (view.set_of l.set) l.who) (take l.id-index l.ids) ≡ false

abbrev pub invariant-ids_within-loop-record : goal.invariant-ids_within-loop-record
invariant-ids_within-loop-record l =
    l.found.items ≡ filter (λ y. meaning.member l.database (env_data l.env) (view.set_of l.set) (Rec l.m y)) (map (λ r. r.id) (take l.record-index l.record-items))

-- whether the principal is one of the items is settled by those that are left
abbrev pub invariant-is_listed-loop-item : goal.invariant-is_listed-loop-item
invariant-is_listed-loop-item l =
    meaning.is_listed l.database (env_data l.env) (view.items_of (map view.item_of (drop l.item-index l.items))) l.who
    ≡ meaning.is_listed l.database (env_data l.env) (view.items_of (map view.item_of l.items)) l.who

abbrev pub invariant-maps_to-loop-id : goal.invariant-maps_to-loop-id
invariant-maps_to-loop-id l =
    list_any (λ y. meaning.is_record l.m (meaning.value_of l.database (env_data l.env ++ stored.Id y ∷ []) (view.expr_of l.e)) l.who) (take l.id-index l.ids) ≡ false

-- whether a record meets the filters is settled by the tests so far and the filters that are left
abbrev pub invariant-tests_of-loop-filter : goal.invariant-tests_of-loop-filter
invariant-tests_of-loop-filter l =
    (m id : ℕ) → meaning.meets l.database (env_data l.env) m (view.filters_of (map view.filter_of l.filters)) id
    ≡ (list_all (passes_in (slots_of l.database m id)) l.tests.items
    && meaning.meets l.database (env_data l.env) m (view.filters_of (map view.filter_of (drop l.filter-index l.filters))) id)
