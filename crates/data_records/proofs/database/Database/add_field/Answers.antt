use Rattle.std.proofs.Common.{◌≡◌, ◌≤◌, ◌+◌, List, [], ap, sym, ◌∙◌, subst, arith, get_or, length, map}
use Rattle.std.specs.Prelude.{Some, None, ◌==◌, position}
use Rattle.std.specs.List.{sum_by}
use Rattle.std.specs.Option.{option_map_or}
use Rattle.std.proofs.lemmas.List.{length-map}
use Rattle.data_meaning.specs.Database.{Table, records_of}
use Rattle.data_records.specs.declared.value.Value as code_value
use Rattle.data_records.specs.Kept.{IsKept}
use Rattle.data_records.specs.Moved.{with_slots_in, with_new_field}
use Rattle.data_records.specs.Room.{weight_of}
use Rattle.data_records.specs.Views.{record_data, table_data, value_data}
use Rattle.data_records.proofs.MovesKept.{kept-more-values}
use Rattle.data_records.proofs.Pushed.{changed-at, found-at, on-err, same-at, unchanged}
use Rattle.data_records.proofs.Summed.{sum_by_of_map}
use Rattle.data_records.proofs.database.Database.add_field.Goals as goal

pub add_field-requires : goal.add_field-requires
add_field-requires c =
    let m = c.args.m in
    let ts = c.self.inside.tables.items in
    let t = c.index_mut-table.result.now in
    let at = c.in-Some-place_of.place in
    let place : position (λ t. t.model == m) ts ≡ Some at = ap (position (λ t. t.model == m)) (sym c.as_slice-2.ensures.value) ∙ sym c.place_of.ensures ∙ c.in-Some-place_of.is in
    let all : records_of c.args.self.now m ≡ map record_data (get_or ts at t).records.items
    = ap (λ d. records_of d m) (sym c.self.view_is) ∙ ap (λ o. option_map_or (λ (u : Table). u.records) o []) (found-at m ts at t place) in
    c.requires ∙ ap length all ∙ length-map (get_or ts at t).records.items record_data ∙ ap (λ u. length u.records.items) (sym c.index_mut-table.ensures.value)

pub invariant_of-self : goal.invariant_of-self
invariant_of-self c =
    let t = c.index_mut-table.result.now in
    let same = same-at c.self.inside.tables.items c.in-Some-place_of.place c.add_field.new.self t (c.in_err-add_field-in-Some-place_of.ensures.err ∙ ap table_data c.index_mut-table.ensures.value) in
    (subst (IsKept c.self.inside.count c.self.inside.weight) (sym same) c.self.invariant.0, λ n i g. c.none.ensures n i g _)

pub returns-in_err-add_field-in-Some-place_of-clause-err : goal.returns-in_err-add_field-in-Some-place_of-clause-err
returns-in_err-add_field-in-Some-place_of-clause-err c =
    let t = c.index_mut-table.result.now in
    let same = same-at c.self.inside.tables.items c.in-Some-place_of.place c.add_field.new.self t (c.in_err-add_field-in-Some-place_of.ensures.err ∙ ap table_data c.index_mut-table.ensures.value) in
    on-err c.from_residual.result (same ∙ c.self.view_is)

pub invariant_of-self-in-Some-place_of : goal.invariant_of-self-in-Some-place_of
invariant_of-self-in-Some-place_of c =
    let m = c.args.m in
    let f = c.args.f in
    let vs = map value_data c.args.values.items in
    let ts = c.self.inside.tables.items in
    let t = c.index_mut-table.result.now in
    let at = c.in-Some-place_of.place in
    let place : position (λ t. t.model == m) ts ≡ Some at = ap (position (λ t. t.model == m)) (sym c.as_slice-2.ensures.value) ∙ sym c.place_of.ensures ∙ c.in-Some-place_of.is in
    let found = found-at m ts at t place in
    let all : records_of c.args.self.now m ≡ map record_data (get_or ts at t).records.items
    = ap (λ d. records_of d m) (sym c.self.view_is) ∙ ap (λ o. option_map_or (λ (u : Table). u.records) o []) found in
    let few : length vs ≤ length (map record_data (get_or ts at t).records.items) = omega (arith, length-map c.args.values.items value_data, c.requires, ap length all) in
    let changed = changed-at m (with_slots_in f vs) ts at c.add_field.new.self t place
    (c.in_ok-add_field-in-Some-place_of.ensures.ok ∙ ap (λ u. with_slots_in f vs (table_data u)) c.index_mut-table.ensures.value) in
    let weight = c.self.inside.weight in
    let weighs : c.in-Some.weight ≡ weight + sum_by weight_of vs
    = c.in-Some.ensures
    ∙ ap (λ (xs : List code_value.Value). weight + sum_by (λ v. weight_of (value_data v)) xs) c.as_slice.ensures.value
    ∙ ap (λ n. weight + n) (sym (sum_by_of_map weight_of value_data c.args.values.items)) in
    let kept = kept-more-values m f c.self.inside.count weight vs (map table_data ts) (table_data (get_or ts at t)) c.self.invariant.0 found few in (
      subst (IsKept c.self.inside.count c.in-Some.weight) (sym changed)
          (subst (λ w. IsKept c.self.inside.count w (with_new_field m f vs (map table_data ts))) (sym weighs) kept),
      λ n i g. c.none.ensures n i g _,
    )

pub returns-in_ok-add_field-in-Some-place_of-clause-ok : goal.returns-in_ok-add_field-in-Some-place_of-clause-ok
returns-in_ok-add_field-in-Some-place_of-clause-ok c =
    let m = c.args.m in
    let f = c.args.f in
    let vs = map value_data c.args.values.items in
    let ts = c.self.inside.tables.items in
    let t = c.index_mut-table.result.now in
    let at = c.in-Some-place_of.place in
    let place : position (λ t. t.model == m) ts ≡ Some at = ap (position (λ t. t.model == m)) (sym c.as_slice-2.ensures.value) ∙ sym c.place_of.ensures ∙ c.in-Some-place_of.is in
    changed-at m (with_slots_in f vs) ts at c.add_field.new.self t place
    (c.in_ok-add_field-in-Some-place_of.ensures.ok ∙ ap (λ u. with_slots_in f vs (table_data u)) c.index_mut-table.ensures.value)
    ∙ ap (with_new_field m f vs) c.self.view_is

pub returns-in-None-clause-ok : goal.returns-in-None-clause-ok
returns-in-None-clause-ok c =
    let m = c.args.m in
    let vs = map value_data c.args.values.items in
    let ts = c.self.inside.tables.items in
    let nowhere : position (λ t. t.model == m) ts ≡ None = ap (position (λ t. t.model == m)) (sym c.as_slice-2.ensures.value) ∙ sym c.place_of.ensures ∙ c.in-None.is in
    rw (← c.self.view_is) (sym (unchanged m (with_slots_in c.args.f vs) ts nowhere))
