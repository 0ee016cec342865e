use Rattle.std.proofs.Common.{◌≡◌, ap, sym, ◌∙◌, subst, arith, map}
use Rattle.std.specs.Prelude.{Some, None, ◌==◌, position}
use Rattle.std.specs.List.Sorted.{IsStrictlyIncreasing}
use Rattle.data_meaning.specs.Database.{field_at}
use Rattle.data_records.specs.declared.table.Table as code_table
use Rattle.data_records.specs.Changed.{with_field, with_value_in}
use Rattle.data_records.specs.Kept.{IsKept}
use Rattle.data_records.specs.Room.{weight_of, total_weight}
use Rattle.data_records.specs.Views.{table_data, value_data}
use Rattle.data_records.proofs.Changes.{kept-changed, located, value-is, weight-changed}
use Rattle.data_records.proofs.Firsts.{first-from_position}
use Rattle.data_records.specs.Namings.{IsIndexed, IsKnown}
use Rattle.data_records.proofs.Noted.{holds-put, nothing-known}
use Rattle.data_records.proofs.Places.{rising-at, row-there, slot-there}
use Rattle.data_records.proofs.Pushed.{changed-at, unchanged}
use Rattle.data_records.proofs.database.Database.put.Goals as goal

pub put-requires : goal.put-requires
put-requires c =
    let ts = c.self.inside.tables.items in
    let t = c.index_mut-table.result.now in
    let place : position (λ t. t.model == c.args.m) ts ≡ Some c.in-Some.place = ap (position (λ t. t.model == c.args.m)) (sym c.as_slice.ensures.value) ∙ sym c.place_of.ensures ∙ c.in-Some.is in
    let at = first-from_position (λ t. t.model == c.args.m) ts c.in-Some.place place t in
    subst (λ (u : code_table.Table). IsStrictlyIncreasing (map (λ r. r.id) u.records.items)) (sym c.index_mut-table.ensures.value)
    (rising-at ts c.in-Some.place t c.self.invariant.0.rising at.0)

pub invariant_of-self : goal.invariant_of-self
invariant_of-self c =
    let ts = c.self.inside.tables.items in
    let t = c.index_mut-table.result.now in
    let f = c.args.slot.field in
    let v = value_data c.args.slot.value in
    let d = c.args.self.now in
    let place : position (λ t. t.model == c.args.m) ts ≡ Some c.in-Some.place = ap (position (λ t. t.model == c.args.m)) (sym c.as_slice.ensures.value) ∙ sym c.place_of.ensures ∙ c.in-Some.is in
    let changed = changed-at c.args.m (with_value_in c.args.id f v) ts c.in-Some.place c.put.new.self t place (c.put.ensures ∙ ap (λ u. with_value_in c.args.id f v (table_data u)) c.index_mut-table.ensures.value) in
    let slot = slot-there d c.args.m c.args.id f c.requires.there in
    let at = located d c.args.m c.args.id (row-there d c.args.m c.args.id f slot.0 slot.1) in
    let weighs = weight-changed d c.args.m c.args.id f v slot.0 at slot.1 in
    let was : weight_of (field_at d c.args.m c.args.id f) ≡ weight_of slot.0.value = ap weight_of (value-is at f slot.0 slot.1) in
    let is : c.args.weight ≡ total_weight (with_field c.args.m c.args.id f v d) = omega (arith, weighs, was, c.requires.weight) in
    let seen : with_field c.args.m c.args.id f v d ≡ with_field c.args.m c.args.id f v (map table_data ts) = ap (with_field c.args.m c.args.id f v) (sym c.self.view_is) in
    let x = c.replace.new.self in (
      subst (IsKept c.self.inside.count c.args.weight) (sym changed)
          (kept-changed c.self.inside.count c.self.inside.weight c.args.weight (map table_data ts) c.args.m c.args.id f v c.self.invariant.0 (is ∙ ap total_weight seen)),
      subst (IsIndexed x) (sym changed)
          (holds-put (IsKnown x) (nothing-known x) c.args.m c.args.id f v c.replace.ensures.noted (map table_data ts) (λ n i g differs. c.replace.ensures.kept n i g _ differs (c.self.invariant.1 n i g))),
    )

pub returns-in-Some : goal.returns-in-Some
returns-in-Some c =
    let ts = c.self.inside.tables.items in
    let t = c.index_mut-table.result.now in
    let f = c.args.slot.field in
    let v = value_data c.args.slot.value in
    let place : position (λ t. t.model == c.args.m) ts ≡ Some c.in-Some.place = ap (position (λ t. t.model == c.args.m)) (sym c.as_slice.ensures.value) ∙ sym c.place_of.ensures ∙ c.in-Some.is in
    let changed = changed-at c.args.m (with_value_in c.args.id f v) ts c.in-Some.place c.put.new.self t place (c.put.ensures ∙ ap (λ u. with_value_in c.args.id f v (table_data u)) c.index_mut-table.ensures.value) in
    changed ∙ ap (with_field c.args.m c.args.id f v) c.self.view_is

pub returns-in-None : goal.returns-in-None
returns-in-None c =
    let ts = c.self.inside.tables.items in
    let f = c.args.slot.field in
    let v = value_data c.args.slot.value in
    let nowhere : position (λ t. t.model == c.args.m) ts ≡ None = ap (position (λ t. t.model == c.args.m)) (sym c.as_slice.ensures.value) ∙ sym c.place_of.ensures ∙ c.in-None.is in
    rw (← c.self.view_is) (sym (unchanged c.args.m (with_value_in c.args.id f v) ts nowhere))
