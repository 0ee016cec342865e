use Rattle.std.proofs.Common.{◌≡◌, ◌-◌, ap, sym, ◌∙◌, subst, arith, map}
use Rattle.std.specs.Prelude.{Some, None, ◌==◌, position}
use Rattle.std.specs.List.Sorted.{IsStrictlyIncreasing}
use Rattle.data_meaning.specs.Database.{Record}
use Rattle.data_records.specs.declared.table.Table as code_table
use Rattle.data_records.specs.Kept.{IsKept}
use Rattle.data_records.specs.Removed.{without_record, without_record_in}
use Rattle.data_records.specs.Room.{record_count, record_weight, total_weight}
use Rattle.data_records.specs.Views.{table_data}
use Rattle.data_records.proofs.Changes.{located, record-found}
use Rattle.data_records.proofs.Firsts.{first-from_position}
use Rattle.data_records.specs.Namings.{IsIndexed, IsKnown}
use Rattle.data_records.proofs.Noted.{holds-erased, left-out, nothing-known}
use Rattle.data_records.proofs.Places.{if-found, kept-taken, one-record, rising-at}
use Rattle.data_records.proofs.Pushed.{changed-at, unchanged}
use Rattle.data_records.proofs.database.Database.take.Goals as goal

pub take-taken-requires : goal.take-taken-requires
take-taken-requires c =
    let ts = c.self.inside.tables.items in
    let t = c.index_mut-table.result.now in
    let place : position (λ t. t.model == c.args.m) ts ≡ Some c.in-Some.place = ap (position (λ t. t.model == c.args.m)) (sym c.as_slice.ensures.value) ∙ sym c.place_of.ensures ∙ c.in-Some.is in
    let at = first-from_position (λ t. t.model == c.args.m) ts c.in-Some.place place t in
    subst (λ (u : code_table.Table). IsStrictlyIncreasing (map (λ r. r.id) u.records.items)) (sym c.index_mut-table.ensures.value)
    (rising-at ts c.in-Some.place t c.self.invariant.0.rising at.0)

pub overflow_sub-self : goal.overflow_sub-self
overflow_sub-self c =
    let d = c.args.self.now in
    let at = located d c.args.m c.args.id c.requires.there in
    let counted : c.self.inside.count ≡ record_count d = c.self.invariant.0.counted ∙ ap record_count c.self.view_is in
    omega (arith, counted, one-record d c.args.m c.args.id at)

pub invariant_of-self : goal.invariant_of-self
invariant_of-self c =
    let ts = c.self.inside.tables.items in
    let t = c.index_mut-table.result.now in
    let d = c.args.self.now in
    let place : position (λ t. t.model == c.args.m) ts ≡ Some c.in-Some.place = ap (position (λ t. t.model == c.args.m)) (sym c.as_slice.ensures.value) ∙ sym c.place_of.ensures ∙ c.in-Some.is in
    let changed = changed-at c.args.m (without_record_in c.args.id) ts c.in-Some.place c.take-taken.new.self t place (c.take-taken.ensures.left ∙ ap (λ u. without_record_in c.args.id (table_data u)) c.index_mut-table.ensures.value) in
    let at = located d c.args.m c.args.id c.requires.there in
    let left : c.args.weight ≡ total_weight d - record_weight at.row = if-found (λ (r : Record). c.args.weight ≡ total_weight d - record_weight r) _ at.row (record-found at) c.requires.weight in
    let kept : IsKept c.self.inside.count c.self.inside.weight d = subst (IsKept c.self.inside.count c.self.inside.weight) c.self.view_is c.self.invariant.0 in
    let x = c.forget_taken.new.self in (
      subst (IsKept (c.self.inside.count - 1) c.args.weight) (ap (without_record c.args.m c.args.id) (sym c.self.view_is) ∙ sym changed)
          (kept-taken c.self.inside.count c.self.inside.weight c.args.weight d c.args.m c.args.id at kept left),
      subst (IsIndexed x) (sym changed)
          (holds-erased (IsKnown x) (nothing-known x) c.args.m c.args.id (map table_data ts)
          (λ n i g differs. c.forget_taken.ensures n i g _ (left-out c.args.m c.args.id n i c.take-taken.result c.take-taken.ensures.taken differs) (c.self.invariant.1 n i g)) c.self.invariant.0.rising),
    )

pub returns-in-Some : goal.returns-in-Some
returns-in-Some c =
    let ts = c.self.inside.tables.items in
    let t = c.index_mut-table.result.now in
    let place : position (λ t. t.model == c.args.m) ts ≡ Some c.in-Some.place = ap (position (λ t. t.model == c.args.m)) (sym c.as_slice.ensures.value) ∙ sym c.place_of.ensures ∙ c.in-Some.is in
    let changed = changed-at c.args.m (without_record_in c.args.id) ts c.in-Some.place c.take-taken.new.self t place (c.take-taken.ensures.left ∙ ap (λ u. without_record_in c.args.id (table_data u)) c.index_mut-table.ensures.value) in
    changed ∙ ap (without_record c.args.m c.args.id) c.self.view_is

pub returns-in-None : goal.returns-in-None
returns-in-None c =
    let ts = c.self.inside.tables.items in
    let nowhere : position (λ t. t.model == c.args.m) ts ≡ None = ap (position (λ t. t.model == c.args.m)) (sym c.as_slice.ensures.value) ∙ sym c.place_of.ensures ∙ c.in-None.is in
    rw (← c.self.view_is) (sym (unchanged c.args.m (without_record_in c.args.id) ts nowhere))
