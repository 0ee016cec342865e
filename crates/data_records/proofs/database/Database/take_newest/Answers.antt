use Rattle.std.proofs.Common.{◌≡◌, ◌-◌, [], refl, map, ap, sym, ◌∙◌, subst, arith}
use Rattle.std.specs.Prelude.{Some, None, ◌==◌, position}
use Rattle.std.specs.Option.{option_map_or}
use Rattle.data_meaning.specs.Database.{Record, Table}
use Rattle.data_records.specs.Kept.{IsKept}
use Rattle.data_records.specs.Room.{record_count, record_weight, total_weight}
use Rattle.data_records.specs.Undone.{last_of, newest, without_newest, without_newest_in}
use Rattle.data_records.specs.Views.{record_data, table_data}
use Rattle.data_records.proofs.Changes.{some-of}
use Rattle.data_records.specs.Namings.{IsIndexed, IsKnown}
use Rattle.data_records.proofs.Noted.{holds-back, left-out, nothing-known, taken-named}
use Rattle.data_records.proofs.Places.{if-found}
use Rattle.data_records.proofs.Pushed.{changed-at, found-at, unchanged}
use Rattle.data_records.proofs.Undone.{kept-newest, newest-counts}
use Rattle.data_records.proofs.database.Database.take_newest.Goals as goal

pub overflow_sub-self : goal.overflow_sub-self
overflow_sub-self c =
    let d = c.args.self.now in
    let one = some-of (newest d c.args.m) c.requires.there in
    let counted : c.self.inside.count ≡ record_count d = c.self.invariant.0.counted ∙ ap record_count c.self.view_is in
    omega (arith, counted, newest-counts d c.args.m one.0 one.1)

pub invariant_of-self : goal.invariant_of-self
invariant_of-self c =
    let ts = c.self.inside.tables.items in
    let t = c.index_mut-table.result.now in
    let d = c.args.self.now in
    let place : position (λ t. t.model == c.args.m) ts ≡ Some c.in-Some.place = ap (position (λ t. t.model == c.args.m)) (sym c.as_slice.ensures.value) ∙ sym c.place_of.ensures ∙ c.in-Some.is in
    let changed = changed-at c.args.m without_newest_in ts c.in-Some.place c.take_newest-taken.new.self t place (c.take_newest-taken.ensures.left ∙ ap (λ u. without_newest_in (table_data u)) c.index_mut-table.ensures.value) in
    let one = some-of (newest d c.args.m) c.requires.there in
    let left : c.args.weight ≡ total_weight d - record_weight one.0 = if-found (λ (r : Record). c.args.weight ≡ total_weight d - record_weight r) _ one.0 one.1 c.requires.weight in
    let kept : IsKept c.self.inside.count c.self.inside.weight d = subst (IsKept c.self.inside.count c.self.inside.weight) c.self.view_is c.self.invariant.0 in
    let x = c.forget_taken.new.self in
    let last : newest (map table_data ts) c.args.m ≡ Some one.0 = ap (λ e. newest e c.args.m) c.self.view_is ∙ one.1 in
    let here : newest (map table_data ts) c.args.m ≡ last_of (map record_data t.records.items)
    = ap (λ o. last_of (option_map_or (λ (u : Table). u.records) o [])) (found-at c.args.m ts c.in-Some.place t place) ∙ ap (λ u. last_of (map record_data u.records.items)) (sym c.index_mut-table.ensures.value) in (
      subst (IsKept (c.self.inside.count - 1) c.args.weight) (ap (without_newest c.args.m) (sym c.self.view_is) ∙ sym changed)
          (kept-newest d c.args.m one.0 one.1 c.self.inside.count c.self.inside.weight c.args.weight kept left),
      subst (IsIndexed x) (sym changed)
          (holds-back (IsKnown x) (nothing-known x) c.args.m one.0.id (map table_data ts)
          (λ n i g differs. c.forget_taken.ensures n i g _
          (left-out c.args.m one.0.id n i c.take_newest-taken.result (taken-named c.take_newest-taken.result one.0 (c.take_newest-taken.ensures.taken ∙ sym here ∙ last)) differs) (c.self.invariant.1 n i g))
          c.self.invariant.0.rising one.0 last refl),
    )

pub returns-in-Some : goal.returns-in-Some
returns-in-Some c =
    let ts = c.self.inside.tables.items in
    let t = c.index_mut-table.result.now in
    let place : position (λ t. t.model == c.args.m) ts ≡ Some c.in-Some.place = ap (position (λ t. t.model == c.args.m)) (sym c.as_slice.ensures.value) ∙ sym c.place_of.ensures ∙ c.in-Some.is in
    let changed = changed-at c.args.m without_newest_in ts c.in-Some.place c.take_newest-taken.new.self t place (c.take_newest-taken.ensures.left ∙ ap (λ u. without_newest_in (table_data u)) c.index_mut-table.ensures.value) in
    changed ∙ ap (without_newest c.args.m) c.self.view_is

pub returns-in-None : goal.returns-in-None
returns-in-None c =
    let ts = c.self.inside.tables.items in
    let nowhere : position (λ t. t.model == c.args.m) ts ≡ None = ap (position (λ t. t.model == c.args.m)) (sym c.as_slice.ensures.value) ∙ sym c.place_of.ensures ∙ c.in-None.is in
    rw (← c.self.view_is) (sym (unchanged c.args.m without_newest_in ts nowhere))
