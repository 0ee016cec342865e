use Rattle.std.proofs.Common.{◌≡◌, ℕ, ◌==◌, ap, sym, ◌∙◌, subst, arith, ◌+◌, get_or, map}
use Rattle.std.specs.Prelude.{Some, None, position}
use Rattle.data_records.specs.Views.{record_data, slot_data, table_data}
use Rattle.data_records.specs.Inserted.{change_table, next_of, with_record}
use Rattle.data_records.specs.Kept.{IsKept}
use Rattle.data_records.specs.Namings.{AreKnown, IsIndexed, IsKnown}
use Rattle.data_records.proofs.Noted.{holds-pushed, known-held, nothing-known}
use Rattle.data_records.proofs.Pushed.{changed-at, found-at, kept-more, next-at, on-err, same-at, unchanged}
use Rattle.data_records.proofs.database.Database.push.Goals as goal

pub returns-in-None-clause-ok : goal.returns-in-None-clause-ok
returns-in-None-clause-ok c =
    let ts = c.self.inside.tables.items in
    let nowhere : position (λ t. t.model == c.args.m) ts ≡ None = ap (position (λ t. t.model == c.args.m)) (sym c.as_slice.ensures.value) ∙ sym c.place_of.ensures ∙ c.in-None.is in
    rw (← c.self.view_is) (sym (unchanged c.args.m (with_record (record_data c.args.made)) ts nowhere))

pub push-requires : goal.push-requires
push-requires c =
    let ts = c.self.inside.tables.items in
    let t = c.index_mut-table.result.now in
    let place : position (λ t. t.model == c.args.m) ts ≡ Some c.in-Some.place = ap (position (λ t. t.model == c.args.m)) (sym c.as_slice.ensures.value) ∙ sym c.place_of.ensures ∙ c.in-Some.is in
    let here : t.next ≡ (get_or ts c.in-Some.place t).next = ap (λ u. u.next) c.index_mut-table.ensures.value in
    let next : next_of c.args.self.now c.args.m ≡ (get_or ts c.in-Some.place t).next = ap (λ d. next_of d c.args.m) (sym c.self.view_is) ∙ next-at c.args.m ts c.in-Some.place t place in
    omega (arith, here, next, c.requires.id, c.requires.unspent)

pub invariant_of-self : goal.invariant_of-self
invariant_of-self c =
    let t = c.index_mut-table.result.now in
    let same = same-at c.self.inside.tables.items c.in-Some.place c.push.new.self t (c.in_err-push.ensures.err ∙ ap table_data c.index_mut-table.ensures.value) in
    let noted = λ (n i g : ℕ). c.note_all.ensures.kept n i g _ (c.self.invariant.1 n i g) in (
      subst (IsKept c.self.inside.count c.self.inside.weight) (sym same) c.self.invariant.0,
      subst (IsIndexed c.note_all.new.self) (sym same) noted,
    )

pub returns-in_err-push-clause-err : goal.returns-in_err-push-clause-err
returns-in_err-push-clause-err c =
    let t = c.index_mut-table.result.now in
    let same = same-at c.self.inside.tables.items c.in-Some.place c.push.new.self t (c.in_err-push.ensures.err ∙ ap table_data c.index_mut-table.ensures.value) in
    on-err c.from_residual.result (same ∙ c.self.view_is)

pub invariant_of-self-2 : goal.invariant_of-self-2
invariant_of-self-2 c =
    let ts = c.self.inside.tables.items in
    let t = c.index_mut-table.result.now in
    let r = record_data c.args.made in
    let place : position (λ t. t.model == c.args.m) ts ≡ Some c.in-Some.place = ap (position (λ t. t.model == c.args.m)) (sym c.as_slice.ensures.value) ∙ sym c.place_of.ensures ∙ c.in-Some.is in
    let id : c.args.made.id ≡ next_of (map table_data ts) c.args.m = c.requires.id ∙ ap (λ d. next_of d c.args.m) (sym c.self.view_is) in
    let changed = changed-at c.args.m (with_record r) ts c.in-Some.place c.push.new.self t place (c.in_ok-push.ensures.ok ∙ ap (λ u. with_record r (table_data u)) c.index_mut-table.ensures.value) in
    let kept = kept-more c.args.m r c.self.inside.count c.self.inside.weight (map table_data ts) (table_data (get_or ts c.in-Some.place t)) c.self.invariant.0 (found-at c.args.m ts c.in-Some.place t place) id in
    let x = c.note_all.new.self in
    let known : AreKnown x c.args.m r.id r.slots = subst (λ slots. AreKnown x c.args.m r.id (map slot_data slots)) c.as_slice-2.ensures c.note_all.ensures.noted in
    let noted = λ (n i g : ℕ). c.note_all.ensures.kept n i g _ (c.self.invariant.1 n i g) in (
      subst (λ d. IsKept (c.self.inside.count + 1) (c.self.inside.weight + c.args.weight) d) (sym changed)
          (subst (λ w. IsKept (c.self.inside.count + 1) (c.self.inside.weight + w) (change_table c.args.m (with_record r) (map table_data ts))) (sym c.requires.weight) kept),
      subst (IsIndexed x) (sym changed) (holds-pushed (IsKnown x) (nothing-known x) c.args.m r (known-held x c.args.m r.id r.slots known) (map table_data ts) noted),
    )

pub returns-clause-ok : goal.returns-clause-ok
returns-clause-ok c =
    let ts = c.self.inside.tables.items in
    let t = c.index_mut-table.result.now in
    let r = record_data c.args.made in
    let place : position (λ t. t.model == c.args.m) ts ≡ Some c.in-Some.place = ap (position (λ t. t.model == c.args.m)) (sym c.as_slice.ensures.value) ∙ sym c.place_of.ensures ∙ c.in-Some.is in
    let changed = changed-at c.args.m (with_record r) ts c.in-Some.place c.push.new.self t place (c.in_ok-push.ensures.ok ∙ ap (λ u. with_record r (table_data u)) c.index_mut-table.ensures.value) in
    changed ∙ ap (change_table c.args.m (with_record r)) c.self.view_is
