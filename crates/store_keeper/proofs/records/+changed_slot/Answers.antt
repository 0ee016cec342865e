use Rattle.std.proofs.Common.{◌≡◌, List, ◌∷◌, refl, sym, subst, map}
use Rattle.std.specs.Option.{option_copied, option_map}
use Rattle.data_records.specs.declared.record.Slot.{Slot}
use Rattle.data_records.specs.Views.{slot_data}
use Rattle.store_keeper.specs.Changes.{FindsChange}
use Rattle.store_keeper.proofs.Differences.{finds-later}
use Rattle.store_keeper.proofs.records.+changed_slot.Goals as goal

pub returns-then-same_value : goal.returns-then-same_value
returns-then-same_value t c =
    let a = c.in-Some-Some.a.now in
    let b = c.in-Some-Some.b.now in
    let rest = map slot_data c.in-Some-Some.rest.now in
    let others = map slot_data c.in-Some-Some.others.now in
    let found = option_map slot_data (option_copied c.changed_slot.result) in
    let old : c.args.old.now ≡ a ∷ c.in-Some-Some.rest.now = c.in-Some-Some.ensures.cases.0 in
    let new : c.args.new.now ≡ b ∷ c.in-Some-Some.others.now = c.in-Some-Some.ensures'.cases.0 in
    let P : List Slot → Type 0 = λ xs. FindsChange (map slot_data xs) (map slot_data c.args.new.now) found in
    let Q : List Slot → Type 0 = λ ys. FindsChange (slot_data a ∷ rest) (map slot_data ys) found in
    subst P (sym old) (subst Q (sym new) (finds-later (slot_data a) (slot_data b) rest others found (c.if-same_value.ensures.0 refl) c.changed_slot.ensures))
