use Rattle.std.proofs.Common.{◌≡◌, true, subst, sym}
use Rattle.data_records.specs.Namings.{is_same_place}
use Rattle.std.specs.Map.{lookup}
use Rattle.data_records.proofs.Entries.{inserted-kept, stands, written-kept}
use Rattle.data_records.proofs.holders.Holders.note.Goals as goal

pub returns-in-Some-clause-kept : goal.returns-in-Some-clause-kept
returns-in-Some-clause-kept c = λ x i there.
    subst (λ es. stands (λ ids. ids.items) (lookup (is_same_place x) es) i ≡ true) (sym (c.get_mut.follows.holds c.add.new.ids).0)
    (written-kept (λ ids. ids.items) (is_same_place c.args.place) (is_same_place x) i c.args.self.now.by.entries c.in-Some.ids.now c.add.new.ids c.in-Some.ensures.value (λ k test passes. c.add.ensures.kept i) there)

pub returns-in_ok-insert-in-None-clause-kept : goal.returns-in_ok-insert-in-None-clause-kept
returns-in_ok-insert-in-None-clause-kept c = λ x i there.
    subst (λ es. stands (λ ids. ids.items) (lookup (is_same_place x) es) i ≡ true)
    (sym (rw c.get_mut.follows.holds-at-none at c.in_ok-insert-in-None.ensures.entries))
    (inserted-kept (λ ids. ids.items) is_same_place (is_same_place x) i c.args.place c.in_ok-ids-in-None.ids c.args.self.now.by.entries c.in-None.ensures.value there)
