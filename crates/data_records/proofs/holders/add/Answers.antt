use Rattle.std.proofs.Common.{◌≡◌, ◌==◌, true, subst, sym}
use Rattle.std.specs.List.{list_any}
use Rattle.data_records.proofs.Amid.{any-at, any-inserted}
use Rattle.data_records.proofs.holders.add.Goals as goal

pub returns-in-Ok-clause-added : goal.returns-in-Ok-clause-added
returns-in-Ok-clause-added c =
    subst (λ is. list_any (λ j. j == c.args.id) is ≡ true) c.deref.ensures.value
    (any-at c.args.id c.in-Ok.field-0 c.deref.result.now c.in-Ok.ensures.bound c.in-Ok.ensures.ok)

pub returns-in_ok-insert-in-Err-clause-kept : goal.returns-in_ok-insert-in-Err-clause-kept
returns-in_ok-insert-in-Err-clause-kept c = λ i there.
    subst (λ is. list_any (λ j. j == i) is ≡ true) (sym c.in_ok-insert-in-Err.ensures.items) (any-inserted i c.args.ids.now.items c.in-Err.at c.args.id there)
