use Rattle.std.proofs.Common.{◌≡◌, ◌==◌, true, subst, sym}
use Rattle.std.specs.List.{list_any}
use Rattle.std.specs.Prelude.{remove}
use Rattle.data_records.proofs.Amid.{any-removed}
use Rattle.data_records.proofs.holders.take.Goals as goal

pub returns-in-Ok : goal.returns-in-Ok
returns-in-Ok c = λ i differs there.
    subst (λ is. list_any (λ j. j == i) is ≡ true) (sym c.remove-taken.ensures.items)
    (subst (λ is. list_any (λ j. j == i) (remove is c.in-Ok.at) ≡ true) c.deref.ensures.value
    (any-removed i c.args.id c.in-Ok.at c.deref.result.now differs c.in-Ok.ensures.bound c.in-Ok.ensures.ok (subst (λ is. list_any (λ j. j == i) is ≡ true) (sym c.deref.ensures.value) there)))
