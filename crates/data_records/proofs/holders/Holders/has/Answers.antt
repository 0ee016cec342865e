use Rattle.std.proofs.Common.{◌≡◌, ◌==◌, true, subst}
use Rattle.std.specs.List.{list_any}
use Rattle.data_records.proofs.Amid.{any-at}
use Rattle.data_records.proofs.holders.Holders.has.Goals as goal

pub returns-in-Ok : goal.returns-in-Ok
returns-in-Ok c = λ found. subst (λ is. list_any (λ j. j == c.args.id) is ≡ true) c.ids.ensures (any-at c.args.id c.in-Ok.field-0 c.ids.result.now c.in-Ok.ensures.bound c.in-Ok.ensures.ok)
