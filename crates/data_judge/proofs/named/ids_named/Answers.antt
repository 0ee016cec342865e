use Rattle.std.proofs.Common.{◌≡◌, Option, Some, ℕ, List, [], sym, subst, arith}
use Rattle.std.proofs.lemmas.Grind.{common_steps}
use Rattle.std.specs.Prelude.{IfSome}
use Rattle.std.specs.List.Sorted.{IsStrictlyIncreasing}
use Rattle.data_judge.specs.Named as spec
use Rattle.data_judge.proofs.NamedSets.{named-rise}
use Rattle.data_judge.proofs.named.ids_named.Goals as goal

pub returns-clause-rising : goal.returns-clause-rising
returns-clause-rising c =
    let named : Some c.in_ok-into_items.field-0 ≡ spec.ids_named c.args.own [] c.args.items.now = grind (arith, common_steps) in
    subst (λ (o : Option (List ℕ)). IfSome o IsStrictlyIncreasing) (sym named) (named-rise c.args.own [] c.args.items.now tt)
