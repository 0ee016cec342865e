use Rattle.std.proofs.Common.{◌≡◌, ◌++◌}
use Rattle.std.specs.Prelude.{vec_len, reverse}
use Rattle.ground_terms.proofs.chain.push_reversed.Given as goal

abbrev pub invariant-items : goal.invariant-items
invariant-items l = l.list.items ++ reverse l.items.items ≡ l.initial.list.items ++ reverse l.initial.items.items

abbrev pub decreases-items : goal.decreases-items
decreases-items l = vec_len l.items
