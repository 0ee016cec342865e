use Rattle.std.proofs.Common.{ℕ, List}
use Rattle.std.specs.Prelude.{Contains, vec_len}
use Rattle.form_strata.specs.Search.{IsPath, LeadsOn, IsTurn}
use Rattle.form_strata.proofs.order.cycle_from.Given as goal

abbrev pub invariant-loop-v : goal.invariant-loop-v
invariant-loop-v l =
    (graph : List (ℕ × ℕ)) → IsPath graph l.fn.path.items → Contains l.fn.path.items l.from → LeadsOn graph l.fn.path.items l.from
    → IsTurn graph l.from l.path.items l.cycle.items

abbrev pub decreases-loop-v : goal.decreases-loop-v
decreases-loop-v l = vec_len l.path
