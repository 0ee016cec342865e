use Rattle.ground_terms.specs.Counting.{count_in, function_count}
use Rattle.ground_terms.proofs.CountRounds.{nothing_raised, raised_next}
use Rattle.ground_terms.proofs.counts.raise_by_functions.Goals as goal

pub loop-h-init : goal.loop-h-init
loop-h-init c = nothing_raised c.args.next.now

pub loop-h-preserved : goal.loop-h-preserved
loop-h-preserved c =
    raised_next (λ h s. function_count (count_in c.args.counts.now) c.args.signature.now s h) c.args.functions.now c.loop-h.h-index 0 _ _ _ c.loop-h-test.true c.loop-h.invariant c.raise_by_function.ensures
