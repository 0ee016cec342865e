use Rattle.ground_problem.proofs.CongruenceLaws.{IsDownBoth}
use Rattle.ground_problem.proofs.congruence.push_all_apart.Given as goal

abbrev pub invariant-down : goal.invariant-down
invariant-down l = IsDownBoth l.source.arena.now l.source.terms.now l.ts l.us l.left l.right l.initial.literals.items l.literals.items

abbrev pub decreases-down : goal.decreases-down
decreases-down l = l.left
