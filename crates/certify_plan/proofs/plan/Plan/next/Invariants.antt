-- Where nothing is due, nothing comes to be.
use Rattle.std.proofs.Common.{◌≡◌, length}
use Rattle.certify_plan.proofs.plan.Plan.next.Given as goal

abbrev pub invariant-loop : goal.invariant-loop
invariant-loop l = length l.initial.self-inside.due.items ≡ 0 → length l.self-inside.due.items ≡ 0
