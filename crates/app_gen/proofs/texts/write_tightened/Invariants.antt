use Rattle.std.proofs.Common.{◌≡◌, ◌≤◌, ◌-◌, ◌++◌}
use Rattle.app_gen.specs.Generated.{script_text}
use Rattle.app_gen.proofs.texts.write_tightened.Given as goal

abbrev pub invariant-loop-number : goal.invariant-loop-number
invariant-loop-number l = (l.out ≡ l.fn.out ++ script_text l.number) × (l.number ≤ l.count)

abbrev pub decreases-loop-number : goal.decreases-loop-number
decreases-loop-number l = l.count - l.number
