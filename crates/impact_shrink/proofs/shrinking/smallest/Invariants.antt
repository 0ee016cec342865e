use Rattle.type_schema.specs.SchemaViews.{script_of}
use Rattle.check_report.specs.Views.{witness_data}
use Rattle.impact_shrink.specs.Dropped.{IsAfterRounds, rounds_left}
use Rattle.impact_shrink.proofs.shrinking.smallest.Given as goal

abbrev pub invariant-rounds : goal.invariant-rounds
invariant-rounds l = IsAfterRounds (script_of l.t) (witness_data l.w) l.fn.base l.left

abbrev pub decreases-rounds : goal.decreases-rounds
decreases-rounds l = rounds_left l.left
