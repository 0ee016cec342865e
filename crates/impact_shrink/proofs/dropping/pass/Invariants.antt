use Rattle.std.proofs.Common.{take}
use Rattle.type_schema.specs.SchemaViews.{script_of}
use Rattle.check_report.specs.Views.{witness_data}
use Rattle.impact_shrink.specs.Dropped.{IsLeft}
use Rattle.impact_shrink.proofs.dropping.pass.Given as goal

abbrev pub invariant-loop-place : goal.invariant-loop-place
invariant-loop-place l = IsLeft (script_of l.t) (witness_data l.w) l.fn.base (take l.place-index l.places) l.left
