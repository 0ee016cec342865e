use Rattle.std.proofs.Common.{◌≡◌, true}
use Rattle.type_schema.specs.SchemaViews.{script_of}
use Rattle.online_meaning.specs.Marks.{any_added}
use Rattle.online_ground.proofs.slow.is_slow.Given as goal

abbrev pub invariant-loop-at : goal.invariant-loop-at
invariant-loop-at l = l.slow ≡ any_added (script_of l.t) (λ k a. true) l.m l.at
