use Rattle.std.proofs.Common.{◌≡◌, ◌++◌}
use Rattle.std.specs.Prelude.{filter}
use Rattle.type_schema.specs.SchemaViews.{script_of}
use Rattle.duty_listing.specs.Kinds.{ever_has, statics_from}
use Rattle.duty_listing.proofs.principals.add_statics.Given as goal

abbrev pub invariant-loop-n : goal.invariant-loop-n
invariant-loop-n l = l.kinds.items ≡ l.initial.kinds.items ++ filter (ever_has (script_of l.t)) (statics_from 0 l.n)
