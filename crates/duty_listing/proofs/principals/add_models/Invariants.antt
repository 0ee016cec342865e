use Rattle.std.proofs.Common.{◌≡◌, ◌++◌}
use Rattle.std.specs.Prelude.{filter}
use Rattle.type_schema.specs.SchemaViews.{script_of}
use Rattle.duty_listing.specs.Kinds.{ever_has, models_from}
use Rattle.duty_listing.proofs.principals.add_models.Given as goal

abbrev pub invariant-loop-m : goal.invariant-loop-m
invariant-loop-m l = l.kinds.items ≡ l.initial.kinds.items ++ filter (ever_has (script_of l.t)) (models_from 0 l.m)
