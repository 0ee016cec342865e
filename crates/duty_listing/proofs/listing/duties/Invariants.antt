use Rattle.std.proofs.Common.{◌≡◌}
use Rattle.type_schema.specs.SchemaViews.{script_of}
use Rattle.duty_listing.proofs.DutyLaws.{obligations_to}
use Rattle.duty_listing.proofs.listing.duties.Given as goal

abbrev pub invariant-loop-at : goal.invariant-loop-at
invariant-loop-at l = l.duties.found.items ≡ obligations_to (script_of l.t) l.at
