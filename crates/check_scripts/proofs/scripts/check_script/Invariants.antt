use Rattle.std.proofs.Common.{◌≡◌}
use Rattle.type_schema.specs.SchemaViews.{script_of}
use Rattle.check_scripts.proofs.Cleared.{AreCleared}
use Rattle.check_scripts.proofs.scripts.check_script.Given as goal

abbrev pub invariant-loop-duty : goal.invariant-loop-duty
invariant-loop-duty g l = AreCleared (script_of l.t) l.initial.known l.duty-index × (l.known ≡ l.initial.known)
