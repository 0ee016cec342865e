-- Obligations one by one.
use Rattle.std.specs.Prelude.{ℕ, ◌+◌, List, [], Some, None}
use Rattle.std.specs.Option.{option_map_or}
use Rattle.type_schema.specs.declared.rights.Kind.{Kind}
use Rattle.type_schema.specs.declared.rights.Right.{Right}
use Rattle.type_schema.specs.declared.rights.Right.TheVariants.{Read}
use Rattle.type_schema.specs.declared.rights.Target.{Target}
use Rattle.type_schema.specs.Script.{Script, command_at}
use Rattle.type_schema.specs.Kinds.{kinds_at}
use Rattle.duty_meaning.specs.declared.duty.Duty.{Duty}
use Rattle.duty_meaning.specs.Duties.{obligations_at}

-- that the right is no gain of the kind
abbrev pub gain_at : ℕ → Target → Right → Kind → Duty
gain_at command target right a = record { command = command; target = target; right = right; spot = None; kind = a }

-- that the use does not leak to the kind
abbrev pub flow_at : ℕ → Target → ℕ → Kind → Duty
flow_at command target spot a = record { command = command; target = target; right = Read; spot = Some spot; kind = a }

-- those of the command behind the first ones
abbrev pub obligations_behind : Script → ℕ → List Duty
obligations_behind t at = option_map_or (obligations_at (at + 1) (kinds_at t (at + 1))) (command_at t at) []
