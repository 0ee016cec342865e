use Rattle.std.proofs.Common.{◌≡◌, ◌-◌, take, false}
use Rattle.std.specs.Prelude.{filter}
use Rattle.std.specs.Option.{option_map_or}
use Rattle.duty_meaning.specs.declared.duty.Duty.{Duty}
use Rattle.impact_meaning.specs.Undeclared.{is_weakening}
use Rattle.type_schema.specs.Script.{command_at}
use Rattle.type_schema.specs.SchemaViews.{script_of}
use Rattle.impact_effects.proofs.weakenings.of_weakenings.Given as goal

abbrev pub invariant-loop-duty : goal.invariant-loop-duty
invariant-loop-duty l =
    l.found.items ≡ filter (λ (duty : Duty). option_map_or is_weakening (command_at (script_of l.t) (duty.command - 1)) false) (take l.duty-index l.duties)
