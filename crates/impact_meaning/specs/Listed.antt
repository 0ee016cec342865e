-- Which the declared weakenings are.
use Rattle.std.specs.Prelude.{◌≡◌, ◌≤◌, ◌-◌, ℕ, true, false, None}
use Rattle.std.specs.Option.{option_map_or}
use Rattle.type_schema.specs.Script.{Script, command_at}
use Rattle.type_schema.specs.Kinds.{is_kind_at}
use Rattle.data_meaning.specs.Gain.{weakens}
use Rattle.duty_meaning.specs.declared.duty.Duty.{Duty}

-- the command weakens the right on the target, for a kind of principals at the command
pub record IsWeakening (t : Script) (duty : Duty) : Type 0 where
  pub counted : 1 ≤ duty.command
  pub weakened : option_map_or (weakens duty.target duty.right) (command_at t (duty.command - 1)) false ≡ true
  pub kind : is_kind_at t duty.command duty.kind ≡ true
  pub no_use : duty.spot ≡ None
