-- The formula of an obligation against gains is true where somebody gains.
use Rattle.std.specs.Prelude.{◌≡◌, ◌≤◌, ◌-◌, ◌↔◌, ℕ, true, false, []}
use Rattle.std.specs.Option.{option_map_or}
use Rattle.type_schema.specs.Script.{Script, command_at, IsScript}
use Rattle.type_schema.specs.Kinds.{is_kind_at}
use Rattle.data_meaning.specs.declared.principals.Principal.{Principal}
use Rattle.data_meaning.specs.Database.{Database}
use Rattle.data_meaning.specs.Gain.{IsStart, kind_of, updates, GainAt}
use Rattle.form_formula.specs.Truth.{truth}
use Rattle.duty_meaning.specs.declared.duty.Duty.{Duty}
use Rattle.duty_meaning.specs.Structures.{structure_of}
use Rattle.duty_meaning.specs.Duties.{gain_formula_of}

-- the obligation is of a command that updates the right, and of a kind of principals at the command
pub record IsGainDuty (t : Script) (duty : Duty) : Type 0 where
  pub counted : 1 ≤ duty.command
  pub updated : option_map_or (updates duty.target duty.right) (command_at t (duty.command - 1)) false ≡ true
  pub kind : is_kind_at t duty.command duty.kind ≡ true

-- some principal of the kind gains the right at the command, on some record
pub record GainsSomebody (t : Script) (duty : Duty) (d : Database) : Type 0 where
  pub id : ℕ
  pub who : Principal
  pub kind : kind_of who ≡ duty.kind
  pub gain : GainAt t duty.command duty.target duty.right d id who

-- On each start database the formula of an obligation is true exactly where it fails.
abbrev pub GainFormulasAreTrue : Type 0
GainFormulasAreTrue =
    (t : Script) → IsScript t → (duty : Duty) → IsGainDuty t duty → (d : Database) → IsStart t d
    → (truth (structure_of t.start d) [] (gain_formula_of t duty) ≡ true) ↔ GainsSomebody t duty d
