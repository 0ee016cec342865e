-- Real witnesses: what they tell happens on their start database.
use Rattle.std.specs.Prelude.{◌≡◌, ◌⊎◌, ℕ, MatchOption}
use Rattle.type_schema.specs.declared.rights.Right.TheVariants.{Read}
use Rattle.type_schema.specs.declared.rights.Target.TheVariants as on
use Rattle.type_schema.specs.Schema.{FieldInfo}
use Rattle.type_schema.specs.Script.{Script}
use Rattle.type_schema.specs.Trees.{Init}
use Rattle.data_meaning.specs.declared.cells.Cell.{Cell}
use Rattle.data_meaning.specs.Gain.{GainAt, AddsAt, FlowAt}
use Rattle.check_witness.specs.Witness.{Witness}
use Rattle.impact_meaning.specs.Weakened.{WeakAt}

-- The principal of the witness reads the cell through the field that the command adds: to read this field is the right of the witness on
-- its target.
pub record LeaksCell (t : Script) (w : Witness) (cell : Cell) : Type 0 where
  pub flow : FlowAt t w.command w.base w.row w.who cell
  pub model : ℕ
  pub field : FieldInfo
  pub init : Init
  pub adds : AddsAt t w.command model field init
  pub target : w.target ≡ on.Field model field.number
  pub right : w.right ≡ Read

-- The principal gains the right on the record by the command; or the cell leaks, where the witness has one.
abbrev pub IsLeaking : Script → Witness → Type 0
IsLeaking t w = MatchOption w.cell (GainAt t w.command w.target w.right w.base w.row w.who) (LeaksCell t w)

-- The principal gains the right on the record by the command, or is newly allowed it by a command that says so; or the cell leaks, where
-- the witness has one.
abbrev pub IsReal : Script → Witness → Type 0
IsReal t w =
    MatchOption w.cell
    (GainAt t w.command w.target w.right w.base w.row w.who ⊎ WeakAt t w.command w.target w.right w.base w.row w.who)
    (LeaksCell t w)
