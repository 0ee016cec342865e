-- The formula of an obligation against flow leaks is true where a use leaks to somebody.
use Rattle.std.specs.Prelude.{◌≡◌, ◌≤◌, ◌-◌, ◌↔◌, ℕ, true, [], Some, slice_get, Contains}
use Rattle.type_schema.specs.declared.rights.Target.TheVariants as on
use Rattle.type_schema.specs.Trees.{Init}
use Rattle.type_schema.specs.Schema.{FieldInfo}
use Rattle.type_schema.specs.Uses.{Use, init_uses_of}
use Rattle.type_schema.specs.Script.{Script, IsScript}
use Rattle.type_schema.specs.Kinds.{is_kind_at}
use Rattle.data_meaning.specs.declared.principals.Principal.{Principal}
use Rattle.data_meaning.specs.Database.{Database}
use Rattle.data_meaning.specs.declared.cells.Cell.{Cell}
use Rattle.data_meaning.specs.Run.{run_to}
use Rattle.data_meaning.specs.Gain.{IsStart, kind_of, AddsAt, FlowAt}
use Rattle.form_formula.specs.Truth.{truth}
use Rattle.duty_meaning.specs.declared.duty.Duty.{Duty}
use Rattle.duty_meaning.specs.Structures.{structure_of}
use Rattle.duty_meaning.specs.Duties.{flow_formula_of}
use Rattle.duty_meaning.specs.Reads.{init_read_by}

-- the cell of a use's field
abbrev pub cell_of : Use → ℕ → Cell
cell_of at id = record { model = at.model; id = id; field = at.field }

-- The obligation is of a command that adds the field, of the use of this number in the initialiser, counted from 1, and of a kind of
-- principals at the command.
pub record IsFlowDuty (t : Script) (duty : Duty) (spot m : ℕ) (f : FieldInfo) (init : Init) (at : Use) : Type 0 where
  pub adds : AddsAt t duty.command m f init
  pub target : duty.target ≡ on.Field m f.number
  pub numbered : 1 ≤ spot
  pub used : slice_get (init_uses_of init) (spot - 1) ≡ Some at
  pub kind : is_kind_at t duty.command duty.kind ≡ true

-- some principal of the kind may read the added field on a record, and may not read a cell that the use reads there
pub record LeaksToSomebody (t : Script) (duty : Duty) (spot : ℕ) (init : Init) (at : Use) (d : Database) : Type 0 where
  pub id : ℕ
  pub who : Principal
  pub source : ℕ
  pub kind : kind_of who ≡ duty.kind
  pub flow : FlowAt t duty.command d id who (cell_of at source)
  pub reads : Contains (init_read_by (run_to t duty.command d) init id (spot - 1)) (cell_of at source)

-- On each start database the formula of an obligation is true exactly where it fails.
abbrev pub FlowFormulasAreTrue : Type 0
FlowFormulasAreTrue =
    (t : Script) → IsScript t → (duty : Duty) (spot m : ℕ) (f : FieldInfo) (init : Init) (at : Use) → IsFlowDuty t duty spot m f init at
    → (d : Database) → IsStart t d
    → (truth (structure_of t.start d) [] (flow_formula_of t duty spot) ≡ true) ↔ LeaksToSomebody t duty spot init at d
