-- By which start database, record and principal an obligation of a script fails, and by which cell that leaks.
use Rattle.std.specs.Prelude.{◌≡◌, ◌-◌, ℕ, Some, None, Contains, MatchOption}
use Rattle.type_schema.specs.Trees.{Init}
use Rattle.type_schema.specs.Schema.{FieldInfo}
use Rattle.type_schema.specs.Uses.{Use}
use Rattle.type_schema.specs.Script.{Script}
use Rattle.data_meaning.specs.Run.{run_to}
use Rattle.data_meaning.specs.Gain.{kind_of, GainAt, FlowAt}
use Rattle.duty_meaning.specs.declared.duty.Duty.{Duty}
use Rattle.duty_meaning.specs.Flows.{cell_of, IsFlowDuty}
use Rattle.duty_meaning.specs.Reads.{init_read_by}
use Rattle.check_witness.specs.Witness.{Witness}

-- The principal of the witness is of the obligation's kind, and gains the right on the record.
pub record IsGainOf (t : Script) (duty : Duty) (w : Witness) : Type 0 where
  pub kind : kind_of w.who ≡ duty.kind
  pub gain : GainAt t duty.command duty.target duty.right w.base w.row w.who
  pub no_cell : w.cell ≡ None

-- The principal is of the kind and may read the added field on the record, and not the cell, which the use reads there.
pub record IsLeakOf (t : Script) (duty : Duty) (w : Witness) (spot : ℕ) : Type 0 where
  pub model : ℕ
  pub field : FieldInfo
  pub init : Init
  pub at : Use
  pub source : ℕ
  pub duty_is : IsFlowDuty t duty spot model field init at
  pub kind : kind_of w.who ≡ duty.kind
  pub cell : w.cell ≡ Some (cell_of at source)
  pub flow : FlowAt t duty.command w.base w.row w.who (cell_of at source)
  pub reads : Contains (init_read_by (run_to t duty.command w.base) init w.row (spot - 1)) (cell_of at source)

-- The witness is of the obligation's command, target and right, and by it the obligation fails.
pub record FailsBy (t : Script) (duty : Duty) (w : Witness) : Type 0 where
  pub command : w.command ≡ duty.command
  pub target : w.target ≡ duty.target
  pub right : w.right ≡ duty.right
  pub fails : MatchOption duty.spot (IsGainOf t duty w) (IsLeakOf t duty w)
