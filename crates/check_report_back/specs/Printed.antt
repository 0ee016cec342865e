-- Printed witnesses are read back.
use Rattle.std.specs.Prelude.{◌≡◌, ◌-◌, ℕ, ◌==◌, is_some, Contains, List, Option, None, Some, IsTrue}
use Rattle.std.specs.List.{find}
use Rattle.type_schema.specs.Trees.{Init}
use Rattle.type_schema.specs.Schema.{StaticInfo, FieldInfo, model_of_target}
use Rattle.type_schema.specs.Uses.{Use}
use Rattle.type_schema.specs.Commands.{HasField}
use Rattle.type_schema.specs.Script.{Script, schema_at, IsScript}
use Rattle.data_meaning.specs.declared.principals.Principal.{Principal}
use Rattle.data_meaning.specs.declared.principals.Principal.TheVariants.{Static, Rec}
use Rattle.data_meaning.specs.Database.{Database, has_record, IsInOrder}
use Rattle.data_meaning.specs.declared.cells.Cell.{Cell}
use Rattle.data_meaning.specs.Gain.{has_target, GainAt, FlowAt}
use Rattle.data_meaning.specs.Run.{run_to}
use Rattle.duty_meaning.specs.declared.duty.Duty.{Duty}
use Rattle.duty_meaning.specs.Reads.{init_read_by}
use Rattle.duty_meaning.specs.Flows.{cell_of, IsFlowDuty}
use Rattle.data_back.specs.Printed.{IsStandard}
use Rattle.check_witness.specs.Printed.{witness_text}
use Rattle.check_witness.specs.Witness.{Witness}
use Rattle.check_report_back.specs.Told.{statics_in, HasNames, IsWitnessOf}
use Rattle.check_report_back.specs.Scripts.{IsCommandOf}

-- a static of the script, or a record of the database
abbrev pub IsPrincipalOn : Script → Database → Principal → Type 0
IsPrincipalOn t d (Static n) = IsTrue (is_some (find (λ (info : StaticInfo). info.number == n) (statics_in t)))
IsPrincipalOn t d (Rec m id) = IsTrue (has_record d m id)

-- if there is a cell, its field is there after k commands, and its record is in the database
abbrev pub IsCellOn : Script → ℕ → Database → Option Cell → Type 0
IsCellOn t k d None = Unit {0}
IsCellOn t k d (Some cell) = HasField (schema_at t k) cell.model cell.field × IsTrue (has_record d cell.model cell.id)

-- A witness on a start database of the script: the command is one of it, the target and the cell's field are there after the command, and
-- the records are in the database.
pub record IsWitnessOn (t : Script) (w : Witness) : Type 0 where
  pub command : IsCommandOf t w.command
  pub target : IsTrue (has_target (schema_at t w.command) w.target)
  pub base : IsStandard t.start w.base
  pub row : IsTrue (has_record w.base (model_of_target w.target) w.row)
  pub who : IsPrincipalOn t w.base w.who
  pub cell : IsCellOn t w.command w.base w.cell

-- what is read of bytes: the witness whose printed text they are, and nothing where they are the text of none
abbrev pub IsReadBack : Script → List ℕ → Option Witness → Type 0
IsReadBack t text None = (w : Witness) → IsWitnessOn t w → witness_text t w ≡ text → ⊥
IsReadBack t text (Some w) = IsWitnessOn t w × (witness_text t w ≡ text)

-- A gain by the command of a witness without a cell, on a database with the tables of the models in their order, makes it one of the script.
abbrev pub GainsAreWitnesses : Type 0
GainsAreWitnesses =
    (t : Script) → IsScript t → (w : Witness) → IsInOrder t.start w.base → w.cell ≡ None → GainAt t w.command w.target w.right w.base w.row w.who → IsWitnessOn t w

-- So does a leak by the use of an obligation, with the cell that is read.
abbrev pub LeaksAreWitnesses : Type 0
LeaksAreWitnesses =
    (t : Script) → IsScript t → (duty : Duty) (spot m : ℕ) (f : FieldInfo) (init : Init) (at : Use) → IsFlowDuty t duty spot m f init at
    → (w : Witness) → IsInOrder t.start w.base → w.command ≡ duty.command → w.target ≡ duty.target → (source : ℕ) → w.cell ≡ Some (cell_of at source)
    → FlowAt t duty.command w.base w.row w.who (cell_of at source)
    → Contains (init_read_by (run_to t duty.command w.base) init w.row (spot - 1)) (cell_of at source) → IsWitnessOn t w

-- What is read of the text of a witness is that witness. It is a witness of the script, in the sense in which a text tells it. Gains and
-- leaks are among them.
pub record WitnessesComeBack : Type 0 where
  pub back : (t : Script) → IsScript t → HasNames t → (w : Witness) → IsWitnessOn t w → (o : Option Witness) → IsReadBack t (witness_text t w) o → o ≡ Some w
  pub told : (t : Script) → IsScript t → (w : Witness) → IsWitnessOn t w → IsWitnessOf t w
  pub gains : GainsAreWitnesses
  pub leaks : LeaksAreWitnesses
