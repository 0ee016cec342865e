-- The text of a witness of a script tells it.
use Rattle.std.specs.Prelude.{◌≡◌, ◌≤◌, ℕ, ◌==◌, is_some, List, ◌++◌, Option, None, Some, IsTrue}
use Rattle.std.specs.List.{find, flat_map, AllByRecursion}
use Rattle.text_ast.specs.Words.{IsName}
use Rattle.type_schema.specs.declared.rights.Target.{Target}
use Rattle.type_schema.specs.declared.rights.Target.TheVariants as on
use Rattle.type_schema.specs.Schema.{StaticInfo, FieldInfo, ModelInfo, Schema, field_of}
use Rattle.type_schema.specs.Typing.{HasModel}
use Rattle.type_schema.specs.Commands.{HasField}
use Rattle.type_schema.specs.Script.{Script, schema_at, count, IsScript}
use Rattle.data_meaning.specs.declared.principals.Principal.{Principal}
use Rattle.data_meaning.specs.declared.principals.Principal.TheVariants.{Static, Rec}
use Rattle.data_meaning.specs.Values.{IsId}
use Rattle.data_meaning.specs.Database.{IsDatabase, IsInOrder}
use Rattle.data_meaning.specs.declared.cells.Cell.{Cell}
use Rattle.form_formula.specs.declared.structure.Structure.{Structure}
use Rattle.check_witness.specs.Built.{built}
use Rattle.check_witness.specs.Printed.{statics_by, witness_text}
use Rattle.check_witness.specs.Witness.{Witness}

-- the statics that are there at first, and those that commands add
abbrev pub statics_in : Script → List StaticInfo
statics_in t = t.start.statics ++ flat_map statics_by t.commands

-- Names are names: letters, digits and `_`. Those of the code always are.
pub record HasNames (t : Script) : Type 0 where
  pub models : AllByRecursion (λ (m : ModelInfo). IsName m.name) t.start.models
  pub statics : AllByRecursion (λ (n : StaticInfo). IsName n.name) (statics_in t)
  pub fields : (k m f : ℕ) (info : FieldInfo) → field_of (schema_at t k) m f ≡ Some info → IsName info.name

-- the target is there after k commands
abbrev pub IsTargetAt : Script → ℕ → Target → Type 0
IsTargetAt t k (on.Field m f) = HasModel t.start m × HasField (schema_at t k) m f
IsTargetAt t k (on.Model m) = HasModel t.start m

-- a static of the script, or a record of a model of start databases
abbrev pub IsPrincipalIn : Script → Principal → Type 0
IsPrincipalIn t (Static n) = IsTrue (is_some (find (λ (info : StaticInfo). info.number == n) (statics_in t)))
IsPrincipalIn t (Rec m id) = HasModel t.start m × IsId id

abbrev pub IsCellAt : Script → ℕ → Option Cell → Type 0
IsCellAt t k None = Unit {0}
IsCellAt t k (Some cell) = HasModel t.start cell.model × HasField (schema_at t k) cell.model cell.field × IsId cell.id

-- what the parts of a witness name is there, and the tables of its database stand in the order of the models
pub record IsWitnessOf (t : Script) (w : Witness) : Type 0 where
  pub command : w.command ≤ count t
  pub target : IsTargetAt t w.command w.target
  pub base : IsDatabase t.start w.base
  pub order : IsInOrder t.start w.base
  pub row : IsId w.row
  pub who : IsPrincipalIn t w.who
  pub cell : IsCellAt t w.command w.cell

-- two witnesses of a script have one text only if they are one
abbrev pub WitnessTextsTell : Type 0
WitnessTextsTell =
    (t : Script) → IsScript t → HasNames t → (w v : Witness) → IsWitnessOf t w → IsWitnessOf t v → witness_text t w ≡ witness_text t v → w ≡ v

-- the database of a structure has the tables of the schema's models, in their order
abbrev pub BuiltStandInOrder : Type 0
BuiltStandInOrder = (s : Schema) (st : Structure) → IsInOrder s (built s st)
