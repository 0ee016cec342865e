-- The structure comes back, and the database is over the schema.
use Rattle.std.specs.Prelude.{◌≡◌, ◌≤◌, ◌<◌, ℕ, List, [], ◌∷◌, nat_eq, ◌⊎◌}
use Rattle.std.specs.List.{AllByRecursion, IsDistinct}
use Rattle.type_schema.specs.Schema.{ModelInfo, Schema}
use Rattle.type_schema.specs.Proper.{field_numbers, model_numbers}
use Rattle.type_schema.specs.Script.{Script, IsScript}
use Rattle.data_meaning.specs.Values.{last_id}
use Rattle.data_meaning.specs.Database.{IsDatabase, HasNoFurtherTables}
use Rattle.data_meaning.specs.Gain.{IsStart}
use Rattle.form_formula.specs.declared.structure.Signature.{Signature}
use Rattle.form_formula.specs.declared.structure.Structure.{Structure}
use Rattle.form_formula.specs.Trees.{Formula}
use Rattle.form_formula.specs.Truth.{truth}
use Rattle.form_terms.specs.Structures.{IsStructure}
use Rattle.duty_meaning.specs.Structures.{structure_of}
use Rattle.duty_meaning.specs.Over.{IsSignatureOf}
use Rattle.check_witness.specs.Built.{built}

-- Models are known by their numbers, and the fields of one by theirs; the structure is over the signature of the schema.
pub record IsBuildable (s : Schema) (g : Signature) (st : Structure) : Type 0 where
  pub models : IsDistinct nat_eq (model_numbers s.models)
  pub fields : AllByRecursion (λ (m : ModelInfo). IsDistinct nat_eq (field_numbers m.fields)) s.models
  pub signature : IsSignatureOf s g
  pub structure : IsStructure g st

-- there are ids for the elements of each sort
abbrev pub HasIds : Structure → Type 0
HasIds st = AllByRecursion (λ n. n ≤ last_id) st.sizes

-- a pair stands before another by its first element, or by its second where the first is the same
abbrev pub IsBefore : ℕ × ℕ → ℕ × ℕ → Type 0
IsBefore p q = (p.0 < q.0) ⊎ ((p.0 ≡ q.0) × (p.1 < q.1))

-- the pairs of a set relation rise, so none is repeated
abbrev pub IsRising : List (ℕ × ℕ) → Type 0
IsRising [] = Unit {0}
IsRising (p ∷ pairs) = AllByRecursion (IsBefore p) pairs × IsRising pairs

abbrev pub StructuresComeBack : Type 0
StructuresComeBack =
    (s : Schema) (g : Signature) (st : Structure) → IsBuildable s g st → AllByRecursion IsRising st.sets → structure_of s (built s st) ≡ st

abbrev pub BuiltDatabasesTellTheTruth : Type 0
BuiltDatabasesTellTheTruth =
    (s : Schema) (g : Signature) (st : Structure) → IsBuildable s g st → (env : List ℕ) (f : Formula)
    → truth (structure_of s (built s st)) env f ≡ truth st env f

-- A start database of a script is one over this schema, with no further tables.
abbrev pub BuiltDatabasesStart : Type 0
BuiltDatabasesStart =
    (s : Schema) (g : Signature) (st : Structure) → IsBuildable s g st → HasIds st
    → IsDatabase s (built s st) × HasNoFurtherTables s (built s st) × ((t : Script) → t.start ≡ s → IsStart t (built s st))

-- The schema of a script's start databases meets what is asked of a schema.
abbrev pub ScriptsAreBuildable : Type 0
ScriptsAreBuildable =
    (t : Script) → IsScript t → (g : Signature) → IsSignatureOf t.start g → (st : Structure) → IsStructure g st → IsBuildable t.start g st
