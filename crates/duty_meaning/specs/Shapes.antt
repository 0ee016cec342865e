-- The structure of a start database is a structure over the signature of the schema, so formulas that no such structure satisfies make a script secure.
use Rattle.std.specs.Prelude.{◌≡◌, false, [], Contains}
use Rattle.type_schema.specs.Script.{Script, IsScript}
use Rattle.data_meaning.specs.Database.{Database}
use Rattle.data_meaning.specs.Gain.{IsStart}
use Rattle.data_meaning.specs.Secure.{IsStepSecure}
use Rattle.form_formula.specs.declared.structure.Signature.{Signature}
use Rattle.form_formula.specs.declared.structure.Structure.{Structure}
use Rattle.form_formula.specs.Truth.{truth}
use Rattle.form_terms.specs.Structures.{IsStructure}
use Rattle.duty_meaning.specs.declared.duty.Duty.{Duty}
use Rattle.duty_meaning.specs.Structures.{structure_of}
use Rattle.duty_meaning.specs.Duties.{obligations_of, formula_of}
use Rattle.duty_meaning.specs.Over.{IsSignatureOf}

abbrev pub StructuresAreOver : Type 0
StructuresAreOver = (t : Script) → IsScript t → (g : Signature) → IsSignatureOf t.start g → (d : Database) → IsStart t d → IsStructure g (structure_of t.start d)

-- no formula of an obligation is true on a structure over the signature
abbrev pub NoneHolds : Script → Signature → Type 0
NoneHolds t g = (duty : Duty) → Contains (obligations_of t) duty → (s : Structure) → IsStructure g s → truth s [] (formula_of t duty) ≡ false

-- Then no command of the script gains anybody a right that it updates, and no added field leaks.
abbrev pub UnsatisfiedSecure : Type 0
UnsatisfiedSecure = (t : Script) → IsScript t → (g : Signature) → IsSignatureOf t.start g → NoneHolds t g → IsStepSecure t
