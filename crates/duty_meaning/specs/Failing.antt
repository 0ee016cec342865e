-- Scripts none of whose obligations fails.
use Rattle.std.specs.Prelude.{◌≡◌, ◌↔◌, false, [], Contains}
use Rattle.type_schema.specs.Script.{Script, IsScript}
use Rattle.data_meaning.specs.Database.{Database}
use Rattle.data_meaning.specs.Gain.{IsStart}
use Rattle.data_meaning.specs.Secure.{IsStepSecure}
use Rattle.form_formula.specs.Truth.{truth}
use Rattle.duty_meaning.specs.declared.duty.Duty.{Duty}
use Rattle.duty_meaning.specs.Structures.{structure_of}
use Rattle.duty_meaning.specs.Duties.{obligations_of, formula_of}

-- no formula of an obligation is true on a start database
abbrev pub NoneFails : Script → Type 0
NoneFails t =
    (duty : Duty) → Contains (obligations_of t) duty → (d : Database) → IsStart t d → truth (structure_of t.start d) [] (formula_of t duty) ≡ false

-- That is so exactly where no command of the script gains anybody a right that it updates, and no added field leaks.
abbrev pub FalseFormulasSecure : Type 0
FalseFormulasSecure = (t : Script) → IsScript t → NoneFails t ↔ IsStepSecure t
