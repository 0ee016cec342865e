-- What weakenings have to do with the obligations of the script that declares nothing.
use Rattle.std.specs.Prelude.{◌↔◌, Contains}
use Rattle.type_schema.specs.Script.{Script, IsScript}
use Rattle.duty_meaning.specs.declared.duty.Duty.{Duty}
use Rattle.check_scripts.specs.FailsBy.{FailsBy}
use Rattle.check_witness.specs.Witness.{Witness}
use Rattle.impact_meaning.specs.Listed.{IsWeakening}
use Rattle.impact_meaning.specs.Undeclared.{undeclared, weakenings_of}
use Rattle.impact_meaning.specs.Weakened.{IsExampleOf}

-- A script that declares nothing is a script, with the same start databases.
abbrev pub UndeclaredAreScripts : Type 0
UndeclaredAreScripts = (t : Script) → IsScript t → IsScript (undeclared t)

-- The list has just the weakenings: for each command and each kind at it, each right that the command weakens.
abbrev pub WeakeningsAreListed : Type 0
WeakeningsAreListed = (t : Script) → IsScript t → (duty : Duty) → Contains (weakenings_of t) duty ↔ IsWeakening t duty

-- A witness shows what a weakening newly allows exactly where the obligation would fail by it if nothing were declared.
abbrev pub WeakeningsFailAlike : Type 0
WeakeningsFailAlike =
    (t : Script) → IsScript t → (duty : Duty) → Contains (weakenings_of t) duty → (w : Witness) → FailsBy (undeclared t) duty w ↔ IsExampleOf t duty w
