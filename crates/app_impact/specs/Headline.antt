-- What the end of `impact` says of the script in the files.
use Rattle.std.specs.Prelude.{◌≡◌, ◌↔◌, ◌⊎◌, All, Contains, ℕ, List, Option, Some, IfSome, Ok, map}
use Rattle.app_flow.specs.Files.{Files}
use Rattle.app_flow.specs.Told.{Appends}
use Rattle.type_schema.specs.Script.{Script}
use Rattle.data_meaning.specs.Database.{Database}
use Rattle.data_meaning.specs.Gain.{kind_of}
use Rattle.data_meaning.specs.declared.principals.Principal.{Principal}
use Rattle.duty_meaning.specs.declared.duty.Duty.{Duty}
use Rattle.check_report.specs.Views.{witness_data}
use Rattle.check_scripts.specs.Sound.{IsDecidable}
use Rattle.impact_effects.specs.Effects.{AreEffects}
use Rattle.impact_effects.specs.declared.effect.Effect.{Effect}
use Rattle.impact_effects.specs.declared.effect.Shown.{Shown}
use Rattle.impact_effects.specs.declared.effect.Shown.TheVariants.{Example, Nothing, Undecided, TooLarge}
use Rattle.impact_meaning.specs.Listed.{IsWeakening}
use Rattle.impact_meaning.specs.Undeclared.{undeclared}
use Rattle.impact_meaning.specs.Weakened.{IsExampleOf, WeakAt}
use Rattle.app_files.specs.Answer.{Asks, both_files}
use Rattle.app_files.specs.Words.{Names}
use Rattle.app_files.specs.declared.status.Status.{Status}
use Rattle.app_files.specs.declared.status.Status.TheVariants.{Done, ReadFault, WriteFault, OutOfMemory}
use Rattle.app_impact.specs.Report.{impact_text}

-- On no start database, of any size, is there a record and a principal of the weakening's kind to whom its command newly allows the right on the record.
abbrev pub AllowsNobody : Script → Duty → Type 0
AllowsNobody t duty =
    (d : Database) (id : ℕ) (q : Principal) → kind_of q ≡ duty.kind → WeakAt t duty.command duty.target duty.right d id q → ⊥

-- What is shown of a weakening is so: the example is a start database, a record and a principal of the kind to whom the command newly allows the right; nothing is shown only where there is none. It is one of these two
-- where the formulas of the script that declares nothing are stratified and within the limits.
abbrev pub IsTrueOf : Script → Duty → Shown → Type 0
IsTrueOf t duty (Example w) = IsExampleOf t duty (witness_data w)
IsTrueOf t duty Nothing = AllowsNobody t duty
IsTrueOf t duty (Undecided cycle) = IsDecidable (undeclared t) → ⊥
IsTrueOf t duty (TooLarge terms nodes) = IsDecidable (undeclared t) → ⊥

-- The files ask for a script; of each of its weakenings, and of nothing else, it is told in order what it newly allows, and this is so.
pub record IsTold (told : Option Files) (names : Names) (before after : Option (List ℕ)) : Type 0 where
  pub script : Script
  pub asks : Asks told names (both_files names) (Ok script)
  pub effects : List Effect
  pub effects_of : AreEffects script effects
  pub weakenings : (duty : Duty) → Contains (map (λ (e : Effect). e.duty) effects) duty ↔ IsWeakening script duty
  pub true_of : All (λ e. IsTrueOf script e.duty e.shown) effects
  pub put : Appends before after (impact_text script effects)

-- a fault of an outside object or want of memory ended the run
abbrev pub IsFaulty : Status → Type 0
IsFaulty status = (status ≡ ReadFault) ⊎ (status ≡ WriteFault) ⊎ (status ≡ OutOfMemory)

-- `impact SPEC SCRIPT`. Where it is done, each declared weakening is told with what it newly allows. Where files that are told ask for a script, it is done, but for a fault or want of memory.
pub record ImpactHeadline (told : Option Files) (names : Names) (before after : Option (List ℕ)) (status : Status) : Type 0 where
  pub done : status ≡ Done → IsTold told names before after
  pub decided : IfSome told (λ files. (t : Script) → Asks (Some files) names (both_files names) (Ok t) → (status ≡ Done) ⊎ IsFaulty status)
