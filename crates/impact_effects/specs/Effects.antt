-- What an effect says of its weakening.
use Rattle.std.specs.Prelude.{◌≡◌, All, List, map, Contains}
use Rattle.type_schema.specs.Script.{Script}
use Rattle.data_meaning.specs.Database.{IsInOrder}
use Rattle.form_formula.specs.declared.structure.Signature.{Signature}
use Rattle.duty_meaning.specs.declared.duty.Duty.{Duty}
use Rattle.duty_meaning.specs.Over.{IsSignatureOf}
use Rattle.check_report.specs.Views.{witness_data}
use Rattle.check_scripts.specs.Outcomes.{IsUndecided, IsTooLarge}
use Rattle.check_witness.specs.Witness.{Witness}
use Rattle.impact_effects.specs.declared.effect.Effect.{Effect}
use Rattle.impact_effects.specs.declared.effect.Shown.{Shown}
use Rattle.impact_effects.specs.declared.effect.Shown.TheVariants.{Example, Nothing, Undecided, TooLarge}
use Rattle.impact_meaning.specs.Undeclared.{undeclared, weakenings_of}
use Rattle.impact_meaning.specs.Weakened.{IsExampleOf}

module _ (t : Script) (g : Signature) (duty : Duty) where
  -- An example shows somebody whom the weakening newly allows the right; its database has the tables of the models in their order, as a
  -- text tells them.
  pub record ShowsExample (w : Witness) : Type 0 where
    pub example : IsExampleOf t duty w
    pub tables : IsInOrder t.start w.base

  -- there is no example
  abbrev pub ShowsNothing : Type 0
  ShowsNothing = (w : Witness) → IsExampleOf t duty w → ⊥

  -- what is shown of the weakening: the conditions of no decision are those on the obligation that it would be if it were not declared
  abbrev pub IsShown : Shown → Type 0
  IsShown (Example w) = ShowsExample (witness_data w)
  IsShown Nothing = ShowsNothing
  IsShown (Undecided cycle) = IsUndecided (undeclared t) g duty duty cycle
  IsShown (TooLarge terms nodes) = IsTooLarge (undeclared t) g duty duty terms nodes

-- the weakening is one of the script, and this is shown of it
abbrev pub IsEffect : Script → Signature → Effect → Type 0
IsEffect t g e = Contains (weakenings_of t) e.duty × IsShown t g e.duty e.shown

-- One effect for each weakening of the script, in order, over the signature of the schema of its start databases.
pub record AreEffects (t : Script) (effects : List Effect) : Type 0 where
  pub signature : Signature
  pub signature_of : IsSignatureOf t.start signature
  pub listed : map (λ (e : Effect). e.duty) effects ≡ weakenings_of t
  pub shown : All (IsEffect t signature) effects
