-- What is shown of weakenings is so.
use Rattle.std.proofs.Common.{List, All, Contains, map, refl, sym, subst, slice_index_or}
use Rattle.std.specs.Prelude.{◌↔◌, None}
use Rattle.type_schema.specs.Script.{Script, IsScript}
use Rattle.duty_meaning.specs.declared.duty.Duty.{Duty}
use Rattle.duty_meaning.specs.Over.{IsSignatureOf}
use Rattle.form_formula.specs.declared.structure.Signature.{Signature}
use Rattle.impact_effects.specs.Effects.{AreEffects, IsShown}
use Rattle.impact_effects.specs.declared.effect.Effect.{Effect}
use Rattle.impact_effects.specs.declared.effect.Shown.{Shown}
use Rattle.impact_effects.specs.declared.effect.Shown.TheVariants.{Example, Nothing, Undecided, TooLarge}
use Rattle.impact_meaning.specs.Listed.{IsWeakening}
use Rattle.impact_meaning.specs.Undeclared.{weakenings_of}
use Rattle.impact_meaning.proofs.Weakenings.{of_undeclared, weakenings_listed}
use Rattle.app_impact.specs.Headline.{IsTrueOf}

module _ (t : Script) (is : IsScript t) where
  module _ (g : Signature) (over : IsSignatureOf t.start g) where
    shown_true : (duty : Duty) → Contains (weakenings_of t) duty → (shown : Shown) → IsShown t g duty shown → IsTrueOf t duty shown
    shown_true duty listed (Example w) h = h.example
    shown_true duty listed Nothing h =
        λ d id q kind weak.
        h (record { command = duty.command; target = duty.target; right = duty.right; base = d; row = id; who = q; cell = None })
        (record { command = refl; target = refl; right = refl; kind = kind; weak = weak; no_cell = refl })
    shown_true duty listed (Undecided cycle) h =
        λ decidable. h.unknown.not_stratified (decidable g over duty (of_undeclared t duty listed)).0
    shown_true duty listed (TooLarge terms nodes) h =
        λ decidable. (decidable g over duty (of_undeclared t duty listed)).1 h.counts.over_limit

  -- just the weakenings are told, and each truly
  pub told_true : (effects : List Effect) (are : AreEffects t effects) → All (λ e. IsTrueOf t e.duty e.shown) effects
  told_true effects are k d less =
      let one = are.shown k d less in
      let e = slice_index_or effects k d in
      shown_true are.signature are.signature_of e.duty one.0 e.shown one.1

  pub told_all : (effects : List Effect) (are : AreEffects t effects) (duty : Duty) → Contains (map (λ (e : Effect). e.duty) effects) duty ↔ IsWeakening t duty
  told_all effects are duty = subst (λ ds. Contains ds duty ↔ IsWeakening t duty) (sym are.listed) (weakenings_listed t is duty)
