-- What an obligation comes to shows what its weakening newly allows.
use Rattle.std.proofs.Common.{◌≡◌, ℕ, zero, suc, ◌+◌, ◌<◌, ◌++◌, List, [], ◌∷◌, All, Contains, ap, arith, length, map, take, slice_index_or, sym, subst, ◌∙◌}
use Rattle.std.proofs.lemmas.List.{map-append}
use Rattle.std.proofs.lemmas.List.Elements.{All-append}
use Rattle.std.proofs.Math.Seq.{take-suc}
use Rattle.std.specs.Prelude.{Option, Some, None, MatchOption, Result, Ok, Err, IfOk}
use Rattle.type_schema.specs.Script.{Script, IsScript}
use Rattle.form_formula.specs.declared.structure.Signature.{Signature}
use Rattle.duty_meaning.specs.declared.duty.Duty.{Duty}
use Rattle.duty_meaning.specs.Duties.{obligations_of}
use Rattle.duty_meaning.specs.Over.{IsSignatureOf}
use Rattle.check_witness.specs.Witness.{Witness}
use Rattle.check_report.specs.declared.witness.Witness as code_witness
use Rattle.check_report.specs.Views.{witness_data}
use Rattle.check_scripts.specs.declared.outcome.Outcome as code
use Rattle.check_scripts.specs.declared.outcome.Outcome.TheVariants.{Leak}
use Rattle.check_scripts.specs.Outcomes.{IsCleared, IsLeak, IsUnsettled}
use Rattle.check_scripts.specs.Views.{outcome_data}
use Rattle.check_scripts.proofs.Sound.{cleared_do_not_fail}
use Rattle.impact_meaning.specs.Undeclared.{undeclared, weakenings_of}
use Rattle.impact_meaning.specs.Weakened.{IsExampleOf}
use Rattle.impact_meaning.proofs.AsUpdates.{undeclared_scripts}
use Rattle.impact_meaning.proofs.Weakenings.{fail_alike, of_undeclared}
use Rattle.impact_effects.specs.Effects.{AreEffects, IsEffect, ShowsExample, ShowsNothing}
use Rattle.impact_effects.specs.declared.effect.Effect.{Effect}

module _ (t : Script) (is : IsScript t) (g : Signature) (over : IsSignatureOf t.start g) (duty : Duty) (listed : Contains (weakenings_of t) duty) where
  pub shows_nothing : IsCleared (undeclared t) g duty → ShowsNothing t g duty
  shows_nothing cleared w example =
      cleared_do_not_fail (undeclared t) (undeclared_scripts t is) g over duty (of_undeclared t duty listed) cleared w
      ((fail_alike t is duty listed w).1 example)

  pub shows_example : (w : Witness) → IsLeak (undeclared t) g duty w → ShowsExample t g duty w
  shows_example w leak =
      record { example = (fail_alike t is duty listed w).0 leak.fails; tables = leak.tables }

-- ---- what an obligation comes to, by its form

pub of_none : {X : Type 0} (A : Type 0) (B : X → Type 0) (found : Option X) → found ≡ None → MatchOption found A B → A
of_none {X} A B found is h = subst (λ (o : Option X). MatchOption o A B) is h

pub of_leak : (t : Script) (g : Signature) (duty : Duty) (found : Option code.Outcome) (outcome : code.Outcome) (w : code_witness.Witness) → found ≡ Some outcome → outcome ≡ Leak w
    → MatchOption found (IsCleared (undeclared t) g duty) (λ o. IsUnsettled (undeclared t) g duty (outcome_data o)) → IsLeak (undeclared t) g duty (witness_data w)
of_leak t g duty found outcome w is leaks h =
    let some : IsUnsettled (undeclared t) g duty (outcome_data outcome)
    = subst (λ (o : Option code.Outcome). MatchOption o (IsCleared (undeclared t) g duty) (λ o. IsUnsettled (undeclared t) g duty (outcome_data o))) is h in
    subst (λ (o : code.Outcome). IsUnsettled (undeclared t) g duty (outcome_data o)) leaks some

-- ---- one effect more

pub one_more : (P : Effect → Type 0) (effects more : List Effect) (e : Effect) (duties : List Duty) (i : ℕ) (d : Duty) → i < length duties
    → e.duty ≡ slice_index_or duties i d → more ≡ effects ++ e ∷ [] → map (λ (x : Effect). x.duty) effects ≡ take i duties → All P effects → P e
    → (map (λ (x : Effect). x.duty) more ≡ take (i + 1) duties) × All P more
one_more P effects more e duties i d within at whole so_far all this =
    let duties_so : map (λ (x : Effect). x.duty) (effects ++ e ∷ []) ≡ take (i + 1) duties
    = map-append (λ (x : Effect). x.duty) effects (e ∷ []) ∙ ap (λ l. l ++ e.duty ∷ []) so_far ∙ ap (λ u. take i duties ++ u ∷ []) at ∙ sym (take-suc duties i d within)
    ∙ ap (λ n. take n duties) (let same : suc i ≡ i + 1 = omega arith in same) in
    let all_so : All P (effects ++ e ∷ []) = All-append P effects (e ∷ []) all (λ k d less. single k d less) in
    (ap (map (λ (x : Effect). x.duty)) whole ∙ duties_so, subst (All P) (sym whole) all_so)
  where
    single : (k : ℕ) (d : Effect) → k < length (e ∷ []) → P (slice_index_or (e ∷ []) k d)
    single zero d less = this
    single (suc k) d less = absurd (omega (arith, less))

-- ---- all effects

pub are_effects : (t : Script) (g : Signature) → IsSignatureOf t.start g → {X E : Type 0} (items : X → List Effect) (r : Result X E)
    → IfOk r (λ x. map (λ (e : Effect). e.duty) (items x) ≡ weakenings_of t) → IfOk r (λ x. All (IsEffect t g) (items x)) → IfOk r (λ x. AreEffects t (items x))
are_effects t g over items (Ok x) listed shown = record { signature = g; signature_of = over; listed = listed; shown = shown }
are_effects t g over items (Err e) listed shown = tt
