-- All outcomes of a script say the same of how it stands.
use Rattle.std.proofs.Common.{◌≡◌, ℕ, ◌<◌, Bool, true, false, List, [], ◌⊎◌, inl, inr, refl, ap, sym, ◌∙◌, subst, arith}
use Rattle.std.specs.Prelude.{Option, Some, None, IfSome, slice_get, Contains, IsTrue}
use Rattle.std.proofs.Math.Bool.{Bool-set}
use Rattle.std.proofs.Math.Dec.{ltb}
use Rattle.std.proofs.lemmas.Bool.{ltb-true, ltb-false}
use Rattle.type_schema.specs.Schema.{Schema}
use Rattle.type_schema.specs.Script.{Script, IsScript}
use Rattle.form_formula.specs.declared.structure.Signature.{Signature}
use Rattle.form_formula.specs.declared.structure.FunSig.{FunSig}
use Rattle.form_formula.specs.declared.structure.SetSig.{SetSig}
use Rattle.form_formula.specs.Signature.{is_signature}
use Rattle.form_formula.specs.declared.structure.Structure.{Structure}
use Rattle.form_formula.specs.NormalForm.{normal_form}
use Rattle.form_formula.specs.Trees.{Formula}
use Rattle.decide_verdict.specs.Verdicts.{IsSafe, IsUnknown, IsTried, IsTooLargeBy}
use Rattle.duty_meaning.specs.declared.duty.Duty.{Duty}
use Rattle.duty_meaning.specs.Duties.{obligations_of, formula_of}
use Rattle.duty_meaning.specs.Over.{IsSignatureOf}
use Rattle.check_witness.specs.Witness.{Witness}
use Rattle.check_scripts.specs.Agree.{standing, OutcomesAgree}
use Rattle.check_scripts.specs.Outcomes.{Outcome, accepted, leak, undecided, too_large, IsCleared, IsDue, IsFirst, IsLeak, IsUndecided, IsTooLarge, IsUnsettled, IsOutcomeOver, IsOutcome}
use Rattle.check_scripts.proofs.Sound.{cleared_do_not_fail, due-listed}

three : (j k : ℕ) → (j < k) ⊎ (k < j) ⊎ (j ≡ k)
three j k =
    elim (ltb j k) as (λ (b : Bool). ltb j k ≡ b → (j < k) ⊎ (k < j) ⊎ (j ≡ k)) [
      | true ↦ λ e. inl (ltb-true j k e)
      | false ↦ λ e.
          elim (ltb k j) as (λ (b : Bool). ltb k j ≡ b → (j < k) ⊎ (k < j) ⊎ (j ≡ k)) [
            | true ↦ λ d. inr (inl (ltb-true k j d))
            | false ↦ λ d. let above = ltb-false j k e in let below = ltb-false k j d in inr (inr (omega (arith, above, below)))
          ] refl
    ] refl

true-prop : (b : Bool) (x y : IsTrue b) → x ≡ y
true-prop b x y = Bool-set b true x y

abbrev parts : (sorts : ℕ) (funs : List FunSig) (sets : List SetSig) → IsTrue (is_signature sorts funs sets) → Signature
parts sorts funs sets fits = record { sorts = sorts; funs = funs; sets = sets; fits = fits }

by-parts : (a b : ℕ) → a ≡ b → (fs gs : List FunSig) → fs ≡ gs → (ss ts : List SetSig) → ss ≡ ts
    → (x : IsTrue (is_signature a fs ss)) (y : IsTrue (is_signature b gs ts)) → parts a fs ss x ≡ parts b gs ts y
by-parts a b e fs gs f ss ts k x =
    subst (λ (c : ℕ). (y : IsTrue (is_signature c gs ts)) → parts a fs ss x ≡ parts c gs ts y) e
    (subst (λ (hs : List FunSig). (y : IsTrue (is_signature a hs ts)) → parts a fs ss x ≡ parts a hs ts y) f
    (subst (λ (us : List SetSig). (y : IsTrue (is_signature a fs us)) → parts a fs ss x ≡ parts a fs us y) k
    (λ y. ap (parts a fs ss) (true-prop (is_signature a fs ss) x y))))

pub one-signature : (s : Schema) (g h : Signature) → IsSignatureOf s g → IsSignatureOf s h → g ≡ h
one-signature s g h p q = by-parts g.sorts h.sorts (p.sorts ∙ sym q.sorts) g.funs h.funs (p.functions ∙ sym q.functions) g.sets h.sets (p.relations ∙ sym q.relations) g.fits h.fits

-- a formula is not both cleared and open, nor cleared and too large
not-open : (g : Signature) (f form : Formula) (cycle : List ℕ) (tried : Option Structure) → IsSafe g f form → IsUnknown g f form cycle tried → ⊥
not-open g f form cycle None safe h = safe.shallow_within h.not_stratified (h.untried.0 refl)
not-open g f form cycle (Some s) safe h = safe.passes_nowhere h.not_stratified (s, h.is_tried.structure, h.is_tried.passes)

not-large : (g : Signature) (f form : Formula) (terms nodes : ℕ) → IsSafe g f form → IsTooLargeBy g f form terms nodes → ⊥
not-large g f form terms nodes safe h = safe.within h.stratified h.over_limit

module _ (t : Script) (is : IsScript t) (g : Signature) (of : IsSignatureOf t.start g) where
  -- what is cleared comes to nothing
  settled : (duty : Duty) → Contains (obligations_of t) duty → IsCleared t g duty → (a : Outcome) → IsUnsettled t g duty a → ⊥
  settled duty listed cleared (accepted n) h = h
  settled duty listed cleared (leak w) h = cleared_do_not_fail t is g of duty listed cleared w h.fails
  settled duty listed cleared (undecided d cycle) h = not-open g (formula_of t duty) (normal_form (formula_of t duty)) h.sorts h.tried cleared h.unknown
  settled duty listed cleared (too_large d terms nodes) h = not-large g (formula_of t duty) (normal_form (formula_of t duty)) terms nodes cleared h.counts

  accepted-none : (n : ℕ) (a : Outcome) → IsOutcomeOver t g (accepted n) → IsFirst t g a → ⊥
  accepted-none n a p q = let listed = due-listed t g q.duty q.due in settled q.duty listed (p.1 q.duty listed) a q.unsettled

  -- two outcomes are of one obligation
  same-duty : (a b : Outcome) → (p : IsFirst t g a) → (q : IsFirst t g b) → p.duty ≡ q.duty
  same-duty a b p q =
      elim (three p.due.place q.due.place) [
        | inl less ↦ absurd (settled p.duty (due-listed t g p.duty p.due) (q.due.cleared p.due.place p.duty less p.due.at) a p.unsettled)
        | inr rest ↦ elim rest [
          | inl more ↦ absurd (settled q.duty (due-listed t g q.duty q.due) (p.due.cleared q.due.place q.duty more q.due.at) b q.unsettled)
          | inr same ↦
              let one : Some p.duty ≡ Some q.duty = sym p.due.at ∙ ap (slice_get (obligations_of t)) same ∙ q.due.at in
              let equal : p.duty ≡ q.duty = cc in equal
        ]
      ]

  leak-large : (w : Witness) (d : Duty) (terms nodes : ℕ) → IsFirst t g (leak w) → IsFirst t g (too_large d terms nodes) → ⊥
  leak-large w d terms nodes p q =
      let same = same-duty (leak w) (too_large d terms nodes) p q in
      let counts = subst (λ (x : Duty). IsTooLarge t g x d terms nodes) (sym same) q.unsettled in
      p.unsettled.within counts.counts.stratified counts.counts.over_limit

  open-large : (e : Duty) (cycle : List ℕ) (d : Duty) (terms nodes : ℕ) → IsFirst t g (undecided e cycle) → IsFirst t g (too_large d terms nodes) → ⊥
  open-large e cycle d terms nodes p q =
      let same = same-duty (undecided e cycle) (too_large d terms nodes) p q in
      let counts = subst (λ (x : Duty). IsTooLarge t g x d terms nodes) (sym same) q.unsettled in
      p.unsettled.unknown.not_stratified counts.counts.stratified

  agree : (a b : Outcome) → IsOutcomeOver t g a → IsOutcomeOver t g b → standing a ≡ standing b
  agree (accepted m) (accepted n) p q = refl
  agree (accepted m) (leak w) p q = absurd (accepted-none m (leak w) p q)
  agree (accepted m) (undecided d cycle) p q = absurd (accepted-none m (undecided d cycle) p q)
  agree (accepted m) (too_large d terms nodes) p q = absurd (accepted-none m (too_large d terms nodes) p q)
  agree (leak w) (accepted n) p q = absurd (accepted-none n (leak w) q p)
  agree (leak w) (leak v) p q = refl
  agree (leak w) (undecided d cycle) p q = refl
  agree (leak w) (too_large d terms nodes) p q = absurd (leak-large w d terms nodes p q)
  agree (undecided d cycle) (accepted n) p q = absurd (accepted-none n (undecided d cycle) q p)
  agree (undecided d cycle) (leak v) p q = refl
  agree (undecided d cycle) (undecided e other) p q = refl
  agree (undecided d cycle) (too_large e terms nodes) p q = absurd (open-large d cycle e terms nodes p q)
  agree (too_large d terms nodes) (accepted n) p q = absurd (accepted-none n (too_large d terms nodes) q p)
  agree (too_large d terms nodes) (leak v) p q = absurd (leak-large v d terms nodes q p)
  agree (too_large d terms nodes) (undecided e cycle) p q = absurd (open-large e cycle d terms nodes q p)
  agree (too_large d terms nodes) (too_large e some many) p q = refl

pub outcomes_agree : OutcomesAgree
outcomes_agree t is a b p q =
    let same : q.signature ≡ p.signature = one-signature t.start q.signature p.signature q.signature_of p.signature_of in
    agree t is p.signature p.signature_of a b p.over (subst (λ (g : Signature). IsOutcomeOver t g b) same q.over)
