-- Where an obligation that was reached has no clauses, all before it are cleared: what was found is an outcome of the check of the script.
use Rattle.std.proofs.Common.{◌≡◌, ℕ, zero, suc, ◌<◌, true, inl, inr, List, [], ◌∷◌, take, refl, sym, subst, append-nil, arith}
use Rattle.std.specs.Prelude.{Contains, None, Some, slice_get}
use Rattle.form_terms.proofs.Lists.{Contains-head, Contains-tail}
use Rattle.type_schema.specs.Script.{IsScript, Script}
use Rattle.form_formula.specs.NormalForm.{IsNormal, normal_form}
use Rattle.form_formula.specs.Over.{IsOver}
use Rattle.form_formula.specs.Truth.{IsEquallyTrue}
use Rattle.form_formula.specs.declared.structure.Signature.{Signature}
use Rattle.form_formula.proofs.NormalForms.{IsNormal-signed_form, truth-signed_form}
use Rattle.form_terms.specs.Passing.{IsSatisfiableOver}
use Rattle.decide_verdict.specs.Verdicts.{IsSafe}
use Rattle.decide_verdict.proofs.Judged.{shallow_safe, stratified_safe, untried}
use Rattle.duty_meaning.specs.Duties.{formula_of, obligations_of}
use Rattle.duty_meaning.specs.Over.{IsSignatureOf}
use Rattle.duty_meaning.specs.declared.duty.Duty.{Duty}
use Rattle.duty_meaning.proofs.Speaking.{over_and_closed}
use Rattle.check_scripts.specs.Outcomes.{IsCleared, IsOutcome, models_of_cycle, too_large, undecided}
use Rattle.certify_clauses.specs.Problem.{Problem}
use Rattle.certify_clauses.specs.Refuted.{IsRefuted}
use Rattle.certify_problem.specs.Grounded.{AreTermsOf, IsCyclic, IsProblemFor, IsTooLargeBy}
use Rattle.certify_problem.proofs.Assigned.{assigned}
use Rattle.certify_problem.proofs.FormulaLaws.{over_form}
use Rattle.certify_recheck.specs.Due.{AreDue, heading}
use Rattle.certify_recheck.specs.Lines.{lines_at}
use Rattle.certify_recheck.specs.declared.line.Line.{Line}
use Rattle.certify_scripts.specs.Certificates.{AreProblemsOf, parts_from}
use Rattle.certify_scripts.specs.Rechecked.{IsReached}
use Rattle.certify_scripts.proofs.Sound.{refuted}
use Rattle.app_certify.proofs.Lists.{Contains-at}

module _ (t : Script) (is : IsScript t) (g : Signature) (of : IsSignatureOf t.start g) where
  module _ (duty : Duty) (listed : Contains (obligations_of t) duty) where
    over : IsOver g [] (normal_form (formula_of t duty))
    over = over_form g true [] (formula_of t duty) (over_and_closed t is g of duty listed).0

    normal : IsNormal (normal_form (formula_of t duty))
    normal = IsNormal-signed_form true (formula_of t duty)

    same : IsEquallyTrue (normal_form (formula_of t duty)) (formula_of t duty)
    same s env = truth-signed_form s true env (formula_of t duty)

    -- an obligation whose clauses have no lawful assignment is cleared
    cleared : (c : Problem) → IsProblemFor g (formula_of t duty) (normal_form (formula_of t duty)) c → IsRefuted c → IsCleared t g duty
    cleared c h none = by h.terms_are
      where
        nowhere : IsSatisfiableOver g (normal_form (formula_of t duty)) (Contains h.terms) → ⊥
        nowhere sat = let (a, lawful) = assigned g (normal_form (formula_of t duty)) h.terms c over normal h.problem sat in none a lawful

        by : AreTermsOf g (formula_of t duty) (normal_form (formula_of t duty)) h.terms → IsSafe g (formula_of t duty) (normal_form (formula_of t duty))
        by (inl (stratified, within, lists)) = stratified_safe g (formula_of t duty) (normal_form (formula_of t duty)) over normal same stratified h.terms lists within nowhere
        by (inr (cyclic, within, lists)) = shallow_safe g (formula_of t duty) (normal_form (formula_of t duty)) over normal same cyclic h.terms lists within nowhere

  -- so is each of the first obligations, where the clauses of each have none
  each_cleared : (ds : List Duty) (cs : List Problem) (n : ℕ) → ((d : Duty) → Contains ds d → Contains (obligations_of t) d) → AreProblemsOf t g (take n ds) cs
      → ((c : Problem) → Contains cs c → IsRefuted c) → (k : ℕ) (before : Duty) → k < n → slice_get ds k ≡ Some before → IsCleared t g before
  each_cleared [] cs n listed are all k before lt at = absurd cc
  each_cleared (d ∷ ds) cs zero listed are all k before lt at = absurd (omega arith)
  each_cleared (d ∷ ds) [] (suc n) listed are all k before lt at = absurd are
  each_cleared (d ∷ ds) (c ∷ cs) (suc n) listed are all zero before lt at =
      let one : d ≡ before = cc in
      subst (λ (x : Duty). IsCleared t g x) one (cleared d (listed d (Contains-head d ds)) c are.0 (all c (Contains-head c cs)))
  each_cleared (d ∷ ds) (c ∷ cs) (suc n) listed are all (suc k) before lt at =
      each_cleared ds cs n (λ x there. listed x (Contains-tail d ds x there)) are.1 (λ x there. all x (Contains-tail c cs x there)) k before (omega arith) at

  -- the clauses of the parts that stand there have none
  parts_refuted : (ls : List Line) (n : ℕ) (cs : List Problem) → AreDue (heading ∷ parts_from 1 cs) ls n → (c : Problem) → Contains cs c → IsRefuted c
  parts_refuted [] n cs due c there = absurd due
  parts_refuted (l ∷ ls) zero cs due c there = absurd due
  parts_refuted (l ∷ ls) (suc n) cs due c there = refuted cs 1 [] ls n (subst (λ ds. AreDue ds ls n) (sym (append-nil (parts_from 1 cs))) due.1) c there

  module _ (text : List ℕ) (duty : Duty) (h : IsReached t g text duty) where
    before_cleared : (k : ℕ) (before : Duty) → k < h.place → slice_get (obligations_of t) k ≡ Some before → IsCleared t g before
    before_cleared k before lt at =
        each_cleared (obligations_of t) h.problems h.place (λ d there. there) h.are (parts_refuted (lines_at text 0) h.passes.count h.problems h.passes.met) k before lt at

    listed_too : Contains (obligations_of t) duty
    listed_too = Contains-at (obligations_of t) h.place duty h.at

    pub cyclic_outcome : (cycle : List ℕ) → IsCyclic g (formula_of t duty) (normal_form (formula_of t duty)) cycle → IsOutcome t (undecided duty (models_of_cycle t cycle))
    cyclic_outcome cycle c = record {
      signature = g;
      signature_of = of;
      over = record {
        duty = duty;
        due = record { place = h.place; at = h.at; cleared = before_cleared };
        unsettled = record {
          named = refl;
          sorts = cycle;
          tried = None;
          models = refl;
          unknown = untried g (formula_of t duty) (normal_form (formula_of t duty)) (over duty listed_too) (normal duty listed_too) (same duty listed_too) c.not_stratified cycle c.is_cycle c.over_limit;
        };
      };
    }

    pub large_outcome : (terms nodes : ℕ) → IsTooLargeBy g (formula_of t duty) (normal_form (formula_of t duty)) terms nodes → IsOutcome t (too_large duty terms nodes)
    large_outcome terms nodes c = record {
      signature = g;
      signature_of = of;
      over = record {
        duty = duty;
        due = record { place = h.place; at = h.at; cleared = before_cleared };
        unsettled = record {
          named = refl;
          counts = record { stratified = c.stratified; terms_are = c.terms_are; nodes_are = c.nodes_are; over_limit = c.over_limit };
        };
      };
    }
