-- What a certificate shows: the lines of each part are those of a lawful tree, which refutes the clauses of its obligation.
use Rattle.std.proofs.Common.{◌≡◌, ℕ, zero, suc, ◌+◌, ◌-◌, false, List, [], ◌∷◌, ◌++◌, drop, inl, inr, sym, subst, arith, append_assoc}
use Rattle.std.specs.Prelude.{Contains}
use Rattle.std.proofs.lemmas.Bool.{false_from_ne_true}
use Rattle.form_terms.proofs.Lists.{Contains-cons_cases, Contains-head, Contains-none, Contains-tail}
use Rattle.type_schema.specs.Script.{IsScript, Script}
use Rattle.data_meaning.specs.Secure.{IsStepSecure}
use Rattle.data_meaning.proofs.Steps.{whole}
use Rattle.form_formula.specs.Truth.{truth}
use Rattle.form_formula.specs.declared.structure.Signature.{Signature}
use Rattle.form_formula.specs.declared.structure.Structure.{Structure}
use Rattle.form_terms.specs.Structures.{IsStructure}
use Rattle.duty_meaning.specs.Duties.{formula_of, obligations_of}
use Rattle.duty_meaning.specs.Structures.{structure_of}
use Rattle.duty_meaning.specs.declared.duty.Duty.{Duty}
use Rattle.duty_meaning.proofs.Shapes.{structures_are_over, unsatisfied_secure}
use Rattle.certify_clauses.specs.Problem.{Problem}
use Rattle.certify_clauses.proofs.Refuting.{trees_refute}
use Rattle.certify_clauses.specs.Refuted.{IsRefuted}
use Rattle.certify_recheck.specs.Due.{AreDue, Due, ending, heading, left_of, part}
use Rattle.certify_recheck.specs.Lines.{lines_at}
use Rattle.certify_recheck.specs.declared.line.Line.{Line}
use Rattle.certify_recheck.proofs.Growing.{parts}
use Rattle.certify_scripts.specs.Certificates.{AreProblemsOf, parts_from}
use Rattle.certify_scripts.specs.Rechecked.{IsRechecked}
use Rattle.certify_scripts.specs.Sound.{CertifiedAreSecure, Shows}
use Rattle.certify_scripts.specs.declared.rechecked.Rechecked.{Rechecked}
use Rattle.certify_scripts.specs.declared.rechecked.Rechecked.TheVariants.{Certified, BadLine, Cyclic, TooLarge}

-- the first lines are what is due first, and the others what is due behind it
pub record IsSplit (xs ys : List Due) (ls : List Line) (n : ℕ) : Type 0 where
  pub count : ℕ
  pub first : AreDue xs ls count
  pub others : AreDue ys (drop count ls) (n - count)

split : (xs ys : List Due) (ls : List Line) (n : ℕ) → AreDue (xs ++ ys) ls n → IsSplit xs ys ls n
split [] ys ls n h = record { count = 0; first = nothing ls; others = subst (λ k. AreDue ys ls k) (sym (less n)) h }
  where
    nothing : (ls : List Line) → AreDue [] ls 0
    nothing ls = tt

    less : (n : ℕ) → n - 0 ≡ n
    less n = omega arith
split (d ∷ ds) ys [] n h = absurd h
split (d ∷ ds) ys (l ∷ ls) zero h = absurd h
split (d ∷ ds) ys (l ∷ ls) (suc n) h =
    let later = split (left_of d l ++ ds) ys ls n (subst (λ es. AreDue es ls n) (sym (append_assoc (left_of d l) ds ys)) h.1) in
    let same : suc n - suc later.count ≡ n - later.count = omega arith in
    record { count = suc later.count; first = (h.0, later.first); others = subst (λ k. AreDue ys (drop later.count ls) k) (sym same) later.others }

-- the clauses of each part that stands there are refuted
pub refuted : (cs : List Problem) (n : ℕ) (rest : List Due) (ls : List Line) (m : ℕ) → AreDue (parts_from n cs ++ rest) ls m → (c : Problem) → Contains cs c → IsRefuted c
refuted [] n rest ls m h c there = Contains-none c there
refuted (x ∷ cs) n rest ls m h c there =
    let parted = split (part x n ∷ []) (parts_from (n + 1) cs ++ rest) ls m h in
    let own = (parts x n ls parted.count).0 parted.first in
    elim (Contains-cons_cases x cs c there) [
      | inl same ↦ subst IsRefuted same (trees_refute x own.tree own.lawful)
      | inr later ↦ refuted cs (n + 1) rest (drop parted.count ls) (m - parted.count) parted.others c later
    ]

module _ (t : Script) (g : Signature) where
  -- and so no structure satisfies the formula of an obligation
  false_by : (ds : List Duty) (cs : List Problem) → AreProblemsOf t g ds cs → ((c : Problem) → Contains cs c → IsRefuted c) → (duty : Duty) → Contains ds duty
      → (s : Structure) → IsStructure g s → truth s [] (formula_of t duty) ≡ false
  false_by [] cs are all duty there s over = Contains-none duty there
  false_by (d ∷ ds) [] are all duty there s over = absurd are
  false_by (d ∷ ds) (c ∷ cs) are all duty there s over =
      elim (Contains-cons_cases d ds duty there) [
        | inl same ↦
            subst (λ (x : Duty). truth s [] (formula_of t x) ≡ false) same
            (false_from_ne_true _ (λ e. are.0.refutes (all c (Contains-head c cs)) (s, record { structure = over; true_there = e })))
        | inr later ↦ false_by ds cs are.1 (λ x k. all x (Contains-tail c cs x k)) duty later s over
      ]

pub certified_secure : CertifiedAreSecure
certified_secure t is g of text h =
    let all = refuted h.problems 1 (ending ∷ []) (drop 1 (lines_at text 0)) (h.passes.count - 1) (behind_heading (lines_at text 0) h.passes.count h.passes.met) in
    let none = false_by t g (obligations_of t) h.problems h.are all in
    let step : IsStepSecure t = unsatisfied_secure t is g of none in
    record {
      none_fails = λ duty listed d start. none duty listed (structure_of t.start d) (structures_are_over t is g of d start);
      step_secure = step;
      secure = whole t is step;
    }
  where
    behind_heading : (ls : List Line) (n : ℕ) → AreDue (heading ∷ (parts_from 1 h.problems ++ ending ∷ [])) ls n → AreDue (parts_from 1 h.problems ++ ending ∷ []) (drop 1 ls) (n - 1)
    behind_heading [] n due = absurd due
    behind_heading (l ∷ ls) zero due = absurd due
    behind_heading (l ∷ ls) (suc n) due = let less : suc n - 1 ≡ n = omega arith in subst (λ k. AreDue (parts_from 1 h.problems ++ ending ∷ []) ls k) (sym less) due.1

pub shows : (t : Script) → IsScript t → (text : List ℕ) (found : Rechecked) → IsRechecked t text found → Shows t found
shows t is text (Certified n) h = certified_secure t is h.signature h.signature_of text h.over.1
shows t is text (BadLine line) h = tt
shows t is text (Cyclic duty cycle) h = tt
shows t is text (TooLarge duty terms nodes) h = tt
