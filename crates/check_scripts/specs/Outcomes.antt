-- The outcomes of checking a script.
use Rattle.std.specs.Prelude.{◌≡◌, ◌<◌, ◌-◌, ℕ, List, map, length, take, Option, Some, Contains, slice_get, slice_index_or}
use Rattle.type_schema.specs.Proper.{model_numbers}
use Rattle.type_schema.specs.Script.{Script}
use Rattle.form_formula.specs.declared.structure.Signature.{Signature}
use Rattle.form_formula.specs.declared.structure.Structure.{Structure}
use Rattle.form_formula.specs.NormalForm.{normal_form}
use Rattle.form_strata.specs.SortGraph.{IsStratified}
use Rattle.decide_verdict.specs.Verdicts.{IsOverLimit, IsSafe, IsUnknown, IsTooLargeBy}
use Rattle.duty_meaning.specs.declared.duty.Duty.{Duty}
use Rattle.duty_meaning.specs.Duties.{obligations_of, formula_of}
use Rattle.duty_meaning.specs.Over.{IsSignatureOf}
use Rattle.data_meaning.specs.Database.{IsInOrder}
use Rattle.check_witness.specs.Witness.{Witness}
use Rattle.check_scripts.specs.FailsBy.{FailsBy}

-- No obligation fails, of so many; or the first that is not cleared fails by the witness, or its formula is not decided, for the models
-- of this cycle of its sort graph, or it is too large, by these counts of terms and nodes.
pub data Outcome : Type 0 where
  accepted : ℕ → Outcome
  leak : Witness → Outcome
  undecided : Duty → List ℕ → Outcome
  too_large : Duty → (terms nodes : ℕ) → Outcome

-- ---- outcomes

module _ (t : Script) where
  -- the model of a sort
  abbrev pub model_of_sort : ℕ → ℕ
  model_of_sort sort = slice_index_or (model_numbers t.start.models) sort 0

  -- the models of a cycle of sorts, whose first is repeated last: each once
  abbrev pub models_of_cycle : List ℕ → List ℕ
  models_of_cycle sorts = map model_of_sort (take (length sorts - 1) sorts)

  module _ (g : Signature) where
    -- the formula of the obligation is decided to hold on no finite structure
    abbrev pub IsCleared : Duty → Type 0
    IsCleared duty = IsSafe g (formula_of t duty) (normal_form (formula_of t duty))

    -- it is stratified, and it is within the limits of instantiation
    abbrev pub HasStrata : Duty → Type 0
    HasStrata duty = IsStratified g (normal_form (formula_of t duty))

    abbrev pub IsWithinLimits : Duty → Type 0
    IsWithinLimits duty = IsOverLimit g (formula_of t duty) (normal_form (formula_of t duty)) → ⊥

    -- the obligation is one of the script, and all before it are cleared
    pub record IsDue (duty : Duty) : Type 0 where
      pub place : ℕ
      pub at : slice_get (obligations_of t) place ≡ Some duty
      pub cleared : (k : ℕ) (before : Duty) → k < place → slice_get (obligations_of t) k ≡ Some before → IsCleared before

    -- ---- what an obligation comes to that is not cleared

    -- its database has the tables of the models in their order, as a text tells them
    pub record IsLeak (duty : Duty) (w : Witness) : Type 0 where
      pub fails : FailsBy t duty w
      pub tables : IsInOrder t.start w.base
      pub within : HasStrata duty → IsWithinLimits duty

    pub record IsUndecided (duty of_duty : Duty) (cycle : List ℕ) : Type 0 where
      pub named : of_duty ≡ duty
      pub sorts : List ℕ
      pub tried : Option Structure
      pub models : cycle ≡ models_of_cycle sorts
      pub unknown : IsUnknown g (formula_of t duty) (normal_form (formula_of t duty)) sorts tried

    pub record IsTooLarge (duty of_duty : Duty) (terms nodes : ℕ) : Type 0 where
      pub named : of_duty ≡ duty
      pub counts : IsTooLargeBy g (formula_of t duty) (normal_form (formula_of t duty)) terms nodes

    abbrev pub IsUnsettled : Duty → Outcome → Type 0
    IsUnsettled duty (accepted n) = ⊥
    IsUnsettled duty (leak w) = IsLeak duty w
    IsUnsettled duty (undecided of_duty cycle) = IsUndecided duty of_duty cycle
    IsUnsettled duty (too_large of_duty terms nodes) = IsTooLarge duty of_duty terms nodes

    -- the first obligation that is not cleared comes to this
    pub record IsFirst (outcome : Outcome) : Type 0 where
      pub duty : Duty
      pub due : IsDue duty
      pub unsettled : IsUnsettled duty outcome

    abbrev pub IsOutcomeOver : Outcome → Type 0
    IsOutcomeOver (accepted n) = (n ≡ length (obligations_of t)) × ((duty : Duty) → Contains (obligations_of t) duty → IsCleared duty)
    IsOutcomeOver (leak w) = IsFirst (leak w)
    IsOutcomeOver (undecided duty cycle) = IsFirst (undecided duty cycle)
    IsOutcomeOver (too_large duty terms nodes) = IsFirst (too_large duty terms nodes)

  -- the outcome of the script, over the signature of the schema of its start databases
  pub record IsOutcome (outcome : Outcome) : Type 0 where
    pub signature : Signature
    pub signature_of : IsSignatureOf t.start signature
    pub over : IsOutcomeOver signature outcome
