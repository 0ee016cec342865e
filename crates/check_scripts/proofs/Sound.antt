-- What the outcomes of a script say of it.
use Rattle.std.proofs.Common.{◌≡◌, ℕ, true, [], ◌∙◌, subst}
use Rattle.std.specs.Prelude.{Option, Some, None, Contains, MatchOption}
use Rattle.std.specs.Option.{option_map_or}
use Rattle.std.proofs.lemmas.Bool.{false_from_ne_true}
use Rattle.std.proofs.lemmas.List.Elements.{Contains-get_or}
use Rattle.std.proofs.lemmas.Option.{slice_get_within, get_or_from_slice_get}
use Rattle.type_schema.specs.Script.{Script, IsScript}
use Rattle.data_meaning.specs.Gain.{IsStart}
use Rattle.data_meaning.specs.Secure.{IsStepSecure}
use Rattle.data_meaning.proofs.Steps.{whole}
use Rattle.form_formula.specs.declared.structure.Signature.{Signature}
use Rattle.form_formula.specs.declared.structure.Structure.{Structure}
use Rattle.form_formula.specs.NormalForm.{normal_form}
use Rattle.form_formula.specs.Trees.{Formula}
use Rattle.form_formula.specs.Truth.{truth}
use Rattle.form_terms.specs.Structures.{IsStructure}
use Rattle.form_terms.specs.Universe.{IsShallowTerm}
use Rattle.form_terms.proofs.Witnesses.{passes_where_true}
use Rattle.duty_meaning.specs.declared.duty.Duty.{Duty}
use Rattle.duty_meaning.specs.Duties.{obligations_of, formula_of, gain_formula_of, flow_formula_of}
use Rattle.duty_meaning.specs.Structures.{structure_of}
use Rattle.duty_meaning.specs.Gains.{IsGainDuty}
use Rattle.duty_meaning.specs.Flows.{cell_of}
use Rattle.duty_meaning.specs.Listed.{IsUseDuty}
use Rattle.duty_meaning.proofs.Gains.{true_gains}
use Rattle.duty_meaning.proofs.Flows.{true_flows}
use Rattle.duty_meaning.proofs.Listed.{from-list}
use Rattle.duty_meaning.proofs.Shapes.{structures_are_over, unsatisfied_secure}
use Rattle.check_witness.specs.Witness.{Witness}
use Rattle.decide_verdict.specs.Verdicts.{IsSafe}
use Rattle.check_scripts.specs.FailsBy.{IsGainOf, IsLeakOf}
use Rattle.check_scripts.specs.Outcomes.{accepted, leak, undecided, too_large, IsDue}
use Rattle.check_scripts.specs.Sound.{ClearedDoNotFail, AcceptedAreSecure, LeaksAreReal, Accepted, Leak, DecidableAreSettled}

-- a cleared formula is true on no structure
cleared-false : (g : Signature) (f : Formula) → IsSafe g f (normal_form f) → (s : Structure) → IsStructure g s → truth s [] f ≡ true → ⊥
cleared-false g f safe s over e = safe.nowhere (s, record { structure = over; true_there = e })

fails-true : (t : Script) → IsScript t → (duty : Duty) (w : Witness) (spot : Option ℕ) → MatchOption spot (IsGainDuty t duty) (IsUseDuty t duty)
    → MatchOption spot (IsGainOf t duty w) (IsLeakOf t duty w)
    → (start : IsStart t w.base) × (truth (structure_of t.start w.base) [] (option_map_or (flow_formula_of t duty) spot (gain_formula_of t duty)) ≡ true)
fails-true t is duty w None of h =
    (h.gain.start, (true_gains t is duty of w.base h.gain.start).1 (record { id = w.row; who = w.who; kind = h.kind; gain = h.gain }))
fails-true t is duty w (Some spot) of h = (
  h.flow.start,
  (true_flows t is duty spot h.model h.field h.init h.at h.duty_is w.base h.flow.start).1
      (record { id = w.row; who = w.who; source = h.source; kind = h.kind; flow = h.flow; reads = h.reads }),
)

pub cleared_do_not_fail : ClearedDoNotFail
cleared_do_not_fail t is g of duty listed cleared w h =
    let one = fails-true t is duty w duty.spot (from-list t is duty listed) h.fails in
    cleared-false g (formula_of t duty) cleared (structure_of t.start w.base) (structures_are_over t is g of w.base one.0) one.1

pub accepted_are_secure : AcceptedAreSecure
accepted_are_secure t is n h =
    let step : IsStepSecure t =
    unsatisfied_secure t is h.signature h.signature_of
    (λ duty listed s over. false_from_ne_true _ (λ e. cleared-false h.signature (formula_of t duty) (h.over.1 duty listed) s over e)) in
    (step, whole t is step)

fails-insecure : (t : Script) (duty : Duty) (w : Witness) (spot : Option ℕ) → MatchOption spot (IsGainOf t duty w) (IsLeakOf t duty w) → IsStepSecure t → ⊥
fails-insecure t duty w None h secure = secure.no_gain duty.command duty.target duty.right w.base w.row w.who h.gain
fails-insecure t duty w (Some spot) h secure = secure.no_flow duty.command w.base w.row w.who (cell_of h.at h.source) h.flow

pub leaks_are_real : LeaksAreReal
leaks_are_real t w h secure = fails-insecure t h.over.duty w h.over.duty.spot h.over.unsettled.fails.fails secure

pub due-listed : (t : Script) (g : Signature) (duty : Duty) → IsDue t g duty → Contains (obligations_of t) duty
due-listed t g duty due =
    let P : Duty → Type 0 = λ x. Contains (obligations_of t) x in
    subst P (get_or_from_slice_get (obligations_of t) due.place duty duty due.at)
    (Contains-get_or (obligations_of t) due.place duty (slice_get_within (obligations_of t) due.place duty due.at))

pub decidable_are_settled : DecidableAreSettled
decidable_are_settled t decidable (accepted n) h = Accepted n
decidable_are_settled t decidable (leak w) h = Leak w
decidable_are_settled t decidable (undecided duty cycle) h =
    absurd (h.over.unsettled.unknown.not_stratified (decidable h.signature h.signature_of h.over.duty (due-listed t h.signature h.over.duty h.over.due)).0)
decidable_are_settled t decidable (too_large duty terms nodes) h =
    absurd ((decidable h.signature h.signature_of h.over.duty (due-listed t h.signature h.over.duty h.over.due)).1 h.over.unsettled.counts.over_limit)
