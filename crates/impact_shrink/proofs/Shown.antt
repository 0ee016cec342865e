-- Witnesses of outcomes are real, and so are their small ones; how a script stands is not changed by them.
use Rattle.std.proofs.Common.{◌≡◌, ◌⊎◌, inl, ⊎_elim, ℕ, ◌-◌, true, false, refl, ap, sym, ◌∙◌, subst}
use Rattle.std.specs.Prelude.{Option, Some, None, MatchOption}
use Rattle.std.specs.Option.{option_map_or}
use Rattle.type_schema.specs.declared.rights.Right.{Right}
use Rattle.type_schema.specs.declared.rights.Right.TheVariants.{Read}
use Rattle.type_schema.specs.declared.rights.Target.{Target}
use Rattle.type_schema.specs.Commands.{Command, create_model, delete_model, add_static, remove_static, add_principal, add_field, remove_field, update_field, weaken_field, update_model, weaken_model}
use Rattle.type_schema.specs.Script.{Script, IsScript, command_at}
use Rattle.duty_meaning.specs.declared.duty.Duty.{Duty}
use Rattle.duty_meaning.specs.Flows.{cell_of}
use Rattle.duty_meaning.specs.Gains.{IsGainDuty}
use Rattle.duty_meaning.specs.Listed.{IsUseDuty}
use Rattle.duty_meaning.proofs.Listed.{from-list}
use Rattle.data_meaning.specs.declared.cells.Cell.{Cell}
use Rattle.data_meaning.specs.Database.{Database}
use Rattle.data_meaning.specs.Gain.{updates, weakens, GainAt, AddsAt, FlowAt}
use Rattle.check_scripts.specs.Agree.{standing}
use Rattle.check_scripts.specs.FailsBy.{IsGainOf, IsLeakOf}
use Rattle.check_scripts.specs.Outcomes.{Outcome, accepted, leak, undecided, too_large, IsOutcome}
use Rattle.check_scripts.proofs.Sound.{due-listed}
use Rattle.check_witness.specs.Witness.{Witness}
use Rattle.impact_meaning.specs.Weakened.{WeakAt}
use Rattle.impact_shrink.specs.Real.{LeaksCell, IsLeaking, IsReal}
use Rattle.impact_shrink.specs.Shown.{IsMadeSmall, IsSmallFor, IsSmallOutcome}
use Rattle.impact_shrink.specs.Small.{IsPartOf, IsSmall, over}

-- ---- witnesses by which an obligation fails

gain-leaks : (t : Script) (duty : Duty) (w : Witness) → w.command ≡ duty.command → w.target ≡ duty.target → w.right ≡ duty.right → IsGainOf t duty w → IsLeaking t w
gain-leaks t duty w command target right h =
    subst (λ (cell : Option Cell). MatchOption cell (GainAt t w.command w.target w.right w.base w.row w.who) (LeaksCell t w)) (sym h.no_cell)
    (subst (λ (k : ℕ). GainAt t k w.target w.right w.base w.row w.who) (sym command)
    (subst (λ (on : Target). GainAt t duty.command on w.right w.base w.row w.who) (sym target)
    (subst (λ (r : Right). GainAt t duty.command duty.target r w.base w.row w.who) (sym right) h.gain)))

flow-leaks : (t : Script) (duty : Duty) (w : Witness) (spot : ℕ) → w.command ≡ duty.command → w.target ≡ duty.target → w.right ≡ Read → IsLeakOf t duty w spot → IsLeaking t w
flow-leaks t duty w spot command target right h =
    subst (λ (cell : Option Cell). MatchOption cell (GainAt t w.command w.target w.right w.base w.row w.who) (LeaksCell t w)) (sym h.cell)
    (record {
      flow = subst (λ (k : ℕ). FlowAt t k w.base w.row w.who (cell_of h.at h.source)) (sym command) h.flow;
      model = h.model;
      field = h.field;
      init = h.init;
      adds = subst (λ (k : ℕ). AddsAt t k h.model h.field h.init) (sym command) h.duty_is.adds;
      target = target ∙ h.duty_is.target;
      right = right;
    })

fails-leaks : (t : Script) (duty : Duty) (w : Witness) (spot : Option ℕ) → w.command ≡ duty.command → w.target ≡ duty.target → w.right ≡ duty.right
    → MatchOption spot (IsGainDuty t duty) (IsUseDuty t duty) → MatchOption spot (IsGainOf t duty w) (IsLeakOf t duty w) → IsLeaking t w
fails-leaks t duty w None command target right of h = gain-leaks t duty w command target right h
fails-leaks t duty w (Some spot) command target right of h = flow-leaks t duty w spot command target (right ∙ of.right) h

pub outcome-leaks : (t : Script) → IsScript t → (w : Witness) → IsOutcome t (leak w) → IsLeaking t w
outcome-leaks t is w h =
    let by = h.over.unsettled.fails in
    fails-leaks t h.over.duty w h.over.duty.spot by.command by.target by.right (from-list t is h.over.duty (due-listed t h.signature h.over.duty h.over.due)) by.fails

-- ---- leaks and weakenings

module _ (t : Script) (w : Witness) where
  abbrev Upheld : Type 0
  Upheld = GainAt t w.command w.target w.right w.base w.row w.who

  real-by : (cell : Option Cell) → MatchOption cell Upheld (LeaksCell t w) → MatchOption cell (Upheld ⊎ WeakAt t w.command w.target w.right w.base w.row w.who) (LeaksCell t w)
  real-by None g = inl g
  real-by (Some cell) l = l

  pub leaking-real : IsLeaking t w → IsReal t w
  leaking-real h = real-by w.cell h

-- a command does not both update and weaken
not-both : (target : Target) (right : Right) (c : Command) → updates target right c ≡ true → weakens target right c ≡ true → ⊥
not-both target right (create_model m) u w = cc
not-both target right (delete_model m) u w = cc
not-both target right (add_static n) u w = cc
not-both target right (remove_static n) u w = cc
not-both target right (add_principal m) u w = cc
not-both target right (add_field m f init) u w = cc
not-both target right (remove_field m f) u w = cc
not-both target right (update_field m f read write) u w = cc
not-both target right (weaken_field m f read write reason) u w = cc
not-both target right (update_model m create delete) u w = cc
not-both target right (weaken_model m create delete reason) u w = cc

pub one-of-both : (target : Target) (right : Right) (o : Option Command) → option_map_or (updates target right) o false ≡ true → option_map_or (weakens target right) o false ≡ true → ⊥
one-of-both target right None u w = cc
one-of-both target right (Some c) u w = not-both target right c u w

module _ (t : Script) (w : Witness) where
  abbrev Gained : Witness → Type 0
  Gained v = GainAt t v.command v.target v.right v.base v.row v.who

  abbrev Weak : Witness → Type 0
  Weak v = WeakAt t v.command v.target v.right v.base v.row v.who

  -- over another base what leaks leaks, if it is real
  pub leaks-still : (d : Database) → IsLeaking t w → IsReal t (over w d) → IsLeaking t (over w d)
  leaks-still d leaks real = by-cell w.cell leaks real
    where
      by-cell : (cell : Option Cell) → MatchOption cell (Gained w) (LeaksCell t w) → MatchOption cell (Gained (over w d) ⊎ Weak (over w d)) (LeaksCell t (over w d))
          → MatchOption cell (Gained (over w d)) (LeaksCell t (over w d))
      by-cell None g r =
          ⊎_elim (λ (h : Gained (over w d)). h)
          (λ (h : Weak (over w d)). absurd (one-of-both w.target w.right (command_at t (w.command - 1)) g.updated h.weakened)) r
      by-cell (Some cell) l r = r

  -- and what is newly allowed by what a command says is so still
  pub weak-still : (d : Database) → w.cell ≡ None → Weak w → IsReal t (over w d) → Weak (over w d)
  weak-still d none weak real =
      ⊎_elim (λ (h : Gained (over w d)). absurd (one-of-both w.target w.right (command_at t (w.command - 1)) h.updated weak.weakened))
      (λ (h : Weak (over w d)). h)
      (let r : Gained (over w d) ⊎ Weak (over w d) = subst (λ (cell : Option Cell). MatchOption cell (Gained (over w d) ⊎ Weak (over w d)) (LeaksCell t (over w d))) none real in r)

-- ---- outcomes

pub small-for : (t : Script) → IsScript t → (w s : Witness) → IsOutcome t (leak w) → IsSmall t s → IsPartOf s w → IsSmallFor t w s
small-for t is w s found small part =
    let same = part.same in
    subst (λ (v : Witness). IsSmallFor t w v) (sym same)
    (record {
      command = refl;
      target = refl;
      right = refl;
      kind = refl;
      leaks = leaks-still t w s.base (outcome-leaks t is w found) (subst (IsReal t) same small.real);
      smallest = subst (IsSmall t) same small;
      tables = part.base.tables ∙ found.over.unsettled.tables;
    })

-- an accepted script comes to just that
pub accepted-found : (t : Script) (n : ℕ) → IsSmallOutcome t (accepted n) → IsOutcome t (accepted n)
accepted-found t n shown = by-found shown.found shown.outcome shown.small
  where
    by-found : (found : Outcome) → IsOutcome t found → IsMadeSmall t found (accepted n) → IsOutcome t (accepted n)
    by-found (accepted m) h same = subst (IsOutcome t) (sym same) h
    by-found (leak w) h (small, same, for) = absurd cc
    by-found (undecided duty cycle) h same = absurd cc
    by-found (too_large duty terms nodes) h same = absurd cc

-- how the script stands
pub stands-alike : (t : Script) (found made : Outcome) → IsMadeSmall t found made → standing made ≡ standing found
stands-alike t (accepted n) made h = ap standing h
stands-alike t (leak w) made (small, is, for) = ap standing is
stands-alike t (undecided duty cycle) made h = ap standing h
stands-alike t (too_large duty terms nodes) made h = ap standing h
