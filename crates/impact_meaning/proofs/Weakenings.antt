-- The weakenings of a script are obligations of the script that declares nothing.
use Rattle.std.proofs.Common.{◌≡◌, ℕ, zero, suc, ◌+◌, ◌-◌, ◌<◌, ◌≤◌, ◌⊎◌, inl, inr, Bool, true, false, ◌&&◌, List, [], ◌∷◌, length, refl, ap, sym, ◌∙◌, subst, arith, cond, Contains}
use Rattle.std.specs.Prelude.{Option, Some, None, filter, MatchOption}
use Rattle.std.specs.Option.{option_map, option_map_or}
use Rattle.type_schema.specs.declared.rights.Right.{Right}
use Rattle.type_schema.specs.declared.rights.Right.TheVariants.{Read, Write, Create, Delete}
use Rattle.type_schema.specs.declared.rights.Target.{Target}
use Rattle.type_schema.specs.declared.rights.Target.TheVariants as on
use Rattle.type_schema.specs.Schema.{FieldInfo, model_of_target}
use Rattle.type_schema.specs.Trees.{Init}
use Rattle.type_schema.specs.Commands.{Command, create_model, delete_model, add_static, remove_static, add_principal, add_field, remove_field, update_field, weaken_field, update_model, weaken_model}
use Rattle.type_schema.specs.Script.{Script, command_at, IsScript}
use Rattle.type_schema.specs.Kinds.{is_kind_at}
use Rattle.data_meaning.specs.Database.{Database, has_record, is_there}
use Rattle.data_meaning.specs.Meaning.{allows}
use Rattle.data_meaning.specs.declared.principals.Principal.{Principal}
use Rattle.data_meaning.specs.Run.{run_to}
use Rattle.data_meaning.specs.Gain.{kind_of, is_principal_at, policy_at, has_right_at, updates, weakens, GainAt}
use Rattle.duty_meaning.specs.declared.duty.Duty.{Duty}
use Rattle.duty_meaning.specs.Duties.{obligations_of}
use Rattle.duty_meaning.specs.Gains.{IsGainDuty}
use Rattle.duty_meaning.specs.Listed.{IsUseDuty, IsObligation, ObligationsAreListed}
use Rattle.duty_meaning.proofs.Listed.{obligations-listed}
use Rattle.check_witness.specs.Witness.{Witness}
use Rattle.check_scripts.specs.FailsBy.{IsGainOf, IsLeakOf, FailsBy}
use Rattle.impact_meaning.specs.Undeclared.{as_update, undeclared, is_weakening, weakenings_of}
use Rattle.impact_meaning.specs.Weakened.{WeakAt, IsExampleOf}
use Rattle.impact_meaning.specs.Listed.{IsWeakening}
use Rattle.impact_meaning.specs.Laws.{WeakeningsAreListed, WeakeningsFailAlike}
use Rattle.impact_meaning.proofs.AsUpdates.{command-so, same-run, same-kinds, undeclared_scripts}

-- ---- lists

in-tail : {X : Type 0} (y : X) (xs : List X) (x : X) → Contains xs x → Contains (y ∷ xs) x
in-tail y xs x h = (suc h.0, omega (arith, h.1), h.2)

head-or-tail : {X : Type 0} (y : X) (xs : List X) (x : X) → Contains (y ∷ xs) x → (y ≡ x) ⊎ Contains xs x
head-or-tail y xs x (zero, less, e) = inl e
head-or-tail y xs x (suc k, less, e) = inr (k, omega (arith, less), e)

from-filtered : {X : Type 0} (p : X → Bool) (xs : List X) (x : X) → Contains (filter p xs) x → Contains xs x × (p x ≡ true)
from-filtered p [] x h = absurd (omega (arith, h.1))
from-filtered {X} p (y ∷ xs) x h =
    elim (p y) as (λ (b : Bool). p y ≡ b → Contains (cond b (y ∷ filter p xs) (filter p xs)) x → Contains (y ∷ xs) x × (p x ≡ true)) [
      | true ↦ λ here k.
          elim (head-or-tail y (filter p xs) x k) [
            | inl e ↦ ((0, omega arith, e), ap p (sym e) ∙ here)
            | inr later ↦ let one = from-filtered p xs x later in (in-tail y xs x one.0, one.1)
          ]
      | false ↦ λ here k. let one = from-filtered p xs x k in (in-tail y xs x one.0, one.1)
    ] refl h

in-filtered : {X : Type 0} (p : X → Bool) (xs : List X) (x : X) → Contains xs x → p x ≡ true → Contains (filter p xs) x
in-filtered p [] x h k = absurd (omega (arith, h.1))
in-filtered {X} p (y ∷ xs) x (zero, less, e) k =
    let passes : p y ≡ true = ap p e ∙ k in
    subst (λ (b : Bool). Contains (cond b (y ∷ filter p xs) (filter p xs)) x) (sym passes) (0, omega arith, e)
in-filtered {X} p (y ∷ xs) x (suc i, less, e) k =
    let later = in-filtered p xs x (i, omega (arith, less), e) k in
    elim (p y) as (λ (b : Bool). Contains (cond b (y ∷ filter p xs) (filter p xs)) x) [
      | true ↦ in-tail y (filter p xs) x later
      | false ↦ later
    ]

-- a weakening is an obligation of the script that declares nothing
pub of_undeclared : (t : Script) (duty : Duty) → Contains (weakenings_of t) duty → Contains (obligations_of (undeclared t)) duty
of_undeclared t duty h =
    let one = from-filtered (λ (u : Duty). option_map_or is_weakening (command_at t (u.command - 1)) false) (obligations_of (undeclared t)) duty h in
    one.0

-- ---- one command

weakens-it : (target : Target) (right : Right) (c : Command) → is_weakening c ≡ true → updates target right (as_update c) ≡ true → weakens target right c ≡ true
weakens-it target right (create_model m) w h = cc
weakens-it target right (delete_model m) w h = cc
weakens-it target right (add_static n) w h = cc
weakens-it target right (remove_static n) w h = cc
weakens-it target right (add_principal m) w h = cc
weakens-it target right (add_field m f init) w h = cc
weakens-it target right (remove_field m f) w h = cc
weakens-it target right (update_field m f read write) w h = cc
weakens-it target right (weaken_field m f read write reason) w h = h
weakens-it target right (update_model m create delete) w h = cc
weakens-it target right (weaken_model m create delete reason) w h = h

updates-it : (target : Target) (right : Right) (c : Command) → weakens target right c ≡ true → (is_weakening c ≡ true) × (updates target right (as_update c) ≡ true)
updates-it target right (create_model m) h = cc
updates-it target right (delete_model m) h = cc
updates-it target right (add_static n) h = cc
updates-it target right (remove_static n) h = cc
updates-it target right (add_principal m) h = cc
updates-it target right (add_field m f init) h = cc
updates-it target right (remove_field m f) h = cc
updates-it target right (update_field m f read write) h = cc
updates-it target right (weaken_field m f read write reason) h = (refl, h)
updates-it target right (update_model m create delete) h = cc
updates-it target right (weaken_model m create delete reason) h = (refl, h)

adds-none : (m : ℕ) (f : FieldInfo) (init : Init) (c : Command) → is_weakening c ≡ true → as_update c ≡ add_field m f init → ⊥
adds-none m f init (create_model n) w e = cc
adds-none m f init (delete_model n) w e = cc
adds-none m f init (add_static n) w e = cc
adds-none m f init (remove_static n) w e = cc
adds-none m f init (add_principal n) w e = cc
adds-none m f init (add_field n g i) w e = cc
adds-none m f init (remove_field n g) w e = cc
adds-none m f init (update_field n g read write) w e = cc
adds-none m f init (weaken_field n g read write reason) w e = cc
adds-none m f init (update_model n create delete) w e = cc
adds-none m f init (weaken_model n create delete reason) w e = cc

-- ---- the list

module _ (t : Script) (is : IsScript t) (duty : Duty) where
  abbrev is-weak : Bool
  is-weak = option_map_or is_weakening (command_at t (duty.command - 1)) false

  is-weak-command : is-weak ≡ true → (c : Command) × (command_at t (duty.command - 1) ≡ Some c) × (is_weakening c ≡ true)
  is-weak-command h =
      elim (command_at t (duty.command - 1)) as (λ (o : Option Command). command_at t (duty.command - 1) ≡ o → option_map_or is_weakening o false ≡ true
      → (c : Command) × (command_at t (duty.command - 1) ≡ Some c) × (is_weakening c ≡ true)) [
        | None ↦ λ here e. cc
        | Some c ↦ λ here e. (c, here, e)
      ] refl h

  -- of a gain
  weak-gain : is-weak ≡ true → duty.spot ≡ None → IsGainDuty (undeclared t) duty → IsWeakening t duty
  weak-gain w spot of =
      let one = is-weak-command w in
      let updated : updates duty.target duty.right (as_update one.0) ≡ true
      = sym (ap (λ o. option_map_or (updates duty.target duty.right) o false) (command-so t (duty.command - 1) ∙ ap (option_map as_update) one.1)) ∙ of.updated in
      record {
        counted = of.counted;
        weakened = ap (λ o. option_map_or (weakens duty.target duty.right) o false) one.1 ∙ weakens-it duty.target duty.right one.0 one.2 updated;
        kind = sym (same-kinds t duty.command duty.kind) ∙ of.kind;
        no_use = spot;
      }

  no-use : {A : Type 0} (spot : ℕ) → is-weak ≡ true → IsUseDuty (undeclared t) duty spot → A
  no-use spot w of =
      let one = is-weak-command w in
      let adds : Some (as_update one.0) ≡ Some (add_field of.model of.field of.init)
      = sym (command-so t (duty.command - 1) ∙ ap (option_map as_update) one.1) ∙ of.flow.adds.command in
      absurd (adds-none of.model of.field of.init one.0 one.2 (let same : as_update one.0 ≡ add_field of.model of.field of.init = cc in same))

  weak-of : is-weak ≡ true → IsObligation (undeclared t) duty → IsWeakening t duty
  weak-of w of =
      elim duty.spot as (λ (o : Option ℕ). duty.spot ≡ o → MatchOption o (IsGainDuty (undeclared t) duty) (IsUseDuty (undeclared t) duty) → IsWeakening t duty) [
        | None ↦ λ here h. weak-gain w here h
        | Some spot ↦ λ here h. no-use spot w h
      ] refl of

  pub from-list : Contains (weakenings_of t) duty → IsWeakening t duty
  from-list h =
      let one = from-filtered (λ (u : Duty). option_map_or is_weakening (command_at t (u.command - 1)) false) (obligations_of (undeclared t)) duty h in
      weak-of one.1 ((obligations-listed (undeclared t) (undeclared_scripts t is) duty).0 one.0)

  gain-of : IsWeakening t duty → (is-weak ≡ true) × IsGainDuty (undeclared t) duty
  gain-of of =
      elim (command_at t (duty.command - 1)) as (λ (o : Option Command). command_at t (duty.command - 1) ≡ o → option_map_or (weakens duty.target duty.right) o false ≡ true
      → (option_map_or is_weakening o false ≡ true) × IsGainDuty (undeclared t) duty) [
        | None ↦ λ here e. cc
        | Some c ↦ λ here e.
            let two = updates-it duty.target duty.right c e in (
              two.0,
              record {
                counted = of.counted;
                updated = ap (λ o. option_map_or (updates duty.target duty.right) o false) (command-so t (duty.command - 1) ∙ ap (option_map as_update) here) ∙ two.1;
                kind = same-kinds t duty.command duty.kind ∙ of.kind;
              },
            )
      ] refl of.weakened

  to-list : IsWeakening t duty → Contains (weakenings_of t) duty
  to-list of =
      let two = gain-of of in
      let obligation : IsObligation (undeclared t) duty
      = subst (λ (o : Option ℕ). MatchOption o (IsGainDuty (undeclared t) duty) (IsUseDuty (undeclared t) duty)) (sym of.no_use) two.1 in
      in-filtered (λ (u : Duty). option_map_or is_weakening (command_at t (u.command - 1)) false) (obligations_of (undeclared t)) duty
      ((obligations-listed (undeclared t) (undeclared_scripts t is) duty).1 obligation) two.0

pub weakenings_listed : WeakeningsAreListed
weakenings_listed t is duty = (from-list t is duty, to-list t is duty)

-- ---- what it newly allows

module _ (t : Script) (is : IsScript t) (duty : Duty) (weak : IsWeakening t duty) (w : Witness) where
  same-principal : (k : ℕ) → is_principal_at (undeclared t) k (run_to (undeclared t) k w.base) w.who ≡ is_principal_at t k (run_to t k w.base) w.who
  same-principal k =
      ap (λ b. b && is_there (run_to (undeclared t) k w.base) w.who) (same-kinds t k (kind_of w.who)) ∙ ap (λ d. is_kind_at t k (kind_of w.who) && is_there d w.who) (same-run t k w.base)

  same-right : (k : ℕ) (target : Target) (right : Right)
      → has_right_at (undeclared t) k target right w.base w.row w.who ≡ has_right_at t k target right w.base w.row w.who
  same-right k target right = ap (λ d. option_map_or (λ policy. allows d policy w.row w.who) (policy_at t k target right) false) (same-run t k w.base)

  same-record : has_record (run_to (undeclared t) duty.command w.base) (model_of_target duty.target) w.row ≡ has_record (run_to t duty.command w.base) (model_of_target duty.target) w.row
  same-record = ap (λ d. has_record d (model_of_target duty.target) w.row) (same-run t duty.command w.base)

  weak-at : GainAt (undeclared t) duty.command duty.target duty.right w.base w.row w.who → WeakAt t duty.command duty.target duty.right w.base w.row w.who
  weak-at g = record {
    start = record { over = g.start.over; only = g.start.only };
    counted = g.counted;
    weakened = weak.weakened;
    record_there = sym same-record ∙ g.record_there;
    principal = sym (same-principal duty.command) ∙ g.principal;
    after = sym (same-right duty.command duty.target duty.right) ∙ g.after;
    before = sym (same-right (duty.command - 1) duty.target duty.right) ∙ g.before;
  }

  gain-at : WeakAt t duty.command duty.target duty.right w.base w.row w.who → GainAt (undeclared t) duty.command duty.target duty.right w.base w.row w.who
  gain-at g =
      let of = (gain-of t is duty weak).1 in
      record {
        start = record { over = g.start.over; only = g.start.only };
        counted = g.counted;
        updated = of.updated;
        record_there = same-record ∙ g.record_there;
        principal = same-principal duty.command ∙ g.principal;
        after = same-right duty.command duty.target duty.right ∙ g.after;
        before = same-right (duty.command - 1) duty.target duty.right ∙ g.before;
      }

  to-example : FailsBy (undeclared t) duty w → IsExampleOf t duty w
  to-example h =
      let g : IsGainOf (undeclared t) duty w = subst (λ (o : Option ℕ). MatchOption o (IsGainOf (undeclared t) duty w) (IsLeakOf (undeclared t) duty w)) weak.no_use h.fails in
      record { command = h.command; target = h.target; right = h.right; kind = g.kind; weak = weak-at g.gain; no_cell = g.no_cell }

  from-example : IsExampleOf t duty w → FailsBy (undeclared t) duty w
  from-example h =
      let g : IsGainOf (undeclared t) duty w = record { kind = h.kind; gain = gain-at h.weak; no_cell = h.no_cell } in
      record {
        command = h.command;
        target = h.target;
        right = h.right;
        fails = subst (λ (o : Option ℕ). MatchOption o (IsGainOf (undeclared t) duty w) (IsLeakOf (undeclared t) duty w)) (sym weak.no_use) g;
      }

pub fail_alike : WeakeningsFailAlike
fail_alike t is duty h w = let weak = from-list t is duty h in (to-example t is duty weak w, from-example t is duty weak w)
