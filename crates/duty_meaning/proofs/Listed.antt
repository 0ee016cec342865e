-- The list of obligations has just those.
use Rattle.std.proofs.Common.{◌≡◌, ℕ, zero, suc, ◌+◌, ◌-◌, ◌<◌, ◌≤◌, ◌⊎◌, Bool, true, false, ◌&&◌, List, [], ◌∷◌, length, refl, ap, sym, ◌∙◌, subst, arith, cond, inl, inr, Contains}
use Rattle.std.specs.Prelude.{Option, Some, None, ◌==◌, map, filter, flat_map, is_some, MatchOption}
use Rattle.std.specs.List.{range_with_len}
use Rattle.std.specs.Option.{option_map_or}
use Rattle.std.proofs.lemmas.Bool.{eq-eqb}
use Rattle.std.proofs.lemmas.Option.{slice_get_cases, slice_get_within}
use Rattle.std.proofs.lemmas.List.Elements.{Contains-append_cases}
use Rattle.type_schema.specs.declared.rights.Kind.{Kind}
use Rattle.type_schema.specs.declared.rights.Right.{Right}
use Rattle.type_schema.specs.declared.rights.Right.TheVariants.{Read, Write, Create, Delete}
use Rattle.type_schema.specs.declared.rights.Target.{Target}
use Rattle.type_schema.specs.declared.rights.Target.TheVariants as on
use Rattle.type_schema.specs.Trees.{Policy, Init}
use Rattle.type_schema.specs.Schema.{FieldInfo}
use Rattle.type_schema.specs.Commands.{Command, create_model, delete_model, add_static, remove_static, add_principal, add_field, remove_field, update_field, weaken_field, update_model, weaken_model}
use Rattle.type_schema.specs.Uses.{init_uses_of}
use Rattle.type_schema.specs.Script.{Script, command_at, count, IsScript}
use Rattle.type_schema.specs.Kinds.{is_kind_at, kinds_at}
use Rattle.data_meaning.specs.Gain.{updates}
use Rattle.duty_meaning.specs.declared.duty.Duty.{Duty}
use Rattle.duty_meaning.specs.Duties.{gains_at, flows_at, obligations_at, obligations_of}
use Rattle.duty_meaning.specs.Gains.{IsGainDuty}
use Rattle.duty_meaning.specs.Listed.{IsUseDuty, IsObligation, ObligationsAreListed}
use Rattle.duty_meaning.proofs.Failing.{no-element, in-tail, of-updated, of-added, of-command, kind-listed}

-- ---- lists

from-mapped : {X Y : Type 0} (f : X → Y) (xs : List X) (y : Y) → Contains (map f xs) y → (x : X) × Contains xs x × (f x ≡ y)
from-mapped f [] y h = no-element y h
from-mapped f (x ∷ xs) y (zero, less, e) = (x, (0, omega arith, refl), e)
from-mapped f (x ∷ xs) y (suc k, less, e) =
    let one = from-mapped f xs y (k, omega (arith, less), e) in
    (one.0, in-tail x xs one.0 one.1, one.2)

head-or-tail : {X : Type 0} (y : X) (xs : List X) (x : X) → Contains (y ∷ xs) x → (y ≡ x) ⊎ Contains xs x
head-or-tail y xs x (zero, less, e) = inl e
head-or-tail y xs x (suc k, less, e) = inr (k, omega (arith, less), e)

from-filtered : {X : Type 0} (p : X → Bool) (xs : List X) (x : X) → Contains (filter p xs) x → p x ≡ true
from-filtered p [] x h = no-element x h
from-filtered {X} p (y ∷ xs) x h =
    elim (p y) as (λ (b : Bool). p y ≡ b → Contains (cond b (y ∷ filter p xs) (filter p xs)) x → p x ≡ true) [
      | true ↦ λ here k.
          elim (head-or-tail y (filter p xs) x k) [
            | inl e ↦ ap p (sym e) ∙ here
            | inr later ↦ from-filtered p xs x later
          ]
      | false ↦ λ here k. from-filtered p xs x k
    ] refl h

from-flat : {X Y : Type 0} (f : X → List Y) (xs : List X) (y : Y) → Contains (flat_map f xs) y → (x : X) × Contains xs x × Contains (f x) y
from-flat f [] y h = no-element y h
from-flat f (x ∷ xs) y h =
    elim (Contains-append_cases (f x) (flat_map f xs) y h) [
      | inl here ↦ (x, (0, omega arith, refl), here)
      | inr later ↦ let one = from-flat f xs y later in (one.0, in-tail x xs one.0 one.1, one.2)
    ]

from-range : (first n x : ℕ) → Contains (range_with_len first n) x → (first ≤ x) × (x < first + n)
from-range first zero x h = no-element x h
from-range first (suc n) x (zero, less, e) = (omega (arith, e), omega (arith, e))
from-range first (suc n) x (suc k, less, e) =
    let one = from-range (first + 1) n x (k, omega (arith, less), e) in
    (omega (arith, one.0), omega (arith, one.1))

-- ---- of a command

-- an obligation of a command that updates a right
record Updates (c : Command) (kinds : List Kind) (k : ℕ) (duty : Duty) : Type 0 where
  number : duty.command ≡ k
  updated : updates duty.target duty.right c ≡ true
  spot : duty.spot ≡ None
  kind : Contains kinds duty.kind

from-given : (c : Command) (k : ℕ) (kinds : List Kind) (target : Target) (right : Right) (policy : Option Policy) (duty : Duty)
    → (is_some policy ≡ true → updates target right c ≡ true) → Contains (gains_at k kinds target right policy) duty → Updates c kinds k duty
from-given c k kinds target right None duty updated h = no-element duty h
from-given c k kinds target right (Some p) duty updated h =
    let one = from-mapped (λ a. record { command = k; target = target; right = right; spot = None; kind = a }) kinds duty h in
    let Q : Duty → Type 0 = λ u. Updates c kinds k u in
    subst Q one.2 (record { number = refl; updated = updated refl; spot = refl; kind = one.1 })

test-holds : (m f : ℕ) (b : Bool) → b ≡ true → (((m == m) && (f == f)) && b) ≡ true
test-holds m f b h = ap (λ t. (t && (f == f)) && b) (eq-eqb m m refl) ∙ ap (λ t. t && b) (eq-eqb f f refl) ∙ h

module _ (t : Script) (is : IsScript t) (duty : Duty) where
  gain-of : (k : ℕ) (c : Command) → 1 ≤ k → command_at t (k - 1) ≡ Some c → Updates c (kinds_at t k) k duty → IsObligation t duty
  gain-of k c low here h =
      let kind : is_kind_at t k duty.kind ≡ true = from-filtered (is_kind_at t k) _ duty.kind h.kind in
      let number : k ≡ duty.command = sym h.number in
      let of : IsGainDuty t duty = record {
        counted = subst (λ (n : ℕ). 1 ≤ n) number low;
        updated = subst (λ (n : ℕ). option_map_or (updates duty.target duty.right) (command_at t (n - 1)) false ≡ true) number
            (ap (λ o. option_map_or (updates duty.target duty.right) o false) here ∙ h.updated);
        kind = subst (λ (n : ℕ). is_kind_at t n duty.kind ≡ true) number kind;
      } in
      subst (λ (o : Option ℕ). MatchOption o (IsGainDuty t duty) (IsUseDuty t duty)) (sym h.spot) of

  flow-of : (k m : ℕ) (f : FieldInfo) (init : Init) → 1 ≤ k → command_at t (k - 1) ≡ Some (add_field m f init)
      → Contains (flows_at k (kinds_at t k) (on.Field m f.number) init) duty → IsObligation t duty
  flow-of k m f init low here h =
      let one = from-flat (λ n. map (λ a. record { command = k; target = on.Field m f.number; right = Read; spot = Some n; kind = a }) (kinds_at t k))
      (range_with_len 1 (length (init_uses_of init))) duty h in
      let spot : ℕ = one.0 in
      let bounds = from-range 1 (length (init_uses_of init)) spot one.1 in
      let two = from-mapped (λ a. record { command = k; target = on.Field m f.number; right = Read; spot = Some spot; kind = a }) (kinds_at t k) duty one.2 in
      let a : Kind = two.0 in
      let kind : is_kind_at t k a ≡ true = from-filtered (is_kind_at t k) _ a two.1 in
      let Q : Duty → Type 0 = λ u. IsObligation t u in
      subst Q two.2
      (elim (slice_get_cases (init_uses_of init) (spot - 1)).1 [
        | inl found ↦ record {
          right = refl;
          model = m;
          field = f;
          init = init;
          at = found.0;
          flow = record {
            adds = record { counted = low; command = here };
            target = refl;
            numbered = bounds.0;
            used = found.2;
            kind = kind;
          };
        }
        | inr past ↦ absurd (omega (arith, past.0, bounds.0, bounds.1))
      ])

  of-listed : (k : ℕ) (c : Command) → 1 ≤ k → command_at t (k - 1) ≡ Some c → Contains (obligations_at k (kinds_at t k) c) duty → IsObligation t duty
  of-listed k (create_model info) low here h = no-element duty h
  of-listed k (delete_model n) low here h = no-element duty h
  of-listed k (add_static info) low here h = no-element duty h
  of-listed k (remove_static n) low here h = no-element duty h
  of-listed k (add_principal n) low here h = no-element duty h
  of-listed k (add_field m f init) low here h = flow-of k m f init low here h
  of-listed k (remove_field n f) low here h = no-element duty h
  of-listed k (update_field n f read write) low here h =
      let c : Command = update_field n f read write in
      elim (Contains-append_cases (gains_at k (kinds_at t k) (on.Field n f) Read read) (gains_at k (kinds_at t k) (on.Field n f) Write write) duty h) [
        | inl one ↦ gain-of k c low here (from-given c k (kinds_at t k) (on.Field n f) Read read duty (λ e. test-holds n f (is_some read) e) one)
        | inr two ↦ gain-of k c low here (from-given c k (kinds_at t k) (on.Field n f) Write write duty (λ e. test-holds n f (is_some write) e) two)
      ]
  of-listed k (weaken_field n f read write reason) low here h = no-element duty h
  of-listed k (update_model n create delete) low here h =
      let c : Command = update_model n create delete in
      elim (Contains-append_cases (gains_at k (kinds_at t k) (on.Model n) Create create) (gains_at k (kinds_at t k) (on.Model n) Delete delete) duty h) [
        | inl one ↦ gain-of k c low here (from-given c k (kinds_at t k) (on.Model n) Create create duty (λ e. ap (λ b. b && is_some create) (eq-eqb n n refl) ∙ e) one)
        | inr two ↦ gain-of k c low here (from-given c k (kinds_at t k) (on.Model n) Delete delete duty (λ e. ap (λ b. b && is_some delete) (eq-eqb n n refl) ∙ e) two)
      ]
  of-listed k (weaken_model n create delete reason) low here h = no-element duty h

  pub from-list : Contains (obligations_of t) duty → IsObligation t duty
  from-list h =
      let one = from-flat (λ k. option_map_or (obligations_at k (kinds_at t k)) (command_at t (k - 1)) []) (range_with_len 1 (count t)) duty h in
      let k : ℕ = one.0 in
      let bounds = from-range 1 (count t) k one.1 in
      elim (command_at t (k - 1)) as (λ (o : Option Command). command_at t (k - 1) ≡ o → Contains (option_map_or (obligations_at k (kinds_at t k)) o []) duty → IsObligation t duty) [
        | None ↦ λ here e. no-element duty e
        | Some c ↦ λ here e. of-listed k c bounds.0 here e
      ] refl one.2

  gain-listed : duty.spot ≡ None → IsGainDuty t duty → Contains (obligations_of t) duty
  gain-listed spot of =
      let own : Duty = record { command = duty.command; target = duty.target; right = duty.right; spot = None; kind = duty.kind } in
      let same : own ≡ duty = ap (λ o. record { command = duty.command; target = duty.target; right = duty.right; spot = o; kind = duty.kind }) (sym spot) in
      subst (λ (u : Duty). Contains (obligations_of t) u) same
      (elim (command_at t (duty.command - 1)) as (λ (o : Option Command). command_at t (duty.command - 1) ≡ o
      → option_map_or (updates duty.target duty.right) o false ≡ true → Contains (obligations_of t) own) [
        | None ↦ λ here e. cc
        | Some c ↦ λ here e.
            of-command t is duty.command c own of.counted here
            (of-updated duty.command (kinds_at t duty.command) duty.target duty.right c duty.kind e (kind-listed t is duty.command duty.kind of.kind))
      ] refl of.updated)

  use-listed : (spot : ℕ) → duty.spot ≡ Some spot → IsUseDuty t duty spot → Contains (obligations_of t) duty
  use-listed spot e of =
      let target : Target = on.Field of.model of.field.number in
      let own : Duty = record { command = duty.command; target = target; right = Read; spot = Some spot; kind = duty.kind } in
      let same : own ≡ duty
      = ap (λ x. record { command = duty.command; target = x; right = Read; spot = Some spot; kind = duty.kind }) (sym of.flow.target)
      ∙ ap (λ x. record { command = duty.command; target = duty.target; right = x; spot = Some spot; kind = duty.kind }) (sym of.right)
      ∙ ap (λ x. record { command = duty.command; target = duty.target; right = duty.right; spot = x; kind = duty.kind }) (sym e) in
      let within = slice_get_within (init_uses_of of.init) (spot - 1) of.at of.flow.used in
      subst (λ (u : Duty). Contains (obligations_of t) u) same
      (of-command t is duty.command (add_field of.model of.field of.init) own of.flow.adds.counted of.flow.adds.command
      (of-added duty.command (kinds_at t duty.command) target of.init spot duty.kind of.flow.numbered (omega (arith, within, of.flow.numbered))
      (kind-listed t is duty.command duty.kind of.flow.kind)))

  to-list : IsObligation t duty → Contains (obligations_of t) duty
  to-list h =
      elim duty.spot as (λ (o : Option ℕ). duty.spot ≡ o → MatchOption o (IsGainDuty t duty) (IsUseDuty t duty) → Contains (obligations_of t) duty) [
        | None ↦ λ here of. gain-listed here of
        | Some spot ↦ λ here of. use-listed spot here of
      ] refl h

pub obligations-listed : ObligationsAreListed
obligations-listed t is duty = (from-list t is duty, to-list t is duty)
