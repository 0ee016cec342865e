-- A step-secure script is secure: a walk back along its commands.
use Rattle.std.proofs.Common.{◌≡◌, ℕ, zero, suc, ◌+◌, ◌-◌, ◌<◌, ◌≤◌, Bool, true, false, not, List, [], ◌∷◌, refl, ap, sym, ◌∙◌, subst, arith, take, inl, inr}
use Rattle.std.specs.Prelude.{Option, Some, None, is_some, slice_get, Contains}
use Rattle.std.specs.List.{list_any}
use Rattle.std.specs.Option.{option_map_or}
use Rattle.std.proofs.lemmas.Bool.{false_from_ne_true, true_from_ne_false}
use Rattle.std.proofs.lemmas.Option.{slice_get_cases, slice_get_within}
use Rattle.std.proofs.lemmas.List.Folds.{list_any_kept}
use Rattle.type_schema.specs.declared.rights.Right.{Right}
use Rattle.type_schema.specs.declared.rights.Right.TheVariants.{Read}
use Rattle.type_schema.specs.declared.rights.Target.{Target}
use Rattle.type_schema.specs.declared.rights.Target.TheVariants as on
use Rattle.type_schema.specs.Trees.{Policy, Init}
use Rattle.type_schema.specs.Schema.{FieldInfo, ModelInfo, Schema, model_of, field_of, policy_in, model_of_target}
use Rattle.type_schema.specs.Commands.{Command, create_model, delete_model, add_static, remove_static, add_principal, add_field, remove_field, update_field, weaken_field, update_model, weaken_model, schema_after}
use Rattle.type_schema.specs.Proper.{IsProper}
use Rattle.type_schema.specs.Script.{Script, schema_at, command_at, count, IsScript}
use Rattle.type_schema.specs.Kinds.{has_kind, is_dropped, is_kind_at, same_kind, dropped_by}
use Rattle.data_meaning.specs.declared.principals.Principal.{Principal}
use Rattle.data_meaning.specs.Database.{Database, has_record, is_there}
use Rattle.data_meaning.specs.declared.cells.Cell.{Cell}
use Rattle.data_meaning.specs.Meaning.{allows}
use Rattle.data_meaning.specs.Touched.{init_touched}
use Rattle.data_meaning.specs.Run.{after_command, after_if_any, run_to}
use Rattle.data_meaning.specs.Gain.{IsStart, kind_of, is_principal_at, policy_at, has_right_at, updates, weakens, is_weakened, has_target, Gain, may_read_at}
use Rattle.data_meaning.specs.Secure.{ReadsAdded, IsStepSecure, StepsSecureWhole}
use Rattle.data_meaning.proofs.Tests.{and-left, and-right, and-both, or-left, or-right, not-true, same_or_less}
use Rattle.data_meaning.proofs.Policies.{IsOld}
use Rattle.data_meaning.proofs.Kept.{policy-kept, policy-typed, field-below, model-below}
use Rattle.data_meaning.proofs.Meanings.{allows-kept, record-before, there-before}

-- ---- tests

none-passes : {A : Type 0} (p : A → Bool) (xs : List A) (k : ℕ) (x : A) → list_any p xs ≡ false → slice_get xs k ≡ Some x → p x ≡ false
none-passes p [] k x none h = cc
none-passes p (y ∷ xs) zero x none h = let same : y ≡ x = cc in ap p (sym same) ∙ or-left (p y) _ none
none-passes p (y ∷ xs) (suc k) x none h = none-passes p xs k x (or-right (p y) _ none) h

-- ---- numbers stay old

old-after : (s : Schema) (c : Command) (target : Target) → IsOld s target → IsOld (schema_after s c) target
old-after s (create_model info) (on.Field m f) h = omega (arith, h)
old-after s (create_model info) (on.Model m) h = omega (arith, h)
old-after s (delete_model n) (on.Field m f) h = h
old-after s (delete_model n) (on.Model m) h = h
old-after s (add_static info) (on.Field m f) h = h
old-after s (add_static info) (on.Model m) h = h
old-after s (remove_static n) (on.Field m f) h = h
old-after s (remove_static n) (on.Model m) h = h
old-after s (add_principal n) (on.Field m f) h = h
old-after s (add_principal n) (on.Model m) h = h
old-after s (add_field n g init) (on.Field m f) h = omega (arith, h)
old-after s (add_field n g init) (on.Model m) h = h
old-after s (remove_field n g) (on.Field m f) h = h
old-after s (remove_field n g) (on.Model m) h = h
old-after s (update_field n g read write) (on.Field m f) h = h
old-after s (update_field n g read write) (on.Model m) h = h
old-after s (weaken_field n g read write reason) (on.Field m f) h = h
old-after s (weaken_field n g read write reason) (on.Model m) h = h
old-after s (update_model n create delete) (on.Field m f) h = h
old-after s (update_model n create delete) (on.Model m) h = h
old-after s (weaken_model n create delete reason) (on.Field m f) h = h
old-after s (weaken_model n create delete reason) (on.Model m) h = h

-- what is there has an old number
old-there : (s : Schema) (target : Target) → IsProper s → has_target s target ≡ true → IsOld s target
old-there s (on.Field m f) proper h =
    elim (field_of s m f) as (λ (o : Option FieldInfo). field_of s m f ≡ o → is_some o ≡ true → f < s.next_field) [
      | None ↦ λ here e. cc
      | Some g ↦ λ here e. field-below s m f g proper here
    ] refl h
old-there s (on.Model m) proper h =
    elim (model_of s m) as (λ (o : Option ModelInfo). model_of s m ≡ o → is_some o ≡ true → m < s.next_model) [
      | None ↦ λ here e. cc
      | Some i ↦ λ here e. model-below s m i proper here
    ] refl h

-- ---- the walk

module _ (t : Script) (is : IsScript t) (d : Database) (q : Principal) where
  -- the command behind the first k, one of the script's
  command-there : (k : ℕ) → k < count t → (c : Command) × (command_at t k ≡ Some c)
  command-there k below =
      elim (slice_get_cases t.commands k).1 [
        | inl found ↦ (found.0, found.2)
        | inr past ↦ absurd (omega (arith, past.0, below))
      ]

  old-rises : (target : Target) (j k : ℕ) → j ≤ k → k ≤ count t → IsOld (schema_at t j) target → IsOld (schema_at t k) target
  old-rises target j zero rises within old = let e : j ≡ 0 = omega (arith, rises) in subst (λ (i : ℕ). IsOld (schema_at t i) target) e old
  old-rises target j (suc k) rises within old =
      elim (same_or_less j k rises) [
        | inl same ↦ subst (λ (i : ℕ). IsOld (schema_at t i) target) same old
        | inr less ↦
            let below : k < count t = omega (arith, within) in
            let c = command-there k below in
            let before = old-rises target j k less (omega (arith, within)) old in
            subst (λ (s : Schema). IsOld s target) (sym (is.steps k c.0 c.1)) (old-after (schema_at t k) c.0 target before)
      ]

  run-after : (k : ℕ) (c : Command) → command_at t k ≡ Some c → run_to t (suc k) d ≡ after_command c (run_to t k d)
  run-after k c here = ap (λ o. after_if_any o (run_to t k d)) here

  kind-before : (k : ℕ) → is_kind_at t (suc k) (kind_of q) ≡ true → is_kind_at t k (kind_of q) ≡ true
  kind-before k h =
      let drops : Command → Bool = λ c. option_map_or (same_kind (kind_of q)) (dropped_by c) false in
      let any : Bool = list_any (λ s. has_kind s (kind_of q)) t.schemas in
      let later : is_dropped (kind_of q) (take (suc k) t.commands) ≡ false = not-true _ (and-right any _ h) in
      let number : suc k ≡ k + 1 = omega arith in
      let kept : is_dropped (kind_of q) (take k t.commands) ≡ false
      = false_from_ne_true _ (λ dropped.
      let still : list_any drops (take (k + 1) t.commands) ≡ true = list_any_kept drops t.commands k dropped in
      let never : false ≡ true = sym later ∙ ap (λ n. list_any drops (take n t.commands)) number ∙ still in
      cc) in
      and-both any _ (and-left any _ h) (ap not kept)

  principal-before : (k : ℕ) → k < count t → is_principal_at t (suc k) (run_to t (suc k) d) q ≡ true → is_principal_at t k (run_to t k d) q ≡ true
  principal-before k below h =
      let c = command-there k below in
      let there : is_there (after_command c.0 (run_to t k d)) q ≡ true
      = subst (λ (e : Database). is_there e q ≡ true) (run-after k c.0 c.1) (and-right (is_kind_at t (suc k) (kind_of q)) _ h) in
      and-both _ _ (kind-before k (and-left _ (is_there (run_to t (suc k) d) q) h)) (there-before c.0 (run_to t k d) q there)

  module _ (secure : IsStepSecure t) (start : IsStart t d) (target : Target) (right : Right) (free : is_weakened t target right ≡ false) (id : ℕ) where
    -- the principal is one, the record is there, and the principal has the right on it after k commands
    record Holds (k : ℕ) : Type 0 where
      record_there : has_record (run_to t k d) (model_of_target target) id ≡ true
      principal : is_principal_at t k (run_to t k d) q ≡ true
      has_right : has_right_at t k target right d id q ≡ true

    -- at a command that does not update the right
    right-kept : (k : ℕ) (c : Command) → command_at t k ≡ Some c → k < count t → IsOld (schema_at t k) target → updates target right c ≡ false
        → has_right_at t (suc k) target right d id q ≡ true → has_right_at t k target right d id q ≡ true
    right-kept k c here below old untouched h =
        elim (policy_at t (suc k) target right) as (λ (o : Option Policy). policy_at t (suc k) target right ≡ o
        → option_map_or (λ policy. allows (run_to t (suc k) d) policy id q) o false ≡ true → has_right_at t k target right d id q ≡ true) [
          | None ↦ λ in_force e. cc
          | Some p ↦ λ in_force e.
              let s = schema_at t k in
              let steps : schema_at t (suc k) ≡ schema_after s c = is.steps k c here in
              let unweakened : weakens target right c ≡ false = none-passes (weakens target right) t.commands k c free here in
              let after_it : policy_in (schema_after s c) target right ≡ Some p
              = subst (λ (u : Schema). policy_in u target right ≡ Some p) steps in_force in
              let before_it : policy_in s target right ≡ Some p = policy-kept s c (is.commands k c here) p target right old untouched unweakened after_it in
              let proper = is.proper k (omega (arith, below)) in
              let proper_after : IsProper (schema_after s c) = subst IsProper steps (is.proper (suc k) (omega (arith, below))) in
              let same : allows (after_command c (run_to t k d)) p id q ≡ allows (run_to t k d) p id q
              = allows-kept s proper (model_of_target target) p (policy-typed s p proper.typed target right before_it) (run_to t k d) id q c (is.commands k c here)
              (policy-typed (schema_after s c) p proper_after.typed target right after_it) in
              ap (λ (o : Option Policy). option_map_or (λ policy. allows (run_to t k d) policy id q) o false) before_it
              ∙ sym same ∙ ap (λ (u : Database). allows u p id q) (sym (run-after k c here)) ∙ e
        ] refl h

    -- at a command that updates it
    right-updated : (k : ℕ) (c : Command) → command_at t k ≡ Some c → updates target right c ≡ true → Holds (suc k) → has_right_at t k target right d id q ≡ true
    right-updated k c here updated h =
        let number : suc k - 1 ≡ k = omega arith in
        true_from_ne_false _ (λ before. secure.no_gain (suc k) target right d id q (record {
          start = start;
          counted = omega arith;
          updated = ap (λ (n : ℕ). option_map_or (updates target right) (command_at t n) false) number
              ∙ ap (λ (o : Option Command). option_map_or (updates target right) o false) here ∙ updated;
          record_there = h.record_there;
          principal = h.principal;
          after = h.has_right;
          before = ap (λ (n : ℕ). has_right_at t n target right d id q) number ∙ before;
        }))

    one-back : (k : ℕ) → k < count t → IsOld (schema_at t k) target → Holds (suc k) → Holds k
    one-back k below old h =
        let c = command-there k below in
        record {
          record_there = record-before c.0 (run_to t k d) (model_of_target target) id
              (subst (λ (e : Database). has_record e (model_of_target target) id ≡ true) (run-after k c.0 c.1) h.record_there);
          principal = principal-before k below h.principal;
          has_right = elim (updates target right c.0) as (λ (b : Bool). updates target right c.0 ≡ b → has_right_at t k target right d id q ≡ true) [
            | true ↦ λ updated. right-updated k c.0 c.1 updated h
            | false ↦ λ untouched. right-kept k c.0 c.1 below old untouched h.has_right
          ] refl;
        }

    -- back from k to j, where the target was old by then
    back : (j k : ℕ) → j ≤ k → k ≤ count t → IsOld (schema_at t j) target → Holds k → Holds j
    back j zero back_to within old h = let e : j ≡ 0 = omega (arith, back_to) in subst Holds (sym e) h
    back j (suc k) back_to within old h =
        elim (same_or_less j k back_to) [
          | inl same ↦ subst Holds (sym same) h
          | inr less ↦
              let earlier : k ≤ count t = omega (arith, within) in
              back j k less earlier old (one-back k (omega (arith, within)) (old-rises target j k less earlier old) h)
        ]

-- ---- the law

no-gain : (t : Script) → IsScript t → IsStepSecure t → (target : Target) (right : Right) → is_weakened t target right ≡ false
    → (d : Database) (id : ℕ) (q : Principal) → Gain t target right d id q → ⊥
no-gain t is secure target right free d id q g =
    let old = old-there (schema_at t 0) target (is.proper 0 (omega arith)) g.survives.first in
    let first = back t is d q secure g.start target right free id 0 (count t) (omega arith) (omega arith) old
    (record { record_there = g.record_there; principal = g.principal; has_right = g.after }) in
    let never : true ≡ false = sym first.has_right ∙ g.before in
    cc

no-flow : (t : Script) → IsScript t → IsStepSecure t → (k m : ℕ) (f : FieldInfo) (init : Init) (d : Database) (id : ℕ) (q : Principal) → ReadsAdded t k m f init d id q
    → (cell : Cell) → Contains (init_touched (run_to t k d) init id) cell → may_read_at t k d cell q ≡ true
no-flow t is secure k m f init d id q r cell touches =
    let within : k - 1 < count t = slice_get_within t.commands (k - 1) (add_field m f init) r.adds.command in
    let number : suc (k - 1) ≡ k = omega (arith, r.adds.counted) in
    let added : schema_at t k ≡ schema_after (schema_at t (k - 1)) (add_field m f init)
    = ap (schema_at t) (sym number) ∙ is.steps (k - 1) (add_field m f init) r.adds.command in
    let free_number : f.number ≡ (schema_at t (k - 1)).next_field = (is.commands (k - 1) (add_field m f init) r.adds.command).1 in
    let old : f.number < (schema_at t k).next_field
    = subst (λ (s : Schema). f.number < s.next_field) (sym added) (omega (arith, free_number)) in
    let then_holds = back t is d q secure r.start (on.Field m f.number) Read r.not_weakened id k (count t) (omega (arith, within, r.adds.counted)) (omega arith) old
    (record { record_there = r.record_there; principal = r.principal; has_right = r.reads }) in
    true_from_ne_false _ (λ denied. secure.no_flow k d id q cell (record {
      start = r.start;
      model = m;
      field = f;
      init = init;
      adds = r.adds;
      record_there = then_holds.record_there;
      principal = then_holds.principal;
      reads = then_holds.has_right;
      touches = touches;
      denied = denied;
    }))

pub whole : StepsSecureWhole
whole t is secure = record { no_gain = no-gain t is secure; no_flow = no-flow t is secure }
