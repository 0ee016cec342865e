-- A gain on a database with the tables of the models in their order is a witness on it.
use Rattle.std.proofs.Common.{◌≡◌, ℕ, zero, suc, ◌-◌, ◌≤◌, cond, Bool, true, false, ◌&&◌, List, [], ◌∷◌, ◌++◌, refl, sym, ◌∙◌, ap, subst, arith, inl, inr}
use Rattle.std.specs.Prelude.{Option, Some, None, is_some, filter, slice_get, ◌==◌, ◌⊎◌}
use Rattle.std.specs.List.{find, flat_map}
use Rattle.std.specs.Option.{option_map, option_map_or}
use Rattle.std.proofs.lemmas.Option.{slice_get_within, get_or_from_slice_get}
use Rattle.type_schema.specs.declared.rights.Right.{Right}
use Rattle.type_schema.specs.declared.rights.Right.TheVariants.{Read, Write, Create, Delete}
use Rattle.type_schema.specs.declared.rights.Target.{Target}
use Rattle.type_schema.specs.declared.rights.Target.TheVariants as on
use Rattle.type_schema.specs.declared.rights.Kind.TheVariants as kind
use Rattle.type_schema.specs.Schema.{StaticInfo, Schema, field_of, model_of, model_of_target, static_of, policy_in}
use Rattle.type_schema.specs.Commands.{Command, create_model, delete_model, add_static, remove_static, add_principal, add_field, remove_field, update_field, weaken_field, update_model, weaken_model, schema_after}
use Rattle.type_schema.specs.Script.{Script, schema_at, command_at, count, IsScript}
use Rattle.type_schema.specs.Kinds.{has_kind, is_kind_at}
use Rattle.data_meaning.specs.declared.principals.Principal.{Principal}
use Rattle.data_meaning.specs.declared.principals.Principal.TheVariants.{Static, Rec}
use Rattle.data_meaning.specs.Database.{Database, has_record}
use Rattle.data_meaning.specs.Run.{after_if_any, run_to}
use Rattle.data_meaning.specs.Gain.{is_principal_at, has_target, updates}
use Rattle.data_meaning.proofs.Meanings.{record-before}
use Rattle.duty_meaning.proofs.Created.{command-there}
use Rattle.duty_meaning.proofs.Shown.{some-passes}
use Rattle.check_witness.specs.Printed.{statics_by}
use Rattle.check_report_back.specs.Told.{statics_in}
use Rattle.check_report_back.specs.Printed.{IsPrincipalOn, IsCellOn, GainsAreWitnesses}
use Rattle.check_report_back.proofs.Searches.{in-first}

both-true : (a b : Bool) → a && b ≡ true → (a ≡ true) × (b ≡ true)
both-true true b e = (refl, e)
both-true false b e = cc

-- ---- the target

map-some : {A B : Type 0} (o : Option A) (g : A → B) (p : B → Bool) → option_map_or p (option_map g o) false ≡ true → is_some o ≡ true
map-some None g p e = cc
map-some (Some x) g p e = refl

pub right-there : (s : Schema) (target : Target) (right : Right) (p : _ → Bool) → option_map_or p (policy_in s target right) false ≡ true → has_target s target ≡ true
right-there s (on.Field m f) Read p e = map-some (field_of s m f) _ p e
right-there s (on.Field m f) Write p e = map-some (field_of s m f) _ p e
right-there s (on.Field m f) Create p e = cc
right-there s (on.Field m f) Delete p e = cc
right-there s (on.Model m) Read p e = cc
right-there s (on.Model m) Write p e = cc
right-there s (on.Model m) Create p e = map-some (model_of s m) _ p e
right-there s (on.Model m) Delete p e = map-some (model_of s m) _ p e

-- ---- records: no command makes one

there-if-any : (o : Option Command) (d : Database) (m id : ℕ) → has_record (after_if_any o d) m id ≡ true → has_record d m id ≡ true
there-if-any None d m id h = h
there-if-any (Some c) d m id h = record-before c d m id h

pub there-first : (t : Script) (k : ℕ) (d : Database) (m id : ℕ) → has_record (run_to t k d) m id ≡ true → has_record d m id ≡ true
there-first t zero d m id h = h
there-first t (suc k) d m id h = there-first t k d m id (there-if-any (command_at t k) (run_to t k d) m id h)

-- ---- statics: each is there at first, or a command adds it

later : {A : Type 0} (p : A → Bool) (xs ys : List A) → is_some (find p ys) ≡ true → is_some (find p (xs ++ ys)) ≡ true
later p [] ys e = e
later {A} p (x ∷ xs) ys e =
    elim (p x) as (λ (b : Bool). is_some (cond b (Some x) (find p (xs ++ ys))) ≡ true) [ true ↦ refl | false ↦ later p xs ys e ]

filtered : {A : Type 0} (p q : A → Bool) (xs : List A) → is_some (find p (filter q xs)) ≡ true → is_some (find p xs) ≡ true
filtered p q [] e = e
filtered {A} p q (x ∷ xs) e =
    elim (q x) as (λ (b : Bool). is_some (find p (cond b (x ∷ filter q xs) (filter q xs))) ≡ true → is_some (cond (p x) (Some x) (find p xs)) ≡ true) [
      | true ↦
          elim (p x) as (λ (b : Bool). is_some (cond b (Some x) (find p (filter q xs))) ≡ true → is_some (cond b (Some x) (find p xs)) ≡ true) [
            | true ↦ λ h. refl
            | false ↦ λ h. filtered p q xs h
          ]
      | false ↦ λ h. elim (p x) as (λ (b : Bool). is_some (cond b (Some x) (find p xs)) ≡ true) [ true ↦ refl | false ↦ filtered p q xs h ]
    ] e

made : {A C : Type 0} (p : A → Bool) (by : C → List A) (cs : List C) (j : ℕ) (c : C) → slice_get cs j ≡ Some c → is_some (find p (by c)) ≡ true → is_some (find p (flat_map by cs)) ≡ true
made p by [] j c e h = cc
made p by (b ∷ cs) zero c e h = let same : b ≡ c = cc in in-first p (by b) (flat_map by cs) (ap (λ x. is_some (find p (by x))) same ∙ h)
made p by (b ∷ cs) (suc j) c e h = later p (by b) (flat_map by cs) (made p by cs j c e h)

one-more : {A : Type 0} (p : A → Bool) (xs : List A) (y : A) → is_some (find p (xs ++ y ∷ [])) ≡ true → (is_some (find p xs) ≡ true) ⊎ (is_some (find p (y ∷ [])) ≡ true)
one-more p [] y e = inr e
one-more {A} p (x ∷ xs) y e =
    elim (p x) as (λ (b : Bool). is_some (cond b (Some x) (find p (xs ++ y ∷ []))) ≡ true → (is_some (cond b (Some x) (find p xs)) ≡ true) ⊎ (is_some (find p (y ∷ [])) ≡ true)) [
      | true ↦ λ h. inl refl
      | false ↦ λ h. one-more p xs y h
    ] e

module _ (t : Script) (script : IsScript t) (n : ℕ) where
  abbrev is-it : StaticInfo → Bool
  is-it i = i.number == n

  abbrev InScript : Type 0
  InScript = is_some (find is-it (statics_in t)) ≡ true

  static-before : (k : ℕ) (c : Command) → command_at t k ≡ Some c → (is_some (static_of (schema_at t k) n) ≡ true → InScript)
      → is_some (static_of (schema_after (schema_at t k) c) n) ≡ true → InScript
  static-before k (create_model info) here before h = before h
  static-before k (delete_model m) here before h = before h
  static-before k (add_static info) here before h = either (one-more is-it (schema_at t k).statics info h)
    where
      either : (is_some (find is-it (schema_at t k).statics) ≡ true) ⊎ (is_some (find is-it (info ∷ [])) ≡ true) → InScript
      either (inl e) = before e
      either (inr e) = later is-it t.start.statics (flat_map statics_by t.commands) (made is-it statics_by t.commands k (add_static info) here e)
  static-before k (remove_static m) here before h = before (filtered is-it _ (schema_at t k).statics h)
  static-before k (add_principal m) here before h = before h
  static-before k (add_field m f init) here before h = before h
  static-before k (remove_field m f) here before h = before h
  static-before k (update_field m f read write) here before h = before h
  static-before k (weaken_field m f read write reason) here before h = before h
  static-before k (update_model m create delete) here before h = before h
  static-before k (weaken_model m create delete reason) here before h = before h

  static-listed : (k : ℕ) → k ≤ count t → is_some (static_of (schema_at t k) n) ≡ true → InScript
  static-listed zero low h =
      in-first is-it t.start.statics (flat_map statics_by t.commands) (ap (λ (s : Schema). is_some (find is-it s.statics)) script.start ∙ h)
  static-listed (suc k) low h =
      let c = command-there t script k (omega (arith, low)) in
      static-before k c.0 c.1 (static-listed k (omega (arith, low)))
      (ap (λ (s : Schema). is_some (static_of s n)) (sym (script.steps k c.0 c.1)) ∙ h)

  static-there : (k : ℕ) → is_kind_at t k (kind.Static n) ≡ true → InScript
  static-there k h =
      let one = some-passes (λ s. has_kind s (kind.Static n)) t.schemas (both-true _ _ h).0 in
      let same : schema_at t one.0 ≡ one.1 = get_or_from_slice_get t.schemas one.0 one.1 t.start one.2 in
      let number = slice_get_within t.schemas one.0 one.1 one.2 in
      static-listed one.0 (omega (arith, number, script.schemas)) (ap (λ (s : Schema). is_some (static_of s n)) same ∙ one.3)

-- ---- gains

pub who-there : (t : Script) → IsScript t → (k : ℕ) (d : Database) (q : Principal) → is_principal_at t k (run_to t k d) q ≡ true → IsPrincipalOn t d q
who-there t script k d (Static n) h = static-there t script n k (both-true _ _ h).0
who-there t script k d (Rec m id) h = there-first t k d m id (both-true _ _ h).1

within : (t : Script) (k : ℕ) (p : Command → Bool) → 1 ≤ k → option_map_or p (command_at t (k - 1)) false ≡ true → k ≤ count t
within t k p low h =
    elim (command_at t (k - 1)) as (λ (o : Option Command). command_at t (k - 1) ≡ o → option_map_or p o false ≡ true → k ≤ count t) [
      | None ↦ λ _ e. cc
      | Some c ↦ λ here e. let below = slice_get_within t.commands (k - 1) c here in omega (arith, below, low)
    ] refl h

pub gains-are : GainsAreWitnesses
gains-are t script w order none gain = record {
  command = record { first = gain.counted; last = within t w.command (updates w.target w.right) gain.counted gain.updated };
  target = right-there (schema_at t w.command) w.target w.right _ gain.after;
  base = record { database = gain.start.over; order = order };
  row = there-first t w.command w.base (model_of_target w.target) w.row gain.record_there;
  who = who-there t script w.command w.base w.who gain.principal;
  cell = subst (IsCellOn t w.command w.base) (sym none) tt;
}
