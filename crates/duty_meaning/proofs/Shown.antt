-- What a schema says is shown, piece by piece, and stays shown after a command that adds nothing.
use Rattle.std.proofs.Common.{◌≡◌, ℕ, suc, ◌<◌, Bool, true, false, not, List, [], ◌∷◌, length, refl, ap, sym, ◌∙◌, subst, cond, inl, inr}
use Rattle.std.specs.Prelude.{Option, Some, None, filter, ◌==◌, is_some, slice_get, option_and_then}
use Rattle.std.specs.List.{find, list_any}
use Rattle.std.specs.Option.{option_map, option_map_or}
use Rattle.type_schema.specs.declared.types.TBase.TheVariants as base
use Rattle.type_schema.specs.declared.types.TTy.{TTy}
use Rattle.type_schema.specs.Schema.{FieldInfo, ModelInfo, Schema, model_in, field_in, model_of, field_of, type_of}
use Rattle.type_schema.specs.Typing.{HasModel}
use Rattle.type_schema.specs.Commands.{Command, create_model, delete_model, add_static, remove_static, add_principal, add_field, remove_field, update_field, weaken_field, update_model, weaken_model, change_model, without_field, with_field_policies, with_model_policies, schema_after, IsCommand}
use Rattle.type_schema.specs.Proper.{IsProper}
use Rattle.data_meaning.specs.Values.{Value}
use Rattle.data_meaning.specs.Database.{Database, ids_of, field_at}
use Rattle.data_meaning.specs.Meaning.{id_of}
use Rattle.data_meaning.specs.Run.{after_command}
use Rattle.data_meaning.proofs.Agreement.{Agree}
use Rattle.data_meaning.proofs.Tests.{or-true}
use Rattle.data_meaning.proofs.Kept.{field-below}
use Rattle.data_meaning.proofs.Meanings.{agree-removed, agree-deleted}
use Rattle.data_meaning.proofs.Policies.{model-changed, numbered-from, both-same}
use Rattle.data_meaning.proofs.Policies as kept
use Rattle.form_formula.specs.declared.structure.Structure.{Structure}
use Rattle.form_formula.specs.Trees.{Term}
use Rattle.form_formula.specs.Truth.{size_of}
use Rattle.duty_meaning.specs.Structures.{sort_of, element_of}
use Rattle.duty_meaning.specs.Cases.{Cases, held}
use Rattle.duty_meaning.specs.Formulas.{Written, field_cases}
use Rattle.duty_meaning.proofs.Means.{HasType, IsTermOf, Means}
use Rattle.duty_meaning.proofs.Meanings.{Shows}

pub some-passes : {A : Type 0} (p : A → Bool) (xs : List A) → list_any p xs ≡ true → (k : ℕ) × (x : A) × (slice_get xs k ≡ Some x) × (p x ≡ true)
some-passes p [] h = cc
some-passes p (y ∷ xs) h =
    elim (or-true (p y) _ h) [
      | inl here ↦ (0, y, refl, here)
      | inr later ↦ let one = some-passes p xs later in (suc one.0, one.1, one.2, one.3)
    ]

pub has-field : (s : Schema) (m f : ℕ) (t : TTy) → type_of s m f ≡ Some t → (g : FieldInfo) × (field_of s m f ≡ Some g)
has-field s m f t h =
    elim (field_of s m f) as (λ (o : Option FieldInfo). option_map (λ (g : FieldInfo). g.ty) o ≡ Some t → (g : FieldInfo) × (o ≡ Some g)) [
      | None ↦ λ e. cc
      | Some g ↦ λ e. (g, refl)
    ] h

pub model-of-field : (s : Schema) (n f : ℕ) → is_some (field_of s n f) ≡ true → HasModel s n
model-of-field s n f h =
    elim (model_of s n) as (λ (o : Option ModelInfo). is_some (option_and_then (λ (i : ModelInfo). field_in i.fields f) o) ≡ true → is_some o ≡ true) [
      | None ↦ λ e. e
      | Some i ↦ λ e. refl
    ] h

-- an element that passes is among all where it is among some
pub some-unfiltered : {A : Type 0} (p keep : A → Bool) (xs : List A) → is_some (find p (filter keep xs)) ≡ true → is_some (find p xs) ≡ true
some-unfiltered p keep [] h = h
some-unfiltered {A} p keep (x ∷ xs) h =
    elim (p x) as (λ (t : Bool). p x ≡ t → is_some (cond t (Some x) (find p xs)) ≡ true) [
      | true ↦ λ here. refl
      | false ↦ λ here.
          some-unfiltered p keep xs
          ((elim (keep x) as (λ (t : Bool). is_some (find p (cond t (x ∷ filter keep xs) (filter keep xs))) ≡ true → is_some (find p (filter keep xs)) ≡ true) [
            | true ↦ λ k. ap (λ t. is_some (cond t (Some x) (find p (filter keep xs)))) (sym here) ∙ k
            | false ↦ λ k. k
          ]) h)
    ] refl

-- ---- what is shown, piece by piece

module _ (b : Schema) (st : Structure) (d : Database) where
  abbrev pub ShownField : Written → Database → ℕ → ℕ → TTy → Type 0
  ShownField written now m f t =
      ((xs : List ℕ) (v : Value) (u : Term) → IsTermOf b st d xs (base.Id m) v u → Means b st d xs t (field_at now m (id_of v) f) (field_cases b written m f u))
      × ((u : Term) → HasType b t (field_cases b written m f u))

  abbrev pub ShownModel : Database → ℕ → Type 0
  ShownModel now m =
      (ids_of now m ≡ ids_of d m) × (size_of st (sort_of b m) ≡ length (ids_of d m))
      × ((k id : ℕ) → slice_get (ids_of d m) k ≡ Some id → element_of d m id ≡ k)

  pub shows-all : (s : Schema) (written : Written) (now : Database)
      → ((m f : ℕ) (t : TTy) → type_of s m f ≡ Some t → ShownField written now m f t) → ((m : ℕ) → HasModel s m → ShownModel now m)
      → Shows b s written st d now
  shows-all s written now fields models = record {
    fields = λ m f t h. (fields m f t h).0;
    types = λ m f t h. (fields m f t h).1;
    ids = λ m h. (models m h).0;
    sizes = λ m h. (models m h).1;
    elements = λ m h. (models m h).2;
  }

  pub shown-field : (s : Schema) (written : Written) (now : Database) → Shows b s written st d now
      → (m f : ℕ) (t : TTy) → type_of s m f ≡ Some t → ShownField written now m f t
  shown-field s written now shows m f t h = (λ xs v u it. shows.fields m f t h xs v u it, λ u. shows.types m f t h u)

  pub shown-model : (s : Schema) (written : Written) (now : Database) → Shows b s written st d now → (m : ℕ) → HasModel s m → ShownModel now m
  shown-model s written now shows m h = (shows.ids m h, shows.sizes m h, λ k id e. shows.elements m h k id e)

  pub field-moved : (written : Written) (now later : Database) (m f : ℕ) (t : TTy) → ((id : ℕ) → field_at later m id f ≡ field_at now m id f)
      → ShownField written now m f t → ShownField written later m f t
  field-moved written now later m f t same h = (
    λ xs v u it. subst (λ (w : Value). Means b st d xs t w (field_cases b written m f u)) (sym (same (id_of v))) (h.0 xs v u it),
    h.1,
  )

  pub written-moved : (written other : Written) (now : Database) (m f : ℕ) (t : TTy) → written m f ≡ other m f
      → ShownField written now m f t → ShownField other now m f t
  written-moved written other now m f t same h = (
    λ xs v u it. subst (λ (o : Option (Term → Cases)). Means b st d xs t (field_at now m (id_of v) f) (option_map_or (λ (at : Term → Cases). at u) o (held m f u))) same (h.0 xs v u it),
    λ u. subst (λ (o : Option (Term → Cases)). HasType b t (option_map_or (λ (at : Term → Cases). at u) o (held m f u))) same (h.1 u),
  )

  pub model-moved : (now later : Database) (m : ℕ) → ids_of later m ≡ ids_of now m → ShownModel now m → ShownModel later m
  model-moved now later m same h = (same ∙ h.0, h.1, h.2)

  -- a schema that says no more, of a database that agrees on it
  pub shows-less : (s less : Schema) (written : Written) (now later : Database) → Shows b s written st d now → Agree less later now
      → ((m f : ℕ) (t : TTy) → type_of less m f ≡ Some t → type_of s m f ≡ Some t) → ((m : ℕ) → HasModel less m → HasModel s m)
      → Shows b less written st d later
  shows-less s less written now later shows agree fields models =
      shows-all less written later
      (λ m f t h. field-moved written now later m f t (λ id. agree.fields m f id t h) (shown-field s written now shows m f t (fields m f t h)))
      (λ m h. model-moved now later m (agree.models m h) (shown-model s written now shows m (models m h)))

-- ---- a command that adds neither a model nor a field

pub agree-itself : (s : Schema) (d : Database) → Agree s d d
agree-itself s d = record { fields = λ m f id t h. refl; models = λ m h. refl }

abbrev pub AddsNothing : Command → Type 0
AddsNothing (create_model info) = ⊥
AddsNothing (delete_model n) = Unit {0}
AddsNothing (add_static info) = Unit {0}
AddsNothing (remove_static n) = Unit {0}
AddsNothing (add_principal n) = Unit {0}
AddsNothing (add_field n f init) = ⊥
AddsNothing (remove_field n f) = Unit {0}
AddsNothing (update_field n f read write) = Unit {0}
AddsNothing (weaken_field n f read write reason) = Unit {0}
AddsNothing (update_model n create delete) = Unit {0}
AddsNothing (weaken_model n create delete reason) = Unit {0}

module _ (s : Schema) where
  pub agrees : (c : Command) → AddsNothing c → (now : Database) → Agree (schema_after s c) (after_command c now) now
  agrees (create_model info) h now = absurd h
  agrees (delete_model n) h now = agree-deleted s n now
  agrees (add_static info) h now = agree-itself (schema_after s (add_static info)) now
  agrees (remove_static n) h now = agree-itself (schema_after s (remove_static n)) now
  agrees (add_principal n) h now = agree-itself (schema_after s (add_principal n)) now
  agrees (add_field n f init) h now = absurd h
  agrees (remove_field n f) h now = agree-removed s n f now
  agrees (update_field n f read write) h now = agree-itself (schema_after s (update_field n f read write)) now
  agrees (weaken_field n f read write reason) h now = agree-itself (schema_after s (weaken_field n f read write reason)) now
  agrees (update_model n create delete) h now = agree-itself (schema_after s (update_model n create delete)) now
  agrees (weaken_model n create delete reason) h now = agree-itself (schema_after s (weaken_model n create delete reason)) now

  pub same-next : (c : Command) → AddsNothing c → (schema_after s c).next_field ≡ s.next_field
  same-next (create_model info) h = absurd h
  same-next (delete_model n) h = refl
  same-next (add_static info) h = refl
  same-next (remove_static n) h = refl
  same-next (add_principal n) h = refl
  same-next (add_field n f init) h = absurd h
  same-next (remove_field n f) h = refl
  same-next (update_field n f read write) h = refl
  same-next (weaken_field n f read write reason) h = refl
  same-next (update_model n create delete) h = refl
  same-next (weaken_model n create delete reason) h = refl

  pub changed-there : (n : ℕ) (change : ModelInfo → ModelInfo) → ((i : ModelInfo) → (change i).number ≡ i.number) → (m : ℕ)
      → is_some (model_in (change_model n change s.models) m) ≡ true → is_some (model_of s m) ≡ true
  changed-there n change keeps m h = model-changed n change keeps (λ (o : Option ModelInfo). is_some o ≡ true) s.models m (λ e i r. refl) h

  pub model-there : (c : Command) → AddsNothing c → (m : ℕ) → HasModel (schema_after s c) m → HasModel s m
  model-there (create_model info) a m h = absurd a
  model-there (delete_model n) a m h = some-unfiltered (λ (i : ModelInfo). i.number == m) (λ (i : ModelInfo). not (i.number == n)) s.models h
  model-there (add_static info) a m h = h
  model-there (remove_static n) a m h = h
  model-there (add_principal n) a m h = changed-there n (λ (i : ModelInfo). record i { principal = true }) (λ i. refl) m h
  model-there (add_field n f init) a m h = absurd a
  model-there (remove_field n f) a m h = changed-there n (without_field f) (λ i. refl) m h
  model-there (update_field n f read write) a m h = changed-there n (with_field_policies f read write) (λ i. refl) m h
  model-there (weaken_field n f read write reason) a m h = changed-there n (with_field_policies f read write) (λ i. refl) m h
  model-there (update_model n create delete) a m h = changed-there n (with_model_policies create delete) (λ i. refl) m h
  model-there (weaken_model n create delete reason) a m h = changed-there n (with_model_policies create delete) (λ i. refl) m h

  pub field-there : (c : Command) → AddsNothing c → IsCommand s c → IsProper (schema_after s c) → (m f : ℕ) (t : TTy) → type_of (schema_after s c) m f ≡ Some t → type_of s m f ≡ Some t
  field-there c a is proper m f t h =
      let there = has-field (schema_after s c) m f t h in
      let below = field-below (schema_after s c) m f there.0 proper there.1 in
      let old : f < s.next_field = subst (λ (n : ℕ). f < n) (same-next c a) below in
      kept.field-kept (λ (g : FieldInfo). g.ty) t s c is m f old (λ read write e g. refl) (λ read write reason e g. refl) h
