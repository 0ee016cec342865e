-- The schema of start databases has a signature, if numbers of 32 bits serve for its fields.
use Rattle.std.proofs.Common.{◌≡◌, ℕ, suc, ◌<◌, ◌^◌, Bool, true, false, not, ◌&&◌, List, [], ◌∷◌, ◌++◌, length, refl, ap, sym, ◌∙◌, subst, arith, cond}
use Rattle.std.specs.Prelude.{Option, Some, None, map, filter, ◌==◌, is_some, slice_get, flat_map, nat_lt, nat_eq, option_and_then}
use Rattle.std.specs.List.{find, list_all, AllByRecursion, IsDistinct}
use Rattle.std.specs.Option.{option_map}
use Rattle.std.proofs.lemmas.Map.Keys.{IsDistinct-head, IsDistinct-tail}
use Rattle.std.proofs.lemmas.Bool.{eq-eqb, lt-ltb}
use Rattle.std.proofs.lemmas.Option.{slice_get_within}
use Rattle.type_schema.specs.declared.types.TBase.TheVariants as base
use Rattle.type_schema.specs.declared.types.TTy.{TTy}
use Rattle.type_schema.specs.declared.types.TTy.TheVariants.{Plain, Set, Opt}
use Rattle.type_schema.specs.Schema.{FieldInfo, ModelInfo, Schema, field_in, model_of, type_of}
use Rattle.type_schema.specs.Typing.{HasModel, IsType, IsField, IsModel}
use Rattle.type_schema.specs.Commands.{Command, create_model, delete_model, add_static, remove_static, add_principal, add_field, remove_field, update_field, weaken_field, update_model, weaken_model, schema_after}
use Rattle.type_schema.specs.Proper.{model_numbers, field_numbers, AreProperFields, IsProper}
use Rattle.type_schema.specs.Script.{Script, schema_at, command_at, count, closed_field, closed_model, created_by, created, IsScript}
use Rattle.data_meaning.proofs.Tests.{and-both}
use Rattle.form_formula.specs.declared.structure.FunSig.{FunSig}
use Rattle.form_formula.specs.declared.structure.SetSig.{SetSig}
use Rattle.form_formula.specs.Signature.{has_range}
use Rattle.duty_meaning.specs.Structures.{before, Place, places_in, is_set, sort_of, range_of, target_of, function_signature, relation_signature, sorts_of, function_signatures, relation_signatures}
use Rattle.duty_meaning.specs.Over.{SignaturesFit}
use Rattle.duty_meaning.proofs.Starting.{place, number-found}
use Rattle.duty_meaning.proofs.Created.{created-there, created-type, first-there, first-type, model-of-start}

found-below : {A : Type 0} (p : A → Bool) (xs : List A) (y : A) → find p xs ≡ Some y → before p xs < length xs
found-below p [] y e = cc
found-below {A} p (x ∷ xs) y e =
    elim (p x) as (λ (t : Bool). cond t (Some x) (find p xs) ≡ Some y → cond t 0 (suc (before p xs)) < suc (length xs)) [
      | true ↦ λ e. omega arith
      | false ↦ λ e. let less = found-below p xs y e in omega (arith, less)
    ] e

pub numbers-length : (models : List ModelInfo) → length (model_numbers models) ≡ length models
numbers-length [] = refl
numbers-length (x ∷ models) = ap suc (numbers-length models)

-- the sort of a model
pub sort-within : (b : Schema) (m : ℕ) → HasModel b m → sort_of b m < sorts_of b
sort-within b m h =
    elim (model_of b m) as (λ (o : Option ModelInfo). model_of b m ≡ o → is_some o ≡ true → sort_of b m < sorts_of b) [
      | None ↦ λ here e. cc
      | Some i ↦ λ here e.
          let below = found-below (λ n. n == m) (model_numbers b.models) m (number-found b.models m i here) in
          omega (arith, below, numbers-length b.models)
    ] refl h

-- ---- lists

all-append : {X : Type 0} (P : X → Type 0) (xs ys : List X) → AllByRecursion P xs → AllByRecursion P ys → AllByRecursion P (xs ++ ys)
all-append P [] ys h k = k
all-append P (x ∷ xs) ys h k = (h.0, all-append P xs ys h.1 k)

all-last : {X : Type 0} (P : X → Type 0) (xs : List X) (x : X) → AllByRecursion P (xs ++ x ∷ []) → P x
all-last P [] x h = h.0
all-last P (y ∷ xs) x h = all-last P xs x h.1

all-both : {X : Type 0} (P Q : X → Type 0) (xs : List X) → AllByRecursion P xs → AllByRecursion Q xs → AllByRecursion (λ x. P x × Q x) xs
all-both P Q [] h k = tt
all-both P Q (x ∷ xs) h k = ((h.0, k.0), all-both P Q xs h.1 k.1)

all-weaker : {X : Type 0} (P Q : X → Type 0) → ((x : X) → P x → Q x) → (xs : List X) → AllByRecursion P xs → AllByRecursion Q xs
all-weaker P Q more [] h = tt
all-weaker P Q more (x ∷ xs) h = (more x h.0, all-weaker P Q more xs h.1)

all-over : {X Y : Type 0} (P : X → Type 0) (Q : Y → Type 0) (g : X → Y) → ((x : X) → P x → Q (g x)) → (xs : List X) → AllByRecursion P xs → AllByRecursion Q (map g xs)
all-over P Q g more [] h = tt
all-over P Q g more (x ∷ xs) h = (more x h.0, all-over P Q g more xs h.1)

-- each of a list is found by its number, where numbers differ
each-found : {X : Type 0} (number : X → ℕ) (xs : List X) → IsDistinct nat_eq (map number xs) → AllByRecursion (λ x. find (λ u. number u == number x) xs ≡ Some x) xs
each-found number [] h = tt
each-found {X} number (x ∷ xs) h = (
  ap (λ t. cond t (Some x) (find (λ u. number u == number x) xs)) (eq-eqb (number x) (number x) refl),
  behind xs (IsDistinct-head nat_eq (number x) (map number xs) h) (each-found number xs (IsDistinct-tail nat_eq (number x) (map number xs) h)),
)
  where
    behind : (ys : List X) → AllByRecursion (λ n. nat_eq (number x) n ≡ false) (map number ys) → AllByRecursion (λ y. find (λ u. number u == number y) xs ≡ Some y) ys
        → AllByRecursion (λ y. find (λ u. number u == number y) (x ∷ xs) ≡ Some y) ys
    behind [] other found = tt
    behind (y ∷ ys) other found = (ap (λ t. cond t (Some x) (find (λ u. number u == number y) xs)) other.0 ∙ found.0, behind ys other.1 found.1)

-- what is kept of a list passes, each in its form
kept-pass : {X Y : Type 0} (P : X → Type 0) (keep : X → Bool) (g : X → Y) (test : Y → Bool) → ((x : X) → P x → keep x ≡ true → test (g x) ≡ true)
    → (xs : List X) → AllByRecursion P xs → list_all test (map g (filter keep xs)) ≡ true
kept-pass P keep g test each [] h = refl
kept-pass {X} {Y} P keep g test each (x ∷ xs) h =
    let rest = kept-pass P keep g test each xs h.1 in
    elim (keep x) as (λ (t : Bool). keep x ≡ t → list_all test (map g (cond t (x ∷ filter keep xs) (filter keep xs))) ≡ true) [
      | true ↦ λ here. and-both (test (g x)) (list_all test (map g (filter keep xs))) (each x h.0 here) rest
      | false ↦ λ here. rest
    ] refl

-- ---- places whose models are there

abbrev pub HasType : Schema → ℕ → FieldInfo → Type 0
HasType b m f = IsType b f.ty × (type_of b m f.number ≡ Some f.ty)

abbrev pub IsThere : Schema → Place → Type 0
IsThere b p = HasModel b p.model × HasType b p.model p.field

abbrev AllThere : Schema → ModelInfo → Type 0
AllThere b i = HasModel b i.number × AllByRecursion (HasType b i.number) i.fields

type-moved : (s b : Schema) → ((m : ℕ) → HasModel s m → HasModel b m) → (ty : TTy) → IsType s ty → IsType b ty
type-moved s b more (Plain base.Bool) h = tt
type-moved s b more (Plain base.Int) h = tt
type-moved s b more (Plain base.Text) h = tt
type-moved s b more (Plain (base.Id m)) h = more m h
type-moved s b more (Set m) h = more m h
type-moved s b more (Opt base.Bool) h = tt
type-moved s b more (Opt base.Int) h = tt
type-moved s b more (Opt base.Text) h = tt
type-moved s b more (Opt (base.Id m)) h = more m h

places-there : (b : Schema) (models : List ModelInfo) → AllByRecursion (AllThere b) models → AllByRecursion (IsThere b) (flat_map places_in models)
places-there b [] h = tt
places-there b (i ∷ models) h =
    let here : AllThere b i = h.0 in
    all-append (IsThere b) (places_in i) (flat_map places_in models)
    (all-over (HasType b i.number) (IsThere b) (place i.number) (λ f of. (here.0, of)) i.fields here.1)
    (places-there b models h.1)

module _ (b : Schema) where
  sort-fits : (m : ℕ) → HasModel b m → nat_lt (sort_of b m) (sorts_of b) ≡ true
  sort-fits m h = lt-ltb (sort_of b m) (sorts_of b) (sort-within b m h)

  range-fits : (ty : TTy) → IsType b ty → has_range (sorts_of b) (range_of b ty) ≡ true
  range-fits (Plain base.Bool) h = refl
  range-fits (Plain base.Int) h = refl
  range-fits (Plain base.Text) h = refl
  range-fits (Plain (base.Id m)) h = sort-fits m h
  range-fits (Set m) h = sort-fits m h
  range-fits (Opt base.Bool) h = refl
  range-fits (Opt base.Int) h = refl
  range-fits (Opt base.Text) h = refl
  range-fits (Opt (base.Id m)) h = sort-fits m h

  target-fits : (ty : TTy) → is_set ty ≡ true → IsType b ty → nat_lt (sort_of b (target_of ty)) (sorts_of b) ≡ true
  target-fits (Plain p) e h = cc
  target-fits (Set m) e h = sort-fits m h
  target-fits (Opt p) e h = cc

-- ---- along a script

module _ (t : Script) (is : IsScript t) where
  -- the fields of a model that is found, where each is found in turn
  fields-there : (s : Schema) (i : ModelInfo) → AllByRecursion (IsField s i.number) i.fields → IsDistinct nat_eq (field_numbers i.fields)
      → ((m : ℕ) → HasModel s m → HasModel t.start m) → ((f : ℕ) (ty : TTy) → option_map (λ (g : FieldInfo). g.ty) (field_in i.fields f) ≡ Some ty → type_of t.start i.number f ≡ Some ty)
      → AllByRecursion (HasType t.start i.number) i.fields
  fields-there s i typed apart more types =
      all-weaker (λ (f : FieldInfo). IsField s i.number f × (field_in i.fields f.number ≡ Some f)) (HasType t.start i.number)
      (λ f h. (
        (let one : IsField s i.number f = h.0 in type-moved s t.start more f.ty one.ty),
        types f.number f.ty (ap (option_map (λ (g : FieldInfo). g.ty)) h.1),
      ))
      i.fields (all-both (IsField s i.number) (λ (f : FieldInfo). field_in i.fields f.number ≡ Some f) i.fields typed (each-found (λ (f : FieldInfo). f.number) i.fields apart))

  first-models : AllByRecursion (AllThere t.start) (schema_at t 0).models
  first-models =
      let s : Schema = schema_at t 0 in
      let proper : IsProper s = is.proper 0 (omega arith) in
      let Found : ModelInfo → Type 0 = λ i. model_of s i.number ≡ Some i in
      let all = all-both (λ i. IsModel s i × AreProperFields s.next_field i) Found s.models
      (all-both (IsModel s) (AreProperFields s.next_field) s.models proper.typed proper.fields) (each-found (λ (i : ModelInfo). i.number) s.models proper.models.distinct) in
      all-weaker (λ i. (IsModel s i × AreProperFields s.next_field i) × Found i) (AllThere t.start)
      (λ i h.
      let one : IsModel s i = h.0.0 in
      let fields : AreProperFields s.next_field i = h.0.1 in (
        first-there t is i.number (ap is_some h.1),
        fields-there s i one.fields fields.numbers.distinct (first-there t is)
            (λ f ty e. first-type t is i.number f ty (ap (λ o. option_map (λ (g : FieldInfo). g.ty) (option_and_then (λ (u : ModelInfo). field_in u.fields f) o)) h.1 ∙ e)),
      ))
      s.models all

  created-whole : (k : ℕ) (info : ModelInfo) → command_at t k ≡ Some (create_model info) → AllThere t.start (closed_model info)
  created-whole k info here =
      let below : k < count t = slice_get_within t.commands k (create_model info) here in
      let s : Schema = schema_after (schema_at t k) (create_model info) in
      let later : schema_at t (suc k) ≡ s = is.steps k (create_model info) here in
      let more : (m : ℕ) → HasModel s m → HasModel t.start m
      = λ m h. model-of-start t is (suc k) (omega (arith, below)) m (subst (λ (u : Schema). HasModel u m) (sym later) h) in
      let proper : IsProper s = subst IsProper later (is.proper (suc k) (omega (arith, below))) in
      let one : IsModel s info = all-last (IsModel s) (schema_at t k).models info proper.typed in
      let fields : AreProperFields s.next_field info = all-last (AreProperFields s.next_field) (schema_at t k).models info proper.fields in (
        created-there t is k info below here,
        all-over (HasType t.start info.number) (HasType t.start info.number) closed_field (λ f h. h) info.fields
            (fields-there s info one.fields fields.numbers.distinct more (λ f ty e. created-type t is k info below here f ty e)),
      )

  one-created : (c : Command) → ((info : ModelInfo) → c ≡ create_model info → AllThere t.start (closed_model info)) → AllByRecursion (AllThere t.start) (created_by c)
  one-created (create_model info) each = (each info refl, tt)
  one-created (delete_model n) each = tt
  one-created (add_static n) each = tt
  one-created (remove_static n) each = tt
  one-created (add_principal n) each = tt
  one-created (add_field n f init) each = tt
  one-created (remove_field n f) each = tt
  one-created (update_field n f read write) each = tt
  one-created (weaken_field n f read write reason) each = tt
  one-created (update_model n create delete) each = tt
  one-created (weaken_model n create delete reason) each = tt

  created-models : (commands : List Command) → ((k : ℕ) (info : ModelInfo) → slice_get commands k ≡ Some (create_model info) → AllThere t.start (closed_model info))
      → AllByRecursion (AllThere t.start) (created commands)
  created-models [] each = tt
  created-models (c ∷ commands) each =
      all-append (AllThere t.start) (created_by c) (created commands) (one-created c (λ info same. each 0 info (ap (λ (x : Command). Some x) same)))
      (created-models commands (λ k info here. each (suc k) info here))

  all-there : AllByRecursion (AllThere t.start) t.start.models
  all-there =
      subst (λ (u : Schema). AllByRecursion (AllThere t.start) u.models) (sym is.start)
      (all-append (AllThere t.start) (schema_at t 0).models (created t.commands) first-models (created-models t.commands created-whole))

  pub start-places : AllByRecursion (IsThere t.start) (flat_map places_in t.start.models)
  start-places = places-there t.start t.start.models all-there

pub signatures_fit : SignaturesFit
signatures_fit t is few less =
    let b : Schema = t.start in
    let places = start-places t is in
    let functions : list_all (λ (f : FunSig). nat_lt f.from (sorts_of b) && has_range (sorts_of b) f.to) (function_signatures b) ≡ true
    = kept-pass (IsThere b) (λ (p : Place). not (is_set p.field.ty)) (function_signature b) (λ (f : FunSig). nat_lt f.from (sorts_of b) && has_range (sorts_of b) f.to)
    (λ p h e. and-both (nat_lt (sort_of b p.model) (sorts_of b)) (has_range (sorts_of b) (range_of b p.field.ty)) (sort-fits b p.model h.0) (range-fits b p.field.ty h.1.0))
    (flat_map places_in b.models) places in
    let relations : list_all (λ (r : SetSig). nat_lt r.from (sorts_of b) && nat_lt r.to (sorts_of b)) (relation_signatures b) ≡ true
    = kept-pass (IsThere b) (λ (p : Place). is_set p.field.ty) (relation_signature b) (λ (r : SetSig). nat_lt r.from (sorts_of b) && nat_lt r.to (sorts_of b))
    (λ p h e. and-both (nat_lt (sort_of b p.model) (sorts_of b)) (nat_lt (sort_of b (target_of p.field.ty)) (sorts_of b)) (sort-fits b p.model h.0) (target-fits b p.field.ty e h.1.0))
    (flat_map places_in b.models) places in
    and-both _ _
    (and-both _ _
    (and-both (nat_lt (length (function_signatures b)) (2 ^ 32)) (nat_lt (length (relation_signatures b)) (2 ^ 32))
    (lt-ltb (length (function_signatures b)) (2 ^ 32) few) (lt-ltb (length (relation_signatures b)) (2 ^ 32) less))
    functions)
    relations
