-- What a command keeps of a schema has the same names before and after it.
use Rattle.std.proofs.Common.{◌≡◌, ◌==◌, ℕ, Bool, true, false, List, [], refl, sym, ap, ◌∙◌}
use Rattle.std.specs.Prelude.{Option, Some, None, IsTrue, is_some, option_and_then, if◌then◌else◌}
use Rattle.std.specs.Option.{option_map, option_map_or}
use Rattle.type_schema.specs.declared.types.TTy.{TTy}
use Rattle.type_schema.specs.Schema.{StaticInfo, FieldInfo, ModelInfo, Schema, field_in, model_in, model_of, static_of}
use Rattle.type_schema.specs.Commands.{change_model}
use Rattle.type_proper.proofs.Lookups.{find-changed}
use Rattle.type_anew.specs.Names.{names_in}
use Rattle.type_anew.proofs.Agree.{Agree}

-- the fields of the one are among those of the other, with their names
abbrev pub FieldsKept : ModelInfo → ModelInfo → Type 0
FieldsKept i j = (f : ℕ) (g : FieldInfo) → field_in i.fields f ≡ Some g → (h : FieldInfo) × (field_in j.fields f ≡ Some h) × (h.name ≡ g.name)

abbrev pub ModelsKept : Schema → Schema → Type 0
ModelsKept w other = (m : ℕ) (i : ModelInfo) → model_of w m ≡ Some i → (j : ModelInfo) × (model_of other m ≡ Some j) × (j.name ≡ i.name) × FieldsKept i j

module _ (w other : Schema) (models : ModelsKept w other) (statics : (k : ℕ) (a : StaticInfo) → static_of w k ≡ Some a → static_of other k ≡ Some a) where
  model-at : (m : ℕ) (o : Option ModelInfo) → model_of w m ≡ o → IsTrue (is_some o) → (names_in other).model m ≡ (names_in w).model m
  model-at m None is has = absurd (cc has)
  model-at m (Some i) is has =
      let kept = models m i is in
      ap (λ (o : Option ModelInfo). option_map_or (λ (info : ModelInfo). info.name) o []) kept.1 ∙ kept.2 ∙ sym (ap (λ (o : Option ModelInfo). option_map_or (λ (info : ModelInfo). info.name) o []) is)

  static-at : (k : ℕ) (o : Option StaticInfo) → static_of w k ≡ o → IsTrue (is_some o) → (names_in other).static k ≡ (names_in w).static k
  static-at k None is has = absurd (cc has)
  static-at k (Some a) is has =
      ap (λ (o : Option StaticInfo). option_map_or (λ (info : StaticInfo). info.name) o []) (statics k a is) ∙ sym (ap (λ (o : Option StaticInfo). option_map_or (λ (info : StaticInfo). info.name) o []) is)

  abbrev field-name : ℕ → Option ModelInfo → List ℕ
  field-name f o = option_map_or (λ (info : FieldInfo). info.name) (option_and_then (λ (info : ModelInfo). field_in info.fields f) o) []

  abbrev field-type : ℕ → Option ModelInfo → Option TTy
  field-type f o = option_map (λ (info : FieldInfo). info.ty) (option_and_then (λ (info : ModelInfo). field_in info.fields f) o)

  field-in : (m f : ℕ) (t : TTy) (i : ModelInfo) → model_of w m ≡ Some i → (o : Option FieldInfo) → field_in i.fields f ≡ o → option_map (λ (info : FieldInfo). info.ty) o ≡ Some t
      → field-name f (model_of other m) ≡ field-name f (Some i)
  field-in m f t i there None is e = absurd (cc e)
  field-in m f t i there (Some g) is e =
      let kept = models m i there in
      let found = kept.3 f g is in
      ap (field-name f) kept.1 ∙ ap (λ (o : Option FieldInfo). option_map_or (λ (info : FieldInfo). info.name) o []) found.1 ∙ found.2
      ∙ sym (ap (λ (o : Option FieldInfo). option_map_or (λ (info : FieldInfo). info.name) o []) is)

  field-at : (m f : ℕ) (t : TTy) (o : Option ModelInfo) → model_of w m ≡ o → field-type f o ≡ Some t → (names_in other).field m f ≡ (names_in w).field m f
  field-at m f t None is e = absurd (cc e)
  field-at m f t (Some i) is e = field-in m f t i is (field_in i.fields f) refl e ∙ sym (ap (field-name f) is)

  pub kept-agrees : Agree w (names_in other) (names_in w)
  kept-agrees = record {
    model = λ m has. model-at m (model_of w m) refl has;
    field = λ m f t e. field-at m f t (model_of w m) refl e;
    static = λ k has. static-at k (static_of w k) refl has;
  }

-- where one model is changed
abbrev pub changed : ℕ → (ModelInfo → ModelInfo) → ModelInfo → ModelInfo
changed m change i = if i.number == m then change i else i

abbrev pub ModelKept : ModelInfo → ModelInfo → Type 0
ModelKept i j = (j.number ≡ i.number) × (j.name ≡ i.name) × FieldsKept i j

kept-itself : (i : ModelInfo) → ModelKept i i
kept-itself i = (refl, refl, λ f g e. (g, e, refl))

changed-kept : (m : ℕ) (change : ModelInfo → ModelInfo) → ((i : ModelInfo) → ModelKept i (change i)) → (i : ModelInfo) → ModelKept i (changed m change i)
changed-kept m change kept i = at (i.number == m)
  where
    at : (b : Bool) → ModelKept i (if b then change i else i)
    at true = kept i
    at false = kept-itself i

pub changed-agrees : (s after : Schema) (m : ℕ) (change : ModelInfo → ModelInfo) → after.models ≡ change_model m change s.models → after.statics ≡ s.statics → ((i : ModelInfo) → ModelKept i (change i))
    → Agree s (names_in after) (names_in s)
changed-agrees s after m change models statics kept =
    let each : (i : ModelInfo) → ModelKept i (changed m change i) = changed-kept m change kept in
    kept-agrees s after
    (λ n i is. (
      changed m change i,
      ap (λ (ms : List ModelInfo). model_in ms n) models ∙ find-changed (λ (j : ModelInfo). j.number) (changed m change) (λ j. (each j).0) n s.models ∙ ap (option_map (changed m change)) is,
      (each i).1,
      (each i).2,
    ))
    (λ k a is. ap (λ (all : List StaticInfo). static_of (record s { statics = all }) k) statics ∙ is)
