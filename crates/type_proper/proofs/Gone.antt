-- The schema after a command that removes what nothing uses is proper, and stays so.
use Rattle.std.proofs.Common.{◌≡◌, ℕ, Bool, false, ◌&&◌, List, ◌++◌, map, refl, sym, ◌∙◌, ap, subst}
use Rattle.std.specs.Prelude.{◌==◌, not, Option, Some, None, is_some, filter}
use Rattle.std.specs.List.{AllByRecursion, IsDistinct}
use Rattle.std.specs.Option.{option_map}
use Rattle.std.specs.Str.{bytes_eq}
use Rattle.std.proofs.lemmas.Bool.{eqb-true, eq-eqb}
use Rattle.type_schema.specs.declared.types.TTy.{TTy}
use Rattle.type_schema.specs.Trees.{Name}
use Rattle.type_schema.specs.Schema.{StaticInfo, FieldInfo, ModelInfo, Schema, field_in}
use Rattle.type_schema.specs.Typing.{IsField, IsModel}
use Rattle.type_schema.specs.Commands.{delete_model, remove_field, remove_static, schema_after, without_field}
use Rattle.type_schema.specs.Proper.{AreNumbers, AreProperFields}
use Rattle.type_commands.specs.declared.thing.Thing.{Thing}
use Rattle.type_commands.specs.declared.thing.Thing.TheVariants as the
use Rattle.type_commands.specs.Users.{first_user, field_goes, is_field}
use Rattle.type_proper.specs.Steady.{FieldIsShown, IsSteady, ModelIsShown}
use Rattle.type_proper.proofs.Kept.{Free, Keeps}
use Rattle.type_proper.proofs.Lists.{all-both, all-filter, all-map-filter, all-weaken, distinct-append, distinct-apart, distinct-back, distinct-filter, distinct-front, found-is, numbers-filter}
use Rattle.type_proper.proofs.Lookups.{Becomes, field-free, find-other, keeps-found, static-free, type_in}
use Rattle.type_proper.proofs.Grown.{all-changed, changed_to, is-changed, model-of-changed, names-changed, numbers-changed}
use Rattle.type_proper.proofs.Users.{FieldFree, ModelFree, model-kept, models-unused}
use Rattle.type_proper.proofs.After.{and-false, eq-sym, not-true, second-false}

module _ (s : Schema) (steady : IsSteady s) where
  -- ---- a static

  pub removed_static-steady : (k : ℕ) → first_user s (the.Static k) ≡ None → IsSteady (schema_after s (remove_static k))
  removed_static-steady k unused =
      let thing : Thing = the.Static k in
      let after : Schema = schema_after s (remove_static k) in
      let stays : StaticInfo → Bool = λ (info : StaticInfo). not (info.number == k) in
      let free = models-unused thing s unused in
      let keeps : Keeps thing s after =
      keeps-found thing s after (λ n other has. ap (λ (o : Option StaticInfo). is_some o) (find-other (λ (i : StaticInfo). i.number) k n other s.statics) ∙ has)
      (λ n info free is. (info, is, record { principal = λ h. h; field = λ f t other is. (is, static-free k t) })) in
      let with_free = all-both (IsModel s) ModelIsShown (λ info. IsModel s info × ModelIsShown info) (λ info one other. (one, other)) s.models steady.proper.typed steady.shown in
      let models : List Name = map (λ (m : ModelInfo). m.name) s.models in
      let statics : List Name = map (λ (n : StaticInfo). n.name) s.statics in
      record {
        proper = record {
          typed =
              all-both (λ info. IsModel s info × ModelIsShown info) (ModelFree thing) (IsModel after)
              (λ info h free. model-kept thing s after keeps info refl (free.create refl) (free.delete refl)
              (all-weaken (λ (f : FieldInfo). field_goes thing info.number f.number ≡ false → FieldFree thing f) (FieldFree thing) (λ f h. h refl) info.fields free.fields) h.1 h.0) s.models with_free free;
          names =
              distinct-append bytes_eq (map (λ (n : StaticInfo). n.name) (filter stays s.statics)) models
              (distinct-filter bytes_eq (λ (n : StaticInfo). n.name) stays s.statics (distinct-front bytes_eq statics models steady.proper.names))
              (distinct-back bytes_eq statics models steady.proper.names)
              (all-map-filter bytes_eq (λ (n : StaticInfo). n.name) (λ x. AllByRecursion (λ y. bytes_eq x y ≡ false) models) stays s.statics (distinct-apart bytes_eq statics models steady.proper.names));
          statics = numbers-filter (λ (n : StaticInfo). n.number) stays s.next_static s.statics steady.proper.statics;
          models = steady.proper.models;
          fields = steady.proper.fields;
          added = steady.proper.added;
          order = steady.proper.order;
        };
        shown = steady.shown;
        read = steady.read;
      }

  -- ---- a model

  typed-found : (thing : Thing) (fields : List FieldInfo) (f : ℕ) (t : TTy) → AllByRecursion (FieldFree thing) fields → (o : Option FieldInfo) → field_in fields f ≡ o → option_map (λ (g : FieldInfo). g.ty) o ≡ Some t → Free thing t
  typed-found thing fields f t free None e h = absurd (cc h)
  typed-found thing fields f t free (Some g) e h =
      let found = found-is (FieldFree thing) (λ (i : FieldInfo). i.number == f) fields g free e in
      let same : g.ty ≡ t = cc h in
      subst (Free thing) same found.0.ty

  -- what holds of the fields of another model
  others-free : (m : ℕ) (info : ModelInfo) → (info.number == m) ≡ false → ModelFree (the.Model m) info → AllByRecursion (FieldFree (the.Model m)) info.fields
  others-free m info off free =
      all-weaken (λ (f : FieldInfo). field_goes (the.Model m) info.number f.number ≡ false → FieldFree (the.Model m) f) (FieldFree (the.Model m)) (λ f h. h off) info.fields free.fields

  pub deleted-steady : (m : ℕ) → first_user s (the.Model m) ≡ None → IsSteady (schema_after s (delete_model m))
  deleted-steady m unused =
      let thing : Thing = the.Model m in
      let after : Schema = schema_after s (delete_model m) in
      let stays : ModelInfo → Bool = λ (info : ModelInfo). not (info.number == m) in
      let free = models-unused thing s unused in
      let keeps : Keeps thing s after =
      keeps-found thing s after (λ n other has. has)
      (λ n info other is.
      let found = found-is (ModelFree thing) (λ (i : ModelInfo). i.number == n) s.models info free is in
      let same : info.number ≡ n = eqb-true info.number n found.1 in
      let off : (info.number == m) ≡ false = subst (λ j. (j == m) ≡ false) (sym same) (eq-sym m n other) in
      let fields = others-free m info off found.0 in (
        info,
        find-other (λ (i : ModelInfo). i.number) m n other s.models ∙ is,
        record { principal = λ h. h; field = λ f t other is. (is, typed-found thing info.fields f t fields (field_in info.fields f) refl is) },
      )) in
      let with_shown = all-both (IsModel s) ModelIsShown (λ info. IsModel s info × ModelIsShown info) (λ info one other. (one, other)) s.models steady.proper.typed steady.shown in
      let with_free = all-both (λ info. IsModel s info × ModelIsShown info) (ModelFree thing) (λ info. (IsModel s info × ModelIsShown info) × ModelFree thing info) (λ info one other. (one, other)) s.models with_shown free in
      let models : List Name = map (λ (m : ModelInfo). m.name) s.models in
      let statics : List Name = map (λ (n : StaticInfo). n.name) s.statics in
      record {
        proper = record {
          typed =
              all-filter (λ info. (IsModel s info × ModelIsShown info) × ModelFree thing info) (IsModel after) stays
              (λ info is h.
              let off : (info.number == m) ≡ false = not-true (info.number == m) is in
              model-kept thing s after keeps info (eq-sym info.number m off) (h.1.create off) (h.1.delete off) (others-free m info off h.1) h.0.1 h.0.0) s.models with_free;
          names =
              distinct-append bytes_eq statics (map (λ (i : ModelInfo). i.name) (filter stays s.models)) (distinct-front bytes_eq statics models steady.proper.names)
              (distinct-filter bytes_eq (λ (i : ModelInfo). i.name) stays s.models (distinct-back bytes_eq statics models steady.proper.names))
              (all-weaken (λ x. AllByRecursion (λ y. bytes_eq x y ≡ false) models) (λ x. AllByRecursion (λ y. bytes_eq x y ≡ false) (map (λ (i : ModelInfo). i.name) (filter stays s.models)))
              (λ x apart. all-map-filter bytes_eq (λ (i : ModelInfo). i.name) (λ y. bytes_eq x y ≡ false) stays s.models apart) statics (distinct-apart bytes_eq statics models steady.proper.names));
          statics = steady.proper.statics;
          models = numbers-filter (λ (i : ModelInfo). i.number) stays s.next_model s.models steady.proper.models;
          fields = all-filter (AreProperFields s.next_field) (AreProperFields s.next_field) stays (λ info is h. h) s.models steady.proper.fields;
          added = steady.proper.added;
          order = steady.proper.order;
        };
        shown = all-filter ModelIsShown ModelIsShown stays (λ info is h. h) s.models steady.shown;
        read = steady.read;
      }

  -- ---- a field

  -- a field of the model that is not the one
  other-field : (m f n : ℕ) (info : ModelInfo) (g : ℕ) (t : TTy) → n ≡ m → is_field (the.Field m f) n g ≡ false → type_in info g ≡ Some t → type_in (without_field f info) g ≡ Some t
  other-field m f n info g t same other is =
      let off : (f == g) ≡ false = second-false (m == n) (f == g) other (eq-eqb m n (sym same)) in
      ap (option_map (λ (h : FieldInfo). h.ty)) (find-other (λ (h : FieldInfo). h.number) f g off info.fields) ∙ is

  removed-becomes : (m f n : ℕ) (info : ModelInfo) → info.number ≡ n → Becomes (the.Field m f) n info (changed_to m (without_field f) info)
  removed-becomes m f n info same =
      is-changed (λ (later : ModelInfo). Becomes (the.Field m f) n info later) m (without_field f) info
      (λ it. record { principal = λ h. h; field = λ g t other is. (other-field m f n info g t (sym same ∙ it) other is, field-free m f t) })
      (λ other. record { principal = λ h. h; field = λ g t other is. (is, field-free m f t) })

  pub removed_field-steady : (m f : ℕ) → first_user s (the.Field m f) ≡ None → IsSteady (schema_after s (remove_field m f))
  removed_field-steady m f unused =
      let thing : Thing = the.Field m f in
      let after : Schema = schema_after s (remove_field m f) in
      let stays : FieldInfo → Bool = λ (g : FieldInfo). not (g.number == f) in
      let free = models-unused thing s unused in
      let keeps : Keeps thing s after =
      keeps-found thing s after (λ n other has. has)
      (λ n info other is.
      let found = found-is (ModelFree thing) (λ (i : ModelInfo). i.number == n) s.models info free is in (
        changed_to m (without_field f) info,
        model-of-changed m (without_field f) (λ info. refl) s s.models n info is,
        removed-becomes m f n info (eqb-true info.number n found.1),
      )) in
      let with_shown = all-both (IsModel s) ModelIsShown (λ info. IsModel s info × ModelIsShown info) (λ info one other. (one, other)) s.models steady.proper.typed steady.shown in
      let with_free = all-both (λ info. IsModel s info × ModelIsShown info) (ModelFree thing) (λ info. (IsModel s info × ModelIsShown info) × ModelFree thing info) (λ info one other. (one, other)) s.models with_shown free in
      let statics : List Name = map (λ (n : StaticInfo). n.name) s.statics in
      record {
        proper = record {
          typed =
              all-changed m (without_field f) (λ info. refl) (λ info. (IsModel s info × ModelIsShown info) × ModelFree thing info) (IsModel after)
              (λ info is h. model-kept thing s after keeps (without_field f info) refl (h.1.create refl) (h.1.delete refl)
              (all-filter (λ (g : FieldInfo). field_goes thing info.number g.number ≡ false → FieldFree thing g) (FieldFree thing) stays
              (λ g other free. free (ap (λ b. (info.number == m) && b) (not-true (g.number == f) other) ∙ and-false (info.number == m))) info.fields h.1.fields)
              (h.0.1.0, h.0.1.1, all-filter FieldIsShown FieldIsShown stays (λ g is h. h) info.fields h.0.1.2)
              (record { create = h.0.0.create; delete = h.0.0.delete; fields = all-filter (IsField s info.number) (IsField s info.number) stays (λ g is h. h) info.fields h.0.0.fields }))
              (λ info other h. model-kept thing s after keeps info refl (h.1.create refl) (h.1.delete refl)
              (all-weaken (λ (g : FieldInfo). field_goes thing info.number g.number ≡ false → FieldFree thing g) (FieldFree thing)
              (λ g free. free (ap (λ b. b && (g.number == f)) other)) info.fields h.1.fields) h.0.1 h.0.0) s.models with_free;
          names = subst (λ (models : List Name). IsDistinct bytes_eq (statics ++ models)) (sym (names-changed m (without_field f) (λ info. refl) (λ info. refl) s.models)) steady.proper.names;
          statics = steady.proper.statics;
          models = subst (AreNumbers s.next_model) (sym (numbers-changed m (without_field f) (λ info. refl) s.models)) steady.proper.models;
          fields =
              all-changed m (without_field f) (λ info. refl) (AreProperFields s.next_field) (AreProperFields s.next_field)
              (λ info is h. record {
                numbers = numbers-filter (λ (g : FieldInfo). g.number) stays s.next_field info.fields h.numbers;
                names = distinct-filter bytes_eq (λ (g : FieldInfo). g.name) stays info.fields h.names;
              }) (λ info other h. h) s.models steady.proper.fields;
          added = steady.proper.added;
          order = steady.proper.order;
        };
        shown =
            all-changed m (without_field f) (λ info. refl) ModelIsShown ModelIsShown (λ info is h. (h.0, h.1, all-filter FieldIsShown FieldIsShown stays (λ g is h. h) info.fields h.2))
            (λ info other h. h) s.models steady.shown;
        read = steady.read;
      }
