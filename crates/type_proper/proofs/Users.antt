-- What nothing uses.
use Rattle.std.proofs.Common.{◌≡◌, ℕ, Bool, true, false, ◌&&◌, List, [], ◌∷◌, refl}
use Rattle.std.specs.Prelude.{not, Option, Some, None}
use Rattle.std.specs.Option.{option_map}
use Rattle.std.specs.List.{AllByRecursion, find, flat_map}
use Rattle.type_schema.specs.Schema.{FieldInfo, ModelInfo, Schema}
use Rattle.type_schema.specs.Typing.{IsField, IsModel}
use Rattle.type_commands.specs.declared.thing.Thing.{Thing}
use Rattle.type_commands.specs.Users.{User, field_goes, field_users, first_user, goes_with, is_model, model_goes, model_users, named_user, policy_uses, right_users, type_uses, users, uses}
use Rattle.type_proper.specs.Steady.{FieldIsShown, ModelIsShown}
use Rattle.type_proper.proofs.Kept.{Free, Keeps, policy-kept, type-kept}
use Rattle.type_proper.proofs.Lists.{all-back, all-fail, all-flat_map, all-front, all-weaken}

module _ (thing : Thing) where
  -- nothing of the field uses the thing
  pub record FieldFree (f : FieldInfo) : Type 0 where
    pub ty : Free thing f.ty
    pub read : policy_uses thing f.read ≡ false
    pub write : policy_uses thing f.write ≡ false

  -- nothing of the model uses the thing, but what goes with it
  pub record ModelFree (info : ModelInfo) : Type 0 where
    pub create : model_goes thing info.number ≡ false → policy_uses thing info.create ≡ false
    pub delete : model_goes thing info.number ≡ false → policy_uses thing info.delete ≡ false
    pub fields : AllByRecursion (λ (f : FieldInfo). field_goes thing info.number f.number ≡ false → FieldFree f) info.fields

  abbrev misses : User → Bool
  misses user = not (goes_with thing user) && uses thing user

  no-uses : (goes used : Bool) → (not goes && used) ≡ false → goes ≡ false → used ≡ false
  no-uses true used e goes = absurd (cc goes)
  no-uses false used e goes = e

  field-unused : (m : ℕ) (f : FieldInfo) → AllByRecursion (λ u. misses u ≡ false) (field_users m f) → field_goes thing m f.number ≡ false → FieldFree f
  field-unused m f none stays = record {
    ty = no-uses (field_goes thing m f.number) (type_uses thing f.ty) none.0 stays;
    read = no-uses (field_goes thing m f.number) (policy_uses thing f.read) none.1.0 stays;
    write = no-uses (field_goes thing m f.number) (policy_uses thing f.write) none.1.1.0 stays;
  }

  fields-unused : (m : ℕ) (fields : List FieldInfo) → AllByRecursion (λ f. AllByRecursion (λ u. misses u ≡ false) (field_users m f)) fields
      → AllByRecursion (λ (f : FieldInfo). field_goes thing m f.number ≡ false → FieldFree f) fields
  fields-unused m fields none =
      all-weaken (λ f. AllByRecursion (λ u. misses u ≡ false) (field_users m f)) (λ (f : FieldInfo). field_goes thing m f.number ≡ false → FieldFree f)
      (λ f none. field-unused m f none) fields none

  model-unused : (info : ModelInfo) → AllByRecursion (λ u. misses u ≡ false) (model_users info) → ModelFree info
  model-unused info none =
      let rights = all-front (λ u. misses u ≡ false) (right_users info) (flat_map (field_users info.number) info.fields) none in
      let rest = all-back (λ u. misses u ≡ false) (right_users info) (flat_map (field_users info.number) info.fields) none in record {
        create = λ stays. no-uses (model_goes thing info.number) (policy_uses thing info.create) rights.0 stays;
        delete = λ stays. no-uses (model_goes thing info.number) (policy_uses thing info.delete) rights.1.0 stays;
        fields = fields-unused info.number info.fields (all-flat_map (λ u. misses u ≡ false) (field_users info.number) info.fields rest);
      }

  none-named : (o : Option User) → option_map named_user o ≡ None → o ≡ None
  none-named None e = refl
  none-named (Some user) e = absurd (cc e)

  pub models-unused : (s : Schema) → first_user s thing ≡ None → AllByRecursion ModelFree s.models
  unfolding first_user
  models-unused s none =
      let fail = all-fail misses (users s) (none-named (find misses (users s)) none) in
      all-weaken (λ info. AllByRecursion (λ u. misses u ≡ false) (model_users info)) ModelFree (λ info none. model-unused info none) s.models
      (all-flat_map (λ u. misses u ≡ false) model_users s.models fail)

  -- ---- what is typed stays so

  module _ (s after : Schema) (keeps : Keeps thing s after) where
    pub field-kept : (m : ℕ) (f : FieldInfo) → is_model thing m ≡ false → FieldFree f → FieldIsShown f → IsField s m f → IsField after m f
    field-kept m f stays free shown typed = record {
      ty = type-kept thing s after keeps f.ty free.ty typed.ty;
      read = policy-kept thing s after keeps m f.read stays shown.0 free.read typed.read;
      write = policy-kept thing s after keeps m f.write stays shown.1 free.write typed.write;
    }

    pub fields-kept : (m : ℕ) (fields : List FieldInfo) → is_model thing m ≡ false → AllByRecursion FieldFree fields → AllByRecursion FieldIsShown fields
        → AllByRecursion (IsField s m) fields → AllByRecursion (IsField after m) fields
    fields-kept m [] stays free shown typed = tt
    fields-kept m (f ∷ fields) stays free shown typed =
        (field-kept m f stays free.0 shown.0 typed.0, fields-kept m fields stays free.1 shown.1 typed.1)

    pub model-kept : (info : ModelInfo) → is_model thing info.number ≡ false → policy_uses thing info.create ≡ false → policy_uses thing info.delete ≡ false
        → AllByRecursion FieldFree info.fields → ModelIsShown info → IsModel s info → IsModel after info
    model-kept info stays create delete free shown typed = record {
      create = policy-kept thing s after keeps info.number info.create stays shown.0 create typed.create;
      delete = policy-kept thing s after keeps info.number info.delete stays shown.1 delete typed.delete;
      fields = fields-kept info.number info.fields stays free shown.2 typed.fields;
    }
