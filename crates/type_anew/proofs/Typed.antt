-- The policies of a schema that stands beside one with small policies are small, so no rule refuses the tree.
use Rattle.std.proofs.Common.{◌≡◌, ℕ, ◌+◌, ◌≤◌, List, [], ◌∷◌, length, refl, ap, ◌∙◌, arith}
use Rattle.std.specs.Prelude.{Option, Some, None, Ok, max, min, option_and_then}
use Rattle.std.specs.List.{AllByRecursion, flat_map}
use Rattle.std.specs.Option.{option_map}
use Rattle.type_schema.specs.declared.types.TBase.TheVariants as base
use Rattle.type_schema.specs.declared.types.TTy.{TTy}
use Rattle.type_schema.specs.declared.types.TTy.TheVariants.{Plain, Set, Opt}
use Rattle.type_schema.specs.Trees.{Policy}
use Rattle.type_schema.specs.Schema.{FieldInfo, ModelInfo, Added, Schema, field_in, model_of, type_of}
use Rattle.type_schema.specs.Typing.{IsField, IsModel, IsPolicy}
use Rattle.type_schema.specs.Proper.{IsProper}
use Rattle.type_specs.specs.Sizes.{field_sizes, model_places, model_sizes, models_are_small, most_size}
use Rattle.type_specs.specs.Specs.{typed_spec}
use Rattle.type_anew.specs.Specs.{written_spec}
use Rattle.data_records.specs.Renumbered.{new_field, new_model}
use Rattle.type_anew.specs.RenumberedAnew.{renumbered_type}
use Rattle.type_anew.specs.Policies.{new_static}
use Rattle.duty_meaning.specs.Cases.{is_truth_type}
use Rattle.duty_meaning.specs.Formulas.{nothing_written, written_out}
use Rattle.duty_meaning.specs.Sizes.{policy_size, policy_size_over}
use Rattle.type_scripts.specs.Counted.{counted}
use Rattle.type_proper.proofs.Lists.{all-append}
use Rattle.type_anew.proofs.TypedExprs.{then-ok}
use Rattle.type_anew.proofs.Beside.{AreFieldsBeside, AreModelsBeside}
use Rattle.type_anew.proofs.Found.{field-beside}
use Rattle.type_anew.specs.RetypingLaws.{TreesAreResolved, TreesAreTyped}
use Rattle.type_anew.specs.Room.{FieldIsWithin, ModelIsWithin, PolicyIsWithin}
use Rattle.type_anew.proofs.Resolved.{Moved, resolves}
use Rattle.type_anew.proofs.Sizes.{HasFieldsBy, policy-same}
use Rattle.type_anew.proofs.Within.{IsWithin, small-all}

-- ---- beside a schema with small policies

module _ (s t : Schema) (proper : IsProper s) (beside : AreModelsBeside s.models (Moved s) 0 0 s.models t.models) (nothing : t.added ≡ []) where
  types : (m f : ℕ) (ty : TTy) → type_of s m f ≡ Some ty → type_of t (new_model s.models m) (new_field s.models m f) ≡ Some (renumbered_type s.models ty)
  types m f ty is = out (model_of s m) refl is
    where
      within : (a : ModelInfo) → model_of s m ≡ Some a → (o : Option FieldInfo) → field_in a.fields f ≡ o → option_map (λ (g : FieldInfo). g.ty) o ≡ Some ty
          → type_of t (new_model s.models m) (new_field s.models m f) ≡ Some (renumbered_type s.models ty)
      within a has None found e = absurd (cc e)
      within a has (Some x) found e =
          let k = field-beside s t (Moved s) proper beside m f a x has found in
          let same : x.ty ≡ ty = cc e in
          ap (λ (o : Option ModelInfo). option_map (λ (g : FieldInfo). g.ty) (option_and_then (λ (i : ModelInfo). field_in i.fields (new_field s.models m f)) o)) k.1
          ∙ ap (option_map (λ (g : FieldInfo). g.ty)) k.2.2
          ∙ ap Some (k.2.3.ty ∙ ap (renumbered_type s.models) same)

      out : (o : Option ModelInfo) → model_of s m ≡ o → option_map (λ (g : FieldInfo). g.ty) (option_and_then (λ (i : ModelInfo). field_in i.fields f) o) ≡ Some ty
          → type_of t (new_model s.models m) (new_field s.models m f) ≡ Some (renumbered_type s.models ty)
      out None has e = absurd (cc e)
      out (Some a) has e = within a has (field_in a.fields f) refl e

  truth-type-new : (ty : TTy) → is_truth_type t (renumbered_type s.models ty) ≡ is_truth_type s ty
  truth-type-new (Plain base.Bool) = refl
  truth-type-new (Plain base.Int) = refl
  truth-type-new (Plain base.Text) = refl
  truth-type-new (Plain (base.Id m)) = refl
  truth-type-new (Set m) = refl
  truth-type-new (Opt base.Bool) = refl
  truth-type-new (Opt base.Int) = refl
  truth-type-new (Opt base.Text) = refl
  truth-type-new (Opt (base.Id m)) = refl

  has-fields : HasFieldsBy s t (new_model s.models) (new_field s.models)
  has-fields m f ty is = (renumbered_type s.models ty, types m f ty is, truth-type-new ty)

  -- no field is added, so both sizes are one
  below : (a b n most : ℕ) → a ≡ b → b ≡ n → n ≤ most → min (max a b) 1000000 ≤ most
  below a b n most e f le = omega (arith, e, f, le)

  policy-small : (m : ℕ) (p q : Policy) → IsPolicy s m p → PolicyIsWithin s p → Moved s p q → IsWithin (policy_size t q)
  policy-small m p q is small moved =
      below (policy_size_over t (written_out t t.added) q) (policy_size_over t nothing_written q) (policy_size_over s nothing_written p) most_size
      (ap (λ (added : List Added). policy_size_over t (written_out t added) q) nothing)
      (ap (policy_size_over t nothing_written) moved ∙ policy-same s t (new_model s.models) (new_field s.models) (new_static s) has-fields m p is) small

  fields-small : (m k : ℕ) (fs gs : List FieldInfo) → AreFieldsBeside s.models (Moved s) k fs gs → AllByRecursion (IsField s m) fs → AllByRecursion (FieldIsWithin s) fs
      → AllByRecursion IsWithin (flat_map (field_sizes counted t) gs)
  fields-small m k [] [] are typed small = tt
  fields-small m k [] (g ∷ gs) are typed small = absurd are
  fields-small m k (f ∷ fs) [] are typed small = absurd are
  fields-small m k (f ∷ fs) (g ∷ gs) are typed small = (
    policy-small m f.read g.read typed.0.read small.0.0 are.0.read,
    (policy-small m f.write g.write typed.0.write small.0.1 are.0.write, fields-small m (k + 1) fs gs are.1 typed.1 small.1),
  )

  models-small : (n k : ℕ) (ms is : List ModelInfo) → AreModelsBeside s.models (Moved s) n k ms is → AllByRecursion (IsModel s) ms → AllByRecursion (ModelIsWithin s) ms
      → AllByRecursion IsWithin (flat_map (model_sizes counted t) is)
  models-small n k [] [] are typed small = tt
  models-small n k [] (i ∷ is) are typed small = absurd are
  models-small n k (a ∷ ms) [] are typed small = absurd are
  models-small n k (a ∷ ms) (i ∷ is) are typed small =
      all-append IsWithin (model_sizes counted t i) (flat_map (model_sizes counted t) is) (
        policy-small a.number a.create i.create typed.0.create small.0.0 are.0.create,
        (
          policy-small a.number a.delete i.delete typed.0.delete small.0.1 are.0.delete,
          fields-small a.number k a.fields i.fields are.0.fields typed.0.fields small.0.2,
        ),
      )
      (models-small (n + 1) (k + length a.fields) ms is are.1 typed.1 small.1)

-- ---- the laws

pub trees_are_resolved : TreesAreResolved
trees_are_resolved s proper told room = let k = resolves s proper told room in (k.0, k.1.0)

pub trees_are_typed : TreesAreTyped
unfolding typed_spec models_are_small
trees_are_typed s proper told room small =
    let k = resolves s proper told room in
    let anew : Schema = k.0 in
    let fit : models_are_small counted anew anew.models (written_spec s).models ≡ Ok tt =
    small-all (flat_map (model_sizes counted anew) anew.models) (flat_map model_places (written_spec s).models)
    (models-small s anew proper k.1.1 k.1.2 0 0 s.models anew.models k.1.1 proper.typed small) in
    let whole = typed_spec counted (written_spec s) in
    (anew, then-ok whole _ tt (λ _. Ok anew) (then-ok whole _ anew _ refl k.1.0) fit)
