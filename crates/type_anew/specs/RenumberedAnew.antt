-- Schemas numbered anew: statics, models and fields have their places in the order of the schema as numbers, from 0, the fields on through all
-- models.
use Rattle.std.specs.Prelude.{◌≡◌, ℕ, ◌+◌, List, [], ◌∷◌, length}
use Rattle.type_schema.specs.declared.types.TBase.{TBase}
use Rattle.type_schema.specs.declared.types.TBase.TheVariants as base
use Rattle.type_schema.specs.declared.types.TTy.{TTy}
use Rattle.type_schema.specs.declared.types.TTy.TheVariants.{Plain, Set, Opt}
use Rattle.type_schema.specs.Schema.{StaticInfo, FieldInfo, ModelInfo, Schema}
use Rattle.data_records.specs.Renumbered.{field_count, new_model}

module _ (models : List ModelInfo) where
  abbrev pub renumbered_base : TBase → TBase
  renumbered_base base.Bool = base.Bool
  renumbered_base base.Int = base.Int
  renumbered_base base.Text = base.Text
  renumbered_base (base.Id m) = base.Id (new_model models m)

  abbrev pub renumbered_type : TTy → TTy
  renumbered_type (Plain b) = Plain (renumbered_base b)
  renumbered_type (Set m) = Set (new_model models m)
  renumbered_type (Opt b) = Opt (renumbered_base b)

  -- the fields, numbered from here on
  abbrev pub AreFieldsAnew : ℕ → List FieldInfo → List FieldInfo → Type 0
  AreFieldsAnew n [] [] = Unit {0}
  AreFieldsAnew n [] (g ∷ anew) = ⊥
  AreFieldsAnew n (f ∷ fields) [] = ⊥
  AreFieldsAnew n (f ∷ fields) (g ∷ anew) =
      ((g.number ≡ n) × (g.name ≡ f.name) × (g.ty ≡ renumbered_type f.ty)) × AreFieldsAnew (n + 1) fields anew

  -- the models, numbered from here on, and their fields
  abbrev pub AreModelsAnew : (model field : ℕ) → List ModelInfo → List ModelInfo → Type 0
  AreModelsAnew n k [] [] = Unit {0}
  AreModelsAnew n k [] (b ∷ anew) = ⊥
  AreModelsAnew n k (a ∷ rest) [] = ⊥
  AreModelsAnew n k (a ∷ rest) (b ∷ anew) =
      ((b.number ≡ n) × (b.name ≡ a.name) × (b.principal ≡ a.principal) × AreFieldsAnew k a.fields b.fields)
      × AreModelsAnew (n + 1) (k + length a.fields) rest anew

abbrev pub AreStaticsAnew : ℕ → List StaticInfo → List StaticInfo → Type 0
AreStaticsAnew n [] [] = Unit {0}
AreStaticsAnew n [] (b ∷ anew) = ⊥
AreStaticsAnew n (a ∷ statics) [] = ⊥
AreStaticsAnew n (a ∷ statics) (b ∷ anew) = ((b.number ≡ n) × (b.name ≡ a.name)) × AreStaticsAnew (n + 1) statics anew

-- But for its policies, `anew` is s numbered anew.
pub record IsAnew (s anew : Schema) : Type 0 where
  pub statics : AreStaticsAnew 0 s.statics anew.statics
  pub models : AreModelsAnew s.models 0 0 s.models anew.models
  pub next_static : anew.next_static ≡ length s.statics
  pub next_model : anew.next_model ≡ length s.models
  pub next_field : anew.next_field ≡ field_count s.models
  pub added : anew.added ≡ []
  pub removed : anew.removed ≡ []
