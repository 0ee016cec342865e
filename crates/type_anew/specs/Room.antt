-- Schemas within the limits of specifications. Typing gives no others, also after commands.
use Rattle.std.specs.Prelude.{◌≤◌, length}
use Rattle.std.specs.List.{AllByRecursion}
use Rattle.text_ast.specs.Limits.{most_statics, most_models, most_fields}
use Rattle.type_schema.specs.Trees.{Policy}
use Rattle.type_schema.specs.Schema.{FieldInfo, ModelInfo, Schema}
use Rattle.duty_meaning.specs.Formulas.{nothing_written}
use Rattle.duty_meaning.specs.Sizes.{policy_size_over}
use Rattle.type_specs.specs.Sizes.{most_size}

-- there are no more statics, models and fields of a model than a specification may have
pub record IsWithinNumbers (s : Schema) : Type 0 where
  pub statics : length s.statics ≤ most_statics
  pub models : length s.models ≤ most_models
  pub fields : AllByRecursion (λ (m : ModelInfo). length m.fields ≤ most_fields) s.models

-- ---- sizes

module _ (s : Schema) where
  -- Added fields count as fields like others. Typing counts the larger one of this size and that with added fields written out.
  abbrev pub PolicyIsWithin : Policy → Type 0
  PolicyIsWithin p = policy_size_over s nothing_written p ≤ most_size

  abbrev pub FieldIsWithin : FieldInfo → Type 0
  FieldIsWithin f = PolicyIsWithin f.read × PolicyIsWithin f.write

  abbrev pub ModelIsWithin : ModelInfo → Type 0
  ModelIsWithin m = PolicyIsWithin m.create × PolicyIsWithin m.delete × AllByRecursion FieldIsWithin m.fields

  -- so are all policies of the schema
  abbrev pub IsWithinSizes : Type 0
  IsWithinSizes = AllByRecursion ModelIsWithin s.models
