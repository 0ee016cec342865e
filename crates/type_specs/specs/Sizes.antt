-- The sizes of policies and initialisers.
use Rattle.std.specs.Prelude.{ℕ, List, [], ◌∷◌, Ok, Err, map, nat_le, if◌then◌else◌}
use Rattle.std.specs.List.{flat_map, zip}
use Rattle.text_tree.specs.declared.models.FieldDef.{FieldDef}
use Rattle.text_tree.specs.declared.models.ModelDef.{ModelDef}
use Rattle.text_tree.specs.declared.policies.Policy as tree
use Rattle.text_tree.specs.declared.policies.Policy.TheVariants as p
use Rattle.text_tree.specs.Placed.{set_at}
use Rattle.type_schema.specs.declared.types.TTy.{TTy}
use Rattle.type_schema.specs.Trees.{Policy, Init}
use Rattle.type_schema.specs.Schema.{FieldInfo, ModelInfo, Schema}
use Rattle.type_typing.specs.declared.type_err.TypeErr.TheVariants.{Expanded}
use Rattle.type_typing.specs.Outcome.{Checked}
use Rattle.type_specs.specs.InTurn.{all_hold}
use Rattle.type_specs.specs.declared.limits.TheConstants.{MOST_POLICY_SIZE}

-- What is counted: how large a formula a policy becomes over a schema, and an initialiser of a field of the type.
pub record Sizes : Type 0 where
  pub policy : Schema → Policy → ℕ
  pub init : Schema → TTy → Init → ℕ

-- of a policy and of an initialiser
abbrev pub most_size : ℕ
most_size = MOST_POLICY_SIZE

-- the size is within the limit; a fault stands at the place
abbrev pub is_small : (size at : ℕ) → Checked (Unit {0})
is_small size at = if nat_le size most_size then Ok tt else Err (Expanded at size)

-- the first token of its set; that of a policy without one is the word
abbrev pub policy_place : tree.Policy → ℕ
policy_place (p.Everyone at) = at
policy_place (p.Nobody at) = at
policy_place (p.Fun x set) = set_at set

-- each of these sizes, with its place; the first above the limit is the fault
abbrev pub are_small : (sizes places : List ℕ) → Checked (Unit {0})
are_small sizes places = all_hold (map (λ (sized : ℕ × ℕ). is_small sized.0 sized.1) (zip sizes places))

-- ---- the places and the sizes of the policies of models, in the order of the text

abbrev pub field_places : FieldDef → List ℕ
field_places f = policy_place f.read ∷ policy_place f.write ∷ []

abbrev pub model_places : ModelDef → List ℕ
model_places d = policy_place d.create ∷ policy_place d.delete ∷ flat_map field_places d.fields

module _ (sizes : Sizes) (s : Schema) where
  abbrev pub field_sizes : FieldInfo → List ℕ
  field_sizes f = sizes.policy s f.read ∷ sizes.policy s f.write ∷ []

  abbrev pub model_sizes : ModelInfo → List ℕ
  model_sizes info = sizes.policy s info.create ∷ sizes.policy s info.delete ∷ flat_map field_sizes info.fields

  -- the policies of these models, as the text gives them
  unfoldable pub models_are_small : List ModelInfo → List ModelDef → Checked (Unit {0})
  models_are_small models defs = are_small (flat_map model_sizes models) (flat_map model_places defs)
