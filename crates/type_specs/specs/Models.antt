-- Models that are added to a schema. First all names are looked at, then the types of all fields, then all policies, each in the order of
-- the text.
use Rattle.std.specs.Prelude.{ℕ, ◌+◌, List, [], ◌∷◌, ◌++◌, Ok, length}
use Rattle.text_tree.specs.declared.models.FieldDef.{FieldDef}
use Rattle.text_tree.specs.declared.models.ModelDef.{ModelDef}
use Rattle.text_tree.specs.declared.policies.Policy as tree
use Rattle.type_schema.specs.Trees.{Policy, to_none}
use Rattle.type_schema.specs.Schema.{FieldInfo, ModelInfo, Schema}
use Rattle.type_schema.specs.Commands.{create_model, schema_after}
use Rattle.type_schema.specs.Views.{policy_of}
use Rattle.type_typing.specs.Outcome.{Checked, ◌>>=◌}
use Rattle.type_typing.specs.Policies.{typed_policy, typed_type}
use Rattle.type_specs.specs.declared.stage.Stage.{Stage}
use Rattle.type_specs.specs.declared.stage.Stage.TheVariants.{Types, Policies}
use Rattle.type_specs.specs.InTurn.{in_turn}
use Rattle.type_specs.specs.NewNames.{fields_differ, new_model}

-- one more model
abbrev pub with_model : Schema → ModelInfo → Schema
with_model s info = schema_after s (create_model info)

-- ---- names

-- the model by name and number alone
abbrev pub bare_model : Schema → ModelDef → ModelInfo
bare_model s d = record {
  number = s.next_model;
  name = d.name.name;
  principal = d.principal;
  create = to_none;
  delete = to_none;
  fields = [];
}

unfoldable pub with_names : Schema → ModelDef → Checked Schema
with_names s d = do
  _ ← new_model s d.name
  _ ← fields_differ d.fields
  Ok (with_model s (bare_model s d))

-- ---- types and policies

-- a policy on records of the model, as plain data
unfoldable pub policy_over : Schema → ℕ → tree.Policy → Checked Policy
policy_over over m p = typed_policy over m p >>= (λ typed. Ok (policy_of typed))

-- as far as this stage looks at it
unfoldable pub policy_at : Stage → Schema → ℕ → tree.Policy → Checked Policy
policy_at Types over m p = Ok to_none
policy_at Policies over m p = policy_over over m p

module _ (stage : Stage) (over : Schema) where
  -- a field of this number, of the model
  unfoldable pub typed_field : (model number : ℕ) → FieldDef → Checked FieldInfo
  typed_field model number f = do
    ty ← typed_type over f.ty
    read ← policy_at stage over model f.read
    write ← policy_at stage over model f.write
    Ok (record { number = number; name = f.name.name; ty = ty; read = read; write = write })

  -- One more field of the model. They are numbered from the first on.
  unfoldable pub with_next_field : (model first : ℕ) → List FieldInfo → FieldDef → Checked (List FieldInfo)
  with_next_field model first fields f = typed_field model (first + length fields) f >>= (λ info. Ok (fields ++ info ∷ []))

  -- the model with the next numbers of the schema that it is added to
  unfoldable pub typed_model : Schema → ModelDef → Checked ModelInfo
  typed_model s d = do
    create ← policy_at stage over s.next_model d.create
    delete ← policy_at stage over s.next_model d.delete
    fields ← in_turn (with_next_field s.next_model s.next_field) [] d.fields
    Ok (record { number = s.next_model; name = d.name.name; principal = d.principal; create = create; delete = delete; fields = fields })

  unfoldable pub with_typed : Schema → ModelDef → Checked Schema
  with_typed s d = typed_model s d >>= (λ info. Ok (with_model s info))

-- the schema and these models
unfoldable pub with_models : Schema → List ModelDef → Checked Schema
with_models s defs = do
  named ← in_turn with_names s defs
  known ← in_turn (with_typed Types named) s defs
  in_turn (with_typed Policies known) s defs

-- The one model that is added to the schema. Its policies see it.
unfoldable pub created_model : Schema → ModelDef → Checked ModelInfo
created_model s d = do
  named ← with_names s d
  known ← with_typed Types named s d
  typed_model Policies known s d
