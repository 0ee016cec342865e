-- What commands change of one model.
use Rattle.std.specs.Prelude.{ℕ, ◌+◌, true, [], ◌∷◌, ◌++◌, Option}
use Rattle.std.specs.Option.{option_map}
use Rattle.type_schema.specs.Trees.{Policy}
use Rattle.type_schema.specs.Schema.{FieldInfo, ModelInfo, Added, Schema}
use Rattle.type_schema.specs.Commands.{change_model, given_or, with_field, with_field_policies, with_model_policies, without_field}
use Rattle.type_schema.specs.SchemaViews.{field_info_of}
use Rattle.type_schema.specs.Views.{policy_of}
use Rattle.type_commands.specs.declared.change.Change.{Change}
use Rattle.type_commands.specs.declared.change.Change.TheVariants as c

-- a field with the policies that are given
abbrev pub with_given : Option Policy → Option Policy → FieldInfo → FieldInfo
with_given read write f = record f { read = given_or read f.read; write = given_or write f.write }

abbrev pub as_principal : ModelInfo → ModelInfo
as_principal info = record info { principal = true }

abbrev pub change_of : Change → ModelInfo → ModelInfo
change_of c.Principal info = as_principal info
change_of (c.Field f) info = with_field (field_info_of f) info
change_of (c.WithoutField f) info = without_field f info
change_of (c.FieldPolicies f read write) info =
    with_field_policies f (option_map (λ p. policy_of p.value) read) (option_map (λ p. policy_of p.value) write) info
change_of (c.Policies create delete) info =
    with_model_policies (option_map (λ p. policy_of p.value) create) (option_map (λ p. policy_of p.value) delete) info

abbrev pub changed_schema : Schema → ℕ → (ModelInfo → ModelInfo) → Schema
changed_schema s m change = record s { models = change_model m change s.models }

-- a field that the script added, and its initialiser
abbrev pub with_added : Schema → Added → Schema
with_added s a = record s { next_field = s.next_field + 1; added = s.added ++ a ∷ [] }
