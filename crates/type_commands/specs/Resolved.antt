-- What a command is over the schema before it, by every rule but those on sizes. Its parts are looked at in the order of the text; whether
-- something is still used comes after all names.
use Rattle.std.specs.Prelude.{ℕ, List, [], ◌∷◌, Option, None, Some, Ok, Err, is_some, length, if◌then◌else◌}
use Rattle.std.specs.Option.{option_map, option_map_or}
use Rattle.text_ast.specs.Limits.{most_fields}
use Rattle.text_tree.specs.declared.named.Named.{Named}
use Rattle.text_tree.specs.declared.named.Reason.{Reason}
use Rattle.text_tree.specs.declared.models.FieldDef.{FieldDef}
use Rattle.text_tree.specs.declared.models.ModelDef.{ModelDef}
use Rattle.text_tree.specs.declared.policies.Policy.{Policy}
use Rattle.text_tree.specs.declared.policies.Init as tree
use Rattle.text_tree.specs.declared.commands.Command as written
use Rattle.text_tree.specs.declared.commands.Command.TheVariants as w
use Rattle.type_schema.specs.declared.types.TTy.{TTy}
use Rattle.type_schema.specs.Trees.{Policy as TypedPolicy, Init}
use Rattle.type_schema.specs.Schema.{FieldInfo, ModelInfo, Schema, model_of, is_principal_model}
use Rattle.type_schema.specs.Commands.{Command, create_model, delete_model, add_static, remove_static, add_principal, add_field, remove_field, update_field, weaken_field, update_model, weaken_model, change_model, with_field}
use Rattle.type_schema.specs.Views.{init_of}
use Rattle.type_typing.specs.declared.type_err.UsedBy.{UsedBy}
use Rattle.type_typing.specs.declared.type_err.TypeErr.TheVariants.{Unknown, Twice, StillUsed, EmptyReason}
use Rattle.type_typing.specs.Names.{model_named, static_named, field_named}
use Rattle.type_typing.specs.Outcome.{Checked, ◌>>=◌, or_else}
use Rattle.type_typing.specs.Policies.{typed_init}
use Rattle.type_specs.specs.declared.stage.Stage.TheVariants.{Types, Policies}
use Rattle.type_specs.specs.Models.{created_model, policy_over, typed_field}
use Rattle.type_specs.specs.NewNames.{new_static, one_more}
use Rattle.type_specs.specs.Specs.{next_static}
use Rattle.type_commands.specs.declared.thing.Thing.{Thing}
use Rattle.type_commands.specs.declared.thing.Thing.TheVariants as the
use Rattle.type_commands.specs.Users.{first_user}

-- ---- names

unfoldable pub known_model : Schema → Named → Checked ℕ
known_model s x = or_else (model_named s x.name) (Unknown x.at)

unfoldable pub known_static : Schema → Named → Checked ℕ
known_static s x = or_else (static_named s x.name) (Unknown x.at)

-- the number of the field of the model of this number
unfoldable pub known_field : Schema → ℕ → Named → Checked ℕ
known_field s m x = or_else (option_map (λ (found : ℕ × TTy). found.0) (field_named s m x.name)) (Unknown x.at)

-- the model of this number may have one more field of this name
unfoldable pub field_count : Schema → ℕ → ℕ
field_count s m = option_map_or (λ (info : ModelInfo). length info.fields) (model_of s m) 0

abbrev pub new_field_in : Schema → ℕ → Named → Checked (Unit {0})
new_field_in s m x = one_more (is_some (field_named s m x.name)) (field_count s m) most_fields x

-- ---- parts

-- a policy that may be given, on records of the model
unfoldable pub given : Schema → ℕ → Option Policy → Checked (Option TypedPolicy)
given s m None = Ok None
given s m (Some p) = policy_over s m p >>= (λ policy. Ok (Some policy))

-- a text that is not empty
abbrev pub text_given : (at : ℕ) → List ℕ → Checked (List ℕ)
text_given at [] = Err (EmptyReason at)
text_given at (byte ∷ rest) = Ok (byte ∷ rest)

unfoldable pub reason_given : Reason → Checked (List ℕ)
reason_given reason = text_given reason.at reason.text

-- nothing is left that uses it; a fault stands at its name
abbrev pub not_held : (at : ℕ) → Option UsedBy → Checked (Unit {0})
not_held at None = Ok tt
not_held at (Some user) = Err (StillUsed at user)

unfoldable pub unused : Schema → Thing → Named → Checked (Unit {0})
unused s thing x = not_held x.at (first_user s thing)

unfoldable pub init_over : Schema → ℕ → TTy → Named → tree.Init → Checked Init
init_over s m ty x init = typed_init s m ty x init >>= (λ typed. Ok (init_of typed))

-- the schema with one more field of the model
abbrev pub with_new_field : Schema → ℕ → FieldInfo → Schema
with_new_field s m f = record s { models = change_model m (with_field f) s.models }

-- ---- commands

unfoldable pub new_principal : Schema → Named → Checked Command
new_principal s model = do
  m ← known_model s model
  if is_principal_model s m then Err (Twice model.at) else Ok (add_principal m)

unfoldable pub removed_model : Schema → Named → Checked Command
removed_model s model = do
  m ← known_model s model
  _ ← unused s (the.Model m) model
  Ok (delete_model m)

unfoldable pub removed_static : Schema → Named → Checked Command
removed_static s x = do
  n ← known_static s x
  _ ← unused s (the.Static n) x
  Ok (remove_static n)

unfoldable pub removed_field : Schema → Named → Named → Checked Command
removed_field s model x = do
  m ← known_model s model
  f ← known_field s m x
  _ ← unused s (the.Field m f) x
  Ok (remove_field m f)

-- a new field of the model, whose policies see it
unfoldable pub field_seen : Schema → ℕ → FieldDef → Checked FieldInfo
field_seen s m f = do
  closed ← typed_field Types s m s.next_field f
  typed_field Policies (with_new_field s m closed) m s.next_field f

-- Its initialiser does not see it.
unfoldable pub added_field : Schema → Named → FieldDef → Named → tree.Init → Checked Command
added_field s model f x init = do
  m ← known_model s model
  _ ← new_field_in s m f.name
  field ← field_seen s m f
  first ← init_over s m field.ty x init
  Ok (add_field m field first)

unfoldable pub created : Schema → ModelDef → Checked Command
created s d = created_model s d >>= (λ info. Ok (create_model info))

unfoldable pub added_static : Schema → Named → Checked Command
added_static s x = new_static s x >>= (λ _. Ok (add_static (next_static s x)))

unfoldable pub updated_field : Schema → Named → Named → Option Policy → Option Policy → Checked Command
updated_field s model x read write = do
  m ← known_model s model
  f ← known_field s m x
  r ← given s m read
  w ← given s m write
  Ok (update_field m f r w)

unfoldable pub weakened_field : Schema → Named → Named → Option Policy → Option Policy → Reason → Checked Command
weakened_field s model x read write reason = do
  m ← known_model s model
  f ← known_field s m x
  r ← given s m read
  w ← given s m write
  text ← reason_given reason
  Ok (weaken_field m f r w text)

unfoldable pub updated_model : Schema → Named → Option Policy → Option Policy → Checked Command
updated_model s model create delete = do
  m ← known_model s model
  c ← given s m create
  d ← given s m delete
  Ok (update_model m c d)

unfoldable pub weakened_model : Schema → Named → Option Policy → Option Policy → Reason → Checked Command
weakened_model s model create delete reason = do
  m ← known_model s model
  c ← given s m create
  d ← given s m delete
  text ← reason_given reason
  Ok (weaken_model m c d text)

unfoldable pub resolved : Schema → written.Command → Checked Command
resolved s (w.CreateModel d at) = created s d
resolved s (w.DeleteModel model at) = removed_model s model
resolved s (w.AddStatic x at) = added_static s x
resolved s (w.RemoveStatic x at) = removed_static s x
resolved s (w.AddPrincipal model at) = new_principal s model
resolved s (w.AddField model f x init at) = added_field s model f x init
resolved s (w.RemoveField model x at) = removed_field s model x
resolved s (w.UpdateFieldPolicy model x read write at) = updated_field s model x read write
resolved s (w.WeakenFieldPolicy model x read write reason at) = weakened_field s model x read write reason
resolved s (w.UpdatePolicy model create delete at) = updated_model s model create delete
resolved s (w.WeakenPolicy model create delete reason at) = weakened_model s model create delete reason
