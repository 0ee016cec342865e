-- The plain data that schemas, commands and scripts of the code stand for.
use Rattle.std.specs.Prelude.{ℕ, map}
use Rattle.std.specs.Option.{option_map}
use Rattle.type_schema.specs.declared.schemas.StaticInfo as code_static
use Rattle.type_schema.specs.declared.schemas.FieldInfo as code_field
use Rattle.type_schema.specs.declared.schemas.ModelInfo as code_model
use Rattle.type_schema.specs.declared.schemas.Schema as code_schema
use Rattle.std.specs.declared.rc.Rc.{Rc}
use Rattle.std.specs.declared.alloc.Global.{Global}
use Rattle.type_schema.specs.declared.trees.TInit.{TInit}
use Rattle.type_schema.specs.declared.commands.TCommand.{TCommand}
use Rattle.type_schema.specs.declared.commands.TCommand.TheVariants.{CreateModel, DeleteModel, AddStatic, RemoveStatic, AddPrincipal, AddField, RemoveField, UpdateFieldPolicy, WeakenFieldPolicy, UpdatePolicy, WeakenPolicy}
use Rattle.type_schema.specs.declared.commands.TScript.{TScript}
use Rattle.type_schema.specs.Schema.{StaticInfo, FieldInfo, ModelInfo, Added, Schema}
use Rattle.type_schema.specs.Commands.{Command, create_model, delete_model, add_static, remove_static, add_principal, add_field, remove_field, update_field, weaken_field, update_model, weaken_model}
use Rattle.type_schema.specs.Script.{Script}
use Rattle.type_schema.specs.Views.{policy_of, init_of}

abbrev pub static_info_of : code_static.StaticInfo → StaticInfo
static_info_of n = record { number = n.number; name = n.name }

abbrev pub field_info_of : code_field.FieldInfo → FieldInfo
field_info_of f = record { number = f.number; name = f.name; ty = f.ty; read = policy_of f.read.value; write = policy_of f.write.value }

abbrev pub model_info_of : code_model.ModelInfo → ModelInfo
model_info_of m = record {
  number = m.number;
  name = m.name;
  principal = m.principal;
  create = policy_of m.create.value;
  delete = policy_of m.delete.value;
  fields = map field_info_of m.fields;
}

-- a field that the script added
abbrev pub added_of : ℕ × ℕ × Rc TInit Global → Added
added_of a = record { model = a.0; field = a.1; init = init_of a.2.value }

abbrev pub schema_of : code_schema.Schema → Schema
schema_of s = record {
  statics = map static_info_of s.statics;
  models = map model_info_of s.models;
  next_static = s.next_static;
  next_model = s.next_model;
  next_field = s.next_field;
  added = map added_of s.added;
  removed = s.removed;
}

abbrev pub command_of : TCommand → Command
command_of (CreateModel m) = create_model (model_info_of m)
command_of (DeleteModel m) = delete_model m
command_of (AddStatic n) = add_static (static_info_of n)
command_of (RemoveStatic n) = remove_static n
command_of (AddPrincipal m) = add_principal m
command_of (AddField m f init) = add_field m (field_info_of f) (init_of init.value)
command_of (RemoveField m f) = remove_field m f
command_of (UpdateFieldPolicy m f read write) =
    update_field m f (option_map (λ p. policy_of p.value) read) (option_map (λ p. policy_of p.value) write)
command_of (WeakenFieldPolicy m f read write reason) =
    weaken_field m f (option_map (λ p. policy_of p.value) read) (option_map (λ p. policy_of p.value) write) reason
command_of (UpdatePolicy m create delete) =
    update_model m (option_map (λ p. policy_of p.value) create) (option_map (λ p. policy_of p.value) delete)
command_of (WeakenPolicy m create delete reason) =
    weaken_model m (option_map (λ p. policy_of p.value) create) (option_map (λ p. policy_of p.value) delete) reason

abbrev pub script_of : TScript → Script
script_of t = record { start = schema_of t.start; commands = map command_of t.commands; schemas = map schema_of t.schemas }
