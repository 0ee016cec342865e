-- The tree of a specification after a command, as the command was written.
use Rattle.std.specs.Prelude.{true, not, List, [], ◌∷◌, ◌++◌, Option, Some, None, filter, map, if◌then◌else◌}
use Rattle.std.specs.Str.{bytes_eq}
use Rattle.text_tree.specs.declared.named.Named.{Named}
use Rattle.text_tree.specs.declared.models.FieldDef.{FieldDef}
use Rattle.text_tree.specs.declared.models.ModelDef.{ModelDef}
use Rattle.text_tree.specs.declared.models.Spec.{Spec}
use Rattle.text_tree.specs.declared.policies.Policy.{Policy}
use Rattle.text_tree.specs.declared.commands.Command.{Command}
use Rattle.text_tree.specs.declared.commands.Command.TheVariants as command
use Rattle.type_schema.specs.Trees.{Name}

-- the model of this name changed
abbrev pub change_def : Name → (ModelDef → ModelDef) → List ModelDef → List ModelDef
change_def name change models = map (λ (d : ModelDef). if bytes_eq d.name.name name then change d else d) models

abbrev pub change_field_def : Name → (FieldDef → FieldDef) → List FieldDef → List FieldDef
change_field_def name change fields = map (λ (f : FieldDef). if bytes_eq f.name.name name then change f else f) fields

-- a policy that is not given stays
abbrev pub given_or : Option Policy → Policy → Policy
given_or None before = before
given_or (Some policy) before = policy

abbrev pub with_def : FieldDef → ModelDef → ModelDef
with_def f d = record d { fields = d.fields ++ f ∷ [] }

abbrev pub without_def : Name → ModelDef → ModelDef
without_def name d = record d { fields = filter (λ (f : FieldDef). not (bytes_eq f.name.name name)) d.fields }

abbrev pub with_field_rights : Name → Option Policy → Option Policy → ModelDef → ModelDef
with_field_rights name read write d =
    record d { fields = change_field_def name (λ (f : FieldDef). record f { read = given_or read f.read; write = given_or write f.write }) d.fields }

abbrev pub with_model_rights : Option Policy → Option Policy → ModelDef → ModelDef
with_model_rights create delete d = record d { create = given_or create d.create; delete = given_or delete d.delete }

abbrev pub marked : ModelDef → ModelDef
marked d = record d { principal = true }

abbrev pub spec_after : Spec → Command → Spec
spec_after s (command.CreateModel d at) = record s { models = s.models ++ d ∷ [] }
spec_after s (command.DeleteModel model at) = record s { models = filter (λ (d : ModelDef). not (bytes_eq d.name.name model.name)) s.models }
spec_after s (command.AddStatic x at) = record s { statics = s.statics ++ x ∷ [] }
spec_after s (command.RemoveStatic x at) = record s { statics = filter (λ (y : Named). not (bytes_eq y.name x.name)) s.statics }
spec_after s (command.AddPrincipal model at) = record s { models = change_def model.name marked s.models }
spec_after s (command.AddField model f x init at) = record s { models = change_def model.name (with_def f) s.models }
spec_after s (command.RemoveField model f at) = record s { models = change_def model.name (without_def f.name) s.models }
spec_after s (command.UpdateFieldPolicy model f read write at) = record s { models = change_def model.name (with_field_rights f.name read write) s.models }
spec_after s (command.WeakenFieldPolicy model f read write reason at) = record s { models = change_def model.name (with_field_rights f.name read write) s.models }
spec_after s (command.UpdatePolicy model create delete at) = record s { models = change_def model.name (with_model_rights create delete) s.models }
spec_after s (command.WeakenPolicy model create delete reason at) = record s { models = change_def model.name (with_model_rights create delete) s.models }
