-- A command over a schema: the schema after it, and the command with its names resolved.
use Rattle.std.specs.Prelude.{ℕ, List, [], ◌∷◌, ◌++◌, Option, Ok, map, option_to_list}
use Rattle.text_tree.specs.declared.policies.Policy as tree
use Rattle.text_tree.specs.declared.policies.Init as tree_init
use Rattle.text_tree.specs.declared.policies.Init.TheVariants as i
use Rattle.text_tree.specs.declared.commands.Command as written
use Rattle.text_tree.specs.declared.commands.Command.TheVariants as w
use Rattle.text_tree.specs.Placed.{expr_at, set_at}
use Rattle.type_schema.specs.Trees.{Policy}
use Rattle.type_schema.specs.Schema.{Schema}
use Rattle.type_schema.specs.Commands.{Command, create_model, delete_model, add_static, remove_static, add_principal, add_field, remove_field, update_field, weaken_field, update_model, weaken_model, schema_after}
use Rattle.type_typing.specs.Outcome.{Checked, ◌>>=◌}
use Rattle.type_specs.specs.Sizes.{Sizes, are_small, field_places, field_sizes, model_places, model_sizes, policy_place}
use Rattle.type_commands.specs.Resolved.{resolved}

-- ---- the places and the sizes of what a command gives, in the order of the text

-- the first token of an initialiser
abbrev pub init_place : tree_init.Init → ℕ
init_place (i.Plain e) = expr_at e
init_place (i.OfSet set) = set_at set

abbrev pub given_places : Option tree.Policy → Option tree.Policy → List ℕ
given_places one other = map policy_place (option_to_list one ++ option_to_list other)

abbrev pub command_places : written.Command → List ℕ
command_places (w.CreateModel d at) = model_places d
command_places (w.DeleteModel model at) = []
command_places (w.AddStatic x at) = []
command_places (w.RemoveStatic x at) = []
command_places (w.AddPrincipal model at) = []
command_places (w.AddField model f x init at) = field_places f ++ init_place init ∷ []
command_places (w.RemoveField model x at) = []
command_places (w.UpdateFieldPolicy model x read write at) = given_places read write
command_places (w.WeakenFieldPolicy model x read write reason at) = given_places read write
command_places (w.UpdatePolicy model create delete at) = given_places create delete
command_places (w.WeakenPolicy model create delete reason at) = given_places create delete

module _ (sizes : Sizes) (s : Schema) where
  abbrev pub given_sizes : Option Policy → Option Policy → List ℕ
  given_sizes one other = map (sizes.policy s) (option_to_list one ++ option_to_list other)

  abbrev pub command_sizes : Command → List ℕ
  command_sizes (create_model info) = model_sizes sizes s info
  command_sizes (delete_model m) = []
  command_sizes (add_static info) = []
  command_sizes (remove_static n) = []
  command_sizes (add_principal m) = []
  command_sizes (add_field m f init) = field_sizes sizes s f ++ sizes.init s f.ty init ∷ []
  command_sizes (remove_field m f) = []
  command_sizes (update_field m f read write) = given_sizes read write
  command_sizes (weaken_field m f read write reason) = given_sizes read write
  command_sizes (update_model m create delete) = given_sizes create delete
  command_sizes (weaken_model m create delete reason) = given_sizes create delete

-- What the command gives is counted with the schema after it.
unfoldable pub command_is_small : Sizes → Schema → Command → written.Command → Checked (Unit {0})
command_is_small sizes after command c = are_small (command_sizes sizes after command) (command_places c)

unfoldable pub typed_command : Sizes → Schema → written.Command → Checked (Schema × Command)
typed_command sizes s c = do
  command ← resolved s c
  _ ← command_is_small sizes (schema_after s command) command c
  Ok (schema_after s command, command)
