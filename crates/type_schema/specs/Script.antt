-- Typed scripts.
use Rattle.std.specs.Prelude.{◌≡◌, ◌≤◌, ℕ, suc, ◌+◌, List, [], ◌∷◌, ◌++◌, length, map, Option, Some, slice_get, slice_index_or}
use Rattle.text_ast.specs.Limits.{most_commands}
use Rattle.type_schema.specs.Trees.{to_none}
use Rattle.type_schema.specs.Schema.{FieldInfo, ModelInfo, Schema}
use Rattle.type_schema.specs.Commands.{Command, create_model, delete_model, add_static, remove_static, add_principal, add_field, remove_field, update_field, weaken_field, update_model, weaken_model, schema_after, IsCommand}
use Rattle.type_schema.specs.Proper.{IsProper}

-- The schema of the databases that it may start from, the commands, and the schema before the first and after each.
pub record Script : Type 0 where
  pub start : Schema
  pub commands : List Command
  pub schemas : List Schema

abbrev pub count : Script → ℕ
count t = length t.commands

-- the schema after k commands
abbrev pub schema_at : Script → ℕ → Schema
schema_at t k = slice_index_or t.schemas k t.start

-- the command behind the first k
abbrev pub command_at : Script → ℕ → Option Command
command_at t k = slice_get t.commands k

-- ---- the schema of start databases

-- the field and the model with policies that allow nobody
abbrev pub closed_field : FieldInfo → FieldInfo
closed_field f = record f { read = to_none; write = to_none }

abbrev pub closed_model : ModelInfo → ModelInfo
closed_model m = record m { create = to_none; delete = to_none; fields = map closed_field m.fields }

-- the model that the command creates
abbrev pub created_by : Command → List ModelInfo
created_by (create_model m) = closed_model m ∷ []
created_by (delete_model m) = []
created_by (add_static n) = []
created_by (remove_static n) = []
created_by (add_principal m) = []
created_by (add_field m f init) = []
created_by (remove_field m f) = []
created_by (update_field m f read write) = []
created_by (weaken_field m f read write reason) = []
created_by (update_model m create delete) = []
created_by (weaken_model m create delete reason) = []

abbrev pub created : List Command → List ModelInfo
created [] = []
created (c ∷ commands) = created_by c ++ created commands

-- The statics and models of the schema before the first command, and the models that the script creates, each with the fields that it
-- is created with. Two models may have one name. The next numbers are those after the last command.
abbrev pub start_of : Script → Schema
start_of t = record {
  statics = (schema_at t 0).statics;
  models = (schema_at t 0).models ++ created t.commands;
  next_static = (schema_at t (count t)).next_static;
  next_model = (schema_at t (count t)).next_model;
  next_field = (schema_at t (count t)).next_field;
  added = [];
  removed = [];
}

-- ---- well typed scripts

pub record IsScript (t : Script) : Type 0 where
  pub few : count t ≤ most_commands
  pub schemas : length t.schemas ≡ count t + 1
  pub proper : (k : ℕ) → k ≤ count t → IsProper (schema_at t k)
  pub commands : (k : ℕ) (c : Command) → command_at t k ≡ Some c → IsCommand (schema_at t k) c
  pub steps : (k : ℕ) (c : Command) → command_at t k ≡ Some c → schema_at t (suc k) ≡ schema_after (schema_at t k) c
  pub nothing_added : (schema_at t 0).added ≡ []
  pub start : t.start ≡ start_of t
