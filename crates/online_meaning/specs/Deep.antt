-- What initialisers read deeply: cells of the database before the script, and models, also through other added fields.
use Rattle.std.specs.Prelude.{ℕ, zero, suc, Bool, ◌&&◌, ◌==◌, List, [], ◌∷◌, ◌++◌, Option, None, Some, option_and_then, if◌then◌else◌}
use Rattle.std.specs.List.{flat_map}
use Rattle.std.specs.Option.{option_map_or}
use Rattle.type_schema.specs.Trees.{Init}
use Rattle.type_schema.specs.Schema.{Added}
use Rattle.type_schema.specs.Commands.{Command, create_model, delete_model, add_static, remove_static, add_principal, add_field, remove_field, update_field, weaken_field, update_model, weaken_model}
use Rattle.type_schema.specs.Script.{Script, command_at}
use Rattle.type_schema.specs.Uses.{Use, init_uses_of}
use Rattle.data_meaning.specs.Database.{Database}
use Rattle.data_meaning.specs.declared.cells.Cell.{Cell}
use Rattle.data_meaning.specs.Touched.{init_touched}
use Rattle.data_meaning.specs.Run.{run_to, widened}
use Rattle.online_meaning.specs.Finds.{init_finds_of}

-- the field that the command adds, with its initialiser
abbrev pub added_by : Command → Option Added
added_by (create_model m) = None
added_by (delete_model m) = None
added_by (add_static n) = None
added_by (remove_static n) = None
added_by (add_principal m) = None
added_by (add_field m f init) = Some (record { model = m; field = f.number; init = init })
added_by (remove_field m f) = None
added_by (update_field m f read write) = None
added_by (weaken_field m f read write reason) = None
added_by (update_model m create delete) = None
added_by (weaken_model m create delete reason) = None

-- the field that the command behind the first k adds
abbrev pub added_at : Script → ℕ → Option Added
added_at t k = option_and_then added_by (command_at t k)

abbrev pub is_field : Added → ℕ → ℕ → Bool
is_field a m f = (a.model == m) && (a.field == f)

module _ (t : Script) where
  -- The cells of the database before the script that a cell after k commands is made from: the cell itself, or where a command added the
  -- field, those that the cells are made from which its initialiser touched at the record.
  abbrev pub sources : Database → ℕ → Cell → List Cell
  sources d zero cell = cell ∷ []
  sources d (suc k) cell =
      option_map_or (λ (a : Added).
      if is_field a cell.model cell.field then flat_map (sources d k) (init_touched (run_to t k (widened t d)) a.init cell.id) else sources d k cell)
      (added_at t k) (sources d k cell)

  -- the cells of the database before the script that the initialiser of the command behind the first k reads deeply at the record
  abbrev pub deep_cells : Database → ℕ → Init → ℕ → List Cell
  deep_cells d k init id = flat_map (sources d k) (init_touched (run_to t k (widened t d)) init id)

  -- The models on which there is a `Find` behind a field after k commands: none, or where a command added the field, those of its
  -- initialiser, and those behind the fields that this uses.
  abbrev pub finds_behind : ℕ → Use → List ℕ
  finds_behind zero u = []
  finds_behind (suc k) u =
      option_map_or (λ (a : Added).
      if is_field a u.model u.field then init_finds_of a.init ++ flat_map (finds_behind k) (init_uses_of a.init) else finds_behind k u)
      (added_at t k) (finds_behind k u)

  -- the models on which the initialiser of the command behind the first k has a `Find`, itself or behind a field that it uses
  abbrev pub deep_finds : ℕ → Init → List ℕ
  deep_finds k init = init_finds_of init ++ flat_map (finds_behind k) (init_uses_of init)
