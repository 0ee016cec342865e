-- Scripts that are typed command by command.
use Rattle.std.specs.Prelude.{◌≡◌, ◌≢◌, ℕ, List, [], ◌∷◌, ◌++◌, map, Result, Ok, Err}
use Rattle.text_tree.specs.declared.commands.Command as written
use Rattle.type_schema.specs.Schema.{Schema}
use Rattle.type_schema.specs.SchemaViews.{command_of}
use Rattle.type_schema.specs.Commands.{Command}
use Rattle.type_schema.specs.Script.{Script, created}
use Rattle.type_typing.specs.Names.{plain_of}
use Rattle.type_typing.specs.Outcome.{Checked}
use Rattle.type_commands.specs.declared.script_err.ScriptErr.{ScriptErr}
use Rattle.type_commands.specs.declared.script_err.ScriptErr.TheVariants.{Bad, OutOfMemory}
use Rattle.type_commands.specs.Commands.{typed_command}
use Rattle.type_commands.specs.Scripts.{Steps, Stepped, one_step}
use Rattle.type_scripts.specs.Counted.{counted}
use Rattle.type_scripts.specs.declared.steps.Steps as code

-- the commands so far, the schema before each, and the schema after them
pub record Run : Type 0 where
  pub commands : List Command
  pub schemas : List Schema
  pub last : Schema

abbrev pub run_of : code.Steps → Run
run_of steps = record { commands = map command_of steps.commands.items; schemas = map plain_of steps.schemas.items; last = plain_of steps.last }

-- no command yet
abbrev pub run_from : Schema → Run
run_from s = record { commands = []; schemas = []; last = s }

-- the commands, and all schemas
abbrev pub all_of : Run → Steps
all_of run = record { commands = run.commands; schemas = run.schemas ++ run.last ∷ [] }

-- the commands so far and those after them, with all schemas
abbrev pub followed_by : Run → Stepped → Stepped
followed_by run (Ok later) = Ok (record { commands = run.commands ++ later.commands; schemas = run.schemas ++ run.last ∷ later.schemas })
followed_by run (Err e) = Err e

-- The command of this number is taken up, whatever comes after it; or it is bad.
abbrev pub TakesUp : ℕ → written.Command → (before after : Run) → Result (Unit {0}) ScriptErr → Type 0
TakesUp k c before after (Ok _) =
    (later : Schema → Stepped) → followed_by before (one_step k (typed_command counted before.last c) later) ≡ followed_by after (later after.last)
TakesUp k c before after (Err e) =
    e ≢ OutOfMemory → (later : Schema → Stepped) → followed_by before (one_step k (typed_command counted before.last c) later) ≡ Err e

-- the outcome of a command, where a fault has its number
abbrev pub numbered : {A : Type 0} → ℕ → Checked A → Result A ScriptErr
numbered k (Ok a) = Ok a
numbered k (Err e) = Err (Bad k e)

-- the schema of the databases that may be there before these commands, which lead from the first schema to the last
abbrev pub start_from : (first : Schema) → List Command → (last : Schema) → Schema
start_from first commands last = record {
  statics = first.statics;
  models = first.models ++ created commands;
  next_static = last.next_static;
  next_model = last.next_model;
  next_field = last.next_field;
  added = [];
  removed = [];
}

-- the script of these commands
abbrev pub script_of_run : (first : Schema) → Run → Script
script_of_run first run = record { start = start_from first run.commands run.last; commands = run.commands; schemas = run.schemas ++ run.last ∷ [] }
