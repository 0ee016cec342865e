-- Scripts over a schema.
use Rattle.std.specs.Prelude.{◌≡◌, ◌≢◌, ℕ, ◌+◌, List, [], ◌∷◌, Result, Ok, Err}
use Rattle.text_tree.specs.declared.commands.Command as written
use Rattle.text_tree.specs.declared.commands.Script as written_script
use Rattle.type_schema.specs.Schema.{Schema}
use Rattle.type_schema.specs.Commands.{Command}
use Rattle.type_schema.specs.Script.{Script, start_of}
use Rattle.type_typing.specs.Outcome.{Checked}
use Rattle.type_specs.specs.Sizes.{Sizes}
use Rattle.type_commands.specs.declared.script_err.ScriptErr.{ScriptErr}
use Rattle.type_commands.specs.declared.script_err.ScriptErr.TheVariants.{Bad, OutOfMemory}
use Rattle.type_commands.specs.Commands.{typed_command}

-- commands, and the schema after each
pub record Steps : Type 0 where
  pub commands : List Command
  pub schemas : List Schema

abbrev pub no_steps : Steps
no_steps = record { commands = []; schemas = [] }

abbrev pub Stepped : Type 0
Stepped = Result Steps ScriptErr

-- this command and those after it
abbrev pub then_steps : Schema × Command → Stepped → Stepped
then_steps step (Ok later) = Ok (record { commands = step.1 ∷ later.commands; schemas = step.0 ∷ later.schemas })
then_steps step (Err e) = Err e

-- The command of this number, and what stands after it on the schema that it gives. If it is bad, nothing else is looked at.
abbrev pub one_step : ℕ → Checked (Schema × Command) → (Schema → Stepped) → Stepped
one_step k (Ok step) later = then_steps step (later step.0)
one_step k (Err e) later = Err (Bad k e)

-- the commands over a schema, the first of which has this number
unfoldable pub steps : Sizes → ℕ → Schema → List written.Command → Stepped
steps sizes k s [] = Ok no_steps
steps sizes k s (c ∷ rest) = one_step k (typed_command sizes s c) (λ after. steps sizes (k + 1) after rest)

-- the script with these steps: the schemas on the way, the commands, and the schema of start databases
unfoldable pub script_from : Schema → Steps → Script
script_from s all =
    let parts : Script = record { start = s; commands = all.commands; schemas = s ∷ all.schemas } in
    record parts { start = start_of parts }

abbrev pub whole_script : Schema → Stepped → Result Script ScriptErr
whole_script s (Ok all) = Ok (script_from s all)
whole_script s (Err e) = Err e

-- commands are counted from 1
unfoldable pub typed_script : Sizes → Schema → written_script.Script → Result Script ScriptErr
typed_script sizes s script = whole_script s (steps sizes 1 s script.commands)

-- The answer, seen as plain data, is the outcome, unless memory is missing.
abbrev pub GivesScript : {A B : Type 0} → (A → B) → Result B ScriptErr → Result A ScriptErr → Type 0
GivesScript seen outcome (Ok a) = outcome ≡ Ok (seen a)
GivesScript seen outcome (Err e) = e ≢ OutOfMemory → outcome ≡ Err e
