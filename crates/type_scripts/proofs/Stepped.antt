-- Commands that are typed one after the other.
use Rattle.std.proofs.Common.{◌≡◌, ℕ, ◌<◌, ◌≤◌, ◌+◌, suc, List, [], ◌∷◌, ◌++◌, map, length, drop, get_or, refl, sym, ap, ◌∙◌, drop-cons, append_assoc, arith}
use Rattle.std.specs.Prelude.{Ok, Err}
use Rattle.std.proofs.Common.{length-append, subst}
use Rattle.std.proofs.lemmas.List.{append-nil, drop_all, map-append, get_or_push}
use Rattle.text_tree.specs.declared.commands.Command as written
use Rattle.text_tree.specs.declared.models.Spec.{Spec}
use Rattle.type_schema.specs.declared.commands.TCommand.{TCommand}
use Rattle.type_schema.specs.declared.schemas.Schema as code_schema
use Rattle.type_schema.specs.Schema.{Schema}
use Rattle.type_schema.specs.SchemaViews.{command_of, schema_of, script_of}
use Rattle.type_schema.specs.Commands.{Command, schema_after}
use Rattle.type_schema.specs.Script.{Script}
use Rattle.type_typing.specs.Names.{plain_of}
use Rattle.type_typing.specs.Outcome.{Checked, ◌>>=◌}
use Rattle.type_specs.specs.Sizes.{Sizes, models_are_small}
use Rattle.type_specs.specs.Specs.{resolved_spec, typed_spec}
use Rattle.type_commands.specs.declared.script_err.ScriptErr.{ScriptErr}
use Rattle.type_commands.specs.Resolved.{resolved}
use Rattle.type_commands.specs.Commands.{command_is_small, typed_command}
use Rattle.type_commands.specs.Scripts.{Steps, Stepped, no_steps, one_step, script_from, steps, then_steps, whole_script}
use Rattle.type_scripts.specs.Counted.{counted, step_of}
use Rattle.type_scripts.specs.Running.{Run, all_of, followed_by, numbered, run_from, run_of, script_of_run, start_from}
use Rattle.type_scripts.specs.declared.steps.Steps as code

-- ---- a specification

pub spec_typed : (sizes : Sizes) (spec : Spec) (s : Schema) (small : Unit {0})
    → resolved_spec spec ≡ Ok s → models_are_small sizes s s.models spec.models ≡ Ok small → typed_spec sizes spec ≡ Ok s
unfolding typed_spec
spec_typed sizes spec s small is within =
    ap (λ (o : Checked Schema). o >>= (λ t. models_are_small sizes t t.models spec.models >>= (λ _. Ok t))) is
    ∙ ap (λ (o : Checked (Unit {0})). o >>= (λ _. Ok s)) within

-- ---- one command

abbrev pub led_to : Schema → Checked Schema
led_to s = Ok s

pub command_typed : (sizes : Sizes) (s after : Schema) (c : written.Command) (command : Command) (small : Unit {0})
    → resolved s c ≡ Ok command → led_to (schema_after s command) ≡ led_to after → command_is_small sizes after command c ≡ Ok small
    → typed_command sizes s c ≡ Ok (after, command)
unfolding typed_command
command_typed sizes s after c command small is leads within =
    ap (λ (o : Checked Command). o >>= (λ command. command_is_small sizes (schema_after s command) command c >>= (λ _. Ok (schema_after s command, command)))) is
    ∙ ap (λ (o : Checked Schema). o >>= (λ t. command_is_small sizes t command c >>= (λ _. Ok (t, command)))) leads
    ∙ ap (λ (o : Checked (Unit {0})). o >>= (λ _. Ok (after, command))) within

-- ---- a command that is taken up

abbrev run_with : Run → Schema × Command → Run
run_with run step = record { commands = run.commands ++ step.1 ∷ []; schemas = run.schemas ++ run.last ∷ []; last = step.0 }

run-more : (run : Run) (step : Schema × Command) (later : Stepped) → followed_by run (then_steps step later) ≡ followed_by (run_with run step) later
run-more run step (Ok later) =
    ap (λ (l : List Command). Ok (record { commands = l; schemas = run.schemas ++ run.last ∷ step.0 ∷ later.schemas })) (sym (append_assoc run.commands (step.1 ∷ []) later.commands))
    ∙ ap (λ (l : List Schema). Ok (record { commands = (run.commands ++ step.1 ∷ []) ++ later.commands; schemas = l })) (sym (append_assoc run.schemas (run.last ∷ []) (step.0 ∷ later.schemas)))
run-more run step (Err e) = refl

run-taken : (old new : code.Steps) (after before : code_schema.Schema) (command : TCommand)
    → new.commands.items ≡ old.commands.items ++ command ∷ [] → new.schemas.items ≡ old.schemas.items ++ before ∷ [] → before ≡ old.last → new.last ≡ after
    → run_of new ≡ run_with (run_of old) (step_of (after, command))
unfolding plain_of
run-taken old new after before command commands schemas was is =
    ap (λ (l : List TCommand). record { commands = map command_of l; schemas = map plain_of new.schemas.items; last = plain_of new.last }) commands
    ∙ ap (λ (l : List Command). record { commands = l; schemas = map plain_of new.schemas.items; last = plain_of new.last }) (map-append command_of old.commands.items (command ∷ []))
    ∙ ap (λ (l : List code_schema.Schema). record { commands = map command_of old.commands.items ++ command_of command ∷ []; schemas = map plain_of l; last = plain_of new.last }) schemas
    ∙ ap (λ (l : List Schema). record { commands = map command_of old.commands.items ++ command_of command ∷ []; schemas = l; last = plain_of new.last }) (map-append plain_of old.schemas.items (before ∷ []))
    ∙ ap (λ (b : code_schema.Schema). record { commands = map command_of old.commands.items ++ command_of command ∷ []; schemas = map plain_of old.schemas.items ++ plain_of b ∷ []; last = plain_of new.last }) was
    ∙ ap (λ (b : code_schema.Schema). record { commands = map command_of old.commands.items ++ command_of command ∷ []; schemas = map plain_of old.schemas.items ++ plain_of old.last ∷ []; last = plain_of b }) is

numbered-step : (k : ℕ) (o : Checked (Schema × Command)) (step : Schema × Command) (later : Schema → Stepped)
    → numbered k o ≡ Ok step → one_step k o later ≡ then_steps step (later step.0)
numbered-step k (Ok other) step later is = let same : other ≡ step = cc in ap (λ (t : Schema × Command). then_steps t (later t.0)) same
numbered-step k (Err e) step later is = absurd (cc is)

pub taken_up : (k : ℕ) (o : Checked (Schema × Command)) (old new : code.Steps) (after before : code_schema.Schema) (command : TCommand)
    → numbered k o ≡ Ok (step_of (after, command))
    → new.commands.items ≡ old.commands.items ++ command ∷ [] → new.schemas.items ≡ old.schemas.items ++ before ∷ [] → before ≡ old.last → new.last ≡ after
    → (later : Schema → Stepped) → followed_by (run_of old) (one_step k o later) ≡ followed_by (run_of new) (later (run_of new).last)
taken_up k o old new after before command typed commands schemas was is later =
    ap (λ x. followed_by (run_of old) x) (numbered-step k o (step_of (after, command)) later typed)
    ∙ run-more (run_of old) (step_of (after, command)) (later (schema_of after))
    ∙ ap (λ (run : Run). followed_by run (later run.last)) (sym (run-taken old new after before command commands schemas was is))

-- ---- the commands that are left

next-steps : (run : Run) (k : ℕ) (commands : List written.Command) (i : ℕ) (c : written.Command) → i < length commands → c ≡ get_or commands i c
    → followed_by run (steps counted k run.last (drop i commands))
    ≡ followed_by run (one_step k (typed_command counted run.last c) (λ after. steps counted (k + 1) after (drop (i + 1) commands)))
unfolding steps
next-steps run k commands i c within at =
    let parts : drop i commands ≡ c ∷ drop (suc i) commands = drop-cons commands i c within ∙ ap (λ (y : written.Command). y ∷ drop (suc i) commands) (sym at) in
    let next : suc i ≡ i + 1 = omega arith in
    ap (λ (rest : List written.Command). followed_by run (steps counted k run.last rest)) parts
    ∙ ap (λ n. followed_by run (one_step k (typed_command counted run.last c) (λ after. steps counted (k + 1) after (drop n commands)))) next

pub steps_taken : (run after : Run) (k next : ℕ) (commands : List written.Command) (i : ℕ) (c : written.Command) (whole : Stepped) → i < length commands → c ≡ get_or commands i c
    → whole ≡ followed_by run (steps counted k run.last (drop i commands))
    → ((later : Schema → Stepped) → followed_by run (one_step k (typed_command counted run.last c) later) ≡ followed_by after (later after.last))
    → next ≡ k + 1 → whole ≡ followed_by after (steps counted next after.last (drop (i + 1) commands))
steps_taken run after k next commands i c whole within at so_far taken is =
    so_far ∙ next-steps run k commands i c within at ∙ taken (λ s. steps counted (k + 1) s (drop (i + 1) commands))
    ∙ ap (λ n. followed_by after (steps counted n after.last (drop (i + 1) commands))) (sym is)

pub steps_at_fault : (run : Run) (k : ℕ) (commands : List written.Command) (i : ℕ) (c : written.Command) (whole : Stepped) (e : ScriptErr) → i < length commands → c ≡ get_or commands i c
    → whole ≡ followed_by run (steps counted k run.last (drop i commands))
    → ((later : Schema → Stepped) → followed_by run (one_step k (typed_command counted run.last c) later) ≡ Err e)
    → whole ≡ Err e
steps_at_fault run k commands i c whole e within at so_far fault =
    so_far ∙ next-steps run k commands i c within at ∙ fault (λ s. steps counted (k + 1) s (drop (i + 1) commands))

pub steps_end : (run : Run) (k : ℕ) (commands : List written.Command) (i : ℕ) (whole : Stepped) → length commands ≤ i
    → whole ≡ followed_by run (steps counted k run.last (drop i commands)) → whole ≡ Ok (all_of run)
unfolding steps
steps_end run k commands i whole past so_far =
    so_far ∙ ap (λ (rest : List written.Command). followed_by run (steps counted k run.last rest)) (drop_all i commands past)
    ∙ ap (λ (l : List Command). Ok (record { commands = l; schemas = run.schemas ++ run.last ∷ [] })) (append-nil run.commands)

-- ---- the script

pub fault_whole : (s : Schema) (o : Stepped) (e : ScriptErr) → followed_by (run_from s) o ≡ Err e → whole_script s o ≡ Err e
fault_whole s (Ok all) e is = absurd (cc is)
fault_whole s (Err other) e is = cc

abbrev Even : Steps → Type 0
Even all = length all.schemas ≡ length all.commands

even-then : (step : Schema × Command) (later : Stepped) → ((all : Steps) → later ≡ Ok all → Even all) → (all : Steps) → then_steps step later ≡ Ok all → Even all
even-then step (Ok later) even all is =
    let same : record { commands = step.1 ∷ later.commands; schemas = step.0 ∷ later.schemas } ≡ all = cc in
    subst Even same (ap (λ n. suc n) (even later refl))
even-then step (Err e) even all is = absurd (cc is)

even-step : (k : ℕ) (o : Checked (Schema × Command)) (later : Schema → Stepped)
    → ((s : Schema) (all : Steps) → later s ≡ Ok all → Even all) → (all : Steps) → one_step k o later ≡ Ok all → Even all
even-step k (Ok step) later even all is = even-then step (later step.0) (even step.0) all is
even-step k (Err e) later even all is = absurd (cc is)

even-steps : (k : ℕ) (s : Schema) (commands : List written.Command) (all : Steps) → steps counted k s commands ≡ Ok all → Even all
unfolding steps
even-steps k s [] all is = let same : no_steps ≡ all = cc in subst Even same refl
even-steps k s (c ∷ rest) all is =
    even-step k (typed_command counted s c) (λ after. steps counted (k + 1) after rest) (λ after later. even-steps (k + 1) after rest later) all is

last-of : (s : Schema) (all : Steps) (run : Run) → Even all → s ∷ all.schemas ≡ run.schemas ++ run.last ∷ [] → get_or (s ∷ all.schemas) (length all.commands) s ≡ run.last
last-of s all run even are =
    let count : length run.schemas ≡ length all.commands = omega (arith, ap (λ (l : List Schema). length l) are, length-append run.schemas (run.last ∷ [])) in
    ap (λ (l : List Schema). get_or l (length all.commands) s) are ∙ get_or_push run.schemas run.last s (length all.commands) count

abbrev made : Schema → List Command → (last : Schema) → List Schema → Script
made s commands last schemas = record { start = start_from s commands last; commands = commands; schemas = schemas }

whole-of : (s : Schema) (all : Steps) (run : Run) → Even all → followed_by (run_from s) (Ok all) ≡ Ok (all_of run) → script_from s all ≡ script_of_run s run
unfolding script_from
whole-of s all run even is =
    let same : record { commands = all.commands; schemas = s ∷ all.schemas } ≡ all_of run = cc in
    let schemas : s ∷ all.schemas ≡ run.schemas ++ run.last ∷ [] = ap (λ (x : Steps). x.schemas) same in
    ap (λ (last : Schema). made s all.commands last (s ∷ all.schemas)) (last-of s all run even schemas)
    ∙ ap (λ (x : Steps). made s x.commands run.last x.schemas) same

whole-by : (s : Schema) (o : Stepped) (run : Run) (t : Script) → ((all : Steps) → o ≡ Ok all → Even all)
    → followed_by (run_from s) o ≡ Ok (all_of run) → t ≡ script_of_run s run → whole_script s o ≡ Ok t
whole-by s (Ok all) run t even is typed = ap (λ (u : Script). Ok u) (whole-of s all run (even all refl) is ∙ sym typed)
whole-by s (Err e) run t even is typed = absurd (cc is)

pub script_typed : (s : Schema) (commands : List written.Command) (run : Run) (t : Script)
    → followed_by (run_from s) (steps counted 1 s commands) ≡ Ok (all_of run) → t ≡ script_of_run s run
    → whole_script s (steps counted 1 s commands) ≡ Ok t
script_typed s commands run t is typed = whole-by s (steps counted 1 s commands) run t (even-steps 1 s commands) is typed

-- the script that is made of the commands
pub script_made : (first : code_schema.Schema) (steps : code.Steps) (start : code_schema.Schema) (given commands : List TCommand) (schemas : List code_schema.Schema)
    → schema_of start ≡ start_from (schema_of first) (map command_of given) (schema_of steps.last)
    → given ≡ steps.commands.items → commands ≡ steps.commands.items → schemas ≡ steps.schemas.items ++ steps.last ∷ []
    → script_of (record { start = start; commands = commands; schemas = schemas }) ≡ script_of_run (plain_of first) (run_of steps)
unfolding plain_of
script_made first steps start given commands schemas is same are all =
    ap (λ (s : Schema). record { start = s; commands = map command_of commands; schemas = map schema_of schemas }) is
    ∙ ap (λ (l : List TCommand). record { start = start_from (schema_of first) (map command_of l) (schema_of steps.last); commands = map command_of commands; schemas = map schema_of schemas }) same
    ∙ ap (λ (l : List TCommand). record { start = start_from (schema_of first) (map command_of steps.commands.items) (schema_of steps.last); commands = map command_of l; schemas = map schema_of schemas }) are
    ∙ ap (λ (l : List code_schema.Schema). record { start = start_from (schema_of first) (map command_of steps.commands.items) (schema_of steps.last); commands = map command_of steps.commands.items; schemas = map schema_of l }) all
    ∙ ap (λ (l : List Schema). record { start = start_from (schema_of first) (map command_of steps.commands.items) (schema_of steps.last); commands = map command_of steps.commands.items; schemas = l }) (map-append schema_of steps.schemas.items (steps.last ∷ []))
