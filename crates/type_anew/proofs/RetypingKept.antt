-- What typing gives is within the limits, and stays so.
use Rattle.std.proofs.Common.{◌≡◌, ℕ, ◌+◌, ◌++◌, List, [], ◌∷◌, length, refl, sym, ap, ◌∙◌, subst, arith}
use Rattle.std.specs.Prelude.{Ok, Err}
use Rattle.std.specs.List.{AllByRecursion, flat_map}
use Rattle.text_tree.specs.declared.models.ModelDef.{ModelDef}
use Rattle.text_tree.specs.declared.models.Spec.{Spec}
use Rattle.text_tree.specs.declared.commands.Command as written
use Rattle.type_schema.specs.Schema.{ModelInfo, Schema}
use Rattle.type_schema.specs.Commands.{Command, schema_after}
use Rattle.type_schema.specs.Proper.{IsProper}
use Rattle.type_schema.specs.Script.{Script}
use Rattle.type_typing.specs.Outcome.{Checked}
use Rattle.type_specs.specs.declared.stage.Stage.{Stage}
use Rattle.type_specs.specs.declared.stage.Stage.TheVariants.{Types, Policies}
use Rattle.type_specs.specs.InTurn.{in_turn}
use Rattle.type_specs.specs.Models.{with_models, with_names, with_typed}
use Rattle.type_specs.specs.Sizes.{model_places, model_sizes, models_are_small}
use Rattle.type_specs.specs.Specs.{empty_schema, resolved_spec, typed_spec, with_static}
use Rattle.type_commands.specs.Commands.{command_is_small, typed_command}
use Rattle.type_commands.specs.Resolved.{resolved}
use Rattle.type_commands.specs.Scripts.{Stepped, Steps, no_steps, one_step, script_from, steps, then_steps, typed_script, whole_script}
use Rattle.type_proper.specs.Literals.{CommandHasLiterals}
use Rattle.type_proper.specs.Steady.{IsSteady}
use Rattle.type_scripts.specs.Counted.{counted}
use Rattle.type_proper.proofs.Resolves.{bound, ok-same}
use Rattle.type_proper.proofs.Scripted.{steps_are_steady}
use Rattle.type_anew.proofs.TypedSpecs.{AllMade}
use Rattle.type_anew.proofs.Made.{models-made}
use Rattle.type_anew.specs.RetypingKept.{CommandsKeepRoom, ScriptsKeepRoom, SpecsHaveRoom}
use Rattle.type_anew.specs.Room.{IsWithinNumbers, IsWithinSizes}
use Rattle.type_anew.proofs.Room.{made-long, spec-room, statics-room}
use Rattle.type_anew.proofs.RoomAfter.{command-room}
use Rattle.type_anew.proofs.SmallAfter.{small-after}
use Rattle.type_anew.proofs.Within.{AreAsLong, models-back, models-placed, small-back}

as-long : (stage : Stage) (over : Schema) (n k : ℕ) (ds : List ModelDef) (is : List ModelInfo) → AllMade stage over n k ds is → AreAsLong is ds
as-long stage over n k [] [] made = tt
as-long stage over n k [] (i ∷ is) made = absurd made
as-long stage over n k (d ∷ ds) [] made = absurd made
as-long stage over n k (d ∷ ds) (i ∷ is) made =
    let m = made.0 in (
      sym (ap (λ (j : ModelInfo). length j.fields) m.6) ∙ made-long stage over n k d.fields m.2 m.5,
      as-long stage over (n + 1) (k + length i.fields) ds is made.1,
    )

spec-long : (spec : Spec) (s : Schema) → resolved_spec spec ≡ Ok s → AreAsLong s.models spec.models
unfolding resolved_spec with_models
spec-long spec s e =
    let (start, begun, e1) = bound (in_turn with_static empty_schema spec.statics) (λ (t : Schema). with_models t spec.models) s e in
    let (names, named, e2) = bound (in_turn with_names start spec.models) _ s e1 in
    let (known, typed, e3) = bound (in_turn (with_typed Types names) start spec.models) _ s e2 in
    let none = (statics-room spec.statics empty_schema start (omega arith) begun).1 in
    let Found = models-made Policies known start spec.models s e3 in
    let models : s.models ≡ Found.0 = Found.1.models ∙ ap (λ (ms : List ModelInfo). ms ++ Found.0) none in
    subst (λ (ms : List ModelInfo). AreAsLong ms spec.models) (sym models) (as-long Policies known start.next_model start.next_field spec.models Found.0 Found.2)

pub specs_have_room : SpecsHaveRoom
unfolding typed_spec models_are_small
specs_have_room spec s e =
    let (found, is, e1) = bound (resolved_spec spec) _ s e in
    let (u, small, e2) = bound (models_are_small counted found found.models spec.models) _ s e1 in
    let within = small-back (flat_map (model_sizes counted found) found.models) (flat_map model_places spec.models) u (models-placed found found.models spec.models (spec-long spec found is)) small in
    subst (λ (t : Schema). IsWithinNumbers t × IsWithinSizes t) (ok-same found s e2) (spec-room spec found is, models-back found found.models within)

pair-same : (a b : Schema × Command) → ◌≡◌ {A = Checked (Schema × Command)} (Ok a) (Ok b) → a ≡ b
pair-same a b e = cc

pub commands_keep_room : CommandsKeepRoom
unfolding typed_command
commands_keep_room s after c command proper later room small e =
    let (found, is, e1) = bound (resolved s c) _ (after, command) e in
    let (u, fits, e2) = bound (command_is_small counted (schema_after s found) found c) _ (after, command) e1 in
    let same : (schema_after s found, found) ≡ (after, command) = pair-same (schema_after s found, found) (after, command) e2 in
    let there : schema_after s found ≡ after = ap (λ (p : Schema × Command). p.0) same in
    subst (λ (t : Schema). IsWithinNumbers t × IsWithinSizes t) there
    (command-room s proper room c found is, small-after s c found u proper (subst IsProper (sym there) later) small is fits)

-- ---- scripts

abbrev IsWithinLimits : Schema → Type 0
IsWithinLimits s = IsWithinNumbers s × IsWithinSizes s

-- what holds of these steps, where their literals are values
abbrev AreWithinLimits : Steps → Type 0
AreWithinLimits all = AllByRecursion CommandHasLiterals all.commands → AllByRecursion IsWithinLimits all.schemas

steps-same : (a b : Steps) → ◌≡◌ {A = Stepped} (Ok a) (Ok b) → a ≡ b
steps-same a b e = cc

steps-room : (k : ℕ) (s : Schema) (cs : List written.Command) (all : Steps) → IsSteady s → IsWithinLimits s → steps counted k s cs ≡ Ok all → AreWithinLimits all
unfolding steps
steps-room k s [] all steady room e = subst AreWithinLimits (steps-same no_steps all e) (λ lit. tt)
steps-room k s (c ∷ rest) all steady room e = at (λ after later steady room e. steps-room (k + 1) after rest later steady room e) (typed_command counted s c) refl e
  where
    put : (step : Schema × Command) (later : Steps) → (IsSteady step.0 → IsWithinLimits step.0 → AreWithinLimits later) → typed_command counted s c ≡ Ok step
        → (record { commands = step.1 ∷ later.commands; schemas = step.0 ∷ later.schemas }) ≡ all → AreWithinLimits all
    put step later rec is made =
        subst AreWithinLimits made
        (λ lit.
        let after = steps_are_steady counted s step.0 c step.1 steady lit.0 is in
        let there = commands_keep_room s step.0 c step.1 steady.proper after.proper room.0 room.1 is in
        (there, rec after there lit.1))

    join : (step : Schema × Command) (o : Stepped) → ((later : Steps) → o ≡ Ok later → IsSteady step.0 → IsWithinLimits step.0 → AreWithinLimits later) → typed_command counted s c ≡ Ok step
        → then_steps step o ≡ Ok all → AreWithinLimits all
    join step (Ok later) rec is e = put step later (rec later refl) is (steps-same _ all e)
    join step (Err x) rec is e = absurd (cc e)

    at : ((after : Schema) (later : Steps) → IsSteady after → IsWithinLimits after → steps counted (k + 1) after rest ≡ Ok later → AreWithinLimits later) → (o : Checked (Schema × Command))
        → typed_command counted s c ≡ o → one_step k o (λ after. steps counted (k + 1) after rest) ≡ Ok all → AreWithinLimits all
    at rec (Ok step) is e = join step (steps counted (k + 1) step.0 rest) (λ later goes steady room. rec step.0 later steady room goes) is e
    at rec (Err x) is e = absurd (cc e)

pub scripts_keep_room : ScriptsKeepRoom
unfolding typed_script script_from
scripts_keep_room s script t steady room small lit e = at (steps counted 1 s script.commands) refl e lit
  where
    at : (o : Stepped) → steps counted 1 s script.commands ≡ o → whole_script s o ≡ Ok t → AllByRecursion CommandHasLiterals t.commands → AllByRecursion IsWithinLimits t.schemas
    at (Ok all) is e =
        let made : script_from s all ≡ t = cc e in
        subst (λ (z : Script). AllByRecursion CommandHasLiterals z.commands → AllByRecursion IsWithinLimits z.schemas) made
        (λ lit. ((room, small), steps-room 1 s script.commands all steady (room, small) is lit))
    at (Err x) is e = absurd (cc e)
