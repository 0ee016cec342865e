-- Scripts are typed command by command, and so each schema on the way is proper.
use Rattle.std.proofs.Common.{◌≡◌, ℕ, zero, suc, ◌+◌, ◌<◌, ◌≤◌, List, [], ◌∷◌, ◌++◌, length, refl, sym, ◌∙◌, ap, subst, arith}
use Rattle.std.specs.Prelude.{Some, Ok, Err, slice_get, slice_index_or}
use Rattle.std.specs.List.{AllByRecursion}
use Rattle.text_ast.specs.Limits.{most_commands}
use Rattle.text_tree.specs.declared.commands.Command as written
use Rattle.text_tree.specs.declared.commands.Script as written_script
use Rattle.type_schema.specs.Schema.{Schema}
use Rattle.type_schema.specs.Commands.{Command, create_model, delete_model, add_static, remove_static, add_principal, add_field, remove_field, update_field, weaken_field, update_model, weaken_model, IsCommand, schema_after}
use Rattle.type_schema.specs.Script.{Script, IsScript, created}
use Rattle.type_typing.specs.Outcome.{Checked}
use Rattle.type_specs.specs.Sizes.{Sizes}
use Rattle.type_commands.specs.Commands.{command_is_small, typed_command}
use Rattle.type_commands.specs.CommandLaw.{HasInit, IsWritten}
use Rattle.type_commands.specs.Resolved.{resolved}
use Rattle.type_commands.specs.Scripts.{Stepped, Steps, no_steps, one_step, script_from, steps, then_steps, typed_script, whole_script}
use Rattle.type_commands.proofs.CommandLaw.{commands_are_resolved}
use Rattle.type_proper.specs.Literals.{CommandHasLiterals}
use Rattle.type_proper.specs.Fits.{Fits}
use Rattle.type_proper.specs.Scripts.{ScriptsAreTyped, StepsAreSteady}
use Rattle.type_proper.specs.Steady.{IsSteady}
use Rattle.type_proper.proofs.Resolved.{resolved_fit}
use Rattle.type_proper.proofs.Resolves.{bound}
use Rattle.type_proper.proofs.Steadily.{commands_keep_steady}

-- ---- one command

pair-same : (a b : Schema × Command) → ◌≡◌ {A = Checked (Schema × Command)} (Ok a) (Ok b) → a ≡ b
pair-same a b e = cc

step-parts : (sizes : Sizes) (s after : Schema) (c : written.Command) (command : Command) → typed_command sizes s c ≡ Ok (after, command) → (resolved s c ≡ Ok command) × (schema_after s command ≡ after)
unfolding typed_command
step-parts sizes s after c command e =
    let (found, is, e1) = bound (resolved s c) _ (after, command) e in
    let (u, small, e2) = bound (command_is_small sizes (schema_after s found) found c) _ (after, command) e1 in
    let same : (schema_after s found, found) ≡ (after, command) = pair-same (schema_after s found, found) (after, command) e2 in
    let it : found ≡ command = ap (λ (p : Schema × Command). p.1) same in
    (is ∙ ap (λ (x : Command). Ok x) it, ap (λ (x : Command). schema_after s x) (sym it) ∙ ap (λ (p : Schema × Command). p.0) same)

pub steps_are_steady : StepsAreSteady
steps_are_steady sizes s after c command steady lit e =
    let k = step-parts sizes s after c command e in
    subst IsSteady k.1 (commands_keep_steady s command steady (resolved_fit s c command steady lit k.0))

init-of : (s : Schema) (command : Command) → Fits s command → HasInit s command
init-of s (create_model info) fits = tt
init-of s (delete_model m) fits = tt
init-of s (add_static info) fits = tt
init-of s (remove_static n) fits = tt
init-of s (add_principal m) fits = tt
init-of s (add_field m f init) fits = fits.4
init-of s (remove_field m f) fits = tt
init-of s (update_field m f read write) fits = tt
init-of s (weaken_field m f read write reason) fits = tt
init-of s (update_model m create delete) fits = tt
init-of s (weaken_model m create delete reason) fits = tt

-- ---- commands in turn

-- each command is one over the schema before it, and the schema after it is steady
abbrev Chain : Schema → List Command → List Schema → Type 0
Chain s [] [] = Unit {0}
Chain s [] (a ∷ as') = ⊥
Chain s (c ∷ cs) [] = ⊥
Chain s (c ∷ cs) (a ∷ as') = IsCommand s c × (a ≡ schema_after s c) × IsSteady a × Chain a cs as'

abbrev IsChain : Schema → List written.Command → Steps → Type 0
IsChain s cs all = AllByRecursion CommandHasLiterals all.commands → Chain s all.commands all.schemas × (length all.commands ≡ length cs)

steps-same : (a b : Steps) → ◌≡◌ {A = Stepped} (Ok a) (Ok b) → a ≡ b
steps-same a b e = cc

chained : (sizes : Sizes) (k : ℕ) (s : Schema) (cs : List written.Command) (all : Steps) → IsSteady s → AllByRecursion IsWritten cs → steps sizes k s cs ≡ Ok all → IsChain s cs all
unfolding steps
chained sizes k s [] all steady written e = subst (IsChain s []) (steps-same no_steps all e) (λ lit. (tt, refl))
chained sizes k s (c ∷ rest) all steady written e = at (λ after later steady e. chained sizes (k + 1) after rest later steady written.1 e) (typed_command sizes s c) refl e
  where
    put : (step : Schema × Command) (later : Steps) → (IsSteady step.0 → IsChain step.0 rest later) → typed_command sizes s c ≡ Ok step → (record { commands = step.1 ∷ later.commands; schemas = step.0 ∷ later.schemas }) ≡ all
        → IsChain s (c ∷ rest) all
    put step later chain is made =
        subst (IsChain s (c ∷ rest)) made
        (λ lit.
        let k = step-parts sizes s step.0 c step.1 is in
        let fits = resolved_fit s c step.1 steady lit.0 k.0 in
        let after = steps_are_steady sizes s step.0 c step.1 steady lit.0 is in
        let rest = chain after lit.1 in
        ((commands_are_resolved s c step.1 written.0 (init-of s step.1 fits) k.0, sym k.1, after, rest.0), ap (λ n. suc n) rest.1))

    join : (step : Schema × Command) (o : Stepped) → ((later : Steps) → o ≡ Ok later → IsSteady step.0 → IsChain step.0 rest later) → typed_command sizes s c ≡ Ok step → then_steps step o ≡ Ok all → IsChain s (c ∷ rest) all
    join step (Ok later) chain is e = put step later (chain later refl) is (steps-same _ all e)
    join step (Err x) chain is e = absurd (cc e)

    at : ((after : Schema) (later : Steps) → IsSteady after → steps sizes (k + 1) after rest ≡ Ok later → IsChain after rest later) → (o : Checked (Schema × Command)) → typed_command sizes s c ≡ o
        → one_step k o (λ after. steps sizes (k + 1) after rest) ≡ Ok all → IsChain s (c ∷ rest) all
    at rec (Ok step) is e = join step (steps sizes (k + 1) step.0 rest) (λ later goes steady. rec step.0 later steady goes) is e
    at rec (Err x) is e = absurd (cc e)

-- ---- by number

chain-length : (s : Schema) (cs : List Command) (as' : List Schema) → Chain s cs as' → length as' ≡ length cs
chain-length s [] [] chain = refl
chain-length s [] (a ∷ as') chain = absurd chain
chain-length s (c ∷ cs) [] chain = absurd chain
chain-length s (c ∷ cs) (a ∷ as') chain = ap (λ n. suc n) (chain-length a cs as' chain.3)

steady-at : (d s : Schema) (cs : List Command) (as' : List Schema) → IsSteady s → Chain s cs as' → (k : ℕ) → k ≤ length cs → IsSteady (slice_index_or (s ∷ as') k d)
steady-at d s cs as' steady chain zero le = steady
steady-at d s [] as' steady chain (suc k) le = absurd (omega arith)
steady-at d s (c ∷ cs) [] steady chain (suc k) le = absurd chain
steady-at d s (c ∷ cs) (a ∷ as') steady chain (suc k) le = steady-at d a cs as' chain.2 chain.3 k (omega arith)

command-step : (d s : Schema) (cs : List Command) (as' : List Schema) → Chain s cs as' → (k : ℕ) (c : Command) → slice_get cs k ≡ Some c
    → IsCommand (slice_index_or (s ∷ as') k d) c × (slice_index_or (s ∷ as') (suc k) d ≡ schema_after (slice_index_or (s ∷ as') k d) c)
command-step d s [] as' chain k c is = absurd (cc is)
command-step d s (x ∷ cs) [] chain k c is = absurd chain
command-step d s (x ∷ cs) (a ∷ as') chain zero c is =
    let same : x ≡ c = cc is in
    (subst (IsCommand s) same chain.0, chain.1 ∙ ap (schema_after s) same)
command-step d s (x ∷ cs) (a ∷ as') chain (suc k) c is = command-step d a cs as' chain.3 k c is

default-free : (xs : List Schema) (k : ℕ) (d e : Schema) → k < length xs → slice_index_or xs k d ≡ slice_index_or xs k e
default-free [] k d e lt = absurd (omega arith)
default-free (x ∷ xs) zero d e lt = refl
default-free (x ∷ xs) (suc k) d e lt = default-free xs k d e (omega arith)

-- ---- the script

-- the start of such a script, with this last schema
abbrev start-with : Schema → Steps → Schema → Schema
start-with s all last = record {
  statics = s.statics;
  models = s.models ++ created all.commands;
  next_static = last.next_static;
  next_model = last.next_model;
  next_field = last.next_field;
  added = [];
  removed = [];
}

whole-is : (s : Schema) (script : written_script.Script) (all : Steps) → IsSteady s → s.added ≡ [] → length script.commands ≤ most_commands → AllByRecursion CommandHasLiterals all.commands
    → IsChain s script.commands all → IsScript (script_from s all)
unfolding script_from
whole-is s script all steady none few lit chains =
    let chain = chains lit in
    let t : Script = script_from s all in
    let long : length all.schemas ≡ length all.commands = chain-length s all.commands all.schemas chain.0 in
    let last : slice_index_or (s ∷ all.schemas) (length all.commands) s ≡ slice_index_or (s ∷ all.schemas) (length all.commands) t.start =
    default-free (s ∷ all.schemas) (length all.commands) s t.start (omega (arith, long)) in
    record {
      few = omega (arith, chain.1);
      schemas = omega (arith, long);
      proper = λ k le. (steady-at t.start s all.commands all.schemas steady chain.0 k le).proper;
      commands = λ k c is. (command-step t.start s all.commands all.schemas chain.0 k c is).0;
      steps = λ k c is. (command-step t.start s all.commands all.schemas chain.0 k c is).1;
      nothing_added = none;
      start = ap (λ (z : Schema). start-with s all z) last;
    }

pub scripts_are_typed : ScriptsAreTyped
unfolding typed_script script_from
scripts_are_typed sizes s script t steady none few written lit e = at (steps sizes 1 s script.commands) refl e
  where
    at : (o : Stepped) → steps sizes 1 s script.commands ≡ o → whole_script s o ≡ Ok t → IsScript t
    at (Ok all) is e =
        let made : script_from s all ≡ t = cc e in
        let lits : AllByRecursion CommandHasLiterals (script_from s all).commands = subst (λ (z : Script). AllByRecursion CommandHasLiterals z.commands) (sym made) lit in
        subst IsScript made (whole-is s script all steady none few lits (chained sizes 1 s script.commands all steady written is))
    at (Err x) is e = absurd (cc e)
