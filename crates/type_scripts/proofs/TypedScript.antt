-- What the commands of a script give that is typed with the sizes that are counted is within the limit.
use Rattle.std.proofs.Common.{◌≡◌, ℕ, zero, suc, ◌+◌, ◌≤◌, Bool, true, false, cond, List, [], ◌∷◌, ◌++◌, length, refl, ap, sym, subst, arith}
use Rattle.std.specs.Prelude.{Option, Some, None, Ok, Err, option_to_list, slice_get, slice_index_or}
use Rattle.std.specs.List.{AllByRecursion}
use Rattle.std.proofs.lemmas.List.{length-append, length-map}
use Rattle.text_tree.specs.declared.named.Named.{Named}
use Rattle.text_tree.specs.declared.named.Reason.{Reason}
use Rattle.text_tree.specs.declared.models.FieldDef.{FieldDef}
use Rattle.text_tree.specs.declared.models.ModelDef.{ModelDef}
use Rattle.text_tree.specs.declared.policies.Policy as tree_policy
use Rattle.text_tree.specs.declared.policies.Init as tree_init
use Rattle.text_tree.specs.declared.commands.Command as written
use Rattle.text_tree.specs.declared.commands.Command.TheVariants as w
use Rattle.text_tree.specs.declared.commands.Script as written_script
use Rattle.type_schema.specs.Trees.{Policy, Init}
use Rattle.type_schema.specs.Schema.{ModelInfo, Schema, is_principal_model}
use Rattle.type_schema.specs.Commands.{Command, create_model, delete_model, add_static, remove_static, add_principal, add_field, remove_field, update_field, weaken_field, update_model, weaken_model, schema_after}
use Rattle.type_schema.specs.Script.{Script}
use Rattle.type_typing.specs.declared.type_err.TypeErr.TheVariants.{Twice}
use Rattle.type_typing.specs.Outcome.{Checked}
use Rattle.type_specs.specs.declared.stage.Stage.TheVariants.{Types, Policies}
use Rattle.type_specs.specs.Models.{created_model, policy_over, with_names, with_typed}
use Rattle.type_specs.specs.NewNames.{new_static}
use Rattle.type_specs.specs.Sizes.{most_size, are_small, model_places, model_sizes, policy_place}
use Rattle.type_specs.specs.Specs.{next_static}
use Rattle.type_commands.specs.declared.thing.Thing.TheVariants as the
use Rattle.type_commands.specs.Commands.{given_places, given_sizes, command_places, command_sizes, command_is_small, typed_command}
use Rattle.type_commands.specs.Resolved.{added_field, added_static, created, field_seen, given, init_over, known_field, known_model, known_static, new_field_in, new_principal, reason_given, removed_field, removed_model, removed_static, resolved, unused, updated_field, updated_model, weakened_field, weakened_model}
use Rattle.type_commands.specs.Scripts.{Steps, Stepped, no_steps, one_step, script_from, steps, then_steps, typed_script, whole_script}
use Rattle.type_scripts.specs.Small.{GivenAreBounded, CommandIsBounded}
use Rattle.type_scripts.specs.Counted.{counted}
use Rattle.type_proper.proofs.Resolves.{bound, ok-same}
use Rattle.type_scripts.proofs.TypedSpec.{all-small, model-shaped, model-long, model-small}

-- ---- policies that are given

given-long : (s : Schema) (m : ℕ) (p : Option tree_policy.Policy) (q : Option Policy) → given s m p ≡ Ok q → length (option_to_list q) ≡ length (option_to_list p)
unfolding given
given-long s m None q e = ap (λ (o : Option Policy). length (option_to_list o)) (sym (ok-same None q e))
given-long s m (Some p) q e =
    let (policy, typed, is) = bound (policy_over s m p) (λ (policy : Policy). Ok (Some policy)) q e in
    ap (λ (o : Option Policy). length (option_to_list o)) (sym (ok-same (Some policy) q is))

module _ (after : Schema) where
  each-small : (one other : Option Policy) → AllByRecursion (λ n. n ≤ most_size) (given_sizes counted after one other) → GivenAreBounded most_size after one other
  each-small None None h = (tt, tt)
  each-small None (Some q) h = (tt, h.0)
  each-small (Some p) None h = (h.0, tt)
  each-small (Some p) (Some q) h = (h.0, h.1.0)

  given-small : (s : Schema) (m : ℕ) (p q : Option tree_policy.Policy) (one other : Option Policy) → given s m p ≡ Ok one → given s m q ≡ Ok other
      → are_small (given_sizes counted after one other) (given_places p q) ≡ Ok tt → GivenAreBounded most_size after one other
  given-small s m p q one other h k e =
      let first = given-long s m p one h in
      let second = given-long s m q other k in
      let long : length (given_sizes counted after one other) ≡ length (given_places p q)
      = omega (
        arith,
        first,
        second,
        length-map (option_to_list one ++ option_to_list other) (counted.policy after),
        length-map (option_to_list p ++ option_to_list q) policy_place,
        length-append (option_to_list one) (option_to_list other),
        length-append (option_to_list p) (option_to_list q),
      ) in
      each-small one other (all-small (given_sizes counted after one other) (given_places p q) long e)

  -- ---- commands

  -- a command with what was counted of it
  abbrev Counts : written.Command → Command → Type 0
  Counts c command = are_small (command_sizes counted after command) (command_places c) ≡ Ok tt → CommandIsBounded most_size after command

  created-small : (s : Schema) (d : ModelDef) (at : ℕ) (command : Command) → created s d ≡ Ok command → Counts (w.CreateModel d at) command
  unfolding created created_model
  created-small s d at command e =
      let (info, made, is) = bound (created_model s d) (λ (info : ModelInfo). Ok (create_model info)) command e in
      let (named, n1, e1) = bound (with_names s d) _ info made in
      let (known, k1, e2) = bound (with_typed Types named s d) _ info e1 in
      subst (Counts (w.CreateModel d at)) (ok-same (create_model info) command is)
      (λ small. model-small after info
      (all-small (model_sizes counted after info) (model_places d) (model-long after info d (model-shaped Policies known s d info e2)) small))

  added-small : (s : Schema) (model : Named) (f : FieldDef) (x : Named) (init : tree_init.Init) (at : ℕ) (command : Command) → added_field s model f x init ≡ Ok command
      → Counts (w.AddField model f x init at) command
  unfolding added_field
  added-small s model f x init at command e =
      let (m, there, e1) = bound (known_model s model) _ command e in
      let (u, new, e2) = bound (new_field_in s m f.name) _ command e1 in
      let (field, seen, e3) = bound (field_seen s m f) _ command e2 in
      let (first, typed, is) = bound (init_over s m field.ty x init) (λ (first : Init). Ok (add_field m field first)) command e3 in
      subst (Counts (w.AddField model f x init at)) (ok-same (add_field m field first) command is)
      (λ small.
      let all = all-small (command_sizes counted after (add_field m field first)) (command_places (w.AddField model f x init at)) (refl {a = 3}) small in
      ((all.0, all.1.0), all.1.1.0))

  field-updated : (s : Schema) (model x : Named) (read write : Option tree_policy.Policy) (at : ℕ) (command : Command) → updated_field s model x read write ≡ Ok command
      → Counts (w.UpdateFieldPolicy model x read write at) command
  unfolding updated_field
  field-updated s model x read write at command e =
      let (m, there, e1) = bound (known_model s model) _ command e in
      let (f, found, e2) = bound (known_field s m x) _ command e1 in
      let (one, first, e3) = bound (given s m read) _ command e2 in
      let (other, second, is) = bound (given s m write) (λ (other : Option Policy). Ok (update_field m f one other)) command e3 in
      subst (Counts (w.UpdateFieldPolicy model x read write at)) (ok-same (update_field m f one other) command is) (given-small s m read write one other first second)

  field-weakened : (s : Schema) (model x : Named) (read write : Option tree_policy.Policy) (reason : Reason) (at : ℕ) (command : Command) → weakened_field s model x read write reason ≡ Ok command
      → Counts (w.WeakenFieldPolicy model x read write reason at) command
  unfolding weakened_field
  field-weakened s model x read write reason at command e =
      let (m, there, e1) = bound (known_model s model) _ command e in
      let (f, found, e2) = bound (known_field s m x) _ command e1 in
      let (one, first, e3) = bound (given s m read) _ command e2 in
      let (other, second, e4) = bound (given s m write) _ command e3 in
      let (text, why, is) = bound (reason_given reason) (λ (text : List ℕ). Ok (weaken_field m f one other text)) command e4 in
      subst (Counts (w.WeakenFieldPolicy model x read write reason at)) (ok-same (weaken_field m f one other text) command is) (given-small s m read write one other first second)

  model-updated : (s : Schema) (model : Named) (create delete : Option tree_policy.Policy) (at : ℕ) (command : Command) → updated_model s model create delete ≡ Ok command
      → Counts (w.UpdatePolicy model create delete at) command
  unfolding updated_model
  model-updated s model create delete at command e =
      let (m, there, e1) = bound (known_model s model) _ command e in
      let (one, first, e2) = bound (given s m create) _ command e1 in
      let (other, second, is) = bound (given s m delete) (λ (other : Option Policy). Ok (update_model m one other)) command e2 in
      subst (Counts (w.UpdatePolicy model create delete at)) (ok-same (update_model m one other) command is) (given-small s m create delete one other first second)

  model-weakened : (s : Schema) (model : Named) (create delete : Option tree_policy.Policy) (reason : Reason) (at : ℕ) (command : Command) → weakened_model s model create delete reason ≡ Ok command
      → Counts (w.WeakenPolicy model create delete reason at) command
  unfolding weakened_model
  model-weakened s model create delete reason at command e =
      let (m, there, e1) = bound (known_model s model) _ command e in
      let (one, first, e2) = bound (given s m create) _ command e1 in
      let (other, second, e3) = bound (given s m delete) _ command e2 in
      let (text, why, is) = bound (reason_given reason) (λ (text : List ℕ). Ok (weaken_model m one other text)) command e3 in
      subst (Counts (w.WeakenPolicy model create delete reason at)) (ok-same (weaken_model m one other text) command is) (given-small s m create delete one other first second)

  -- commands that give no policy
  model-removed : (s : Schema) (model : Named) (at : ℕ) (command : Command) → removed_model s model ≡ Ok command → Counts (w.DeleteModel model at) command
  unfolding removed_model
  model-removed s model at command e =
      let (m, there, e1) = bound (known_model s model) _ command e in
      let (u, free, is) = bound (unused s (the.Model m) model) (λ _. Ok (delete_model m)) command e1 in
      subst (Counts (w.DeleteModel model at)) (ok-same (delete_model m) command is) (λ small. tt)

  static-added : (s : Schema) (x : Named) (at : ℕ) (command : Command) → added_static s x ≡ Ok command → Counts (w.AddStatic x at) command
  unfolding added_static
  static-added s x at command e =
      let (u, new, is) = bound (new_static s x) (λ _. Ok (add_static (next_static s x))) command e in
      subst (Counts (w.AddStatic x at)) (ok-same (add_static (next_static s x)) command is) (λ small. tt)

  static-removed : (s : Schema) (x : Named) (at : ℕ) (command : Command) → removed_static s x ≡ Ok command → Counts (w.RemoveStatic x at) command
  unfolding removed_static
  static-removed s x at command e =
      let (n, there, e1) = bound (known_static s x) _ command e in
      let (u, free, is) = bound (unused s (the.Static n) x) (λ _. Ok (remove_static n)) command e1 in
      subst (Counts (w.RemoveStatic x at)) (ok-same (remove_static n) command is) (λ small. tt)

  principal-added : (s : Schema) (model : Named) (at : ℕ) (command : Command) → new_principal s model ≡ Ok command → Counts (w.AddPrincipal model at) command
  unfolding new_principal
  principal-added s model at command e =
      let (m, there, e1) = bound (known_model s model) _ command e in
      marked (is_principal_model s m) m e1
    where
      marked : (z : Bool) (m : ℕ) → ◌≡◌ {A = Checked Command} (cond z (Err (Twice model.at)) (Ok (add_principal m))) (Ok command) → Counts (w.AddPrincipal model at) command
      marked true m e = absurd (cc e)
      marked false m e = subst (Counts (w.AddPrincipal model at)) (ok-same (add_principal m) command e) (λ small. tt)

  field-removed : (s : Schema) (model x : Named) (at : ℕ) (command : Command) → removed_field s model x ≡ Ok command → Counts (w.RemoveField model x at) command
  unfolding removed_field
  field-removed s model x at command e =
      let (m, there, e1) = bound (known_model s model) _ command e in
      let (f, found, e2) = bound (known_field s m x) _ command e1 in
      let (u, free, is) = bound (unused s (the.Field m f) x) (λ _. Ok (remove_field m f)) command e2 in
      subst (Counts (w.RemoveField model x at)) (ok-same (remove_field m f) command is) (λ small. tt)

  command-small : (s : Schema) (c : written.Command) (command : Command) → resolved s c ≡ Ok command → Counts c command
  unfolding resolved
  command-small s (w.CreateModel d at) command e = created-small s d at command e
  command-small s (w.DeleteModel model at) command e = model-removed s model at command e
  command-small s (w.AddStatic x at) command e = static-added s x at command e
  command-small s (w.RemoveStatic x at) command e = static-removed s x at command e
  command-small s (w.AddPrincipal model at) command e = principal-added s model at command e
  command-small s (w.AddField model f x init at) command e = added-small s model f x init at command e
  command-small s (w.RemoveField model x at) command e = field-removed s model x at command e
  command-small s (w.UpdateFieldPolicy model x read write at) command e = field-updated s model x read write at command e
  command-small s (w.WeakenFieldPolicy model x read write reason at) command e = field-weakened s model x read write reason at command e
  command-small s (w.UpdatePolicy model create delete at) command e = model-updated s model create delete at command e
  command-small s (w.WeakenPolicy model create delete reason at) command e = model-weakened s model create delete reason at command e

-- a command that is typed, over the schema after it
typed-small : (s after : Schema) (c : written.Command) (command : Command) → typed_command counted s c ≡ Ok (after, command) → CommandIsBounded most_size after command
unfolding typed_command command_is_small
typed-small s after c command e =
    let (found, is, e1) = bound (resolved s c) _ (after, command) e in
    let (u, small, e2) = bound (command_is_small counted (schema_after s found) found c) _ (after, command) e1 in
    let same : (schema_after s found, found) ≡ (after, command) = ok-same (schema_after s found, found) (after, command) e2 in
    subst (λ (step : Schema × Command). CommandIsBounded most_size step.0 step.1) same (command-small (schema_after s found) s c found is small)

-- ---- commands in turn

abbrev pub AreSmall : List Command → List Schema → Type 0
AreSmall [] [] = Unit {0}
AreSmall [] (a ∷ rest) = ⊥
AreSmall (c ∷ cs) [] = ⊥
AreSmall (c ∷ cs) (a ∷ rest) = CommandIsBounded most_size a c × AreSmall cs rest

steps-same : (a b : Steps) → ◌≡◌ {A = Stepped} (Ok a) (Ok b) → a ≡ b
steps-same a b e = cc

steps-small : (k : ℕ) (s : Schema) (cs : List written.Command) (all : Steps) → steps counted k s cs ≡ Ok all → AreSmall all.commands all.schemas
unfolding steps
steps-small k s [] all e = subst (λ (all : Steps). AreSmall all.commands all.schemas) (steps-same no_steps all e) tt
steps-small k s (c ∷ rest) all e = at (λ after later e. steps-small (k + 1) after rest later e) (typed_command counted s c) refl e
  where
    join : (step : Schema × Command) (o : Stepped) → ((later : Steps) → o ≡ Ok later → AreSmall later.commands later.schemas) → typed_command counted s c ≡ Ok step → then_steps step o ≡ Ok all → AreSmall all.commands all.schemas
    join step (Ok later) small is e =
        subst (λ (all : Steps). AreSmall all.commands all.schemas) (steps-same (record { commands = step.1 ∷ later.commands; schemas = step.0 ∷ later.schemas }) all e)
        (typed-small s step.0 c step.1 is, small later refl)
    join step (Err x) small is e = absurd (cc e)

    at : ((after : Schema) (later : Steps) → steps counted (k + 1) after rest ≡ Ok later → AreSmall later.commands later.schemas) → (o : Checked (Schema × Command)) → typed_command counted s c ≡ o
        → one_step k o (λ after. steps counted (k + 1) after rest) ≡ Ok all → AreSmall all.commands all.schemas
    at rec (Ok step) is e = join step (steps counted (k + 1) step.0 rest) (λ later goes. rec step.0 later goes) is e
    at rec (Err x) is e = absurd (cc e)

small-at : (d s : Schema) (cs : List Command) (schemas : List Schema) → AreSmall cs schemas → (k : ℕ) (c : Command) → slice_get cs k ≡ Some c
    → CommandIsBounded most_size (slice_index_or (s ∷ schemas) (suc k) d) c
small-at d s [] schemas small k c e = absurd (cc e)
small-at d s (x ∷ cs) [] small k c e = absurd small
small-at d s (x ∷ cs) (a ∷ schemas) small zero c e = let same : x ≡ c = cc e in subst (CommandIsBounded most_size a) same small.0
small-at d s (x ∷ cs) (a ∷ schemas) small (suc k) c e = small-at d a cs schemas small.1 k c e

-- the commands of a script, and the schema that it begins with
pub record IsCounted (s : Schema) (t : Script) : Type 0 where
  pub first : slice_index_or t.schemas 0 t.start ≡ s
  pub commands : (k : ℕ) (c : Command) → slice_get t.commands k ≡ Some c → CommandIsBounded most_size (slice_index_or t.schemas (suc k) t.start) c

pub script-small : (s : Schema) (script : written_script.Script) (t : Script) → typed_script counted s script ≡ Ok t → IsCounted s t
unfolding typed_script script_from
script-small s script t e = at (steps counted 1 s script.commands) refl e
  where
    at : (o : Stepped) → steps counted 1 s script.commands ≡ o → whole_script s o ≡ Ok t → IsCounted s t
    at (Ok all) is e =
        let made : script_from s all ≡ t = cc e in
        let small = steps-small 1 s script.commands all is in
        subst (IsCounted s) made (record { first = refl; commands = λ k c here. small-at (script_from s all).start s all.commands all.schemas small k c here })
    at (Err x) is e = absurd (cc e)
