-- What typing adds to a schema is told by its tree, and the rest stays so.
use Rattle.std.proofs.Common.{◌≡◌, ◌==◌, ℕ, ◌+◌, Bool, true, false, cond, List, [], ◌∷◌, map, refl, ap, subst}
use Rattle.std.specs.Prelude.{Option, Some, None, Ok, Err, IfSome, not, if◌then◌else◌}
use Rattle.std.specs.List.{AllByRecursion}
use Rattle.text_tree.specs.declared.named.Named.{Named}
use Rattle.text_tree.specs.declared.named.Reason.{Reason}
use Rattle.text_tree.specs.declared.models.FieldDef.{FieldDef}
use Rattle.text_tree.specs.declared.models.ModelDef.{ModelDef}
use Rattle.text_tree.specs.declared.policies.Init as tree_init
use Rattle.text_tree.specs.declared.policies.Policy as tree_policy
use Rattle.text_tree.specs.declared.commands.Command as written
use Rattle.text_tree.specs.declared.commands.Command.TheVariants as w
use Rattle.type_schema.specs.Trees.{Policy}
use Rattle.type_schema.specs.Schema.{FieldInfo, ModelInfo, Schema, is_principal_model}
use Rattle.type_schema.specs.Commands.{Command, create_model, delete_model, add_static, remove_static, add_principal, add_field, remove_field, update_field, weaken_field, update_model, weaken_model, given_or, schema_after, with_field, with_field_policies, with_model_policies, without_field}
use Rattle.type_schema.specs.Script.{Script}
use Rattle.type_schema.specs.Views.{policy_of}
use Rattle.type_typing.specs.declared.type_err.TypeErr.TheVariants.{Twice}
use Rattle.type_typing.specs.Outcome.{Checked}
use Rattle.type_typing.specs.Policies.{typed_policy}
use Rattle.type_specs.specs.declared.stage.Stage.TheVariants.{Types, Policies}
use Rattle.type_specs.specs.InTurn.{in_turn}
use Rattle.type_specs.specs.Models.{created_model, policy_over, typed_field, typed_model, with_model, with_models, with_names, with_typed}
use Rattle.type_specs.specs.NewNames.{new_static}
use Rattle.type_specs.specs.Sizes.{Sizes, models_are_small}
use Rattle.type_specs.specs.Specs.{empty_schema, next_static, resolved_spec, typed_spec, with_static}
use Rattle.type_commands.specs.declared.thing.Thing.TheVariants as the
use Rattle.type_commands.specs.Commands.{command_is_small, typed_command}
use Rattle.type_commands.specs.Resolved.{added_field, added_static, created, field_seen, given, init_over, known_field, known_model, known_static, new_field_in, new_principal, reason_given, removed_field, removed_model, removed_static, resolved, unused, updated_field, updated_model, weakened_field, weakened_model, with_new_field}
use Rattle.type_commands.specs.Scripts.{Stepped, Steps, no_steps, one_step, script_from, steps, then_steps, typed_script, whole_script}
use Rattle.type_proper.proofs.Lists.{all-append, all-filter}
use Rattle.type_proper.proofs.NewField.{field-parts, over-at}
use Rattle.type_proper.proofs.NewModel.{FieldsMade, model-parts}
use Rattle.type_proper.proofs.Resolves.{bound, ok-same}
use Rattle.type_proper.proofs.ShownTrees.{typed_are_shown}
use Rattle.type_anew.specs.RetypedKept.{CommandsKeepTold, ScriptsAreTold, SpecsAreTold}
use Rattle.type_anew.specs.Told.{FieldIsTold, IsTold, ModelIsTold, PolicyIsTold}
use Rattle.type_anew.proofs.TypedTrees.{policy-labelled}

-- ---- what is typed

over-told : (s : Schema) (m : ℕ) (p : tree_policy.Policy) (policy : Policy) → policy_over s m p ≡ Ok policy → PolicyIsTold policy
unfolding policy_over
over-told s m p policy e =
    let k = bound (typed_policy s m p) (λ typed. Ok (policy_of typed)) policy e in
    subst PolicyIsTold (ok-same (policy_of k.0) policy k.2) (typed_are_shown.policies s m p k.0 k.1, policy-labelled s m p k.0 k.1)

abbrev GivenIsTold : Option Policy → Type 0
GivenIsTold p = IfSome p PolicyIsTold

given-told : (s : Schema) (m : ℕ) (p : Option tree_policy.Policy) (q : Option Policy) → given s m p ≡ Ok q → GivenIsTold q
unfolding given
given-told s m None q e = subst GivenIsTold (ok-same None q e) tt
given-told s m (Some p) q e =
    let k = bound (policy_over s m p) (λ (policy : Policy). Ok (Some policy)) q e in
    subst GivenIsTold (ok-same (Some k.0) q k.2) (over-told s m p k.0 k.1)

field-told : (over : Schema) (m n : ℕ) (d : FieldDef) (f : FieldInfo) → typed_field Policies over m n d ≡ Ok f → FieldIsTold f
field-told over m n d f e =
    let a = field-parts Policies over m n d f e in
    subst FieldIsTold a.6 (over-told over m d.read a.1 (over-at over m d.read a.1 a.4), over-told over m d.write a.2 (over-at over m d.write a.2 a.5))

fields-told : (over : Schema) (m n : ℕ) (ds : List FieldDef) (fs : List FieldInfo) → FieldsMade Policies over m n ds fs → AllByRecursion FieldIsTold fs
fields-told over m n [] [] made = tt
fields-told over m n [] (f ∷ fs) made = absurd made
fields-told over m n (d ∷ ds) [] made = absurd made
fields-told over m n (d ∷ ds) (f ∷ fs) made = (field-told over m n d f made.0, fields-told over m (n + 1) ds fs made.1)

model-told : (over s : Schema) (d : ModelDef) (info : ModelInfo) → typed_model Policies over s d ≡ Ok info → ModelIsTold info
model-told over s d info e =
    let a = model-parts Policies over s d info e in
    subst ModelIsTold a.6 (
      over-told over s.next_model d.create a.0 (over-at over s.next_model d.create a.0 a.3),
      over-told over s.next_model d.delete a.1 (over-at over s.next_model d.delete a.1 a.4),
      fields-told over s.next_model s.next_field d.fields a.2 a.5,
    )

-- ---- specifications

models-told : (over s : Schema) (defs : List ModelDef) (out : Schema) → IsTold s → in_turn (with_typed Policies over) s defs ≡ Ok out → IsTold out
unfolding with_typed
models-told over s [] out told e = subst IsTold (ok-same s out e) told
models-told over s (d ∷ ds) out told e =
    let (more, goes, rest) = bound (with_typed Policies over s d) (λ after. in_turn (with_typed Policies over) after ds) out e in
    let (i, made, is) = bound (typed_model Policies over s d) (λ (i : ModelInfo). Ok (with_model s i)) more goes in
    let there : IsTold (with_model s i) = all-append ModelIsTold s.models (i ∷ []) told (model-told over s d i made, tt) in
    models-told over more ds out (subst IsTold (ok-same (with_model s i) more is) there) rest

statics-told : (names : List Named) (s out : Schema) → IsTold s → in_turn with_static s names ≡ Ok out → IsTold out
unfolding with_static
statics-told [] s out told e = subst IsTold (ok-same s out e) told
statics-told (x ∷ names) s out told e =
    let (more, goes, rest) = bound (with_static s x) (λ after. in_turn with_static after names) out e in
    let (u, new, e1) = bound (new_static s x) (λ _. Ok (schema_after s (add_static (next_static s x)))) more goes in
    let there : IsTold (schema_after s (add_static (next_static s x))) = told in
    statics-told names more out (subst IsTold (ok-same _ more e1) there) rest

pub specs_are_told : SpecsAreTold
unfolding typed_spec resolved_spec with_models
specs_are_told sizes spec s e =
    let (found, is, e1) = bound (resolved_spec spec) _ s e in
    let (u, small, e2) = bound (models_are_small sizes found found.models spec.models) _ s e1 in
    let (start, goes, e3) = bound (in_turn with_static empty_schema spec.statics) (λ (t : Schema). with_models t spec.models) found is in
    let (named, n1, e4) = bound (in_turn with_names start spec.models) _ found e3 in
    let (known, k1, e5) = bound (in_turn (with_typed Types named) start spec.models) _ found e4 in
    subst IsTold (ok-same found s e2) (models-told known start spec.models found (statics-told spec.statics empty_schema start tt goes) e5)

-- ---- commands

abbrev CommandIsTold : Command → Type 0
CommandIsTold (create_model info) = ModelIsTold info
CommandIsTold (delete_model m) = Unit {0}
CommandIsTold (add_static info) = Unit {0}
CommandIsTold (remove_static n) = Unit {0}
CommandIsTold (add_principal m) = Unit {0}
CommandIsTold (add_field m f init) = FieldIsTold f
CommandIsTold (remove_field m f) = Unit {0}
CommandIsTold (update_field m f read write) = GivenIsTold read × GivenIsTold write
CommandIsTold (weaken_field m f read write reason) = GivenIsTold read × GivenIsTold write
CommandIsTold (update_model m create delete) = GivenIsTold create × GivenIsTold delete
CommandIsTold (weaken_model m create delete reason) = GivenIsTold create × GivenIsTold delete

given-stays : (given : Option Policy) (before : Policy) → GivenIsTold given → PolicyIsTold before → PolicyIsTold (given_or given before)
given-stays None before new old = old
given-stays (Some policy) before new old = new

-- one of a list changed
changed-told : {A : Type 0} (P : A → Type 0) (p : A → Bool) (change : A → A) (xs : List A) → ((x : A) → P x → P (change x)) → AllByRecursion P xs → AllByRecursion P (map (λ x. if p x then change x else x) xs)
changed-told P p change [] keep all = tt
changed-told {A} P p change (x ∷ xs) keep all = (at (p x), changed-told P p change xs keep all.1)
  where
    at : (b : Bool) → P (if b then change x else x)
    at true = keep x all.0
    at false = all.0

with-rights : (f : ℕ) (read write : Option Policy) (info : ModelInfo) → GivenIsTold read → GivenIsTold write → ModelIsTold info → ModelIsTold (with_field_policies f read write info)
with-rights f read write info one other told = (
  told.0,
  told.1,
  changed-told FieldIsTold (λ (g : FieldInfo). g.number == f) (λ (g : FieldInfo). record g { read = given_or read g.read; write = given_or write g.write }) info.fields
      (λ g old. (given-stays read g.read one old.0, given-stays write g.write other old.1)) told.2,
)

after-told : (s : Schema) (c : Command) → IsTold s → CommandIsTold c → IsTold (schema_after s c)
after-told s (create_model info) told new = all-append ModelIsTold s.models (info ∷ []) told (new, tt)
after-told s (delete_model m) told new = all-filter ModelIsTold ModelIsTold (λ (info : ModelInfo). not (info.number == m)) (λ info is old. old) s.models told
after-told s (add_static info) told new = told
after-told s (remove_static n) told new = told
after-told s (add_principal m) told new =
    changed-told ModelIsTold (λ (info : ModelInfo). info.number == m) (λ (info : ModelInfo). record info { principal = true }) s.models (λ info old. old) told
after-told s (add_field m f init) told new =
    changed-told ModelIsTold (λ (info : ModelInfo). info.number == m) (with_field f) s.models (λ info old. (old.0, old.1, all-append FieldIsTold info.fields (f ∷ []) old.2 (new, tt))) told
after-told s (remove_field m f) told new =
    changed-told ModelIsTold (λ (info : ModelInfo). info.number == m) (without_field f) s.models
    (λ info old. (old.0, old.1, all-filter FieldIsTold FieldIsTold (λ (g : FieldInfo). not (g.number == f)) (λ g is h. h) info.fields old.2)) told
after-told s (update_field m f read write) told new =
    changed-told ModelIsTold (λ (info : ModelInfo). info.number == m) (with_field_policies f read write) s.models (λ info old. with-rights f read write info new.0 new.1 old) told
after-told s (weaken_field m f read write reason) told new =
    changed-told ModelIsTold (λ (info : ModelInfo). info.number == m) (with_field_policies f read write) s.models (λ info old. with-rights f read write info new.0 new.1 old) told
after-told s (update_model m create delete) told new =
    changed-told ModelIsTold (λ (info : ModelInfo). info.number == m) (with_model_policies create delete) s.models
    (λ info old. (given-stays create info.create new.0 old.0, given-stays delete info.delete new.1 old.1, old.2)) told
after-told s (weaken_model m create delete reason) told new =
    changed-told ModelIsTold (λ (info : ModelInfo). info.number == m) (with_model_policies create delete) s.models
    (λ info old. (given-stays create info.create new.0 old.0, given-stays delete info.delete new.1 old.1, old.2)) told

-- ---- what a command is typed as

created-told : (s : Schema) (d : ModelDef) (command : Command) → created s d ≡ Ok command → CommandIsTold command
unfolding created created_model
created-told s d command e =
    let (info, goes, is) = bound (created_model s d) (λ (info : ModelInfo). Ok (create_model info)) command e in
    let (named, names, e1) = bound (with_names s d) _ info goes in
    let (known, types, e2) = bound (with_typed Types named s d) _ info e1 in
    subst CommandIsTold (ok-same (create_model info) command is) (model-told known s d info e2)

removed_model-told : (s : Schema) (x : Named) (command : Command) → removed_model s x ≡ Ok command → CommandIsTold command
unfolding removed_model
removed_model-told s x command e =
    let (m, there, e1) = bound (known_model s x) _ command e in
    let (u, none, e2) = bound (unused s (the.Model m) x) _ command e1 in
    subst CommandIsTold (ok-same (delete_model m) command e2) tt

added_static-told : (s : Schema) (x : Named) (command : Command) → added_static s x ≡ Ok command → CommandIsTold command
unfolding added_static
added_static-told s x command e =
    let (u, new, e1) = bound (new_static s x) _ command e in
    subst CommandIsTold (ok-same (add_static (next_static s x)) command e1) tt

removed_static-told : (s : Schema) (x : Named) (command : Command) → removed_static s x ≡ Ok command → CommandIsTold command
unfolding removed_static
removed_static-told s x command e =
    let (n, there, e1) = bound (known_static s x) _ command e in
    let (u, none, e2) = bound (unused s (the.Static n) x) _ command e1 in
    subst CommandIsTold (ok-same (remove_static n) command e2) tt

marked : (b : Bool) (at m : ℕ) (command : Command) → cond b (Err (Twice at)) (Ok (add_principal m)) ≡ Ok command → add_principal m ≡ command
marked true at m command e = absurd (cc e)
marked false at m command e = ok-same (add_principal m) command e

new_principal-told : (s : Schema) (x : Named) (command : Command) → new_principal s x ≡ Ok command → CommandIsTold command
unfolding new_principal
new_principal-told s x command e =
    let (m, there, e1) = bound (known_model s x) _ command e in
    subst CommandIsTold (marked (is_principal_model s m) x.at m command e1) tt

added_field-told : (s : Schema) (model : Named) (f : FieldDef) (x : Named) (init : tree_init.Init) (command : Command) → added_field s model f x init ≡ Ok command → CommandIsTold command
unfolding added_field field_seen
added_field-told s model f x init command e =
    let (m, there, e1) = bound (known_model s model) _ command e in
    let (u, new, e2) = bound (new_field_in s m f.name) _ command e1 in
    let (field, seen, e3) = bound (field_seen s m f) _ command e2 in
    let (first, goes, e4) = bound (init_over s m field.ty x init) _ command e3 in
    let (closed, types, e5) = bound (typed_field Types s m s.next_field f) _ field seen in
    subst CommandIsTold (ok-same (add_field m field first) command e4) (field-told (with_new_field s m closed) m s.next_field f field e5)

removed_field-told : (s : Schema) (model x : Named) (command : Command) → removed_field s model x ≡ Ok command → CommandIsTold command
unfolding removed_field
removed_field-told s model x command e =
    let (m, _, e1) = bound (known_model s model) _ command e in
    let (f, there, e2) = bound (known_field s m x) _ command e1 in
    let (u, none, e3) = bound (unused s (the.Field m f) x) _ command e2 in
    subst CommandIsTold (ok-same (remove_field m f) command e3) tt

updated_field-told : (s : Schema) (model x : Named) (p q : Option tree_policy.Policy) (command : Command) → updated_field s model x p q ≡ Ok command → CommandIsTold command
unfolding updated_field
updated_field-told s model x p q command e =
    let (m, there, e1) = bound (known_model s model) _ command e in
    let (f, _, e2) = bound (known_field s m x) _ command e1 in
    let (r, one, e3) = bound (given s m p) _ command e2 in
    let (t, other, e4) = bound (given s m q) _ command e3 in
    subst CommandIsTold (ok-same (update_field m f r t) command e4) (given-told s m p r one, given-told s m q t other)

weakened_field-told : (s : Schema) (model x : Named) (p q : Option tree_policy.Policy) (reason : Reason) (command : Command) → weakened_field s model x p q reason ≡ Ok command → CommandIsTold command
unfolding weakened_field
weakened_field-told s model x p q reason command e =
    let (m, there, e1) = bound (known_model s model) _ command e in
    let (f, _, e2) = bound (known_field s m x) _ command e1 in
    let (r, one, e3) = bound (given s m p) _ command e2 in
    let (t, other, e4) = bound (given s m q) _ command e3 in
    let (text, _, e5) = bound (reason_given reason) _ command e4 in
    subst CommandIsTold (ok-same (weaken_field m f r t text) command e5) (given-told s m p r one, given-told s m q t other)

updated_model-told : (s : Schema) (model : Named) (p q : Option tree_policy.Policy) (command : Command) → updated_model s model p q ≡ Ok command → CommandIsTold command
unfolding updated_model
updated_model-told s model p q command e =
    let (m, there, e1) = bound (known_model s model) _ command e in
    let (r, one, e2) = bound (given s m p) _ command e1 in
    let (t, other, e3) = bound (given s m q) _ command e2 in
    subst CommandIsTold (ok-same (update_model m r t) command e3) (given-told s m p r one, given-told s m q t other)

weakened_model-told : (s : Schema) (model : Named) (p q : Option tree_policy.Policy) (reason : Reason) (command : Command) → weakened_model s model p q reason ≡ Ok command → CommandIsTold command
unfolding weakened_model
weakened_model-told s model p q reason command e =
    let (m, there, e1) = bound (known_model s model) _ command e in
    let (r, one, e2) = bound (given s m p) _ command e1 in
    let (t, other, e3) = bound (given s m q) _ command e2 in
    let (text, _, e4) = bound (reason_given reason) _ command e3 in
    subst CommandIsTold (ok-same (weaken_model m r t text) command e4) (given-told s m p r one, given-told s m q t other)

resolved-told : (s : Schema) (c : written.Command) (command : Command) → resolved s c ≡ Ok command → CommandIsTold command
unfolding resolved
resolved-told s (w.CreateModel d at) command e = created-told s d command e
resolved-told s (w.DeleteModel model at) command e = removed_model-told s model command e
resolved-told s (w.AddStatic x at) command e = added_static-told s x command e
resolved-told s (w.RemoveStatic x at) command e = removed_static-told s x command e
resolved-told s (w.AddPrincipal model at) command e = new_principal-told s model command e
resolved-told s (w.AddField model f x init at) command e = added_field-told s model f x init command e
resolved-told s (w.RemoveField model x at) command e = removed_field-told s model x command e
resolved-told s (w.UpdateFieldPolicy model x read write at) command e = updated_field-told s model x read write command e
resolved-told s (w.WeakenFieldPolicy model x read write reason at) command e = weakened_field-told s model x read write reason command e
resolved-told s (w.UpdatePolicy model create delete at) command e = updated_model-told s model create delete command e
resolved-told s (w.WeakenPolicy model create delete reason at) command e = weakened_model-told s model create delete reason command e

pair-same : (a b : Schema × Command) → ◌≡◌ {A = Checked (Schema × Command)} (Ok a) (Ok b) → a ≡ b
pair-same a b e = cc

pub commands_keep_told : CommandsKeepTold
unfolding typed_command
commands_keep_told sizes s after c command told e =
    let (found, is, e1) = bound (resolved s c) _ (after, command) e in
    let (u, small, e2) = bound (command_is_small sizes (schema_after s found) found c) _ (after, command) e1 in
    let same : (schema_after s found, found) ≡ (after, command) = pair-same (schema_after s found, found) (after, command) e2 in
    subst IsTold (ap (λ (p : Schema × Command). p.0) same) (after-told s found told (resolved-told s c found is))

-- ---- scripts

steps-same : (a b : Steps) → ◌≡◌ {A = Stepped} (Ok a) (Ok b) → a ≡ b
steps-same a b e = cc

steps-told : (sizes : Sizes) (k : ℕ) (s : Schema) (cs : List written.Command) (all : Steps) → IsTold s → steps sizes k s cs ≡ Ok all → AllByRecursion IsTold all.schemas
unfolding steps
steps-told sizes k s [] all told e = subst (λ (z : Steps). AllByRecursion IsTold z.schemas) (steps-same no_steps all e) tt
steps-told sizes k s (c ∷ rest) all told e = at (λ after later told e. steps-told sizes (k + 1) after rest later told e) (typed_command sizes s c) refl e
  where
    join : (step : Schema × Command) (o : Stepped) → IsTold step.0 → ((later : Steps) → o ≡ Ok later → AllByRecursion IsTold later.schemas) → then_steps step o ≡ Ok all
        → AllByRecursion IsTold all.schemas
    join step (Ok later) told rec e = subst (λ (z : Steps). AllByRecursion IsTold z.schemas) (steps-same _ all e) (told, rec later refl)
    join step (Err x) told rec e = absurd (cc e)

    at : ((after : Schema) (later : Steps) → IsTold after → steps sizes (k + 1) after rest ≡ Ok later → AllByRecursion IsTold later.schemas) → (o : Checked (Schema × Command))
        → typed_command sizes s c ≡ o → one_step k o (λ after. steps sizes (k + 1) after rest) ≡ Ok all → AllByRecursion IsTold all.schemas
    at rec (Ok step) is e =
        let after : IsTold step.0 = commands_keep_told sizes s step.0 c step.1 told is in
        join step (steps sizes (k + 1) step.0 rest) after (λ later goes. rec step.0 later after goes) e
    at rec (Err x) is e = absurd (cc e)

pub scripts_are_told : ScriptsAreTold
unfolding typed_script script_from
scripts_are_told sizes s script t told e = at (steps sizes 1 s script.commands) refl e
  where
    at : (o : Stepped) → steps sizes 1 s script.commands ≡ o → whole_script s o ≡ Ok t → AllByRecursion IsTold t.schemas
    at (Ok all) is e =
        let made : script_from s all ≡ t = cc e in
        subst (λ (z : Script). AllByRecursion IsTold z.schemas) made (told, steps-told sizes 1 s script.commands all told is)
    at (Err x) is e = absurd (cc e)
