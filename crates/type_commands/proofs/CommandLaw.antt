-- What a command is over a schema is a command over it.
use Rattle.std.proofs.Common.{◌≡◌, ◌==◌, ℕ, ◌+◌, Bool, true, false, cond, ◌||◌, List, [], ◌∷◌, ◌++◌, length, refl, sym, ap, ◌∙◌, subst, arith, eq-eqb, add-zero}
use Rattle.std.specs.Prelude.{Option, Some, None, Ok, Err, is_some, IsTrue, option_and_then}
use Rattle.std.specs.List.{find}
use Rattle.std.specs.Option.{option_map}
use Rattle.text_ast.specs.Words.{IsText}
use Rattle.text_tree.specs.declared.named.Named.{Named}
use Rattle.text_tree.specs.declared.named.Reason.{Reason}
use Rattle.text_tree.specs.declared.models.FieldDef.{FieldDef}
use Rattle.text_tree.specs.declared.models.ModelDef.{ModelDef}
use Rattle.text_tree.specs.declared.policies.Policy.{Policy}
use Rattle.text_tree.specs.declared.policies.Init as tree_init
use Rattle.text_tree.specs.declared.commands.Command.TheVariants as w
use Rattle.type_schema.specs.declared.types.TTy.{TTy}
use Rattle.type_schema.specs.Trees.{Policy as TypedPolicy}
use Rattle.type_schema.specs.Schema.{StaticInfo, FieldInfo, ModelInfo, Schema, model_of, static_of, field_in, is_principal_model}
use Rattle.type_schema.specs.Typing.{HasModel}
use Rattle.type_schema.specs.Commands.{Command, create_model, delete_model, add_static, remove_static, add_principal, add_field, remove_field, update_field, weaken_field, update_model, weaken_model, AreNumberedFrom, HasField, IsCommand, IsGiven, IsReason}
use Rattle.type_typing.specs.declared.type_err.TypeErr.{TypeErr}
use Rattle.type_typing.specs.declared.type_err.TypeErr.TheVariants.{Twice}
use Rattle.type_typing.specs.Names.{model_named, static_named, field_named}
use Rattle.type_typing.specs.Outcome.{Checked, ◌>>=◌, or_else}
use Rattle.type_typing.specs.Policies.{typed_type}
use Rattle.type_specs.specs.declared.stage.Stage.{Stage}
use Rattle.type_specs.specs.declared.stage.Stage.TheVariants.{Types, Policies}
use Rattle.type_specs.specs.InTurn.{in_turn}
use Rattle.type_specs.specs.Models.{created_model, policy_at, policy_over, typed_field, typed_model, with_names, with_next_field, with_typed}
use Rattle.type_specs.specs.NewNames.{new_static}
use Rattle.type_specs.specs.Specs.{next_static}
use Rattle.type_commands.specs.declared.thing.Thing.TheVariants as the
use Rattle.type_commands.specs.Resolved.{added_field, added_static, created, field_seen, given, init_over, known_field, known_model, known_static, new_field_in, new_principal, reason_given, removed_field, removed_model, removed_static, resolved, text_given, unused, updated_field, updated_model, weakened_field, weakened_model, with_new_field}
use Rattle.type_commands.specs.CommandLaw.{CommandsAreResolved, HasInit, SomeWritten}

-- ---- parts of what is Ok are Ok

bound : {A B : Type 0} (o : Checked A) (f : A → Checked B) (b : B) → (o >>= f) ≡ Ok b → (a : A) × (o ≡ Ok a) × (f a ≡ Ok b)
bound (Ok a) f b e = (a, refl, e)
bound (Err x) f b e = absurd (cc e)

ok-same : {A : Type 0} (a b : A) → ◌≡◌ {A = Checked A} (Ok a) (Ok b) → a ≡ b
ok-same a b e = cc

or_else-some : {A : Type 0} (o : Option A) (x : TypeErr) (a : A) → or_else o x ≡ Ok a → o ≡ Some a
or_else-some None x a e = absurd (cc e)
or_else-some (Some b) x a e = ap (λ c. Some c) (ok-same b a e)

-- ---- what a name names is there by its number

is-there : {A : Type 0} (b : Bool) (x : A) (o : Option A) → IsTrue (is_some o) → IsTrue (is_some (cond b (Some x) o))
is-there true x o h = refl
is-there false x o h = h

found-there : {A : Type 0} (number : A → ℕ) (p : A → Bool) (xs : List A) (n : ℕ) → option_map number (find p xs) ≡ Some n → IsTrue (is_some (find (λ x. number x == n) xs))
found-there number p [] n = λ e. absurd (cc e)
found-there {A} number p (x ∷ xs) n =
    elim (p x)
    as (λ b. option_map number (cond b (Some x) (find p xs)) ≡ Some n → IsTrue (is_some (cond (number x == n) (Some x) (find (λ (y : A). number y == n) xs)))) [
      | true ↦ λ e.
          let same : number x ≡ n = cc e in
          let is : (number x == n) ≡ true = eq-eqb (number x) n same in
          ap (λ b. is_some (cond b (Some x) (find (λ (y : A). number y == n) xs))) is
      | false ↦ λ e. is-there (number x == n) x (find (λ (y : A). number y == n) xs) (found-there number p xs n e)
    ]

mapped-twice : {A B C : Type 0} (f : A → B) (g : B → C) (o : Option A) → option_map g (option_map f o) ≡ option_map (λ x. g (f x)) o
mapped-twice f g None = refl
mapped-twice f g (Some x) = refl

model-there : (s : Schema) (x : Named) (m : ℕ) → known_model s x ≡ Ok m → HasModel s m
unfolding known_model model_named
model-there s x m e = found-there (λ (info : ModelInfo). info.number) _ s.models m (or_else-some _ _ m e)

static-there : (s : Schema) (x : Named) (n : ℕ) → known_static s x ≡ Ok n → IsTrue (is_some (static_of s n))
unfolding known_static static_named
static-there s x n e = found-there (λ (info : StaticInfo). info.number) _ s.statics n (or_else-some _ _ n e)

field-in : (p : FieldInfo → Bool) (o : Option ModelInfo) (f : ℕ)
    → option_map (λ (found : ℕ × TTy). found.0) (option_and_then (λ (info : ModelInfo). option_map (λ (g : FieldInfo). (g.number, g.ty)) (find p info.fields)) o) ≡ Some f
    → IsTrue (is_some (option_and_then (λ (info : ModelInfo). field_in info.fields f) o))
field-in p None f e = absurd (cc e)
field-in p (Some info) f e =
    found-there (λ (g : FieldInfo). g.number) p info.fields f
    (sym (mapped-twice (λ (g : FieldInfo). (g.number, g.ty)) (λ (found : ℕ × TTy). found.0) (find p info.fields)) ∙ e)

field-there : (s : Schema) (m : ℕ) (x : Named) (f : ℕ) → known_field s m x ≡ Ok f → HasField s m f
unfolding known_field field_named
field-there s m x f e = field-in _ (model_of s m) f (or_else-some _ _ f e)

-- ---- what is given

given-same : (s : Schema) (m : ℕ) (p : Option Policy) (q : Option TypedPolicy) → given s m p ≡ Ok q → is_some q ≡ is_some p
unfolding given
given-same s m None q e = ap is_some (sym (ok-same None q e))
given-same s m (Some p) q e =
    let (policy, typed, is) = bound (policy_over s m p) (λ (policy : TypedPolicy). Ok (Some policy)) q e in
    ap is_some (sym (ok-same (Some policy) q is))

both-given : (s : Schema) (m : ℕ) (p q : Option Policy) (r t : Option TypedPolicy) → SomeWritten p q → given s m p ≡ Ok r → given s m q ≡ Ok t → IsGiven r t
both-given s m p q r t h one other = ap (λ b. b || is_some t) (given-same s m p r one) ∙ ap (λ b. is_some p || b) (given-same s m q t other) ∙ h

text-same : (at : ℕ) (bytes text : List ℕ) → text_given at bytes ≡ Ok text → (bytes ≡ text) × (text ≡ [] → ⊥)
text-same at [] text e = absurd (cc e)
text-same at (b ∷ bytes) text e = (ok-same (b ∷ bytes) text e, λ empty. cc (ok-same (b ∷ bytes) text e, empty))

reason-is : (reason : Reason) (text : List ℕ) → IsText reason.text → reason_given reason ≡ Ok text → IsReason text
unfolding reason_given
reason-is reason text is e =
    let (same, full) = text-same reason.at reason.text text e in
    (subst (λ bytes. IsText bytes) same is, full)

-- ---- numbers of new models and fields

numbered-more : (n : ℕ) (fields : List FieldInfo) (f : FieldInfo) → AreNumberedFrom n fields → f.number ≡ n + length fields → AreNumberedFrom n (fields ++ f ∷ [])
numbered-more n [] f h is = (is ∙ add-zero n, tt)
numbered-more n (g ∷ fields) f h is =
    let next : f.number ≡ (n + 1) + length fields = omega (arith, is) in
    (h.0, numbered-more (n + 1) fields f h.1 next)

field-numbered : (stage : Stage) (over : Schema) (m n : ℕ) (f : FieldDef) (info : FieldInfo) → typed_field stage over m n f ≡ Ok info → info.number ≡ n
unfolding typed_field
field-numbered stage over m n f info e =
    let (ty, _, e1) = bound (typed_type over f.ty) _ info e in
    let (read, _, e2) = bound (policy_at stage over m f.read) _ info e1 in
    let (write, _, e3) = bound (policy_at stage over m f.write) _ info e2 in
    ap (λ (i : FieldInfo). i.number) (sym (ok-same _ info e3))

fields-numbered : (stage : Stage) (over : Schema) (m n : ℕ) (defs : List FieldDef) (done fields : List FieldInfo)
    → AreNumberedFrom n done → in_turn (with_next_field stage over m n) done defs ≡ Ok fields → AreNumberedFrom n fields
unfolding with_next_field
fields-numbered stage over m n [] done fields h e = subst (λ all. AreNumberedFrom n all) (ok-same done fields e) h
fields-numbered stage over m n (d ∷ defs) done fields h e =
    let (more, goes, rest) = bound (with_next_field stage over m n done d) (λ after. in_turn (with_next_field stage over m n) after defs) fields e in
    let (info, typed, is) = bound (typed_field stage over m (n + length done) d) (λ (info : FieldInfo). Ok (done ++ info ∷ [])) more goes in
    let more_numbered : AreNumberedFrom n more =
    subst (λ all. AreNumberedFrom n all) (ok-same (done ++ info ∷ []) more is) (numbered-more n done info h (field-numbered stage over m (n + length done) d info typed)) in
    fields-numbered stage over m n defs more fields more_numbered rest

model-numbered : (stage : Stage) (over s : Schema) (d : ModelDef) (info : ModelInfo) → typed_model stage over s d ≡ Ok info → (info.number ≡ s.next_model) × AreNumberedFrom s.next_field info.fields
unfolding typed_model
model-numbered stage over s d info e =
    let (create, _, e1) = bound (policy_at stage over s.next_model d.create) _ info e in
    let (delete, _, e2) = bound (policy_at stage over s.next_model d.delete) _ info e1 in
    let (fields, goes, e3) = bound (in_turn (with_next_field stage over s.next_model s.next_field) [] d.fields) _ info e2 in
    let is = sym (ok-same _ info e3) in (
      ap (λ (i : ModelInfo). i.number) is,
      subst (λ all. AreNumberedFrom s.next_field all) (ap (λ (i : ModelInfo). i.fields) (sym is)) (fields-numbered stage over s.next_model s.next_field d.fields [] fields tt goes),
    )

-- ---- commands

created-is : (s : Schema) (d : ModelDef) (command : Command) → created s d ≡ Ok command → IsCommand s command
unfolding created created_model
created-is s d command e =
    let (info, goes, is) = bound (created_model s d) (λ (info : ModelInfo). Ok (create_model info)) command e in
    let (named, _, e1) = bound (with_names s d) _ info goes in
    let (known, _, e2) = bound (with_typed Types named s d) _ info e1 in
    subst (λ c. IsCommand s c) (ok-same (create_model info) command is) (model-numbered Policies known s d info e2)

removed_model-is : (s : Schema) (x : Named) (command : Command) → removed_model s x ≡ Ok command → IsCommand s command
unfolding removed_model
removed_model-is s x command e =
    let (m, there, e1) = bound (known_model s x) _ command e in
    let (_, _, e2) = bound (unused s (the.Model m) x) _ command e1 in
    subst (λ c. IsCommand s c) (ok-same (delete_model m) command e2) (model-there s x m there)

added_static-is : (s : Schema) (x : Named) (command : Command) → added_static s x ≡ Ok command → IsCommand s command
unfolding added_static
added_static-is s x command e =
    let (_, _, e1) = bound (new_static s x) _ command e in
    subst (λ c. IsCommand s c) (ok-same (add_static (next_static s x)) command e1) refl

removed_static-is : (s : Schema) (x : Named) (command : Command) → removed_static s x ≡ Ok command → IsCommand s command
unfolding removed_static
removed_static-is s x command e =
    let (n, there, e1) = bound (known_static s x) _ command e in
    let (_, _, e2) = bound (unused s (the.Static n) x) _ command e1 in
    subst (λ c. IsCommand s c) (ok-same (remove_static n) command e2) (static-there s x n there)

marked : (b : Bool) (at m : ℕ) (command : Command) → cond b (Err (Twice at)) (Ok (add_principal m)) ≡ Ok command → (b ≡ false) × (add_principal m ≡ command)
marked true at m command e = absurd (cc e)
marked false at m command e = (refl, ok-same (add_principal m) command e)

new_principal-is : (s : Schema) (x : Named) (command : Command) → new_principal s x ≡ Ok command → IsCommand s command
unfolding new_principal
new_principal-is s x command e =
    let (m, there, e1) = bound (known_model s x) _ command e in
    let (unmarked, is) = marked (is_principal_model s m) x.at m command e1 in
    subst (λ c. IsCommand s c) is (model-there s x m there, unmarked)

removed_field-is : (s : Schema) (model x : Named) (command : Command) → removed_field s model x ≡ Ok command → IsCommand s command
unfolding removed_field
removed_field-is s model x command e =
    let (m, _, e1) = bound (known_model s model) _ command e in
    let (f, there, e2) = bound (known_field s m x) _ command e1 in
    let (_, _, e3) = bound (unused s (the.Field m f) x) _ command e2 in
    subst (λ c. IsCommand s c) (ok-same (remove_field m f) command e3) (field-there s m x f there)

added_field-is : (s : Schema) (model : Named) (f : FieldDef) (x : Named) (init : tree_init.Init) (command : Command) → HasInit s command → added_field s model f x init ≡ Ok command → IsCommand s command
unfolding added_field field_seen
added_field-is s model f x init command typed e =
    let (m, there, e1) = bound (known_model s model) _ command e in
    let (_, _, e2) = bound (new_field_in s m f.name) _ command e1 in
    let (field, goes, e3) = bound (field_seen s m f) _ command e2 in
    let (first, _, e4) = bound (init_over s m field.ty x init) _ command e3 in
    let (closed, _, seen) = bound (typed_field Types s m s.next_field f) _ field goes in
    let is : add_field m field first ≡ command = ok-same (add_field m field first) command e4 in
    let typed_init : HasInit s (add_field m field first) = subst (λ c. HasInit s c) (sym is) typed in
    subst (λ c. IsCommand s c) is
    (model-there s model m there, field-numbered Policies (with_new_field s m closed) m s.next_field f field seen, typed_init)

updated_field-is : (s : Schema) (model x : Named) (p q : Option Policy) (command : Command) → SomeWritten p q → updated_field s model x p q ≡ Ok command → IsCommand s command
unfolding updated_field
updated_field-is s model x p q command some e =
    let (m, _, e1) = bound (known_model s model) _ command e in
    let (f, there, e2) = bound (known_field s m x) _ command e1 in
    let (r, one, e3) = bound (given s m p) _ command e2 in
    let (t, other, e4) = bound (given s m q) _ command e3 in
    subst (λ c. IsCommand s c) (ok-same (update_field m f r t) command e4) (field-there s m x f there, both-given s m p q r t some one other)

weakened_field-is : (s : Schema) (model x : Named) (p q : Option Policy) (reason : Reason) (command : Command)
    → SomeWritten p q → IsText reason.text → weakened_field s model x p q reason ≡ Ok command → IsCommand s command
unfolding weakened_field
weakened_field-is s model x p q reason command some text_is e =
    let (m, _, e1) = bound (known_model s model) _ command e in
    let (f, there, e2) = bound (known_field s m x) _ command e1 in
    let (r, one, e3) = bound (given s m p) _ command e2 in
    let (t, other, e4) = bound (given s m q) _ command e3 in
    let (text, why, e5) = bound (reason_given reason) _ command e4 in
    subst (λ c. IsCommand s c) (ok-same (weaken_field m f r t text) command e5)
    (field-there s m x f there, both-given s m p q r t some one other, reason-is reason text text_is why)

updated_model-is : (s : Schema) (model : Named) (p q : Option Policy) (command : Command) → SomeWritten p q → updated_model s model p q ≡ Ok command → IsCommand s command
unfolding updated_model
updated_model-is s model p q command some e =
    let (m, there, e1) = bound (known_model s model) _ command e in
    let (r, one, e2) = bound (given s m p) _ command e1 in
    let (t, other, e3) = bound (given s m q) _ command e2 in
    subst (λ c. IsCommand s c) (ok-same (update_model m r t) command e3) (model-there s model m there, both-given s m p q r t some one other)

weakened_model-is : (s : Schema) (model : Named) (p q : Option Policy) (reason : Reason) (command : Command)
    → SomeWritten p q → IsText reason.text → weakened_model s model p q reason ≡ Ok command → IsCommand s command
unfolding weakened_model
weakened_model-is s model p q reason command some text_is e =
    let (m, there, e1) = bound (known_model s model) _ command e in
    let (r, one, e2) = bound (given s m p) _ command e1 in
    let (t, other, e3) = bound (given s m q) _ command e2 in
    let (text, why, e4) = bound (reason_given reason) _ command e3 in
    subst (λ c. IsCommand s c) (ok-same (weaken_model m r t text) command e4)
    (model-there s model m there, both-given s m p q r t some one other, reason-is reason text text_is why)

pub commands_are_resolved : CommandsAreResolved
unfolding resolved
commands_are_resolved s (w.CreateModel d at) command h typed e = created-is s d command e
commands_are_resolved s (w.DeleteModel model at) command h typed e = removed_model-is s model command e
commands_are_resolved s (w.AddStatic x at) command h typed e = added_static-is s x command e
commands_are_resolved s (w.RemoveStatic x at) command h typed e = removed_static-is s x command e
commands_are_resolved s (w.AddPrincipal model at) command h typed e = new_principal-is s model command e
commands_are_resolved s (w.AddField model f x init at) command h typed e = added_field-is s model f x init command typed e
commands_are_resolved s (w.RemoveField model x at) command h typed e = removed_field-is s model x command e
commands_are_resolved s (w.UpdateFieldPolicy model x read write at) command h typed e = updated_field-is s model x read write command h e
commands_are_resolved s (w.WeakenFieldPolicy model x read write reason at) command h typed e = weakened_field-is s model x read write reason command h.0 h.1 e
commands_are_resolved s (w.UpdatePolicy model create delete at) command h typed e = updated_model-is s model create delete command h e
commands_are_resolved s (w.WeakenPolicy model create delete reason at) command h typed e = weakened_model-is s model create delete reason command h.0 h.1 e
