-- A schema with small policies has small ones after each command that typing gives: what stays has the size that it had.
use Rattle.std.proofs.Common.{◌≡◌, ◌==◌, ℕ, Bool, true, false, not, cond, List, [], ◌∷◌, length, refl, sym, ap, ◌∙◌, subst, arith}
use Rattle.std.specs.Prelude.{Option, Some, None, Ok, IfSome, filter, option_and_then}
use Rattle.std.specs.List.{AllByRecursion, find}
use Rattle.std.specs.Option.{option_map}
use Rattle.std.proofs.lemmas.Bool.{eqb-true}
use Rattle.text_tree.specs.declared.models.ModelDef.{ModelDef}
use Rattle.text_tree.specs.declared.policies.Policy as tree
use Rattle.text_tree.specs.declared.commands.Command as written
use Rattle.text_tree.specs.declared.commands.Command.TheVariants as w
use Rattle.type_schema.specs.declared.types.TTy.{TTy}
use Rattle.type_schema.specs.Trees.{Policy}
use Rattle.type_schema.specs.Schema.{FieldInfo, ModelInfo, Schema, field_in, model_in, model_of, type_of}
use Rattle.type_schema.specs.Typing.{IsField, IsModel, IsPolicy}
use Rattle.type_schema.specs.Commands.{Command, create_model, delete_model, add_static, remove_static, add_principal, add_field, remove_field, update_field, weaken_field, update_model, weaken_model, change_model, schema_after, with_field, with_field_policies, with_model_policies, without_field}
use Rattle.type_schema.specs.Proper.{IsProper}
use Rattle.type_specs.specs.declared.stage.Stage.TheVariants.{Types, Policies}
use Rattle.type_specs.specs.Models.{created_model, policy_over, with_names, with_typed}
use Rattle.type_specs.specs.Sizes.{are_small, model_places, model_sizes}
use Rattle.type_commands.specs.Commands.{command_is_small, command_places, command_sizes, given_places, given_sizes}
use Rattle.type_commands.specs.Resolved.{given, resolved}
use Rattle.duty_meaning.specs.Formulas.{nothing_written}
use Rattle.duty_meaning.specs.Sizes.{policy_size, policy_size_over}
use Rattle.type_scripts.specs.Counted.{counted}
use Rattle.type_proper.proofs.Grown.{all-changed, all-fields-changed, changed_to, fields-more, given-is, is-changed, same-number, types-changed}
use Rattle.type_proper.proofs.Lists.{all-append, all-filter}
use Rattle.type_proper.proofs.Lookups.{find-changed, find-more, type_in}
use Rattle.type_proper.proofs.NewModel.{model-parts}
use Rattle.type_proper.proofs.Resolves.{bound, ok-same}
use Rattle.type_anew.specs.Room.{FieldIsWithin, IsWithinSizes, ModelIsWithin, PolicyIsWithin}
use Rattle.type_anew.proofs.RetypedCommands.{IsMade, is-made}
use Rattle.type_anew.proofs.Numbers.{field_itself, itself, policy-itself}
use Rattle.type_anew.proofs.Room.{made-long}
use Rattle.type_anew.proofs.Sizes.{HasFieldsBy, policy-same}
use Rattle.type_anew.proofs.Within.{field-back, model-back, model-placed, policy-back, small-back}

-- ---- what a command gives is small

abbrev GivenIsSmall : Schema → Option Policy → Type 0
GivenIsSmall t given = IfSome given (PolicyIsWithin t)

-- over this schema
abbrev CommandIsSmall : Schema → Command → Type 0
CommandIsSmall t (create_model info) = ModelIsWithin t info
CommandIsSmall t (delete_model m) = Unit {0}
CommandIsSmall t (add_static info) = Unit {0}
CommandIsSmall t (remove_static n) = Unit {0}
CommandIsSmall t (add_principal m) = Unit {0}
CommandIsSmall t (add_field m f init) = FieldIsWithin t f
CommandIsSmall t (remove_field m f) = Unit {0}
CommandIsSmall t (update_field m f read write) = GivenIsSmall t read × GivenIsSmall t write
CommandIsSmall t (weaken_field m f read write reason) = GivenIsSmall t read × GivenIsSmall t write
CommandIsSmall t (update_model m create delete) = GivenIsSmall t create × GivenIsSmall t delete
CommandIsSmall t (weaken_model m create delete reason) = GivenIsSmall t create × GivenIsSmall t delete

-- one is given where the other is
abbrev AreGiven : Option tree.Policy → Option Policy → Type 0
AreGiven None None = Unit {0}
AreGiven None (Some q) = ⊥
AreGiven (Some p) None = ⊥
AreGiven (Some p) (Some q) = Unit {0}

given-both : (s : Schema) (m : ℕ) (p : Option tree.Policy) (q : Option Policy) → given s m p ≡ Ok q → AreGiven p q
unfolding given
given-both s m None q e = subst (AreGiven None) (ok-same None q e) tt
given-both s m (Some p) q e =
    let k = bound (policy_over s m p) (λ (policy : Policy). Ok (Some policy)) q e in
    subst (AreGiven (Some p)) (ok-same (Some k.0) q k.2) tt

given-back : (t : Schema) (p o : Option tree.Policy) (q r : Option Policy) (u : Unit {0}) → AreGiven p q → AreGiven o r → are_small (given_sizes counted t q r) (given_places p o) ≡ Ok u
    → GivenIsSmall t q × GivenIsSmall t r
given-back t None None None None u one other e = (tt, tt)
given-back t None None None (Some r) u one other e = absurd other
given-back t None None (Some q) r u one other e = absurd one
given-back t None (Some o) None None u one other e = absurd other
given-back t None (Some o) None (Some r) u one other e = let all = small-back (policy_size t r ∷ []) (given_places None (Some o)) u refl e in (tt, policy-back t r all.0)
given-back t None (Some o) (Some q) r u one other e = absurd one
given-back t (Some p) o None r u one other e = absurd one
given-back t (Some p) None (Some q) None u one other e = let all = small-back (policy_size t q ∷ []) (given_places (Some p) None) u refl e in (policy-back t q all.0, tt)
given-back t (Some p) None (Some q) (Some r) u one other e = absurd other
given-back t (Some p) (Some o) (Some q) None u one other e = absurd other
given-back t (Some p) (Some o) (Some q) (Some r) u one other e =
    let all = small-back (policy_size t q ∷ policy_size t r ∷ []) (given_places (Some p) (Some o)) u refl e in
    (policy-back t q all.0, policy-back t r all.1.0)

module _ (s t : Schema) where
  -- it is small where its sizes over t are not refused
  abbrev Counts : written.Command → Command → Type 0
  Counts c command = (u : Unit {0}) → are_small (command_sizes counted t command) (command_places c) ≡ Ok u → CommandIsSmall t command

  created-counts : (d : ModelDef) (at : ℕ) (info : ModelInfo) → created_model s d ≡ Ok info → Counts (w.CreateModel d at) (create_model info)
  unfolding created_model
  created-counts d at info made u e =
      let (named, names, e1) = bound (with_names s d) _ info made in
      let (known, types, e2) = bound (with_typed Types named s d) _ info e1 in
      let m = model-parts Policies known s d info e2 in
      let long : length info.fields ≡ length d.fields = sym (ap (λ (j : ModelInfo). length j.fields) m.6) ∙ made-long Policies known s.next_model s.next_field d.fields m.2 m.5 in
      model-back t info (small-back (model_sizes counted t info) (model_places d) u (model-placed t info d long) e)

  both-count : (m : ℕ) (p o : Option tree.Policy) (q r : Option Policy) (u : Unit {0}) → given s m p ≡ Ok q → given s m o ≡ Ok r → are_small (given_sizes counted t q r) (given_places p o) ≡ Ok u
      → GivenIsSmall t q × GivenIsSmall t r
  both-count m p o q r u one other e = given-back t p o q r u (given-both s m p q one) (given-both s m o r other) e

  made-counts : (c : written.Command) (command : Command) → IsMade s c command → Counts c command
  made-counts (w.CreateModel d at) command is = subst (Counts (w.CreateModel d at)) is.2 (created-counts d at is.0 is.1)
  made-counts (w.DeleteModel model at) command is = subst (Counts (w.DeleteModel model at)) is.1 (λ u e. tt)
  made-counts (w.AddStatic x at) command is = subst (Counts (w.AddStatic x at)) is.2 (λ u e. tt)
  made-counts (w.RemoveStatic x at) command is = subst (Counts (w.RemoveStatic x at)) is.1 (λ u e. tt)
  made-counts (w.AddPrincipal model at) command is = subst (Counts (w.AddPrincipal model at)) is.1 (λ u e. tt)
  made-counts (w.AddField model f x init at) command is =
      let c : written.Command = w.AddField model f x init at in
      subst (Counts c) is.5
      (λ u e. field-back t is.2 (counted.init t is.2.ty is.3 ∷ []) (small-back (command_sizes counted t (add_field is.0 is.2 is.3)) (command_places c) u refl e))
  made-counts (w.RemoveField model x at) command is = subst (Counts (w.RemoveField model x at)) is.2 (λ u e. tt)
  made-counts (w.UpdateFieldPolicy model x p q at) command is =
      let k = is.2 in subst (Counts (w.UpdateFieldPolicy model x p q at)) k.4 (λ u e. both-count is.0 p q k.0 k.1 u k.2 k.3 e)
  made-counts (w.WeakenFieldPolicy model x p q reason at) command is =
      let k = is.3 in subst (Counts (w.WeakenFieldPolicy model x p q reason at)) k.4 (λ u e. both-count is.0 p q k.0 k.1 u k.2 k.3 e)
  made-counts (w.UpdatePolicy model p q at) command is =
      let k = is.1 in subst (Counts (w.UpdatePolicy model p q at)) k.4 (λ u e. both-count is.0 p q k.0 k.1 u k.2 k.3 e)
  made-counts (w.WeakenPolicy model p q reason at) command is =
      let k = is.2 in subst (Counts (w.WeakenPolicy model p q reason at)) k.4 (λ u e. both-count is.0 p q k.0 k.1 u k.2 k.3 e)

  command-small : (c : written.Command) (command : Command) (u : Unit {0}) → resolved s c ≡ Ok command → command_is_small counted t command c ≡ Ok u → CommandIsSmall t command
  unfolding command_is_small
  command-small c command u is e = made-counts c command (is-made s c command is) u e

-- ---- what stays

-- the fields of s are in t with their types
abbrev KeepsTypes : (s t : Schema) → Type 0
KeepsTypes s t = (m f : ℕ) (ty : TTy) → type_of s m f ≡ Some ty → type_of t m f ≡ Some ty

policy-kept : (s t : Schema) → KeepsTypes s t → (m : ℕ) (p : Policy) → IsPolicy s m p → policy_size_over t nothing_written p ≡ policy_size_over s nothing_written p
policy-kept s t keeps m p is =
    let has : HasFieldsBy s t itself field_itself = λ m f ty is. (ty, keeps m f ty is, refl) in
    ap (policy_size_over t nothing_written) (sym (policy-itself p)) ∙ policy-same s t itself field_itself itself has m p is

abbrev SameSize : (s t : Schema) → ℕ → Policy → Type 0
SameSize s t m p = policy_size_over t nothing_written p ≡ policy_size_over s nothing_written p

module _ (s t over : Schema) (same : (m : ℕ) (p : Policy) → IsPolicy over m p → SameSize s t m p) where
  still : (m : ℕ) (p : Policy) → IsPolicy over m p → PolicyIsWithin s p → PolicyIsWithin t p
  still m p is small = let e = same m p is in omega (arith, e, small)

  fields-still : (m : ℕ) (fs : List FieldInfo) → AllByRecursion (IsField over m) fs → AllByRecursion (FieldIsWithin s) fs → AllByRecursion (FieldIsWithin t) fs
  fields-still m [] typed small = tt
  fields-still m (f ∷ fs) typed small = ((still m f.read typed.0.read small.0.0, still m f.write typed.0.write small.0.1), fields-still m fs typed.1 small.1)

  models-still : (ms : List ModelInfo) → AllByRecursion (IsModel over) ms → AllByRecursion (ModelIsWithin s) ms → AllByRecursion (ModelIsWithin t) ms
  models-still [] typed small = tt
  models-still (a ∷ ms) typed small =
      ((still a.number a.create typed.0.create small.0.0, still a.number a.delete typed.0.delete small.0.1, fields-still a.number a.fields typed.0.fields small.0.2), models-still ms typed.1 small.1)

grown-small : (s t : Schema) → IsProper s → KeepsTypes s t → IsWithinSizes s → AllByRecursion (ModelIsWithin t) s.models
grown-small s t proper keeps small = models-still s t s (λ m p is. policy-kept s t keeps m p is) s.models proper.typed small

gone-small : (s t : Schema) → IsProper t → KeepsTypes t s → AllByRecursion (ModelIsWithin s) t.models → IsWithinSizes t
gone-small s t proper keeps small = models-still s t t (λ m p is. sym (policy-kept t s keeps m p is)) t.models proper.typed small

-- ---- types of fields after a command

type-out : (s : Schema) (n f : ℕ) (o : Option ModelInfo) → model_of s n ≡ o → type_of s n f ≡ option_and_then (λ (info : ModelInfo). type_in info f) o
type-out s n f None is = ap (λ o. option_map (λ (g : FieldInfo). g.ty) (option_and_then (λ (info : ModelInfo). field_in info.fields f) o)) is
type-out s n f (Some info) is = ap (λ o. option_map (λ (g : FieldInfo). g.ty) (option_and_then (λ (info : ModelInfo). field_in info.fields f) o)) is

-- a model of t that has what the model of s has
abbrev IsBecome : Schema → ℕ → ModelInfo → Type 0
IsBecome t n info = (later : ModelInfo) × (model_of t n ≡ Some later) × ((f : ℕ) (ty : TTy) → type_in info f ≡ Some ty → type_in later f ≡ Some ty)

keeps-by : (s t : Schema) → ((n : ℕ) (info : ModelInfo) → model_of s n ≡ Some info → IsBecome t n info) → KeepsTypes s t
keeps-by s t become n f ty is = out (model_of s n) refl (sym (type-out s n f (model_of s n) refl) ∙ is)
  where
    out : (o : Option ModelInfo) → model_of s n ≡ o → option_and_then (λ (info : ModelInfo). type_in info f) o ≡ Some ty → type_of t n f ≡ Some ty
    out None at e = absurd (cc e)
    out (Some info) at e = let k = become n info at in type-out t n f (Some k.0) k.1 ∙ k.2 f ty e

-- of the same models
keeps-same : (s t : Schema) → t.models ≡ s.models → KeepsTypes s t
keeps-same s t same n f ty is = ap (λ (ms : List ModelInfo). option_map (λ (g : FieldInfo). g.ty) (option_and_then (λ (info : ModelInfo). field_in info.fields f) (model_in ms n))) same ∙ is

-- of models of which one changed
keeps-changed : (s t : Schema) (m : ℕ) (change : ModelInfo → ModelInfo) → t.models ≡ change_model m change s.models → ((info : ModelInfo) → (change info).number ≡ info.number)
    → ((info : ModelInfo) (f : ℕ) (ty : TTy) → type_in info f ≡ Some ty → type_in (change info) f ≡ Some ty) → KeepsTypes s t
keeps-changed s t m change same number types = keeps-by s t (λ n info is. (
  changed_to m change info,
  ap (λ (ms : List ModelInfo). model_in ms n) same ∙ find-changed (λ (i : ModelInfo). i.number) (changed_to m change) (same-number m change number) n s.models ∙ ap (option_map (changed_to m change)) is,
  λ f ty has. is-changed (λ (i : ModelInfo). type_in i f ≡ Some ty) m change info (λ _. types info f ty has) (λ _. has),
))

-- nothing has a number that was taken away
none-left : {A : Type 0} (number : A → ℕ) (m : ℕ) (xs : List A) (x : A) → find (λ y. number y == m) (filter (λ y. not (number y == m)) xs) ≡ Some x → ⊥
none-left number m [] x e = cc e
none-left {A} number m (y ∷ ys) x e = at (none-left number m ys x) (number y == m) refl e
  where
    left : List A
    left = filter (λ z. not (number z == m)) ys

    at : (find (λ z. number z == m) left ≡ Some x → ⊥) → (b : Bool) → (number y == m) ≡ b → find (λ z. number z == m) (cond (not b) (y ∷ left) left) ≡ Some x → ⊥
    at rest true is e = rest e
    at rest false is e = rest (ap (λ b. cond b (Some y) (find (λ z. number z == m) left)) (sym is) ∙ e)

-- what is found without the thing of a number was there before
found-before : {A : Type 0} (number : A → ℕ) (m n : ℕ) (xs : List A) (x : A) → find (λ y. number y == n) (filter (λ y. not (number y == m)) xs) ≡ Some x → find (λ y. number y == n) xs ≡ Some x
found-before number m n [] x e = e
found-before {A} number m n (y ∷ ys) x e = at (found-before number m n ys x) (number y == m) (number y == n) refl refl e
  where
    left : List A
    left = filter (λ z. not (number z == m)) ys

    at : (find (λ z. number z == n) left ≡ Some x → find (λ z. number z == n) ys ≡ Some x) → (b c : Bool) → (number y == m) ≡ b → (number y == n) ≡ c → find (λ z. number z == n) (cond (not b) (y ∷ left) left) ≡ Some x → cond c (Some y) (find (λ z. number z == n) ys) ≡ Some x
    at rest true true one other e =
        let same : m ≡ n = sym (eqb-true (number y) m one) ∙ eqb-true (number y) n other in
        absurd (none-left number n ys x (ap (λ k. find (λ z. number z == n) (filter (λ z. not (number z == k)) ys)) (sym same) ∙ e))
    at rest true false one other e = rest e
    at rest false true one other e = ap (λ b. cond b (Some y) (find (λ z. number z == n) left)) (sym other) ∙ e
    at rest false false one other e = rest (ap (λ b. cond b (Some y) (find (λ z. number z == n) left)) (sym other) ∙ e)

keeps-deleted : (s : Schema) (m : ℕ) → KeepsTypes (schema_after s (delete_model m)) s
keeps-deleted s m =
    keeps-by (schema_after s (delete_model m)) s (λ n info is. (info, found-before (λ (i : ModelInfo). i.number) m n s.models info is, λ f ty has. has))

without : (info : ModelInfo) (f g : ℕ) (ty : TTy) → type_in (without_field f info) g ≡ Some ty → type_in info g ≡ Some ty
without info f g ty e = out (field_in (without_field f info).fields g) refl e
  where
    out : (o : Option FieldInfo) → field_in (without_field f info).fields g ≡ o → option_map (λ (h : FieldInfo). h.ty) o ≡ Some ty → type_in info g ≡ Some ty
    out None is e = absurd (cc e)
    out (Some x) is e = ap (option_map (λ (h : FieldInfo). h.ty)) (found-before (λ (h : FieldInfo). h.number) f g info.fields x is) ∙ e

keeps-without : (s : Schema) (m f : ℕ) → KeepsTypes (schema_after s (remove_field m f)) s
keeps-without s m f =
    keeps-by (schema_after s (remove_field m f)) s
    (λ n later is. out n later (model_of s n) refl (sym (find-changed (λ (i : ModelInfo). i.number) (changed_to m (without_field f)) (same-number m (without_field f) (λ info. refl)) n s.models) ∙ is))
  where
    out : (n : ℕ) (later : ModelInfo) (o : Option ModelInfo) → model_of s n ≡ o → option_map (changed_to m (without_field f)) o ≡ Some later → IsBecome s n later
    out n later None at e = absurd (cc e)
    out n later (Some info) at e =
        let same : changed_to m (without_field f) info ≡ later = cc e in (
          info,
          at,
          λ g ty has.
              is-changed (λ (i : ModelInfo). type_in i g ≡ Some ty → type_in info g ≡ Some ty) m (without_field f) info (λ _. without info f g ty) (λ _. λ h. h)
              (subst (λ (i : ModelInfo). type_in i g ≡ Some ty) (sym same) has),
        )

-- ---- the schema after a command

rights-small : (t : Schema) (f : ℕ) (read write : Option Policy) (info : ModelInfo) → GivenIsSmall t read → GivenIsSmall t write → ModelIsWithin t info → ModelIsWithin t (with_field_policies f read write info)
rights-small t f read write info one other small = (
  small.0,
  small.1,
  all-fields-changed f read write (FieldIsWithin t) (λ g is k. (given-is (PolicyIsWithin t) read g.read one k.0, given-is (PolicyIsWithin t) write g.write other k.1)) info.fields small.2,
)

-- one model changed, whose fields keep their types
changed-small : (s t : Schema) (m : ℕ) (change : ModelInfo → ModelInfo) → t.models ≡ change_model m change s.models → ((info : ModelInfo) → (change info).number ≡ info.number)
    → ((info : ModelInfo) (f : ℕ) (ty : TTy) → type_in info f ≡ Some ty → type_in (change info) f ≡ Some ty) → ((info : ModelInfo) → ModelIsWithin t info → ModelIsWithin t (change info))
    → IsProper s → IsWithinSizes s → IsWithinSizes t
changed-small s t m change same number types here proper small =
    subst (AllByRecursion (ModelIsWithin t)) (sym same)
    (all-changed m change number (ModelIsWithin t) (ModelIsWithin t) (λ info is k. here info k) (λ info is k. k) s.models (grown-small s t proper (keeps-changed s t m change same number types) small))

after-small : (s : Schema) (c : Command) → IsProper s → IsProper (schema_after s c) → IsWithinSizes s → CommandIsSmall (schema_after s c) c → IsWithinSizes (schema_after s c)
after-small s (create_model info) proper later small new =
    let t : Schema = schema_after s (create_model info) in
    let keeps = keeps-by s t (λ n i is. (i, find-more (λ (j : ModelInfo). j.number == n) s.models (info ∷ []) i is, λ f ty has. has)) in
    all-append (ModelIsWithin t) s.models (info ∷ []) (grown-small s t proper keeps small) (new, tt)
after-small s (delete_model m) proper later small new =
    gone-small s (schema_after s (delete_model m)) later (keeps-deleted s m)
    (all-filter (ModelIsWithin s) (ModelIsWithin s) (λ (info : ModelInfo). not (info.number == m)) (λ info is k. k) s.models small)
after-small s (add_static info) proper later small new =
    let t : Schema = schema_after s (add_static info) in grown-small s t proper (keeps-same s t refl) small
after-small s (remove_static n) proper later small new =
    let t : Schema = schema_after s (remove_static n) in grown-small s t proper (keeps-same s t refl) small
after-small s (add_principal m) proper later small new =
    changed-small s (schema_after s (add_principal m)) m (λ (info : ModelInfo). record info { principal = true }) refl (λ info. refl) (λ info f ty has. has) (λ info k. k) proper small
after-small s (add_field m f init) proper later small new =
    let t : Schema = schema_after s (add_field m f init) in
    changed-small s t m (with_field f) refl (λ info. refl) (λ info g ty has. fields-more info.fields f g ty has)
    (λ info k. (k.0, k.1, all-append (FieldIsWithin t) info.fields (f ∷ []) k.2 (new, tt))) proper small
after-small s (remove_field m f) proper later small new =
    gone-small s (schema_after s (remove_field m f)) later (keeps-without s m f)
    (all-changed m (without_field f) (λ info. refl) (ModelIsWithin s) (ModelIsWithin s)
    (λ info is k. (k.0, k.1, all-filter (FieldIsWithin s) (FieldIsWithin s) (λ (g : FieldInfo). not (g.number == f)) (λ g is h. h) info.fields k.2)) (λ info is k. k) s.models small)
after-small s (update_field m f read write) proper later small new =
    changed-small s (schema_after s (update_field m f read write)) m (with_field_policies f read write) refl (λ info. refl) (λ info g ty has. types-changed f read write info.fields g ∙ has)
    (λ info k. rights-small (schema_after s (update_field m f read write)) f read write info new.0 new.1 k) proper small
after-small s (weaken_field m f read write reason) proper later small new =
    changed-small s (schema_after s (weaken_field m f read write reason)) m (with_field_policies f read write) refl (λ info. refl) (λ info g ty has. types-changed f read write info.fields g ∙ has)
    (λ info k. rights-small (schema_after s (weaken_field m f read write reason)) f read write info new.0 new.1 k) proper small
after-small s (update_model m create delete) proper later small new =
    let t : Schema = schema_after s (update_model m create delete) in
    changed-small s t m (with_model_policies create delete) refl (λ info. refl) (λ info g ty has. has)
    (λ info k. (given-is (PolicyIsWithin t) create info.create new.0 k.0, given-is (PolicyIsWithin t) delete info.delete new.1 k.1, k.2)) proper small
after-small s (weaken_model m create delete reason) proper later small new =
    let t : Schema = schema_after s (weaken_model m create delete reason) in
    changed-small s t m (with_model_policies create delete) refl (λ info. refl) (λ info g ty has. has)
    (λ info k. (given-is (PolicyIsWithin t) create info.create new.0 k.0, given-is (PolicyIsWithin t) delete info.delete new.1 k.1, k.2)) proper small

pub small-after : (s : Schema) (c : written.Command) (command : Command) (u : Unit {0}) → IsProper s → IsProper (schema_after s command) → IsWithinSizes s → resolved s c ≡ Ok command
    → command_is_small counted (schema_after s command) command c ≡ Ok u → IsWithinSizes (schema_after s command)
small-after s c command u proper later small is e = after-small s command proper later small (command-small s (schema_after s command) c command u is e)
