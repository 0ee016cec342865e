-- What a command is over a proper schema fits it.
use Rattle.std.proofs.Common.{◌≡◌, ◌==◌, ℕ, Bool, true, false, cond, List, [], ◌∷◌, map, refl, sym, ap, subst, eq-eqb}
use Rattle.std.specs.Prelude.{Option, Some, None, Ok, Err, is_some, IsTrue}
use Rattle.std.specs.List.{find}
use Rattle.std.specs.Option.{option_map}
use Rattle.std.specs.Str.{bytes_eq}
use Rattle.text_tree.specs.declared.named.Named.{Named}
use Rattle.text_tree.specs.declared.named.Reason.{Reason}
use Rattle.text_tree.specs.declared.policies.Policy as tree_policy
use Rattle.type_schema.specs.Trees.{Name, Policy}
use Rattle.type_schema.specs.Schema.{StaticInfo, FieldInfo, ModelInfo, Schema, is_principal_model}
use Rattle.type_schema.specs.Typing.{HasModel, IsPolicy, IsField, IsModel, IsType}
use Rattle.type_schema.specs.Commands.{Command, delete_model, add_static, remove_static, add_principal, remove_field, update_field, weaken_field, update_model, weaken_model}
use Rattle.type_schema.specs.Proper.{AreProperFields}
use Rattle.type_schema.specs.Views.{policy_of}
use Rattle.type_typing.specs.declared.type_err.TypeErr.{TypeErr}
use Rattle.type_typing.specs.declared.type_err.TypeErr.TheVariants.{Twice}
use Rattle.type_typing.specs.declared.type_err.UsedBy.{UsedBy}
use Rattle.type_typing.specs.Names.{model_named, static_named}
use Rattle.type_typing.specs.Outcome.{Checked, ◌>>=◌, or_else}
use Rattle.type_typing.specs.Policies.{typed_policy}
use Rattle.type_typing.specs.WellTyped.{HasFields, HaveFields, PolicyHasLiterals}
use Rattle.type_typing.proofs.Sound.{typed_is_well_typed}
use Rattle.type_specs.specs.Models.{policy_over}
use Rattle.type_specs.specs.NewNames.{is_taken, new_static, one_more}
use Rattle.type_specs.specs.Specs.{next_static}
use Rattle.type_commands.specs.declared.thing.Thing.{Thing}
use Rattle.type_commands.specs.declared.thing.Thing.TheVariants as the
use Rattle.type_commands.specs.Users.{first_user}
use Rattle.type_commands.specs.Resolved.{added_static, given, known_field, known_model, known_static, new_principal, not_held, reason_given, removed_field, removed_model, removed_static, unused, updated_field, updated_model, weakened_field, weakened_model}
use Rattle.type_proper.specs.Shown.{PolicyIsShown}
use Rattle.type_proper.specs.Steady.{IsSteady}
use Rattle.type_proper.specs.Literals.{GivenHasLiterals, CommandHasLiterals}
use Rattle.type_proper.specs.Fits.{Fits, IsGood, IsNewName}
use Rattle.type_proper.proofs.Kept.{neither}
use Rattle.type_proper.proofs.Lists.{all-append, all-both, all-fail, all-map, all-weaken}
use Rattle.type_proper.proofs.ShownTrees.{typed_are_shown}

-- ---- parts of what is Ok are Ok

pub bound : {A B : Type 0} (o : Checked A) (f : A → Checked B) (b : B) → (o >>= f) ≡ Ok b → (a : A) × (o ≡ Ok a) × (f a ≡ Ok b)
bound (Ok a) f b e = (a, refl, e)
bound (Err x) f b e = absurd (cc e)

pub ok-same : {A : Type 0} (a b : A) → ◌≡◌ {A = Checked A} (Ok a) (Ok b) → a ≡ b
ok-same a b e = cc

pub or_else-some : {A : Type 0} (o : Option A) (x : TypeErr) (a : A) → or_else o x ≡ Ok a → o ≡ Some a
or_else-some None x a e = absurd (cc e)
or_else-some (Some b) x a e = ap (λ c. Some c) (ok-same b a e)

-- ---- what a name names is there by its number

is-there : {A : Type 0} (b : Bool) (x : A) (o : Option A) → IsTrue (is_some o) → IsTrue (is_some (cond b (Some x) o))
is-there true x o h = refl
is-there false x o h = h

found-there : {A : Type 0} (number : A → ℕ) (p : A → Bool) (xs : List A) (n : ℕ) → option_map number (find p xs) ≡ Some n → IsTrue (is_some (find (λ x. number x == n) xs))
found-there number p [] n = λ e. absurd (cc e)
found-there {A} number p (x ∷ xs) n =
    elim (p x)
    as (λ b. option_map number (cond b (Some x) (find p xs)) ≡ Some n → IsTrue (is_some (cond (number x == n) (Some x) (find (λ (y : A). number y == n) xs)))) [
      | true ↦ λ e.
          let same : number x ≡ n = cc e in
          let is : (number x == n) ≡ true = eq-eqb (number x) n same in
          ap (λ b. is_some (cond b (Some x) (find (λ (y : A). number y == n) xs))) is
      | false ↦ λ e. is-there (number x == n) x (find (λ (y : A). number y == n) xs) (found-there number p xs n e)
    ]

pub model-there : (s : Schema) (x : Named) (m : ℕ) → known_model s x ≡ Ok m → HasModel s m
unfolding known_model model_named
model-there s x m e = found-there (λ (info : ModelInfo). info.number) _ s.models m (or_else-some _ _ m e)

-- ---- policies

pub have-fields : (s : Schema) → IsSteady s → HaveFields s
have-fields s steady =
    all-both (IsModel s) (AreProperFields s.next_field) (HasFields s)
    (λ info typed are. record { numbers = are.numbers.distinct; types = all-weaken (IsField s info.number) (λ (f : FieldInfo). IsType s f.ty) (λ f is. is.ty) info.fields typed.fields })
    s.models steady.proper.typed steady.proper.fields

pub over-good : (s : Schema) (m : ℕ) (p : tree_policy.Policy) (policy : Policy) → HaveFields s → HasModel s m → policy_over s m p ≡ Ok policy → PolicyHasLiterals policy
    → IsPolicy s m policy × PolicyIsShown policy
unfolding policy_over
over-good s m p policy fields has e lit =
    let k = bound (typed_policy s m p) (λ typed. Ok (policy_of typed)) policy e in
    let made : policy_of k.0 ≡ policy = ok-same (policy_of k.0) policy k.2 in
    let lits : PolicyHasLiterals (policy_of k.0) = subst PolicyHasLiterals (sym made) lit in
    subst (λ (q : Policy). IsPolicy s m q × PolicyIsShown q) made (typed_is_well_typed.policies s m p k.0 fields has k.1 lits, typed_are_shown.policies s m p k.0 k.1)

given-good : (s : Schema) (m : ℕ) (p : Option tree_policy.Policy) (q : Option Policy) → HaveFields s → HasModel s m → given s m p ≡ Ok q → GivenHasLiterals q → IsGood s m q
unfolding given
given-good s m None q fields has e lit = subst (IsGood s m) (ok-same None q e) (tt, tt)
given-good s m (Some p) q fields has e lit =
    let k = bound (policy_over s m p) (λ (policy : Policy). Ok (Some policy)) q e in
    let made : Some k.0 ≡ q = ok-same (Some k.0) q k.2 in
    let lits : GivenHasLiterals (Some k.0) = subst GivenHasLiterals (sym made) lit in
    subst (IsGood s m) made (over-good s m p k.0 fields has k.1 lits)

-- ---- what nothing uses, and names that are new

held-none : (at : ℕ) (o : Option UsedBy) (u : Unit {0}) → not_held at o ≡ Ok u → o ≡ None
held-none at None u e = refl
held-none at (Some user) u e = absurd (cc e)

unused-none : (s : Schema) (thing : Thing) (x : Named) (u : Unit {0}) → unused s thing x ≡ Ok u → first_user s thing ≡ None
unfolding unused
unused-none s thing x u e = held-none x.at (first_user s thing) u e

pub not-taken : (b : Bool) (there most : ℕ) (x : Named) (u : Unit {0}) → one_more b there most x ≡ Ok u → b ≡ false
unfolding one_more
not-taken true there most x u e = absurd (cc e)
not-taken false there most x u e = refl

pub none-mapped : {A B : Type 0} (f : A → B) (o : Option A) → is_some (option_map f o) ≡ false → o ≡ None
none-mapped f None e = refl
none-mapped f (Some a) e = absurd (cc e)

pub new-name : (s : Schema) (name : Name) → is_taken s name ≡ false → IsNewName s name
unfolding is_taken static_named model_named
new-name s name e =
    let none = neither (is_some (static_named s name)) (is_some (model_named s name)) e in
    let statics = all-fail (λ (n : StaticInfo). bytes_eq n.name name) s.statics (none-mapped (λ (n : StaticInfo). n.number) _ none.0) in
    let models = all-fail (λ (m : ModelInfo). bytes_eq m.name name) s.models (none-mapped (λ (m : ModelInfo). m.number) _ none.1) in
    all-append (λ n. bytes_eq n name ≡ false) (map (λ (n : StaticInfo). n.name) s.statics) (map (λ (m : ModelInfo). m.name) s.models)
    (all-map (λ n. bytes_eq n name ≡ false) (λ (n : StaticInfo). n.name) s.statics statics) (all-map (λ n. bytes_eq n name ≡ false) (λ (m : ModelInfo). m.name) s.models models)

-- ---- commands

pub removed_model-fits : (s : Schema) (x : Named) (command : Command) → removed_model s x ≡ Ok command → Fits s command
unfolding removed_model
removed_model-fits s x command e =
    let (m, there, e1) = bound (known_model s x) _ command e in
    let (u, none, e2) = bound (unused s (the.Model m) x) _ command e1 in
    subst (Fits s) (ok-same (delete_model m) command e2) (unused-none s (the.Model m) x u none)

pub added_static-fits : (s : Schema) (x : Named) (command : Command) → added_static s x ≡ Ok command → Fits s command
unfolding added_static
added_static-fits s x command e =
    let (u, new, e1) = bound (new_static s x) _ command e in
    subst (Fits s) (ok-same (add_static (next_static s x)) command e1) (refl, new-name s x.name (not-taken (is_taken s x.name) _ _ x u new))

pub removed_static-fits : (s : Schema) (x : Named) (command : Command) → removed_static s x ≡ Ok command → Fits s command
unfolding removed_static
removed_static-fits s x command e =
    let (n, there, e1) = bound (known_static s x) _ command e in
    let (u, none, e2) = bound (unused s (the.Static n) x) _ command e1 in
    subst (Fits s) (ok-same (remove_static n) command e2) (unused-none s (the.Static n) x u none)

marked : (b : Bool) (at m : ℕ) (command : Command) → cond b (Err (Twice at)) (Ok (add_principal m)) ≡ Ok command → add_principal m ≡ command
marked true at m command e = absurd (cc e)
marked false at m command e = ok-same (add_principal m) command e

pub new_principal-fits : (s : Schema) (x : Named) (command : Command) → new_principal s x ≡ Ok command → Fits s command
unfolding new_principal
new_principal-fits s x command e =
    let (m, there, e1) = bound (known_model s x) _ command e in
    subst (Fits s) (marked (is_principal_model s m) x.at m command e1) tt

pub removed_field-fits : (s : Schema) (model x : Named) (command : Command) → removed_field s model x ≡ Ok command → Fits s command
unfolding removed_field
removed_field-fits s model x command e =
    let (m, _, e1) = bound (known_model s model) _ command e in
    let (f, there, e2) = bound (known_field s m x) _ command e1 in
    let (u, none, e3) = bound (unused s (the.Field m f) x) _ command e2 in
    subst (Fits s) (ok-same (remove_field m f) command e3) (unused-none s (the.Field m f) x u none)

module _ (s : Schema) (steady : IsSteady s) where
  pub updated_field-fits : (model x : Named) (p q : Option tree_policy.Policy) (command : Command) → CommandHasLiterals command → updated_field s model x p q ≡ Ok command → Fits s command
  unfolding updated_field
  updated_field-fits model x p q command lit e =
      let (m, there, e1) = bound (known_model s model) _ command e in
      let (f, _, e2) = bound (known_field s m x) _ command e1 in
      let (r, one, e3) = bound (given s m p) _ command e2 in
      let (t, other, e4) = bound (given s m q) _ command e3 in
      let made = ok-same (update_field m f r t) command e4 in
      let lits : CommandHasLiterals (update_field m f r t) = subst CommandHasLiterals (sym made) lit in
      let fields = have-fields s steady in
      let has = model-there s model m there in
      subst (Fits s) made (given-good s m p r fields has one lits.0, given-good s m q t fields has other lits.1)

  pub weakened_field-fits : (model x : Named) (p q : Option tree_policy.Policy) (reason : Reason) (command : Command) → CommandHasLiterals command → weakened_field s model x p q reason ≡ Ok command → Fits s command
  unfolding weakened_field
  weakened_field-fits model x p q reason command lit e =
      let (m, there, e1) = bound (known_model s model) _ command e in
      let (f, _, e2) = bound (known_field s m x) _ command e1 in
      let (r, one, e3) = bound (given s m p) _ command e2 in
      let (t, other, e4) = bound (given s m q) _ command e3 in
      let (text, _, e5) = bound (reason_given reason) _ command e4 in
      let made = ok-same (weaken_field m f r t text) command e5 in
      let lits : CommandHasLiterals (weaken_field m f r t text) = subst CommandHasLiterals (sym made) lit in
      let fields = have-fields s steady in
      let has = model-there s model m there in
      subst (Fits s) made (given-good s m p r fields has one lits.0, given-good s m q t fields has other lits.1)

  pub updated_model-fits : (model : Named) (p q : Option tree_policy.Policy) (command : Command) → CommandHasLiterals command → updated_model s model p q ≡ Ok command → Fits s command
  unfolding updated_model
  updated_model-fits model p q command lit e =
      let (m, there, e1) = bound (known_model s model) _ command e in
      let (r, one, e2) = bound (given s m p) _ command e1 in
      let (t, other, e3) = bound (given s m q) _ command e2 in
      let made = ok-same (update_model m r t) command e3 in
      let lits : CommandHasLiterals (update_model m r t) = subst CommandHasLiterals (sym made) lit in
      let fields = have-fields s steady in
      let has = model-there s model m there in
      subst (Fits s) made (given-good s m p r fields has one lits.0, given-good s m q t fields has other lits.1)

  pub weakened_model-fits : (model : Named) (p q : Option tree_policy.Policy) (reason : Reason) (command : Command) → CommandHasLiterals command → weakened_model s model p q reason ≡ Ok command → Fits s command
  unfolding weakened_model
  weakened_model-fits model p q reason command lit e =
      let (m, there, e1) = bound (known_model s model) _ command e in
      let (r, one, e2) = bound (given s m p) _ command e1 in
      let (t, other, e3) = bound (given s m q) _ command e2 in
      let (text, _, e4) = bound (reason_given reason) _ command e3 in
      let made = ok-same (weaken_model m r t text) command e4 in
      let lits : CommandHasLiterals (weaken_model m r t text) = subst CommandHasLiterals (sym made) lit in
      let fields = have-fields s steady in
      let has = model-there s model m there in
      subst (Fits s) made (given-good s m p r fields has one lits.0, given-good s m q t fields has other lits.1)
