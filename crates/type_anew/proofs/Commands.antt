-- A command changes the tree that a schema is written as in just what it says.
use Rattle.std.proofs.Common.{◌≡◌, ◌==◌, ℕ, Bool, true, false, cond, List, [], ◌∷◌, ◌++◌, map, refl, sym, ap, ◌∙◌, subst}
use Rattle.std.specs.Prelude.{Option, Some, None, Ok, Err, not, filter, option_and_then, if◌then◌else◌}
use Rattle.std.specs.List.{AllByRecursion, find}
use Rattle.std.specs.Option.{option_map}
use Rattle.std.specs.Str.{bytes_eq}
use Rattle.std.proofs.lemmas.Bool.{eqb-true}
use Rattle.std.proofs.lemmas.List.{map-append}
use Rattle.text_tree.specs.declared.named.Named.{Named}
use Rattle.text_tree.specs.declared.models.FieldDef.{FieldDef}
use Rattle.text_tree.specs.declared.models.ModelDef.{ModelDef}
use Rattle.text_tree.specs.declared.policies.Policy as tree_policy
use Rattle.text_tree.specs.declared.policies.Init as tree_init
use Rattle.text_tree.specs.declared.commands.Command as written
use Rattle.text_tree.specs.declared.commands.Command.TheVariants as w
use Rattle.text_tree.specs.Stripped.{stripped_command, stripped_field, stripped_right}
use Rattle.type_schema.specs.declared.types.TTy.{TTy}
use Rattle.type_schema.specs.Trees.{Name, Policy, Init}
use Rattle.type_schema.specs.Schema.{StaticInfo, FieldInfo, ModelInfo, Schema, field_in, is_principal_model, model_of, static_of}
use Rattle.type_schema.specs.Typing.{IsField, IsModel}
use Rattle.type_schema.specs.Commands.{Command, create_model, delete_model, add_static, remove_static, add_principal, add_field, remove_field, update_field, weaken_field, update_model, weaken_model, change_model, given_or, schema_after, with_field, with_field_policies, with_model_policies, without_field}
use Rattle.type_schema.specs.Proper.{AreProperFields, IsProper}
use Rattle.type_typing.specs.declared.type_err.TypeErr.TheVariants.{Twice}
use Rattle.type_typing.specs.Names.{field_named, model_named, static_named}
use Rattle.type_specs.specs.declared.stage.Stage.TheVariants.{Types, Policies}
use Rattle.type_specs.specs.Models.{created_model, policy_over, typed_field, typed_model, with_model, with_names, with_typed}
use Rattle.type_specs.specs.NewNames.{new_static}
use Rattle.type_specs.specs.Specs.{next_static}
use Rattle.type_commands.specs.declared.thing.Thing.TheVariants as the
use Rattle.type_commands.specs.Resolved.{added_field, added_static, created, field_seen, given, init_over, known_field, known_model, known_static, new_field_in, new_principal, reason_given, removed_field, removed_model, removed_static, resolved, unused, updated_field, updated_model, weakened_field, weakened_model, with_new_field}
use Rattle.type_proper.proofs.Lists.{all-both, all-weaken, distinct-back, distinct-front}
use Rattle.type_proper.proofs.Lookups.{find-changed, find-more, find-other}
use Rattle.type_proper.proofs.NewField.{field-parts}
use Rattle.type_proper.proofs.NewModel.{model-parts}
use Rattle.type_proper.proofs.Resolves.{bound, ok-same, or_else-some}
use Rattle.type_anew.specs.Names.{Names, named, names_in}
use Rattle.type_anew.specs.Trees.{written_policy}
use Rattle.type_anew.specs.Specs.{written_field, written_model, written_spec}
use Rattle.type_anew.specs.Changed as tree
use Rattle.type_anew.specs.Changed.{spec_after}
use Rattle.type_anew.specs.RoundTrip.{CommandsComeBack}
use Rattle.type_anew.proofs.Agree.{Agree, field-agrees, model-agrees, models-agree}
use Rattle.type_anew.proofs.Agreed.{changed, changed-agrees, kept-agrees}
use Rattle.type_anew.proofs.Lookups.{found-of, names-are-right}
use Rattle.type_anew.proofs.TypedSpecs.{SameFields, SameModels, field_back, model_back, models-same, over_back, right-too}
use Rattle.type_anew.proofs.Tests.{all-changed, changed-mapped, filter-mapped, gone, itself, same-test}
use Rattle.type_anew.proofs.Trees.{AreRight}

-- what comes back of a command
abbrev Back : Schema → Command → written.Command → Type 0
Back s command c = IsProper (schema_after s command) → written_spec (schema_after s command) ≡ spec_after (written_spec s) (stripped_command c)

names-of-statics : Schema → List Name
names-of-statics s = map (λ (n : StaticInfo). n.name) s.statics

-- ---- the same numbers and names

same-fields : (fs : List FieldInfo) → SameFields fs fs
same-fields [] = tt
same-fields (f ∷ fs) = (refl, refl, same-fields fs)

fields-more : (fs : List FieldInfo) (f g : FieldInfo) → f.number ≡ g.number → f.name ≡ g.name → SameFields (fs ++ f ∷ []) (fs ++ g ∷ [])
fields-more [] f g number name = (number, name, tt)
fields-more (h ∷ fs) f g number name = (refl, refl, fields-more fs f g number name)

models-more : (is : List ModelInfo) (i j : ModelInfo) → SameModels (i ∷ []) (j ∷ []) → SameModels (is ++ i ∷ []) (is ++ j ∷ [])
models-more [] i j same = same
models-more (h ∷ is) i j same = (refl, refl, same-fields h.fields, models-more is i j same)

module _ (m : ℕ) (one other : ModelInfo → ModelInfo) (same : (i : ModelInfo) → ((one i).number ≡ (other i).number) × ((one i).name ≡ (other i).name) × SameFields (one i).fields (other i).fields) where
  models-changed : (is : List ModelInfo) → SameModels (change_model m one is) (change_model m other is)
  models-changed [] = tt
  models-changed (i ∷ is) = at (models-changed is) (i.number == m)
    where
      at : SameModels (change_model m one is) (change_model m other is) → (b : Bool) → SameModels ((if b then one i else i) ∷ change_model m one is) ((if b then other i else i) ∷ change_model m other is)
      at rest true = ((same i).0, (same i).1, (same i).2, rest)
      at rest false = (refl, refl, same-fields i.fields, rest)

unchanged : (m : ℕ) (is : List ModelInfo) → change_model m (λ i. i) is ≡ is
unchanged m [] = refl
unchanged m (i ∷ is) = ap (λ z. z ∷ change_model m (λ j. j) is) (at (i.number == m)) ∙ ap (λ zs. i ∷ zs) (unchanged m is)
  where
    at : (b : Bool) → (if b then i else i) ≡ i
    at true = refl
    at false = refl

-- fields of which one is set keep their numbers and names
fields-same-set : (k : ℕ) (set : FieldInfo → FieldInfo) → ((g : FieldInfo) → (g.number ≡ (set g).number) × (g.name ≡ (set g).name)) → (fs : List FieldInfo)
    → SameFields fs (map (λ (g : FieldInfo). if g.number == k then set g else g) fs)
fields-same-set k set same [] = tt
fields-same-set k set same (f ∷ fs) = at (fields-same-set k set same fs) (f.number == k)
  where
    at : SameFields fs (map (λ (g : FieldInfo). if g.number == k then set g else g) fs) → (b : Bool) → SameFields (f ∷ fs) ((if b then set f else f) ∷ map (λ (g : FieldInfo). if g.number == k then set g else g) fs)
    at rest true = ((same f).0, (same f).1, rest)
    at rest false = (refl, refl, rest)

-- a field is there with its name where the fields are the same
same-found : (fs gs : List FieldInfo) → SameFields fs gs → (f : ℕ) (g : FieldInfo) → field_in fs f ≡ Some g → (h : FieldInfo) × (field_in gs f ≡ Some h) × (h.name ≡ g.name)
same-found [] gs same f g e = absurd (cc e)
same-found (a ∷ fs) [] same f g e = absurd same
same-found (a ∷ fs) (c ∷ gs) same f g e = at (λ e. same-found fs gs same.2 f g e) (a.number == f) refl e
  where
    at : (field_in fs f ≡ Some g → (h : FieldInfo) × (field_in gs f ≡ Some h) × (h.name ≡ g.name)) → (b : Bool) → (a.number == f) ≡ b → cond b (Some a) (field_in fs f) ≡ Some g → (h : FieldInfo) × (cond (c.number == f) (Some c) (field_in gs f) ≡ Some h) × (h.name ≡ g.name)
    at rest true is e =
        let here : a ≡ g = cc e in
        (c, ap (λ b. cond b (Some c) (field_in gs f)) (ap (λ n. n == f) (sym same.0) ∙ is), sym same.1 ∙ ap (λ (z : FieldInfo). z.name) here)
    at rest false is e =
        let later = rest e in
        (later.0, ap (λ b. cond b (Some c) (field_in gs f)) (ap (λ n. n == f) (sym same.0) ∙ is) ∙ later.1, later.2)

fields-set : (k : ℕ) (set : FieldInfo → FieldInfo) → ((g : FieldInfo) → (g.number ≡ (set g).number) × (g.name ≡ (set g).name)) → (fs : List FieldInfo) (f : ℕ) (g : FieldInfo) → field_in fs f ≡ Some g
    → (h : FieldInfo) × (field_in (map (λ (g : FieldInfo). if g.number == k then set g else g) fs) f ≡ Some h) × (h.name ≡ g.name)
fields-set k set same fs f g e = same-found fs _ (fields-same-set k set same fs) f g e

-- what an option is read as, seen through a function
unmapped : {A B : Type 0} (f : A → B) (o : Option A) (b : B) → option_map f o ≡ Some b → (a : A) × (o ≡ Some a) × (f a ≡ b)
unmapped f None b e = absurd (cc e)
unmapped f (Some a) b e = (a, refl, cc e)

-- ---- tests by number and by name

module _ (s : Schema) (proper : IsProper s) where
  models-test : (x : Named) (m : ℕ) → known_model s x ≡ Ok m → AllByRecursion (λ (i : ModelInfo). (i.number == m) ≡ bytes_eq i.name x.name) s.models
  unfolding known_model model_named
  models-test x m e =
      same-test (λ (i : ModelInfo). i.number) (λ (i : ModelInfo). i.name) s.models x.name m proper.models.distinct
      (distinct-back bytes_eq (map (λ (n : StaticInfo). n.name) s.statics) (map (λ (i : ModelInfo). i.name) s.models) proper.names) _ refl (or_else-some _ _ m e)

  statics-test : (x : Named) (k : ℕ) → known_static s x ≡ Ok k → AllByRecursion (λ (i : StaticInfo). (i.number == k) ≡ bytes_eq i.name x.name) s.statics
  unfolding known_static static_named
  statics-test x k e =
      same-test (λ (i : StaticInfo). i.number) (λ (i : StaticInfo). i.name) s.statics x.name k proper.statics.distinct
      (distinct-front bytes_eq (map (λ (n : StaticInfo). n.name) s.statics) (map (λ (i : ModelInfo). i.name) s.models) proper.names) _ refl (or_else-some _ _ k e)

  fields-test : (m : ℕ) (i : ModelInfo) → model_of s m ≡ Some i → (x : Named) (k : ℕ) → known_field s m x ≡ Ok k → AllByRecursion (λ (g : FieldInfo). (g.number == k) ≡ bytes_eq g.name x.name) i.fields
  unfolding known_field field_named
  fields-test m i there x k e =
      let are = found-of (AreProperFields s.next_field) (λ (j : ModelInfo). j.number == m) s.models i proper.fields there in
      let found : Option FieldInfo = find (λ (f : FieldInfo). bytes_eq f.name x.name) i.fields in
      let within : Option ModelInfo → Option ℕ = λ o.
      option_map (λ (f : ℕ × TTy). f.0) (option_and_then (λ (info : ModelInfo). option_map (λ (f : FieldInfo). (f.number, f.ty)) (find (λ (f : FieldInfo). bytes_eq f.name x.name) info.fields)) o) in
      let is : within (Some i) ≡ Some k = sym (ap within there) ∙ or_else-some _ _ k e in
      same-test (λ (g : FieldInfo). g.number) (λ (g : FieldInfo). g.name) i.fields x.name k are.numbers.distinct are.names found refl (out found ∙ is)
    where
      out : (o : Option FieldInfo) → option_map (λ (f : FieldInfo). f.number) o ≡ option_map (λ (f : ℕ × TTy). f.0) (option_map (λ (f : FieldInfo). (f.number, f.ty)) o)
      out None = refl
      out (Some f) = refl

  -- what holds of each model that is found by its number
  at-each : (P : ModelInfo → Type 0) (m : ℕ) → ((i : ModelInfo) → model_of s m ≡ Some i → P i) → AllByRecursion (λ (i : ModelInfo). (i.number == m) ≡ true → P i) s.models
  at-each P m f =
      all-weaken (λ (i : ModelInfo). (i.number == m) ≡ true → find (λ (j : ModelInfo). j.number == m) s.models ≡ Some i) (λ (i : ModelInfo). (i.number == m) ≡ true → P i) (λ i h e. f i (h e)) s.models
      (itself (λ (i : ModelInfo). i.number) m s.models proper.models.distinct)

  -- ---- statics

  added_static-back : (x : Named) (at : ℕ) → Back s (add_static (next_static s x)) (w.AddStatic x at)
  added_static-back x at after-proper =
      let after : Schema = schema_after s (add_static (next_static s x)) in
      let agree : Agree s (names_in after) (names_in s) =
      kept-agrees s after (λ m i is. (i, is, refl, λ f g e. (g, e, refl))) (λ k a is. find-more (λ (i : StaticInfo). i.number == k) s.statics (next_static s x ∷ []) a is) in
      ap (λ z. record { statics = z; models = map (written_model (names_in after)) s.models }) (map-append (λ (n : StaticInfo). named n.name) s.statics (next_static s x ∷ []))
      ∙ ap (λ z. record { statics = map (λ (n : StaticInfo). named n.name) s.statics ++ named x.name ∷ []; models = z }) (models-agree s (names_in after) (names_in s) agree s.models proper.typed)

  removed_static-back : (x : Named) (at k : ℕ) → known_static s x ≡ Ok k → Back s (remove_static k) (w.RemoveStatic x at)
  removed_static-back x at k e after-proper =
      let after : Schema = schema_after s (remove_static k) in
      let stays : (j : ℕ) (a : StaticInfo) (b : Bool) → (k == j) ≡ b → static_of after j ≡ Some a → static_of s j ≡ Some a =
      λ j a b. elim b as (λ b. (k == j) ≡ b → static_of after j ≡ Some a → static_of s j ≡ Some a) [
        | true ↦ λ same is.
            let there : k ≡ j = eqb-true k j same in
            let none : static_of after j ≡ None = subst (λ l. static_of after l ≡ None) there (gone (λ (i : StaticInfo). i.number) k s.statics) in
            absurd (cc (none, is))
        | false ↦ λ other is. sym (find-other (λ (i : StaticInfo). i.number) k j other s.statics) ∙ is
      ] in
      let agree : Agree after (names_in s) (names_in after) = kept-agrees after s (λ m i is. (i, is, refl, λ f g e. (g, e, refl))) (λ j a is. stays j a (k == j) refl is) in
      ap (λ z. record { statics = z; models = map (written_model (names_in after)) s.models })
      (filter-mapped (λ (n : StaticInfo). named n.name) (λ (n : StaticInfo). n.number == k) (λ (y : Named). bytes_eq y.name x.name) s.statics (statics-test x k e))
      ∙ ap (λ z. record { statics = filter (λ (y : Named). not (bytes_eq y.name x.name)) (map (λ (n : StaticInfo). named n.name) s.statics); models = z })
      (sym (models-agree after (names_in s) (names_in after) agree s.models after-proper.typed))

  -- ---- models

  removed_model-back : (x : Named) (at m : ℕ) → known_model s x ≡ Ok m → Back s (delete_model m) (w.DeleteModel x at)
  removed_model-back x at m e after-proper =
      let after : Schema = schema_after s (delete_model m) in
      let stays : (j : ℕ) (a : ModelInfo) (b : Bool) → (m == j) ≡ b → model_of after j ≡ Some a → model_of s j ≡ Some a =
      λ j a b. elim b as (λ b. (m == j) ≡ b → model_of after j ≡ Some a → model_of s j ≡ Some a) [
        | true ↦ λ same is.
            let there : m ≡ j = eqb-true m j same in
            let none : model_of after j ≡ None = subst (λ l. model_of after l ≡ None) there (gone (λ (i : ModelInfo). i.number) m s.models) in
            absurd (cc (none, is))
        | false ↦ λ other is. sym (find-other (λ (i : ModelInfo). i.number) m j other s.models) ∙ is
      ] in
      let agree : Agree after (names_in s) (names_in after) = kept-agrees after s (λ j i is. (i, stays j i (m == j) refl is, refl, λ f g e. (g, e, refl))) (λ j a is. is) in
      ap (λ z. record { statics = map (λ (n : StaticInfo). named n.name) s.statics; models = z })
      (sym (models-agree after (names_in s) (names_in after) agree after.models after-proper.typed)
      ∙ filter-mapped (written_model (names_in s)) (λ (i : ModelInfo). i.number == m) (λ (d : ModelDef). bytes_eq d.name.name x.name) s.models (models-test x m e))

  created-back : (d : ModelDef) (at : ℕ) (info : ModelInfo) → created_model s d ≡ Ok info → Back s (create_model info) (w.CreateModel d at)
  unfolding created_model with_typed
  created-back d at info e after-proper =
      let (names, n1, e1) = bound (with_names s d) _ info e in
      let (known, k1, e2) = bound (with_typed Types names s d) _ info e1 in
      let (bare, b1, e3) = bound (typed_model Types names s d) (λ (i : ModelInfo). Ok (with_model s i)) known k1 in
      let there : with_model s bare ≡ known = ok-same (with_model s bare) known e3 in
      let after : Schema = schema_after s (create_model info) in
      let n : Names = names_in after in
      let pair : SameModels (bare ∷ []) (info ∷ []) =
      models-same names known s.next_model s.next_field (d ∷ []) (bare ∷ []) (info ∷ []) (model-parts Types names s d bare b1, tt) (model-parts Policies known s d info e2, tt) in
      let right-bare : AreRight (with_model s bare) n = right-too after (with_model s bare) n (models-more s.models bare info pair) refl (names-are-right after after-proper) in
      let right : AreRight known n = subst (λ (t : Schema). AreRight t n) there right-bare in
      let agree : Agree s n (names_in s) = kept-agrees s after (λ m i is. (i, find-more (λ (j : ModelInfo). j.number == m) s.models (info ∷ []) i is, refl, λ f g e. (g, e, refl))) (λ k a is. is) in
      ap (λ z. record { statics = map (λ (k : StaticInfo). named k.name) s.statics; models = z })
      (map-append (written_model n) s.models (info ∷ [])
      ∙ ap (λ zs. zs ++ written_model n info ∷ []) (models-agree s n (names_in s) agree s.models proper.typed)
      ∙ ap (λ z. map (written_model (names_in s)) s.models ++ z ∷ []) (model_back known n right s.next_model s.next_field d info (model-parts Policies known s d info e2)))

  -- ---- one model changed

  -- by what is shown of the one, and of the others
  change-back : (after : Schema) (x : Named) (m : ℕ) → known_model s x ≡ Ok m → (change : ModelInfo → ModelInfo) (h : ModelDef → ModelDef) → after.models ≡ change_model m change s.models → after.statics ≡ s.statics
      → AllByRecursion (λ (i : ModelInfo). ((i.number == m) ≡ true → written_model (names_in after) (change i) ≡ h (written_model (names_in s) i)) × ((i.number == m) ≡ false → written_model (names_in after) i ≡ written_model (names_in s) i)) s.models
      → written_spec after ≡ record { statics = map (λ (n : StaticInfo). named n.name) s.statics; models = tree.change_def x.name h (map (written_model (names_in s)) s.models) }
  change-back after x m e change h models statics each =
      ap (λ z. record { statics = map (λ (n : StaticInfo). named n.name) z; models = map (written_model (names_in after)) after.models }) statics
      ∙ ap (λ z. record { statics = map (λ (n : StaticInfo). named n.name) s.statics; models = map (written_model (names_in after)) z }) models
      ∙ ap (λ z. record { statics = map (λ (n : StaticInfo). named n.name) s.statics; models = z })
      (changed-mapped (written_model (names_in s)) (written_model (names_in after)) change h (λ (i : ModelInfo). i.number == m) (λ (d : ModelDef). bytes_eq d.name.name x.name) s.models (models-test x m e) each)

  new_principal-back : (x : Named) (at m : ℕ) → known_model s x ≡ Ok m → Back s (add_principal m) (w.AddPrincipal x at)
  new_principal-back x at m e after-proper =
      let after : Schema = schema_after s (add_principal m) in
      let mark : ModelInfo → ModelInfo = λ i. record i { principal = true } in
      let agree : Agree s (names_in after) (names_in s) = changed-agrees s after m mark refl refl (λ i. (refl, refl, λ f g e. (g, e, refl))) in
      change-back after x m e mark tree.marked refl refl
      (all-weaken (IsModel s) _ (λ i typed. let same = model-agrees s (names_in after) (names_in s) agree i typed in (λ e. ap tree.marked same, λ e. same)) s.models proper.typed)

  -- ---- policies that are given

  given-right : (m : ℕ) (p : Option tree_policy.Policy) (q : Option Policy) (n : Names) → AreRight s n → given s m p ≡ Ok q → (before : Policy) → written_policy n (given_or q before) ≡ tree.given_or (stripped_right p) (written_policy n before)
  unfolding given
  given-right m None q n right e before = sym (ap (λ (o : Option Policy). written_policy n (given_or o before)) (ok-same None q e))
  given-right m (Some p) q n right e before =
      let k = bound (policy_over s m p) (λ (policy : Policy). Ok (Some policy)) q e in
      sym (ap (λ (o : Option Policy). written_policy n (given_or o before)) (ok-same (Some k.0) q k.2)) ∙ over_back s n right m p k.0 k.1

  model-rights-back : (after : Schema) → IsProper after → (x : Named) (m : ℕ) → known_model s x ≡ Ok m → (c d : Option tree_policy.Policy) (q r : Option Policy) → given s m c ≡ Ok q → given s m d ≡ Ok r
      → after.models ≡ change_model m (with_model_policies q r) s.models → after.statics ≡ s.statics
      → written_spec after ≡ record { statics = map (λ (n : StaticInfo). named n.name) s.statics; models = tree.change_def x.name (tree.with_model_rights (stripped_right c) (stripped_right d)) (map (written_model (names_in s)) s.models) }
  model-rights-back after after-proper x m e c d q r one other models statics =
      let change : ModelInfo → ModelInfo = with_model_policies q r in
      let h : ModelDef → ModelDef = tree.with_model_rights (stripped_right c) (stripped_right d) in
      let n : Names = names_in after in
      let agree : Agree s n (names_in s) = changed-agrees s after m change models statics (λ i. (refl, refl, λ f g e. (g, e, refl))) in
      let pairs : SameModels s.models after.models =
      subst (λ (ms : List ModelInfo). SameModels s.models ms) (sym models) (subst (λ (ms : List ModelInfo). SameModels ms (change_model m change s.models)) (unchanged m s.models) (models-changed m (λ i. i) change (λ i. (refl, refl, same-fields i.fields)) s.models)) in
      let right : AreRight s n = right-too after s n pairs (sym statics) (names-are-right after after-proper) in
      change-back after x m e change h models statics
      (all-weaken (IsModel s) _ (λ i typed.
      let same = model-agrees s n (names_in s) agree i typed in (
        λ e.
            ap (λ z. record { principal = i.principal; name = named i.name; create = z; delete = written_policy n (given_or r i.delete); fields = map (written_field n) i.fields; at = 0 }) (given-right m c q n right one i.create)
            ∙ ap (λ z. record { principal = i.principal; name = named i.name; create = tree.given_or (stripped_right c) (written_policy n i.create); delete = z; fields = map (written_field n) i.fields; at = 0 }) (given-right m d r n right other i.delete)
            ∙ ap h same,
        λ e. same,
      )) s.models proper.typed)

  field-rights-back : (after : Schema) → IsProper after → (x : Named) (m : ℕ) → known_model s x ≡ Ok m → (f : Named) (k : ℕ) → known_field s m f ≡ Ok k → (c d : Option tree_policy.Policy) (q r : Option Policy)
      → given s m c ≡ Ok q → given s m d ≡ Ok r → after.models ≡ change_model m (with_field_policies k q r) s.models → after.statics ≡ s.statics
      → written_spec after ≡ record { statics = map (λ (n : StaticInfo). named n.name) s.statics; models = tree.change_def x.name (tree.with_field_rights f.name (stripped_right c) (stripped_right d)) (map (written_model (names_in s)) s.models) }
  field-rights-back after after-proper x m e f k e1 c d q r one other models statics =
      let set : FieldInfo → FieldInfo = λ g. record g { read = given_or q g.read; write = given_or r g.write } in
      let change : ModelInfo → ModelInfo = with_field_policies k q r in
      let h : ModelDef → ModelDef = tree.with_field_rights f.name (stripped_right c) (stripped_right d) in
      let hf : FieldDef → FieldDef = λ g. record g { read = tree.given_or (stripped_right c) g.read; write = tree.given_or (stripped_right d) g.write } in
      let n : Names = names_in after in
      let agree : Agree s n (names_in s) = changed-agrees s after m change models statics (λ i. (refl, refl, fields-set k set (λ g. (refl, refl)) i.fields)) in
      let pairs : SameModels s.models after.models =
      subst (λ (ms : List ModelInfo). SameModels s.models ms) (sym models) (subst (λ (ms : List ModelInfo). SameModels ms (change_model m change s.models)) (unchanged m s.models) (models-changed m (λ i. i) change (λ i. (refl, refl, fields-same-set k set (λ g. (refl, refl)) i.fields)) s.models)) in
      let right : AreRight s n = right-too after s n pairs (sym statics) (names-are-right after after-proper) in
      let written-field : (i : ModelInfo) (g : FieldInfo) → IsField s i.number g → written_field n (set g) ≡ hf (written_field (names_in s) g) =
      λ i g typed.
      ap (λ z. record (written_field n g) { read = z; write = written_policy n (given_or r g.write) }) (given-right m c q n right one g.read)
      ∙ ap (λ z. record (written_field n g) { read = tree.given_or (stripped_right c) (written_policy n g.read); write = z }) (given-right m d r n right other g.write)
      ∙ ap hf (field-agrees s n (names_in s) agree i.number g typed) in
      let fields : (i : ModelInfo) → model_of s m ≡ Some i → IsModel s i → map (written_field n) (change i).fields ≡ tree.change_field_def f.name hf (map (written_field (names_in s)) i.fields) =
      λ i there typed.
      changed-mapped (written_field (names_in s)) (written_field n) set hf (λ (g : FieldInfo). g.number == k) (λ (g : FieldDef). bytes_eq g.name.name f.name) i.fields (fields-test m i there f k e1)
      (all-weaken (IsField s i.number) _ (λ g is. (λ e. written-field i g is, λ e. field-agrees s n (names_in s) agree i.number g is)) i.fields typed.fields) in
      change-back after x m e change h models statics
      (all-both (IsModel s) (λ (i : ModelInfo). (i.number == m) ≡ true → model_of s m ≡ Some i) _
      (λ i typed there. (
        λ e.
            let with-fields : ModelDef → ModelDef = λ d. record d { fields = tree.change_field_def f.name hf (map (written_field (names_in s)) i.fields) } in
            ap (λ z. record (written_model n i) { fields = z }) (fields i (there e) typed) ∙ ap with-fields (model-agrees s n (names_in s) agree i typed),
        λ e. model-agrees s n (names_in s) agree i typed,
      )) s.models proper.typed (at-each (λ i. model_of s m ≡ Some i) m (λ i is. is)))

  -- ---- a field that goes, and one that comes

  removed_field-back : (x f : Named) (at m k : ℕ) → known_model s x ≡ Ok m → known_field s m f ≡ Ok k → Back s (remove_field m k) (w.RemoveField x f at)
  removed_field-back x f at m k e e1 after-proper =
      let after : Schema = schema_after s (remove_field m k) in
      let change : ModelInfo → ModelInfo = without_field k in
      let n : Names = names_in after in
      let stays : (fs : List FieldInfo) (j : ℕ) (g : FieldInfo) (b : Bool) → (k == j) ≡ b → field_in (filter (λ (g : FieldInfo). not (g.number == k)) fs) j ≡ Some g → field_in fs j ≡ Some g =
      λ fs j g b. elim b as (λ b. (k == j) ≡ b → field_in (filter (λ (g : FieldInfo). not (g.number == k)) fs) j ≡ Some g → field_in fs j ≡ Some g) [
        | true ↦ λ same is.
            let there : k ≡ j = eqb-true k j same in
            let none : field_in (filter (λ (g : FieldInfo). not (g.number == k)) fs) j ≡ None = subst (λ l. field_in (filter (λ (g : FieldInfo). not (g.number == k)) fs) l ≡ None) there (gone (λ (i : FieldInfo). i.number) k fs) in
            absurd (cc (none, is))
        | false ↦ λ other is. sym (find-other (λ (i : FieldInfo). i.number) k j other fs) ∙ is
      ] in
      let back-at : (i : ModelInfo) (b : Bool) (j : ℕ) (g : FieldInfo) → field_in (if b then change i else i).fields j ≡ Some g → field_in i.fields j ≡ Some g =
      λ i b. elim b as (λ b. (j : ℕ) (g : FieldInfo) → field_in (if b then change i else i).fields j ≡ Some g → field_in i.fields j ≡ Some g) [ true ↦ λ j g is. stays i.fields j g (k == j) refl is | false ↦ λ j g is. is ] in
      let same-at : (i : ModelInfo) (b : Bool) → ((if b then change i else i).number ≡ i.number) × ((if b then change i else i).name ≡ i.name) =
      λ i b. elim b as (λ b. ((if b then change i else i).number ≡ i.number) × ((if b then change i else i).name ≡ i.name)) [ true ↦ (refl, refl) | false ↦ (refl, refl) ] in
      let before : (j : ℕ) (a : ModelInfo) → model_of after j ≡ Some a → (i : ModelInfo) × (model_of s j ≡ Some i) × (i.name ≡ a.name) × ((l : ℕ) (g : FieldInfo) → field_in a.fields l ≡ Some g → (h : FieldInfo) × (field_in i.fields l ≡ Some h) × (h.name ≡ g.name)) =
      λ j a is.
      let found = unmapped (changed m change) (model_of s j) a (sym (find-changed (λ (i : ModelInfo). i.number) (changed m change) (λ i. (same-at i (i.number == m)).0) j s.models) ∙ is) in
      (found.0, found.1, sym (same-at found.0 (found.0.number == m)).1 ∙ ap (λ (i : ModelInfo). i.name) found.2, λ l g there. (g, back-at found.0 (found.0.number == m) l g (ap (λ (i : ModelInfo). field_in i.fields l) found.2 ∙ there), refl)) in
      let agree : Agree after (names_in s) n = kept-agrees after s before (λ j a is. is) in
      change-back after x m e change (tree.without_def f.name) refl refl
      (all-both (λ (i : ModelInfo). ((i.number == m) ≡ true → IsModel after (change i)) × ((i.number == m) ≡ false → IsModel after i)) (λ (i : ModelInfo). (i.number == m) ≡ true → model_of s m ≡ Some i) _
      (λ i typed there. (
        λ e.
            sym (model-agrees after (names_in s) n agree (change i) (typed.0 e))
            ∙ ap (λ z. record (written_model (names_in s) i) { fields = z })
            (filter-mapped (written_field (names_in s)) (λ (g : FieldInfo). g.number == k) (λ (g : FieldDef). bytes_eq g.name.name f.name) i.fields (fields-test m i (there e) f k e1)),
        λ e. sym (model-agrees after (names_in s) n agree i (typed.1 e)),
      )) s.models (all-changed (IsModel after) change (λ (i : ModelInfo). i.number == m) s.models after-proper.typed) (at-each (λ i. model_of s m ≡ Some i) m (λ i is. is)))

  added_field-back : (x : Named) (d : FieldDef) (v : Named) (init : tree_init.Init) (at m : ℕ) (field : FieldInfo) (first : Init) → known_model s x ≡ Ok m → field_seen s m d ≡ Ok field → Back s (add_field m field first) (w.AddField x d v init at)
  unfolding field_seen
  added_field-back x d v init at m field first e seen after-proper =
      let after : Schema = schema_after s (add_field m field first) in
      let n : Names = names_in after in
      let (closed, goes, e1) = bound (typed_field Types s m s.next_field d) _ field seen in
      let known : Schema = with_new_field s m closed in
      let a = field-parts Types s m s.next_field d closed goes in
      let z = field-parts Policies known m s.next_field d field e1 in
      let number : closed.number ≡ field.number = sym (ap (λ (i : FieldInfo). i.number) a.6) ∙ ap (λ (i : FieldInfo). i.number) z.6 in
      let name : closed.name ≡ field.name = sym (ap (λ (i : FieldInfo). i.name) a.6) ∙ ap (λ (i : FieldInfo). i.name) z.6 in
      let pairs : SameModels known.models after.models = models-changed m (with_field closed) (with_field field) (λ i. (refl, refl, fields-more i.fields closed field number name)) s.models in
      let right : AreRight known n = right-too after known n pairs refl (names-are-right after after-proper) in
      let agree : Agree s n (names_in s) =
      changed-agrees s after m (with_field field) refl refl (λ i. (refl, refl, λ l g there. (g, find-more (λ (h : FieldInfo). h.number == l) i.fields (field ∷ []) g there, refl))) in
      change-back after x m e (with_field field) (tree.with_def (stripped_field d)) refl refl
      (all-weaken (IsModel s) _ (λ i typed.
      let same = model-agrees s n (names_in s) agree i typed in (
        λ e.
            ap (λ z. record (written_model n i) { fields = z }) (map-append (written_field n) i.fields (field ∷ []))
            ∙ ap (λ z. tree.with_def z (written_model n i)) (field_back known n right m s.next_field d field e1)
            ∙ ap (tree.with_def (stripped_field d)) same,
        λ e. same,
      )) s.models proper.typed)

-- ---- all commands

marked-is : (s : Schema) (x : Named) (m : ℕ) (command : Command) → (if is_principal_model s m then Err (Twice x.at) else Ok (add_principal m)) ≡ Ok command → add_principal m ≡ command
marked-is s x m command = at (is_principal_model s m)
  where
    at : (b : Bool) → (if b then Err (Twice x.at) else Ok (add_principal m)) ≡ Ok command → add_principal m ≡ command
    at true e = absurd (cc e)
    at false e = ok-same (add_principal m) command e

back-of : (s : Schema) (c : written.Command) (made command : Command) → made ≡ command → Back s made c → Back s command c
back-of s c made command same back = subst (λ (z : Command). Back s z c) same back

pub commands_come_back : CommandsComeBack
unfolding resolved created added_static removed_static new_principal removed_model removed_field added_field updated_field weakened_field updated_model weakened_model
commands_come_back s (w.CreateModel d at) command proper after e =
    let (info, is, e1) = bound (created_model s d) (λ (i : ModelInfo). Ok (create_model i)) command e in
    back-of s (w.CreateModel d at) (create_model info) command (ok-same _ command e1) (created-back s proper d at info is) after
commands_come_back s (w.DeleteModel x at) command proper after e =
    let (m, is, e1) = bound (known_model s x) _ command e in
    let (u, free, e2) = bound (unused s (the.Model m) x) (λ _. Ok (delete_model m)) command e1 in
    back-of s (w.DeleteModel x at) (delete_model m) command (ok-same _ command e2) (removed_model-back s proper x at m is) after
commands_come_back s (w.AddStatic x at) command proper after e =
    let (u, new, e1) = bound (new_static s x) (λ _. Ok (add_static (next_static s x))) command e in
    back-of s (w.AddStatic x at) (add_static (next_static s x)) command (ok-same _ command e1) (added_static-back s proper x at) after
commands_come_back s (w.RemoveStatic x at) command proper after e =
    let (k, is, e1) = bound (known_static s x) _ command e in
    let (u, free, e2) = bound (unused s (the.Static k) x) (λ _. Ok (remove_static k)) command e1 in
    back-of s (w.RemoveStatic x at) (remove_static k) command (ok-same _ command e2) (removed_static-back s proper x at k is) after
commands_come_back s (w.AddPrincipal x at) command proper after e =
    let (m, is, e1) = bound (known_model s x) _ command e in
    back-of s (w.AddPrincipal x at) (add_principal m) command (marked-is s x m command e1) (new_principal-back s proper x at m is) after
commands_come_back s (w.AddField x d v init at) command proper after e =
    let (m, is, e1) = bound (known_model s x) _ command e in
    let (u, new, e2) = bound (new_field_in s m d.name) _ command e1 in
    let (field, seen, e3) = bound (field_seen s m d) _ command e2 in
    let (first, over, e4) = bound (init_over s m field.ty v init) (λ (i : Init). Ok (add_field m field i)) command e3 in
    back-of s (w.AddField x d v init at) (add_field m field first) command (ok-same _ command e4) (added_field-back s proper x d v init at m field first is seen) after
commands_come_back s (w.RemoveField x f at) command proper after e =
    let (m, is, e1) = bound (known_model s x) _ command e in
    let (k, there, e2) = bound (known_field s m f) _ command e1 in
    let (u, free, e3) = bound (unused s (the.Field m k) f) (λ _. Ok (remove_field m k)) command e2 in
    back-of s (w.RemoveField x f at) (remove_field m k) command (ok-same _ command e3) (removed_field-back s proper x f at m k is there) after
commands_come_back s (w.UpdateFieldPolicy x f read write at) command proper after e =
    let (m, is, e1) = bound (known_model s x) _ command e in
    let (k, there, e2) = bound (known_field s m f) _ command e1 in
    let (q, one, e3) = bound (given s m read) _ command e2 in
    let (r, other, e4) = bound (given s m write) (λ (r : Option Policy). Ok (update_field m k q r)) command e3 in
    back-of s (w.UpdateFieldPolicy x f read write at) (update_field m k q r) command (ok-same _ command e4) (λ after. field-rights-back s proper _ after x m is f k there read write q r one other refl refl) after
commands_come_back s (w.WeakenFieldPolicy x f read write reason at) command proper after e =
    let (m, is, e1) = bound (known_model s x) _ command e in
    let (k, there, e2) = bound (known_field s m f) _ command e1 in
    let (q, one, e3) = bound (given s m read) _ command e2 in
    let (r, other, e4) = bound (given s m write) _ command e3 in
    let (text, why, e5) = bound (reason_given reason) (λ (text : List ℕ). Ok (weaken_field m k q r text)) command e4 in
    back-of s (w.WeakenFieldPolicy x f read write reason at) (weaken_field m k q r text) command (ok-same _ command e5) (λ after. field-rights-back s proper _ after x m is f k there read write q r one other refl refl) after
commands_come_back s (w.UpdatePolicy x create delete at) command proper after e =
    let (m, is, e1) = bound (known_model s x) _ command e in
    let (q, one, e2) = bound (given s m create) _ command e1 in
    let (r, other, e3) = bound (given s m delete) (λ (r : Option Policy). Ok (update_model m q r)) command e2 in
    back-of s (w.UpdatePolicy x create delete at) (update_model m q r) command (ok-same _ command e3) (λ after. model-rights-back s proper _ after x m is create delete q r one other refl refl) after
commands_come_back s (w.WeakenPolicy x create delete reason at) command proper after e =
    let (m, is, e1) = bound (known_model s x) _ command e in
    let (q, one, e2) = bound (given s m create) _ command e1 in
    let (r, other, e3) = bound (given s m delete) _ command e2 in
    let (text, why, e4) = bound (reason_given reason) (λ (text : List ℕ). Ok (weaken_model m q r text)) command e3 in
    back-of s (w.WeakenPolicy x create delete reason at) (weaken_model m q r text) command (ok-same _ command e4) (λ after. model-rights-back s proper _ after x m is create delete q r one other refl refl) after
