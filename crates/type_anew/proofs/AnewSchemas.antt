-- Typing the tree of a schema gives the schema numbered anew.
use Rattle.std.proofs.Common.{◌≡◌, ℕ, ◌+◌, List, [], ◌∷◌, ◌++◌, length, map, refl, sym, ap, ◌∙◌, subst, arith}
use Rattle.std.specs.Prelude.{Option, Some, None, Ok, IsTrue, is_some, nat_eq, option_and_then}
use Rattle.std.specs.List.{AllByRecursion, IsDistinct}
use Rattle.std.specs.Option.{option_map, option_map_or}
use Rattle.text_tree.specs.declared.models.Spec.{Spec}
use Rattle.type_schema.specs.declared.types.TBase.TheVariants as base
use Rattle.type_schema.specs.declared.types.TTy.TheVariants.{Plain}
use Rattle.type_schema.specs.declared.trees.TPolicy.TheVariants as tp
use Rattle.type_schema.specs.declared.rights.Right.TheVariants.{Read, Write, Create, Delete}
use Rattle.type_schema.specs.declared.rights.Target.TheVariants as on
use Rattle.type_schema.specs.Trees.{Policy, to_all, to_none, by_record}
use Rattle.type_schema.specs.Schema.{FieldInfo, ModelInfo, Schema, field_in, field_of, model_of}
use Rattle.type_schema.specs.Typing.{HasModel, IsField, IsModel, IsPolicy, principals}
use Rattle.type_schema.specs.Proper.{AreProperFields, IsProper}
use Rattle.type_schema.specs.Views.{policy_of}
use Rattle.type_typing.specs.Names.{model_named}
use Rattle.type_typing.specs.Outcome.{Checked, ◌>>=◌}
use Rattle.type_typing.specs.Policies.{record_var}
use Rattle.type_specs.specs.declared.stage.Stage.TheVariants.{Types, Policies}
use Rattle.type_specs.specs.InTurn.{in_turn}
use Rattle.type_specs.specs.Models.{policy_at, policy_over, with_models, with_names, with_typed}
use Rattle.type_specs.specs.Sizes.{Sizes, models_are_small}
use Rattle.type_specs.specs.Specs.{empty_schema, resolved_spec, typed_spec, with_static}
use Rattle.type_proper.proofs.NewField.{over-at}
use Rattle.type_proper.proofs.Resolves.{bound, ok-same}
use Rattle.type_anew.proofs.TypedSpecs.{AllMade}
use Rattle.type_anew.specs.Names.{named, names_in}
use Rattle.type_anew.specs.Trees.{written_policy}
use Rattle.type_anew.specs.Specs.{written_spec}
use Rattle.data_records.specs.Renumbered.{field_count, new_field, new_model}
use Rattle.type_anew.proofs.Places.{all-there, all-weaken, models-get, ModelsGet}
use Rattle.type_anew.specs.RenumberedAnew.{AreStaticsAnew, IsAnew}
use Rattle.type_anew.specs.Policies.{renumbered_policy}
use Rattle.type_anew.specs.Told.{FieldIsTold, IsTold, ModelIsTold, PolicyIsTold}
use Rattle.type_anew.specs.RetypedAnew.{HasPoliciesAnew}
use Rattle.type_anew.specs.RetypedLaws.{CountsStay, PoliciesComeAnew, SchemasComeAnew}
use Rattle.type_anew.proofs.Scopes.{IsScoped}
use Rattle.type_anew.proofs.Beside.{AreModelsBeside, IsFieldBeside, IsModelBeside, model_by_name, models-anew}
use Rattle.type_anew.proofs.Found.{field-beside, found-anew, model-beside, models-differ, number-found}
use Rattle.type_anew.proofs.Made.{AreDefsNamed, defs, IsFieldGood, IsModelGood, made-many, models-beside, models-made, names-made, statics-made}
use Rattle.type_anew.proofs.Whole.{IsFound, set-comes}

-- ---- one policy

abbrev IsGood : Schema → ℕ → Policy → Type 0
IsGood s m p = IsPolicy s m p × PolicyIsTold p

module _ (s t : Schema) (found : IsFound s t (names_in s)) where
  over-comes : (m : ℕ) (p : Policy) → IsGood s m p → policy_over t (new_model s.models m) (written_policy (names_in s) p) ≡ Ok (renumbered_policy s p)
  unfolding policy_over
  over-comes m to_all good = refl
  over-comes m to_none good = refl
  over-comes m (by_record name set) good =
      let scoped : IsScoped s.models (name ∷ []) (Plain (base.Id m) ∷ []) (record_var (new_model s.models m) (named name)) = record { named = refl; typed = refl } in
      let k = set-comes s t (names_in s) found set (name ∷ []) (Plain (base.Id m) ∷ []) (record_var (new_model s.models m) (named name)) principals scoped good.0 good.1.0 good.1.1 in
      ap (λ (o : Checked _). (o >>= (λ typed. Ok (tp.Fun name typed))) >>= (λ typed. Ok (policy_of typed))) k.1 ∙ ap (λ z. Ok (by_record name z)) k.2

  policy-comes : (m : ℕ) (p q : Policy) → HasModel s m → IsGood s m p → policy_at Policies t (new_model s.models m) (written_policy (names_in s) p) ≡ Ok q → q ≡ renumbered_policy s p
  policy-comes m p q has good e = ok-same _ _ (sym (over-at t (new_model s.models m) (written_policy (names_in s) p) q e) ∙ over-comes m p good)

-- ---- the stages of a specification

abbrev Any : Policy → Policy → Type 0
Any p q = Unit {0}

abbrev Whatever : ℕ → Policy → Type 0
Whatever m p = Unit {0}

-- What typing the tree of s goes through: the names, the types over them, and the policies over the types.
record IsStaged (s anew : Schema) : Type 0 where
  pub named : Schema
  pub known : Schema
  pub names : List ModelInfo
  pub types : List ModelInfo
  pub statics : AreStaticsAnew 0 s.statics anew.statics
  pub names_are : named.models ≡ names
  pub types_are : known.models ≡ types
  pub statics_are : known.statics ≡ anew.statics
  pub named_made : AreDefsNamed 0 s.models names
  pub types_made : AllMade Types named 0 0 (defs s s.models) types
  pub models_made : AllMade Policies known 0 0 (defs s s.models) anew.models
  pub next_static : anew.next_static ≡ length s.statics
  pub next_model : anew.next_model ≡ length s.models
  pub next_field : anew.next_field ≡ field_count s.models
  pub added : anew.added ≡ []
  pub removed : anew.removed ≡ []

staged : (sizes : Sizes) (s anew : Schema) → typed_spec sizes (written_spec s) ≡ Ok anew → IsStaged s anew
unfolding typed_spec resolved_spec with_models
staged sizes s anew e =
    let spec : Spec = written_spec s in
    let (found, is, e1) = bound (resolved_spec spec) _ anew e in
    let (u, small, e2) = bound (models_are_small sizes found found.models spec.models) _ anew e1 in
    let (start, goes, e3) = bound (in_turn with_static empty_schema spec.statics) (λ (t : Schema). with_models t spec.models) found is in
    let (names, n1, e4) = bound (in_turn with_names start spec.models) _ found e3 in
    let (known, k1, e5) = bound (in_turn (with_typed Types names) start spec.models) _ found e4 in
    let S = statics-made s.statics empty_schema start goes in
    let N = names-made s s.models start names n1 in
    let K = models-made Types names start (defs s s.models) known k1 in
    let Found = models-made Policies known start (defs s s.models) found e5 in
    let alone : (is : List ModelInfo) → start.models ++ is ≡ is = λ is. ap (λ (ms : List ModelInfo). ms ++ is) S.1.models in
    let models : found.models ≡ Found.0 = Found.1.models ∙ alone Found.0 in
    let first : start.next_model ≡ 0 = S.1.next_model in
    let from : start.next_field ≡ 0 = S.1.next_field in
    let made : AllMade Policies known 0 0 (defs s s.models) Found.0 =
    subst (λ n. AllMade Policies known n 0 (defs s s.models) Found.0) first (subst (λ k. AllMade Policies known start.next_model k (defs s s.models) Found.0) from Found.2) in
    let many = made-many s Policies known 0 0 s.models Found.0 made in
    let statics : found.statics ≡ S.0 = Found.1.statics ∙ S.1.statics in
    let there : IsStaged s found = record {
      named = names;
      known = known;
      names = N.0;
      types = K.0;
      statics = subst (AreStaticsAnew 0 s.statics) (sym statics) S.1.anew;
      names_are = N.1 ∙ alone N.0;
      types_are = K.1.models ∙ alone K.0;
      statics_are = K.1.statics ∙ sym Found.1.statics;
      named_made = subst (λ n. AreDefsNamed n s.models N.0) first N.2;
      types_made = subst (λ n. AllMade Types names n 0 (defs s s.models) K.0) first (subst (λ k. AllMade Types names start.next_model k (defs s s.models) K.0) from K.2);
      models_made = subst (AllMade Policies known 0 0 (defs s s.models)) (sym models) made;
      next_static = omega (arith, Found.1.next_static, S.1.next_static);
      next_model = omega (arith, Found.1.next_model, first, many.0);
      next_field = omega (arith, Found.1.next_field, from, many.1);
      added = Found.1.added ∙ S.1.added;
      removed = Found.1.removed ∙ S.1.removed;
    } in
    subst (IsStaged s) (ok-same found anew e2) there

pub counts_stay : CountsStay
counts_stay sizes s anew e = let k = staged sizes s anew e in (k.next_model, k.next_field)

-- ---- over a proper schema

module _ (s anew : Schema) (proper : IsProper s) (k : IsStaged s anew) where
  get : ModelsGet s.models 0 0 s.models
  get =
      models-get s.models 0 0 s.models proper.models.distinct
      (all-weaken (AreProperFields s.next_field) (λ (a : ModelInfo). IsDistinct nat_eq (map (λ (f : FieldInfo). f.number) a.fields)) (λ a are. are.numbers.distinct) s.models proper.fields)
      (λ m has. (omega arith, (λ f. omega arith)))

  -- a name over the names alone
  right-names : (m : ℕ) → HasModel s m → model_named k.named ((names_in s).model m) ≡ Some (new_model s.models m)
  unfolding model_named
  right-names m has = out (model_of s m) refl has
    where
      out : (o : Option ModelInfo) → model_of s m ≡ o → IsTrue (is_some o)
          → option_map (λ (i : ModelInfo). i.number) (model_by_name k.named.models (option_map_or (λ (i : ModelInfo). i.name) o [])) ≡ Some (new_model s.models m)
      out None is has = absurd (cc has)
      out (Some a) is has =
          let from : 0 + new_model s.models m ≡ new_model s.models m = omega arith in
          ap (λ (ms : List ModelInfo). option_map (λ (i : ModelInfo). i.number) (model_by_name ms a.name)) k.names_are
          ∙ number-found (λ (i : ModelInfo). i.number) (λ (i : ModelInfo). i.name) (λ (i : ModelInfo). i.number) (λ (i : ModelInfo). i.name) 0 s.models k.names m a k.named_made (models-differ s proper) is
          ∙ ap Some from

  fields-any : (m : ℕ) (fs : List FieldInfo) → AllByRecursion (IsField s m) fs → AllByRecursion (IsFieldGood s Whatever m) fs
  fields-any m [] typed = tt
  fields-any m (f ∷ fs) typed = ((typed.0.ty, tt, tt), fields-any m fs typed.1)

  models-any : (ms : List ModelInfo) → AllByRecursion (λ (a : ModelInfo). HasModel s a.number) ms → AllByRecursion (IsModel s) ms → AllByRecursion (IsModelGood s Whatever) ms
  models-any [] has typed = tt
  models-any (a ∷ ms) has typed = ((has.0, tt, tt, fields-any a.number a.fields typed.0.fields), models-any ms has.1 typed.1)

  has-all : AllByRecursion (λ (a : ModelInfo). HasModel s a.number) s.models
  has-all = all-there (λ (a : ModelInfo). a.number) s.models

  types-beside : AreModelsBeside s.models Any 0 0 s.models k.types
  types-beside =
      models-beside s k.named right-names Types Whatever Any (λ m p q has good e. tt) 0 0 s.models k.types get (models-any s.models has-all proper.typed) k.types_made

  known-found : IsFound s k.known (names_in s)
  known-found =
      found-anew s k.known Any proper (subst (AreModelsBeside s.models Any 0 0 s.models) (sym k.types_are) types-beside) (subst (AreStaticsAnew 0 s.statics) (sym k.statics_are) k.statics)

  any-beside : AreModelsBeside s.models Any 0 0 s.models anew.models
  any-beside =
      models-beside s k.known known-found.model Policies Whatever Any (λ m p q has good e. tt) 0 0 s.models anew.models get (models-any s.models has-all proper.typed) k.models_made

  is-anew : IsAnew s anew
  is-anew = record {
    statics = k.statics;
    models = models-anew s.models Any 0 0 s.models anew.models any-beside;
    next_static = k.next_static;
    next_model = k.next_model;
    next_field = k.next_field;
    added = k.added;
    removed = k.removed;
  }

  -- ---- and its policies

  fields-good : (m : ℕ) (fs : List FieldInfo) → AllByRecursion (IsField s m) fs → AllByRecursion FieldIsTold fs → AllByRecursion (IsFieldGood s (IsGood s) m) fs
  fields-good m [] typed told = tt
  fields-good m (f ∷ fs) typed told = ((typed.0.ty, (typed.0.read, told.0.0), (typed.0.write, told.0.1)), fields-good m fs typed.1 told.1)

  models-good : (ms : List ModelInfo) → AllByRecursion (λ (a : ModelInfo). HasModel s a.number) ms → AllByRecursion (IsModel s) ms → AllByRecursion ModelIsTold ms
      → AllByRecursion (IsModelGood s (IsGood s)) ms
  models-good [] has typed told = tt
  models-good (a ∷ ms) has typed told =
      ((has.0, (typed.0.create, told.0.0), (typed.0.delete, told.0.1), fields-good a.number a.fields typed.0.fields told.0.2), models-good ms has.1 typed.1 told.1)

  abbrev Moved : Policy → Policy → Type 0
  Moved p q = q ≡ renumbered_policy s p

  policies-beside : IsTold s → AreModelsBeside s.models Moved 0 0 s.models anew.models
  policies-beside told =
      models-beside s k.known known-found.model Policies (IsGood s) Moved (policy-comes s k.known known-found) 0 0 s.models anew.models get
      (models-good s.models has-all proper.typed told) k.models_made

  module _ (beside : AreModelsBeside s.models Moved 0 0 s.models anew.models) where
    -- a policy of a model, and one of a field
    of-model : (which : ModelInfo → Policy) → ((n j : ℕ) (a b : ModelInfo) → IsModelBeside s.models Moved n j a b → which b ≡ renumbered_policy s (which a)) → (m : ℕ) (policy : Policy)
        → option_map which (model_of s m) ≡ Some policy → option_map which (model_of anew (new_model s.models m)) ≡ Some (renumbered_policy s policy)
    of-model which same m policy e = out (model_of s m) refl e
      where
        out : (o : Option ModelInfo) → model_of s m ≡ o → option_map which o ≡ Some policy → option_map which (model_of anew (new_model s.models m)) ≡ Some (renumbered_policy s policy)
        out None is e = absurd (cc e)
        out (Some a) is e =
            let b = model-beside s anew Moved proper beside m a is in
            let here : which a ≡ policy = cc e in
            ap (option_map which) b.2 ∙ ap Some (same _ _ a b.0 b.3 ∙ ap (renumbered_policy s) here)

    of-field : (which : FieldInfo → Policy) → ((n : ℕ) (f g : FieldInfo) → IsFieldBeside s.models Moved n f g → which g ≡ renumbered_policy s (which f)) → (m f : ℕ) (policy : Policy)
        → option_map which (field_of s m f) ≡ Some policy → option_map which (field_of anew (new_model s.models m) (new_field s.models m f)) ≡ Some (renumbered_policy s policy)
    of-field which same m f policy e = out (model_of s m) refl e
      where
        within : (a : ModelInfo) → model_of s m ≡ Some a → (o : Option FieldInfo) → field_in a.fields f ≡ o → option_map which o ≡ Some policy
            → option_map which (field_of anew (new_model s.models m) (new_field s.models m f)) ≡ Some (renumbered_policy s policy)
        within a has None is e = absurd (cc e)
        within a has (Some x) is e =
            let b = field-beside s anew Moved proper beside m f a x has is in
            let here : which x ≡ policy = cc e in
            ap (λ (o : Option ModelInfo). option_map which (option_and_then (λ (i : ModelInfo). field_in i.fields (new_field s.models m f)) o)) b.1
            ∙ ap (option_map which) b.2.2 ∙ ap Some (same _ x b.2.0 b.2.3 ∙ ap (renumbered_policy s) here)

        out : (o : Option ModelInfo) → model_of s m ≡ o → option_map which (option_and_then (λ (i : ModelInfo). field_in i.fields f) o) ≡ Some policy
            → option_map which (field_of anew (new_model s.models m) (new_field s.models m f)) ≡ Some (renumbered_policy s policy)
        out None is e = absurd (cc e)
        out (Some a) is e = within a is (field_in a.fields f) refl e

    all-moved : HasPoliciesAnew s anew
    all-moved (on.Field m f) Read policy e = of-field (λ (i : FieldInfo). i.read) (λ n x g k. k.read) m f policy e
    all-moved (on.Field m f) Write policy e = of-field (λ (i : FieldInfo). i.write) (λ n x g k. k.write) m f policy e
    all-moved (on.Field m f) Create policy e = absurd (cc e)
    all-moved (on.Field m f) Delete policy e = absurd (cc e)
    all-moved (on.Model m) Read policy e = absurd (cc e)
    all-moved (on.Model m) Write policy e = absurd (cc e)
    all-moved (on.Model m) Create policy e = of-model (λ (i : ModelInfo). i.create) (λ n j a b k. k.create) m policy e
    all-moved (on.Model m) Delete policy e = of-model (λ (i : ModelInfo). i.delete) (λ n j a b k. k.delete) m policy e

pub schemas_come_anew : SchemasComeAnew
schemas_come_anew sizes s anew proper e = is-anew s anew proper (staged sizes s anew e)

pub policies_come_anew : PoliciesComeAnew
policies_come_anew sizes s anew proper told e =
    let k = staged sizes s anew e in
    all-moved s anew proper k (policies-beside s anew proper k told)
