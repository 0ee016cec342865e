-- The tree of a schema within the limits is typed by every rule but those on sizes, as a schema that stands beside it.
use Rattle.std.proofs.Common.{◌≡◌, ℕ, ◌+◌, ◌≤◌, List, [], ◌∷◌, ◌++◌, length, map, refl, sym, ap, ◌∙◌, subst, arith}
use Rattle.std.specs.Prelude.{Option, Some, None, Ok, is_some, nat_eq, IsTrue}
use Rattle.std.specs.List.{AllByRecursion, IsDistinct}
use Rattle.std.specs.Option.{option_map, option_map_or}
use Rattle.std.specs.Str.{bytes_eq}
use Rattle.text_ast.specs.Limits.{most_fields}
use Rattle.text_tree.specs.declared.models.Spec.{Spec}
use Rattle.type_schema.specs.declared.types.TBase.TheVariants as base
use Rattle.type_schema.specs.declared.types.TTy.TheVariants.{Plain}
use Rattle.type_schema.specs.declared.trees.TPolicy.TheVariants as tp
use Rattle.type_schema.specs.Trees.{Policy, to_all, to_none, by_record}
use Rattle.type_schema.specs.Schema.{StaticInfo, FieldInfo, ModelInfo, Schema, model_of}
use Rattle.type_schema.specs.Typing.{HasModel, IsField, IsModel, IsPolicy, principals}
use Rattle.type_schema.specs.Proper.{AreProperFields, IsProper, names_of}
use Rattle.type_schema.specs.Views.{policy_of}
use Rattle.type_typing.specs.Names.{model_named}
use Rattle.type_typing.specs.Outcome.{Checked, ◌>>=◌}
use Rattle.type_typing.specs.Policies.{record_var}
use Rattle.type_specs.specs.declared.stage.Stage.{Stage}
use Rattle.type_specs.specs.declared.stage.Stage.TheVariants.{Types, Policies}
use Rattle.type_specs.specs.InTurn.{in_turn}
use Rattle.type_specs.specs.Models.{policy_at, policy_over, with_models, with_names, with_typed}
use Rattle.type_specs.specs.Specs.{empty_schema, resolved_spec, with_static}
use Rattle.type_proper.proofs.Lists.{all-any, all-both, distinct-back}
use Rattle.type_proper.proofs.NewField.{over-at}
use Rattle.type_proper.proofs.Resolves.{ok-same}
use Rattle.type_anew.proofs.TypedSpecs.{AllMade}
use Rattle.type_anew.specs.Names.{named, names_in}
use Rattle.type_anew.specs.Trees.{written_policy}
use Rattle.type_anew.specs.Specs.{written_spec}
use Rattle.data_records.specs.Renumbered.{new_model}
use Rattle.type_anew.proofs.Places.{all-there, all-weaken, models-get, ModelsGet}
use Rattle.type_anew.specs.RenumberedAnew.{AreStaticsAnew}
use Rattle.type_anew.specs.Policies.{renumbered_policy}
use Rattle.type_anew.specs.Told.{FieldIsTold, IsTold, ModelIsTold, PolicyIsTold}
use Rattle.type_anew.proofs.TypedExprs.{then-ok}
use Rattle.type_anew.proofs.Scopes.{IsScoped}
use Rattle.type_anew.proofs.Beside.{AreModelsBeside, model_by_name}
use Rattle.type_anew.proofs.Found.{found-anew, models-differ, number-found}
use Rattle.type_anew.proofs.Made.{AreDefsNamed, defs, IsFieldGood, IsModelGood, models-beside, models-made, names-made, statics-made}
use Rattle.type_anew.proofs.Whole.{IsFound, set-comes}
use Rattle.type_anew.specs.Room.{IsWithinNumbers}
use Rattle.type_anew.proofs.Goes.{Goes, HasFieldNames, IsUnused, model_names, models-go, names-go, statics-go}

-- ---- policies

abbrev IsGood : Schema → ℕ → Policy → Type 0
IsGood s m p = IsPolicy s m p × PolicyIsTold p

-- a policy and the same with new numbers
abbrev pub Moved : Schema → Policy → Policy → Type 0
Moved s p q = q ≡ renumbered_policy s p

module _ (s t : Schema) (found : IsFound s t (names_in s)) where
  over-comes : (m : ℕ) (p : Policy) → IsGood s m p → policy_over t (new_model s.models m) (written_policy (names_in s) p) ≡ Ok (renumbered_policy s p)
  unfolding policy_over
  over-comes m to_all good = refl
  over-comes m to_none good = refl
  over-comes m (by_record name set) good =
      let scoped : IsScoped s.models (name ∷ []) (Plain (base.Id m) ∷ []) (record_var (new_model s.models m) (named name)) = record { named = refl; typed = refl } in
      let k = set-comes s t (names_in s) found set (name ∷ []) (Plain (base.Id m) ∷ []) (record_var (new_model s.models m) (named name)) principals scoped good.0 good.1.0 good.1.1 in
      ap (λ (o : Checked _). (o >>= (λ typed. Ok (tp.Fun name typed))) >>= (λ typed. Ok (policy_of typed))) k.1 ∙ ap (λ z. Ok (by_record name z)) k.2

  policy-goes : (m : ℕ) (p : Policy) → HasModel s m → IsGood s m p → Goes (policy_at Policies t (new_model s.models m) (written_policy (names_in s) p))
  unfolding policy_at
  policy-goes m p has good = (renumbered_policy s p, over-comes m p good)

  policy-moved : (m : ℕ) (p q : Policy) → HasModel s m → IsGood s m p → policy_at Policies t (new_model s.models m) (written_policy (names_in s) p) ≡ Ok q → Moved s p q
  policy-moved m p q has good e = ok-same _ _ (sym (over-at t (new_model s.models m) (written_policy (names_in s) p) q e) ∙ over-comes m p good)

-- ---- any policy, where types alone are looked at

abbrev Whatever : ℕ → Policy → Type 0
Whatever m p = Unit {0}

abbrev Any : Policy → Policy → Type 0
Any p q = Unit {0}

-- ---- a proper schema that is told by its tree

-- What typing gives of the tree, where it stands beside the schema.
abbrev pub IsResolved : (s anew : Schema) → Type 0
IsResolved s anew = (resolved_spec (written_spec s) ≡ Ok anew) × AreModelsBeside s.models (Moved s) 0 0 s.models anew.models × (anew.added ≡ [])

module _ (s : Schema) (proper : IsProper s) (told : IsTold s) (room : IsWithinNumbers s) where
  get : ModelsGet s.models 0 0 s.models
  get =
      models-get s.models 0 0 s.models proper.models.distinct
      (all-weaken (AreProperFields s.next_field) (λ (a : ModelInfo). IsDistinct nat_eq (map (λ (f : FieldInfo). f.number) a.fields)) (λ a are. are.numbers.distinct) s.models proper.fields)
      (λ m has. (omega arith, (λ f. omega arith)))

  has-all : AllByRecursion (λ (a : ModelInfo). HasModel s a.number) s.models
  has-all = all-there (λ (a : ModelInfo). a.number) s.models

  fields-any : (m : ℕ) (fs : List FieldInfo) → AllByRecursion (IsField s m) fs → AllByRecursion (IsFieldGood s Whatever m) fs
  fields-any m fs typed = all-weaken (IsField s m) (IsFieldGood s Whatever m) (λ f is. (is.ty, tt, tt)) fs typed

  models-any : AllByRecursion (IsModelGood s Whatever) s.models
  models-any =
      all-both (λ (a : ModelInfo). HasModel s a.number) (IsModel s) (IsModelGood s Whatever) (λ a has is. (has, tt, tt, fields-any a.number a.fields is.fields)) s.models has-all proper.typed

  fields-good : (m : ℕ) (fs : List FieldInfo) → AllByRecursion (IsField s m) fs → AllByRecursion FieldIsTold fs → AllByRecursion (IsFieldGood s (IsGood s) m) fs
  fields-good m fs typed are = all-both (IsField s m) FieldIsTold (IsFieldGood s (IsGood s) m) (λ f is k. (is.ty, (is.read, k.0), (is.write, k.1))) fs typed are

  models-good : (ms : List ModelInfo) → AllByRecursion (λ (a : ModelInfo). HasModel s a.number) ms → AllByRecursion (IsModel s) ms → AllByRecursion ModelIsTold ms
      → AllByRecursion (IsModelGood s (IsGood s)) ms
  models-good [] has typed are = tt
  models-good (a ∷ ms) has typed are =
      ((has.0, (typed.0.create, are.0.0), (typed.0.delete, are.0.1), fields-good a.number a.fields typed.0.fields are.0.2), models-good ms has.1 typed.1 are.1)

  named-fields : AllByRecursion (HasFieldNames s) s.models
  named-fields =
      all-both (AreProperFields s.next_field) (λ (a : ModelInfo). length a.fields ≤ most_fields) (HasFieldNames s) (λ a are few. (are.names, few)) s.models proper.fields room.fields

  -- a name over models with the names of s
  right-names : (t : Schema) (names : List ModelInfo) → t.models ≡ names → AreDefsNamed 0 s.models names → (m : ℕ) → HasModel s m → model_named t ((names_in s).model m) ≡ Some (new_model s.models m)
  unfolding model_named
  right-names t names are made m has = out (model_of s m) refl has
    where
      out : (o : Option ModelInfo) → model_of s m ≡ o → IsTrue (is_some o)
          → option_map (λ (i : ModelInfo). i.number) (model_by_name t.models (option_map_or (λ (i : ModelInfo). i.name) o [])) ≡ Some (new_model s.models m)
      out None is has = absurd (cc has)
      out (Some a) is has =
          let from : 0 + new_model s.models m ≡ new_model s.models m = omega arith in
          ap (λ (ms : List ModelInfo). option_map (λ (i : ModelInfo). i.number) (model_by_name ms a.name)) are
          ∙ number-found (λ (i : ModelInfo). i.number) (λ (i : ModelInfo). i.name) (λ (i : ModelInfo). i.number) (λ (i : ModelInfo). i.name) 0 s.models names m a made (models-differ s proper) is
          ∙ ap Some from

  -- ---- the stages of the typing of the tree

  -- the statics, of whose names none is that of a model
  record IsBegun (start : Schema) : Type 0 where
    goes : in_turn with_static empty_schema (written_spec s).statics ≡ Ok start
    free : AllByRecursion (IsUnused start) (model_names s.models)
    statics : AreStaticsAnew 0 s.statics start.statics
    models : start.models ≡ []
    next_model : start.next_model ≡ 0
    next_field : start.next_field ≡ 0
    added : start.added ≡ []

  begins : (start : Schema) × IsBegun start
  begins =
      let k = statics-go s.statics (model_names s.models) empty_schema proper.names (all-any (IsUnused empty_schema) (λ name. (tt, tt)) (names_of s)) (omega (arith, room.statics)) in
      (k.0, begun k.0 k.1 k.2)
    where
      begun : (start : Schema) → in_turn with_static empty_schema (written_spec s).statics ≡ Ok start → AllByRecursion (IsUnused start) (model_names s.models) → IsBegun start
      begun start goes free =
          let k = statics-made s.statics empty_schema start goes in
          record {
            goes = goes;
            free = free;
            statics = subst (AreStaticsAnew 0 s.statics) (sym k.1.statics) k.1.anew;
            models = k.1.models;
            next_model = k.1.next_model;
            next_field = k.1.next_field;
            added = k.1.added;
          }

  -- the models, by name alone
  record IsNamed (start names : Schema) : Type 0 where
    goes : in_turn with_names start (defs s s.models) ≡ Ok names
    right : (m : ℕ) → HasModel s m → model_named names ((names_in s).model m) ≡ Some (new_model s.models m)

  names-come : (start : Schema) → IsBegun start → (names : Schema) × IsNamed start names
  names-come start begun =
      let few : length start.models ≡ 0 = ap length begun.models in
      let differ = distinct-back bytes_eq (map (λ (a : StaticInfo). a.name) s.statics) (model_names s.models) proper.names in
      let k = names-go s s.models start differ begun.free (omega (arith, few, room.models)) named-fields in
      (k.0, record { goes = k.1; right = right k.0 k.1 })
    where
      right : (names : Schema) → in_turn with_names start (defs s s.models) ≡ Ok names → (m : ℕ) → HasModel s m → model_named names ((names_in s).model m) ≡ Some (new_model s.models m)
      right names goes =
          let k = names-made s s.models start names goes in
          right-names names k.0 (k.1 ∙ ap (λ (ms : List ModelInfo). ms ++ k.0) begun.models) (subst (λ n. AreDefsNamed n s.models k.0) begun.next_model k.2)

  -- these models of a stage behind the statics
  record IsMade (stage : Stage) (over start out : Schema) : Type 0 where
    made : AllMade stage over 0 0 (defs s s.models) out.models
    statics : out.statics ≡ start.statics
    added : out.added ≡ []

  from-start : (stage : Stage) (over start out : Schema) → IsBegun start → in_turn (with_typed stage over) start (defs s s.models) ≡ Ok out → IsMade stage over start out
  from-start stage over start out begun goes =
      let k = models-made stage over start (defs s s.models) out goes in
      let models : out.models ≡ k.0 = k.1.models ∙ ap (λ (ms : List ModelInfo). ms ++ k.0) begun.models in
      record {
        made =
            subst (AllMade stage over 0 0 (defs s s.models)) (sym models)
            (subst (λ n. AllMade stage over n 0 (defs s s.models) k.0) begun.next_model (subst (λ j. AllMade stage over start.next_model j (defs s s.models) k.0) begun.next_field k.2));
        statics = k.1.statics;
        added = k.1.added ∙ begun.added;
      }

  -- the types of fields over the names
  record IsKnown (start names known : Schema) : Type 0 where
    goes : in_turn (with_typed Types names) start (defs s s.models) ≡ Ok known
    found : IsFound s known (names_in s)

  none-goes : (names : Schema) (m : ℕ) (p : Policy) → HasModel s m → Whatever m p → Goes (policy_at Types names (new_model s.models m) (written_policy (names_in s) p))
  unfolding policy_at
  none-goes names m p has good = (to_none, refl)

  types-come : (start names : Schema) → IsBegun start → IsNamed start names → (known : Schema) × IsKnown start names known
  types-come start names begun named =
      let k = models-go s names named.right Types Whatever (none-goes names) 0 0 s.models start begun.next_model get models-any in
      (k.0, record { goes = k.1; found = found k.0 (from-start Types names start k.0 begun k.1) })
    where
      found : (known : Schema) → IsMade Types names start known → IsFound s known (names_in s)
      found known made =
          found-anew s known Any proper (models-beside s names named.right Types Whatever Any (λ m p q has good e. tt) 0 0 s.models known.models get models-any made.made)
          (subst (AreStaticsAnew 0 s.statics) (sym made.statics) begun.statics)

  -- the policies over the types
  record IsDone (start known anew : Schema) : Type 0 where
    goes : in_turn (with_typed Policies known) start (defs s s.models) ≡ Ok anew
    beside : AreModelsBeside s.models (Moved s) 0 0 s.models anew.models
    added : anew.added ≡ []

  policies-come : (start known : Schema) → IsBegun start → IsFound s known (names_in s) → (anew : Schema) × IsDone start known anew
  policies-come start known begun found =
      let k = models-go s known found.model Policies (IsGood s) (policy-goes s known found) 0 0 s.models start begun.next_model get good in
      (k.0, finish k.0 k.1 (from-start Policies known start k.0 begun k.1))
    where
      good : AllByRecursion (IsModelGood s (IsGood s)) s.models
      good = models-good s.models has-all proper.typed told

      finish : (anew : Schema) → in_turn (with_typed Policies known) start (defs s s.models) ≡ Ok anew → IsMade Policies known start anew → IsDone start known anew
      finish anew goes made = record {
        goes = goes;
        beside = models-beside s known found.model Policies (IsGood s) (Moved s) (policy-moved s known found) 0 0 s.models anew.models get good made.made;
        added = made.added;
      }

  whole : (start names known anew : Schema) → IsBegun start → IsNamed start names → IsKnown start names known → IsDone start known anew → resolved_spec (written_spec s) ≡ Ok anew
  unfolding resolved_spec with_models
  whole start names known anew begun named types done =
      let spec : Spec = written_spec s in
      then-ok (resolved_spec spec) (in_turn with_static empty_schema spec.statics) start (λ u. with_models u spec.models) refl begun.goes
      ∙ then-ok (with_models start spec.models) (in_turn (with_typed Types names) start spec.models) known (λ u. in_turn (with_typed Policies u) start spec.models)
      (then-ok (with_models start spec.models) (in_turn with_names start spec.models) names
      (λ n. in_turn (with_typed Types n) start spec.models >>= (λ u. in_turn (with_typed Policies u) start spec.models)) refl named.goes) types.goes
      ∙ done.goes

  pub resolves : (anew : Schema) × IsResolved s anew
  resolves =
      let b = begins in
      let n = names-come b.0 b.1 in
      let k = types-come b.0 n.0 b.1 n.1 in
      let d = policies-come b.0 k.0 b.1 k.1.found in
      (d.0, (whole b.0 n.0 k.0 d.0 b.1 n.1 k.1 d.1, d.1.beside, d.1.added))
