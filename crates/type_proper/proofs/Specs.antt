-- The schema of a specification is proper, and stays so.
use Rattle.std.proofs.Common.{◌≡◌, ◌==◌, ℕ, suc, ◌+◌, ◌<◌, ◌≤◌, Bool, true, false, cond, List, [], ◌∷◌, ◌++◌, length, map, refl, sym, ap, ◌∙◌, subst, arith, eq-eqb, append_assoc, append-nil}
use Rattle.std.specs.Prelude.{nat_eq, Some, None, Ok, is_some, IsTrue}
use Rattle.std.specs.List.{AllByRecursion, IsDistinct, find}
use Rattle.std.specs.Option.{option_map}
use Rattle.std.specs.Str.{bytes_eq}
use Rattle.std.proofs.lemmas.List.{length-map, map-append}
use Rattle.text_tree.specs.declared.named.Named.{Named}
use Rattle.text_tree.specs.declared.models.FieldDef.{FieldDef}
use Rattle.text_tree.specs.declared.models.ModelDef.{ModelDef}
use Rattle.type_schema.specs.Trees.{Name, Policy, to_none}
use Rattle.type_schema.specs.Schema.{StaticInfo, FieldInfo, ModelInfo, Added, Schema, field_in, model_in, static_of}
use Rattle.type_schema.specs.Typing.{HasModel, IsField, IsModel, IsPolicy, IsType, IsTyped}
use Rattle.type_schema.specs.Commands.{AreNumberedFrom, add_static, schema_after}
use Rattle.type_schema.specs.Proper.{AreInOrder, AreNumbers, AreProperFields, model_numbers, names_of, static_numbers}
use Rattle.type_typing.specs.Names.{model_named}
use Rattle.type_typing.specs.WellTyped.{HaveFields, PolicyHasLiterals}
use Rattle.type_specs.specs.declared.stage.Stage.{Stage}
use Rattle.type_specs.specs.declared.stage.Stage.TheVariants.{Types, Policies}
use Rattle.type_specs.specs.InTurn.{in_turn}
use Rattle.type_specs.specs.Models.{bare_model, policy_at, typed_field, typed_model, with_model, with_models, with_names, with_typed}
use Rattle.type_specs.specs.NewNames.{fields_differ, is_taken, new_model, new_static}
use Rattle.type_specs.specs.Sizes.{models_are_small}
use Rattle.type_specs.specs.Specs.{empty_schema, next_static, resolved_spec, typed_spec, with_static}
use Rattle.type_commands.specs.declared.thing.Thing.TheVariants as the
use Rattle.type_proper.specs.Shown.{PolicyIsShown}
use Rattle.type_proper.specs.Steady.{FieldIsShown, IsSteady, ModelIsShown, ReadsBelow}
use Rattle.type_proper.specs.Literals.{ModelHasLiterals}
use Rattle.type_proper.specs.Fits.{IsNewName}
use Rattle.type_proper.specs.Specs.{SpecsAreSteady}
use Rattle.type_proper.proofs.Kept.{Keeps}
use Rattle.type_proper.proofs.Lists.{all-append, all-weaken, distinct-append, distinct-none, distinct-one, numbers-next, numbers-weaken}
use Rattle.type_proper.proofs.Lookups.{Becomes, keeps-found, static-free}
use Rattle.type_proper.proofs.Grown.{next-is-free, policy-grown}
use Rattle.type_proper.proofs.After.{added_static-steady, all-proper-weaken, numbered-are, read-weaken}
use Rattle.type_proper.proofs.NewField.{field-parts, none-at, over-at, type-same, type-typed}
use Rattle.type_proper.proofs.NewModel.{FieldsMade, both-types, fields-good, made-names, made-numbered, model-parts, names-differ}
use Rattle.type_proper.proofs.Resolves.{bound, have-fields, new-name, not-taken, ok-same, over-good}

-- ---- models one after the other

abbrev with_all : Schema → List ModelInfo → Schema
with_all s [] = s
with_all s (i ∷ is) = with_all (with_model s i) is

all-models : (s : Schema) (is : List ModelInfo) → (with_all s is).models ≡ s.models ++ is
all-models s [] = sym (append-nil s.models)
all-models s (i ∷ is) = all-models (with_model s i) is ∙ append_assoc s.models (i ∷ []) is

all-statics : (s : Schema) (is : List ModelInfo) → (with_all s is).statics ≡ s.statics
all-statics s [] = refl
all-statics s (i ∷ is) = all-statics (with_model s i) is

all-next : (s : Schema) (is : List ModelInfo) → (with_all s is).next_static ≡ s.next_static
all-next s [] = refl
all-next s (i ∷ is) = all-next (with_model s i) is

all-added : (s : Schema) (is : List ModelInfo) → (with_all s is).added ≡ s.added
all-added s [] = refl
all-added s (i ∷ is) = all-added (with_model s i) is

-- a model of a stage, with this number and fields from this one on
abbrev ModelMade : Stage → Schema → ℕ → ℕ → ModelDef → ModelInfo → Type 0
ModelMade stage over n k d info =
    (create : Policy) × (delete : Policy) × (fields : List FieldInfo) × (policy_at stage over n d.create ≡ Ok create) × (policy_at stage over n d.delete ≡ Ok delete)
    × FieldsMade stage over n k d.fields fields
    × ((record { number = n; name = d.name.name; principal = d.principal; create = create; delete = delete; fields = fields }) ≡ info)

abbrev AllMade : Stage → Schema → ℕ → ℕ → List ModelDef → List ModelInfo → Type 0
AllMade stage over n k [] [] = Unit {0}
AllMade stage over n k [] (i ∷ is) = ⊥
AllMade stage over n k (d ∷ ds) [] = ⊥
AllMade stage over n k (d ∷ ds) (i ∷ is) = ModelMade stage over n k d i × AllMade stage over (n + 1) (k + length i.fields) ds is

all-made : (stage : Stage) (over s : Schema) (defs : List ModelDef) (out : Schema) → in_turn (with_typed stage over) s defs ≡ Ok out
    → (is : List ModelInfo) × (with_all s is ≡ out) × AllMade stage over s.next_model s.next_field defs is
unfolding with_typed
all-made stage over s [] out e = ([], ok-same s out e, tt)
all-made stage over s (d ∷ ds) out e =
    let (more, goes, rest) = bound (with_typed stage over s d) (λ after. in_turn (with_typed stage over) after ds) out e in
    let (i, made, is) = bound (typed_model stage over s d) (λ (i : ModelInfo). Ok (with_model s i)) more goes in
    let there : with_model s i ≡ more = ok-same (with_model s i) more is in
    let later = all-made stage over (with_model s i) ds out (subst (λ (t : Schema). in_turn (with_typed stage over) t ds ≡ Ok out) (sym there) rest) in
    (i ∷ later.0, later.1, (model-parts stage over s d i made, later.2))

-- ---- names

-- new after these, one after the other, and so are the fields of each
abbrev NamesNew : List Name → List ModelDef → Type 0
NamesNew names [] = Unit {0}
NamesNew names (d ∷ ds) =
    AllByRecursion (λ n. bytes_eq n d.name.name ≡ false) names × IsDistinct bytes_eq (map (λ (f : FieldDef). f.name.name) d.fields) × NamesNew (names ++ d.name.name ∷ []) ds

abbrev NamedAt : ℕ → List ModelDef → List ModelInfo → Type 0
NamedAt n [] [] = Unit {0}
NamedAt n [] (b ∷ bs) = ⊥
NamedAt n (d ∷ ds) [] = ⊥
NamedAt n (d ∷ ds) (b ∷ bs) = (b.number ≡ n) × (b.name ≡ d.name.name) × NamedAt (n + 1) ds bs

more-names : (s : Schema) (i : ModelInfo) → names_of (with_model s i) ≡ names_of s ++ i.name ∷ []
more-names s i =
    let statics : List Name = map (λ (n : StaticInfo). n.name) s.statics in
    ap (λ (ns : List Name). statics ++ ns) (map-append (λ (m : ModelInfo). m.name) s.models (i ∷ [])) ∙ sym (append_assoc statics (map (λ (m : ModelInfo). m.name) s.models) (i.name ∷ []))

all-named : (s : Schema) (defs : List ModelDef) (out : Schema) → in_turn with_names s defs ≡ Ok out → NamesNew (names_of s) defs × ((bs : List ModelInfo) × (with_all s bs ≡ out) × NamedAt s.next_model defs bs)
unfolding with_names
all-named s [] out e = (tt, ([], ok-same s out e, tt))
all-named s (d ∷ ds) out e =
    let (more, goes, rest) = bound (with_names s d) (λ after. in_turn with_names after ds) out e in
    let (u, new, e1) = bound (new_model s d.name) _ more goes in
    let (v, differ, e2) = bound (fields_differ d.fields) _ more e1 in
    let b : ModelInfo = bare_model s d in
    let there : with_model s b ≡ more = ok-same (with_model s b) more e2 in
    let later = all-named (with_model s b) ds out (subst (λ (t : Schema). in_turn with_names t ds ≡ Ok out) (sym there) rest) in (
      (new-name s d.name.name (not-taken (is_taken s d.name.name) _ _ d.name u new), names-differ d.fields v differ, subst (λ (ns : List Name). NamesNew ns ds) (more-names s b) later.0),
      (b ∷ later.1.0, later.1.1, (refl, refl, later.1.2)),
    )

-- models with the same numbers and names
abbrev SamePairs : List ModelInfo → List ModelInfo → Type 0
SamePairs [] [] = Unit {0}
SamePairs [] (c ∷ cs) = ⊥
SamePairs (a ∷ as') [] = ⊥
SamePairs (a ∷ as') (c ∷ cs) = (a.number ≡ c.number) × (a.name ≡ c.name) × SamePairs as' cs

pairs-of : (stage : Stage) (over : Schema) (n k : ℕ) (defs : List ModelDef) (is bs : List ModelInfo) → AllMade stage over n k defs is → NamedAt n defs bs → SamePairs is bs
pairs-of stage over n k [] [] [] made named = tt
pairs-of stage over n k [] (i ∷ is) bs made named = absurd made
pairs-of stage over n k [] [] (b ∷ bs) made named = absurd named
pairs-of stage over n k (d ∷ ds) [] bs made named = absurd made
pairs-of stage over n k (d ∷ ds) (i ∷ is) [] made named = absurd named
pairs-of stage over n k (d ∷ ds) (i ∷ is) (b ∷ bs) made named =
    (sym (ap (λ (j : ModelInfo). j.number) made.0.6) ∙ sym named.0, sym (ap (λ (j : ModelInfo). j.name) made.0.6) ∙ sym named.1, pairs-of stage over (n + 1) (k + length i.fields) ds is bs made.1 named.2)

same-named : (name : Name) (as' cs : List ModelInfo) → SamePairs as' cs
    → option_map (λ (i : ModelInfo). i.number) (find (λ (i : ModelInfo). bytes_eq i.name name) as') ≡ option_map (λ (i : ModelInfo). i.number) (find (λ (i : ModelInfo). bytes_eq i.name name) cs)
same-named name [] [] same = refl
same-named name [] (c ∷ cs) same = absurd same
same-named name (a ∷ as') [] same = absurd same
same-named name (a ∷ as') (c ∷ cs) same =
    ap (λ (x : Name). option_map (λ (i : ModelInfo). i.number) (cond (bytes_eq x name) (Some a) (find (λ (i : ModelInfo). bytes_eq i.name name) as'))) same.1 ∙ pick same.0 (same-named name as' cs same.2) (bytes_eq c.name name)
  where
    pick : a.number ≡ c.number
        → option_map (λ (i : ModelInfo). i.number) (find (λ (i : ModelInfo). bytes_eq i.name name) as') ≡ option_map (λ (i : ModelInfo). i.number) (find (λ (i : ModelInfo). bytes_eq i.name name) cs) → (b : Bool)
        → option_map (λ (i : ModelInfo). i.number) (cond b (Some a) (find (λ (i : ModelInfo). bytes_eq i.name name) as')) ≡ option_map (λ (i : ModelInfo). i.number) (cond b (Some c) (find (λ (i : ModelInfo). bytes_eq i.name name) cs))
    pick number rest true = ap Some number
    pick number rest false = rest

-- ---- all of proper but that it is typed

record IsHalf (s : Schema) : Type 0 where
  pub names : IsDistinct bytes_eq (names_of s)
  pub statics : AreNumbers s.next_static (static_numbers s.statics)
  pub models : AreNumbers s.next_model (model_numbers s.models)
  pub fields : AllByRecursion (AreProperFields s.next_field) s.models
  pub added : AreNumbers s.next_field (map (λ (a : Added). a.field) s.added)
  pub order : AreInOrder s.added
  pub shown : AllByRecursion ModelIsShown s.models
  pub read : AllByRecursion (ReadsBelow s.next_field) s.added

half-of : (s : Schema) → IsSteady s → IsHalf s
half-of s steady = record {
  names = steady.proper.names;
  statics = steady.proper.statics;
  models = steady.proper.models;
  fields = steady.proper.fields;
  added = steady.proper.added;
  order = steady.proper.order;
  shown = steady.shown;
  read = steady.read;
}

half-model : (s : Schema) (info : ModelInfo) → IsHalf s → info.number ≡ s.next_model → AreNumberedFrom s.next_field info.fields → IsNewName s info.name → IsDistinct bytes_eq (map (λ (f : FieldInfo). f.name) info.fields) → ModelIsShown info
    → IsHalf (with_model s info)
half-model s info half number numbered new differ shown =
    let next : ℕ = s.next_field + length info.fields in
    let le : s.next_field ≤ next = omega arith in
    let numbers : model_numbers (s.models ++ info ∷ []) ≡ model_numbers s.models ++ s.next_model ∷ [] =
    map-append (λ (m : ModelInfo). m.number) s.models (info ∷ []) ∙ ap (λ n. model_numbers s.models ++ n ∷ []) number in
    record {
      names =
          subst (IsDistinct bytes_eq) (sym (more-names s info))
          (distinct-append bytes_eq (names_of s) (info.name ∷ []) half.names (distinct-one bytes_eq info.name)
          (all-weaken (λ n. bytes_eq n info.name ≡ false) (λ n. AllByRecursion (λ y. bytes_eq n y ≡ false) (info.name ∷ [])) (λ n h. (h, tt)) (names_of s) new));
      statics = half.statics;
      models = subst (AreNumbers (s.next_model + 1)) (sym numbers) (numbers-next s.next_model (model_numbers s.models) half.models);
      fields =
          all-append (AreProperFields next) s.models (info ∷ []) (all-proper-weaken s.next_field next s.models le half.fields)
          (record { numbers = numbered-are s.next_field info.fields numbered; names = differ }, tt);
      added = numbers-weaken s.next_field next (map (λ (a : Added). a.field) s.added) le half.added;
      order = half.order;
      shown = all-append ModelIsShown s.models (info ∷ []) half.shown (shown, tt);
      read = read-weaken s.next_field next s.added le half.read;
    }

half-all : (stage : Stage) (over s : Schema) (defs : List ModelDef) (is : List ModelInfo) → IsHalf s → AllMade stage over s.next_model s.next_field defs is → NamesNew (names_of s) defs → AllByRecursion ModelIsShown is → IsHalf (with_all s is)
half-all stage over s [] [] half made names shown = half
half-all stage over s [] (i ∷ is) half made names shown = absurd made
half-all stage over s (d ∷ ds) [] half made names shown = absurd made
half-all stage over s (d ∷ ds) (i ∷ is) half made names shown =
    let m = made.0 in
    let number : i.number ≡ s.next_model = sym (ap (λ (j : ModelInfo). j.number) m.6) in
    let name : d.name.name ≡ i.name = ap (λ (j : ModelInfo). j.name) m.6 in
    let fields : m.2 ≡ i.fields = ap (λ (j : ModelInfo). j.fields) m.6 in
    let numbered : AreNumberedFrom s.next_field i.fields = subst (AreNumberedFrom s.next_field) fields (made-numbered stage over s.next_model s.next_field d.fields m.2 m.5) in
    let differ : IsDistinct bytes_eq (map (λ (f : FieldInfo). f.name) i.fields) =
    subst (λ (fs : List FieldInfo). IsDistinct bytes_eq (map (λ (f : FieldInfo). f.name) fs)) fields
    (subst (IsDistinct bytes_eq) (sym (made-names stage over s.next_model s.next_field d.fields m.2 m.5)) names.1) in
    let more : names_of s ++ d.name.name ∷ [] ≡ names_of (with_model s i) = ap (λ (x : Name). names_of s ++ x ∷ []) name ∙ sym (more-names s i) in
    half-all stage over (with_model s i) ds is (half-model s i half number numbered (subst (IsNewName s) name names.0) differ shown.0) made.1
    (subst (λ (ns : List Name). NamesNew ns ds) more names.2) shown.1

-- ---- the models with their types alone

module _ (named known : Schema) (same : (name : Name) → model_named known name ≡ model_named named name) where
  closed-field : (m n : ℕ) (d : FieldDef) (f : FieldInfo) → typed_field Types named m n d ≡ Ok f → IsField known m f × FieldIsShown f
  closed-field m n d f e =
      let a = field-parts Types named m n d f e in
      let type : a.0 ≡ f.ty = ap (λ (i : FieldInfo). i.ty) a.6 in
      let read : to_none ≡ f.read = none-at named m d.read a.1 a.4 ∙ ap (λ (i : FieldInfo). i.read) a.6 in
      let write : to_none ≡ f.write = none-at named m d.write a.2 a.5 ∙ ap (λ (i : FieldInfo). i.write) a.6 in
      let there = type-typed known d.ty a.0 (type-same named known same d.ty ∙ a.3) in
      (record { ty = subst (IsType known) type there; read = subst (IsPolicy known m) read tt; write = subst (IsPolicy known m) write tt }, (subst PolicyIsShown read tt, subst PolicyIsShown write tt))

  closed-list : (m n : ℕ) (defs : List FieldDef) (fs : List FieldInfo) → FieldsMade Types named m n defs fs → AllByRecursion (IsField known m) fs × AllByRecursion FieldIsShown fs
  closed-list m n [] [] made = (tt, tt)
  closed-list m n [] (f ∷ fs) made = absurd made
  closed-list m n (d ∷ ds) [] made = absurd made
  closed-list m n (d ∷ ds) (f ∷ fs) made =
      let one = closed-field m n d f made.0 in
      let rest = closed-list m (n + 1) ds fs made.1 in
      ((one.0, rest.0), (one.1, rest.1))

  closed-all : (n k : ℕ) (defs : List ModelDef) (is : List ModelInfo) → AllMade Types named n k defs is → AllByRecursion (IsModel known) is × AllByRecursion ModelIsShown is
  closed-all n k [] [] made = (tt, tt)
  closed-all n k [] (i ∷ is) made = absurd made
  closed-all n k (d ∷ ds) [] made = absurd made
  closed-all n k (d ∷ ds) (i ∷ is) made =
      let m = made.0 in
      let number : n ≡ i.number = ap (λ (j : ModelInfo). j.number) m.6 in
      let fields : m.2 ≡ i.fields = ap (λ (j : ModelInfo). j.fields) m.6 in
      let create : to_none ≡ i.create = none-at named n d.create m.0 m.3 ∙ ap (λ (j : ModelInfo). j.create) m.6 in
      let delete : to_none ≡ i.delete = none-at named n d.delete m.1 m.4 ∙ ap (λ (j : ModelInfo). j.delete) m.6 in
      let list = closed-list n k d.fields m.2 m.5 in
      let rest = closed-all (n + 1) (k + length i.fields) ds is made.1 in (
        (
          record {
            create = subst (IsPolicy known i.number) create tt;
            delete = subst (IsPolicy known i.number) delete tt;
            fields = subst (λ j. AllByRecursion (IsField known j) i.fields) number (subst (AllByRecursion (IsField known n)) fields list.0);
          },
          rest.0,
        ),
        ((subst PolicyIsShown create tt, subst PolicyIsShown delete tt, subst (AllByRecursion FieldIsShown) fields list.1), rest.1),
      )

  -- a model becomes the one with its policies
  abbrev Pairs : ℕ → List ModelInfo → List ModelInfo → Type 0
  Pairs k [] [] = Unit {0}
  Pairs k [] (c ∷ cs) = ⊥
  Pairs k (a ∷ as') [] = ⊥
  Pairs k (a ∷ as') (c ∷ cs) = (a.number ≡ c.number) × ((n : ℕ) → Becomes (the.Static k) n a c) × Pairs k as' cs

  pairs-become : (j n k : ℕ) (defs : List ModelDef) (as' cs : List ModelInfo) → AllMade Types named n k defs as' → AllMade Policies known n k defs cs → Pairs j as' cs
  pairs-become j n k [] [] [] one other = tt
  pairs-become j n k [] (a ∷ as') cs one other = absurd one
  pairs-become j n k [] [] (c ∷ cs) one other = absurd other
  pairs-become j n k (d ∷ ds) [] cs one other = absurd one
  pairs-become j n k (d ∷ ds) (a ∷ as') [] one other = absurd other
  pairs-become j n k (d ∷ ds) (a ∷ as') (c ∷ cs) one other =
      let x = one.0 in
      let y = other.0 in
      let a-fields : x.2 ≡ a.fields = ap (λ (i : ModelInfo). i.fields) x.6 in
      let c-fields : y.2 ≡ c.fields = ap (λ (i : ModelInfo). i.fields) y.6 in
      let principal : a.principal ≡ c.principal = sym (ap (λ (i : ModelInfo). i.principal) x.6) ∙ ap (λ (i : ModelInfo). i.principal) y.6 in
      let names : map (λ (f : FieldInfo). f.name) a.fields ≡ map (λ (f : FieldInfo). f.name) c.fields =
      sym (ap (map (λ (f : FieldInfo). f.name)) a-fields) ∙ made-names Types named n k d.fields x.2 x.5 ∙ sym (made-names Policies known n k d.fields y.2 y.5) ∙ ap (map (λ (f : FieldInfo). f.name)) c-fields in
      let long : length a.fields ≡ length c.fields = sym (length-map a.fields (λ (f : FieldInfo). f.name)) ∙ ap length names ∙ length-map c.fields (λ (f : FieldInfo). f.name) in
      let types : (f : ℕ) → option_map (λ (g : FieldInfo). g.ty) (field_in a.fields f) ≡ option_map (λ (g : FieldInfo). g.ty) (field_in c.fields f) =
      λ f. sym (ap (λ (fs : List FieldInfo). option_map (λ (g : FieldInfo). g.ty) (field_in fs f)) a-fields)
      ∙ both-types named known same n k d.fields x.2 y.2 x.5 y.5 f
      ∙ ap (λ (fs : List FieldInfo). option_map (λ (g : FieldInfo). g.ty) (field_in fs f)) c-fields in (
        sym (ap (λ (i : ModelInfo). i.number) x.6) ∙ ap (λ (i : ModelInfo). i.number) y.6,
        λ m. record { principal = λ h. sym principal ∙ h; field = λ f t other is. (sym (types f) ∙ is, static-free j t) },
        pairs-become j (n + 1) (k + length a.fields) ds as' cs one.1 (subst (λ l. AllMade Policies known (n + 1) (k + l) ds cs) (sym long) other.1),
      )

  pair-found : (j n : ℕ) (as' cs : List ModelInfo) (i : ModelInfo) → Pairs j as' cs → model_in as' n ≡ Some i → (later : ModelInfo) × (model_in cs n ≡ Some later) × Becomes (the.Static j) n i later
  pair-found j n [] cs i pairs e = absurd (cc e)
  pair-found j n (a ∷ as') [] i pairs e = absurd pairs
  pair-found j n (a ∷ as') (c ∷ cs) i pairs e = pick (λ e. pair-found j n as' cs i pairs.2 e) (a.number == n) refl e
    where
      pick : (model_in as' n ≡ Some i → (later : ModelInfo) × (model_in cs n ≡ Some later) × Becomes (the.Static j) n i later) → (b : Bool) → (a.number == n) ≡ b → cond b (Some a) (model_in as' n) ≡ Some i
          → (later : ModelInfo) × (cond (c.number == n) (Some c) (model_in cs n) ≡ Some later) × Becomes (the.Static j) n i later
      pick rest true is e =
          let same : a ≡ i = cc e in
          (c, ap (λ b. cond b (Some c) (model_in cs n)) (ap (λ m. m == n) (sym pairs.0) ∙ is), subst (λ (x : ModelInfo). Becomes (the.Static j) n x c) same (pairs.1 n))
      pick rest false is e =
          let found = rest e in
          (found.0, ap (λ b. cond b (Some c) (model_in cs n)) (ap (λ m. m == n) (sym pairs.0) ∙ is) ∙ found.1, found.2)

  -- it is there by its number
  pair-there : (j n : ℕ) (as' : List ModelInfo) (a : ModelInfo) → a.number ≡ n → IsTrue (is_some (model_in (a ∷ as') n))
  pair-there j n as' a is = ap (λ b. is_some (cond b (Some a) (model_in as' n))) (eq-eqb a.number n is)

-- the models with their policies
module _ (known after : Schema) (k : ℕ) (none : static_of known k ≡ None) (keeps : Keeps (the.Static k) known after) (have : HaveFields known) where
  model-good : (n f : ℕ) (d : ModelDef) (i : ModelInfo) → HasModel known n → ModelMade Policies known n f d i → ModelHasLiterals i → IsModel after i × ModelIsShown i
  model-good n f d i has m lit =
      let number : n ≡ i.number = ap (λ (j : ModelInfo). j.number) m.6 in
      let fields : m.2 ≡ i.fields = ap (λ (j : ModelInfo). j.fields) m.6 in
      let create-is : m.0 ≡ i.create = ap (λ (j : ModelInfo). j.create) m.6 in
      let delete-is : m.1 ≡ i.delete = ap (λ (j : ModelInfo). j.delete) m.6 in
      let create = over-good known n d.create m.0 have has (over-at known n d.create m.0 m.3) (subst PolicyHasLiterals (sym create-is) lit.0) in
      let delete = over-good known n d.delete m.1 have has (over-at known n d.delete m.1 m.4) (subst PolicyHasLiterals (sym delete-is) lit.1) in
      let list = fields-good known after k none keeps have n f d.fields i.fields has (subst (FieldsMade Policies known n f d.fields) fields m.5) lit.2 in (
        record {
          create = subst (λ j. IsPolicy after j i.create) number (subst (IsPolicy after n) create-is (policy-grown known k none after keeps n m.0 create.0 create.1));
          delete = subst (λ j. IsPolicy after j i.delete) number (subst (IsPolicy after n) delete-is (policy-grown known k none after keeps n m.1 delete.0 delete.1));
          fields = subst (λ j. AllByRecursion (IsField after j) i.fields) number list.0;
        },
        (subst PolicyIsShown create-is create.1, subst PolicyIsShown delete-is delete.1, list.1),
      )

  models-good : (n f : ℕ) (defs : List ModelDef) (is : List ModelInfo) → ((i : ℕ) → n ≤ i → i < n + length is → HasModel known i) → AllMade Policies known n f defs is → AllByRecursion ModelHasLiterals is
      → AllByRecursion (IsModel after) is × AllByRecursion ModelIsShown is
  models-good n f [] [] has made lit = (tt, tt)
  models-good n f [] (i ∷ is) has made lit = absurd made
  models-good n f (d ∷ ds) [] has made lit = absurd made
  models-good n f (d ∷ ds) (i ∷ is) has made lit =
      let one = model-good n f d i (has n (omega arith) (omega arith)) made.0 lit.0 in
      let rest = models-good (n + 1) (f + length i.fields) ds is (λ j low high. has j (omega arith) (omega arith)) made.1 lit.1 in
      ((one.0, rest.0), (one.1, rest.1))

-- ---- all of them

all-length : (stage : Stage) (over : Schema) (n k : ℕ) (defs : List ModelDef) (is : List ModelInfo) → AllMade stage over n k defs is → length is ≡ length defs
all-length stage over n k [] [] made = refl
all-length stage over n k [] (i ∷ is) made = absurd made
all-length stage over n k (d ∷ ds) [] made = absurd made
all-length stage over n k (d ∷ ds) (i ∷ is) made = ap (λ n. suc n) (all-length stage over (n + 1) (k + length i.fields) ds is made.1)

above : (n j : ℕ) → n ≤ j → (n ≡ j → ⊥) → n + 1 ≤ j
above n j low other = omega (arith, other)

made-there : (stage : Stage) (over : Schema) (n k : ℕ) (defs : List ModelDef) (is : List ModelInfo) → AllMade stage over n k defs is → (j : ℕ) → n ≤ j → j < n + length is → IsTrue (is_some (model_in is j))
made-there stage over n k [] [] made j low high = absurd (omega arith)
made-there stage over n k [] (i ∷ is) made j low high = absurd made
made-there stage over n k (d ∷ ds) [] made j low high = absurd made
made-there stage over n k (d ∷ ds) (i ∷ is) made j low high =
    let number : i.number ≡ n = sym (ap (λ (m : ModelInfo). m.number) made.0.6) in
    pick number (λ above. made-there stage over (n + 1) (k + length i.fields) ds is made.1 j above (omega arith)) (i.number == j) refl
  where
    pick : i.number ≡ n → (n + 1 ≤ j → IsTrue (is_some (model_in is j))) → (b : Bool) → (i.number == j) ≡ b → IsTrue (is_some (cond b (Some i) (model_in is j)))
    pick number rest true e = refl
    pick number rest false e =
        let apart : i.number ≡ j → ⊥ = λ same. let is : (i.number == j) ≡ true = eq-eqb i.number j same in absurd (cc (is, e)) in
        let other : n ≡ j → ⊥ = λ same. apart (number ∙ same) in
        rest (above n j low other)

steady-of : (s : Schema) → IsHalf s → IsTyped s → IsSteady s
steady-of s half typed = record {
  proper = record {
    typed = typed;
    names = half.names;
    statics = half.statics;
    models = half.models;
    fields = half.fields;
    added = half.added;
    order = half.order;
  };
  shown = half.shown;
  read = half.read;
}

models-steady : (s : Schema) → IsSteady s → s.models ≡ [] → (defs : List ModelDef) (out : Schema) → with_models s defs ≡ Ok out → AllByRecursion ModelHasLiterals out.models → IsSteady out × (out.added ≡ s.added)
unfolding with_models model_named
models-steady s steady empty defs out e lit =
    let (named, n1, e1) = bound (in_turn with_names s defs) _ out e in
    let (known, k1, e2) = bound (in_turn (with_typed Types named) s defs) _ out e1 in
    let N = all-named s defs named n1 in
    let K = all-made Types named s defs known k1 in
    let out-made = all-made Policies known s defs out e2 in
    let behind : (t : Schema) (is : List ModelInfo) → with_all s is ≡ t → t.models ≡ is =
    λ t is made. sym (ap (λ (z : Schema). z.models) made) ∙ all-models s is ∙ ap (λ (ms : List ModelInfo). ms ++ is) empty in
    let models-named : named.models ≡ N.1.0 = behind named N.1.0 N.1.1 in
    let models-known : known.models ≡ K.0 = behind known K.0 K.1 in
    let models-out : out.models ≡ out-made.0 = behind out out-made.0 out-made.1 in
    let statics-known : known.statics ≡ s.statics = sym (ap (λ (z : Schema). z.statics) K.1) ∙ all-statics s K.0 in
    let statics-out : out.statics ≡ s.statics = sym (ap (λ (z : Schema). z.statics) out-made.1) ∙ all-statics s out-made.0 in
    let same : (name : Name) → model_named known name ≡ model_named named name =
    λ name. ap (λ (ms : List ModelInfo). option_map (λ (i : ModelInfo). i.number) (find (λ (i : ModelInfo). bytes_eq i.name name) ms)) models-known
    ∙ same-named name K.0 N.1.0 (pairs-of Types named s.next_model s.next_field defs K.0 N.1.0 K.2 N.1.2)
    ∙ sym (ap (λ (ms : List ModelInfo). option_map (λ (i : ModelInfo). i.number) (find (λ (i : ModelInfo). bytes_eq i.name name) ms)) models-named) in
    let closed = closed-all named known same s.next_model s.next_field defs K.0 K.2 in
    let half-known : IsHalf known = subst IsHalf K.1 (half-all Types named s defs K.0 (half-of s steady) K.2 N.0 closed.1) in
    let known-steady : IsSteady known = steady-of known half-known (subst (AllByRecursion (IsModel known)) (sym models-known) closed.0) in
    let have : HaveFields known = have-fields known known-steady in
    let pairs = pairs-become named known same s.next_static s.next_model s.next_field defs K.0 out-made.0 K.2 out-made.2 in
    let keeps : Keeps (the.Static s.next_static) known out =
    keeps-found (the.Static s.next_static) known out
    (λ n other has. ap (λ (all : List StaticInfo). is_some (find (λ (i : StaticInfo). i.number == n) all)) (statics-out ∙ sym statics-known) ∙ has)
    (λ n i free is.
    let found = pair-found named known same s.next_static n K.0 out-made.0 i pairs (sym (ap (λ (ms : List ModelInfo). model_in ms n) models-known) ∙ is) in
    (found.0, ap (λ (ms : List ModelInfo). model_in ms n) models-out ∙ found.1, found.2)) in
    let none : static_of known s.next_static ≡ None =
    ap (λ (all : List StaticInfo). find (λ (i : StaticInfo). i.number == s.next_static) all) statics-known ∙ next-is-free s steady.proper in
    let long : length K.0 ≡ length out-made.0 =
    all-length Types named s.next_model s.next_field defs K.0 K.2 ∙ sym (all-length Policies known s.next_model s.next_field defs out-made.0 out-made.2) in
    let has : (j : ℕ) → s.next_model ≤ j → j < s.next_model + length out-made.0 → HasModel known j =
    λ j low high. ap (λ (ms : List ModelInfo). is_some (model_in ms j)) models-known ∙ made-there Types named s.next_model s.next_field defs K.0 K.2 j low (omega (arith, long)) in
    let good = models-good known out s.next_static none keeps have s.next_model s.next_field defs out-made.0 has out-made.2 (subst (AllByRecursion ModelHasLiterals) models-out lit) in
    let half-out : IsHalf out = subst IsHalf out-made.1 (half-all Policies known s defs out-made.0 (half-of s steady) out-made.2 N.0 good.1) in
    (steady-of out half-out (subst (AllByRecursion (IsModel out)) (sym models-out) good.0), sym (ap (λ (z : Schema). z.added) out-made.1) ∙ all-added s out-made.0)

-- ---- statics

abbrev IsBare : Schema → Type 0
IsBare s = IsSteady s × (s.models ≡ []) × (s.added ≡ [])

empty-steady : IsSteady empty_schema
empty-steady = record {
  proper = record {
    typed = tt;
    names = distinct-none bytes_eq;
    statics = record { distinct = distinct-none nat_eq; below = tt };
    models = record { distinct = distinct-none nat_eq; below = tt };
    fields = tt;
    added = record { distinct = distinct-none nat_eq; below = tt };
    order = tt;
  };
  shown = tt;
  read = tt;
}

statics-steady : (names : List Named) (s out : Schema) → IsBare s → in_turn with_static s names ≡ Ok out → IsBare out
unfolding with_static
statics-steady [] s out bare e = subst IsBare (ok-same s out e) bare
statics-steady (x ∷ names) s out bare e =
    let (more, goes, rest) = bound (with_static s x) (λ after. in_turn with_static after names) out e in
    let (u, new, e1) = bound (new_static s x) (λ _. Ok (schema_after s (add_static (next_static s x)))) more goes in
    let made : schema_after s (add_static (next_static s x)) ≡ more = ok-same _ more e1 in
    let steady : IsSteady (schema_after s (add_static (next_static s x))) =
    added_static-steady s bare.0 (next_static s x) refl (new-name s x.name (not-taken (is_taken s x.name) _ _ x u new)) in
    statics-steady names more out (subst IsBare made (steady, bare.1, bare.2)) rest

pub specs_are_steady : SpecsAreSteady
unfolding typed_spec resolved_spec
specs_are_steady sizes spec s lit e =
    let (found, is, e1) = bound (resolved_spec spec) _ s e in
    let (u, small, e2) = bound (models_are_small sizes found found.models spec.models) _ s e1 in
    let same : found ≡ s = ok-same found s e2 in
    let (start, goes, e3) = bound (in_turn with_static empty_schema spec.statics) (λ (t : Schema). with_models t spec.models) found is in
    let bare = statics-steady spec.statics empty_schema start (empty-steady, refl, refl) goes in
    let lits : AllByRecursion ModelHasLiterals found.models = subst (λ (t : Schema). AllByRecursion ModelHasLiterals t.models) (sym same) lit in
    let done = models-steady start bare.0 bare.1 spec.models found e3 lits in
    (subst IsSteady same done.0, sym (ap (λ (t : Schema). t.added) same) ∙ done.1 ∙ bare.2)
