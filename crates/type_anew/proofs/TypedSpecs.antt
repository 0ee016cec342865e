-- The schema of a specification is written as the specification, offsets aside.
use Rattle.std.proofs.Common.{◌≡◌, ◌==◌, ℕ, suc, ◌+◌, Bool, true, false, cond, List, [], ◌∷◌, ◌++◌, length, map, refl, sym, ap, ◌∙◌, subst, append_assoc, append-nil}
use Rattle.std.specs.Prelude.{Option, Some, Ok, option_and_then}
use Rattle.std.specs.List.{find}
use Rattle.std.specs.Option.{option_map}
use Rattle.std.specs.Str.{bytes_eq}
use Rattle.std.proofs.lemmas.List.{map-append}
use Rattle.text_tree.specs.declared.named.Named.{Named}
use Rattle.text_tree.specs.declared.models.Base as tree_base
use Rattle.text_tree.specs.declared.models.Base.TheVariants as b
use Rattle.text_tree.specs.declared.models.Ty as tree_ty
use Rattle.text_tree.specs.declared.models.Ty.TheVariants as ty
use Rattle.text_tree.specs.declared.models.FieldDef.{FieldDef}
use Rattle.text_tree.specs.declared.models.ModelDef.{ModelDef}
use Rattle.text_tree.specs.declared.policies.Policy as tree_policy
use Rattle.text_tree.specs.Stripped.{stripped_base, stripped_field, stripped_model, stripped_name, stripped_policy, stripped_type}
use Rattle.type_schema.specs.declared.types.TBase.{TBase}
use Rattle.type_schema.specs.declared.types.TBase.TheVariants as base
use Rattle.type_schema.specs.declared.types.TTy.{TTy}
use Rattle.type_schema.specs.declared.types.TTy.TheVariants.{Plain, Set, Opt}
use Rattle.type_schema.specs.Trees.{Name, Policy}
use Rattle.type_schema.specs.Schema.{StaticInfo, FieldInfo, ModelInfo, Schema, model_in}
use Rattle.type_schema.specs.Commands.{add_static, schema_after}
use Rattle.type_schema.specs.Views.{policy_of}
use Rattle.type_typing.specs.declared.type_err.TypeErr.TheVariants.{Unknown}
use Rattle.type_typing.specs.Names.{field_named, model_named, static_named}
use Rattle.type_typing.specs.Policies.{typed_base, typed_model as typed_name, typed_policy, typed_type}
use Rattle.type_specs.specs.declared.stage.Stage.{Stage}
use Rattle.type_specs.specs.declared.stage.Stage.TheVariants.{Types, Policies}
use Rattle.type_specs.specs.InTurn.{in_turn}
use Rattle.type_specs.specs.Models.{policy_at, policy_over, typed_field, typed_model, with_model, with_models, with_names, with_typed}
use Rattle.type_specs.specs.NewNames.{new_static}
use Rattle.type_specs.specs.Sizes.{models_are_small}
use Rattle.type_specs.specs.Specs.{empty_schema, next_static, resolved_spec, typed_spec, with_static}
use Rattle.type_proper.proofs.NewField.{field-parts, over-at}
use Rattle.type_proper.proofs.NewModel.{FieldsMade, model-parts}
use Rattle.type_proper.proofs.Resolves.{bound, ok-same, or_else-some}
use Rattle.type_anew.specs.Names.{Names, named, names_in}
use Rattle.type_anew.specs.Trees.{written_policy}
use Rattle.type_anew.specs.Specs.{written_base, written_field, written_model, written_type}
use Rattle.type_anew.specs.RoundTrip.{SpecsComeBack}
use Rattle.type_anew.proofs.Lookups.{names-are-right}
use Rattle.type_anew.proofs.Trees.{AreRight, policy_back}

-- ---- types and policies

module _ (s : Schema) (n : Names) (right : AreRight s n) where
  model_right : (x : Named) (m : ℕ) → typed_name s x ≡ Ok m → n.model m ≡ x.name
  model_right x m e = right.model x.name m (or_else-some (model_named s x.name) (Unknown x.at) m e)

  base_back : (x : tree_base.Base) (t : TBase) → typed_base s x ≡ Ok t → written_base n t ≡ stripped_base x
  unfolding typed_base
  base_back (b.Bool at) t e = sym (ap (written_base n) (ok-same base.Bool t e))
  base_back (b.Int at) t e = sym (ap (written_base n) (ok-same base.Int t e))
  base_back (b.Text at) t e = sym (ap (written_base n) (ok-same base.Text t e))
  base_back (b.Id model at) t e =
      let (m, is, e1) = bound (typed_name s model) (λ m. Ok (base.Id m)) t e in
      sym (ap (written_base n) (ok-same (base.Id m) t e1)) ∙ ap (λ z. b.Id (named z) 0) (model_right model m is)

  pub type_back : (x : tree_ty.Ty) (t : TTy) → typed_type s x ≡ Ok t → written_type n t ≡ stripped_type x
  unfolding typed_type
  type_back (ty.Plain x) t e =
      let (u, is, e1) = bound (typed_base s x) (λ u. Ok (Plain u)) t e in
      sym (ap (written_type n) (ok-same (Plain u) t e1)) ∙ ap ty.Plain (base_back x u is)
  type_back (ty.Set model at) t e =
      let (m, is, e1) = bound (typed_name s model) (λ m. Ok (Set m)) t e in
      sym (ap (written_type n) (ok-same (Set m) t e1)) ∙ ap (λ z. ty.Set (named z) 0) (model_right model m is)
  type_back (ty.Opt x at) t e =
      let (u, is, e1) = bound (typed_base s x) (λ u. Ok (Opt u)) t e in
      sym (ap (written_type n) (ok-same (Opt u) t e1)) ∙ ap (λ z. ty.Opt z 0) (base_back x u is)

  pub over_back : (m : ℕ) (p : tree_policy.Policy) (policy : Policy) → policy_over s m p ≡ Ok policy → written_policy n policy ≡ stripped_policy p
  unfolding policy_over
  over_back m p policy e =
      let k = bound (typed_policy s m p) (λ typed. Ok (policy_of typed)) policy e in
      sym (ap (written_policy n) (ok-same (policy_of k.0) policy k.2)) ∙ policy_back s n right m p k.0 k.1

  -- ---- fields and models of the last stage

  pub field_back : (m k : ℕ) (d : FieldDef) (f : FieldInfo) → typed_field Policies s m k d ≡ Ok f → written_field n f ≡ stripped_field d
  field_back m k d f e =
      let a = field-parts Policies s m k d f e in
      let type = type_back d.ty a.0 a.3 in
      let read = over_back m d.read a.1 (over-at s m d.read a.1 a.4) in
      let write = over_back m d.write a.2 (over-at s m d.write a.2 a.5) in
      sym (ap (written_field n) a.6)
      ∙ ap (λ z. record { name = named d.name.name; ty = z; read = written_policy n a.1; write = written_policy n a.2 }) type
      ∙ ap (λ z. record { name = named d.name.name; ty = stripped_type d.ty; read = z; write = written_policy n a.2 }) read
      ∙ ap (λ z. record { name = named d.name.name; ty = stripped_type d.ty; read = stripped_policy d.read; write = z }) write

  pub fields_back : (m k : ℕ) (ds : List FieldDef) (fs : List FieldInfo) → FieldsMade Policies s m k ds fs → map (written_field n) fs ≡ map stripped_field ds
  fields_back m k [] [] made = refl
  fields_back m k [] (f ∷ fs) made = absurd made
  fields_back m k (d ∷ ds) [] made = absurd made
  fields_back m k (d ∷ ds) (f ∷ fs) made =
      ap (λ z. z ∷ map (written_field n) fs) (field_back m k d f made.0) ∙ ap (λ zs. stripped_field d ∷ zs) (fields_back m (k + 1) ds fs made.1)

-- ---- models one after the other

abbrev pub with_all : Schema → List ModelInfo → Schema
with_all s [] = s
with_all s (i ∷ is) = with_all (with_model s i) is

all-models : (s : Schema) (is : List ModelInfo) → (with_all s is).models ≡ s.models ++ is
all-models s [] = sym (append-nil s.models)
all-models s (i ∷ is) = all-models (with_model s i) is ∙ append_assoc s.models (i ∷ []) is

all-statics : (s : Schema) (is : List ModelInfo) → (with_all s is).statics ≡ s.statics
all-statics s [] = refl
all-statics s (i ∷ is) = all-statics (with_model s i) is

-- a model of a stage, with this number and fields from this one on
abbrev pub ModelMade : Stage → Schema → ℕ → ℕ → ModelDef → ModelInfo → Type 0
ModelMade stage over n k d info =
    (create : Policy) × (delete : Policy) × (fields : List FieldInfo) × (policy_at stage over n d.create ≡ Ok create) × (policy_at stage over n d.delete ≡ Ok delete)
    × FieldsMade stage over n k d.fields fields
    × ((record { number = n; name = d.name.name; principal = d.principal; create = create; delete = delete; fields = fields }) ≡ info)

abbrev pub AllMade : Stage → Schema → ℕ → ℕ → List ModelDef → List ModelInfo → Type 0
AllMade stage over n k [] [] = Unit {0}
AllMade stage over n k [] (i ∷ is) = ⊥
AllMade stage over n k (d ∷ ds) [] = ⊥
AllMade stage over n k (d ∷ ds) (i ∷ is) = ModelMade stage over n k d i × AllMade stage over (n + 1) (k + length i.fields) ds is

all-made : (stage : Stage) (over s : Schema) (defs : List ModelDef) (out : Schema) → in_turn (with_typed stage over) s defs ≡ Ok out
    → (is : List ModelInfo) × (with_all s is ≡ out) × AllMade stage over s.next_model s.next_field defs is
unfolding with_typed
all-made stage over s [] out e = ([], ok-same s out e, tt)
all-made stage over s (d ∷ ds) out e =
    let (more, goes, rest) = bound (with_typed stage over s d) (λ after. in_turn (with_typed stage over) after ds) out e in
    let (i, made, is) = bound (typed_model stage over s d) (λ (i : ModelInfo). Ok (with_model s i)) more goes in
    let there : with_model s i ≡ more = ok-same (with_model s i) more is in
    let later = all-made stage over (with_model s i) ds out (subst (λ (t : Schema). in_turn (with_typed stage over) t ds ≡ Ok out) (sym there) rest) in
    (i ∷ later.0, later.1, (model-parts stage over s d i made, later.2))

module _ (s : Schema) (n : Names) (right : AreRight s n) where
  pub model_back : (m k : ℕ) (d : ModelDef) (i : ModelInfo) → ModelMade Policies s m k d i → written_model n i ≡ stripped_model d
  model_back m k d i made =
      let create = over_back s n right m d.create made.0 (over-at s m d.create made.0 made.3) in
      let delete = over_back s n right m d.delete made.1 (over-at s m d.delete made.1 made.4) in
      let fields = fields_back s n right m k d.fields made.2 made.5 in
      sym (ap (written_model n) made.6)
      ∙ ap (λ z. record { principal = d.principal; name = named d.name.name; create = z; delete = written_policy n made.1; fields = map (written_field n) made.2; at = 0 }) create
      ∙ ap (λ z. record { principal = d.principal; name = named d.name.name; create = stripped_policy d.create; delete = z; fields = map (written_field n) made.2; at = 0 }) delete
      ∙ ap (λ z. record { principal = d.principal; name = named d.name.name; create = stripped_policy d.create; delete = stripped_policy d.delete; fields = z; at = 0 }) fields

  models_back : (m k : ℕ) (ds : List ModelDef) (is : List ModelInfo) → AllMade Policies s m k ds is → map (written_model n) is ≡ map stripped_model ds
  models_back m k [] [] made = refl
  models_back m k [] (i ∷ is) made = absurd made
  models_back m k (d ∷ ds) [] made = absurd made
  models_back m k (d ∷ ds) (i ∷ is) made =
      ap (λ z. z ∷ map (written_model n) is) (model_back m k d i made.0) ∙ ap (λ zs. stripped_model d ∷ zs) (models_back (m + 1) (k + length i.fields) ds is made.1)

-- ---- both stages give the same numbers and names

abbrev pub SameFields : List FieldInfo → List FieldInfo → Type 0
SameFields [] [] = Unit {0}
SameFields [] (g ∷ gs) = ⊥
SameFields (f ∷ fs) [] = ⊥
SameFields (f ∷ fs) (g ∷ gs) = (f.number ≡ g.number) × (f.name ≡ g.name) × SameFields fs gs

abbrev pub SameModels : List ModelInfo → List ModelInfo → Type 0
SameModels [] [] = Unit {0}
SameModels [] (j ∷ js) = ⊥
SameModels (i ∷ is) [] = ⊥
SameModels (i ∷ is) (j ∷ js) = (i.number ≡ j.number) × (i.name ≡ j.name) × SameFields i.fields j.fields × SameModels is js

fields-same : (one other : Schema) (m k : ℕ) (ds : List FieldDef) (fs gs : List FieldInfo) → FieldsMade Types one m k ds fs → FieldsMade Policies other m k ds gs → SameFields fs gs
fields-same one other m k [] [] [] a z = tt
fields-same one other m k [] [] (g ∷ gs) a z = absurd z
fields-same one other m k [] (f ∷ fs) gs a z = absurd a
fields-same one other m k (d ∷ ds) [] gs a z = absurd a
fields-same one other m k (d ∷ ds) (f ∷ fs) [] a z = absurd z
fields-same one other m k (d ∷ ds) (f ∷ fs) (g ∷ gs) a z =
    let x = field-parts Types one m k d f a.0 in
    let y = field-parts Policies other m k d g z.0 in
    (sym (ap (λ (i : FieldInfo). i.number) x.6) ∙ ap (λ (i : FieldInfo). i.number) y.6, sym (ap (λ (i : FieldInfo). i.name) x.6) ∙ ap (λ (i : FieldInfo). i.name) y.6, fields-same one other m (k + 1) ds fs gs a.1 z.1)

same-length : (fs gs : List FieldInfo) → SameFields fs gs → length fs ≡ length gs
same-length [] [] same = refl
same-length [] (g ∷ gs) same = absurd same
same-length (f ∷ fs) [] same = absurd same
same-length (f ∷ fs) (g ∷ gs) same = ap (λ n. suc n) (same-length fs gs same.2)

pub models-same : (one other : Schema) (m k : ℕ) (ds : List ModelDef) (is js : List ModelInfo) → AllMade Types one m k ds is → AllMade Policies other m k ds js → SameModels is js
models-same one other m k [] [] [] a z = tt
models-same one other m k [] [] (j ∷ js) a z = absurd z
models-same one other m k [] (i ∷ is) js a z = absurd a
models-same one other m k (d ∷ ds) [] js a z = absurd a
models-same one other m k (d ∷ ds) (i ∷ is) [] a z = absurd z
models-same one other m k (d ∷ ds) (i ∷ is) (j ∷ js) a z =
    let x = a.0 in
    let y = z.0 in
    let x-fields : x.2 ≡ i.fields = ap (λ (e : ModelInfo). e.fields) x.6 in
    let y-fields : y.2 ≡ j.fields = ap (λ (e : ModelInfo). e.fields) y.6 in
    let fields : SameFields i.fields j.fields = subst (λ (gs : List FieldInfo). SameFields i.fields gs) y-fields (subst (λ (fs : List FieldInfo). SameFields fs y.2) x-fields (fields-same one other m k d.fields x.2 y.2 x.5 y.5)) in (
      sym (ap (λ (e : ModelInfo). e.number) x.6) ∙ ap (λ (e : ModelInfo). e.number) y.6,
      sym (ap (λ (e : ModelInfo). e.name) x.6) ∙ ap (λ (e : ModelInfo). e.name) y.6,
      fields,
      models-same one other (m + 1) (k + length i.fields) ds is js a.1 (subst (λ l. AllMade Policies other (m + 1) (k + l) ds js) (sym (same-length i.fields j.fields fields)) z.1),
    )

model-found : (name : Name) (is js : List ModelInfo) → SameModels is js
    → option_map (λ (i : ModelInfo). i.number) (find (λ (i : ModelInfo). bytes_eq i.name name) is) ≡ option_map (λ (i : ModelInfo). i.number) (find (λ (i : ModelInfo). bytes_eq i.name name) js)
model-found name [] [] same = refl
model-found name [] (j ∷ js) same = absurd same
model-found name (i ∷ is) [] same = absurd same
model-found name (i ∷ is) (j ∷ js) same =
    ap (λ (x : Name). option_map (λ (e : ModelInfo). e.number) (cond (bytes_eq x name) (Some i) (find (λ (e : ModelInfo). bytes_eq e.name name) is))) same.1 ∙ pick same.0 (model-found name is js same.3) (bytes_eq j.name name)
  where
    pick : i.number ≡ j.number
        → option_map (λ (e : ModelInfo). e.number) (find (λ (e : ModelInfo). bytes_eq e.name name) is) ≡ option_map (λ (e : ModelInfo). e.number) (find (λ (e : ModelInfo). bytes_eq e.name name) js) → (c : Bool)
        → option_map (λ (e : ModelInfo). e.number) (cond c (Some i) (find (λ (e : ModelInfo). bytes_eq e.name name) is)) ≡ option_map (λ (e : ModelInfo). e.number) (cond c (Some j) (find (λ (e : ModelInfo). bytes_eq e.name name) js))
    pick number rest true = ap Some number
    pick number rest false = rest

abbrev number_and_type : FieldInfo → ℕ × TTy
number_and_type f = (f.number, f.ty)

abbrev number_named : Name → List FieldInfo → Option ℕ
number_named name fs = option_map (λ (f : ℕ × TTy). f.0) (option_map number_and_type (find (λ (f : FieldInfo). bytes_eq f.name name) fs))

field-found : (name : Name) (fs gs : List FieldInfo) → SameFields fs gs → number_named name fs ≡ number_named name gs
field-found name [] [] same = refl
field-found name [] (g ∷ gs) same = absurd same
field-found name (f ∷ fs) [] same = absurd same
field-found name (f ∷ fs) (g ∷ gs) same =
    ap (λ (x : Name). option_map (λ (e : ℕ × TTy). e.0) (option_map number_and_type (cond (bytes_eq x name) (Some f) (find (λ (e : FieldInfo). bytes_eq e.name name) fs)))) same.1 ∙ pick same.0 (field-found name fs gs same.2) (bytes_eq g.name name)
  where
    pick : f.number ≡ g.number → number_named name fs ≡ number_named name gs → (c : Bool)
        → option_map (λ (e : ℕ × TTy). e.0) (option_map number_and_type (cond c (Some f) (find (λ (e : FieldInfo). bytes_eq e.name name) fs))) ≡ option_map (λ (e : ℕ × TTy). e.0) (option_map number_and_type (cond c (Some g) (find (λ (e : FieldInfo). bytes_eq e.name name) gs)))
    pick number rest true = ap Some number
    pick number rest false = rest

abbrev field_within : Name → Option ModelInfo → Option ℕ
field_within name o =
    option_map (λ (f : ℕ × TTy). f.0) (option_and_then (λ (i : ModelInfo). option_map (λ (f : FieldInfo). (f.number, f.ty)) (find (λ (f : FieldInfo). bytes_eq f.name name) i.fields)) o)

fields-found : (m : ℕ) (name : Name) (is js : List ModelInfo) → SameModels is js → field_within name (model_in is m) ≡ field_within name (model_in js m)
fields-found m name [] [] same = refl
fields-found m name [] (j ∷ js) same = absurd same
fields-found m name (i ∷ is) [] same = absurd same
fields-found m name (i ∷ is) (j ∷ js) same =
    ap (λ k. field_within name (cond (k == m) (Some i) (model_in is m))) same.0 ∙ pick (field-found name i.fields j.fields same.2) (fields-found m name is js same.3) (j.number == m)
  where
    pick : number_named name i.fields ≡ number_named name j.fields → field_within name (model_in is m) ≡ field_within name (model_in js m) → (c : Bool)
        → field_within name (cond c (Some i) (model_in is m)) ≡ field_within name (cond c (Some j) (model_in js m))
    pick here rest true = here
    pick here rest false = rest

-- what is right of a schema is right of one with the same numbers and names
pub right-too : (s other : Schema) (n : Names) → SameModels other.models s.models → other.statics ≡ s.statics → AreRight s n → AreRight other n
unfolding model_named field_named static_named
right-too s other n same statics right = record {
  model = λ name m e. right.model name m (sym (model-found name other.models s.models same) ∙ e);
  field = λ m name k e. right.field m name k (sym (fields-found m name other.models s.models same) ∙ e);
  static = λ name k e. right.static name k (sym (ap (λ (all : List StaticInfo). option_map (λ (i : StaticInfo). i.number) (find (λ (i : StaticInfo). bytes_eq i.name name) all)) statics) ∙ e);
}

-- ---- statics

abbrev names_of_statics : List StaticInfo → List Named
names_of_statics all = map (λ (i : StaticInfo). named i.name) all

statics-made : (names : List Named) (s out : Schema) → in_turn with_static s names ≡ Ok out
    → (names_of_statics out.statics ≡ names_of_statics s.statics ++ map stripped_name names) × (out.models ≡ s.models)
unfolding with_static
statics-made [] s out e =
    let same : s ≡ out = ok-same s out e in
    (sym (ap (λ (t : Schema). names_of_statics t.statics) same) ∙ sym (append-nil (names_of_statics s.statics)), sym (ap (λ (t : Schema). t.models) same))
statics-made (x ∷ names) s out e =
    let (more, goes, rest) = bound (with_static s x) (λ after. in_turn with_static after names) out e in
    let (u, new, e1) = bound (new_static s x) (λ _. Ok (schema_after s (add_static (next_static s x)))) more goes in
    let made : schema_after s (add_static (next_static s x)) ≡ more = ok-same _ more e1 in
    let later = statics-made names more out rest in
    let here : names_of_statics more.statics ≡ names_of_statics s.statics ++ stripped_name x ∷ [] =
    sym (ap (λ (t : Schema). names_of_statics t.statics) made) ∙ map-append (λ (i : StaticInfo). named i.name) s.statics (next_static s x ∷ []) in (
      later.0 ∙ ap (λ (all : List Named). all ++ map stripped_name names) here ∙ append_assoc (names_of_statics s.statics) (stripped_name x ∷ []) (map stripped_name names),
      later.1 ∙ sym (ap (λ (t : Schema). t.models) made),
    )

-- ---- whole specifications

pub specs_come_back : SpecsComeBack
unfolding typed_spec resolved_spec with_models
specs_come_back sizes spec s proper e =
    let (found, is, e1) = bound (resolved_spec spec) _ s e in
    let (u, small, e2) = bound (models_are_small sizes found found.models spec.models) _ s e1 in
    let same : found ≡ s = ok-same found s e2 in
    let (start, goes, e3) = bound (in_turn with_static empty_schema spec.statics) (λ (t : Schema). with_models t spec.models) found is in
    let (names, n1, e4) = bound (in_turn with_names start spec.models) _ found e3 in
    let (known, k1, e5) = bound (in_turn (with_typed Types names) start spec.models) _ found e4 in
    let with-statics = statics-made spec.statics empty_schema start goes in
    let with-types = all-made Types names start spec.models known k1 in
    let with-policies = all-made Policies known start spec.models found e5 in
    let models-known : known.models ≡ with-types.0 = sym (ap (λ (t : Schema). t.models) with-types.1) ∙ all-models start with-types.0 ∙ ap (λ (ms : List ModelInfo). ms ++ with-types.0) with-statics.1 in
    let models-found : found.models ≡ with-policies.0 = sym (ap (λ (t : Schema). t.models) with-policies.1) ∙ all-models start with-policies.0 ∙ ap (λ (ms : List ModelInfo). ms ++ with-policies.0) with-statics.1 in
    let models-s : s.models ≡ with-policies.0 = sym (ap (λ (t : Schema). t.models) same) ∙ models-found in
    let statics-known : known.statics ≡ start.statics = sym (ap (λ (t : Schema). t.statics) with-types.1) ∙ all-statics start with-types.0 in
    let statics-s : s.statics ≡ start.statics = sym (ap (λ (t : Schema). t.statics) same) ∙ sym (ap (λ (t : Schema). t.statics) with-policies.1) ∙ all-statics start with-policies.0 in
    let pairs : SameModels known.models s.models =
    subst (λ (ms : List ModelInfo). SameModels ms s.models) (sym models-known)
    (subst (λ (ms : List ModelInfo). SameModels with-types.0 ms) (sym models-s) (models-same names known start.next_model start.next_field spec.models with-types.0 with-policies.0 with-types.2 with-policies.2)) in
    let right : AreRight known (names_in s) = right-too s known (names_in s) pairs (statics-known ∙ sym statics-s) (names-are-right s proper) in
    let models : map (written_model (names_in s)) s.models ≡ map stripped_model spec.models =
    ap (map (written_model (names_in s))) models-s ∙ models_back known (names_in s) right start.next_model start.next_field spec.models with-policies.0 with-policies.2 in
    let statics : names_of_statics s.statics ≡ map stripped_name spec.statics = ap names_of_statics statics-s ∙ with-statics.0 in
    ap (λ z. record { statics = z; models = map (written_model (names_in s)) s.models }) statics ∙ ap (λ z. record { statics = map stripped_name spec.statics; models = z }) models
