-- The models that typing gives of the tree of a schema stand beside those of the schema.
use Rattle.std.proofs.Common.{◌≡◌, ℕ, ◌+◌, List, [], ◌∷◌, ◌++◌, length, map, refl, sym, ap, ◌∙◌, subst, arith, append_assoc, append-nil}
use Rattle.std.specs.Prelude.{Ok, Some}
use Rattle.std.specs.List.{AllByRecursion}
use Rattle.std.proofs.lemmas.List.Sums.{sum_by-cons}
use Rattle.text_tree.specs.declared.named.Named.{Named}
use Rattle.text_tree.specs.declared.models.ModelDef.{ModelDef}
use Rattle.type_schema.specs.declared.types.TBase.{TBase}
use Rattle.type_schema.specs.declared.types.TBase.TheVariants as base
use Rattle.type_schema.specs.declared.types.TTy.{TTy}
use Rattle.type_schema.specs.declared.types.TTy.TheVariants.{Plain, Set, Opt}
use Rattle.type_schema.specs.Trees.{Policy}
use Rattle.type_schema.specs.Schema.{StaticInfo, FieldInfo, ModelInfo, Schema}
use Rattle.type_schema.specs.Typing.{HasModel, IsBase, IsType}
use Rattle.type_schema.specs.Commands.{add_static, schema_after}
use Rattle.type_typing.specs.declared.type_err.TypeErr.TheVariants.{Unknown}
use Rattle.type_typing.specs.Names.{model_named}
use Rattle.type_typing.specs.Outcome.{Checked, ◌>>=◌, or_else}
use Rattle.type_typing.specs.Policies.{typed_base, typed_type}
use Rattle.type_specs.specs.declared.stage.Stage.{Stage}
use Rattle.type_specs.specs.InTurn.{in_turn}
use Rattle.type_specs.specs.Models.{bare_model, policy_at, typed_model, with_model, with_names, with_typed}
use Rattle.type_specs.specs.NewNames.{fields_differ, new_model as room_for_model, new_static as room_for_static}
use Rattle.type_specs.specs.Specs.{next_static, with_static}
use Rattle.type_proper.proofs.NewField.{field-parts}
use Rattle.type_proper.proofs.NewModel.{FieldsMade, model-parts}
use Rattle.type_proper.proofs.Resolves.{bound, ok-same}
use Rattle.type_anew.proofs.TypedSpecs.{AllMade}
use Rattle.type_anew.specs.Names.{named, names_in}
use Rattle.type_anew.specs.Trees.{written_policy}
use Rattle.type_anew.specs.Specs.{written_base, written_field, written_model, written_type}
use Rattle.data_records.specs.Renumbered.{field_count, new_model}
use Rattle.type_anew.proofs.Places.{ModelsGet}
use Rattle.type_anew.specs.RenumberedAnew.{AreStaticsAnew, renumbered_base, renumbered_type}
use Rattle.type_anew.proofs.Beside.{AreFieldsBeside, AreModelsBeside}
use Rattle.type_anew.proofs.Found.{AreNamed}

-- ---- parts that are added in turn

-- the statics of these names
pub record AreStaticsMade (u out : Schema) (xs ys : List StaticInfo) : Type 0 where
  pub statics : out.statics ≡ u.statics ++ ys
  pub anew : AreStaticsAnew u.next_static xs ys
  pub models : out.models ≡ u.models
  pub next_static : out.next_static ≡ u.next_static + length xs
  pub next_model : out.next_model ≡ u.next_model
  pub next_field : out.next_field ≡ u.next_field
  pub added : out.added ≡ u.added
  pub removed : out.removed ≡ u.removed

abbrev static_names : List StaticInfo → List Named
static_names xs = map (λ (a : StaticInfo). named a.name) xs

no-statics : (u : Schema) → AreStaticsMade u u [] []
no-statics u = record {
  statics = sym (append-nil u.statics);
  anew = tt;
  models = refl;
  next_static = omega arith;
  next_model = refl;
  next_field = refl;
  added = refl;
  removed = refl;
}

pub statics-made : (xs : List StaticInfo) (u out : Schema) → in_turn with_static u (static_names xs) ≡ Ok out → (ys : List StaticInfo) × AreStaticsMade u out xs ys
unfolding with_static
statics-made [] u out e = ([], subst (λ (o : Schema). AreStaticsMade u o [] []) (ok-same u out e) (no-statics u))
statics-made (x ∷ xs) u out e =
    let (more, goes, rest) = bound (with_static u (named x.name)) (λ after. in_turn with_static after (static_names xs)) out e in
    let (v, new, e1) = bound (room_for_static u (named x.name)) (λ _. Ok (schema_after u (add_static (next_static u (named x.name))))) more goes in
    let made : schema_after u (add_static (next_static u (named x.name))) ≡ more = ok-same _ more e1 in
    let later = statics-made xs (schema_after u (add_static (next_static u (named x.name)))) out (subst (λ (o : Schema). in_turn with_static o (static_names xs) ≡ Ok out) (sym made) rest) in
    let k = later.1 in (
      next_static u (named x.name) ∷ later.0,
      record {
        statics = k.statics ∙ append_assoc u.statics (next_static u (named x.name) ∷ []) later.0;
        anew = ((refl, refl), k.anew);
        models = k.models;
        next_static = omega (arith, k.next_static);
        next_model = k.next_model;
        next_field = k.next_field;
        added = k.added;
        removed = k.removed;
      },
    )

-- these models, one after the other
pub record IsGrown (u out : Schema) (is : List ModelInfo) : Type 0 where
  pub models : out.models ≡ u.models ++ is
  pub statics : out.statics ≡ u.statics
  pub next_static : out.next_static ≡ u.next_static
  pub next_model : out.next_model ≡ u.next_model + length is
  pub next_field : out.next_field ≡ u.next_field + field_count is
  pub added : out.added ≡ u.added
  pub removed : out.removed ≡ u.removed

none-grown : (u : Schema) → IsGrown u u []
none-grown u = record {
  models = sym (append-nil u.models);
  statics = refl;
  next_static = refl;
  next_model = omega arith;
  next_field = omega arith;
  added = refl;
  removed = refl;
}

grown-more : (u out : Schema) (i : ModelInfo) (is : List ModelInfo) → IsGrown (with_model u i) out is → IsGrown u out (i ∷ is)
grown-more u out i is k = record {
  models = k.models ∙ append_assoc u.models (i ∷ []) is;
  statics = k.statics;
  next_static = k.next_static;
  next_model = omega (arith, k.next_model);
  next_field = omega (arith, k.next_field, sum_by-cons (λ (m : ModelInfo). length m.fields) i is);
  added = k.added;
  removed = k.removed;
}

pub models-made : (stage : Stage) (over u : Schema) (defs : List ModelDef) (out : Schema) → in_turn (with_typed stage over) u defs ≡ Ok out
    → (is : List ModelInfo) × IsGrown u out is × AllMade stage over u.next_model u.next_field defs is
unfolding with_typed
models-made stage over u [] out e = ([], subst (λ (o : Schema). IsGrown u o []) (ok-same u out e) (none-grown u), tt)
models-made stage over u (d ∷ ds) out e =
    let (more, goes, rest) = bound (with_typed stage over u d) (λ after. in_turn (with_typed stage over) after ds) out e in
    let (i, made, is) = bound (typed_model stage over u d) (λ (i : ModelInfo). Ok (with_model u i)) more goes in
    let there : with_model u i ≡ more = ok-same (with_model u i) more is in
    let later = models-made stage over (with_model u i) ds out (subst (λ (o : Schema). in_turn (with_typed stage over) o ds ≡ Ok out) (sym there) rest) in
    (i ∷ later.0, grown-more u out i later.0 later.1, (model-parts stage over u d i made, later.2))

abbrev pub AreDefsNamed : ℕ → List ModelInfo → List ModelInfo → Type 0
AreDefsNamed = AreNamed {A = ModelInfo} {B = ModelInfo} (λ a. a.number) (λ a. a.name) (λ a. a.number) (λ a. a.name)

module _ (s : Schema) where
  abbrev pub defs : List ModelInfo → List ModelDef
  defs ms = map (written_model (names_in s)) ms

  pub names-made : (ms : List ModelInfo) (u out : Schema) → in_turn with_names u (defs ms) ≡ Ok out → (bs : List ModelInfo) × (out.models ≡ u.models ++ bs) × AreDefsNamed u.next_model ms bs
  unfolding with_names
  names-made [] u out e = ([], sym (ap (λ (o : Schema). o.models) (ok-same u out e)) ∙ sym (append-nil u.models), tt)
  names-made (a ∷ ms) u out e =
      let d : ModelDef = written_model (names_in s) a in
      let (more, goes, rest) = bound (with_names u d) (λ after. in_turn with_names after (defs ms)) out e in
      let (v, new, e1) = bound (room_for_model u d.name) _ more goes in
      let (w, differ, e2) = bound (fields_differ d.fields) _ more e1 in
      let b : ModelInfo = bare_model u d in
      let there : with_model u b ≡ more = ok-same (with_model u b) more e2 in
      let later = names-made ms (with_model u b) out (subst (λ (o : Schema). in_turn with_names o (defs ms) ≡ Ok out) (sym there) rest) in
      (b ∷ later.0, later.1 ∙ append_assoc u.models (b ∷ []) later.0, ((refl, refl), later.2))

  -- ---- there are as many

  made-long : (stage : Stage) (over : Schema) (n k : ℕ) (fs gs : List FieldInfo) → FieldsMade stage over n k (map (written_field (names_in s)) fs) gs → length gs ≡ length fs
  made-long stage over n k [] [] made = refl
  made-long stage over n k [] (g ∷ gs) made = absurd made
  made-long stage over n k (f ∷ fs) [] made = absurd made
  made-long stage over n k (f ∷ fs) (g ∷ gs) made = let rest = made-long stage over n (k + 1) fs gs made.1 in omega (arith, rest)

  pub made-many : (stage : Stage) (over : Schema) (n k : ℕ) (ms is : List ModelInfo) → AllMade stage over n k (defs ms) is → (length is ≡ length ms) × (field_count is ≡ field_count ms)
  made-many stage over n k [] [] made = (refl, refl)
  made-many stage over n k [] (i ∷ is) made = absurd made
  made-many stage over n k (a ∷ ms) [] made = absurd made
  made-many stage over n k (a ∷ ms) (i ∷ is) made =
      let m = made.0 in
      let long : length i.fields ≡ length a.fields = sym (ap (λ (j : ModelInfo). length j.fields) m.6) ∙ made-long stage over n k a.fields m.2 m.5 in
      let rest = made-many stage over (n + 1) (k + length i.fields) ms is made.1 in
      (omega (arith, rest.0), omega (arith, rest.1, long, sum_by-cons (λ (j : ModelInfo). length j.fields) i is, sum_by-cons (λ (j : ModelInfo). length j.fields) a ms))

  -- ---- types

  -- a field and a model with policies that are good, of this model
  abbrev pub IsFieldGood : (ℕ → Policy → Type 0) → ℕ → FieldInfo → Type 0
  IsFieldGood Good m f = IsType s f.ty × Good m f.read × Good m f.write

  abbrev pub IsModelGood : (ℕ → Policy → Type 0) → ModelInfo → Type 0
  IsModelGood Good a = HasModel s a.number × Good a.number a.create × Good a.number a.delete × AllByRecursion (IsFieldGood Good a.number) a.fields

  module _ (over : Schema) (right : (m : ℕ) → HasModel s m → model_named over ((names_in s).model m) ≡ Some (new_model s.models m)) where
    base-comes : (b : TBase) → IsBase s b → typed_base over (written_base (names_in s) b) ≡ Ok (renumbered_base s.models b)
    unfolding typed_base
    base-comes base.Bool is = refl
    base-comes base.Int is = refl
    base-comes base.Text is = refl
    base-comes (base.Id m) is = ap (λ o. or_else o (Unknown 0) >>= (λ k. Ok (base.Id k))) (right m is)

    type-comes : (t : TTy) → IsType s t → typed_type over (written_type (names_in s) t) ≡ Ok (renumbered_type s.models t)
    unfolding typed_type
    type-comes (Plain b) is = ap (λ (o : Checked TBase). o >>= (λ u. Ok (Plain u))) (base-comes b is)
    type-comes (Set m) is = ap (λ o. or_else o (Unknown 0) >>= (λ k. Ok (Set k))) (right m is)
    type-comes (Opt b) is = ap (λ (o : Checked TBase). o >>= (λ u. Ok (Opt u))) (base-comes b is)

    -- ---- fields and models, where good policies come as they should
    module _ (stage : Stage) (Good : ℕ → Policy → Type 0) (P : Policy → Policy → Type 0)
        (comes : (m : ℕ) (p q : Policy) → HasModel s m → Good m p → policy_at stage over (new_model s.models m) (written_policy (names_in s) p) ≡ Ok q → P p q) where
      fields-beside : (m n k : ℕ) (fs gs : List FieldInfo) → new_model s.models m ≡ n → HasModel s m → AllByRecursion (IsFieldGood Good m) fs
          → FieldsMade stage over n k (map (written_field (names_in s)) fs) gs → AreFieldsBeside s.models P k fs gs
      fields-beside m n k [] [] at has good made = tt
      fields-beside m n k [] (g ∷ gs) at has good made = absurd made
      fields-beside m n k (f ∷ fs) [] at has good made = absurd made
      fields-beside m n k (f ∷ fs) (g ∷ gs) at has good made =
          let a = field-parts stage over n k (written_field (names_in s) f) g made.0 in
          let typed : a.0 ≡ renumbered_type s.models f.ty = ok-same _ _ (sym a.3 ∙ type-comes f.ty good.0.0) in
          let read : P f.read a.1 = comes m f.read a.1 has good.0.1 (ap (λ i. policy_at stage over i (written_policy (names_in s) f.read)) at ∙ a.4) in
          let write : P f.write a.2 = comes m f.write a.2 has good.0.2 (ap (λ i. policy_at stage over i (written_policy (names_in s) f.write)) at ∙ a.5) in (
            record {
              number = sym (ap (λ (i : FieldInfo). i.number) a.6);
              name = sym (ap (λ (i : FieldInfo). i.name) a.6);
              ty = sym (ap (λ (i : FieldInfo). i.ty) a.6) ∙ typed;
              read = subst (P f.read) (ap (λ (i : FieldInfo). i.read) a.6) read;
              write = subst (P f.write) (ap (λ (i : FieldInfo). i.write) a.6) write;
            },
            fields-beside m n (k + 1) fs gs at has good.1 made.1,
          )

      pub models-beside : (n k : ℕ) (ms is : List ModelInfo) → ModelsGet s.models n k ms → AllByRecursion (IsModelGood Good) ms → AllMade stage over n k (defs ms) is → AreModelsBeside s.models P n k ms is
      models-beside n k [] [] get good made = tt
      models-beside n k [] (i ∷ is) get good made = absurd made
      models-beside n k (a ∷ ms) [] get good made = absurd made
      models-beside n k (a ∷ ms) (i ∷ is) get good made =
          let m = made.0 in
          let create : P a.create m.0 = comes a.number a.create m.0 good.0.0 good.0.1 (ap (λ j. policy_at stage over j (written_policy (names_in s) a.create)) get.0.0 ∙ m.3) in
          let delete : P a.delete m.1 = comes a.number a.delete m.1 good.0.0 good.0.2 (ap (λ j. policy_at stage over j (written_policy (names_in s) a.delete)) get.0.0 ∙ m.4) in
          let fields : AreFieldsBeside s.models P k a.fields m.2 = fields-beside a.number n k a.fields m.2 get.0.0 good.0.0 good.0.3 m.5 in
          let long : length i.fields ≡ length a.fields = sym (ap (λ (j : ModelInfo). length j.fields) m.6) ∙ made-long stage over n k a.fields m.2 m.5 in (
            record {
              number = sym (ap (λ (j : ModelInfo). j.number) m.6);
              name = sym (ap (λ (j : ModelInfo). j.name) m.6);
              principal = sym (ap (λ (j : ModelInfo). j.principal) m.6);
              create = subst (P a.create) (ap (λ (j : ModelInfo). j.create) m.6) create;
              delete = subst (P a.delete) (ap (λ (j : ModelInfo). j.delete) m.6) delete;
              fields = subst (λ (gs : List FieldInfo). AreFieldsBeside s.models P k a.fields gs) (ap (λ (j : ModelInfo). j.fields) m.6) fields;
            },
            models-beside (n + 1) (k + length a.fields) ms is get.1 good.1 (subst (λ l. AllMade stage over (n + 1) (k + l) (defs ms) is) long made.1),
          )
