-- No rule on names, types and policies refuses a part of the tree of a schema.
use Rattle.std.proofs.Common.{◌≡◌, ℕ, ◌+◌, ◌<◌, ◌≤◌, Bool, false, cond, List, [], ◌∷◌, ◌++◌, length, map, refl, sym, ap, ◌∙◌, subst, arith, length-append}
use Rattle.std.specs.Prelude.{Some, None, Ok, Err, ◌||◌, is_some, ltb, if◌then◌else◌}
use Rattle.std.specs.List.{AllByRecursion, IsDistinct, find, list_any}
use Rattle.std.specs.Option.{option_map}
use Rattle.std.specs.Str.{bytes_eq}
use Rattle.std.proofs.lemmas.Bool.{lt-ltb}
use Rattle.text_ast.specs.Limits.{most_statics, most_models, most_fields}
use Rattle.text_tree.specs.declared.named.Named.{Named}
use Rattle.type_schema.specs.declared.types.TBase.{TBase}
use Rattle.type_schema.specs.declared.types.TBase.TheVariants as base
use Rattle.type_schema.specs.declared.types.TTy.{TTy}
use Rattle.type_schema.specs.declared.types.TTy.TheVariants.{Plain, Set, Opt}
use Rattle.type_schema.specs.Trees.{Name, Policy}
use Rattle.type_schema.specs.Schema.{StaticInfo, FieldInfo, ModelInfo, Schema}
use Rattle.type_schema.specs.Typing.{HasModel, IsBase, IsType}
use Rattle.type_schema.specs.Commands.{add_static, schema_after}
use Rattle.type_typing.specs.declared.type_err.TypeErr.TheVariants.{Crowded, Twice, Unknown}
use Rattle.type_typing.specs.Names.{model_named, static_named}
use Rattle.type_typing.specs.Outcome.{Checked, ◌>>=◌, or_else}
use Rattle.type_typing.specs.Policies.{typed_base, typed_type}
use Rattle.type_specs.specs.declared.stage.Stage.{Stage}
use Rattle.type_specs.specs.InTurn.{in_turn}
use Rattle.type_specs.specs.Models.{bare_model, policy_at, typed_field, typed_model, with_model, with_names, with_next_field, with_typed}
use Rattle.type_specs.specs.NewNames.{fields_differ, is_taken, one_more, with_field_name}
use Rattle.type_specs.specs.Specs.{next_static, with_static}
use Rattle.type_proper.proofs.Lists.{all-any, all-append, all-both}
use Rattle.type_anew.specs.Names.{named, names_in}
use Rattle.type_anew.specs.Trees.{written_policy}
use Rattle.type_anew.specs.Specs.{written_base, written_field, written_model, written_type}
use Rattle.data_records.specs.Renumbered.{new_model}
use Rattle.type_anew.proofs.Places.{ModelsGet}
use Rattle.type_anew.proofs.TypedExprs.{then-ok}
use Rattle.type_anew.proofs.Made.{defs, IsFieldGood, IsModelGood}

-- that it gives something
abbrev pub Goes : {A : Type 0} → Checked A → Type 0
Goes {A} o = (a : A) × (o ≡ Ok a)

-- ---- names that are new

-- no static and no model has the name
abbrev pub IsUnused : Schema → Name → Type 0
IsUnused u name = AllByRecursion (λ (a : StaticInfo). bytes_eq a.name name ≡ false) u.statics × AllByRecursion (λ (a : ModelInfo). bytes_eq a.name name ≡ false) u.models

none-found : {A : Type 0} (p : A → Bool) (xs : List A) → AllByRecursion (λ x. p x ≡ false) xs → find p xs ≡ None
none-found p [] all = refl
none-found p (x ∷ xs) all = ap (λ b. cond b (Some x) (find p xs)) all.0 ∙ none-found p xs all.1

none-any : {A : Type 0} (p : A → Bool) (xs : List A) → AllByRecursion (λ x. p x ≡ false) xs → list_any p xs ≡ false
none-any p [] all = refl
none-any p (x ∷ xs) all = ap (λ b. b || list_any p xs) all.0 ∙ none-any p xs all.1

not-taken : (u : Schema) (name : Name) → IsUnused u name → is_taken u name ≡ false
unfolding is_taken static_named model_named
not-taken u name free =
    ap (λ o. is_some (option_map (λ (a : StaticInfo). a.number) o) || is_some (option_map (λ (a : ModelInfo). a.number) (find (λ (a : ModelInfo). bytes_eq a.name name) u.models)))
    (none-found (λ (a : StaticInfo). bytes_eq a.name name) u.statics free.0)
    ∙ ap (λ o. is_some (option_map (λ (a : ModelInfo). a.number) o)) (none-found (λ (a : ModelInfo). bytes_eq a.name name) u.models free.1)

goes-on : (taken : Bool) (there most : ℕ) (x : Named) → taken ≡ false → there < most → one_more taken there most x ≡ Ok tt
unfolding one_more
goes-on taken there most x free room =
    ap (λ b. if b then Err (Twice x.at) else (if ltb there most then Ok tt else Err (Crowded x.at))) free
    ∙ ap (λ b. if b then Ok tt else Err (Crowded x.at)) (lt-ltb there most room)

-- ---- statics and models by name

abbrev static_defs : List StaticInfo → List Named
static_defs xs = map (λ (a : StaticInfo). named a.name) xs

abbrev static_names : List StaticInfo → List Name
static_names xs = map (λ (a : StaticInfo). a.name) xs

abbrev pub model_names : List ModelInfo → List Name
model_names ms = map (λ (a : ModelInfo). a.name) ms

abbrev field_names : List FieldInfo → List Name
field_names fs = map (λ (f : FieldInfo). f.name) fs

-- the names of these statics, and later ones, are new and differ
pub statics-go : (xs : List StaticInfo) (later : List Name) (u : Schema) → IsDistinct bytes_eq (static_names xs ++ later) → AllByRecursion (IsUnused u) (static_names xs ++ later)
    → length u.statics + length xs ≤ most_statics → (out : Schema) × (in_turn with_static u (static_defs xs) ≡ Ok out) × AllByRecursion (IsUnused out) later
unfolding with_static IsDistinct
statics-go [] later u apart free room = (u, refl, free)
statics-go (x ∷ xs) later u apart free room =
    let more : Schema = schema_after u (add_static (next_static u (named x.name))) in
    let first : with_static u (named x.name) ≡ Ok more = ap (λ (o : Checked (Unit {0})). o >>= (λ _. Ok more)) (goes-on (is_taken u x.name) (length u.statics) most_statics (named x.name) (not-taken u x.name free.0) (omega (arith, room))) in
    let still : AllByRecursion (IsUnused more) (static_names xs ++ later) =
    all-both (λ y. bytes_eq x.name y ≡ false) (IsUnused u) (IsUnused more)
    (λ y other unused. (all-append (λ (a : StaticInfo). bytes_eq a.name y ≡ false) u.statics (next_static u (named x.name) ∷ []) unused.0 (other, tt), unused.1))
    (static_names xs ++ later) apart.0 free.1 in
    let rest = statics-go xs later more apart.1 still (omega (arith, room, length-append u.statics (next_static u (named x.name) ∷ []))) in
    (rest.0, then-ok _ _ more (λ after. in_turn with_static after (static_defs xs)) refl first ∙ rest.1, rest.2)

module _ (s : Schema) where
  fields-named : (fs : List FieldInfo) (names : List Name) → IsDistinct bytes_eq (field_names fs) → AllByRecursion (λ y. AllByRecursion (λ n. bytes_eq n y ≡ false) names) (field_names fs)
      → length names + length fs ≤ most_fields → Goes (in_turn with_field_name names (map (written_field (names_in s)) fs))
  unfolding IsDistinct
  fields-named [] names apart free room = (names, refl)
  fields-named (f ∷ fs) names apart free room =
      let more : List Name = names ++ f.name ∷ [] in
      let new : one_more (list_any (λ n. bytes_eq n f.name) names) (length names) most_fields (named f.name) ≡ Ok tt =
      goes-on (list_any (λ n. bytes_eq n f.name) names) (length names) most_fields (named f.name) (none-any (λ n. bytes_eq n f.name) names free.0) (omega (arith, room)) in
      let first : with_field_name names (written_field (names_in s) f) ≡ Ok more = ap (λ (o : Checked (Unit {0})). o >>= (λ _. Ok more)) new in
      let still : AllByRecursion (λ y. AllByRecursion (λ n. bytes_eq n y ≡ false) more) (field_names fs) =
      all-both (λ y. bytes_eq f.name y ≡ false) (λ y. AllByRecursion (λ n. bytes_eq n y ≡ false) names) (λ y. AllByRecursion (λ n. bytes_eq n y ≡ false) more)
      (λ y other unused. all-append (λ n. bytes_eq n y ≡ false) names (f.name ∷ []) unused (other, tt)) (field_names fs) apart.0 free.1 in
      let rest = fields-named fs more apart.1 still (omega (arith, room, length-append names (f.name ∷ []))) in
      (rest.0, then-ok _ _ more (λ after. in_turn with_field_name after (map (written_field (names_in s)) fs)) refl first ∙ rest.1)

  -- the fields of the model have names that differ, and are not too many
  abbrev pub HasFieldNames : ModelInfo → Type 0
  HasFieldNames a = IsDistinct bytes_eq (field_names a.fields) × (length a.fields ≤ most_fields)

  differ : (a : ModelInfo) → HasFieldNames a → fields_differ (map (written_field (names_in s)) a.fields) ≡ Ok tt
  unfolding fields_differ
  differ a has =
      let none : AllByRecursion (λ y. AllByRecursion (λ n. bytes_eq n y ≡ false) []) (field_names a.fields) = all-any (λ y. AllByRecursion (λ n. bytes_eq n y ≡ false) []) (λ y. tt) (field_names a.fields) in
      let k = fields-named a.fields [] has.0 none (omega (arith, has.1)) in
      ap (λ (o : Checked (List Name)). o >>= (λ _. Ok tt)) k.1

  pub names-go : (ms : List ModelInfo) (u : Schema) → IsDistinct bytes_eq (model_names ms) → AllByRecursion (IsUnused u) (model_names ms) → length u.models + length ms ≤ most_models
      → AllByRecursion HasFieldNames ms → Goes (in_turn with_names u (defs s ms))
  unfolding with_names IsDistinct
  names-go [] u apart free room fields = (u, refl)
  names-go (a ∷ ms) u apart free room fields =
      let d = written_model (names_in s) a in
      let more : Schema = with_model u (bare_model u d) in
      let one = then-ok (with_names u d) _ tt _ refl (goes-on (is_taken u a.name) (length u.models) most_models (named a.name) (not-taken u a.name free.0) (omega (arith, room))) in
      let first : with_names u d ≡ Ok more = then-ok (with_names u d) _ tt (λ _. Ok more) one (differ a fields.0) in
      let still : AllByRecursion (IsUnused more) (model_names ms) =
      all-both (λ y. bytes_eq a.name y ≡ false) (IsUnused u) (IsUnused more)
      (λ y other unused. (unused.0, all-append (λ (b : ModelInfo). bytes_eq b.name y ≡ false) u.models (bare_model u d ∷ []) unused.1 (other, tt))) (model_names ms) apart.0 free.1 in
      let rest = names-go ms more apart.1 still (omega (arith, room, length-append u.models (bare_model u d ∷ []))) fields.1 in
      (rest.0, then-ok _ _ more (λ after. in_turn with_names after (defs s ms)) refl first ∙ rest.1)

  -- ---- types, where the models that they name are found

  module _ (over : Schema) (right : (m : ℕ) → HasModel s m → model_named over ((names_in s).model m) ≡ Some (new_model s.models m)) where
    base-goes : (b : TBase) → IsBase s b → Goes (typed_base over (written_base (names_in s) b))
    unfolding typed_base
    base-goes base.Bool is = (base.Bool, refl)
    base-goes base.Int is = (base.Int, refl)
    base-goes base.Text is = (base.Text, refl)
    base-goes (base.Id m) is = (base.Id (new_model s.models m), ap (λ o. or_else o (Unknown 0) >>= (λ k. Ok (base.Id k))) (right m is))

    type-goes : (ty : TTy) → IsType s ty → Goes (typed_type over (written_type (names_in s) ty))
    unfolding typed_type
    type-goes (Plain b) is = let k = base-goes b is in (Plain k.0, ap (λ (o : Checked TBase). o >>= (λ u. Ok (Plain u))) k.1)
    type-goes (Set m) is = (Set (new_model s.models m), ap (λ o. or_else o (Unknown 0) >>= (λ k. Ok (Set k))) (right m is))
    type-goes (Opt b) is = let k = base-goes b is in (Opt k.0, ap (λ (o : Checked TBase). o >>= (λ u. Ok (Opt u))) k.1)

    -- ---- fields and models, where good policies are typed
    module _ (stage : Stage) (Good : ℕ → Policy → Type 0)
        (typed : (m : ℕ) (p : Policy) → HasModel s m → Good m p → Goes (policy_at stage over (new_model s.models m) (written_policy (names_in s) p))) where
      -- of the model that has this number
      at-number : (m n : ℕ) (p : Policy) → new_model s.models m ≡ n → HasModel s m → Good m p → Goes (policy_at stage over n (written_policy (names_in s) p))
      at-number m n p at has good = subst (λ i. Goes (policy_at stage over i (written_policy (names_in s) p))) at (typed m p has good)

      field-goes : (m n k : ℕ) (f : FieldInfo) → new_model s.models m ≡ n → HasModel s m → IsFieldGood s Good m f → Goes (typed_field stage over n k (written_field (names_in s) f))
      unfolding typed_field
      field-goes m n k f at has good =
          let ty = type-goes f.ty good.0 in
          let read = at-number m n f.read at has good.1 in
          let write = at-number m n f.write at has good.2 in
          let whole = typed_field stage over n k (written_field (names_in s) f) in (
            record { number = k; name = f.name; ty = ty.0; read = read.0; write = write.0 },
            then-ok whole _ write.0 _ (then-ok whole _ read.0 _ (then-ok whole _ ty.0 _ refl ty.1) read.1) write.1,
          )

      fields-go : (m n k : ℕ) (fs done : List FieldInfo) → new_model s.models m ≡ n → HasModel s m → AllByRecursion (IsFieldGood s Good m) fs
          → Goes (in_turn (with_next_field stage over n k) done (map (written_field (names_in s)) fs))
      unfolding with_next_field
      fields-go m n k [] done at has good = (done, refl)
      fields-go m n k (f ∷ fs) done at has good =
          let g = field-goes m n (k + length done) f at has good.0 in
          let more : List FieldInfo = done ++ g.0 ∷ [] in
          let first : with_next_field stage over n k done (written_field (names_in s) f) ≡ Ok more = ap (λ (o : Checked FieldInfo). o >>= (λ info. Ok (done ++ info ∷ []))) g.1 in
          let rest = fields-go m n k fs more at has good.1 in
          (rest.0, then-ok _ _ more (λ after. in_turn (with_next_field stage over n k) after (map (written_field (names_in s)) fs)) refl first ∙ rest.1)

      model-goes : (u : Schema) (a : ModelInfo) → new_model s.models a.number ≡ u.next_model → IsModelGood s Good a → Goes (typed_model stage over u (written_model (names_in s) a))
      unfolding typed_model
      model-goes u a at good =
          let create = at-number a.number u.next_model a.create at good.0 good.1 in
          let delete = at-number a.number u.next_model a.delete at good.0 good.2 in
          let fields = fields-go a.number u.next_model u.next_field a.fields [] at good.0 good.3 in
          let whole = typed_model stage over u (written_model (names_in s) a) in (
            record { number = u.next_model; name = a.name; principal = a.principal; create = create.0; delete = delete.0; fields = fields.0 },
            then-ok whole _ fields.0 _ (then-ok whole _ delete.0 _ (then-ok whole _ create.0 _ refl create.1) delete.1) fields.1,
          )

      pub models-go : (n k : ℕ) (ms : List ModelInfo) (u : Schema) → u.next_model ≡ n → ModelsGet s.models n k ms → AllByRecursion (IsModelGood s Good) ms
          → Goes (in_turn (with_typed stage over) u (defs s ms))
      unfolding with_typed
      models-go n k [] u from get good = (u, refl)
      models-go n k (a ∷ ms) u from get good =
          let i = model-goes u a (get.0.0 ∙ sym from) good.0 in
          let more : Schema = with_model u i.0 in
          let first : with_typed stage over u (written_model (names_in s) a) ≡ Ok more = ap (λ (o : Checked ModelInfo). o >>= (λ info. Ok (with_model u info))) i.1 in
          let rest = models-go (n + 1) (k + length a.fields) ms more (ap (λ j. j + 1) from) get.1 good.1 in
          (rest.0, then-ok _ _ more (λ after. in_turn (with_typed stage over) after (defs s ms)) refl first ∙ rest.1)
