-- What typing adds to a schema has room: each part is refused that is one too many.
use Rattle.std.proofs.Common.{◌≡◌, ℕ, ◌+◌, ◌<◌, ◌≤◌, Bool, true, false, List, [], ◌∷◌, ◌++◌, length, refl, sym, ap, ◌∙◌, subst, arith, length-append}
use Rattle.std.specs.Prelude.{Ok, Err, ltb, if◌then◌else◌}
use Rattle.std.specs.List.{AllByRecursion, list_any}
use Rattle.std.specs.Str.{bytes_eq}
use Rattle.std.proofs.lemmas.Bool.{ltb-true}
use Rattle.text_ast.specs.Limits.{most_statics, most_models, most_fields}
use Rattle.text_tree.specs.declared.named.Named.{Named}
use Rattle.text_tree.specs.declared.models.FieldDef.{FieldDef}
use Rattle.text_tree.specs.declared.models.ModelDef.{ModelDef}
use Rattle.text_tree.specs.declared.models.Spec.{Spec}
use Rattle.type_schema.specs.Trees.{Name}
use Rattle.type_schema.specs.Schema.{FieldInfo, ModelInfo, Schema}
use Rattle.type_schema.specs.Commands.{add_static, schema_after}
use Rattle.type_typing.specs.declared.type_err.TypeErr.TheVariants.{Crowded}
use Rattle.type_specs.specs.declared.stage.Stage.{Stage}
use Rattle.type_specs.specs.declared.stage.Stage.TheVariants.{Types, Policies}
use Rattle.type_specs.specs.InTurn.{in_turn}
use Rattle.type_specs.specs.Models.{bare_model, with_model, with_models, with_names, with_typed}
use Rattle.type_specs.specs.NewNames.{fields_differ, new_field, new_model, new_static, one_more, with_field_name}
use Rattle.type_specs.specs.Specs.{empty_schema, next_static, resolved_spec, with_static}
use Rattle.type_proper.proofs.NewModel.{FieldsMade}
use Rattle.type_proper.proofs.Resolves.{bound, ok-same}
use Rattle.type_anew.proofs.TypedSpecs.{AllMade}
use Rattle.type_anew.proofs.Made.{models-made}
use Rattle.type_anew.specs.Room.{IsWithinNumbers}

pub room-left : (taken : Bool) (there most : ℕ) (x : Named) (u : Unit {0}) → one_more taken there most x ≡ Ok u → there < most
unfolding one_more
room-left true there most x u e = absurd (cc e)
room-left false there most x u e = at (ltb there most) refl e
  where
    at : (b : Bool) → ltb there most ≡ b → (if b then Ok tt else Err (Crowded x.at)) ≡ Ok u → there < most
    at true is e = ltb-true there most is
    at false is e = absurd (cc e)

-- ---- fields

fields-room : (fs : List FieldDef) (names out : List Name) → length names ≤ most_fields → in_turn with_field_name names fs ≡ Ok out → length names + length fs ≤ most_fields
fields-room [] names out le e = omega (arith, le)
fields-room (f ∷ fs) names out le e =
    let (more, goes, rest) = bound (with_field_name names f) (λ after. in_turn with_field_name after fs) out e in
    let (u, new, is) = bound (new_field names f.name) (λ _. Ok (names ++ f.name.name ∷ [])) more goes in
    let left : length names < most_fields = room-left (list_any (λ n. bytes_eq n f.name.name) names) (length names) most_fields f.name u new in
    let made : names ++ f.name.name ∷ [] ≡ more = ok-same (names ++ f.name.name ∷ []) more is in
    let count : length names + 1 ≡ length more = sym (length-append names (f.name.name ∷ [])) ∙ ap length made in
    let later = fields-room fs more out (omega (arith, left, count)) rest in
    omega (arith, later, count)

pub few-fields : (fs : List FieldDef) (u : Unit {0}) → fields_differ fs ≡ Ok u → length fs ≤ most_fields
unfolding fields_differ
few-fields fs u e =
    let (out, goes, _) = bound (in_turn with_field_name [] fs) (λ _. Ok tt) u e in
    let some = fields-room fs [] out (omega arith) goes in
    omega (arith, some)

pub made-long : (stage : Stage) (over : Schema) (m n : ℕ) (ds : List FieldDef) (fs : List FieldInfo) → FieldsMade stage over m n ds fs → length fs ≡ length ds
made-long stage over m n [] [] made = refl
made-long stage over m n [] (f ∷ fs) made = absurd made
made-long stage over m n (d ∷ ds) [] made = absurd made
made-long stage over m n (d ∷ ds) (f ∷ fs) made = let rest = made-long stage over m (n + 1) ds fs made.1 in omega (arith, rest)

-- ---- models

abbrev HasFewFields : ModelDef → Type 0
HasFewFields d = length d.fields ≤ most_fields

abbrev pub HaveFewFields : List ModelInfo → Type 0
HaveFewFields ms = AllByRecursion (λ (m : ModelInfo). length m.fields ≤ most_fields) ms

names-room : (ds : List ModelDef) (u out : Schema) → length u.models ≤ most_models → in_turn with_names u ds ≡ Ok out → (length u.models + length ds ≤ most_models) × AllByRecursion HasFewFields ds
unfolding with_names
names-room [] u out le e = (omega (arith, le), tt)
names-room (d ∷ ds) u out le e =
    let (more, goes, rest) = bound (with_names u d) (λ after. in_turn with_names after ds) out e in
    let (v, new, e1) = bound (new_model u d.name) _ more goes in
    let (w, differ, e2) = bound (fields_differ d.fields) _ more e1 in
    let left : length u.models < most_models = room-left _ (length u.models) most_models d.name v new in
    let made : with_model u (bare_model u d) ≡ more = ok-same (with_model u (bare_model u d)) more e2 in
    let count : length u.models + 1 ≡ length more.models = sym (length-append u.models (bare_model u d ∷ [])) ∙ ap (λ (s : Schema). length s.models) made in
    let later = names-room ds more out (omega (arith, left, count)) rest in
    (omega (arith, later.0, count), (few-fields d.fields w differ, later.1))

made-room : (stage : Stage) (over : Schema) (n k : ℕ) (ds : List ModelDef) (is : List ModelInfo) → AllMade stage over n k ds is → AllByRecursion HasFewFields ds → (length is ≡ length ds) × HaveFewFields is
made-room stage over n k [] [] made few = (refl, tt)
made-room stage over n k [] (i ∷ is) made few = absurd made
made-room stage over n k (d ∷ ds) [] made few = absurd made
made-room stage over n k (d ∷ ds) (i ∷ is) made few =
    let m = made.0 in
    let long : length i.fields ≡ length d.fields = sym (ap (λ (j : ModelInfo). length j.fields) m.6) ∙ made-long stage over n k d.fields m.2 m.5 in
    let rest = made-room stage over (n + 1) (k + length i.fields) ds is made.1 few.1 in
    (omega (arith, rest.0), (omega (arith, long, few.0), rest.1))

-- ---- specifications

pub statics-room : (xs : List Named) (u out : Schema) → length u.statics ≤ most_statics → in_turn with_static u xs ≡ Ok out → (length out.statics ≤ most_statics) × (out.models ≡ u.models)
unfolding with_static
statics-room [] u out le e = subst (λ (o : Schema). (length o.statics ≤ most_statics) × (o.models ≡ u.models)) (ok-same u out e) (le, refl)
statics-room (x ∷ xs) u out le e =
    let (more, goes, rest) = bound (with_static u x) (λ after. in_turn with_static after xs) out e in
    let (v, new, is) = bound (new_static u x) (λ _. Ok (schema_after u (add_static (next_static u x)))) more goes in
    let left : length u.statics < most_statics = room-left _ (length u.statics) most_statics x v new in
    let made : schema_after u (add_static (next_static u x)) ≡ more = ok-same _ more is in
    let count : length u.statics + 1 ≡ length more.statics = sym (length-append u.statics (next_static u x ∷ [])) ∙ ap (λ (s : Schema). length s.statics) made in
    let later = statics-room xs more out (omega (arith, left, count)) rest in
    (later.0, later.1 ∙ sym (ap (λ (s : Schema). s.models) made))

pub spec-room : (spec : Spec) (s : Schema) → resolved_spec spec ≡ Ok s → IsWithinNumbers s
unfolding resolved_spec with_models
spec-room spec s e =
    let (start, begun, e1) = bound (in_turn with_static empty_schema spec.statics) (λ (t : Schema). with_models t spec.models) s e in
    let (names, named, e2) = bound (in_turn with_names start spec.models) _ s e1 in
    let (known, typed, e3) = bound (in_turn (with_typed Types names) start spec.models) _ s e2 in
    let S = statics-room spec.statics empty_schema start (omega arith) begun in
    let none : length start.models ≡ 0 = ap length S.1 in
    let N = names-room spec.models start names (omega (arith, none)) named in
    let Found = models-made Policies known start spec.models s e3 in
    let M = made-room Policies known start.next_model start.next_field spec.models Found.0 Found.2 N.1 in
    let models : s.models ≡ Found.0 = Found.1.models ∙ ap (λ (ms : List ModelInfo). ms ++ Found.0) S.1 in
    let many : length s.models ≡ length Found.0 = ap length models in
    record {
      statics = subst (λ xs. length xs ≤ most_statics) (sym Found.1.statics) S.0;
      models = omega (arith, many, none, M.0, N.0);
      fields = subst HaveFewFields (sym models) M.1;
    }
