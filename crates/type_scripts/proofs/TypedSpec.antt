-- The policies of a specification that is typed with the sizes that are counted are within the limit.
use Rattle.std.proofs.Common.{◌≡◌, ℕ, ◌+◌, ◌≤◌, Bool, true, false, List, [], ◌∷◌, ◌++◌, length, refl, ap, sym, ◌∙◌, subst, arith, cond, append_assoc, append-nil}
use Rattle.std.specs.Prelude.{Ok, Err, nat_le}
use Rattle.std.specs.List.{AllByRecursion, flat_map}
use Rattle.std.proofs.lemmas.Bool.{leb-true}
use Rattle.std.proofs.lemmas.List.{length-append}
use Rattle.text_tree.specs.declared.named.Named.{Named}
use Rattle.text_tree.specs.declared.models.FieldDef.{FieldDef}
use Rattle.text_tree.specs.declared.models.ModelDef.{ModelDef}
use Rattle.text_tree.specs.declared.models.Spec.{Spec}
use Rattle.type_schema.specs.Schema.{FieldInfo, ModelInfo, Schema}
use Rattle.type_schema.specs.Commands.{add_static, schema_after}
use Rattle.type_typing.specs.declared.type_err.TypeErr.TheVariants.{Expanded}
use Rattle.type_typing.specs.Outcome.{Checked}
use Rattle.type_specs.specs.declared.stage.Stage.{Stage}
use Rattle.type_specs.specs.declared.stage.Stage.TheVariants.{Types, Policies}
use Rattle.type_specs.specs.InTurn.{in_turn}
use Rattle.type_specs.specs.Models.{policy_at, typed_field, typed_model, with_model, with_models, with_names, with_next_field, with_typed}
use Rattle.type_specs.specs.NewNames.{new_static}
use Rattle.type_specs.specs.Sizes.{most_size, is_small, are_small, field_places, field_sizes, model_places, model_sizes, models_are_small}
use Rattle.type_proper.proofs.Lists.{all-front, all-back}
use Rattle.type_proper.proofs.Resolves.{bound, ok-same}
use Rattle.type_scripts.specs.Small.{ModelIsBounded, FieldIsBounded}
use Rattle.type_scripts.specs.Counted.{counted}
use Rattle.type_specs.specs.Specs.{empty_schema, next_static, resolved_spec, typed_spec, with_static}

-- ---- sizes that are small

size-small : (size at : ℕ) → is_small size at ≡ Ok tt → size ≤ most_size
size-small size at h =
    elim (nat_le size most_size) as (λ (z : Bool). nat_le size most_size ≡ z → ◌≡◌ {A = Checked (Unit {0})} (cond z (Ok tt) (Err (Expanded at size))) (Ok tt) → size ≤ most_size) [
      | true ↦ λ is e. leb-true size most_size is
      | false ↦ λ is e. absurd (cc e)
    ] refl h

-- where there is a place for each
pub all-small : (sizes places : List ℕ) → length sizes ≡ length places → are_small sizes places ≡ Ok tt → AllByRecursion (λ n. n ≤ most_size) sizes
all-small [] places long e = tt
all-small (n ∷ sizes) [] long e = absurd (omega (arith, long))
all-small (n ∷ sizes) (at ∷ places) long e =
    let (u, one, rest) = bound (is_small n at) (λ _. are_small sizes places) tt e in
    (size-small n at one, all-small sizes places (omega (arith, long)) rest)

-- ---- models with as many fields as they are written with

abbrev pub AreShaped : List ModelInfo → List ModelDef → Type 0
AreShaped [] [] = Unit {0}
AreShaped [] (d ∷ ds) = ⊥
AreShaped (i ∷ is) [] = ⊥
AreShaped (i ∷ is) (d ∷ ds) = (length i.fields ≡ length d.fields) × AreShaped is ds

fields-shaped : (stage : Stage) (over : Schema) (m first : ℕ) (defs : List FieldDef) (done out : List FieldInfo) → in_turn (with_next_field stage over m first) done defs ≡ Ok out
    → length out ≡ length done + length defs
unfolding with_next_field
fields-shaped stage over m first [] done out e = let same = ap length (ok-same done out e) in omega (arith, same)
fields-shaped stage over m first (d ∷ defs) done out e =
    let (more, goes, rest) = bound (with_next_field stage over m first done d) (λ after. in_turn (with_next_field stage over m first) after defs) out e in
    let (f, typed, is) = bound (typed_field stage over m (first + length done) d) (λ (f : FieldInfo). Ok (done ++ f ∷ [])) more goes in
    let one = ap length (ok-same (done ++ f ∷ []) more is) in
    let two = fields-shaped stage over m first defs more out rest in
    omega (arith, one, two, length-append done (f ∷ []))

pub model-shaped : (stage : Stage) (over s : Schema) (d : ModelDef) (info : ModelInfo) → typed_model stage over s d ≡ Ok info → length info.fields ≡ length d.fields
unfolding typed_model
model-shaped stage over s d info e =
    let (create, one, e1) = bound (policy_at stage over s.next_model d.create) _ info e in
    let (delete, other, e2) = bound (policy_at stage over s.next_model d.delete) _ info e1 in
    let (fields, goes, e3) = bound (in_turn (with_next_field stage over s.next_model s.next_field) [] d.fields) _ info e2 in
    let is = ap (λ (i : ModelInfo). length i.fields) (ok-same _ info e3) in
    let long = fields-shaped stage over s.next_model s.next_field d.fields [] fields goes in
    omega (arith, is, long)

models-shaped : (stage : Stage) (over s : Schema) (defs : List ModelDef) (out : Schema) → in_turn (with_typed stage over) s defs ≡ Ok out
    → (new : List ModelInfo) × (out.models ≡ s.models ++ new) × AreShaped new defs
unfolding with_typed
models-shaped stage over s [] out e = ([], ap (λ (t : Schema). t.models) (sym (ok-same s out e)) ∙ sym (append-nil s.models), tt)
models-shaped stage over s (d ∷ defs) out e =
    let (more, goes, rest) = bound (with_typed stage over s d) (λ after. in_turn (with_typed stage over) after defs) out e in
    let (i, made, is) = bound (typed_model stage over s d) (λ (i : ModelInfo). Ok (with_model s i)) more goes in
    let there : with_model s i ≡ more = ok-same (with_model s i) more is in
    let later = models-shaped stage over more defs out rest in (
      i ∷ later.0,
      later.1 ∙ ap (λ (t : Schema). t.models ++ later.0) (sym there) ∙ append_assoc s.models (i ∷ []) later.0,
      (model-shaped stage over s d i made, later.2),
    )

statics-alone : (names : List Named) (s out : Schema) → s.models ≡ [] → in_turn with_static s names ≡ Ok out → out.models ≡ []
unfolding with_static
statics-alone [] s out none e = ap (λ (t : Schema). t.models) (sym (ok-same s out e)) ∙ none
statics-alone (x ∷ names) s out none e =
    let (more, goes, rest) = bound (with_static s x) (λ after. in_turn with_static after names) out e in
    let (u, new, e1) = bound (new_static s x) (λ _. Ok (schema_after s (add_static (next_static s x)))) more goes in
    let made : schema_after s (add_static (next_static s x)) ≡ more = ok-same _ more e1 in
    statics-alone names more out (ap (λ (t : Schema). t.models) (sym made) ∙ none) rest

spec-shaped : (spec : Spec) (s : Schema) → resolved_spec spec ≡ Ok s → AreShaped s.models spec.models
unfolding resolved_spec with_models
spec-shaped spec s e =
    let (start, goes, e1) = bound (in_turn with_static empty_schema spec.statics) (λ (t : Schema). with_models t spec.models) s e in
    let none = statics-alone spec.statics empty_schema start refl goes in
    let (named, n1, e2) = bound (in_turn with_names start spec.models) _ s e1 in
    let (known, k1, e3) = bound (in_turn (with_typed Types named) start spec.models) _ s e2 in
    let made = models-shaped Policies known start spec.models s e3 in
    subst (λ (models : List ModelInfo). AreShaped models spec.models) (sym (made.1 ∙ ap (λ (models : List ModelInfo). models ++ made.0) none)) made.2

-- ---- the sizes of models

module _ (s : Schema) where
  fields-long : (fields : List FieldInfo) (defs : List FieldDef) → length fields ≡ length defs → length (flat_map (field_sizes counted s) fields) ≡ length (flat_map field_places defs)
  fields-long [] [] long = refl
  fields-long [] (d ∷ defs) long = absurd (omega (arith, long))
  fields-long (f ∷ fields) [] long = absurd (omega (arith, long))
  fields-long (f ∷ fields) (d ∷ defs) long = let rest = fields-long fields defs (omega (arith, long)) in omega (arith, rest)

  pub model-long : (i : ModelInfo) (d : ModelDef) → length i.fields ≡ length d.fields → length (model_sizes counted s i) ≡ length (model_places d)
  model-long i d long = let rest = fields-long i.fields d.fields long in omega (arith, rest)

  models-long : (models : List ModelInfo) (defs : List ModelDef) → AreShaped models defs → length (flat_map (model_sizes counted s) models) ≡ length (flat_map model_places defs)
  models-long [] [] shaped = refl
  models-long [] (d ∷ defs) shaped = absurd shaped
  models-long (i ∷ models) [] shaped = absurd shaped
  models-long (i ∷ models) (d ∷ defs) shaped =
      let one = model-long i d shaped.0 in
      let rest = models-long models defs shaped.1 in
      omega (
        arith,
        one,
        rest,
        length-append (model_sizes counted s i) (flat_map (model_sizes counted s) models),
        length-append (model_places d) (flat_map model_places defs),
      )

  fields-small : (fields : List FieldInfo) → AllByRecursion (λ n. n ≤ most_size) (flat_map (field_sizes counted s) fields) → AllByRecursion (FieldIsBounded most_size s) fields
  fields-small [] h = tt
  fields-small (f ∷ fields) h = ((h.0, h.1.0), fields-small fields h.1.1)

  pub model-small : (i : ModelInfo) → AllByRecursion (λ n. n ≤ most_size) (model_sizes counted s i) → ModelIsBounded most_size s i
  model-small i h = (h.0, h.1.0, fields-small i.fields h.1.1)

  models-small : (models : List ModelInfo) → AllByRecursion (λ n. n ≤ most_size) (flat_map (model_sizes counted s) models) → AllByRecursion (ModelIsBounded most_size s) models
  models-small [] h = tt
  models-small (i ∷ models) h = (
    model-small i (all-front (λ n. n ≤ most_size) (model_sizes counted s i) (flat_map (model_sizes counted s) models) h),
    models-small models (all-back (λ n. n ≤ most_size) (model_sizes counted s i) (flat_map (model_sizes counted s) models) h),
  )

pub spec-small : (spec : Spec) (s : Schema) → typed_spec counted spec ≡ Ok s → AllByRecursion (ModelIsBounded most_size s) s.models
unfolding typed_spec models_are_small
spec-small spec s e =
    let (found, is, e1) = bound (resolved_spec spec) _ s e in
    let (u, small, e2) = bound (models_are_small counted found found.models spec.models) _ s e1 in
    let all = all-small (flat_map (model_sizes counted found) found.models) (flat_map model_places spec.models) (models-long found found.models spec.models (spec-shaped spec found is)) small in
    subst (λ (t : Schema). AllByRecursion (ModelIsBounded most_size t) t.models) (ok-same found s e2) (models-small found found.models all)
