-- A policy that is in force after a command which does not set it was in force before.
use Rattle.std.proofs.Common.{◌≡◌, ℕ, ◌<◌, Bool, true, false, not, ◌&&◌, List, [], ◌∷◌, ◌++◌, refl, ap, sym, ◌∙◌, subst, arith, inl, inr}
use Rattle.std.specs.Prelude.{Option, Some, None, map, filter, ◌==◌, is_some, option_and_then}
use Rattle.std.specs.List.{AllByRecursion}
use Rattle.std.specs.Option.{option_map}
use Rattle.std.proofs.lemmas.Bool.{eqb-true, eq-eqb}
use Rattle.type_schema.specs.declared.rights.Right.{Right}
use Rattle.type_schema.specs.declared.rights.Right.TheVariants.{Read, Write, Create, Delete}
use Rattle.type_schema.specs.declared.rights.Target.{Target}
use Rattle.type_schema.specs.declared.rights.Target.TheVariants as on
use Rattle.type_schema.specs.Trees.{Policy}
use Rattle.type_schema.specs.Schema.{FieldInfo, ModelInfo, Schema, model_in, field_in, model_of, field_of, policy_in, model_of_target}
use Rattle.type_schema.specs.Typing.{IsPolicy, IsField, IsModel, IsTyped}
use Rattle.type_schema.specs.Commands.{Command, create_model, delete_model, add_static, remove_static, add_principal, add_field, remove_field, update_field, weaken_field, update_model, weaken_model, change_model, with_field, without_field, with_field_policies, with_model_policies, schema_after, IsCommand}
use Rattle.type_schema.specs.Proper.{AreProperFields, IsProper}
use Rattle.data_meaning.specs.Gain.{updates, weakens}
use Rattle.data_meaning.proofs.Finds.{find-holds, find-among, find-filter, find-none, find-last}
use Rattle.data_meaning.proofs.Policies.{model-changed, field-kept, IsOld, same-given, both-same}
use Rattle.data_meaning.proofs.Tests.{and-last}

-- ---- the rights of a model

module _ {A : Type 0} (get : ModelInfo → A) (p : A) (s : Schema) where
  abbrev model_here : Option ModelInfo → Type 0
  model_here o = option_map get o ≡ Some p

  model-in-kept : (m0 : ℕ) (change : ModelInfo → ModelInfo) → ((i : ModelInfo) → (change i).number ≡ i.number) → (m : ℕ)
      → (m ≡ m0 → (i : ModelInfo) → get (change i) ≡ get i)
      → model_here (model_in (change_model m0 change s.models) m) → model_here (model_of s m)
  model-in-kept m0 change keeps m same h = model-changed m0 change keeps model_here s.models m (λ e i r. sym (ap (λ x. Some x) (same e i)) ∙ r) h

  model-created : (info : ModelInfo) (m : ℕ) → info.number ≡ s.next_model → m < s.next_model
      → model_here (model_in (s.models ++ info ∷ []) m) → model_here (model_of s m)
  model-created info m number old h =
      elim (model_in (s.models ++ info ∷ []) m) as (λ (o : Option ModelInfo). model_in (s.models ++ info ∷ []) m ≡ o → model_here o → model_here (model_of s m)) [
        | None ↦ λ here e. cc
        | Some i ↦ λ here e.
            elim (find-last (λ (u : ModelInfo). u.number == m) s.models info i here) [
              | inl before ↦ subst model_here (sym before) e
              | inr is ↦
                  let found : i.number ≡ m = eqb-true _ _ (find-holds (λ (u : ModelInfo). u.number == m) (s.models ++ info ∷ []) i here) in
                  let same : info.number ≡ m = sym (ap (λ (u : ModelInfo). u.number) is) ∙ found in
                  absurd (omega (arith, same, number, old))
            ]
      ] refl h

  model-deleted : (m0 m : ℕ) → model_here (model_in (filter (λ (i : ModelInfo). not (i.number == m0)) s.models) m) → model_here (model_of s m)
  model-deleted m0 m h =
      elim (m == m0) as (λ (b : Bool). (m == m0) ≡ b → model_here (model_of s m)) [
        | true ↦ λ same.
            let gone = find-none (λ (i : ModelInfo). i.number == m) (λ (i : ModelInfo). not (i.number == m0)) s.models
            (λ i is. ap not (eq-eqb _ _ (eqb-true _ _ is ∙ eqb-true _ _ same))) in
            let never = subst model_here gone h in cc
        | false ↦ λ other.
            let stays = find-filter (λ (i : ModelInfo). i.number == m) (λ (i : ModelInfo). not (i.number == m0)) s.models
            (λ i is. ap not (ap (λ n. n == m0) (eqb-true _ _ is) ∙ other)) in
            subst model_here stays h
      ] refl

  pub model-kept : (c : Command) → IsCommand s c → (m : ℕ) → m < s.next_model
      → ((i : ModelInfo) → get (record i { principal = true }) ≡ get i)
      → ((i : ModelInfo) (fields : List FieldInfo) → get (record i { fields = fields }) ≡ get i)
      → ((create delete : Option Policy) → c ≡ update_model m create delete → (i : ModelInfo) → get (with_model_policies create delete i) ≡ get i)
      → ((create delete : Option Policy) (reason : List ℕ) → c ≡ weaken_model m create delete reason → (i : ModelInfo) → get (with_model_policies create delete i) ≡ get i)
      → option_map get (model_of (schema_after s c) m) ≡ Some p → option_map get (model_of s m) ≡ Some p
  model-kept (create_model info) is m old a b u w h = model-created info m is.0 old h
  model-kept (delete_model m0) is m old a b u w h = model-deleted m0 m h
  model-kept (add_static info) is m old a b u w h = h
  model-kept (remove_static n) is m old a b u w h = h
  model-kept (add_principal m0) is m old a b u w h = model-in-kept m0 (λ (i : ModelInfo). record i { principal = true }) (λ i. refl) m (λ e i. a i) h
  model-kept (add_field m0 new init) is m old a b u w h = model-in-kept m0 (with_field new) (λ i. refl) m (λ e i. b i _) h
  model-kept (remove_field m0 f0) is m old a b u w h = model-in-kept m0 (without_field f0) (λ i. refl) m (λ e i. b i _) h
  model-kept (update_field m0 f0 read write) is m old a b u w h = model-in-kept m0 (with_field_policies f0 read write) (λ i. refl) m (λ e i. b i _) h
  model-kept (weaken_field m0 f0 read write reason) is m old a b u w h = model-in-kept m0 (with_field_policies f0 read write) (λ i. refl) m (λ e i. b i _) h
  model-kept (update_model m0 create delete) is m old a b u w h =
      model-in-kept m0 (with_model_policies create delete) (λ i. refl) m (λ e i. u create delete (let x : update_model m0 create delete ≡ update_model m create delete = cc in x) i) h
  model-kept (weaken_model m0 create delete reason) is m old a b u w h =
      model-in-kept m0 (with_model_policies create delete) (λ i. refl) m (λ e i. w create delete reason (let x : weaken_model m0 create delete reason ≡ weaken_model m create delete reason = cc in x) i) h

-- ---- any right

sets-none : (m f : ℕ) (g : Bool) → (((m == m) && (f == f)) && g) ≡ false → g ≡ false
sets-none m f g e = and-last ((m == m) && (f == f)) g (both-same m m f f refl refl) e

sets-none-of-model : (m : ℕ) (g : Bool) → ((m == m) && g) ≡ false → g ≡ false
sets-none-of-model m g e = and-last (m == m) g (eq-eqb m m refl) e

module _ (s : Schema) (c : Command) (is : IsCommand s c) (p : Policy) where
  pub policy-kept : (target : Target) (right : Right) → IsOld s target → updates target right c ≡ false → weakens target right c ≡ false
      → policy_in (schema_after s c) target right ≡ Some p → policy_in s target right ≡ Some p
  policy-kept (on.Field m f) Read old u w h =
      field-kept (λ (g : FieldInfo). g.read) p s c is m f old
      (λ read write e g. same-given read g.read (sets-none m f (is_some read) (subst (λ (x : Command). updates (on.Field m f) Read x ≡ false) e u)))
      (λ read write reason e g. same-given read g.read (sets-none m f (is_some read) (subst (λ (x : Command). weakens (on.Field m f) Read x ≡ false) e w))) h
  policy-kept (on.Field m f) Write old u w h =
      field-kept (λ (g : FieldInfo). g.write) p s c is m f old
      (λ read write e g. same-given write g.write (sets-none m f (is_some write) (subst (λ (x : Command). updates (on.Field m f) Write x ≡ false) e u)))
      (λ read write reason e g. same-given write g.write (sets-none m f (is_some write) (subst (λ (x : Command). weakens (on.Field m f) Write x ≡ false) e w))) h
  policy-kept (on.Field m f) Create old u w h = cc
  policy-kept (on.Field m f) Delete old u w h = cc
  policy-kept (on.Model m) Read old u w h = cc
  policy-kept (on.Model m) Write old u w h = cc
  policy-kept (on.Model m) Create old u w h =
      model-kept (λ (i : ModelInfo). i.create) p s c is m old (λ i. refl) (λ i fields. refl)
      (λ create delete e i. same-given create i.create (sets-none-of-model m (is_some create) (subst (λ (x : Command). updates (on.Model m) Create x ≡ false) e u)))
      (λ create delete reason e i. same-given create i.create (sets-none-of-model m (is_some create) (subst (λ (x : Command). weakens (on.Model m) Create x ≡ false) e w))) h
  policy-kept (on.Model m) Delete old u w h =
      model-kept (λ (i : ModelInfo). i.delete) p s c is m old (λ i. refl) (λ i fields. refl)
      (λ create delete e i. same-given delete i.delete (sets-none-of-model m (is_some delete) (subst (λ (x : Command). updates (on.Model m) Delete x ≡ false) e u)))
      (λ create delete reason e i. same-given delete i.delete (sets-none-of-model m (is_some delete) (subst (λ (x : Command). weakens (on.Model m) Delete x ≡ false) e w))) h

-- ---- what is in force is well typed

-- the model and the field that a look-up found
pub record FoundField (s : Schema) (m f : ℕ) (g : FieldInfo) : Type 0 where
  pub model : ModelInfo
  pub found : model_of s m ≡ Some model
  pub field : field_in model.fields f ≡ Some g

pub found-field : (s : Schema) (m f : ℕ) (g : FieldInfo) → field_of s m f ≡ Some g → FoundField s m f g
found-field s m f g h =
    elim (model_of s m) as (λ (o : Option ModelInfo). model_of s m ≡ o → option_and_then (λ (i : ModelInfo). field_in i.fields f) o ≡ Some g → FoundField s m f g) [
      | None ↦ λ here e. cc
      | Some i ↦ λ here e. record { model = i; found = here; field = e }
    ] refl h

model-typed : (s : Schema) (m : ℕ) (i : ModelInfo) → IsTyped s → model_of s m ≡ Some i → IsModel s i × (i.number ≡ m)
model-typed s m i typed h =
    (find-among (IsModel s) (λ (u : ModelInfo). u.number == m) s.models i typed h, eqb-true _ _ (find-holds (λ (u : ModelInfo). u.number == m) s.models i h))

pub field-typed : (s : Schema) (m f : ℕ) (g : FieldInfo) → IsTyped s → field_of s m f ≡ Some g → IsField s m g
field-typed s m f g typed h =
    let there = found-field s m f g h in
    let model = model-typed s m there.model typed there.found in
    subst (λ (n : ℕ). IsField s n g) model.1 (find-among (IsField s there.model.number) (λ (u : FieldInfo). u.number == f) there.model.fields g model.0.fields there.field)

module _ (s : Schema) (p : Policy) (typed : IsTyped s) where
  of-field : (m f : ℕ) (get : FieldInfo → Policy) → ((g : FieldInfo) → IsField s m g → IsPolicy s m (get g)) → option_map get (field_of s m f) ≡ Some p → IsPolicy s m p
  of-field m f get part h =
      elim (field_of s m f) as (λ (o : Option FieldInfo). field_of s m f ≡ o → option_map get o ≡ Some p → IsPolicy s m p) [
        | None ↦ λ here e. cc
        | Some g ↦ λ here e. let same : get g ≡ p = cc in subst (IsPolicy s m) same (part g (field-typed s m f g typed here))
      ] refl h

  of-model : (m : ℕ) (get : ModelInfo → Policy) → ((i : ModelInfo) → IsModel s i → IsPolicy s i.number (get i)) → option_map get (model_of s m) ≡ Some p → IsPolicy s m p
  of-model m get part h =
      elim (model_of s m) as (λ (o : Option ModelInfo). model_of s m ≡ o → option_map get o ≡ Some p → IsPolicy s m p) [
        | None ↦ λ here e. cc
        | Some i ↦ λ here e.
            let same : get i ≡ p = cc in
            let model = model-typed s m i typed here in
            subst (IsPolicy s m) same (subst (λ (n : ℕ). IsPolicy s n (get i)) model.1 (part i model.0))
      ] refl h

  pub policy-typed : (target : Target) (right : Right) → policy_in s target right ≡ Some p → IsPolicy s (model_of_target target) p
  policy-typed (on.Field m f) Read h = of-field m f (λ (g : FieldInfo). g.read) (λ g is. is.read) h
  policy-typed (on.Field m f) Write h = of-field m f (λ (g : FieldInfo). g.write) (λ g is. is.write) h
  policy-typed (on.Field m f) Create h = cc
  policy-typed (on.Field m f) Delete h = cc
  policy-typed (on.Model m) Read h = cc
  policy-typed (on.Model m) Write h = cc
  policy-typed (on.Model m) Create h = of-model m (λ (i : ModelInfo). i.create) (λ i is. is.create) h
  policy-typed (on.Model m) Delete h = of-model m (λ (i : ModelInfo). i.delete) (λ i is. is.delete) h

-- ---- numbers are below the next free ones

all-mapped : {A B : Type 0} (P : B → Type 0) (g : A → B) (xs : List A) → AllByRecursion P (map g xs) → AllByRecursion (λ x. P (g x)) xs
all-mapped P g [] h = tt
all-mapped P g (x ∷ xs) h = (h.0, all-mapped P g xs h.1)

pub field-below : (s : Schema) (m f : ℕ) (g : FieldInfo) → IsProper s → field_of s m f ≡ Some g → f < s.next_field
field-below s m f g proper h =
    let there = found-field s m f g h in
    let fields = find-among (AreProperFields s.next_field) (λ (u : ModelInfo). u.number == m) s.models there.model proper.fields there.found in
    let below = find-among (λ (u : FieldInfo). u.number < s.next_field) (λ (u : FieldInfo). u.number == f) there.model.fields g
    (all-mapped (λ n. n < s.next_field) (λ (u : FieldInfo). u.number) there.model.fields fields.numbers.below) there.field in
    let is : g.number ≡ f = eqb-true _ _ (find-holds (λ (u : FieldInfo). u.number == f) there.model.fields g there.field) in
    subst (λ (n : ℕ). n < s.next_field) is below

pub model-below : (s : Schema) (m : ℕ) (i : ModelInfo) → IsProper s → model_of s m ≡ Some i → m < s.next_model
model-below s m i proper h =
    let below = find-among (λ (u : ModelInfo). u.number < s.next_model) (λ (u : ModelInfo). u.number == m) s.models i
    (all-mapped (λ n. n < s.next_model) (λ (u : ModelInfo). u.number) s.models proper.models.below) h in
    let is : i.number ≡ m = eqb-true _ _ (find-holds (λ (u : ModelInfo). u.number == m) s.models i h) in
    subst (λ (n : ℕ). n < s.next_model) is below
