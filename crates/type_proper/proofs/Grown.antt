-- A schema that grows, or whose models change, is proper as before.
use Rattle.std.proofs.Common.{◌≡◌, ℕ, ◌<◌, Bool, true, false, cond, List, [], ◌∷◌, ◌++◌, map, refl, ◌∙◌, ap, arith}
use Rattle.std.specs.Prelude.{◌==◌, Option, Some, None, IfSome, if◌then◌else◌}
use Rattle.std.specs.List.{AllByRecursion, find}
use Rattle.std.specs.Option.{option_map}
use Rattle.std.proofs.lemmas.Bool.{eqb-true}
use Rattle.type_schema.specs.declared.types.TTy.{TTy}
use Rattle.type_schema.specs.Trees.{Policy}
use Rattle.type_schema.specs.Schema.{StaticInfo, FieldInfo, ModelInfo, Schema, field_in, static_of}
use Rattle.type_schema.specs.Typing.{IsPolicy, IsField, IsModel}
use Rattle.type_schema.specs.Commands.{change_model, change_field, given_or}
use Rattle.type_schema.specs.Proper.{IsProper, field_numbers, model_numbers}
use Rattle.type_commands.specs.declared.thing.Thing.{Thing}
use Rattle.type_commands.specs.declared.thing.Thing.TheVariants as the
use Rattle.type_proper.specs.Shown.{PolicyIsShown}
use Rattle.type_proper.specs.Steady.{ModelIsShown}
use Rattle.type_proper.proofs.Kept.{Keeps, policy-kept}
use Rattle.type_proper.proofs.Lists.{all-both, all-map, all-weaken}
use Rattle.type_proper.proofs.Lookups.{find-changed, find-more, static-free}
use Rattle.type_proper.proofs.Unlisted.{policy-unlisted}
use Rattle.type_proper.proofs.Users.{FieldFree, model-kept}

-- ---- the next static, which nothing lists yet

no-number : {A : Type 0} (number : A → ℕ) (next : ℕ) (xs : List A) → AllByRecursion (λ n. n < next) (map number xs) → find (λ x. number x == next) xs ≡ None
no-number number next [] below = refl
no-number {A} number next (x ∷ xs) below = at (no-number number next xs below.1) (number x == next) refl
  where
    at : find (λ y. number y == next) xs ≡ None → (b : Bool) → (number x == next) ≡ b → cond b (Some x) (find (λ y. number y == next) xs) ≡ None
    at rest true e = let same : number x ≡ next = eqb-true (number x) next e in absurd (omega arith)
    at rest false e = rest

pub next-is-free : (s : Schema) → IsProper s → static_of s s.next_static ≡ None
next-is-free s proper = no-number (λ (n : StaticInfo). n.number) s.next_static s.statics proper.statics.below

-- nothing that is typed uses it
module _ (s : Schema) (k : ℕ) (gone : static_of s k ≡ None) where
  abbrev it : Thing
  it = the.Static k

  pub field-free-of : (m : ℕ) (f : FieldInfo) → IsField s m f → FieldFree it f
  field-free-of m f typed = record {
    ty = static-free k f.ty;
    read = policy-unlisted s k gone m f.read typed.read;
    write = policy-unlisted s k gone m f.write typed.write;
  }

  pub fields-free-of : (m : ℕ) (fields : List FieldInfo) → AllByRecursion (IsField s m) fields → AllByRecursion (FieldFree it) fields
  fields-free-of m fields typed = all-weaken (IsField s m) (FieldFree it) (λ f typed. field-free-of m f typed) fields typed

  module _ (after : Schema) (keeps : Keeps it s after) where
    pub model-grown : (info : ModelInfo) → IsModel s info → ModelIsShown info → IsModel after info
    model-grown info typed shown =
        model-kept it s after keeps info refl (policy-unlisted s k gone info.number info.create typed.create) (policy-unlisted s k gone info.number info.delete typed.delete)
        (fields-free-of info.number info.fields typed.fields) shown typed

    pub models-grown : (ms : List ModelInfo) → AllByRecursion (IsModel s) ms → AllByRecursion ModelIsShown ms → AllByRecursion (IsModel after) ms
    models-grown ms typed shown = all-both (IsModel s) ModelIsShown (IsModel after) model-grown ms typed shown

    pub policy-grown : (m : ℕ) (p : Policy) → IsPolicy s m p → PolicyIsShown p → IsPolicy after m p
    policy-grown m p typed shown = policy-kept it s after keeps m p refl shown (policy-unlisted s k gone m p typed) typed

-- ---- a model that changes, or stays

abbrev pub changed_to : ℕ → (ModelInfo → ModelInfo) → ModelInfo → ModelInfo
changed_to m change info = if info.number == m then change info else info

-- by cases, whether it is the model
pub is-changed : (P : ModelInfo → Type 0) (m : ℕ) (change : ModelInfo → ModelInfo) (info : ModelInfo) → (info.number ≡ m → P (change info)) → ((info.number == m) ≡ false → P info)
    → P (changed_to m change info)
is-changed P m change info here other = at (info.number == m) refl
  where
    at : (b : Bool) → (info.number == m) ≡ b → P (cond b (change info) info)
    at true e = here (eqb-true info.number m e)
    at false e = other e

module _ (m : ℕ) (change : ModelInfo → ModelInfo) (number : (info : ModelInfo) → (change info).number ≡ info.number) where
  pub same-number : (info : ModelInfo) → (changed_to m change info).number ≡ info.number
  same-number info = is-changed (λ (i : ModelInfo). i.number ≡ info.number) m change info (λ is. number info) (λ is. refl)

  pub numbers-changed : (ms : List ModelInfo) → model_numbers (change_model m change ms) ≡ model_numbers ms
  numbers-changed [] = refl
  numbers-changed (info ∷ ms) =
      ap (λ n. n ∷ model_numbers (change_model m change ms)) (same-number info) ∙ ap (λ (ns : List ℕ). info.number ∷ ns) (numbers-changed ms)

  pub names-changed : ((info : ModelInfo) → (change info).name ≡ info.name) → (ms : List ModelInfo)
      → map (λ (i : ModelInfo). i.name) (change_model m change ms) ≡ map (λ (i : ModelInfo). i.name) ms
  names-changed name [] = refl
  names-changed name (info ∷ ms) =
      ap (λ (n : List ℕ). n ∷ map (λ (i : ModelInfo). i.name) (change_model m change ms))
      (is-changed (λ (i : ModelInfo). i.name ≡ info.name) m change info (λ is. name info) (λ is. refl))
      ∙ ap (λ (ns : List (List ℕ)). info.name ∷ ns) (names-changed name ms)

  pub model-of-changed : (s : Schema) (models : List ModelInfo) (n : ℕ) (info : ModelInfo) → find (λ (i : ModelInfo). i.number == n) models ≡ Some info
      → find (λ (i : ModelInfo). i.number == n) (change_model m change models) ≡ Some (changed_to m change info)
  model-of-changed s models n info is =
      find-changed (λ (i : ModelInfo). i.number) (changed_to m change) same-number n models ∙ ap (option_map (changed_to m change)) is

  -- what holds of all models after the change
  pub all-changed : (P Q : ModelInfo → Type 0) → ((info : ModelInfo) → info.number ≡ m → P info → Q (change info)) → ((info : ModelInfo) → (info.number == m) ≡ false → P info → Q info)
      → (ms : List ModelInfo) → AllByRecursion P ms → AllByRecursion Q (change_model m change ms)
  all-changed P Q here other ms all =
      all-map Q (changed_to m change) ms
      (all-weaken P (λ info. Q (changed_to m change info)) (λ info h. is-changed Q m change info (λ is. here info is h) (λ is. other info is h)) ms all)

-- ---- the fields of a model after a command

pub fields-more : (fields : List FieldInfo) (f : FieldInfo) (g : ℕ) (t : TTy) → option_map (λ (h : FieldInfo). h.ty) (field_in fields g) ≡ Some t
    → option_map (λ (h : FieldInfo). h.ty) (field_in (fields ++ f ∷ []) g) ≡ Some t
fields-more fields f g t is = at (field_in fields g) refl is
  where
    at : (o : Option FieldInfo) → field_in fields g ≡ o → option_map (λ (h : FieldInfo). h.ty) o ≡ Some t → option_map (λ (h : FieldInfo). h.ty) (field_in (fields ++ f ∷ []) g) ≡ Some t
    at None e h = absurd (cc h)
    at (Some h) e is = ap (option_map (λ (i : FieldInfo). i.ty)) (find-more (λ (i : FieldInfo). i.number == g) fields (f ∷ []) h e) ∙ is

abbrev pub with_policies : Option Policy → Option Policy → FieldInfo → FieldInfo
with_policies read write g = record g { read = given_or read g.read; write = given_or write g.write }

abbrev pub field_changed : ℕ → Option Policy → Option Policy → FieldInfo → FieldInfo
field_changed f read write g = if g.number == f then with_policies read write g else g

pub field-cases : (P : FieldInfo → Type 0) (f : ℕ) (read write : Option Policy) (g : FieldInfo) → (g.number ≡ f → P (with_policies read write g)) → ((g.number == f) ≡ false → P g)
    → P (field_changed f read write g)
field-cases P f read write g here other = at (g.number == f) refl
  where
    at : (b : Bool) → (g.number == f) ≡ b → P (cond b (with_policies read write g) g)
    at true e = here (eqb-true g.number f e)
    at false e = other e

module _ (f : ℕ) (read write : Option Policy) where
  field-number : (g : FieldInfo) → (field_changed f read write g).number ≡ g.number
  field-number g = field-cases (λ (h : FieldInfo). h.number ≡ g.number) f read write g (λ is. refl) (λ is. refl)

  pub field-numbers-changed : (fields : List FieldInfo) → field_numbers (change_field f (with_policies read write) fields) ≡ field_numbers fields
  field-numbers-changed [] = refl
  field-numbers-changed (g ∷ fields) =
      ap (λ n. n ∷ field_numbers (change_field f (with_policies read write) fields)) (field-number g) ∙ ap (λ (ns : List ℕ). g.number ∷ ns) (field-numbers-changed fields)

  pub field-names-changed : (fields : List FieldInfo) → map (λ (g : FieldInfo). g.name) (change_field f (with_policies read write) fields) ≡ map (λ (g : FieldInfo). g.name) fields
  field-names-changed [] = refl
  field-names-changed (g ∷ fields) =
      ap (λ (n : List ℕ). n ∷ map (λ (h : FieldInfo). h.name) (change_field f (with_policies read write) fields))
      (field-cases (λ (h : FieldInfo). h.name ≡ g.name) f read write g (λ is. refl) (λ is. refl))
      ∙ ap (λ (ns : List (List ℕ)). g.name ∷ ns) (field-names-changed fields)

  type-same : (o : Option FieldInfo) → option_map (λ (h : FieldInfo). h.ty) (option_map (field_changed f read write) o) ≡ option_map (λ (h : FieldInfo). h.ty) o
  type-same None = refl
  type-same (Some g) = ap Some (field-cases (λ (h : FieldInfo). h.ty ≡ g.ty) f read write g (λ is. refl) (λ is. refl))

  -- each field has the type that it had
  pub types-changed : (fields : List FieldInfo) (g : ℕ) → option_map (λ (h : FieldInfo). h.ty) (field_in (change_field f (with_policies read write) fields) g) ≡ option_map (λ (h : FieldInfo). h.ty) (field_in fields g)
  types-changed fields g =
      ap (option_map (λ (h : FieldInfo). h.ty)) (find-changed (λ (h : FieldInfo). h.number) (field_changed f read write) field-number g fields) ∙ type-same (field_in fields g)

  pub all-fields-changed : (P : FieldInfo → Type 0) → ((g : FieldInfo) → g.number ≡ f → P g → P (with_policies read write g)) → (fields : List FieldInfo) → AllByRecursion P fields
      → AllByRecursion P (change_field f (with_policies read write) fields)
  all-fields-changed P here fields all =
      all-map P (field_changed f read write) fields
      (all-weaken P (λ g. P (field_changed f read write g)) (λ g h. field-cases P f read write g (λ is. here g is h) (λ is. h)) fields all)

-- the policy that is given, or the one before
pub given-is : (P : Policy → Type 0) (given : Option Policy) (before : Policy) → IfSome given P → P before → P (given_or given before)
given-is P None before given old = old
given-is P (Some p) before given old = given
