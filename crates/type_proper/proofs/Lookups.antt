-- What is found in a schema after a command.
use Rattle.std.proofs.Common.{◌≡◌, ℕ, Bool, true, false, cond, List, [], ◌∷◌, ◌++◌, map, refl, sym, ◌∙◌, ap, subst}
use Rattle.std.specs.Prelude.{◌==◌, not, Option, Some, None, IsTrue, is_some, filter, option_and_then}
use Rattle.std.specs.List.{find}
use Rattle.std.specs.Option.{option_map, option_map_or}
use Rattle.std.proofs.lemmas.Bool.{eqb-true}
use Rattle.type_schema.specs.declared.types.TBase.TheVariants as base
use Rattle.type_schema.specs.declared.types.TTy.{TTy}
use Rattle.type_schema.specs.declared.types.TTy.TheVariants.{Plain, Set, Opt}
use Rattle.type_schema.specs.Schema.{FieldInfo, ModelInfo, Schema, field_in, model_of, static_of, type_of, is_principal_model}
use Rattle.type_schema.specs.Typing.{HasModel}
use Rattle.type_commands.specs.declared.thing.Thing.{Thing}
use Rattle.type_commands.specs.declared.thing.Thing.TheVariants as the
use Rattle.type_commands.specs.Users.{is_field, is_model, is_static}
use Rattle.type_proper.proofs.Kept.{Free, Keeps}

-- ---- lists of things with numbers

-- the things without the one of this number
pub find-other : {A : Type 0} (number : A → ℕ) (m n : ℕ) → (m == n) ≡ false → (xs : List A)
    → find (λ x. number x == n) (filter (λ x. not (number x == m)) xs) ≡ find (λ x. number x == n) xs
find-other number m n apart [] = refl
find-other {A} number m n apart (x ∷ xs) = at (find-other number m n apart xs) (number x == m) refl
  where
    not-it : number x ≡ m → (number x == n) ≡ false
    not-it is = subst (λ k. (k == n) ≡ false) (sym is) apart

    at : find (λ y. number y == n) (filter (λ y. not (number y == m)) xs) ≡ find (λ y. number y == n) xs → (b : Bool) → (number x == m) ≡ b
        → find (λ y. number y == n) (cond (not b) (x ∷ filter (λ y. not (number y == m)) xs) (filter (λ y. not (number y == m)) xs)) ≡ cond (number x == n) (Some x) (find (λ y. number y == n) xs)
    at rest true e = rest ∙ ap (λ b. cond b (Some x) (find (λ y. number y == n) xs)) (sym (not-it (eqb-true (number x) m e)))
    at rest false e = ap (λ o. cond (number x == n) (Some x) o) rest

-- one thing, or all others, changed
pub find-changed : {A : Type 0} (number : A → ℕ) (change : A → A) → ((x : A) → number (change x) ≡ number x) → (n : ℕ) (xs : List A)
    → find (λ x. number x == n) (map change xs) ≡ option_map change (find (λ x. number x == n) xs)
find-changed number change same n [] = refl
find-changed {A} number change same n (x ∷ xs) =
    ap (λ k. cond (k == n) (Some (change x)) (find (λ y. number y == n) (map change xs))) (same x)
    ∙ ap (λ o. cond (number x == n) (Some (change x)) o) (find-changed number change same n xs)
    ∙ out (number x == n)
  where
    out : (b : Bool) → cond b (Some (change x)) (option_map change (find (λ y. number y == n) xs)) ≡ option_map change (cond b (Some x) (find (λ y. number y == n) xs))
    out true = refl
    out false = refl

-- with more behind them
pub find-more : {A : Type 0} (p : A → Bool) (xs ys : List A) (a : A) → find p xs ≡ Some a → find p (xs ++ ys) ≡ Some a
find-more p [] ys a is = absurd (cc is)
find-more {A} p (x ∷ xs) ys a is = at (λ h. find-more p xs ys a h) (p x) is
  where
    at : (find p xs ≡ Some a → find p (xs ++ ys) ≡ Some a) → (b : Bool) → cond b (Some x) (find p xs) ≡ Some a → cond b (Some x) (find p (xs ++ ys)) ≡ Some a
    at rest true h = h
    at rest false h = rest h

-- ---- one model after a command

-- the type of a field of a model
abbrev pub type_in : ModelInfo → ℕ → Option TTy
type_in info f = option_map (λ (g : FieldInfo). g.ty) (field_in info.fields f)

module _ (thing : Thing) where
  -- What of a model is kept that is not the thing. The types of its fields do not use the thing.
  pub record Becomes (n : ℕ) (info later : ModelInfo) : Type 0 where
    pub principal : IsTrue info.principal → IsTrue later.principal
    pub field : (f : ℕ) (t : TTy) → is_field thing n f ≡ false → type_in info f ≡ Some t → (type_in later f ≡ Some t) × Free thing t

  abbrev pub Found : Schema → ℕ → ModelInfo → Type 0
  Found after n info = (later : ModelInfo) × (model_of after n ≡ Some later) × Becomes n info later

  type-out : (s : Schema) (n f : ℕ) (o : Option ModelInfo) → model_of s n ≡ o → type_of s n f ≡ option_and_then (λ (info : ModelInfo). type_in info f) o
  type-out s n f None is = ap (λ o. option_map (λ (g : FieldInfo). g.ty) (option_and_then (λ (info : ModelInfo). field_in info.fields f) o)) is
  type-out s n f (Some info) is = ap (λ o. option_map (λ (g : FieldInfo). g.ty) (option_and_then (λ (info : ModelInfo). field_in info.fields f) o)) is

  module _ (s after : Schema) (statics : (n : ℕ) → is_static thing n ≡ false → IsTrue (is_some (static_of s n)) → IsTrue (is_some (static_of after n)))
      (models : (n : ℕ) (info : ModelInfo) → is_model thing n ≡ false → model_of s n ≡ Some info → Found after n info) where
    has-model : (n : ℕ) → is_model thing n ≡ false → (o : Option ModelInfo) → model_of s n ≡ o → IsTrue (is_some o) → HasModel after n
    has-model n free None is has = absurd (cc has)
    has-model n free (Some info) is has = let found = models n info free is in ap is_some found.1

    is-principal : (n : ℕ) → is_model thing n ≡ false → (o : Option ModelInfo) → model_of s n ≡ o → IsTrue (option_map_or (λ (info : ModelInfo). info.principal) o false) → IsTrue (is_principal_model after n)
    is-principal n free None is has = absurd (cc has)
    is-principal n free (Some info) is has =
        let found = models n info free is in
        ap (λ o. option_map_or (λ (info : ModelInfo). info.principal) o false) found.1 ∙ found.2.principal has

    has-field : (n f : ℕ) (t : TTy) → is_model thing n ≡ false → is_field thing n f ≡ false → (o : Option ModelInfo) → model_of s n ≡ o → option_and_then (λ (info : ModelInfo). type_in info f) o ≡ Some t
        → (type_of after n f ≡ Some t) × Free thing t
    has-field n f t free other None is has = absurd (cc has)
    has-field n f t free other (Some info) is has =
        let found = models n info free is in
        let kept = found.2.field f t other has in
        (type-out after n f (Some found.0) found.1 ∙ kept.0, kept.1)

    pub keeps-found : Keeps thing s after
    keeps-found = record {
      model = λ n free has. has-model n free (model_of s n) refl has;
      principal = λ n free has. is-principal n free (model_of s n) refl has;
      static = statics;
      field = λ n f t free other has. has-field n f t free other (model_of s n) refl (sym (type-out s n f (model_of s n) refl) ∙ has);
    }

-- ---- a thing that nothing is

-- types name no static
pub static-free : (k : ℕ) (t : TTy) → Free (the.Static k) t
static-free k (Plain base.Bool) = refl
static-free k (Plain base.Int) = refl
static-free k (Plain base.Text) = refl
static-free k (Plain (base.Id m)) = refl
static-free k (Set m) = refl
static-free k (Opt base.Bool) = refl
static-free k (Opt base.Int) = refl
static-free k (Opt base.Text) = refl
static-free k (Opt (base.Id m)) = refl

pub field-free : (m f : ℕ) (t : TTy) → Free (the.Field m f) t
field-free m f (Plain base.Bool) = refl
field-free m f (Plain base.Int) = refl
field-free m f (Plain base.Text) = refl
field-free m f (Plain (base.Id n)) = refl
field-free m f (Set n) = refl
field-free m f (Opt base.Bool) = refl
field-free m f (Opt base.Int) = refl
field-free m f (Opt base.Text) = refl
field-free m f (Opt (base.Id n)) = refl
