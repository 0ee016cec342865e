-- What a name names in a proper schema has that name under its number.
use Rattle.std.proofs.Common.{◌≡◌, ◌==◌, ℕ, Bool, true, false, cond, List, [], ◌∷◌, map, refl, ap, ◌∙◌, subst, eq-eqb}
use Rattle.std.specs.Prelude.{Option, Some, None, nat_eq, option_and_then}
use Rattle.std.specs.List.{AllByRecursion, IsDistinct, find}
use Rattle.std.specs.Option.{option_map, option_map_or}
use Rattle.std.specs.Str.{bytes_eq}
use Rattle.std.proofs.lemmas.Slice.Eq.{bytes_eq-Decides}
use Rattle.type_schema.specs.declared.types.TTy.{TTy}
use Rattle.type_schema.specs.Trees.{Name}
use Rattle.type_schema.specs.Schema.{StaticInfo, FieldInfo, ModelInfo, Schema, field_in, model_of}
use Rattle.type_schema.specs.Proper.{AreProperFields, IsProper}
use Rattle.type_typing.specs.Names.{field_named, model_named, static_named}
use Rattle.type_anew.specs.Names.{names_in}
use Rattle.type_anew.proofs.Trees.{AreRight}

-- what holds of all holds of what is found, and what is found passes
pub found-of : {A : Type 0} (P : A → Type 0) (p : A → Bool) (xs : List A) (x : A) → AllByRecursion P xs → find p xs ≡ Some x → P x
found-of P p [] x all is = absurd (cc is)
found-of {A} P p (y ∷ ys) x all is = at (p y) (found-of P p ys x all.1) is
  where
    at : (b : Bool) → (find p ys ≡ Some x → P x) → cond b (Some y) (find p ys) ≡ Some x → P x
    at true rest e = let same : y ≡ x = cc e in subst P same all.0
    at false rest e = rest e

pub passes : {A : Type 0} (p : A → Bool) (xs : List A) (x : A) → find p xs ≡ Some x → p x ≡ true
passes p [] x is = absurd (cc is)
passes {A} p (y ∷ ys) x is = at (p y) refl (passes p ys x) is
  where
    at : (b : Bool) → p y ≡ b → (find p ys ≡ Some x → p x ≡ true) → cond b (Some y) (find p ys) ≡ Some x → p x ≡ true
    at true passed rest e = let same : y ≡ x = cc e in subst (λ z. p z ≡ true) same passed
    at false failed rest e = rest e

pub no-earlier : {A : Type 0} (number : A → ℕ) (n : ℕ) (xs : List A) (p : A → Bool) (x : A) → AllByRecursion (λ k. nat_eq n k ≡ false) (map number xs) → find p xs ≡ Some x → (n == number x) ≡ false
no-earlier number n [] p x differ is = absurd (cc is)
no-earlier {A} number n (y ∷ ys) p x differ is = at (p y) (no-earlier number n ys p x differ.1) is
  where
    at : (b : Bool) → (find p ys ≡ Some x → (n == number x) ≡ false) → cond b (Some y) (find p ys) ≡ Some x → (n == number x) ≡ false
    at true rest e = let same : y ≡ x = cc e in subst (λ (z : A). (n == number z) ≡ false) same differ.0
    at false rest e = rest e

-- what is found is found by its number, where the numbers differ
pub by-number : {A : Type 0} (number : A → ℕ) (xs : List A) (p : A → Bool) (x : A) → IsDistinct nat_eq (map number xs) → find p xs ≡ Some x → find (λ y. number y == number x) xs ≡ Some x
unfolding IsDistinct
by-number number [] p x differ is = absurd (cc is)
by-number {A} number (y ∷ ys) p x differ is = at (p y) (by-number number ys p x differ.1) is
  where
    at : (b : Bool) → (find p ys ≡ Some x → find (λ z. number z == number x) ys ≡ Some x) → cond b (Some y) (find p ys) ≡ Some x
        → cond (number y == number x) (Some y) (find (λ z. number z == number x) ys) ≡ Some x
    at true rest e =
        let same : y ≡ x = cc e in
        let is : (number y == number x) ≡ true = eq-eqb (number y) (number x) (ap number same) in
        ap (λ c. cond c (Some y) (find (λ z. number z == number x) ys)) is ∙ ap Some same
    at false rest e = ap (λ c. cond c (Some y) (find (λ z. number z == number x) ys)) (no-earlier number (number y) ys p x differ.0 e) ∙ rest e

-- the name under the number of what a name names
named-back : {A : Type 0} (number : A → ℕ) (name : A → Name) (xs : List A) (k : Name) (m : ℕ) → IsDistinct nat_eq (map number xs)
    → (o : Option A) → find (λ x. bytes_eq (name x) k) xs ≡ o → option_map number o ≡ Some m → option_map_or name (find (λ x. number x == m) xs) [] ≡ k
named-back number name xs k m differ None is e = absurd (cc e)
named-back {A} number name xs k m differ (Some x) is e =
    let there : number x ≡ m = cc e in
    let found : find (λ y. number y == number x) xs ≡ Some x = by-number number xs (λ y. bytes_eq (name y) k) x differ is in
    let same : name x ≡ k = (bytes_eq-Decides (name x) k).0 (passes (λ y. bytes_eq (name y) k) xs x is) in
    subst (λ n. option_map_or name (find (λ y. number y == n) xs) [] ≡ k) there (ap (λ (o : Option A). option_map_or name o []) found ∙ same)

abbrev first : ℕ × TTy → ℕ
first f = f.0

field-back : (name : Name) (k : ℕ) (o : Option ModelInfo) → ((i : ModelInfo) → o ≡ Some i → IsDistinct nat_eq (map (λ (f : FieldInfo). f.number) i.fields))
    → option_map first (option_and_then (λ (i : ModelInfo). option_map (λ (f : FieldInfo). (f.number, f.ty)) (find (λ (f : FieldInfo). bytes_eq f.name name) i.fields)) o) ≡ Some k
    → option_map_or (λ (f : FieldInfo). f.name) (option_and_then (λ (i : ModelInfo). field_in i.fields k) o) [] ≡ name
field-back name k None differ e = absurd (cc e)
field-back name k (Some i) differ e =
    let found : Option FieldInfo = find (λ (f : FieldInfo). bytes_eq f.name name) i.fields in
    named-back (λ (f : FieldInfo). f.number) (λ (f : FieldInfo). f.name) i.fields name k (differ i refl) found refl (out found ∙ e)
  where
    out : (o : Option FieldInfo) → option_map (λ (f : FieldInfo). f.number) o ≡ option_map first (option_map (λ (f : FieldInfo). (f.number, f.ty)) o)
    out None = refl
    out (Some f) = refl

pub names-are-right : (s : Schema) → IsProper s → AreRight s (names_in s)
unfolding model_named field_named static_named
names-are-right s proper = record {
  model = λ name m e. named-back (λ (i : ModelInfo). i.number) (λ (i : ModelInfo). i.name) s.models name m proper.models.distinct _ refl e;
  field = λ m name k e.
      field-back name k (model_of s m)
      (λ i is. (found-of (AreProperFields s.next_field) (λ (j : ModelInfo). j.number == m) s.models i proper.fields is).numbers.distinct) e;
  static = λ name k e. named-back (λ (i : StaticInfo). i.number) (λ (i : StaticInfo). i.name) s.statics name k proper.statics.distinct _ refl e;
}
