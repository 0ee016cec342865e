-- New numbers: the places of what is there.
use Rattle.std.proofs.Common.{◌≡◌, ◌==◌, ℕ, ◌+◌, ◌<◌, Bool, true, false, not, cond, List, [], ◌∷◌, refl, ap, sym, ◌∙◌, subst, arith, length, map}
use Rattle.std.specs.Prelude.{Option, Some, IsTrue, is_some, nat_eq, if◌then◌else◌}
use Rattle.std.specs.List.{AllByRecursion, IsDistinct, find, position_or_len}
use Rattle.std.proofs.lemmas.Bool.{eqb-true, eq-eqb, ne_eqb}
use Rattle.type_schema.specs.Schema.{StaticInfo, FieldInfo, ModelInfo, Schema, field_in, model_in, static_of}
use Rattle.data_records.specs.Renumbered.{new_field, new_model, place_of_field}
use Rattle.type_anew.specs.Policies.{new_static}

-- ---- two numbers have one place only if they are one

pub place-injective : {A : Type 0} (number : A → ℕ) (xs : List A) (m n : ℕ) → IsTrue (is_some (find (λ x. number x == n) xs))
    → position_or_len (λ x. number x == m) xs ≡ position_or_len (λ x. number x == n) xs → m ≡ n
place-injective number [] m n has same = absurd (cc has)
place-injective {A} number (x ∷ xs) m n has same = at (λ has same. place-injective number xs m n has same) (number x == m) (number x == n) refl refl has same
  where
    at : (IsTrue (is_some (find (λ y. number y == n) xs)) → position_or_len (λ y. number y == m) xs ≡ position_or_len (λ y. number y == n) xs → m ≡ n) → (b c : Bool) → (number x == m) ≡ b → (number x == n) ≡ c → IsTrue (is_some (cond c (Some x) (find (λ y. number y == n) xs)))
        → cond (not b) (1 + position_or_len (λ y. number y == m) xs) 0 ≡ cond (not c) (1 + position_or_len (λ y. number y == n) xs) 0 → m ≡ n
    at rest true true one other has same = sym (eqb-true (number x) m one) ∙ eqb-true (number x) n other
    at rest true false one other has same = absurd (omega (arith, same))
    at rest false true one other has same = absurd (omega (arith, same))
    at rest false false one other has same = rest has (omega (arith, same))

same-test : (m n k j : ℕ) → (k ≡ j → m ≡ n) → (m ≡ n → k ≡ j) → (k == j) ≡ (m == n)
same-test m n k j back on = at (m == n) refl
  where
    at : (b : Bool) → (m == n) ≡ b → (k == j) ≡ b
    at true is = eq-eqb k j (on (eqb-true m n is))
    at false is = ne_eqb k j (λ e. let h : (m == n) ≡ true = eq-eqb m n (back e) in cc)

pub same-model : (models : List ModelInfo) (m n : ℕ) → IsTrue (is_some (model_in models n)) → (new_model models m == new_model models n) ≡ (m == n)
same-model models m n has = same-test m n (new_model models m) (new_model models n) (place-injective (λ (i : ModelInfo). i.number) models m n has) (λ e. ap (new_model models) e)

pub same-static : (s : Schema) (m n : ℕ) → IsTrue (is_some (static_of s n)) → (new_static s m == new_static s n) ≡ (m == n)
same-static s m n has = same-test m n (new_static s m) (new_static s n) (place-injective (λ (i : StaticInfo). i.number) s.statics m n has) (λ e. ap (new_static s) e)

field-injective : (models : List ModelInfo) (m f g : ℕ) (info : ModelInfo) → model_in models m ≡ Some info → IsTrue (is_some (field_in info.fields g))
    → new_field models m f ≡ new_field models m g → f ≡ g
field-injective [] m f g info found has same = cc
field-injective (a ∷ models) m f g info found has same = at (λ found same. field-injective models m f g info found has same) (a.number == m) found same
  where
    at : (model_in models m ≡ Some info → new_field models m f ≡ new_field models m g → f ≡ g) → (b : Bool) → cond b (Some a) (model_in models m) ≡ Some info
        → (if b then place_of_field a.fields f else length a.fields + new_field models m f) ≡ (if b then place_of_field a.fields g else length a.fields + new_field models m g) → f ≡ g
    at rest true found same =
        let here : a ≡ info = cc found in
        place-injective (λ (i : FieldInfo). i.number) a.fields f g (subst (λ (i : ModelInfo). IsTrue (is_some (field_in i.fields g))) (sym here) has) same
    at rest false found same = rest found (omega (arith, same))

pub same-field : (models : List ModelInfo) (m f g : ℕ) (info : ModelInfo) → model_in models m ≡ Some info → IsTrue (is_some (field_in info.fields g))
    → (new_field models m f == new_field models m g) ≡ (f == g)
same-field models m f g info found has =
    same-test f g (new_field models m f) (new_field models m g) (field-injective models m f g info found has) (λ e. ap (new_field models m) e)

-- ---- what is there by its number

pub is-there : {A : Type 0} (b : Bool) (x : A) (o : Option A) → IsTrue (is_some o) → IsTrue (is_some (cond b (Some x) o))
is-there true x o h = refl
is-there false x o h = h

pub all-weaken : {A : Type 0} (P Q : A → Type 0) → ((x : A) → P x → Q x) → (xs : List A) → AllByRecursion P xs → AllByRecursion Q xs
all-weaken P Q f [] all = tt
all-weaken P Q f (x ∷ xs) all = (f x all.0, all-weaken P Q f xs all.1)

pub first-there : {A : Type 0} (number : A → ℕ) (x : A) (xs : List A) → IsTrue (is_some (find (λ y. number y == number x) (x ∷ xs)))
first-there number x xs = ap (λ b. is_some (cond b (Some x) (find (λ y. number y == number x) xs))) (eq-eqb (number x) (number x) refl)

pub all-there : {A : Type 0} (number : A → ℕ) (xs : List A) → AllByRecursion (λ x. IsTrue (is_some (find (λ y. number y == number x) xs))) xs
all-there number [] = tt
all-there {A} number (x ∷ xs) = (
  first-there number x xs,
  all-weaken (λ z. IsTrue (is_some (find (λ y. number y == number z) xs))) (λ z. IsTrue (is_some (find (λ y. number y == number z) (x ∷ xs))))
      (λ z h. is-there (number x == number z) x (find (λ y. number y == number z) xs) h) xs (all-there number xs),
)

-- the first one has another number than what is there behind it
pub not-first : {A : Type 0} (number : A → ℕ) (x : A) (xs : List A) (n : ℕ) → AllByRecursion (λ k. nat_eq (number x) k ≡ false) (map number xs)
    → IsTrue (is_some (find (λ y. number y == n) xs)) → (number x == n) ≡ false
not-first number x [] n apart has = absurd (cc has)
not-first {A} number x (y ∷ ys) n apart has = at (λ has. not-first number x ys n apart.1 has) (number y == n) refl has
  where
    at : (IsTrue (is_some (find (λ z. number z == n) ys)) → (number x == n) ≡ false) → (b : Bool) → (number y == n) ≡ b → IsTrue (is_some (cond b (Some y) (find (λ z. number z == n) ys))) → (number x == n) ≡ false
    at rest true is has = ap (λ k. number x == k) (sym (eqb-true (number y) n is)) ∙ apart.0
    at rest false is has = rest has

-- ---- the new numbers in their order

-- these fields get the numbers from k on
abbrev pub GetNumbers : (ℕ → ℕ) → ℕ → List FieldInfo → Type 0
GetNumbers number k [] = Unit {0}
GetNumbers number k (f ∷ fields) = (number f.number ≡ k) × GetNumbers number (k + 1) fields

pub fields-get : (number : ℕ → ℕ) (k : ℕ) (fields : List FieldInfo) → IsDistinct nat_eq (map (λ (f : FieldInfo). f.number) fields)
    → ((f : ℕ) → IsTrue (is_some (field_in fields f)) → number f ≡ k + place_of_field fields f) → GetNumbers number k fields
unfolding IsDistinct
fields-get number k [] apart is = tt
fields-get number k (x ∷ fields) apart is =
    let here : place_of_field (x ∷ fields) x.number ≡ 0 = ap (λ b. cond (not b) (1 + place_of_field fields x.number) 0) (eq-eqb x.number x.number refl) in
    let first = is x.number (first-there (λ (f : FieldInfo). f.number) x fields) in (
      omega (arith, first, here),
      fields-get number (k + 1) fields apart.1 (λ f has.
          let other : (x.number == f) ≡ false = not-first (λ (g : FieldInfo). g.number) x fields f apart.0 has in
          let place : place_of_field (x ∷ fields) f ≡ 1 + place_of_field fields f = ap (λ b. cond (not b) (1 + place_of_field fields f) 0) other in
          let all = is f (is-there (x.number == f) x (field_in fields f) has) in
          omega (arith, all, place)),
    )

module _ (all : List ModelInfo) where
  -- these models get the numbers from n on, and their fields those from k on
  abbrev pub ModelsGet : ℕ → ℕ → List ModelInfo → Type 0
  ModelsGet n k [] = Unit {0}
  ModelsGet n k (a ∷ models) = ((new_model all a.number ≡ n) × GetNumbers (new_field all a.number) k a.fields) × ModelsGet (n + 1) (k + length a.fields) models

  abbrev FromHere : ℕ → ℕ → List ModelInfo → ℕ → Type 0
  FromHere n k models m = (new_model all m ≡ n + new_model models m) × ((f : ℕ) → new_field all m f ≡ k + new_field models m f)

  pub models-get : (n k : ℕ) (models : List ModelInfo) → IsDistinct nat_eq (map (λ (a : ModelInfo). a.number) models)
      → AllByRecursion (λ (a : ModelInfo). IsDistinct nat_eq (map (λ (f : FieldInfo). f.number) a.fields)) models
      → ((m : ℕ) → IsTrue (is_some (model_in models m)) → FromHere n k models m) → ModelsGet n k models
  unfolding IsDistinct
  models-get n k [] apart fields is = tt
  models-get n k (a ∷ models) apart fields is =
      let self : (a.number == a.number) ≡ true = eq-eqb a.number a.number refl in
      let first = is a.number (first-there (λ (i : ModelInfo). i.number) a models) in
      let here : new_model (a ∷ models) a.number ≡ 0 = ap (λ b. cond (not b) (1 + new_model models a.number) 0) self in
      let field : (f : ℕ) → new_field (a ∷ models) a.number f ≡ place_of_field a.fields f
      = λ f. ap (λ b. if b then place_of_field a.fields f else length a.fields + new_field models a.number f) self in (
        (omega (arith, first.0, here), fields-get (new_field all a.number) k a.fields fields.0 (λ f has. first.1 f ∙ ap (λ n. k + n) (field f))),
        models-get (n + 1) (k + length a.fields) models apart.1 fields.1 (λ m has.
            let other : (a.number == m) ≡ false = not-first (λ (i : ModelInfo). i.number) a models m apart.0 has in
            let more = is m (is-there (a.number == m) a (model_in models m) has) in
            let place : new_model (a ∷ models) m ≡ 1 + new_model models m = ap (λ b. cond (not b) (1 + new_model models m) 0) other in
            let behind : (f : ℕ) → new_field (a ∷ models) m f ≡ length a.fields + new_field models m f
            = λ f. ap (λ b. if b then place_of_field a.fields f else length a.fields + new_field models m f) other in
            (omega (arith, more.0, place), (λ f. omega (arith, more.1 f, behind f)))),
      )

pub place-below : {A : Type 0} (p : A → Bool) (xs : List A) → IsTrue (is_some (find p xs)) → position_or_len p xs < length xs
place-below p [] has = absurd (cc has)
place-below {A} p (x ∷ xs) has = at (λ has. place-below p xs has) (p x) has
  where
    at : (IsTrue (is_some (find p xs)) → position_or_len p xs < length xs) → (b : Bool) → IsTrue (is_some (cond b (Some x) (find p xs))) → cond (not b) (1 + position_or_len p xs) 0 < length (x ∷ xs)
    at rest true has = omega arith
    at rest false has = omega (arith, rest has)
