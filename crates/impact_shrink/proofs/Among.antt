-- Records among which one is left out.
use Rattle.std.proofs.Common.{◌≡◌, ℕ, Bool, true, false, ◌||◌, List, [], ◌∷◌, refl, ap, sym, ◌∙◌, cond}
use Rattle.std.specs.Prelude.{Option, Some, None, ◌==◌, if◌then◌else◌}
use Rattle.std.specs.List.{find, list_any, AllByRecursion}
use Rattle.std.specs.Option.{option_map_or}
use Rattle.std.proofs.lemmas.Bool.{ne_eqb}
use Rattle.data_meaning.specs.Database.{Record}
use Rattle.data_records.specs.Removed.{first_given, without_first}
use Rattle.data_records.specs.Rising.{ids_by}
use Rattle.data_records.proofs.Changes.{id_is}

other-id : (a i id : ℕ) → (i == id) ≡ false → (a == id) ≡ true → (a == i) ≡ false
other-id a i id other is = ne_eqb a i (λ same. let k : (i == id) ≡ true = ap (λ n. n == id) (sym same) ∙ is in cc)

-- an id that is there without the record was there
pub any-before : (i id : ℕ) (rs : List Record) → list_any (λ j. j == i) (ids_by (without_first (id_is id) rs)) ≡ true → list_any (λ j. j == i) (ids_by rs) ≡ true
any-before i id [] h = h
any-before i id (r ∷ rs) h =
    elim (r.id == id) as (λ (b : Bool). list_any (λ j. j == i) (ids_by (if b then rs else r ∷ without_first (id_is id) rs)) ≡ true
    → ((r.id == i) || list_any (λ j. j == i) (ids_by rs)) ≡ true) [
      | true ↦ λ k. or-right (r.id == i) (list_any (λ j. j == i) (ids_by rs)) k
      | false ↦ λ k. or-more (r.id == i) (list_any (λ j. j == i) (ids_by (without_first (id_is id) rs))) (list_any (λ j. j == i) (ids_by rs)) (any-before i id rs) k
    ] h
  where
    or-right : (a b : Bool) → b ≡ true → (a || b) ≡ true
    or-right true b h = refl
    or-right false b h = h

    or-more : (a b c : Bool) → (b ≡ true → c ≡ true) → (a || b) ≡ true → (a || c) ≡ true
    or-more true b c step h = refl
    or-more false b c step h = step h

-- and conversely for another id
pub any-other : (i id : ℕ) → (i == id) ≡ false → (rs : List Record) → list_any (λ j. j == i) (ids_by rs) ≡ true → list_any (λ j. j == i) (ids_by (without_first (id_is id) rs)) ≡ true
any-other i id other [] h = h
any-other i id other (r ∷ rs) h =
    elim (r.id == id) as (λ (b : Bool). (r.id == id) ≡ b → list_any (λ j. j == i) (ids_by (if b then rs else r ∷ without_first (id_is id) rs)) ≡ true) [
      | true ↦ λ is. ap (λ b. b || list_any (λ j. j == i) (ids_by rs)) (sym (other-id r.id i id other is)) ∙ h
      | false ↦ λ is.
          elim (r.id == i) as (λ (b : Bool). (b || list_any (λ j. j == i) (ids_by rs)) ≡ true → (b || list_any (λ j. j == i) (ids_by (without_first (id_is id) rs))) ≡ true) [
            | true ↦ λ k. refl
            | false ↦ λ k. any-other i id other rs k
          ] h
    ] refl

-- another record is found as before
pub find-other : (i id : ℕ) → (i == id) ≡ false → (rs : List Record) → find (λ (r : Record). r.id == i) (without_first (id_is id) rs) ≡ find (λ (r : Record). r.id == i) rs
find-other i id other [] = refl
find-other i id other (r ∷ rs) =
    elim (r.id == id) as (λ (b : Bool). (r.id == id) ≡ b
    → find (λ (u : Record). u.id == i) (if b then rs else r ∷ without_first (id_is id) rs) ≡ cond (r.id == i) (Some r) (find (λ (u : Record). u.id == i) rs)) [
      | true ↦ λ is. sym (ap (λ b. cond b (Some r) (find (λ (u : Record). u.id == i) rs)) (other-id r.id i id other is))
      | false ↦ λ is. ap (λ o. cond (r.id == i) (Some r) o) (find-other i id other rs)
    ] refl

-- where no record has the id, none is there
pub none-there : (id : ℕ) (rs : List Record) → AllByRecursion (λ (r : Record). (r.id == id) ≡ false) rs → list_any (λ j. j == id) (ids_by rs) ≡ false
none-there id [] all = refl
none-there id (r ∷ rs) all = ap (λ b. b || list_any (λ j. j == id) (ids_by rs)) all.0 ∙ none-there id rs all.1

-- ---- what is given by none

pub given-none : {A B : Type 0} (f : A → Option B) (xs : List A) → first_given f xs ≡ None → AllByRecursion (λ x. f x ≡ None) xs
given-none f [] none = tt
given-none {A} {B} f (x ∷ xs) none =
    elim (f x) as (λ (o : Option B). f x ≡ o → option_map_or Some o (first_given f xs) ≡ None → AllByRecursion (λ y. f y ≡ None) (x ∷ xs)) [
      | None ↦ λ is h. (is, given-none f xs h)
      | Some y ↦ λ is h. cc
    ] refl none

pub none-given : {A B : Type 0} (f : A → Option B) (xs : List A) → AllByRecursion (λ x. f x ≡ None) xs → first_given f xs ≡ None
none-given f [] all = refl
none-given f (x ∷ xs) all = ap (λ o. option_map_or Some o (first_given f xs)) all.0 ∙ none-given f xs all.1

pub none-passes : {A : Type 0} (p : A → Bool) (xs : List A) → find p xs ≡ None → AllByRecursion (λ x. p x ≡ false) xs
none-passes p [] none = tt
none-passes {A} p (x ∷ xs) none =
    elim (p x) as (λ (b : Bool). p x ≡ b → cond b (Some x) (find p xs) ≡ None → AllByRecursion (λ y. p y ≡ false) (x ∷ xs)) [
      | true ↦ λ is h. cc
      | false ↦ λ is h. (is, none-passes p xs h)
    ] refl none

pub none-found : {A : Type 0} (p : A → Bool) (xs : List A) → AllByRecursion (λ x. p x ≡ false) xs → find p xs ≡ None
none-found p [] all = refl
none-found p (x ∷ xs) all = ap (λ b. cond b (Some x) (find p xs)) all.0 ∙ none-found p xs all.1
