-- Things with numbers and names, of which some are there at first and others are added by commands.
use Rattle.std.proofs.Common.{◌≡◌, ℕ, ◌^◌, ◌<◌, Bool, true, false, ◌||◌, List, [], ◌∷◌, ◌++◌, map, refl, sym, ◌∙◌, ap, subst, cond, arith, length}
use Rattle.std.specs.Prelude.{Option, Some, None, position, ◌==◌}
use Rattle.std.specs.List.{find, flat_map, list_any, AllByRecursion, IsDistinct}
use Rattle.std.specs.Option.{option_map_or}
use Rattle.std.specs.Str.{bytes_eq}
use Rattle.std.proofs.lemmas.Bool.{eqb-true}
use Rattle.std.proofs.lemmas.Slice.Eq.{bytes_eq-Decides}
use Rattle.text_ast.specs.Words.{IsName}
use Rattle.type_schema.specs.Commands.{Command}
use Rattle.data_meaning.proofs.Finds.{find-among}
use Rattle.check_witness.specs.Printed.{marked}
use Rattle.check_report_back.proofs.Marks.{IsBehind, IsCounted, marked-cut, place-below, nowhere, together}

-- ---- searches

none-found : {A : Type 0} (p : A → Bool) (xs : List A) → list_any p xs ≡ false → find p xs ≡ None
none-found p [] e = refl
none-found {A} p (x ∷ xs) e =
    elim (p x) as (λ (b : Bool). (b || list_any p xs) ≡ false → cond b (Some x) (find p xs) ≡ None) [
      | true ↦ λ h. cc
      | false ↦ λ h. none-found p xs h
    ] e

none-in-both : {A : Type 0} (p : A → Bool) (xs ys : List A) → find p xs ≡ None → find p ys ≡ None → find p (xs ++ ys) ≡ None
none-in-both p [] ys ex ey = ey
none-in-both {A} p (x ∷ xs) ys ex ey =
    elim (p x) as (λ (b : Bool). cond b (Some x) (find p xs) ≡ None → cond b (Some x) (find p (xs ++ ys)) ≡ None) [
      | true ↦ λ h. cc
      | false ↦ λ h. none-in-both p xs ys h ey
    ] ex

pub found-first : {A : Type 0} (p : A → Bool) (xs ys : List A) (a : A) → find p (xs ++ ys) ≡ Some a → find p ys ≡ None → find p xs ≡ Some a
found-first p [] ys a e none = cc
found-first {A} p (x ∷ xs) ys a e none =
    elim (p x) as (λ (b : Bool). cond b (Some x) (find p (xs ++ ys)) ≡ Some a → cond b (Some x) (find p xs) ≡ Some a) [
      | true ↦ λ h. h
      | false ↦ λ h. found-first p xs ys a h none
    ] e

-- where no command makes one, none is found
pub none-made : {A C : Type 0} (p : A → Bool) (made : C → List A) (cs : List C) → list_any (λ c. list_any p (made c)) cs ≡ false → find p (flat_map made cs) ≡ None
none-made p made [] e = refl
none-made {A} {C} p made (c ∷ cs) e =
    elim (list_any p (made c)) as (λ (b : Bool). list_any p (made c) ≡ b → (b || list_any (λ x. list_any p (made x)) cs) ≡ false → find p (made c ++ flat_map made cs) ≡ None) [
      | true ↦ λ here h. cc
      | false ↦ λ here h. none-in-both p (made c) (flat_map made cs) (none-found p (made c) here) (none-made p made cs h)
    ] refl e

-- ---- names that differ

module _ {A : Type 0} (number : A → ℕ) (name : A → List ℕ) where
  differs : (x : A) (xs : List A) (n : ℕ) (b : A) → AllByRecursion (λ y. bytes_eq (name x) y ≡ false) (map name xs) → find (λ a. number a == n) xs ≡ Some b
      → name x ≡ name b → ⊥
  differs x [] n b all e same = cc
  differs x (y ∷ xs) n b all e same =
      elim (number y == n) as (λ (t : Bool). cond t (Some y) (find (λ a. number a == n) xs) ≡ Some b → ⊥) [
        | true ↦ λ h.
            let it : y ≡ b = cc in
            let equal : bytes_eq (name x) (name y) ≡ true = (bytes_eq-Decides (name x) (name y)).1 (same ∙ ap name (sym it)) in
            let wrong : false ≡ true = sym all.0 ∙ equal in
            cc
        | false ↦ λ h. differs x xs n b all.1 h same
      ] e

  pub same-number : (xs : List A) (m n : ℕ) (a b : A) → IsDistinct bytes_eq (map name xs) → find (λ x. number x == m) xs ≡ Some a
      → find (λ x. number x == n) xs ≡ Some b → name a ≡ name b → m ≡ n
  unfolding IsDistinct
  same-number [] m n a b apart ea eb same = cc
  same-number (x ∷ xs) m n a b apart ea eb same =
      elim (number x == m) as (λ (t : Bool). (number x == m) ≡ t → cond t (Some x) (find (λ y. number y == m) xs) ≡ Some a → m ≡ n) [
        | true ↦ λ hm fa.
            elim (number x == n) as (λ (t : Bool). (number x == n) ≡ t → cond t (Some x) (find (λ y. number y == n) xs) ≡ Some b → m ≡ n) [
              | true ↦ λ hn fb. sym (eqb-true (number x) m hm) ∙ eqb-true (number x) n hn
              | false ↦ λ hn fb. let it : x ≡ a = cc in absurd (differs x xs n b apart.0 fb (ap name it ∙ same))
            ] refl eb
        | false ↦ λ hm fa.
            elim (number x == n) as (λ (t : Bool). (number x == n) ≡ t → cond t (Some x) (find (λ y. number y == n) xs) ≡ Some b → m ≡ n) [
              | true ↦ λ hn fb. let it : x ≡ b = cc in absurd (differs x xs m a apart.0 fa (ap name it ∙ sym same))
              | false ↦ λ hn fb. same-number xs m n a b apart.1 fa fb same
            ] refl eb
      ] refl ea

all-front : {A : Type 0} (P : A → Type 0) (xs ys : List A) → AllByRecursion P (xs ++ ys) → AllByRecursion P xs
all-front P [] ys all = tt
all-front P (x ∷ xs) ys all = (all.0, all-front P xs ys all.1)

pub front-distinct : (xs ys : List (List ℕ)) → IsDistinct bytes_eq (xs ++ ys) → IsDistinct bytes_eq xs
unfolding IsDistinct
front-distinct [] ys apart = tt
front-distinct (x ∷ xs) ys apart = (all-front (λ y. bytes_eq x y ≡ false) xs ys apart.0, front-distinct xs ys apart.1)

pub back-distinct : (xs ys : List (List ℕ)) → IsDistinct bytes_eq (xs ++ ys) → IsDistinct bytes_eq ys
unfolding IsDistinct
back-distinct [] ys apart = apart
back-distinct (x ∷ xs) ys apart = back-distinct xs ys apart.1

-- ---- marked names tell what they name

pub counted : (o : Option ℕ) (most : ℕ) → most < 2 ^ 63 → ((k : ℕ) → o ≡ Some k → k < most) → IsCounted o
counted None most small h = tt
counted (Some k) most small h = let below : k < most = h k refl in omega (arith, small, below)

-- a command makes one thing at most
module _ {A : Type 0} (number : A → ℕ) (name : A → List ℕ) (made : Command → List A)
    (one : (c : Command) (m n : ℕ) → list_any (λ a. number a == m) (made c) ≡ true → list_any (λ a. number a == n) (made c) ≡ true → m ≡ n)
    (first : List A) (commands : List Command) where
  abbrev pub all : List A
  all = first ++ flat_map made commands

  abbrev pub place : ℕ → Option ℕ
  place m = position (λ c. list_any (λ a. number a == m) (made c)) commands

  abbrev pub named : ℕ → List ℕ
  named m = option_map_or name (find (λ a. number a == m) all) []

  named-is : (m : ℕ) (a : A) → find (λ x. number x == m) all ≡ Some a → named m ≡ name a
  named-is m a e = ap (λ o. option_map_or name o []) e

  by-place : (m n : ℕ) (a b : A) (o : Option ℕ) → IsDistinct bytes_eq (map name first) → find (λ x. number x == m) all ≡ Some a → find (λ x. number x == n) all ≡ Some b
      → name a ≡ name b → place m ≡ o → place n ≡ o → m ≡ n
  by-place m n a b None apart ea eb same pm pn =
      same-number number name first m n a b apart
      (found-first (λ x. number x == m) first (flat_map made commands) a ea (none-made (λ x. number x == m) made commands (nowhere (λ c. list_any (λ x. number x == m) (made c)) commands pm)))
      (found-first (λ x. number x == n) first (flat_map made commands) b eb (none-made (λ x. number x == n) made commands (nowhere (λ c. list_any (λ x. number x == n) (made c)) commands pn)))
      same
  by-place m n a b (Some k) apart ea eb same pm pn =
      let at = together (λ c. list_any (λ x. number x == m) (made c)) (λ c. list_any (λ x. number x == n) (made c)) commands k pm pn in
      one at.0 m n at.1 at.2

  pub told : (m n : ℕ) (a b : A) (r s : List ℕ) → length commands < 2 ^ 63 → IsDistinct bytes_eq (map name first) → AllByRecursion (λ x. IsName (name x)) all
      → find (λ x. number x == m) all ≡ Some a → find (λ x. number x == n) all ≡ Some b → IsBehind r → IsBehind s
      → marked (named m) (place m) ++ r ≡ marked (named n) (place n) ++ s → (m ≡ n) × (r ≡ s)
  told m n a b r s few apart names ea eb br bs e =
      let is-name : (k : ℕ) (x : A) → find (λ y. number y == k) all ≡ Some x → IsName (named k) =
      λ k x h. subst IsName (sym (named-is k x h)) (find-among (λ y. IsName (name y)) (λ y. number y == k) all x names h) in
      let in-count : (k : ℕ) → IsCounted (place k) =
      λ k. counted (place k) (length commands) few (λ j h. place-below (λ c. list_any (λ x. number x == k) (made c)) commands j h) in
      let cut = marked-cut (named m) (named n) (place m) (place n) r s (is-name m a ea) (is-name n b eb) (in-count m) (in-count n) br bs e in
      (by-place m n a b (place n) apart ea eb (sym (named-is m a ea) ∙ cut.0 ∙ named-is n b eb) cut.1 refl, cut.2)
