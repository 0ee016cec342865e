-- Lists that differ in one element at most.
use Rattle.std.proofs.Common.{◌≡◌, ℕ, Bool, true, false, List, [], ◌∷◌, refl, ap, sym, ◌∙◌, subst, cond, map}
use Rattle.std.specs.Prelude.{Option, Some, None, ◌==◌, IfSome, MatchOption, if◌then◌else◌}
use Rattle.std.specs.List.{find, AllByRecursion}
use Rattle.std.specs.Option.{option_map}
use Rattle.std.proofs.lemmas.Bool.{eqb-true}
use Rattle.data_meaning.specs.Values.{Value}
use Rattle.data_meaning.specs.Database.{Slot}
use Rattle.data_records.specs.Changed.{change_first, with_slot_value}
use Rattle.store_keeper.specs.Changes.{FindsChange}

pub find-passes : {A : Type 0} (p : A → Bool) (xs : List A) (x : A) → find p xs ≡ Some x → p x ≡ true
find-passes p [] x e = cc
find-passes {A} p (y ∷ xs) x e =
    elim (p y) as (λ (b : Bool). p y ≡ b → cond b (Some y) (find p xs) ≡ Some x → p x ≡ true) [
      | true ↦ λ is h. let same : y ≡ x = cc in ap p (sym same) ∙ is
      | false ↦ λ is h. find-passes p xs x h
    ] refl e

pub all-found : {A : Type 0} (P : A → Type 0) (p : A → Bool) (xs : List A) (x : A) → AllByRecursion P xs → find p xs ≡ Some x → P x
all-found P p [] x all e = cc
all-found {A} P p (y ∷ xs) x all e =
    elim (p y) as (λ (b : Bool). cond b (Some y) (find p xs) ≡ Some x → P x) [
      | true ↦ λ h. let same : y ≡ x = cc in subst P same all.0
      | false ↦ λ h. all-found P p xs x all.1 h
    ] e

-- changes that agree on the element
pub same-first : {A : Type 0} (p : A → Bool) (f g : A → A) (xs : List A) → IfSome (find p xs) (λ x. f x ≡ g x) → change_first p f xs ≡ change_first p g xs
same-first p f g [] h = refl
same-first {A} p f g (x ∷ xs) h =
    elim (p x) as (λ (b : Bool). IfSome (cond b (Some x) (find p xs)) (λ y. f y ≡ g y)
    → (if b then f x ∷ xs else x ∷ change_first p f xs) ≡ (if b then g x ∷ xs else x ∷ change_first p g xs)) [
      | true ↦ λ same. ap (λ y. y ∷ xs) same
      | false ↦ λ rest. ap (λ ys. x ∷ ys) (same-first p f g xs rest)
    ] h

pub no-change : {A : Type 0} (p : A → Bool) (xs : List A) → change_first p (λ (x : A). x) xs ≡ xs
no-change p [] = refl
no-change {A} p (x ∷ xs) =
    elim (p x) as (λ (b : Bool). (if b then x ∷ xs else x ∷ change_first p (λ (y : A). y) xs) ≡ x ∷ xs) [
      | true ↦ refl
      | false ↦ ap (λ ys. x ∷ ys) (no-change p xs)
    ]

pub find-mapped : {A B : Type 0} (p : B → Bool) (f : A → B) (xs : List A) → find p (map f xs) ≡ option_map f (find (λ x. p (f x)) xs)
find-mapped p f [] = refl
find-mapped {A} p f (x ∷ xs) =
    elim (p (f x)) as (λ (b : Bool). cond b (Some (f x)) (find p (map f xs)) ≡ option_map f (cond b (Some x) (find (λ y. p (f y)) xs))) [
      | true ↦ refl
      | false ↦ find-mapped p f xs
    ]

-- ---- slots of which one at most was changed

slot-is : (b s : Slot) → b.field ≡ s.field → b.value ≡ s.value → b ≡ s
slot-is b s field value =
    let first : b ≡ record { field = s.field; value = b.value } = ap (λ (f : ℕ). let x : Slot = record { field = f; value = b.value } in x) field in
    first ∙ ap (λ (v : Value). let x : Slot = record { field = s.field; value = v } in x) value

-- where the first slots hold the same value, a later one was changed, if one was
pub finds-later : (a b : Slot) (rest others : List Slot) (found : Option Slot) → a.value ≡ b.value → FindsChange rest others found → FindsChange (a ∷ rest) (b ∷ others) found
finds-later a b rest others found value later None h =
    let tail : others ≡ rest = cc in
    go found (later None tail)
  where
    go : (o : Option Slot) → MatchOption o (others ≡ rest) (λ slot. None ≡ Some slot) → MatchOption o (b ∷ others ≡ a ∷ rest) (λ slot. None ≡ Some slot)
    go None e = h
    go (Some slot) e = e
finds-later a b rest others found value later (Some s) h =
    elim (a.field == s.field) as (λ (t : Bool). b ∷ others ≡ (if t then with_slot_value s.value a ∷ rest else a ∷ change_first (λ (slot : Slot). slot.field == s.field) (with_slot_value s.value) rest)
    → MatchOption found (b ∷ others ≡ a ∷ rest) (λ slot. Some s ≡ Some slot)) [
      | true ↦ λ e.
          let head : b ≡ with_slot_value s.value a = cc in
          let tail : others ≡ rest = cc in
          let same : b ≡ a = slot-is b a (ap (λ (x : Slot). x.field) head) (sym value) in
          none same found (later None tail)
      | false ↦ λ e.
          let head : b ≡ a = cc in
          let tail : others ≡ change_first (λ (slot : Slot). slot.field == s.field) (with_slot_value s.value) rest = cc in
          some head found (later (Some s) tail)
    ] h
  where
    none : b ≡ a → (o : Option Slot) → MatchOption o (others ≡ rest) (λ slot. None ≡ Some slot) → MatchOption o (b ∷ others ≡ a ∷ rest) (λ slot. Some s ≡ Some slot)
    none same None e = cc
    none same (Some slot) e = absurd cc

    some : b ≡ a → (o : Option Slot) → MatchOption o (others ≡ rest) (λ slot. Some s ≡ Some slot) → MatchOption o (b ∷ others ≡ a ∷ rest) (λ slot. Some s ≡ Some slot)
    some same None e = cc
    some same (Some slot) e = e
