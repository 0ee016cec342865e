-- Lists that a command changes by a number, and that are changed by the name of that number.
use Rattle.std.proofs.Common.{◌≡◌, ◌==◌, ℕ, Bool, true, false, cond, List, [], ◌∷◌, map, refl, sym, ap, ◌∙◌, subst, eq-eqb}
use Rattle.std.specs.Prelude.{Option, Some, None, nat_eq, not, filter, if◌then◌else◌}
use Rattle.std.specs.List.{AllByRecursion, IsDistinct, find}
use Rattle.std.specs.Option.{option_map}
use Rattle.std.specs.Str.{bytes_eq}
use Rattle.std.proofs.lemmas.Bool.{eqb-true}
use Rattle.std.proofs.lemmas.Slice.Eq.{bytes_eq-Decides}
use Rattle.type_schema.specs.Trees.{Name}
use Rattle.type_proper.proofs.After.{bytes-sym}
use Rattle.type_proper.proofs.Lists.{all-both, all-unmap}
use Rattle.type_anew.proofs.Lookups.{no-earlier}

number-sym : (a b : ℕ) → nat_eq a b ≡ false → (b == a) ≡ false
number-sym a b apart = at (b == a) refl
  where
    at : (c : Bool) → (b == a) ≡ c → c ≡ false
    at false e = refl
    at true e =
        let same : (a == b) ≡ true = eq-eqb a b (sym (eqb-true b a e)) in
        absurd (cc (same, apart))

-- Just the one of this name has the number that the name has.
same-all : {A : Type 0} (number : A → ℕ) (name : A → Name) (xs : List A) (nm : Name) (y : A) → IsDistinct nat_eq (map number xs) → IsDistinct bytes_eq (map name xs)
    → find (λ x. bytes_eq (name x) nm) xs ≡ Some y → AllByRecursion (λ x. (number x == number y) ≡ bytes_eq (name x) nm) xs
unfolding IsDistinct
same-all number name [] nm y numbers names is = tt
same-all {A} number name (x ∷ xs) nm y numbers names is = at (λ found. same-all number name xs nm y numbers.1 names.1 found) (bytes_eq (name x) nm) refl is
  where
    at : (find (λ z. bytes_eq (name z) nm) xs ≡ Some y → AllByRecursion (λ z. (number z == number y) ≡ bytes_eq (name z) nm) xs) → (b : Bool) → bytes_eq (name x) nm ≡ b → cond b (Some x) (find (λ z. bytes_eq (name z) nm) xs) ≡ Some y
        → ((number x == number y) ≡ bytes_eq (name x) nm) × AllByRecursion (λ z. (number z == number y) ≡ bytes_eq (name z) nm) xs
    at later true e found =
        let same : x ≡ y = cc found in
        let named : name x ≡ nm = (bytes_eq-Decides (name x) nm).0 e in
        let here : (number x == number y) ≡ true = eq-eqb (number x) (number y) (ap number same) in
        let apart : (z : A) → nat_eq (number x) (number z) ≡ false → bytes_eq (name x) (name z) ≡ false → (number z == number y) ≡ bytes_eq (name z) nm =
        λ z one other.
        let left : (number z == number y) ≡ false = subst (λ (w : A). (number z == number w) ≡ false) same (number-sym (number x) (number z) one) in
        let right : bytes_eq (name z) nm ≡ false = subst (λ (w : Name). bytes_eq (name z) w ≡ false) named (bytes-sym (name x) (name z) other) in
        left ∙ sym right in
        (here ∙ sym e, all-both (λ z. nat_eq (number x) (number z) ≡ false) (λ z. bytes_eq (name x) (name z) ≡ false) (λ z. (number z == number y) ≡ bytes_eq (name z) nm) apart xs (all-unmap (λ k. nat_eq (number x) k ≡ false) number xs numbers.0) (all-unmap (λ k. bytes_eq (name x) k ≡ false) name xs names.0))
    at later false e found = (no-earlier number (number x) xs (λ z. bytes_eq (name z) nm) y numbers.0 found ∙ sym e, later found)

pub same-test : {A : Type 0} (number : A → ℕ) (name : A → Name) (xs : List A) (nm : Name) (m : ℕ) → IsDistinct nat_eq (map number xs) → IsDistinct bytes_eq (map name xs)
    → (o : Option A) → find (λ x. bytes_eq (name x) nm) xs ≡ o → option_map number o ≡ Some m → AllByRecursion (λ x. (number x == m) ≡ bytes_eq (name x) nm) xs
same-test number name xs nm m numbers names None is e = absurd (cc e)
same-test {A} number name xs nm m numbers names (Some y) is e =
    let there : number y ≡ m = cc e in
    subst (λ k. AllByRecursion (λ (x : A). (number x == k) ≡ bytes_eq (name x) nm) xs) there (same-all number name xs nm y numbers names is)

-- without the one
pub filter-mapped : {A B : Type 0} (f : A → B) (p : A → Bool) (q : B → Bool) (xs : List A) → AllByRecursion (λ x. p x ≡ q (f x)) xs → map f (filter (λ x. not (p x)) xs) ≡ filter (λ y. not (q y)) (map f xs)
filter-mapped f p q [] all = refl
filter-mapped {A} {B} f p q (x ∷ xs) all =
    ap (λ b. map f (cond (not b) (x ∷ filter (λ z. not (p z)) xs) (filter (λ z. not (p z)) xs))) all.0 ∙ at (q (f x)) (filter-mapped f p q xs all.1)
  where
    at : (b : Bool) → map f (filter (λ z. not (p z)) xs) ≡ filter (λ y. not (q y)) (map f xs)
        → map f (cond (not b) (x ∷ filter (λ z. not (p z)) xs) (filter (λ z. not (p z)) xs)) ≡ cond (not b) (f x ∷ filter (λ y. not (q y)) (map f xs)) (filter (λ y. not (q y)) (map f xs))
    at true rest = rest
    at false rest = ap (λ ys. f x ∷ ys) rest

-- the one changed
pub changed-mapped : {A B : Type 0} (f g : A → B) (change : A → A) (h : B → B) (p : A → Bool) (q : B → Bool) (xs : List A)
    → AllByRecursion (λ x. p x ≡ q (f x)) xs → AllByRecursion (λ x. (p x ≡ true → g (change x) ≡ h (f x)) × (p x ≡ false → g x ≡ f x)) xs
    → map g (map (λ x. if p x then change x else x) xs) ≡ map (λ y. if q y then h y else y) (map f xs)
changed-mapped f g change h p q [] all each = refl
changed-mapped {A} {B} f g change h p q (x ∷ xs) all each =
    ap (λ z. z ∷ map g (map (λ y. if p y then change y else y) xs)) (one (p x) refl)
    ∙ ap (λ b. (if b then h (f x) else f x) ∷ map g (map (λ y. if p y then change y else y) xs)) all.0
    ∙ ap (λ zs. (if q (f x) then h (f x) else f x) ∷ zs) (changed-mapped f g change h p q xs all.1 each.1)
  where
    one : (b : Bool) → p x ≡ b → g (if b then change x else x) ≡ (if b then h (f x) else f x)
    one true e = each.0.0 e
    one false e = each.0.1 e

-- what holds of all after the change holds of the one that is changed, and of the others
pub all-changed : {A : Type 0} (P : A → Type 0) (change : A → A) (p : A → Bool) (xs : List A) → AllByRecursion P (map (λ x. if p x then change x else x) xs)
    → AllByRecursion (λ x. (p x ≡ true → P (change x)) × (p x ≡ false → P x)) xs
all-changed P change p [] all = tt
all-changed {A} P change p (x ∷ xs) all =
    ((λ e. subst (λ b. P (if b then change x else x)) e all.0, λ e. subst (λ b. P (if b then change x else x)) e all.0), all-changed P change p xs all.1)

-- each is found by its number, where the numbers differ
pub itself : {A : Type 0} (number : A → ℕ) (m : ℕ) (xs : List A) → IsDistinct nat_eq (map number xs) → AllByRecursion (λ x. (number x == m) ≡ true → find (λ y. number y == m) xs ≡ Some x) xs
unfolding IsDistinct
itself number m [] differ = tt
itself {A} number m (x ∷ xs) differ = (
  λ e. ap (λ b. cond b (Some x) (find (λ y. number y == m) xs)) e,
  all-both (λ z. nat_eq (number x) (number z) ≡ false) (λ z. (number z == m) ≡ true → find (λ y. number y == m) xs ≡ Some z) (λ z. (number z == m) ≡ true → find (λ y. number y == m) (x ∷ xs) ≡ Some z)
      (λ z apart rest e.
      let same : number z ≡ m = eqb-true (number z) m e in
      let off : (number x == m) ≡ false = subst (λ k. nat_eq (number x) k ≡ false) same apart in
      ap (λ b. cond b (Some x) (find (λ y. number y == m) xs)) off ∙ rest e)
      xs (all-unmap (λ k. nat_eq (number x) k ≡ false) number xs differ.0) (itself number m xs differ.1),
)

-- nothing of this number is left
pub gone : {A : Type 0} (number : A → ℕ) (m : ℕ) (xs : List A) → find (λ x. number x == m) (filter (λ x. not (number x == m)) xs) ≡ None
gone number m [] = refl
gone {A} number m (x ∷ xs) = at (number x == m) refl (gone number m xs)
  where
    at : (b : Bool) → (number x == m) ≡ b → find (λ y. number y == m) (filter (λ y. not (number y == m)) xs) ≡ None
        → find (λ y. number y == m) (cond (not b) (x ∷ filter (λ y. not (number y == m)) xs) (filter (λ y. not (number y == m)) xs)) ≡ None
    at true e rest = rest
    at false e rest = ap (λ b. cond b (Some x) (find (λ y. number y == m) (filter (λ y. not (number y == m)) xs))) e ∙ rest
