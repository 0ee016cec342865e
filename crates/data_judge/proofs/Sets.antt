-- Sets of numbers rise, and hold what is put into them.
use Rattle.std.proofs.Common.{◌≡◌, sym, ℕ, ◌<◌, Bool, true, false, List, [], ◌∷◌, refl, subst, arith}
use Rattle.std.specs.Prelude.{nat_lt, ◌==◌, Option, Some, None}
use Rattle.std.specs.List.{AllByRecursion, fold}
use Rattle.std.specs.List.Sorted.{IsStrictlySortedBy, IsStrictlyIncreasing}
use Rattle.std.specs.Ordering.{nat_cmp}
use Rattle.std.specs.Option.{option_map_or}
use Rattle.std.specs.declared.cmp.Ordering.TheVariants.{Less}
use Rattle.std.proofs.lemmas.Bool.{ltb-true, lt-ltb}
use Rattle.std.proofs.lemmas.Map.Keys.{IsStrictlyIncreasing-from_sorted}
use Rattle.data_tree.specs.declared.literals.WrittenId.{WrittenId}
use Rattle.data_tree.specs.declared.literals.Lit.{Lit}
use Rattle.data_judge.specs.Meaning.{id_in, with_number, with_item, ids_of}

over : (n x : ℕ) → nat_lt n x ≡ false → (n == x) ≡ false → x < n
over n x less same = grind (arith, less, same)

-- where a number goes in a set
pub with-cases : (M : List ℕ → Type 0) (x n : ℕ) (ns : List ℕ) → (n < x → M (n ∷ x ∷ ns)) → M (x ∷ ns) → (x < n → M (x ∷ with_number ns n)) → M (with_number (x ∷ ns) n)
with-cases M x n ns before there after =
    elim (nat_lt n x) as (λ (b : Bool). nat_lt n x ≡ b → M (with_number (x ∷ ns) n)) [
      | true ↦ λ e. rw e (before (ltb-true n x e))
      | false ↦ λ e.
          elim (n == x) as (λ (c : Bool). (n == x) ≡ c → M (with_number (x ∷ ns) n)) [
            | true ↦ λ f. rw (e, f) there
            | false ↦ λ f. rw (e, f) (after (over n x e f))
          ] refl
    ] refl

pub all-with : (P : ℕ → Type 0) (ns : List ℕ) (n : ℕ) → AllByRecursion P ns → P n → AllByRecursion P (with_number ns n)
all-with P [] n all one = (one, tt)
all-with P (x ∷ ns) n all one =
    with-cases (AllByRecursion P) x n ns (λ less. (one, all)) all (λ more. (all.0, all-with P ns n all.1 one))

-- each number is below those after it
abbrev pub Rises : List ℕ → Type 0
Rises [] = Unit {0}
Rises (x ∷ xs) = AllByRecursion (λ y. x < y) xs × Rises xs

below-all : (n x : ℕ) (xs : List ℕ) → n < x → AllByRecursion (λ y. x < y) xs → AllByRecursion (λ y. n < y) xs
below-all n x [] less all = tt
below-all n x (y ∷ xs) less all = (let one : x < y = all.0 in omega (arith, one, less), below-all n x xs less all.1)

pub rises-with : (ns : List ℕ) (n : ℕ) → Rises ns → Rises (with_number ns n)
rises-with [] n r = (tt, tt)
rises-with (x ∷ ns) n r =
    with-cases Rises x n ns (λ less. ((less, below-all n x ns less r.0), r)) r (λ more. (all-with (λ y. x < y) ns n r.0 more, rises-with ns n r.1))

sorted-tail : (x : ℕ) (xs : List ℕ) → AllByRecursion (λ y. x < y) xs → AllByRecursion (λ y. nat_cmp x y ≡ Less) xs
sorted-tail x [] all = tt
sorted-tail x (y ∷ xs) all = (rw (lt-ltb x y all.0) refl, sorted-tail x xs all.1)

pub sorted : (xs : List ℕ) → Rises xs → IsStrictlySortedBy nat_cmp xs
unfolding IsStrictlySortedBy
sorted [] r = tt
sorted (x ∷ xs) r = (sorted-tail x xs r.0, sorted xs r.1)

-- the ids of items, put into a set
pub all-items : (P : ℕ → Type 0) (ns : List ℕ) (items : List Lit) → AllByRecursion P ns
    → AllByRecursion (λ l. (i : WrittenId) × (id_in l ≡ Some i) × P i.number) items → AllByRecursion P (fold with_item ns items)
all-items P ns [] all each = all
all-items P ns (l ∷ items) all ((i, is, one), each) =
    all-items P (with_item ns l) items
    (subst (λ (o : Option WrittenId). AllByRecursion P (option_map_or (λ (j : WrittenId). with_number ns j.number) o ns)) (sym is) (all-with P ns i.number all one)) each

item-rises : (ns : List ℕ) (o : Option WrittenId) → Rises ns → Rises (option_map_or (λ (i : WrittenId). with_number ns i.number) o ns)
item-rises ns None r = r
item-rises ns (Some i) r = rises-with ns i.number r

pub items-rise : (ns : List ℕ) (items : List Lit) → Rises ns → Rises (fold with_item ns items)
items-rise ns [] r = r
items-rise ns (l ∷ items) r = items-rise (with_item ns l) items (item-rises ns (id_in l) r)

pub ids-rise : (items : List Lit) → IsStrictlyIncreasing (ids_of items)
ids-rise items = IsStrictlyIncreasing-from_sorted (ids_of items) (sorted (ids_of items) (items-rise [] items tt))
