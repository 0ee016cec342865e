-- Ids of which no two are the same are a set once they are sorted.
use Rattle.std.proofs.Common.{◌≡◌, ◌∙◌, sym, ℕ, ◌+◌, ◌<◌, ◌≤◌, Bool, true, false, ◌||◌, List, [], ◌∷◌, length, refl, ap, subst, arith}
use Rattle.std.specs.Prelude.{Option, Some, None, nat_eq, ◌==◌}
use Rattle.std.specs.Option.{option_or, option_map_or}
use Rattle.std.specs.List.{AllByRecursion, IsDistinct, fold}
use Rattle.std.specs.List.Sorted.{IsPermutation}
use Rattle.std.proofs.Math.Logic.{⊎_elim}
use Rattle.std.proofs.lemmas.Bool.{cases_order, eq-eqb, eqb-true, ne_eqb}
use Rattle.std.proofs.lemmas.List.Sorted.{IsPermutation-sym, list_any-IsPermutation}
use Rattle.std.proofs.lemmas.Map.Keys.{IsDistinct-IsPermutation}
use Rattle.data_tree.specs.declared.literals.WrittenId.{WrittenId}
use Rattle.data_tree.specs.declared.literals.Lit.{Lit}
use Rattle.data_judge.specs.Faults.{has, item_fault, items_fault}
use Rattle.data_judge.specs.First.{first_behind}
use Rattle.data_judge.specs.InOrder.{NumbersRiseFrom, numbers_in}
use Rattle.data_judge.specs.Meaning.{id_in, ids_of, with_item, with_number}
use Rattle.data_judge.proofs.Held.{same-flips}
use Rattle.data_judge.proofs.InOrder.{item-seen}
use Rattle.data_judge.proofs.Sets.{Rises, items-rise}
use Rattle.data_judge.proofs.Tests.{has-with}

-- ---- numbers that rise

all-above : (least n : ℕ) (ns : List ℕ) → n < least → NumbersRiseFrom least ns → AllByRecursion (λ m. n < m) ns
all-above least n [] less up = tt
all-above least n (m ∷ ns) less up = (let low : least ≤ m = up.0 in omega (arith, low, less), all-above (m + 1) n ns (let low : least ≤ m = up.0 in omega (arith, low, less)) up.1)

rises-from : (least : ℕ) (ns : List ℕ) → NumbersRiseFrom least ns → Rises ns
rises-from least [] up = tt
rises-from least (n ∷ ns) up = (all-above (n + 1) n ns (omega arith) up.1, rises-from (n + 1) ns up.1)

others-above : (n : ℕ) (ns : List ℕ) → AllByRecursion (λ m. n < m) ns → AllByRecursion (λ m. nat_eq n m ≡ false) ns
others-above n [] above = tt
others-above n (m ∷ ns) above = (let less : n < m = above.0 in ne_eqb n m (λ e. omega (arith, e, less)), others-above n ns above.1)

rising-distinct : (ns : List ℕ) → Rises ns → IsDistinct nat_eq ns
unfolding IsDistinct
rising-distinct [] up = tt
rising-distinct (n ∷ ns) up = (others-above n ns up.0, rising-distinct ns up.1)

not-above : (n : ℕ) (ns : List ℕ) → AllByRecursion (λ m. n < m) ns → has ns n ≡ false
not-above n [] above = refl
not-above n (m ∷ ns) above =
    let less : n < m = above.0 in
    ap (λ b. b || has ns n) (ne_eqb m n (λ e. omega (arith, e, less))) ∙ not-above n ns above.1

lower : (n m : ℕ) (ns : List ℕ) → n < m → AllByRecursion (λ k. m < k) ns → AllByRecursion (λ k. n < k) (m ∷ ns)
lower n m [] less above = (less, tt)
lower n m (k ∷ ns) less above =
    let more : m < k = above.0 in
    let rest = lower n m ns less above.1 in
    (less, (omega (arith, less, more), rest.1))

-- the first of one list that rises is no lower than that of another with the same numbers
not-lower : {P : Type 0} (x y : ℕ) (xs ys : List ℕ) → AllByRecursion (λ k. y < k) ys → ((q : ℕ) → has (x ∷ xs) q ≡ has (y ∷ ys) q) → x < y → P
not-lower x y xs ys above same less =
    let here : has (x ∷ xs) x ≡ true = ap (λ b. b || has xs x) (eq-eqb x x refl) in
    let nowhere : has (y ∷ ys) x ≡ false = not-above x (y ∷ ys) (lower x y ys less above) in
    let e : true ≡ false = sym here ∙ same x ∙ nowhere in
    cc

same-rest : (x : ℕ) (xs ys : List ℕ) → AllByRecursion (λ k. x < k) xs → AllByRecursion (λ k. x < k) ys → ((q : ℕ) → has (x ∷ xs) q ≡ has (x ∷ ys) q) → (q : ℕ) → has xs q ≡ has ys q
same-rest x xs ys above other same q =
    elim (x == q) as (λ (b : Bool). (x == q) ≡ b → has xs q ≡ has ys q) [
      | true ↦ λ e. (
          let one : x ≡ q = eqb-true x q e in
          ap (has xs) (sym one) ∙ not-above x xs above ∙ sym (not-above x ys other) ∙ ap (has ys) one)
      | false ↦ λ e. sym (ap (λ b. b || has xs q) e) ∙ same q ∙ ap (λ b. b || has ys q) e
    ] refl

one-set : (xs ys : List ℕ) → Rises xs → Rises ys → ((q : ℕ) → has xs q ≡ has ys q) → xs ≡ ys
one-set [] [] up other same = refl
one-set [] (y ∷ ys) up other same = let e : false ≡ true = same y ∙ ap (λ b. b || has ys y) (eq-eqb y y refl) in cc
one-set (x ∷ xs) [] up other same = let e : true ≡ false = sym (ap (λ b. b || has xs x) (eq-eqb x x refl)) ∙ same x in cc
one-set (x ∷ xs) (y ∷ ys) up other same =
    ⊎_elim
    (λ (e : x ≡ y).
    let others : AllByRecursion (λ k. x < k) ys = subst (λ z. AllByRecursion (λ k. z < k) ys) (sym e) other.0 in
    let both : (q : ℕ) → has (x ∷ xs) q ≡ has (x ∷ ys) q = λ q. same q ∙ ap (λ z. has (z ∷ ys) q) (sym e) in
    ap (λ z. z ∷ xs) e ∙ ap (λ zs. y ∷ zs) (one-set xs ys up.1 other.1 (same-rest x xs ys up.0 others both)))
    (λ o. ⊎_elim (λ (less : x < y). not-lower x y xs ys other.0 same less) (λ (less : y < x). not-lower y x ys xs up.0 (λ q. sym (same q)) less) o)
    (cases_order x y)

-- ---- items that are ids

abbrev IsId : Lit → Type 0
IsId l = (i : WrittenId) × (id_in l ≡ Some i)

fewer : (items : List Lit) → length (numbers_in items) ≤ length items
fewer [] = omega arith
fewer (l ∷ items) =
    let rest = fewer items in
    elim (id_in l) as (λ (o : Option WrittenId). length (option_map_or (λ (i : WrittenId). i.number ∷ numbers_in items) o (numbers_in items)) ≤ length (l ∷ items)) [
      | None ↦ omega (arith, rest)
      | Some i ↦ omega (arith, rest)
    ]

all-ids : (items : List Lit) → length items ≤ length (numbers_in items) → AllByRecursion IsId items
all-ids [] full = tt
all-ids (l ∷ items) full =
    elim (id_in l) as (λ (o : Option WrittenId). id_in l ≡ o → length (l ∷ items) ≤ length (option_map_or (λ (i : WrittenId). i.number ∷ numbers_in items) o (numbers_in items)) → AllByRecursion IsId (l ∷ items)) [
      | None ↦ λ is more. absurd (let most = fewer items in omega (arith, more, most))
      | Some i ↦ λ is more. ((i, is), all-ids items (omega (arith, more)))
    ] refl full

or-turned : (a b c : Bool) → a || (b || c) ≡ (b || a) || c
or-turned true true c = refl
or-turned true false c = refl
or-turned false true c = refl
or-turned false false c = refl

-- what the set of the ids holds
held : (seen : List ℕ) (items : List Lit) → AllByRecursion IsId items → (q : ℕ) → has (fold with_item seen items) q ≡ has (numbers_in items) q || has seen q
held seen [] all q = refl
held seen (l ∷ items) ((i, is), all) q =
    let one : numbers_in (l ∷ items) ≡ i.number ∷ numbers_in items = rw is refl in
    ap (λ ns. has (fold with_item ns items) q) (item-seen seen l i is) ∙ held (with_number seen i.number) items all q
    ∙ ap (λ b. has (numbers_in items) q || b) (has-with seen i.number q) ∙ or-turned (has (numbers_in items) q) (i.number == q) (has seen q)
    ∙ ap (λ ns. has ns q || has seen q) (sym one)

or-false : (a : Bool) → a || false ≡ a
or-false true = refl
or-false false = refl

-- none of the numbers is in the set
abbrev AreNew : List ℕ → List ℕ → Type 0
AreNew seen ns = AllByRecursion (λ n. has seen n ≡ false) ns

newer : (seen : List ℕ) (n : ℕ) (ns : List ℕ) → AllByRecursion (λ m. nat_eq n m ≡ false) ns → AreNew seen ns → AreNew (with_number seen n) ns
newer seen n [] others new = tt
newer seen n (m ∷ ns) others new =
    (has-with seen n m ∙ ap (λ b. b || has seen m) others.0 ∙ new.0, newer seen n ns others.1 new.1)

new-at-first : (ns : List ℕ) → AreNew [] ns
new-at-first [] = tt
new-at-first (n ∷ ns) = (refl, new-at-first ns)

sound-distinct : (seen : List ℕ) (items : List Lit) → AllByRecursion IsId items → IsDistinct nat_eq (numbers_in items) → AreNew seen (numbers_in items)
    → first_behind item_fault with_item seen items ≡ None
unfolding IsDistinct
sound-distinct seen [] all apart new = refl
sound-distinct seen (l ∷ items) ((i, is), all) apart new =
    let one : numbers_in (l ∷ items) ≡ i.number ∷ numbers_in items = rw is refl in
    let apart_one : IsDistinct nat_eq (i.number ∷ numbers_in items) = subst (IsDistinct nat_eq) one apart in
    let new_one : AreNew seen (i.number ∷ numbers_in items) = subst (AreNew seen) one new in
    let fine : item_fault seen l ≡ None = rw (is, new_one.0) refl in
    ap (λ o. option_or o (first_behind item_fault with_item (with_item seen l) items)) fine
    ∙ ap (λ ns. first_behind item_fault with_item ns items) (item-seen seen l i is)
    ∙ sound-distinct (with_number seen i.number) items all apart_one.1 (newer seen i.number (numbers_in items) apart_one.0 new_one.1)

module _ (items : List Lit) (sorted : List ℕ) (full : length items ≤ length (numbers_in items)) (moved : IsPermutation (numbers_in items) sorted) (up : NumbersRiseFrom 0 sorted) where
  pub distinct-sound : items_fault items ≡ None
  distinct-sound =
      sound-distinct [] items (all-ids items full)
      (IsDistinct-IsPermutation nat_eq same-flips sorted (numbers_in items) (IsPermutation-sym (numbers_in items) sorted moved) (rising-distinct sorted (rises-from 0 sorted up)))
      (new-at-first (numbers_in items))

  pub distinct-set : sorted ≡ ids_of items
  distinct-set =
      one-set sorted (ids_of items) (rises-from 0 sorted up) (items-rise [] items tt)
      (λ q. sym (list_any-IsPermutation (λ m. m == q) (numbers_in items) sorted moved) ∙ sym (or-false (has (numbers_in items) q)) ∙ sym (held [] items (all-ids items full) q))
