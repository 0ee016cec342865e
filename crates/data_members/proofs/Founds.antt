-- A search among principals that rise.
use Rattle.std.proofs.Common.{◌≡◌, ℕ, ◌<◌, ◌≤◌, ◌+◌, Bool, true, false, ◌&&◌, cond, List, [], ◌∷◌, refl, ap, ◌∙◌, arith, get_or, length, inl, inr, ⊎_elim}
use Rattle.std.specs.Prelude.{filter, Result, Ok, Err, IfOk, ◌==◌, ◌⊎◌}
use Rattle.std.specs.List.Sorted.{IsBinarySearchResult, IsSearchInRange, IsSortedBy, IsStrictlySortedBy}
use Rattle.std.specs.Ordering.{is_eq, is_lt, ordering_reverse}
use Rattle.std.specs.Result.{MatchResult}
use Rattle.std.specs.declared.cmp.Ordering.TheVariants.{Equal}
use Rattle.std.proofs.lemmas.Bool.{cases_order}
use Rattle.std.proofs.lemmas.Cmp.{tied_itself}
use Rattle.std.proofs.lemmas.List.Sorted.{searchable_from_sorted}
use Rattle.std.proofs.lemmas.Map.Keys.{Less-from_sorted}
use Rattle.data_meaning.specs.declared.principals.Principal.{Principal}
use Rattle.data_meaning.specs.declared.principals.Principal.TheVariants.{Static, Rec}
use Rattle.data_members.specs.Sets.{is_one_of, principal_cmp}
use Rattle.data_members.proofs.Gathers.{contained-if-one, one-if-contained}
use Rattle.data_members.proofs.Orders.{IsEquality, principals-same, principals-tied, principals-total}

filter-same : {A : Type 0} (p q : A → Bool) → ((x : A) → p x ≡ q x) → (xs : List A) → filter p xs ≡ filter q xs
filter-same p q same [] = refl
filter-same p q same (x ∷ xs) = ap (λ b. cond b (x ∷ filter p xs) (filter p xs)) (same x) ∙ ap (λ ys. cond (q x) (x ∷ ys) ys) (filter-same p q same xs)

-- an answer that is told by another test
pub told-filter : {T E A : Type 0} (items : T → List A) (r : Result T E) (p q : A → Bool) (xs : List A) → ((x : A) → p x ≡ q x) → IfOk r (λ t. items t ≡ filter p xs)
    → IfOk r (λ t. items t ≡ filter q xs)
told-filter items (Ok t) p q xs same h = h ∙ filter-same p q same xs
told-filter items (Err e) p q xs same h = tt

abbrev principal_eq : Principal → Principal → Bool
principal_eq (Static n) (Static k) = n == k
principal_eq (Static n) (Rec m id) = false
principal_eq (Rec m id) (Static n) = false
principal_eq (Rec m i) (Rec n j) = (m == n) && (i == j)

tied-same : (p q : Principal) → principal_cmp p q ≡ Equal → p ≡ q
tied-same p q h =
    let equal : IsEquality principal_eq = record { statics = λ n k. refl; static_record = λ n m id. refl; record_static = λ m id n. refl; records = λ m i n j. refl } in
    principals-same principal_eq equal p q (principals-tied principal_eq equal p q ∙ ap is_eq h)

rising-sorted : (ps : List Principal) → IsStrictlySortedBy principal_cmp ps → IsSortedBy (λ a b. is_lt (principal_cmp a b)) ps
rising-sorted ps up k d low below =
    ap is_lt (principals-total.antisymm (get_or ps (k + 1) d) (get_or ps k d) ∙ ap ordering_reverse (Less-from_sorted principal_cmp ps k (k + 1) d up (omega arith) below))

pub found-by : (ps : List Principal) (who : Principal) (r : Result ℕ ℕ) → IsStrictlySortedBy principal_cmp ps → IsSearchInRange r (length ps)
    → IsBinarySearchResult (λ y. principal_cmp y who) ps r → MatchResult r (λ i. is_one_of ps who ≡ true) (λ i. is_one_of ps who ≡ false)
found-by ps who (Ok i) up below h = one-if-contained ps who (i, below, tied-same (get_or ps i who) who (h who))
found-by ps who (Err i) up within h =
    let parted = h (searchable_from_sorted principals-total (λ (p : Principal). p) ps who (rising-sorted ps up)) in
    elim (is_one_of ps who) as (λ (b : Bool). is_one_of ps who ≡ b → b ≡ false) [
      | true ↦ λ is.
          let at = contained-if-one ps who is in
          let tie : principal_cmp (get_or ps at.0 who) who ≡ Equal = ap (λ p. principal_cmp p who) at.2 ∙ tied_itself principals-total who in
          ⊎_elim
          (λ (before : at.0 < i). let less = parted.0 at.0 who (omega arith) before in cc (tie, less))
          (λ (after : i ≤ at.0). let more = parted.1 at.0 who after at.1 in cc (tie, more))
          (or-later at.0 i)
      | false ↦ λ is. refl
    ] refl
  where
    or-later : (a b : ℕ) → (a < b) ⊎ (b ≤ a)
    or-later a b = ⊎_elim (λ e. inr (omega arith)) (λ o. ⊎_elim (λ l. inl l) (λ l. inr (omega arith)) o) (cases_order a b)
