-- Items that are kept once.
use Rattle.std.proofs.Common.{◌≡◌, ℕ, zero, suc, ◌<◌, Bool, true, false, ◌||◌, cond, refl, sym, ◌∙◌, List, [], ◌∷◌, ◌++◌, length, get_or, set, ap, arith}
use Rattle.std.specs.Prelude.{◌==◌, reverse, replicate}
use Rattle.std.specs.List.{list_any}
use Rattle.std.proofs.lemmas.Bool.{eqb-true}
use Rattle.std.proofs.lemmas.List.{get_or-set_same, get_or-set_other, reverse-append}
use Rattle.form_terms.specs.Listing.{unique}
use Rattle.form_terms.proofs.Kept.{nat_same}
use Rattle.ground_terms.specs.declared.unique.Keeper.{Keeper}
use Rattle.ground_terms.specs.Keeping.{IsKeeper, AreBelow}
use Rattle.ground_terms.proofs.NeededRounds.{none_marked_at}

pub below_at : (bound : ℕ) (xs : List ℕ) (k d : ℕ) → AreBelow bound xs → k < length xs → get_or xs k d < bound
below_at bound [] k d h lt = absurd (omega arith)
below_at bound (x ∷ xs) zero d h lt = h.0
below_at bound (x ∷ xs) (suc k) d h lt = below_at bound xs k d h.1 (omega arith)

-- an item that was seen
pub kept_seen : (item : ℕ) (k : Keeper) → item < length k.seen.items → get_or k.seen.items item false ≡ true → (later : List ℕ) → IsKeeper later k → IsKeeper (item ∷ later) k
kept_seen item k lt e later h = record {
  seen = λ x l. at x l (x == item) refl;
  kept = h.kept ∙ ap (λ b. reverse (cond b (unique (λ x y. x == y) later) (item ∷ unique (λ x y. x == y) later))) (sym found);
}
  where
    found : list_any (λ y. item == y) later ≡ true
    found = sym (h.seen item lt) ∙ e

    at : (x : ℕ) → x < length k.seen.items → (b : Bool) → (x == item) ≡ b → get_or k.seen.items x false ≡ (b || list_any (λ y. x == y) later)
    at x l true q = ap (λ i. get_or k.seen.items i false) (eqb-true x item q) ∙ e
    at x l false q = h.seen x l

-- one that was not
pub kept_new : (item : ℕ) (k m : Keeper) → item < length k.seen.items → get_or k.seen.items item false ≡ false → m.seen.items ≡ set k.seen.items item true
    → length (set k.seen.items item true) ≡ length k.seen.items → m.kept.items ≡ k.kept.items ++ item ∷ [] → (later : List ℕ) → IsKeeper later k → IsKeeper (item ∷ later) m
kept_new item k m lt e s size w later h = record {
  seen = λ x l. ap (λ xs. get_or xs x false) s ∙ at x (omega (arith, l, ap length s, size)) (x == item) refl;
  kept =
      w ∙ (ap (λ xs. xs ++ item ∷ []) h.kept
      ∙ (sym (reverse-append (item ∷ []) (unique (λ x y. x == y) later))
      ∙ ap (λ b. reverse (cond b (unique (λ x y. x == y) later) (item ∷ unique (λ x y. x == y) later))) (sym found)));
}
  where
    found : list_any (λ y. item == y) later ≡ false
    found = sym (h.seen item lt) ∙ e

    at : (x : ℕ) → x < length k.seen.items → (b : Bool) → (x == item) ≡ b → get_or (set k.seen.items item true) x false ≡ (b || list_any (λ y. x == y) later)
    at x l true q =
        let same : x ≡ item = eqb-true x item q in
        ap (λ i. get_or (set k.seen.items item true) i false) same ∙ get_or-set_same k.seen.items item true false lt
    at x l false q =
        get_or-set_other k.seen.items item x true false (λ h'. let no : true ≡ false = sym (nat_same item) ∙ (ap (λ i. i == item) (sym h') ∙ q) in cc) ∙ h.seen x l

-- nothing was gone through
pub keeper_begun : (k : Keeper) (bound : ℕ) → k.seen.items ≡ replicate bound false → k.kept.items ≡ [] → IsKeeper [] k
keeper_begun k bound e w = record { seen = λ x l. ap (λ xs. get_or xs x false) e ∙ none_marked_at bound x; kept = w }
