-- Which ids stand at a key, as a list at a key is written or a key comes.
use Rattle.std.proofs.Common.{◌≡◌, ℕ, Bool, true, false, List, [], ◌∷◌, refl, sym, subst, cond}
use Rattle.std.specs.Prelude.{Option, Some, None, ◌==◌, if◌then◌else◌}
use Rattle.std.specs.List.{list_any}
use Rattle.std.specs.Map.{lookup, set_value}
use Rattle.std.specs.Option.{option_map_or}
use Rattle.indexmap.specs.IndexMap.{insert_entry}

module _ {X : Type 0} (items : X → List ℕ) where
  abbrev pub stands : Option X → ℕ → Bool
  stands o i = list_any (λ j. j == i) (option_map_or items o [])

module _ {K X : Type 0} (items : X → List ℕ) where
  module _ (test q : K → Bool) (i : ℕ) where
    pub written-kept : (es : List (K × X)) (old new : X) → Some old ≡ lookup test es
        → ((k : K) → test k ≡ true → q k ≡ true → list_any (λ j. j == i) (items old) ≡ true → list_any (λ j. j == i) (items new) ≡ true)
        → stands items (lookup q es) i ≡ true → stands items (lookup q (set_value test es new)) i ≡ true
    written-kept [] old new found more there = there
    written-kept (e ∷ es) old new found more there =
        elim (test e.0) as (λ (b : Bool). test e.0 ≡ b → Some old ≡ cond b (Some e.1) (lookup test es) → stands items (lookup q (cond b ((e.0, new) ∷ es) (e ∷ set_value test es new))) i ≡ true) [
          | true ↦ λ is h.
              let same : old ≡ e.1 = cc in
              elim (q e.0) as (λ (b : Bool). q e.0 ≡ b → stands items (cond b (Some e.1) (lookup q es)) i ≡ true → stands items (cond b (Some new) (lookup q es)) i ≡ true) [
                | true ↦ λ passes k. more e.0 is passes (subst (λ x. list_any (λ j. j == i) (items x) ≡ true) (sym same) k)
                | false ↦ λ passes k. k
              ] refl there
          | false ↦ λ is h.
              elim (q e.0) as (λ (b : Bool). stands items (cond b (Some e.1) (lookup q es)) i ≡ true → stands items (cond b (Some e.1) (lookup q (set_value test es new))) i ≡ true) [
                | true ↦ λ k. k
                | false ↦ λ k. written-kept es old new h more k
              ] there
        ] refl found

  pub inserted-kept : (eq : K → K → Bool) (q : K → Bool) (i : ℕ) (k : K) (x : X) (es : List (K × X)) → None ≡ lookup (eq k) es
      → stands items (lookup q es) i ≡ true → stands items (lookup q (insert_entry eq es k x)) i ≡ true
  inserted-kept eq q i k x [] none there = cc
  inserted-kept eq q i k x (e ∷ es) none there =
      elim (eq k e.0) as (λ (b : Bool). None ≡ cond b (Some e.1) (lookup (eq k) es) → stands items (lookup q (if b then (e.0, x) ∷ es else e ∷ insert_entry eq es k x)) i ≡ true) [
        | true ↦ λ h. cc
        | false ↦ λ h.
            elim (q e.0) as (λ (b : Bool). stands items (cond b (Some e.1) (lookup q es)) i ≡ true → stands items (cond b (Some e.1) (lookup q (insert_entry eq es k x))) i ≡ true) [
              | true ↦ λ j. j
              | false ↦ λ j. inserted-kept eq q i k x es h j
            ] there
      ] none
