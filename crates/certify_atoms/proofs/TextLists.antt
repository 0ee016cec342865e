-- Lists in which no text stands twice.
use Rattle.std.proofs.Common.{◌≡◌, ℕ, zero, suc, ◌<◌, ◌≤◌, ◌⊎◌, inl, inr, refl, sym, ◌∙◌, true, false, List, [], ◌∷◌, ◌++◌, Some, length, ap, subst, arith, Contains, slice_get}
use Rattle.std.specs.Prelude.{nat_eq}
use Rattle.std.specs.Cmp.Lexicographic.{pointwise}
use Rattle.std.proofs.lemmas.Option.{slice_get-get_or}
use Rattle.form_tables.proofs.Assigned.{text_same}
use Rattle.form_terms.proofs.Lists.{Contains-head, Contains-tail}
use Rattle.certify_atoms.specs.Texts.{KeepsOnce, StandOnce}

slice_cases : {X : Type 0} (xs : List X) (x : X) (i : ℕ) (y : X) → slice_get (xs ++ x ∷ []) i ≡ Some y → (slice_get xs i ≡ Some y) ⊎ ((i ≡ length xs) × (x ≡ y))
slice_cases [] x zero y e = let same : x ≡ y = cc in inr (refl, same)
slice_cases [] x (suc i) y e = cc
slice_cases (z ∷ xs) x zero y e = inl e
slice_cases (z ∷ xs) x (suc i) y e = elim (slice_cases xs x i y e) [ inl k ↦ inl k | inr (at, same) ↦ inr (ap suc at, same) ]

listed : {X : Type 0} (xs : List X) (i : ℕ) (x : X) → slice_get xs i ≡ Some x → Contains xs x
listed [] i x e = cc
listed {X} (y ∷ xs) zero x e = let same : y ≡ x = cc in let P : X → Type 0 = λ x. Contains (y ∷ xs) x in subst P same (Contains-head y xs)
listed (y ∷ xs) (suc i) x e = Contains-tail y xs x (listed xs i x e)

once_behind : (old : List (List ℕ)) (text : List ℕ) → (Contains old text → ⊥) → StandOnce old → StandOnce (old ++ text ∷ [])
once_behind old text none once i j t e k = by (slice_cases old text i t e) (slice_cases old text j t k)
  where
    by : ((slice_get old i ≡ Some t) ⊎ ((i ≡ length old) × (text ≡ t))) → ((slice_get old j ≡ Some t) ⊎ ((j ≡ length old) × (text ≡ t))) → i ≡ j
    by (inl p) (inl q) = once i j t p q
    by (inl p) (inr (at, same)) = absurd (none (subst (λ (u : List ℕ). Contains old u) (sym same) (listed old i t p)))
    by (inr (at, same)) (inl q) = absurd (none (subst (λ (u : List ℕ). Contains old u) (sym same) (listed old j t q)))
    by (inr (at, same)) (inr (there, also)) = at ∙ sym there

-- so it is where one is added
pub keeps : (text copy : List ℕ) (old new : List (List ℕ)) → copy ≡ text → (Contains old text → ⊥) → new ≡ old ++ copy ∷ [] → KeepsOnce old new
keeps text copy old new is none same once =
    subst (λ (ts : List (List ℕ)). StandOnce ts) (sym same) (subst (λ (t : List ℕ). StandOnce (old ++ t ∷ [])) (sym is) (once_behind old text none once))

pub keeps_both : (old mid new : List (List ℕ)) → KeepsOnce old mid → KeepsOnce mid new → KeepsOnce old new
keeps_both old mid new h k once = k (h once)

-- a text that is at no place is not there
pub absent : (texts : List (List ℕ)) (text : List ℕ) (n : ℕ) → length texts ≤ n → ((k : ℕ) (t : List ℕ) → k < n → slice_get texts k ≡ Some t → t ≡ text → ⊥) → Contains texts text → ⊥
absent texts text n le h (k, lt, same) = h k text (omega (arith, le, lt)) (slice_get-get_or texts k text lt ∙ ap (λ t. Some t) same) refl

pub same_when : (a b : List ℕ) → pointwise nat_eq a b ≡ false → a ≡ b → ⊥
same_when a b differ same = let yes : pointwise nat_eq a b ≡ true = subst (λ (b : List ℕ). pointwise nat_eq a b ≡ true) same (text_same a) in cc
