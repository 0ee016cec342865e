-- Where keys first stand.
use Rattle.std.proofs.Common.{◌≡◌, ℕ, suc, ◌+◌, Bool, true, false, refl, ap, sym, ◌∙◌, List, [], ◌∷◌, length, cond, arith, rules}
use Rattle.std.specs.Prelude.{Option, Some, None, unwrap_or}
use Rattle.std.specs.List.{position_from}
use Rattle.duty_meaning.specs.Structures.{before}

-- the place where the search begins, and how many stand before
pub place-before : {A : Type 0} → (test : A → Bool) (i : ℕ) (xs : List A) → unwrap_or (position_from test i xs) (i + length xs) ≡ i + before test xs
place-before test i [] = refl
place-before test i (x ∷ xs) =
    elim (test x) as (λ b. unwrap_or (cond b (Some i) (position_from test (i + 1) xs)) (i + suc (length xs)) ≡ i + cond b 0 (suc (before test xs))) [
      | true ↦ omega arith
      | false ↦
          let step : i + suc (length xs) ≡ (i + 1) + length xs = omega arith in
          let back : (i + 1) + before test xs ≡ i + suc (before test xs) = omega arith in
          ap (λ n. unwrap_or (position_from test (i + 1) xs) n) step ∙ (place-before test (i + 1) xs ∙ back)
    ]

pub place-found : {A : Type 0} → (test : A → Bool) (xs : List A) (o : Option ℕ) (i : ℕ) → o ≡ Some i → o ≡ position_from test 0 xs → i ≡ before test xs
place-found test xs o i found is =
    let e = place-before test 0 xs in
    let same : i ≡ unwrap_or (position_from test 0 xs) (0 + length xs) = ap (λ o. unwrap_or o (0 + length xs)) (sym found ∙ is) in
    omega (arith, e, same)

pub place-missing : {A : Type 0} → (test : A → Bool) (xs : List A) (o : Option ℕ) → o ≡ None → o ≡ position_from test 0 xs → length xs ≡ before test xs
place-missing test xs o lacks is =
    let e = place-before test 0 xs in
    let same : 0 + length xs ≡ unwrap_or (position_from test 0 xs) (0 + length xs) = ap (λ o. unwrap_or o (0 + length xs)) (sym lacks ∙ is) in
    omega (arith, e, same)
