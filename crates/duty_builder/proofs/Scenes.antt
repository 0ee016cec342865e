-- The variables of a scene.
use Rattle.std.proofs.Common.{◌≡◌, ℕ, suc, ◌+◌, ◌-◌, ◌≤◌, sym, ◌∙◌, List, [], ◌∷◌, ◌++◌, length, get_or, ap, arith}
use Rattle.std.proofs.lemmas.List.{get_or_append_left}

one_longer : {A : Type 0} (xs : List A) (x : A) → length (xs ++ x ∷ []) ≡ length xs + 1
one_longer [] x = omega arith
one_longer (y ∷ xs) x = omega (arith, one_longer xs x)

-- the variables without the innermost one
pub value_before : {A : Type 0} (d : A) (outer whole result : List A) (last : A) (inside less depth : ℕ) → whole ≡ outer ++ last ∷ [] → 1 ≤ inside → less ≡ inside - 1
    → ((depth : ℕ) → depth + suc less ≡ length outer → (depth + 1 ≡ length result) × (get_or result depth d ≡ get_or outer depth d))
    → depth + suc inside ≡ length whole → (depth + 1 ≡ length result) × (get_or result depth d ≡ get_or whole depth d)
value_before d outer whole result last inside less depth is some next rest e =
    let longer : length whole ≡ length outer + 1 = ap length is ∙ one_longer outer last in
    let h = rest depth (omega arith) in
    (h.0, h.1 ∙ (sym (get_or_append_left outer (last ∷ []) d depth (omega arith)) ∙ ap (λ xs. get_or xs depth d) (sym is)))
