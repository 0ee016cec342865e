-- Lists without repeats that have the same elements are as long as each other.
use Rattle.std.proofs.Common.{◌≡◌, ◌≤◌, inl, inr, sym, List, [], ◌∷◌, ◌++◌, length, ap, subst, arith, Contains, length-append}
use Rattle.std.proofs.lemmas.List.Elements.{Contains-append_cases, Contains-append_left, Contains-append_right}
use Rattle.form_terms.specs.Listing.{HasNoRepeats, Lists}
use Rattle.form_terms.proofs.Lists.{Contains-head, Contains-tail, Contains-cons_cases, Contains-none}

split_at : {A : Type 0} (xs : List A) (x : A) → Contains xs x → (front : List A) × (back : List A) × (xs ≡ front ++ x ∷ back)
split_at [] x c = Contains-none x c
split_at (y ∷ xs) x c =
    elim (Contains-cons_cases y xs x c) [
      | inl e ↦ ([], xs, ap (λ y. y ∷ xs) e)
      | inr later ↦ let found = split_at xs x later in (y ∷ found.0, found.1, ap (λ xs. y ∷ xs) found.2)
    ]

no_longer : {A : Type 0} (xs ys : List A) → HasNoRepeats xs → ((x : A) → Contains xs x → Contains ys x) → length xs ≤ length ys
no_longer [] ys h sub = omega arith
no_longer {A} (x ∷ xs) ys h sub =
    let cut = split_at ys x (sub x (Contains-head x xs)) in
    let front : List A = cut.0 in
    let back : List A = cut.1 in
    let P : List A → Type 0 = λ ys. (z : A) → Contains (x ∷ xs) z → Contains ys z in
    let inside : (z : A) → Contains (x ∷ xs) z → Contains (front ++ x ∷ back) z = subst P cut.2 sub in
    let rest : (z : A) → Contains xs z → Contains (front ++ back) z = λ z c.
    elim (Contains-append_cases front (x ∷ back) z (inside z (Contains-tail x xs z c))) [
      | inl here ↦ Contains-append_left front back z here
      | inr there ↦
          elim (Contains-cons_cases x back z there) [
            | inl e ↦ let Q : A → Type 0 = λ z. Contains xs z in absurd (h.0 (subst Q (sym e) c))
            | inr behind ↦ Contains-append_right front back z behind
          ]
    ] in
    omega (arith, no_longer xs (front ++ back) h.1 rest, length-append front back, length-append front (x ∷ back), ap length cut.2)

pub same_length : {A : Type 0} (P : A → Type 0) (xs ys : List A) → Lists P xs → Lists P ys → length xs ≡ length ys
same_length P xs ys h k =
    let a = no_longer xs ys h.once (λ x c. k.all x (h.only x c)) in
    let b = no_longer ys xs k.once (λ x c. h.all x (k.only x c)) in
    omega (arith, a, b)
