-- What next leads through.
use Rattle.std.proofs.Common.{◌≡◌, ◌⊎◌, ℕ, zero, suc, ◌<◌, ◌≤◌, List, [], ◌∷◌, length, get_or, None, Some, nat_eq, nat_lt, cond, refl, sym, ap, ◌∙◌, inl, inr, subst, arith}
use Rattle.std.proofs.lemmas.Bool.{lt-ltb, le-ltb, eq-eqb, ne_eqb, cases_eq, cond-true, cond-false}
use Rattle.std.specs.List.{IsDistinct, slice_get}
use Rattle.link_arena.specs.Lists.{next_in}
use Rattle.link_arena.specs.Links.{IsInjective}
use Rattle.link_arena.specs.Rings.{Leads, walk}
use Rattle.link_arena.proofs.InLemmas.{In, IsDistinct-nil, IsDistinct-cons_In, length-le_distinct}

module _ (nodes : ℕ) (next : List ℕ) where
  -- it leads through nodes alone
  pub Leads-below : (from : ℕ) (xs : List ℕ) (to q : ℕ) → Leads nodes next from xs to → In q xs → q < nodes
  unfolding Leads
  Leads-below from [] to q h there = absurd there
  Leads-below from (x ∷ xs) to q h (inl same) = subst (λ k. k < nodes) (sym same) h.1
  Leads-below from (x ∷ xs) to q h (inr later) = Leads-below x xs to q h.2 later

  -- each element comes next to the one before it, or to the start
  pub Leads-enters : (from : ℕ) (xs : List ℕ) (to q : ℕ) → Leads nodes next from xs to → In q xs → (p : ℕ) × ((p ≡ from) ⊎ In p xs) × (get_or next p 0 ≡ q)
  unfolding Leads
  Leads-enters from [] to q h there = absurd there
  Leads-enters from (x ∷ xs) to q h (inl same) = (from, inl refl, h.0 ∙ sym same)
  Leads-enters from (x ∷ xs) to q h (inr later) =
      let before = Leads-enters x xs to q h.2 later in
      elim before.1 [ inl head ↦ (before.0, inr (inl head), before.2) | inr inside ↦ (before.0, inr (inr inside), before.2) ]

  -- the first node, or the end
  pub Leads-first : (from : ℕ) (xs : List ℕ) (to : ℕ) → nodes ≤ to → Leads nodes next from xs to
      → cond (nat_lt (get_or next from 0) nodes) (Some (get_or next from 0)) None ≡ slice_get xs 0
  unfolding Leads
  Leads-first from [] to above h = cond-false _ _ _ (le-ltb _ _ (subst (λ k. nodes ≤ k) (sym h) above))
  Leads-first from (x ∷ xs) to above h =
      cond-true _ _ _ (lt-ltb _ _ (subst (λ k. k < nodes) (sym h.0) h.1)) ∙ ap (λ k. Some k) h.0

  -- the node behind one in the list, or the end
  pub Leads-next_in : (from : ℕ) (xs : List ℕ) (to q : ℕ) → nodes ≤ to → Leads nodes next from xs to → In q xs
      → cond (nat_lt (get_or next q 0) nodes) (Some (get_or next q 0)) None ≡ next_in q xs
  unfolding Leads
  Leads-next_in from [] to q above h there = absurd there
  Leads-next_in from (x ∷ xs) to q above h there =
      elim (cases_eq q x) [
        | inl same ↦ ap (λ k. cond (nat_lt (get_or next k 0) nodes) (Some (get_or next k 0)) None) same
            ∙ Leads-first x xs to above h.2 ∙ sym (cond-true _ _ _ (eq-eqb q x same))
        | inr other ↦ elim there [
          | inl same ↦ absurd (other same)
          | inr later ↦ Leads-next_in x xs to q above h.2 later ∙ sym (cond-false _ _ _ (ne_eqb q x other))
        ]
      ]

  -- the walk along next finds the list again
  pub Leads-walk : (most from : ℕ) (xs : List ℕ) (to : ℕ) → nodes ≤ to → length xs ≤ most → Leads nodes next from xs to → walk most nodes next (get_or next from 0) ≡ xs
  unfolding Leads walk
  Leads-walk zero from [] to above fits h = refl
  Leads-walk (suc most) from [] to above fits h = cond-false _ _ _ (le-ltb _ _ (subst (λ k. nodes ≤ k) (sym h) above))
  Leads-walk zero from (x ∷ xs) to above fits h = absurd (omega arith)
  Leads-walk (suc most) from (x ∷ xs) to above fits h =
      cond-true _ _ _ (lt-ltb _ _ (subst (λ k. k < nodes) (sym h.0) h.1))
      ∙ ap (λ k. k ∷ walk most nodes next (get_or next k 0)) h.0
      ∙ ap (λ l. x ∷ l) (Leads-walk most x xs to above (omega arith) h.2)

  module _ (injective : IsInjective next) (fits : nodes ≤ length next) where
    -- it passes no element twice
    pub Leads-distinct : (from : ℕ) (xs : List ℕ) (to : ℕ) → from < length next → (In from xs → ⊥) → Leads nodes next from xs to → IsDistinct nat_eq xs
    unfolding Leads
    Leads-distinct from [] to from_in not_back h = IsDistinct-nil
    Leads-distinct from (x ∷ xs) to from_in not_back h =
        let once : In x xs → ⊥ = λ again.
        let before = Leads-enters x xs to x h.2 again in
        let inside : In before.0 (x ∷ xs) = elim before.1 [ inl head ↦ inl head | inr later ↦ inr later ] in
        let below = Leads-below from (x ∷ xs) to before.0 h inside in
        let same : before.0 ≡ from = injective before.0 from (omega arith) from_in (before.2 ∙ sym h.0) in
        not_back (subst (λ k. In k (x ∷ xs)) same inside) in
        IsDistinct-cons_In x xs once (Leads-distinct x xs to (omega (arith, h.1)) once h.2)

    -- no element is its own next
    pub Leads-moves : (from : ℕ) (xs : List ℕ) (to q : ℕ) → from < length next → (from ≡ q → ⊥) → Leads nodes next from xs to → In q xs → get_or next q 0 ≡ q → ⊥
    unfolding Leads
    Leads-moves from [] to q from_in not_from h there own = absurd there
    Leads-moves from (x ∷ xs) to q from_in not_from h there own =
        elim (cases_eq q x) [
          | inl same ↦ not_from (injective from q from_in (subst (λ k. k < length next) (sym same) (omega (arith, h.1))) (h.0 ∙ sym same ∙ sym own))
          | inr other ↦ elim there [
            | inl same ↦ other same
            | inr later ↦ Leads-moves x xs to q (omega (arith, h.1)) (λ e. other (sym e)) h.2 later own
          ]
        ]

    -- a ring has no more elements than there are nodes
    pub Leads-length : (at : ℕ) (xs : List ℕ) → nodes ≤ at → at < length next → Leads nodes next at xs at → length xs ≤ nodes
    Leads-length at xs above at_in h =
        let not_back : In at xs → ⊥ = λ there. let below = Leads-below at xs at at h there in absurd (omega arith) in
        length-le_distinct xs nodes (Leads-distinct at xs at at_in not_back h) (λ q. Leads-below at xs at q h)

    -- two ways that do not begin in one another share no node
    pub Leads-apart : (from : ℕ) (xs : List ℕ) (to : ℕ) (from' : ℕ) (ys : List ℕ) (to' : ℕ) → from < length next → from' < length next → nodes ≤ from'
        → (from ≡ from' → ⊥) → (In from ys → ⊥) → Leads nodes next from xs to → Leads nodes next from' ys to' → (q : ℕ) → In q xs → In q ys → ⊥
    unfolding Leads
    Leads-apart from [] to from' ys to' from_in from'_in above differ not_in h h' q there there' = absurd there
    Leads-apart from (x ∷ xs) to from' ys to' from_in from'_in above differ not_in h h' q there there' =
        let fresh : In x ys → ⊥ = λ shared.
        let before = Leads-enters from' ys to' x h' shared in
        elim before.1 [
          | inl head ↦ differ (injective from from' from_in from'_in (h.0 ∙ sym (ap (λ k. get_or next k 0) (sym head) ∙ before.2)))
          | inr inside ↦
              let below = Leads-below from' ys to' before.0 h' inside in
              not_in (subst (λ k. In k ys) (injective before.0 from (omega arith) from_in (before.2 ∙ sym h.0)) inside)
        ] in
        elim there [
          | inl same ↦ fresh (subst (λ k. In k ys) same there')
          | inr later ↦ Leads-apart x xs to from' ys to' (omega (arith, h.1)) from'_in above (λ same. absurd (omega (arith, h.1))) fresh h.2 h' q later there'
        ]
