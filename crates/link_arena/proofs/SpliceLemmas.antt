-- Lists after what comes next to two numbers was exchanged.
use Rattle.std.proofs.Common.{◌≡◌, ℕ, zero, suc, ◌+◌, ◌<◌, ◌≤◌, not, List, [], ◌∷◌, ◌++◌, length, get_or, sym, ap, ◌∙◌, inl, inr, subst, arith}
use Rattle.std.proofs.lemmas.Bool.{eq-eqb, ne_eqb, cases_eq, cond-true, cond-false}
use Rattle.std.proofs.lemmas.List.Edits.{Swapped}
use Rattle.link_arena.specs.Lists.{without, unlinked, pushed}
use Rattle.link_arena.specs.Links.{IsInjective}
use Rattle.link_arena.specs.Rings.{Leads, AreRings}

-- p came next before x, or x was alone; `after` is next with p and x exchanged
module _ (nodes : ℕ) (next after : List ℕ) (p x : ℕ) (swapped : Swapped (λ i. get_or next i 0) (λ i. get_or after i 0) p x) where
  module _ (before_x : get_or next p 0 ≡ x) (linked : p ≡ x → ⊥) (injective : IsInjective next) (fits : nodes ≤ length next) (p_in : p < length next) where
    step : (a c : ℕ) → (a ≡ x → ⊥) → (c ≡ x → ⊥) → get_or next a 0 ≡ c → get_or after a 0 ≡ c
    step a c not_from not_to h = swapped.2 a (λ same. not_to (sym h ∙ ap (λ k. get_or next k 0) same ∙ before_x)) not_from ∙ h

    step_at_p : (a : ℕ) → a < length next → get_or next a 0 ≡ x → get_or after a 0 ≡ get_or next x 0
    step_at_p a a_in h = ap (λ k. get_or after k 0) (injective a p a_in p_in (h ∙ sym before_x)) ∙ swapped.0

    -- x is not its own next
    moves_on : get_or next x 0 ≡ x → x < length next → ⊥
    moves_on h x_in = linked (injective p x p_in x_in (before_x ∙ sym h))

    -- a list without x: next leads on from `from`, and after the exchange from `start`
    leads_without : (from start : ℕ) (xs : List ℕ) (to : ℕ) → (to ≡ x → ⊥)
        → ((c : ℕ) → (c ≡ x → ⊥) → get_or next from 0 ≡ c → get_or after start 0 ≡ c)
        → (get_or next from 0 ≡ x → get_or after start 0 ≡ get_or next x 0)
        → Leads nodes next from xs to → Leads nodes after start (without x xs) to
    unfolding Leads
    leads_without from start [] to not_to on over h = on to not_to h
    leads_without from start (y ∷ ys) to not_to on over h =
        elim (cases_eq x y) [
          | inl same ↦
              let next_x : get_or after start 0 ≡ get_or next y 0 = over (h.0 ∙ sym same) ∙ ap (λ k. get_or next k 0) same in
              subst (λ l. Leads nodes after start l to) (sym (cond-false _ _ _ (ap not (eq-eqb x y same))))
              (leads_without y start ys to not_to (λ c not_c e. next_x ∙ e)
              (λ e. absurd (moves_on (ap (λ k. get_or next k 0) same ∙ e) (subst (λ k. k < length next) (sym same) (omega (arith, h.1))))) h.2)
          | inr other ↦
              let not_y : y ≡ x → ⊥ = λ e. other (sym e) in
              subst (λ l. Leads nodes after start l to) (sym (cond-true _ _ _ (ap not (ne_eqb x y other))))
              (on y not_y h.0, h.1, leads_without y y ys to not_to (λ c not_c e. step y c not_y not_c e) (step_at_p y (omega (arith, h.1))) h.2)
        ]

    pub Leads-without : (from : ℕ) (xs : List ℕ) (to : ℕ) → from < length next → (from ≡ x → ⊥) → (to ≡ x → ⊥)
        → Leads nodes next from xs to → Leads nodes after from (without x xs) to
    Leads-without from xs to from_in not_from not_to h =
        leads_without from from xs to not_to (λ c not_c e. step from c not_from not_c e) (step_at_p from from_in) h

    -- each ring without x
    pub AreRings-unlinked : (at : ℕ) (lists : List (List ℕ)) → x < nodes → nodes ≤ at → at + length lists ≤ length next
        → AreRings nodes next at lists → AreRings nodes after at (unlinked x lists)
    unfolding AreRings
    AreRings-unlinked at [] x_in above room h = tt
    AreRings-unlinked at (list ∷ lists) x_in above room h =
        let not_at : at ≡ x → ⊥ = λ e. absurd (omega arith) in
        (Leads-without at list at (omega arith) not_at not_at h.0, AreRings-unlinked (suc at) lists x_in (omega arith) (omega arith) h.1)

  module _ (end : ℕ) (before_end : get_or next p 0 ≡ end) (alone : get_or next x 0 ≡ x) (injective : IsInjective next) (fits : nodes ≤ length next) (x_in : x < nodes) (end_above : nodes ≤ end) where
    -- what comes next elsewhere stays
    keep : (a c : ℕ) → a < length next → (c ≡ end → ⊥) → (c ≡ x → ⊥) → get_or next a 0 ≡ c → get_or after a 0 ≡ c
    keep a c a_in not_end not_x h =
        swapped.2 a (λ same. not_end (sym h ∙ ap (λ k. get_or next k 0) same ∙ before_end))
        (λ same. not_x (sym h ∙ ap (λ k. get_or next k 0) same ∙ alone)) ∙ h

    not_alone : (a c : ℕ) → a < length next → (a ≡ x → ⊥) → get_or next a 0 ≡ c → c ≡ x → ⊥
    not_alone a c a_in not_from h e = not_from (injective a x a_in (omega arith) (h ∙ e ∙ sym alone))

    -- a list that ends elsewhere
    pub Leads-kept : (from : ℕ) (xs : List ℕ) (to : ℕ) → from < length next → (from ≡ x → ⊥) → (to ≡ end → ⊥)
        → Leads nodes next from xs to → Leads nodes after from xs to
    unfolding Leads
    Leads-kept from [] to from_in not_from not_end h = keep from to from_in not_end (not_alone from to from_in not_from h) h
    Leads-kept from (y ∷ ys) to from_in not_from not_end h =
        let not_y : y ≡ x → ⊥ = not_alone from y from_in not_from h.0 in
        let inside : y ≡ end → ⊥ = λ e. absurd (omega (arith, h.1)) in
        (keep from y from_in inside not_y h.0, h.1, Leads-kept y ys to (omega (arith, h.1)) not_y not_end h.2)

    -- the list that ends there, with x at its end
    pub Leads-pushed : (from : ℕ) (xs : List ℕ) → from < length next → p < length next → (from ≡ x → ⊥)
        → Leads nodes next from xs end → Leads nodes after from (xs ++ x ∷ []) end
    unfolding Leads
    Leads-pushed from [] from_in p_in not_from h =
        let at_p : from ≡ p = injective from p from_in p_in (h ∙ sym before_end) in
        (ap (λ k. get_or after k 0) at_p ∙ swapped.0 ∙ alone, x_in, swapped.1 ∙ before_end)
    Leads-pushed from (y ∷ ys) from_in p_in not_from h =
        let not_y : y ≡ x → ⊥ = not_alone from y from_in not_from h.0 in
        let inside : y ≡ end → ⊥ = λ e. absurd (omega (arith, h.1)) in
        (keep from y from_in inside not_y h.0, h.1, Leads-pushed y ys (omega (arith, h.1)) p_in not_y h.2)

    -- the rings behind that of the list
    pub AreRings-kept : (at : ℕ) (lists : List (List ℕ)) → end < at → at + length lists ≤ length next
        → AreRings nodes next at lists → AreRings nodes after at lists
    unfolding AreRings
    AreRings-kept at [] behind room h = tt
    AreRings-kept at (list ∷ lists) behind room h = (
      Leads-kept at list at (omega arith) (λ e. absurd (omega arith)) (λ e. absurd (omega arith)) h.0,
      AreRings-kept (suc at) lists (omega arith) (omega arith) h.1,
    )

    -- all rings, with x at the end of that list
    pub AreRings-pushed : (at list : ℕ) (lists : List (List ℕ)) → nodes ≤ at → at + list ≡ end → list < length lists → at + length lists ≤ length next → p < length next
        → AreRings nodes next at lists → AreRings nodes after at (pushed list x lists)
    unfolding AreRings
    AreRings-pushed at list [] above is_end list_in room p_in h = tt
    AreRings-pushed at zero (list ∷ lists) above is_end list_in room p_in h =
        let here : at ≡ end = omega arith in
        let ring = subst (λ k. Leads nodes next at list k) here h.0 in (
          subst (λ k. Leads nodes after at (list ++ x ∷ []) k) (sym here) (Leads-pushed at list (omega arith) p_in (λ e. absurd (omega arith)) ring),
          AreRings-kept (suc at) lists (omega arith) (omega arith) h.1,
        )
    AreRings-pushed at (suc place) (list ∷ lists) above is_end list_in room p_in h = (
      Leads-kept at list at (omega arith) (λ e. absurd (omega arith)) (λ e. absurd (omega arith)) h.0,
      AreRings-pushed (suc at) place lists (omega arith) (omega arith) (omega arith) (omega arith) p_in h.1,
    )
