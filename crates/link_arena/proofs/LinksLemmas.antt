-- Links after an exchange.
use Rattle.std.proofs.Common.{◌≡◌, ℕ, ◌<◌, List, length, get_or, set, refl, sym, ap, ◌∙◌, inl, inr, subst, arith, length-set, get_or-set_same, get_or-set_other}
use Rattle.std.proofs.lemmas.Bool.{cases_eq}
use Rattle.std.proofs.lemmas.List.Edits.{Swapped, swapped_from_swap, length-swap}
use Rattle.std.specs.List.{swap}
use Rattle.link_arena.specs.Links.{IsInjective, AreInverse}

-- what leads back shows that no two numbers have the same one next
pub IsInjective-from_inverse : (next prev : List ℕ) → AreInverse next prev → IsInjective next
IsInjective-from_inverse next prev h i j i_in j_in same =
    sym (h.prev_next i i_in) ∙ ap (λ k. get_or prev k 0) same ∙ h.prev_next j j_in

-- what comes next to a and b was exchanged, and prev was written at both
module _ (next prev : List ℕ) (a b : ℕ) (h : AreInverse next prev) (a_in : a < length next) (b_in : b < length next) where
  swapped : Swapped (λ i. get_or next i 0) (λ i. get_or (swap next a b) i 0) a b
  swapped = swapped_from_swap next (swap next a b) a b 0 a_in b_in refl

  injective : IsInjective next
  injective = IsInjective-from_inverse next prev h

  -- each number is a, b or as before
  at_each : (P : ℕ → ℕ → Type 0) → P a (get_or next b 0) → P b (get_or next a 0) → ((i : ℕ) → (i ≡ a → ⊥) → (i ≡ b → ⊥) → i < length next → P i (get_or next i 0))
      → (i : ℕ) → i < length next → P i (get_or (swap next a b) i 0)
  at_each P at_a at_b else' i i_in =
      elim (cases_eq i a) [
        | inl e ↦ subst (λ k. P k (get_or (swap next a b) k 0)) (sym e) (subst (P a) (sym swapped.0) at_a)
        | inr not_a ↦ elim (cases_eq i b) [
          | inl e ↦ subst (λ k. P k (get_or (swap next a b) k 0)) (sym e) (subst (P b) (sym swapped.1) at_b)
          | inr not_b ↦ subst (P i) (sym (swapped.2 i not_a not_b)) (else' i not_a not_b i_in)
        ]
      ]

  next_below : (i : ℕ) → i < length next → get_or (swap next a b) i 0 < length next
  next_below = at_each (λ i k. k < length next) (h.next_below b b_in) (h.next_below a a_in) (λ i _ _ i_in. h.next_below i i_in)

  module _ (after_a after_b : ℕ) (is_a : after_a ≡ get_or (swap next a b) a 0) (is_b : after_b ≡ get_or (swap next a b) b 0) where
    was_b : after_a ≡ get_or next b 0
    was_b = is_a ∙ swapped.0

    was_a : after_b ≡ get_or next a 0
    was_a = is_b ∙ swapped.1

    first : after_a < length prev
    first = omega (arith, h.next_below b b_in, h.same_length, was_b)

    second : after_b < length (set prev after_a a)
    second = omega (arith, h.next_below a a_in, h.same_length, was_a, length-set prev after_a a)

    -- prev at the three kinds of places
    prev_at_b : get_or (set (set prev after_a a) after_b b) after_b 0 ≡ b
    prev_at_b = get_or-set_same (set prev after_a a) after_b b 0 second

    prev_at_a : (after_a ≡ after_b → ⊥) → get_or (set (set prev after_a a) after_b b) after_a 0 ≡ a
    prev_at_a differ = get_or-set_other (set prev after_a a) after_b after_a b 0 differ ∙ get_or-set_same prev after_a a 0 first

    prev_at_other : (j : ℕ) → (j ≡ after_a → ⊥) → (j ≡ after_b → ⊥) → get_or (set (set prev after_a a) after_b b) j 0 ≡ get_or prev j 0
    prev_at_other j not_a not_b = get_or-set_other (set prev after_a a) after_b j b 0 not_b ∙ get_or-set_other prev after_a j a 0 not_a

    prev_below : (j : ℕ) → j < length next → get_or (set (set prev after_a a) after_b b) j 0 < length next
    prev_below j j_in =
        elim (cases_eq j after_b) [
          | inl e ↦ subst (λ k. k < length next) (sym (ap (λ k. get_or (set (set prev after_a a) after_b b) k 0) e ∙ prev_at_b)) b_in
          | inr not_b ↦ elim (cases_eq j after_a) [
            | inl e ↦ subst (λ k. k < length next) (sym (ap (λ k. get_or (set (set prev after_a a) after_b b) k 0) e ∙ prev_at_a (λ same. not_b (e ∙ same)))) a_in
            | inr not_a ↦ subst (λ k. k < length next) (sym (prev_at_other j not_a not_b)) (h.prev_below j j_in)
          ]
        ]

    prev_next : (i : ℕ) → i < length next → get_or (set (set prev after_a a) after_b b) (get_or (swap next a b) i 0) 0 ≡ i
    prev_next = at_each (λ i k. get_or (set (set prev after_a a) after_b b) k 0 ≡ i)
        (elim (cases_eq after_a after_b) [
          | inl same ↦ ap (λ k. get_or (set (set prev after_a a) after_b b) k 0) (sym was_b ∙ same) ∙ prev_at_b
              ∙ injective b a b_in a_in (sym was_b ∙ same ∙ was_a)
          | inr differ ↦ ap (λ k. get_or (set (set prev after_a a) after_b b) k 0) (sym was_b) ∙ prev_at_a differ
        ])
        (ap (λ k. get_or (set (set prev after_a a) after_b b) k 0) (sym was_a) ∙ prev_at_b)
        (λ i not_a not_b i_in.
        prev_at_other (get_or next i 0) (λ e. not_b (injective i b i_in b_in (e ∙ was_b))) (λ e. not_a (injective i a i_in a_in (e ∙ was_a)))
        ∙ h.prev_next i i_in)

    next_prev : (j : ℕ) → j < length next → get_or (swap next a b) (get_or (set (set prev after_a a) after_b b) j 0) 0 ≡ j
    next_prev j j_in =
        elim (cases_eq j after_b) [
          | inl e ↦ ap (λ k. get_or (swap next a b) k 0) (ap (λ k. get_or (set (set prev after_a a) after_b b) k 0) e ∙ prev_at_b) ∙ sym is_b ∙ sym e
          | inr not_b ↦ elim (cases_eq j after_a) [
            | inl e ↦ ap (λ k. get_or (swap next a b) k 0) (ap (λ k. get_or (set (set prev after_a a) after_b b) k 0) e ∙ prev_at_a (λ same. not_b (e ∙ same))) ∙ sym is_a ∙ sym e
            | inr not_a ↦
                ap (λ k. get_or (swap next a b) k 0) (prev_at_other j not_a not_b)
                ∙ swapped.2 (get_or prev j 0)
                (λ e. not_b (sym (h.next_prev j j_in) ∙ ap (λ k. get_or next k 0) e ∙ sym was_a))
                (λ e. not_a (sym (h.next_prev j j_in) ∙ ap (λ k. get_or next k 0) e ∙ sym was_b))
                ∙ h.next_prev j j_in
          ]
        ]

    pub AreInverse-exchanged : AreInverse (swap next a b) (set (set prev after_a a) after_b b)
    AreInverse-exchanged =
        let same : length (swap next a b) ≡ length next = length-swap next a b in
        record {
          same_length = length-set (set prev after_a a) after_b b ∙ length-set prev after_a a ∙ h.same_length ∙ sym same;
          next_below = λ i i_in. omega (arith, next_below i (omega arith));
          prev_below = λ j j_in. omega (arith, prev_below j (omega arith));
          prev_next = λ i i_in. prev_next i (omega arith);
          next_prev = λ j j_in. next_prev j (omega arith);
        }
