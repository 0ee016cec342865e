-- Lists held by rings, and what the calls make of them.
use Rattle.std.proofs.Common.{◌≡◌, ℕ, suc, ◌+◌, ◌<◌, ◌≤◌, List, [], ◌∷◌, length, get_or, None, Some, unwrap_or, nat_lt, cond, refl, sym, ap, ◌∙◌, inl, inr, arith}
use Rattle.std.proofs.lemmas.Bool.{cases_Bool, cond-true, cond-false, false≢true}
use Rattle.std.specs.List.{concat, find}
use Rattle.link_arena.specs.Lists.{EachOnce, is_in, next_in, next_of}
use Rattle.link_arena.specs.Links.{IsInjective}
use Rattle.link_arena.specs.Rings.{Leads, AreRings, rings}
use Rattle.link_arena.proofs.InLemmas.{In, In-from_is_in, is_in-from_In, IsDistinct-nil, IsDistinct-append}
use Rattle.link_arena.proofs.LeadsLemmas.{Leads-walk, Leads-length, Leads-distinct, Leads-apart, Leads-below, Leads-next_in, Leads-moves}
use Rattle.link_arena.proofs.LinkedLemmas.{InSome, InSome-from_concat}

module _ (nodes : ℕ) (next : List ℕ) (injective : IsInjective next) (fits : nodes ≤ length next) where
  -- the walks find the lists again
  pub rings-from_AreRings : (at : ℕ) (lists : List (List ℕ)) → nodes ≤ at → at + length lists ≤ length next → AreRings nodes next at lists → rings (length lists) nodes next at ≡ lists
  unfolding AreRings rings
  rings-from_AreRings at [] above room h = refl
  rings-from_AreRings at (list ∷ lists) above room h =
      let length_fits = Leads-length nodes next injective fits at list above (omega arith) h.0 in
      ap (λ l. l ∷ rings (length lists) nodes next (suc at)) (Leads-walk nodes next nodes at list at above length_fits h.0)
      ∙ ap (λ l. list ∷ l) (rings-from_AreRings (suc at) lists (omega arith) (omega arith) h.1)

  -- a linked node is not its own next
  pub AreRings-moves : (at : ℕ) (lists : List (List ℕ)) (q : ℕ) → nodes ≤ at → at + length lists ≤ length next → q < nodes → AreRings nodes next at lists → InSome q lists → get_or next q 0 ≡ q → ⊥
  unfolding AreRings
  AreRings-moves at [] q above room q_in h there own = absurd there
  AreRings-moves at (list ∷ lists) q above room q_in h (inl here) own =
      Leads-moves nodes next injective fits at list at q (omega arith) (λ e. absurd (omega arith)) h.0 here own
  AreRings-moves at (list ∷ lists) q above room q_in h (inr later) own =
      AreRings-moves (suc at) lists q (omega arith) (omega arith) q_in h.1 later own

  -- a list and the rings behind it share no node
  AreRings-apart : (from : ℕ) (list : List ℕ) (at : ℕ) (lists : List (List ℕ)) → nodes ≤ from → from < at → at + length lists ≤ length next
      → Leads nodes next from list from → AreRings nodes next at lists → (q : ℕ) → In q list → InSome q lists → ⊥
  unfolding AreRings
  AreRings-apart from list at [] above behind room h hs q there later = absurd later
  AreRings-apart from list at (other ∷ lists) above behind room h hs q there (inl here) =
      Leads-apart nodes next injective fits from list from at other at (omega arith) (omega arith) (omega arith) (λ e. absurd (omega arith))
      (λ inside. let below = Leads-below nodes next at other at from hs.0 inside in absurd (omega arith)) h hs.0 q there here
  AreRings-apart from list at (other ∷ lists) above behind room h hs q there (inr later) =
      AreRings-apart from list (suc at) lists above (omega arith) (omega arith) h hs.1 q there later

  -- no node stands twice
  pub EachOnce-from_AreRings : (at : ℕ) (lists : List (List ℕ)) → nodes ≤ at → at + length lists ≤ length next → AreRings nodes next at lists → EachOnce lists
  unfolding AreRings
  EachOnce-from_AreRings at [] above room h = IsDistinct-nil
  EachOnce-from_AreRings at (list ∷ lists) above room h =
      IsDistinct-append list (concat lists)
      (Leads-distinct nodes next injective fits at list at (omega arith) (λ inside. let below = Leads-below nodes next at list at at h.0 inside in absurd (omega arith)) h.0)
      (EachOnce-from_AreRings (suc at) lists (omega arith) (omega arith) h.1)
      (λ q there later. AreRings-apart at list (suc at) lists above (omega arith) (omega arith) h.0 h.1 q there (InSome-from_concat q lists later))

  -- what comes behind a linked node
  pub AreRings-next_of : (at : ℕ) (lists : List (List ℕ)) (q : ℕ) → nodes ≤ at → AreRings nodes next at lists → InSome q lists
      → cond (nat_lt (get_or next q 0) nodes) (Some (get_or next q 0)) None ≡ next_of q lists
  unfolding AreRings
  AreRings-next_of at [] q above h there = absurd there
  AreRings-next_of at (list ∷ lists) q above h there =
      elim (cases_Bool (is_in q list)) [
        | inl found ↦ Leads-next_in nodes next at list at q above h.0 (In-from_is_in q list found)
            ∙ ap (λ o. next_in q (unwrap_or o [])) (sym (cond-true (is_in q list) (Some list) (find (is_in q) lists) found))
        | inr missing ↦ elim there [
          | inl here ↦ absurd (false≢true (sym missing ∙ is_in-from_In q list here))
          | inr later ↦ AreRings-next_of (suc at) lists q (omega arith) h.1 later
              ∙ ap (λ o. next_in q (unwrap_or o [])) (sym (cond-false (is_in q list) (Some list) (find (is_in q) lists) missing))
        ]
      ]
