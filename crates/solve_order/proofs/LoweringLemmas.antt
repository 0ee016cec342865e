-- A step of a loop that moves the values of the vertices in some order.
use Rattle.std.proofs.Common.{◌≡◌, ◌≢◌, ℕ, ◌+◌, ◌<◌, ◌≤◌, List, length, ℤ, pos, slice_index, slice_set, ⊎_elim, sym, ap, ◌∙◌, arith}
use Rattle.std.proofs.lemmas.Bool.{cases_eq}
use Rattle.std.proofs.lemmas.List.{length-set, get_or-set_same, get_or-set_other}
use Rattle.solve_order.specs.declared.frontier.Reach.{Reach}
use Rattle.solve_order.specs.Difference.{value_of}
use Rattle.solve_order.specs.Lowering.{moved_value}
use Rattle.solve_order.specs.Permutation.{IsPaired}

pub moved_more : (items places : List ℕ) (old new : List ℤ) (reached : List Reach) (i v : ℕ) (m : ℤ) → IsPaired items places → length items ≡ length old → i < length items → v ≡ slice_index items i → m ≡ moved_value old reached (pos 0) v → (length new ≡ length old) × ((u : ℕ) → u < length old → slice_index places u < i → value_of new u ≡ moved_value old reached (pos 0) u) × ((u : ℕ) → u < length old → i ≤ slice_index places u → value_of new u ≡ value_of old u) → (length (slice_set new v m) ≡ length old) × ((u : ℕ) → u < length old → slice_index places u < i + 1 → value_of (slice_set new v m) u ≡ moved_value old reached (pos 0) u) × ((u : ℕ) → u < length old → i + 1 ≤ slice_index places u → value_of (slice_set new v m) u ≡ value_of old u)
moved_more items places old new reached i v m paired long within is value inv =
    let at_i = paired.item_at i within in
    let place : slice_index places v ≡ i = ap (slice_index places) is ∙ at_i.1 in
    let first = at_i.0 in
    let size = inv.0 in (
      length-set new v m ∙ inv.0,
      λ u h b.
          ⊎_elim
          (λ (e : u ≡ v). ap (value_of (slice_set new v m)) e ∙ get_or-set_same new v m (pos 0) (omega arith) ∙ value ∙ ap (moved_value old reached (pos 0)) (sym e))
          (λ (ne : u ≢ v).
          let apart : slice_index places u ≢ i = λ k. ne (sym (paired.place_of u (omega arith)).1 ∙ ap (slice_index items) k ∙ sym is) in
          get_or-set_other new v u m (pos 0) ne ∙ inv.1 u h (omega arith))
          (cases_eq u v),
      λ u h b.
          let ne : u ≢ v = λ e. let x = ap (slice_index places) e in absurd (omega arith) in
          get_or-set_other new v u m (pos 0) ne ∙ inv.2 u h (omega arith),
    )
