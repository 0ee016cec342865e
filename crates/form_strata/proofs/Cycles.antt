-- A graph with an order has no cycle.
use Rattle.std.proofs.Common.{◌≡◌, ℕ, ◌<◌, ◌⊎◌, sym, ◌∙◌, List, [], ◌∷◌, ◌++◌, length, subst, arith, rules}
use Rattle.std.specs.Prelude.{slice_index}
use Rattle.std.proofs.Math.Logic.{⊎_elim}
use Rattle.form_strata.specs.SortGraph.{IsWalk, IsAcyclic}
use Rattle.form_strata.specs.Order.{IsBefore, IsOrder, IsCycle}

module _ (graph : List (ℕ × ℕ)) (n : ℕ) (order : List ℕ) (o : IsOrder graph n order) where
  one_place : (i j : ℕ) → i < length order → j < length order → slice_index order i ≡ slice_index order j → i ≡ j
  one_place i j p q e =
      ⊎_elim (λ (lt : i < j). absurd (o.once i j 0 lt q e))
      (λ (rest : (i ≡ j) ⊎ (j < i)). ⊎_elim (λ (same : i ≡ j). same) (λ (gt : j < i). absurd (o.once j i 0 gt p (sym e))) rest) (compare i j)
    where
      compare : (i j : ℕ) → (i < j) ⊎ ((i ≡ j) ⊎ (j < i))
      compare i j = search (rules, arith)

  before_trans : (a b c : ℕ) → IsBefore order a b → IsBefore order b c → IsBefore order a c
  before_trans a b c h k =
      let same : h.second ≡ k.first =
      one_place h.second k.first h.within (omega (arith, k.rises, k.within)) (h.at_second ∙ sym k.at_first) in
      record {
        first = h.first;
        second = k.second;
        rises = omega (arith, same, h.rises, k.rises);
        within = k.within;
        at_first = h.at_first;
        at_second = k.at_second;
      }

  walk_before : (a : ℕ) (xs : List ℕ) (b : ℕ) → IsWalk graph a (xs ++ b ∷ []) → IsBefore order a b
  walk_before a [] b h = o.forward a b h.0
  walk_before a (x ∷ xs) b h = before_trans a x b (o.forward a x h.0) (walk_before x xs b h.1)

  pub order_acyclic : IsAcyclic graph
  order_acyclic sort through h =
      let b = walk_before sort through sort h in
      o.once b.first b.second 0 b.rises b.within (b.at_first ∙ sym b.at_second)

-- a cycle is one
pub cycle_is_one : (graph : List (ℕ × ℕ)) (cycle : List ℕ) → IsCycle graph cycle → IsAcyclic graph → ⊥
cycle_is_one graph [] h acyclic = h
cycle_is_one graph (from ∷ rest) h acyclic = acyclic from h.0 (subst (λ (xs : List ℕ). IsWalk graph from xs) h.1 h.2)
