use Rattle.std.proofs.Common.{ℕ, List, subst, sym}
use Rattle.form_formula.specs.Nodes.{formula_of}
use Rattle.form_strata.specs.declared.order.Sorted.{Sorted}
use Rattle.form_strata.specs.SortGraph.{edges_of}
use Rattle.form_strata.specs.Order.{IsCycle, IsOrder}
use Rattle.form_strata.specs.Search.{AreEdgesBelow, IsSorted}
use Rattle.form_strata.proofs.Cycles.{cycle_is_one, order_acyclic}
use Rattle.form_strata.proofs.EdgesBelow.{edges_below}
use Rattle.form_strata.proofs.Members.{below_moved, cycle_moved, order_moved}
use Rattle.form_strata.proofs.sort_graph.strata.Goals as goal

pub sort-requires : goal.sort-requires
sort-requires c =
    let n : ℕ = c.args.signature.now.sorts in
    let graph : List (ℕ × ℕ) = edges_of c.args.signature.now (formula_of c.args.arena.now c.args.id) in
    subst (λ (found : List (ℕ × ℕ)). AreEdgesBelow found n) (sym c.as_slice.ensures.value)
    (below_moved c.in_ok-edges.edges.items graph c.in_ok-edges.ensures n (edges_below c.args.signature.now (formula_of c.args.arena.now c.args.id) c.requires.over))

pub returns-in-Order : goal.returns-in-Order
returns-in-Order c =
    let n : ℕ = c.args.signature.now.sorts in
    let graph : List (ℕ × ℕ) = edges_of c.args.signature.now (formula_of c.args.arena.now c.args.id) in
    let order : IsOrder c.as_slice.result.now n c.in-Order.order.items =
    subst (λ (s : Sorted). IsSorted c.as_slice.result.now n s) c.in-Order.is c.in_ok-order.ensures in
    let found : IsOrder c.in_ok-edges.edges.items n c.in-Order.order.items =
    subst (λ (g : List (ℕ × ℕ)). IsOrder g n c.in-Order.order.items) c.as_slice.ensures.value order in
    let whole : IsOrder graph n c.in-Order.order.items = order_moved c.in_ok-edges.edges.items graph c.in_ok-edges.ensures n c.in-Order.order.items found in
    (subst (λ (xs : List ℕ). IsOrder graph n xs) (sym c.from_vec.ensures) whole, order_acyclic graph n c.in-Order.order.items whole)

pub returns : goal.returns
returns c =
    let n : ℕ = c.args.signature.now.sorts in
    let graph : List (ℕ × ℕ) = edges_of c.args.signature.now (formula_of c.args.arena.now c.args.id) in
    let cycle : IsCycle c.as_slice.result.now c.in-Cycle.cycle.items =
    subst (λ (s : Sorted). IsSorted c.as_slice.result.now n s) c.in-Cycle.is c.in_ok-order.ensures in
    let found : IsCycle c.in_ok-edges.edges.items c.in-Cycle.cycle.items =
    subst (λ (g : List (ℕ × ℕ)). IsCycle g c.in-Cycle.cycle.items) c.as_slice.ensures.value cycle in
    let whole : IsCycle graph c.in-Cycle.cycle.items = cycle_moved c.in_ok-edges.edges.items graph c.in_ok-edges.ensures c.in-Cycle.cycle.items found in
    (subst (λ (xs : List ℕ). IsCycle graph xs) (sym c.from_vec-in-Cycle.ensures) whole, cycle_is_one graph c.in-Cycle.cycle.items whole)
