use Rattle.std.proofs.Common.{◌≡◌, ℕ, [], List, Option, Vec, Global, arith, map, subst, sym}
use Rattle.std.specs.Prelude.{MatchOption, Contains}
use Rattle.form_strata.specs.Search.{IsSearch, LeadsOn}
use Rattle.form_strata.specs.Places.{AreGrouped}
use Rattle.form_strata.proofs.PlaceLemmas.{left_start}
use Rattle.form_strata.proofs.OrderLemmas.{all_done, begun_at, seen_more}
use Rattle.form_strata.proofs.order.sort.Goals as goal

pub loop-start-init : goal.loop-start-init
loop-start-init c =
    let graph : List (ℕ × ℕ) = c.args.graph.now in
    let n : ℕ = c.args.vertices in
    let state = c.in_ok-search.ensures.state graph in
    let grouped =
    subst (λ (vs : Vec (Vec ℕ Global) Global). AreGrouped graph 0 n (map (λ l. l.items) vs.items)) (sym c.in_ok-search.ensures.left) c.in_ok-places.ensures in (
      record {
        state = state;
        left = left_start graph n c.in_ok-search.search.marks.items (map (λ l. l.items) c.in_ok-search.search.left.items) state.size grouped;
      },
      c.in_ok-search.ensures.path,
      λ v lt. absurd (omega (arith, lt)),
    )

pub visit-requires-clause-below : goal.visit-requires-clause-below
visit-requires-clause-below c a b h =
    let begun =
    begun_at c.args.graph.now c.args.vertices c.loop-start.start c.loop-start.search c.begin.new.self c.in_ok-begin.ensures c.loop-start.invariant.0
    c.loop-start.invariant.1 in
    let size = (begun.0).state.size in
    let below = c.requires a b h in
    (omega (arith, size, below.0), omega (arith, size, below.1))

pub visit-requires-clause-search : goal.visit-requires-clause-search
visit-requires-clause-search c =
    let begun =
    begun_at c.args.graph.now c.args.vertices c.loop-start.start c.loop-start.search c.begin.new.self c.in_ok-begin.ensures c.loop-start.invariant.0
    c.loop-start.invariant.1 in
    subst (λ (n : ℕ). IsSearch c.args.graph.now n c.begin.new.self) (sym (begun.0).state.size) begun.0

pub loop-start-preserved : goal.loop-start-preserved
loop-start-preserved c =
    let begun =
    begun_at c.args.graph.now c.args.vertices c.loop-start.start c.loop-start.search c.begin.new.self c.in_ok-begin.ensures c.loop-start.invariant.0
    c.loop-start.invariant.1 in
    let M : Option ℕ → Type 0 =
    λ found. MatchOption found (c.visit.new.self.path.items ≡ []) (λ v. Contains c.visit.new.self.path.items v × LeadsOn c.args.graph.now c.visit.new.self.path.items v) in (
      subst (λ (n : ℕ). IsSearch c.args.graph.now n c.visit.new.self) (begun.0).state.size c.in_ok-visit.ensures.search,
      subst M c.in-None.is c.in_ok-visit.ensures.end,
      λ v lt. c.in_ok-visit.ensures.done v (seen_more c.loop-start.search c.begin.new.self c.loop-start.start v c.loop-start.invariant.2 begun.1 lt),
    )

pub returns : goal.returns
returns c =
    all_done c.args.graph.now c.args.vertices c.loop-start.search.marks.items c.loop-start.search.path.items c.loop-start.search.order.items c.requires
    (c.loop-start.invariant.0).state c.loop-start.invariant.1 (λ v lt. c.loop-start.invariant.2 v (omega (arith, c.loop-start-test.false)))
