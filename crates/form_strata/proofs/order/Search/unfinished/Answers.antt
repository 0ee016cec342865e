use Rattle.std.proofs.Common.{◌≡◌, ◌≢◌, ◌⊎◌, ℕ, List, [], subst, sym, length}
use Rattle.std.specs.Prelude.{Contains, MatchOption}
use Rattle.form_strata.specs.declared.order.Mark.{Mark}
use Rattle.form_strata.specs.declared.order.Mark.TheVariants.{Done}
use Rattle.form_strata.specs.Places.{edge_at}
use Rattle.form_strata.specs.Search.{mark_at, AreEdgesBelow}
use Rattle.form_strata.proofs.PlaceLemmas.{list_small, list_taken, list_found}
use Rattle.form_strata.proofs.order.Search.unfinished.Goals as goal

pub last_unfinished-requires-clause-below : goal.last_unfinished-requires-clause-below
last_unfinished-requires-clause-below c =
    subst (λ (ms : List Mark). AreEdgesBelow c.args.graph.now (length ms)) (sym c.as_slice.ensures.value) c.requires.below

pub last_unfinished-requires-clause-places : goal.last_unfinished-requires-clause-places
last_unfinished-requires-clause-places c =
    list_small c.args.graph.now c.args.self.now.marks.items c.args.self.now.left.items c.args.to c.index_mut.result.now c.requires.to c.index_mut.ensures.value
    c.requires.left

pub returns-clause-left : goal.returns-clause-left
returns-clause-left c =
    let T : List Mark → Type 0 =
    λ ms. (k : ℕ) → Contains c.index_mut.result.now.items k → (mark_at ms (edge_at c.args.graph.now k).0 ≡ Done) ⊎ Contains c.last_unfinished.new.places.items k in
    list_taken c.args.graph.now c.args.self.now.marks.items c.args.self.now.left.items c.args.to c.index_mut.result.now c.requires.to c.index_mut.ensures.value
    c.requires.left c.last_unfinished.new.places c.in_ok-found.ensures.kept (subst T c.as_slice.ensures.value c.in_ok-found.ensures.taken)

pub returns-clause-found : goal.returns-clause-found
returns-clause-found c =
    let T : List Mark → Type 0 =
    λ ms. (k : ℕ) → Contains c.index_mut.result.now.items k → (mark_at ms (edge_at c.args.graph.now k).0 ≡ Done) ⊎ Contains c.last_unfinished.new.places.items k in
    let L : List Mark → Type 0 =
    λ ms. MatchOption c.in_ok-found.found (c.last_unfinished.new.places.items ≡ [])
    (λ a. (k : ℕ) × Contains c.last_unfinished.new.places.items k × ((edge_at c.args.graph.now k).0 ≡ a) × (mark_at ms a ≢ Done)) in
    list_found c.args.graph.now c.args.self.now.marks.items c.args.self.now.left.items c.args.to c.index_mut.result.now c.requires.to c.index_mut.ensures.value
    c.requires.left c.last_unfinished.new.places c.in_ok-found.found c.in_ok-found.ensures.kept (subst T c.as_slice.ensures.value c.in_ok-found.ensures.taken)
    (subst L c.as_slice.ensures.value c.in_ok-found.ensures.last)
