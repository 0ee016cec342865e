use Rattle.std.proofs.Common.{true, false, ◌≡◌, ◌∙◌, ◌∷◌, ◌++◌, [], List, ℕ, Vec, Global, arith, ap, cond, length, map, sym, subst, refl, rules, length-append}
use Rattle.std.specs.Prelude.{Contains, sum_by}
use Rattle.std.proofs.Math.ListN.{set}
use Rattle.form_strata.specs.declared.order.Mark.{Mark}
use Rattle.form_strata.specs.declared.order.Mark.TheVariants.{Unseen, Open, Done}
use Rattle.form_strata.specs.Search.{mark_at, is_done_mark, AreLeft, LeadsOn, weight}
use Rattle.form_strata.proofs.OrderLemmas.{finish_keeps, found_none, found_some, enter_new, left_finished, left_entered, leads_on, seen_kept, fewer_left, two_fewer, is_unseen, top_small, state_at}
use Rattle.form_strata.proofs.order.Search.visit.Goals as goal
use Rattle.form_strata.proofs.order.Search.visit.Goals.{In_ok-finish-in-None}

-- the vertex that is taken from the path
pub unfinished-requires-clause-to : goal.unfinished-requires-clause-to
unfinished-requires-clause-to c =
    let state = (c.steps.invariant.0).state in
    omega (
      arith,
      top_small (length c.args.self.now.marks.items) c.steps.self.path.items c.pop.new.self.items c.in-Some.v c.in-Some.ensures.items state.path_small,
      state.size,
    )

pub unfinished-requires-clause-below : goal.unfinished-requires-clause-below
unfinished-requires-clause-below c a b h =
    let size = (c.steps.invariant.0).state.size in
    let below = c.requires.below a b h in
    (omega (arith, size, below.0), omega (arith, size, below.1))

pub unfinished-requires-clause-left : goal.unfinished-requires-clause-left
unfinished-requires-clause-left c = (c.steps.invariant.0).left

pub finish-requires : goal.finish-requires
finish-requires c =
    let state = (c.steps.invariant.0).state in
    omega (
      arith,
      top_small (length c.args.self.now.marks.items) c.steps.self.path.items c.pop.new.self.items c.in-Some.v c.in-Some.ensures.items state.path_small,
      state.size,
      ap length c.unfinished.ensures.marks,
    )

-- what is marked after a vertex is done
marks_finished : (c : In_ok-finish-in-None) → c.finish.new.self.marks.items ≡ set c.steps.self.marks.items c.in-Some.v Done
marks_finished c = c.in_ok-finish-in-None.ensures.marks ∙ ap (λ ms. set ms c.in-Some.v Done) c.unfinished.ensures.marks

pub steps-smaller-in-Continue-branch-3 : goal.steps-smaller-in-Continue-branch-3
steps-smaller-in-Continue-branch-3 c =
    let state = (c.steps.invariant.0).state in
    let inside =
    top_small (length c.args.self.now.marks.items) c.steps.self.path.items c.pop.new.self.items c.in-Some.v c.in-Some.ensures.items state.path_small in
    omega (
      arith,
      fewer_left c.steps.self.marks.items c.in-Some.v (omega (arith, inside, state.size)),
      ap (λ ms. sum_by weight ms) (marks_finished c),
      ap length (c.finish.ensures.path ∙ c.unfinished.ensures.path),
      ap length c.in-Some.ensures.items,
      length-append c.pop.new.self.items (c.in-Some.v ∷ []),
    )

pub steps-preserved-in-Continue-branch-3 : goal.steps-preserved-in-Continue-branch-3
steps-preserved-in-Continue-branch-3 c =
    let graph : List (ℕ × ℕ) = c.args.graph.now in
    let n : ℕ = length c.args.self.now.marks.items in
    let v : ℕ = c.in-Some.v in
    let state = (c.steps.invariant.0).state in
    let marks : List Mark = c.steps.self.marks.items in
    let preds = found_none graph marks v _ c.in-None.is c.in_ok-unfinished.ensures.found in
    let inside = top_small n c.steps.self.path.items c.pop.new.self.items v c.in-Some.ensures.items state.path_small in
    let order =
    c.in_ok-finish-in-None.ensures.order
    ∙ (ap (λ ms. cond (is_done_mark (mark_at ms v)) c.unfinished.new.self.order.items (c.unfinished.new.self.order.items ++ v ∷ [])) c.unfinished.ensures.marks
    ∙ ap (λ os. cond (is_done_mark (mark_at marks v)) os (os ++ v ∷ [])) c.unfinished.ensures.order) in (
      record {
        state = finish_keeps graph n marks c.finish.new.self.marks.items c.steps.self.path.items c.pop.new.self.items c.finish.new.self.path.items
            c.steps.self.order.items c.finish.new.self.order.items v c.requires.below preds c.in-Some.ensures.items state (marks_finished c)
            (c.finish.ensures.path ∙ c.unfinished.ensures.path) order;
        left = left_finished graph marks c.finish.new.self.marks.items (map (λ l. l.items) c.unfinished.new.self.left.items)
            (map (λ l. l.items) c.finish.new.self.left.items) v (omega (arith, inside, state.size))
            (ap (λ (ls : List (Vec ℕ Global)). map (λ l. l.items) ls) c.finish.ensures.left) (marks_finished c) c.in_ok-unfinished.ensures.left;
      },
      λ u seen now.
          let U : List Mark → Type 0 = λ ms. mark_at ms u ≡ Unseen in
          let never : Done ≡ Unseen → ⊥ = λ e. cc in
          seen_kept marks v u Done (omega (arith, inside, state.size)) never (c.steps.invariant.1 u seen) (subst U (marks_finished c) now),
    )

pub is_open-requires : goal.is_open-requires
is_open-requires c =
    let found =
    found_some c.args.graph.now c.steps.self.marks.items c.in-Some.v c.in-Some-2.from _ c.in-Some-2.is c.in_ok-unfinished.ensures.found in
    omega (
      arith,
      ap length c.as_slice.ensures.value,
      ap length c.unfinished.ensures.marks,
      (c.steps.invariant.0).state.size,
      (c.requires.below _ _ found.0).0,
    )

-- the path with the vertex on it again
pub returns-then-is_open-clause-search : goal.returns-then-is_open-clause-search
returns-then-is_open-clause-search c =
    let n : ℕ = length c.args.self.now.marks.items in
    let same = c.unfinished.ensures.marks in
    let push = c.in_ok-push-in-Some-2.ensures.items ∙ ap (λ xs. xs ++ c.in-Some.v ∷ []) c.unfinished.ensures.path in
    record {
      state = state_at c.args.graph.now n c.steps.self.marks.items c.unfinished.new.self.marks.items c.steps.self.path.items c.push.new.self.items
          c.steps.self.order.items c.unfinished.new.self.order.items same (push ∙ sym c.in-Some.ensures.items) c.unfinished.ensures.order
          (c.steps.invariant.0).state;
      left = subst (λ (ms : List Mark). AreLeft c.args.graph.now ms (map (λ l. l.items) c.unfinished.new.self.left.items)) (sym same)
          c.in_ok-unfinished.ensures.left;
    }

pub returns-then-is_open-clause-end : goal.returns-then-is_open-clause-end
returns-then-is_open-clause-end c =
    let from : ℕ = c.in-Some-2.from in
    let found =
    found_some c.args.graph.now c.steps.self.marks.items c.in-Some.v from _ c.in-Some-2.is c.in_ok-unfinished.ensures.found in
    let below = c.requires.below _ _ found.0 in
    let M : List Mark → Type 0 = λ ms. mark_at ms from ≡ Open in
    let open_now : mark_at c.steps.self.marks.items from ≡ Open =
    subst M (c.as_slice.ensures.value ∙ c.unfinished.ensures.marks) (c.if-is_open.ensures.0 (search rules)) in
    let there = (c.steps.invariant.0).state.opened from below.0 open_now in
    let push = c.in_ok-push-in-Some-2.ensures.items ∙ ap (λ xs. xs ++ c.in-Some.v ∷ []) c.unfinished.ensures.path in
    let C : List ℕ → Type 0 = λ xs. Contains xs from in
    let L : List ℕ → Type 0 = λ xs. LeadsOn c.args.graph.now xs from in (
      subst C (c.in-Some.ensures.items ∙ sym push) there,
      subst L (sym push) (leads_on c.args.graph.now c.pop.new.self.items c.in-Some.v from found.0),
    )

pub returns-then-is_open-clause-done : goal.returns-then-is_open-clause-done
returns-then-is_open-clause-done c u seen now =
    c.steps.invariant.1 u seen (subst (λ (ms : List Mark). mark_at ms u ≡ Unseen) c.unfinished.ensures.marks now)

pub enter-requires : goal.enter-requires
enter-requires c =
    let found =
    found_some c.args.graph.now c.steps.self.marks.items c.in-Some.v c.in-Some-2.from _ c.in-Some-2.is c.in_ok-unfinished.ensures.found in
    omega (arith, (c.steps.invariant.0).state.size, ap length c.unfinished.ensures.marks, (c.requires.below _ _ found.0).0)

-- the vertex was not seen
unseen : (c : goal.In_ok-enter-in-Some-2) → mark_at c.steps.self.marks.items c.in-Some-2.from ≡ Unseen
unseen c =
    let from : ℕ = c.in-Some-2.from in
    let found =
    found_some c.args.graph.now c.steps.self.marks.items c.in-Some.v from _ c.in-Some-2.is c.in_ok-unfinished.ensures.found in
    let O : List Mark → Type 0 = λ ms. mark_at ms from ≡ Open → ⊥ in
    is_unseen (mark_at c.steps.self.marks.items from) found.1
    (subst O (c.as_slice.ensures.value ∙ c.unfinished.ensures.marks) (λ e. let h : false ≡ true = c.if-is_open.ensures.1 e in cc))

-- what is marked, and the path, after it was entered
marks_entered : (c : goal.In_ok-enter-in-Some-2) → c.enter.new.self.marks.items ≡ set c.steps.self.marks.items c.in-Some-2.from Open
marks_entered c = c.in_ok-enter-in-Some-2.ensures.marks ∙ ap (λ ms. set ms c.in-Some-2.from Open) c.unfinished.ensures.marks

path_pushed : (c : goal.In_ok-enter-in-Some-2) → c.push.new.self.items ≡ c.pop.new.self.items ++ c.in-Some.v ∷ []
path_pushed c = c.in_ok-push-in-Some-2.ensures.items ∙ ap (λ xs. xs ++ c.in-Some.v ∷ []) c.unfinished.ensures.path

pub steps-smaller : goal.steps-smaller
steps-smaller c =
    let from : ℕ = c.in-Some-2.from in
    let marks : List Mark = c.steps.self.marks.items in
    let found = found_some c.args.graph.now marks c.in-Some.v from _ c.in-Some-2.is c.in_ok-unfinished.ensures.found in
    let inside = (c.requires.below _ _ found.0).0 in
    omega (
      arith,
      two_fewer marks from (omega (arith, inside, (c.steps.invariant.0).state.size)) (unseen c),
      ap (λ xs. sum_by weight xs) (marks_entered c),
      ap length c.in_ok-enter-in-Some-2.ensures.path,
      length-append c.push.new.self.items (from ∷ []),
      ap length (c.in-Some.ensures.items ∙ sym (path_pushed c)),
    )

pub steps-preserved : goal.steps-preserved
steps-preserved c =
    let graph : List (ℕ × ℕ) = c.args.graph.now in
    let n : ℕ = length c.args.self.now.marks.items in
    let v : ℕ = c.in-Some.v in
    let from : ℕ = c.in-Some-2.from in
    let marks : List Mark = c.steps.self.marks.items in
    let state = (c.steps.invariant.0).state in
    let found = found_some graph marks v from _ c.in-Some-2.is c.in_ok-unfinished.ensures.found in
    let inside = (c.requires.below _ _ found.0).0 in
    let push = path_pushed c in
    let L : List ℕ → Type 0 = λ xs. LeadsOn graph xs from in
    let base =
    state_at graph n marks marks c.steps.self.path.items c.push.new.self.items c.steps.self.order.items c.steps.self.order.items refl
    (push ∙ sym c.in-Some.ensures.items) refl state in
    let leads = subst L (sym push) (leads_on graph c.pop.new.self.items v from found.0) in
    let next = enter_new graph n marks c.push.new.self.items c.steps.self.order.items from inside found.1 leads base in (
      record {
        state = state_at graph n _ c.enter.new.self.marks.items _ c.enter.new.self.path.items _ c.enter.new.self.order.items (marks_entered c)
            c.in_ok-enter-in-Some-2.ensures.path (c.enter.ensures.order ∙ c.unfinished.ensures.order) next;
        left = left_entered graph marks c.enter.new.self.marks.items (map (λ l. l.items) c.unfinished.new.self.left.items)
            (map (λ l. l.items) c.enter.new.self.left.items) from found.1 (ap (λ (ls : List (Vec ℕ Global)). map (λ l. l.items) ls) c.enter.ensures.left)
            (marks_entered c) c.in_ok-unfinished.ensures.left;
      },
      λ u seen now.
          let U : List Mark → Type 0 = λ ms. mark_at ms u ≡ Unseen in
          let never : Open ≡ Unseen → ⊥ = λ e. cc in
          seen_kept marks from u Open (omega (arith, inside, state.size)) never (c.steps.invariant.1 u seen) (subst U (marks_entered c) now),
    )
