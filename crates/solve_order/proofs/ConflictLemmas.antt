-- A path of edges back to the start of a search, and the negative cycle that it closes.
use Rattle.std.proofs.Common.{◌≡◌, ◌≢◌, ◌==◌, ℕ, zero, suc, ◌+◌, ◌-◌, ◌<◌, ◌≤◌, true, false, List, [], ◌∷◌, ◌++◌, length, ℤ, pos, ⊎_elim, refl, sym, ap, ◌∙◌, subst, arith, get_or}
use Rattle.std.specs.List.{All, AllPairs}
use Rattle.std.proofs.lemmas.Int.{ints}
use Rattle.std.proofs.lemmas.Bool.{eqb-true}
use Rattle.std.proofs.lemmas.Bool.Decides.{eqb_tells}
use Rattle.std.proofs.lemmas.List.{length_push, get_or_push, get_or_append_left}
use Rattle.std.proofs.lemmas.List.Elements.{All-contains, All-push, All-get_or, All-from_get_or, All-nil, All-weaker}
use Rattle.std.proofs.lemmas.List.Quantifiers.{all_pairs_push}
use Rattle.std.proofs.lemmas.Map.Keys.{IsDistinct-from_apart}
use Rattle.std.proofs.lemmas.Map.Views.{Contains-from_any}
use Rattle.std.proofs.lemmas.Map.Steps.{length-le_from_distinct_below}
use Rattle.solve_order.specs.declared.diff.Diff.{Diff}
use Rattle.solve_order.specs.declared.frontier.TheConstants.{UNSETTLED}
use Rattle.solve_order.specs.declared.frontier.Reach.{Reach}
use Rattle.solve_order.specs.declared.search.Closing.{Closing}
use Rattle.solve_order.specs.Difference.{value_of}
use Rattle.solve_order.specs.Edges.{literal_at}
use Rattle.solve_order.specs.Reach.{reach_of}
use Rattle.solve_order.specs.Conflict.{IsConflict, IsPath, with_edge}
use Rattle.solve_order.specs.Potential.{Meets}
use Rattle.solve_order.specs.Search.{lowered_value, IsLoweredBy, IsTraced, Closes}

-- different numbers below n are at most n
pub length-le_from_positions : (n : ℕ) (ps : List ℕ) → All (λ p. p < n) ps → AllPairs (λ p q. p ≢ q) ps → length ps ≤ n
length-le_from_positions n ps within once =
    length-le_from_distinct_below ps n
    (IsDistinct-from_apart _ ps (λ i j d a b.
    ⊎_elim
    (λ (h : (get_or ps i d == get_or ps j d ≡ true) × (get_or ps i d ≡ get_or ps j d)). absurd (once i j d a b h.1))
    (λ (h : (get_or ps i d == get_or ps j d ≡ false) × (get_or ps i d ≢ get_or ps j d)). h.0)
    (eqb_tells (get_or ps i d) (get_or ps j d))))
    (λ q h. All-contains (λ p. p < n) ps q within (Contains-from_any eqb-true q ps h))

-- what holds of each position but the last one, and of the last one
All-front : (P : ℕ → Type 0) (ps : List ℕ) (p : ℕ) → All P (ps ++ p ∷ []) → All P ps × P p
All-front P ps p h =
    let n = length_push ps p in
    (All-from_get_or P ps 0 (λ i b. subst P (get_or_append_left ps (p ∷ []) 0 i b) (All-get_or P (ps ++ p ∷ []) i 0 (omega arith) h)), subst P (get_or_push ps p 0 (length ps) refl) (All-get_or P (ps ++ p ∷ []) (length ps) 0 (omega arith) h))

-- one more position, different from all
once_push : (ps : List ℕ) (p : ℕ) → AllPairs (λ p q. p ≢ q) ps → All (λ q. q ≢ p) ps → AllPairs (λ p q. p ≢ q) (ps ++ p ∷ [])
once_push ps p once fresh = all_pairs_push (λ p q. p ≢ q) ps p once (λ k d b. All-get_or (λ q. q ≢ p) ps k d b fresh)

module _ (literals : List Diff) (values : List ℤ) (goal : Diff) (reached : List Reach) (traced : IsTraced literals values goal reached) where
  -- the path of no edge but the closing one
  start_at : (via from : ℕ) (positions : List ℕ) → positions ≡ with_edge [] via → from < length values → (reach_of reached from).rank ≢ UNSETTLED → Closes literals values goal reached from via → IsPath literals values goal reached from positions
  start_at zero from positions e within settled closes =
      subst (IsPath literals values goal reached from) (sym e)
      (record {
        v_within = within;
        settled = settled;
        within = All-nil _;
        once = λ i j d a b. absurd (omega arith);
        behind = All-nil _;
        shorter = λ m h k. closes.implied m h (λ some. absurd (omega arith));
      })
  start_at (suc p) from positions e within settled closes =
      let back : suc p - 1 ≡ p = omega arith in
      let ends : (literal_at literals p).x ≡ goal.y = ap (λ q. (literal_at literals q).x) (sym back) ∙ closes.ends (omega arith) in
      let rank : (reach_of reached (literal_at literals p).x).rank ≡ UNSETTLED = ap (λ u. (reach_of reached u).rank) ends ∙ traced.tail_unsettled in
      let below = traced.ranked from within in
      subst (IsPath literals values goal reached from) (sym e)
      (record {
        v_within = within;
        settled = settled;
        within = All-push (λ q. q < length literals) [] p (All-nil _) (let x = closes.within in omega arith);
        once = once_push [] p (λ i j d a b. absurd (omega arith)) (All-nil _);
        behind = All-push (λ q. (reach_of reached from).rank < (reach_of reached (literal_at literals q).x).rank) [] p (All-nil _) (omega arith);
        shorter = λ m h k. closes.implied m h (λ some. rw back (All-front (λ q. Meets m (literal_at literals q)) [] p k).1);
      })

  pub IsPath-start : (c : Closing) (positions : List ℕ) → positions ≡ with_edge [] c.via → c.from < length values → (reach_of reached c.from).rank ≢ UNSETTLED → Closes literals values goal reached c.from c.via → IsPath literals values goal reached c.from positions
  IsPath-start c positions e within settled closes = start_at c.via c.from positions e within settled closes

  module _ (v : ℕ) (positions : List ℕ) (path : IsPath literals values goal reached v positions) where
    -- the vertex before v was settled before
    pub was_lowered : v ≢ goal.x → IsLoweredBy literals values reached v
    was_lowered ne = traced.lowered_by v path.v_within (traced.settled_lowered v path.v_within path.settled) ne

    from_settled : IsLoweredBy literals values reached v → (reach_of reached (reach_of reached v).from).rank ≢ UNSETTLED
    from_settled by e = let x = by.before in let y = traced.ranked v path.v_within in absurd (omega arith)

    still_behind : IsLoweredBy literals values reached v → All (λ p. (reach_of reached (reach_of reached v).from).rank < (reach_of reached (literal_at literals p).x).rank) positions
    still_behind by =
        All-weaker (λ p. (reach_of reached v).rank < (reach_of reached (literal_at literals p).x).rank) (λ p. (reach_of reached (reach_of reached v).from).rank < (reach_of reached (literal_at literals p).x).rank)
        (λ p h. let x = by.before in omega arith) positions path.behind

    -- the path goes on by the edge that lowered v
    step_by : (via : ℕ) → via ≡ (reach_of reached v).via → IsLoweredBy literals values reached v → IsPath literals values goal reached (reach_of reached v).from (with_edge positions via)
    step_by zero e by = record {
      v_within = by.from_within;
      settled = from_settled by;
      within = path.within;
      once = path.once;
      behind = still_behind by;
      shorter = λ m h k.
          let x = path.shorter m h k in
          let y = by.edge.implied m h (λ some. absurd (omega arith)) in
          omega (arith, ints);
    }
    step_by (suc p) e by =
        let back : (reach_of reached v).via - 1 ≡ p = omega arith in
        let ends : (literal_at literals p).x ≡ v = ap (λ q. (literal_at literals q).x) (sym back) ∙ by.edge.ends (omega arith) in
        let rank : (reach_of reached (literal_at literals p).x).rank ≡ (reach_of reached v).rank = ap (λ u. (reach_of reached u).rank) ends in
        record {
          v_within = by.from_within;
          settled = from_settled by;
          within = All-push (λ q. q < length literals) positions p path.within (let x = by.edge.within in omega arith);
          once = once_push positions p path.once
              (All-weaker (λ q. (reach_of reached v).rank < (reach_of reached (literal_at literals q).x).rank) (λ q. q ≢ p)
              (λ q h same. let x = ap (λ w. (reach_of reached (literal_at literals w).x).rank) same in absurd (omega arith)) positions path.behind);
          behind = All-push (λ q. (reach_of reached (reach_of reached v).from).rank < (reach_of reached (literal_at literals q).x).rank) positions p (still_behind by) (let x = by.before in omega arith);
          shorter = λ m h k.
              let parts = All-front (λ q. Meets m (literal_at literals q)) positions p k in
              let x = path.shorter m h parts.0 in
              let y = by.edge.implied m h (λ some. rw back parts.1) in
              omega (arith, ints);
        }

    pub IsPath-step : (r : Reach) (positions' : List ℕ) → r ≡ reach_of reached v → v ≢ goal.x → positions' ≡ with_edge positions r.via → IsPath literals values goal reached r.from positions'
    IsPath-step r positions' is ne e =
        let by = was_lowered ne in
        let from = ap (λ (q : Reach). q.from) is in
        subst (IsPath literals values goal reached r.from) (sym e)
        (subst (λ u. IsPath literals values goal reached u (with_edge positions r.via)) (sym from) (step_by r.via (ap (λ (q : Reach). q.via) is) by))

    pub path_length : length positions ≤ length literals
    path_length = length-le_from_positions (length literals) positions path.within path.once

    -- the goal closes the path to a negative cycle
    pub IsConflict-path : (variables : ℕ) (positions' : List ℕ) → variables ≡ length values → v ≡ goal.x → positions' ≡ positions ++ length literals ∷ [] → IsConflict (literals ++ goal ∷ []) variables positions'
    IsConflict-path variables positions' same at_start e =
        let all = literals ++ goal ∷ [] in
        let n = length literals in
        let long : length all ≡ n + 1 = length_push literals goal in
        let before : (p : ℕ) → p < n → literal_at all p ≡ literal_at literals p = λ p b. get_or_append_left literals (goal ∷ []) (record { x = 0; y = 0; c = pos 0 }) p b in
        let last : literal_at all n ≡ goal = get_or_push literals goal (record { x = 0; y = 0; c = pos 0 }) n refl in
        subst (λ k. IsConflict all k positions') (sym same)
        (subst (IsConflict all (length values)) (sym e)
        (record {
          within = All-push (λ p. p < length all) positions n (All-weaker (λ p. p < n) (λ p. p < length all) (λ p h. omega arith) positions path.within) (omega arith);
          once = once_push positions n path.once (All-weaker (λ p. p < n) (λ p. p ≢ n) (λ p h. omega arith) positions path.within);
          refutes = λ m h k.
              let parts = All-front (λ q. Meets m (literal_at all q)) positions n k in
              let each : All (λ p. Meets m (literal_at literals p)) positions =
              All-from_get_or (λ p. Meets m (literal_at literals p)) positions 0 (λ i b.
              let p = get_or positions i 0 in
              subst (Meets m) (before p (All-get_or (λ p. p < n) positions i 0 b path.within)) (All-get_or (λ q. Meets m (literal_at all q)) positions i 0 b parts.0))
              in
              let goal_met : Meets m goal = subst (Meets m) last parts.1 in
              let x = path.shorter m h each in
              let y = traced.starts in
              let z = ap (value_of m) at_start in
              let w = ap (lowered_value values reached) at_start in
              absurd (omega (arith, ints));
        }))
