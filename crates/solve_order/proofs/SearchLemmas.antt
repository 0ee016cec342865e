-- What the steps of a search keep, and what stands when it ends.
use Rattle.std.proofs.Common.{◌≡◌, ◌≢◌, ◌==◌, ◌⊎◌, ℕ, ◌-◌, ◌<◌, ◌≤◌, Bool, true, false, cond, List, length, ℤ, pos, ◌+ℤ◌, ◌-ℤ◌, ◌≤ℤ◌, ◌<ℤ◌, slice_set, replicate, inl, inr, ⊎_elim, refl, sym, ap, ◌∙◌, subst, arith}
use Rattle.std.specs.Bool.{OnTrue, OnFalse}
use Rattle.std.proofs.lemmas.Int.{ints, by_lt_z}
use Rattle.std.proofs.lemmas.Bool.{cases_eq, cases_lt}
use Rattle.std.proofs.lemmas.List.{length-set, get_or-replicate, length-replicate}
use Rattle.std.proofs.lemmas.List.Sums.{sum_by-set}
use Rattle.solve_order.specs.declared.diff.Diff.{Diff}
use Rattle.solve_order.specs.declared.frontier.TheConstants.{UNSETTLED}
use Rattle.solve_order.specs.declared.frontier.Reach.{Reach}
use Rattle.solve_order.specs.declared.search.Edge.{Edge}
use Rattle.solve_order.specs.Difference.{value_of}
use Rattle.solve_order.specs.Edges.{literal_at, IsLastFrom}
use Rattle.solve_order.specs.Reach.{unreached, reach_of, SettlesLowest}
use Rattle.solve_order.specs.Potential.{IsAssignment, Meets}
use Rattle.solve_order.specs.Search.{needed, lowered_value, Relaxes, IsEdge, IsMetEdge, lowering_edge, IsLoweredBy, IsTraced, IsFront, Lowers, MeetsEdge, MeetsListedFrom, MeetsLow, MeetsHighBelow, MeetsRangeFrom, IsRelaxing, IsBetween, Closes}
use Rattle.solve_order.proofs.DifferenceLemmas.{IsLiteral}
use Rattle.solve_order.proofs.OrderLemmas.{reach_of-set_same, reach_of-set_other}

pub Lowers-refl : (f : List Reach) → Lowers f f
Lowers-refl f = record { as_long = refl; ranks_stay = λ v. refl; settled_stay = λ v h. refl; lowers = λ v. omega (arith, ints); count_stays = refl }

pub Lowers-trans : (a b c : List Reach) → Lowers a b → Lowers b c → Lowers a c
Lowers-trans a b c h k = record {
  as_long = k.as_long ∙ h.as_long;
  ranks_stay = λ v. k.ranks_stay v ∙ h.ranks_stay v;
  settled_stay = λ v s. k.settled_stay v (λ e. s (sym (h.ranks_stay v) ∙ e)) ∙ h.settled_stay v s;
  lowers = λ v. let x = h.lowers v in let y = k.lowers v in omega (arith, ints);
  count_stays = k.count_stays ∙ h.count_stays;
}

-- one vertex that is not settled is lowered further
module _ (f : List Reach) (v : ℕ) (r : Reach) (within : v < length f) (unsettled : (reach_of f v).rank ≡ UNSETTLED) (rank : r.rank ≡ UNSETTLED) (lower : (reach_of f v).lowered ≤ℤ r.lowered) where
  set_same : reach_of (slice_set f v r) v ≡ r
  set_same = reach_of-set_same f v r within

  set_other : (u : ℕ) → u ≢ v → reach_of (slice_set f v r) u ≡ reach_of f u
  set_other u ne = reach_of-set_other f v u r ne

  set_at : (u : ℕ) → u ≡ v → reach_of (slice_set f v r) u ≡ r
  set_at u e = ap (reach_of (slice_set f v r)) e ∙ set_same

  set_rank : (u : ℕ) → (reach_of (slice_set f v r) u).rank ≡ (reach_of f u).rank
  set_rank u =
      ⊎_elim
      (λ (e : u ≡ v). ap (λ (q : Reach). q.rank) (set_at u e) ∙ rank ∙ sym unsettled ∙ ap (λ w. (reach_of f w).rank) (sym e))
      (λ (ne : u ≢ v). ap (λ (q : Reach). q.rank) (set_other u ne))
      (cases_eq u v)

  settled_other : (u : ℕ) → (reach_of f u).rank ≢ UNSETTLED → u ≢ v
  settled_other u s e = s (ap (λ w. (reach_of f w).rank) e ∙ unsettled)

  pub Lowers-set : Lowers f (slice_set f v r)
  Lowers-set = record {
    as_long = length-set f v r;
    ranks_stay = set_rank;
    settled_stay = λ u s. set_other u (settled_other u s);
    lowers = λ u.
        ⊎_elim
        (λ (e : u ≡ v). let x = ap (λ (q : Reach). q.lowered) (set_at u e) in let y = ap (λ w. (reach_of f w).lowered) e in omega (arith, ints))
        (λ (ne : u ≢ v). let x = ap (λ (q : Reach). q.lowered) (set_other u ne) in omega (arith, ints))
        (cases_eq u v);
    count_stays =
        let s = sum_by-set (λ (q : Reach). cond (q.rank == UNSETTLED) 1 0) f v r unreached within in
        let weight : ℕ → ℕ = λ n. cond (n == UNSETTLED) 1 0 in
        let x : weight (reach_of f v).rank ≡ weight r.rank = ap weight (unsettled ∙ sym rank) in
        omega arith;
  }

module _ (literals : List Diff) (values : List ℤ) (goal : Diff) where
  -- what was lowered by an edge still is, while only unsettled vertices are lowered
  kept_reason : (f g : List Reach) → Lowers f g → (v : ℕ) → v < length values → reach_of g v ≡ reach_of f v → ((u : ℕ) → u < length values → (reach_of f u).rank ≤ UNSETTLED) → IsLoweredBy literals values f v → IsLoweredBy literals values g v
  kept_reason f g low v within same ranked h =
      let from = (reach_of f v).from in
      let r = ranked v within in
      let settled : (reach_of f from).rank ≢ UNSETTLED = λ e. let x = h.before in absurd (omega arith) in
      let stays = low.settled_stay from settled in
      let edge : lowering_edge values g v ≡ lowering_edge values f v =
      ap (λ (q : Reach). record { from = q.from; to = v; bound = (value_of values v -ℤ q.lowered) -ℤ lowered_value values g q.from; via = q.via }) same ∙
      ap (λ (q : Reach). record { from = from; to = v; bound = lowered_value values f v -ℤ (value_of values from -ℤ q.lowered); via = (reach_of f v).via }) stays
      in
      record {
        from_within = rw same h.from_within;
        before = rw (same, stays) h.before;
        edge = subst (λ e. IsEdge literals (length values) e) (sym edge) h.edge;
      }

  -- the end of an edge is lowered
  module _ (f g : List Reach) (e : Edge) (traced : IsTraced literals values goal f) (front : IsFront (length values) f e.from) (met : IsMetEdge literals values e) where
    lower_step : reach_of g goal.y ≡ reach_of f goal.y → (reach_of f e.to).lowered <ℤ needed values f e → (reach_of f e.to).rank ≡ UNSETTLED → g ≡ slice_set f e.to (record { lowered = needed values f e; rank = UNSETTLED; from = e.from; via = e.via }) → Lowers f g × IsTraced literals values goal g × IsFront (length values) g e.from × lowered_value values g e.to ≤ℤ (lowered_value values g e.from +ℤ e.bound)
    lower_step tail_stays more unsettled changed =
        let to_within = met.to_within in
        let slack = met.met in
        let edge = met.edge in
        let to = e.to in
        let from = e.from in
        let r : Reach = record { lowered = needed values f e; rank = UNSETTLED; from = from; via = e.via } in
        let long = traced.as_long in
        let within : to < length f = omega arith in
        let low : Lowers f g = subst (λ h. Lowers f h) (sym changed) (Lowers-set f to r within unsettled refl (omega (arith, ints))) in
        let at_to : reach_of g to ≡ r = ap (λ h. reach_of h to) changed ∙ reach_of-set_same f to r within in
        let at_other : (u : ℕ) → u ≢ to → reach_of g u ≡ reach_of f u = λ u ne. ap (λ h. reach_of h u) changed ∙ reach_of-set_other f to u r ne in
        let from_stays = low.settled_stay from front.settled in
        let to_lowered : (reach_of g to).lowered ≡ needed values f e = ap (λ (q : Reach). q.lowered) at_to in
        let from_lowered : (reach_of g from).lowered ≡ (reach_of f from).lowered = ap (λ (q : Reach). q.lowered) from_stays in
        let start_settled = traced.started from front.within front.settled in
        let from_bounded = traced.bounded from front.within in
        let to_not_negative = traced.not_negative to to_within in
        let from_rank = traced.ranked from front.within in
        let made : Reach → Edge = λ q. record { from = q.from; to = to; bound = (value_of values to -ℤ q.lowered) -ℤ lowered_value values g q.from; via = q.via } in
        let bound_is : (value_of values to -ℤ needed values f e) -ℤ lowered_value values g from ≡ e.bound = omega (arith, ints) in (
          low,
          record {
            as_long = low.as_long ∙ long;
            starts = ap (λ (q : Reach). value_of values goal.x -ℤ q.lowered) (low.settled_stay goal.x start_settled) ∙ traced.starts;
            started = λ v h s k. start_settled (sym (low.ranks_stay goal.x) ∙ k);
            settled_lowered = λ v h s.
                let was : (reach_of f v).rank ≢ UNSETTLED = λ k. s (low.ranks_stay v ∙ k) in
                let x = ap (λ (q : Reach). q.lowered) (low.settled_stay v was) in
                let y = traced.settled_lowered v h was in
                omega (arith, ints);
            tail_stays = ap (λ (q : Reach). q.lowered) tail_stays ∙ traced.tail_stays;
            tail_unsettled = low.ranks_stay goal.y ∙ traced.tail_unsettled;
            not_negative = λ v h. let x = low.lowers v in let y = traced.not_negative v h in omega (arith, ints);
            bounded = λ v h.
                ⊎_elim
                (λ (same : v ≡ to). let x = ap (λ u. (reach_of g u).lowered) same in omega (arith, ints))
                (λ (ne : v ≢ to). let x = ap (λ (q : Reach). q.lowered) (at_other v ne) in let y = traced.bounded v h in omega (arith, ints))
                (cases_eq v to);
            ranked = λ v h. let x = low.ranks_stay v in let y = traced.ranked v h in omega arith;
            lowered_by = λ v h some ne.
                ⊎_elim
                (λ (same : v ≡ to).
                subst (λ u. IsLoweredBy literals values g u) (sym same)
                (record {
                  from_within = rw at_to front.within;
                  before =
                      let a = ap (λ (q : Reach). (reach_of g q.from).rank) at_to in
                      let b = ap (λ (q : Reach). q.rank) at_to in
                      let k = low.ranks_stay from in
                      let apart = front.settled in
                      omega arith;
                  edge = subst (λ d. IsEdge literals (length values) d) {x = e} (sym (ap made at_to ∙ ap (λ b. record { from = from; to = to; bound = b; via = e.via }) bound_is)) edge;
                }))
                (λ (other : v ≢ to).
                let stays = at_other v other in
                kept_reason f g low v h stays traced.ranked (traced.lowered_by v h (let x = ap (λ (q : Reach). q.lowered) stays in omega (arith, ints)) ne))
                (cases_eq v to);
          },
          record {
            within = front.within;
            settled = λ k. front.settled (sym (low.ranks_stay from) ∙ k);
            above = λ v h s.
                let was : (reach_of f v).rank ≢ UNSETTLED = λ k. s (low.ranks_stay v ∙ k) in
                let x = ap (λ (q : Reach). q.lowered) (low.settled_stay v was) in
                let y = front.above v h was in
                omega (arith, ints);
            below = λ v h s.
                ⊎_elim
                (λ (same : v ≡ to). let x = ap (λ u. (reach_of g u).lowered) same in omega (arith, ints))
                (λ (ne : v ≢ to). let x = ap (λ (q : Reach). q.lowered) (at_other v ne) in let y = front.below v h (sym (low.ranks_stay v) ∙ s) in omega (arith, ints))
                (cases_eq v to);
          },
          omega (arith, ints),
        )

    relax_step : reach_of g goal.y ≡ reach_of f goal.y → Relaxes values e f g → Lowers f g × IsTraced literals values goal g × IsFront (length values) g e.from × lowered_value values g e.to ≤ℤ (lowered_value values g e.from +ℤ e.bound)
    relax_step tail_stays =
        ⊎_elim
        (λ (kept : (needed values f e ≤ℤ (reach_of f e.to).lowered) × (g ≡ f)).
        subst (λ h. Lowers f h × IsTraced literals values goal h × IsFront (length values) h e.from × lowered_value values h e.to ≤ℤ (lowered_value values h e.from +ℤ e.bound)) (sym kept.1)
        (Lowers-refl f, traced, front, let x = kept.0 in let y = met.met in omega (arith, ints)))
        (λ (lowered : ((reach_of f e.to).lowered <ℤ needed values f e) × ((reach_of f e.to).rank ≡ UNSETTLED) × (g ≡ slice_set f e.to (record { lowered = needed values f e; rank = UNSETTLED; from = e.from; via = e.via }))).
        lower_step tail_stays lowered.0 lowered.1 lowered.2)

    -- a settled vertex is lowered as far as each edge from a vertex that was settled later asks
    pub settled_stay : (reach_of f e.to).rank ≢ UNSETTLED → needed values f e ≤ℤ (reach_of f e.to).lowered
    settled_stay settled = let x = front.above e.to met.to_within settled in let y = met.met in omega (arith, ints)

    -- an edge asks that the tail of the goal be lowered
    closes : e.to ≡ goal.y → (reach_of f goal.y).lowered <ℤ needed values f e → Closes literals values goal f e.from e.via
    closes same more = record {
      implied = λ m h k.
          let x = met.edge.implied m h k in
          let y = traced.tail_stays in
          let z = ap (value_of m) same in
          let w = ap (value_of values) same in
          omega (arith, ints);
      within = met.edge.within;
      ends = λ some. met.edge.ends some ∙ same;
    }

    pub relaxing_after : (b : Bool) → OnTrue b (g ≡ f) → OnFalse b (reach_of g goal.y ≡ reach_of f goal.y) → OnFalse b (Relaxes values e f g) → IsRelaxing literals values goal g e.from
    relaxing_after true stays tail_stays relaxed = subst (λ h. IsRelaxing literals values goal h e.from) (sym stays) (record { traced = traced; front = front })
    relaxing_after false stays tail_stays relaxed = let step = relax_step tail_stays relaxed in record { traced = step.1; front = step.2 }

    pub lowers_after : (b : Bool) → OnTrue b (g ≡ f) → OnFalse b (reach_of g goal.y ≡ reach_of f goal.y) → OnFalse b (Relaxes values e f g) → Lowers f g
    lowers_after true stays tail_stays relaxed = subst (λ h. Lowers f h) (sym stays) (Lowers-refl f)
    lowers_after false stays tail_stays relaxed = (relax_step tail_stays relaxed).0

    pub met_after : (b : Bool) → OnFalse b (reach_of g goal.y ≡ reach_of f goal.y) → OnFalse b (Relaxes values e f g) → OnFalse b (MeetsEdge values g e)
    met_after true tail_stays relaxed = tt
    met_after false tail_stays relaxed = (relax_step tail_stays relaxed).3

    pub closes_after : (b : Bool) → OnTrue b (g ≡ f) → OnTrue b ((e.to ≡ goal.y) × ((reach_of f goal.y).lowered <ℤ needed values f e)) → OnTrue b (Closes literals values goal g e.from e.via)
    closes_after true stays closing = subst (λ h. Closes literals values goal h e.from e.via) (sym stays) (closes closing.0 closing.1)
    closes_after false stays closing = tt

  -- what an edge from a settled vertex asks stays met
  pub MeetsListedFrom-kept : (f g : List Reach) (p s : ℕ) → Lowers f g → (reach_of f s).rank ≢ UNSETTLED → MeetsListedFrom literals values f p s → MeetsListedFrom literals values g p s
  MeetsListedFrom-kept f g p s low settled h k b1 b2 b3 =
      let x = h k b1 b2 b3 in
      let y = ap (λ (q : Reach). q.lowered) (low.settled_stay s settled) in
      let z = low.lowers (literal_at literals k).x in
      omega (arith, ints)

  pub MeetsLow-kept : (f g : List Reach) (s : ℕ) → Lowers f g → (reach_of f s).rank ≢ UNSETTLED → MeetsLow values f s → MeetsLow values g s
  MeetsLow-kept f g s low settled h =
      let y = ap (λ (q : Reach). q.lowered) (low.settled_stay s settled) in
      let z = low.lowers 0 in
      omega (arith, ints)

  pub MeetsHighBelow-kept : (f g : List Reach) (n : ℕ) → Lowers f g → (reach_of f 0).rank ≢ UNSETTLED → MeetsHighBelow n values f → MeetsHighBelow n values g
  MeetsHighBelow-kept f g n low settled h v b =
      let y = ap (λ (q : Reach). q.lowered) (low.settled_stay 0 settled) in
      let x = h v b in
      let z = low.lowers v in
      omega (arith, ints)

  pub MeetsRangeFrom-kept : (f g : List Reach) (s : ℕ) → Lowers f g → (reach_of f s).rank ≢ UNSETTLED → MeetsRangeFrom values f s → MeetsRangeFrom values g s
  MeetsRangeFrom-kept f g s low settled h = record {
    low = MeetsLow-kept f g s low settled h.low;
    high = λ e. MeetsHighBelow-kept f g (length values) low (λ k. settled (ap (λ u. (reach_of f u).rank) e ∙ k)) (h.high e);
  }

-- one literal more is met, the next one before those from p on that leads from s
pub MeetsListedFrom-more : (literals : List Diff) (values : List ℤ) (f : List Reach) (via s last : ℕ) (l : Diff) → 0 < via → l ≡ literal_at literals (via - 1) → (literal_at literals (via - 1)).y ≡ s → IsLastFrom literals (via - 1) (literal_at literals (via - 1)).y last → MeetsListedFrom literals values f via s → lowered_value values f l.x ≤ℤ (lowered_value values f s +ℤ l.c) → MeetsListedFrom literals values f last s
MeetsListedFrom-more literals values f via s last l some is leads link met here k b1 b2 b3 =
    ⊎_elim
    (λ (a : k < via - 1). absurd (link.none_after k b1 a (b3 ∙ sym leads)))
    (λ (a : via - 1 ≤ k).
    ⊎_elim
    (λ (same : k ≡ via - 1).
    let x : literal_at literals k ≡ l = ap (literal_at literals) same ∙ sym is in
    rw x here)
    (λ (ne : k ≢ via - 1). met k (omega arith) b2 b3)
    (cases_eq k (via - 1)))
    (cases_lt k (via - 1))

-- ---- between two vertices

module _ (literals : List Diff) (values : List ℤ) (goal : Diff) where
  -- the first variable of the goal is lowered until it meets the goal
  pub IsBetween-start : (f : List Reach) (r : Reach) → IsAssignment (length values) values → IsLiteral (length values) goal → goal.x ≢ goal.y → ¬ Meets values goal → f ≡ slice_set (replicate (length values) unreached) goal.x r → r.lowered ≡ value_of values goal.x -ℤ (value_of values goal.y +ℤ goal.c) → r.rank ≡ UNSETTLED → IsBetween literals values goal f
  IsBetween-start f r given fits apart broken changed lowered rank =
      let n = length values in
      let fresh = replicate n unreached in
      let none : (v : ℕ) → v < n → reach_of fresh v ≡ unreached = λ v h. get_or-replicate n v unreached unreached h in
      let long : length fresh ≡ n = length-replicate n unreached in
      let x_within = fits.x_within in
      let at_x : reach_of f goal.x ≡ r = ap (λ h. reach_of h goal.x) changed ∙ reach_of-set_same fresh goal.x r (omega arith) in
      let other : (v : ℕ) → v ≢ goal.x → v < n → reach_of f v ≡ unreached =
      λ v ne h. ap (λ g. reach_of g v) changed ∙ reach_of-set_other fresh goal.x v r ne ∙ none v h
      in
      let more : pos 0 <ℤ r.lowered =
      by_lt_z (value_of values goal.y +ℤ goal.c) (value_of values goal.x) (λ h. omega (arith, ints)) (λ h. absurd (broken h))
      in
      let unsettled : (v : ℕ) → v < n → (reach_of f v).rank ≡ UNSETTLED =
      λ v h. ⊎_elim
      (λ (e : v ≡ goal.x). ap (λ u. (reach_of f u).rank) e ∙ ap (λ (q : Reach). q.rank) at_x ∙ rank)
      (λ (ne : v ≢ goal.x). ap (λ (q : Reach). q.rank) (other v ne h))
      (cases_eq v goal.x)
      in
      let amount : (v : ℕ) → v < n → ((v ≡ goal.x) × ((reach_of f v).lowered ≡ r.lowered)) ⊎ ((v ≢ goal.x) × ((reach_of f v).lowered ≡ pos 0)) =
      λ v h. ⊎_elim
      (λ (e : v ≡ goal.x). inl (e, ap (λ u. (reach_of f u).lowered) e ∙ ap (λ (q : Reach). q.lowered) at_x))
      (λ (ne : v ≢ goal.x). inr (ne, ap (λ (q : Reach). q.lowered) (other v ne h)))
      (cases_eq v goal.x)
      in
      let y_not_x : goal.y ≢ goal.x = λ e. apart (sym e) in
      let tail = other goal.y y_not_x fits.y_within in
      let x_low = given.low goal.x x_within in
      let x_high = given.high goal.x x_within in
      let y_low = given.low goal.y fits.y_within in
      let y_high = given.high goal.y fits.y_within in
      let c_low = fits.low in
      record {
        traced = record {
          as_long = ap length changed ∙ length-set fresh goal.x r ∙ long;
          starts = let x = ap (λ (q : Reach). q.lowered) at_x in omega (arith, ints);
          started = λ v h s. absurd (s (unsettled v h));
          settled_lowered = λ v h s. absurd (s (unsettled v h));
          tail_stays = ap (λ (q : Reach). q.lowered) tail;
          tail_unsettled = ap (λ (q : Reach). q.rank) tail;
          not_negative = λ v h. ⊎_elim
              (λ (a : (v ≡ goal.x) × ((reach_of f v).lowered ≡ r.lowered)). omega (arith, ints))
              (λ (a : (v ≢ goal.x) × ((reach_of f v).lowered ≡ pos 0)). let x = a.1 in omega (arith, ints))
              (amount v h);
          bounded = λ v h. ⊎_elim
              (λ (a : (v ≡ goal.x) × ((reach_of f v).lowered ≡ r.lowered)). omega (arith, ints))
              (λ (a : (v ≢ goal.x) × ((reach_of f v).lowered ≡ pos 0)). let x = a.1 in omega (arith, ints))
              (amount v h);
          ranked = λ v h. let x = unsettled v h in omega arith;
          lowered_by = λ v h some ne. absurd (let x = ap (λ (q : Reach). q.lowered) (other v ne h) in omega (arith, ints));
        };
        level = λ u v h k s. absurd (s (unsettled u h));
        listed_met = λ v h s. absurd (s (unsettled v h));
        range_met = λ v h s. absurd (s (unsettled v h));
      }

  -- v is settled
  module _ (f g : List Reach) (v : ℕ) (between : IsBetween literals values goal f) (settles : SettlesLowest f g v) where
    settled_as : Reach
    settled_as = record (reach_of f v) { rank = (reach_of g v).rank }

    v_within : v < length values
    v_within = let x = settles.within in let y = between.traced.as_long in omega arith

    at_v : reach_of g v ≡ settled_as
    unfolding settled_as
    at_v = ap (λ h. reach_of h v) settles.settled ∙ reach_of-set_same f v settled_as settles.within

    at_other : (u : ℕ) → u ≢ v → reach_of g u ≡ reach_of f u
    at_other u ne = ap (λ h. reach_of h u) settles.settled ∙ reach_of-set_other f v u (record (reach_of f v) { rank = (reach_of g v).rank }) ne

    same_but_rank : {A : Type 0} (part : Reach → A) → part settled_as ≡ part (reach_of f v) → (u : ℕ) → part (reach_of g u) ≡ part (reach_of f u)
    same_but_rank part e u =
        ⊎_elim
        (λ (same : u ≡ v). ap (λ w. part (reach_of g w)) same ∙ ap part at_v ∙ e ∙ ap (λ w. part (reach_of f w)) (sym same))
        (λ (ne : u ≢ v). ap part (at_other u ne))
        (cases_eq u v)

    settle_lowered : (u : ℕ) → (reach_of g u).lowered ≡ (reach_of f u).lowered
    unfolding settled_as
    settle_lowered = same_but_rank (λ q. q.lowered) refl

    settle_from : (u : ℕ) → (reach_of g u).from ≡ (reach_of f u).from
    unfolding settled_as
    settle_from = same_but_rank (λ q. q.from) refl

    settle_via : (u : ℕ) → (reach_of g u).via ≡ (reach_of f u).via
    unfolding settled_as
    settle_via = same_but_rank (λ q. q.via) refl

    settle_value : (u : ℕ) → lowered_value values g u ≡ lowered_value values f u
    settle_value u = ap (λ z. value_of values u -ℤ z) (settle_lowered u)

    settle_edge : (u : ℕ) → lowering_edge values g u ≡ lowering_edge values f u
    settle_edge u =
        let bound : lowered_value values g u -ℤ lowered_value values g (reach_of g u).from ≡ lowered_value values f u -ℤ lowered_value values f (reach_of f u).from =
        ap (λ z. z -ℤ lowered_value values g (reach_of g u).from) (settle_value u) ∙
        ap (λ w. lowered_value values f u -ℤ lowered_value values g w) (settle_from u) ∙
        ap (λ z. lowered_value values f u -ℤ z) (settle_value (reach_of f u).from)
        in
        ap (λ (z : ℤ). record { from = (reach_of g u).from; to = u; bound = z; via = (reach_of g u).via }) bound ∙
        ap (λ (w : ℕ). record { from = w; to = u; bound = lowered_value values f u -ℤ lowered_value values f (reach_of f u).from; via = (reach_of g u).via }) (settle_from u) ∙
        ap (λ (w : ℕ). record { from = (reach_of f u).from; to = u; bound = lowered_value values f u -ℤ lowered_value values f (reach_of f u).from; via = w }) (settle_via u)

    -- the vertex that lowered another was settled before
    from_settled : (u : ℕ) → u < length values → IsLoweredBy literals values f u → (reach_of f (reach_of f u).from).rank ≢ UNSETTLED
    from_settled u h by e = let x = by.before in let y = between.traced.ranked u h in absurd (omega arith)

    not_v : (u : ℕ) → (reach_of f u).rank ≢ UNSETTLED → u ≢ v
    not_v u s e = s (ap (λ w. (reach_of f w).rank) e ∙ settles.waited)

    start_settled : (reach_of g goal.x).rank ≢ UNSETTLED
    start_settled e =
        ⊎_elim
        (λ (same : v ≡ goal.x). let x = ap (λ w. (reach_of g w).rank) same in let y = settles.ranked in absurd (omega arith))
        (λ (ne : v ≢ goal.x).
        let by = between.traced.lowered_by v v_within settles.lowered ne in
        let s = between.traced.started (reach_of f v).from by.from_within (from_settled v v_within by) in
        s (sym (ap (λ (q : Reach). q.rank) (at_other goal.x (λ k. ne (sym k)))) ∙ e))
        (cases_eq v goal.x)

    tail_not_v : goal.y ≢ v
    tail_not_v e = let x = ap (λ w. (reach_of f w).lowered) e in let y = between.traced.tail_stays in let z = settles.lowered in absurd (omega (arith, ints))

    pub settle_step : IsRelaxing literals values goal g v
    settle_step =
        let t = between.traced in
        record {
          traced = record {
            as_long = ap length settles.settled ∙ length-set f v (record (reach_of f v) { rank = (reach_of g v).rank }) ∙ t.as_long;
            starts = settle_value goal.x ∙ t.starts;
            started = λ u h s. start_settled;
            settled_lowered = λ u h s.
                let x = settle_lowered u in
                ⊎_elim
                (λ (same : u ≡ v). let y = ap (λ w. (reach_of f w).lowered) same in let z = settles.lowered in omega (arith, ints))
                (λ (ne : u ≢ v). let y = t.settled_lowered u h (λ k. s (ap (λ (q : Reach). q.rank) (at_other u ne) ∙ k)) in omega (arith, ints))
                (cases_eq u v);
            tail_stays = settle_lowered goal.y ∙ t.tail_stays;
            tail_unsettled = ap (λ (q : Reach). q.rank) (at_other goal.y tail_not_v) ∙ t.tail_unsettled;
            not_negative = λ u h. let x = settle_lowered u in let y = t.not_negative u h in omega (arith, ints);
            bounded = λ u h. let x = settle_lowered u in let y = t.bounded u h in omega (arith, ints);
            ranked = λ u h.
                ⊎_elim
                (λ (same : u ≡ v). let x = ap (λ w. (reach_of g w).rank) same in let y = settles.ranked in omega arith)
                (λ (ne : u ≢ v). let x = ap (λ (q : Reach). q.rank) (at_other u ne) in let y = t.ranked u h in omega arith)
                (cases_eq u v);
            lowered_by = λ u h some ne.
                let by = t.lowered_by u h (let x = settle_lowered u in omega (arith, ints)) ne in
                let from = (reach_of f u).from in
                let from_is = settle_from u in
                let s = from_settled u h by in
                let from_rank : (reach_of g (reach_of g u).from).rank ≡ (reach_of f from).rank = ap (λ w. (reach_of g w).rank) from_is ∙ ap (λ (q : Reach). q.rank) (at_other from (not_v from s)) in
                record {
                  from_within = let x = by.from_within in omega arith;
                  before =
                      ⊎_elim
                      (λ (same : u ≡ v).
                      let x = ap (λ w. (reach_of g w).rank) same in
                      let y = settles.after from (let z = by.from_within in let w = t.as_long in omega arith) s in
                      omega arith)
                      (λ (other : u ≢ v). let x = ap (λ (q : Reach). q.rank) (at_other u other) in let y = by.before in omega arith)
                      (cases_eq u v);
                  edge = subst (λ e. IsEdge literals (length values) e) (sym (settle_edge u)) by.edge;
                };
          };
          front = record {
            within = v_within;
            settled = λ e. let x = settles.ranked in absurd (omega arith);
            above = λ u h s.
                let x = settle_lowered u in
                let y = settle_lowered v in
                ⊎_elim
                (λ (same : u ≡ v). let z = ap (λ w. (reach_of g w).lowered) same in omega (arith, ints))
                (λ (ne : u ≢ v).
                let was : (reach_of f u).rank ≢ UNSETTLED = λ k. s (ap (λ (q : Reach). q.rank) (at_other u ne) ∙ k) in
                let z = between.level u v h v_within was settles.waited in
                omega (arith, ints))
                (cases_eq u v);
            below = λ u h s.
                let x = settle_lowered u in
                let y = settle_lowered v in
                ⊎_elim
                (λ (same : u ≡ v). let z = ap (λ w. (reach_of g w).lowered) same in omega (arith, ints))
                (λ (ne : u ≢ v).
                let z = settles.lowest u (let w = between.traced.as_long in omega arith) (sym (ap (λ (q : Reach). q.rank) (at_other u ne)) ∙ s) in
                omega (arith, ints))
                (cases_eq u v);
          };
        }

    -- the edges from v are relaxed
    pub IsBetween-relaxed : (h : List Reach) → Lowers g h → IsRelaxing literals values goal h v → MeetsListedFrom literals values h 0 v → MeetsRangeFrom values h v → IsBetween literals values goal h
    IsBetween-relaxed h low relaxing listed range =
        let was_settled : (u : ℕ) → u ≢ v → (reach_of h u).rank ≢ UNSETTLED → (reach_of f u).rank ≢ UNSETTLED =
        λ u ne s k. s (low.ranks_stay u ∙ ap (λ (q : Reach). q.rank) (at_other u ne) ∙ k)
        in
        let is_settled : (u : ℕ) → (reach_of h u).rank ≢ UNSETTLED → (reach_of g u).rank ≢ UNSETTLED = λ u s k. s (low.ranks_stay u ∙ k) in
        record {
          traced = relaxing.traced;
          level = λ u w hu hw s k. let x = relaxing.front.above u hu s in let y = relaxing.front.below w hw k in omega (arith, ints);
          listed_met = λ u hu s.
              ⊎_elim
              (λ (same : u ≡ v). subst (λ w. MeetsListedFrom literals values h 0 w) (sym same) listed)
              (λ (ne : u ≢ v).
              MeetsListedFrom-kept literals values goal g h 0 u low (is_settled u s)
              (λ k b1 b2 b3. let x = between.listed_met u hu (was_settled u ne s) k b1 b2 b3 in let y = settle_value u in let z = settle_value (literal_at literals k).x in omega (arith, ints)))
              (cases_eq u v);
          range_met = λ u hu s.
              ⊎_elim
              (λ (same : u ≡ v). subst (λ w. MeetsRangeFrom values h w) (sym same) range)
              (λ (ne : u ≢ v).
              let was = between.range_met u hu (was_settled u ne s) in
              MeetsRangeFrom-kept literals values goal g h u low (is_settled u s)
              (record {
                low = let x = was.low in let y = settle_value 0 in let z = settle_value u in omega (arith, ints);
                high = λ e w b. let x = was.high e w b in let y = settle_value 0 in let z = settle_value w in omega (arith, ints);
              }))
              (cases_eq u v);
        }
