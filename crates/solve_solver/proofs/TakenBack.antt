-- What a conflict leaves, as literals are taken back.
use Rattle.std.proofs.Common.{◌≡◌, ℕ, suc, ◌+◌, ◌-◌, ◌≤◌, Bool, true, List, ◌∷◌, length, if◌then◌else◌, subst, arith}
use Rattle.solve_solver.specs.declared.literal.PLit.{PLit}
use Rattle.solve_solver.specs.declared.trail.Entry.{Entry}
use Rattle.solve_solver.specs.Assignment.{negated}
use Rattle.solve_solver.specs.Dropping.{IsDropped, IsLevelDropped}
use Rattle.solve_solver.specs.Marks.{ForcesMarked, IsRefutedMarked, HasMarks}
use Rattle.solve_solver.specs.Steps.{IsTakenBack}
use Rattle.solve_solver.specs.Trail.{IsTrail}
use Rattle.solve_solver.specs.Work.{pending, tree_size}
use Rattle.solve_solver.proofs.Droppings.{pending-below}
use Rattle.solve_solver.proofs.MarkedTrails.{refuted_forces, refuted_explained}

module _ (Lawful : List Bool → Type 0) (vars : ℕ) where
  -- the latest literal is the only marked one of its level, which goes
  pub point_taken_back : (marks : List Bool) (first second : List Entry) (e : Entry) (es third : List Entry) → second ≡ e ∷ es → IsTrail vars second → IsRefutedMarked Lawful marks second → pending vars second ≤ pending vars first → IsLevelDropped marks vars es third → IsTakenBack Lawful marks vars first third (negated e.literal)
  point_taken_back marks first second e es third is trail refuted no_more gone =
      let here : IsTrail vars (e ∷ es) = rw is at trail in
      let against : IsRefutedMarked Lawful marks (e ∷ es) = rw is at refuted in
      let before : pending vars (e ∷ es) ≤ pending vars first = rw is at no_more in
      record {
        within = here.0;
        unset = gone.dropped.unset e.literal.var here.1.0;
        forced = λ a lawful agrees. refuted_forces Lawful marks e es against a lawful (gone.dropped.agrees a agrees);
        less = omega (arith, gone.less, before, pending-below vars e es);
      }

  -- the latest literal was decided, and goes
  pub decision_taken_back : (marks : List Bool) (first second : List Entry) (e : Entry) (es : List Entry) → second ≡ e ∷ es → e.decided ≡ true → IsTrail vars second → IsRefutedMarked Lawful marks second → pending vars second ≤ pending vars first → IsTakenBack Lawful marks vars first es (negated e.literal)
  decision_taken_back marks first second e es is decided trail refuted no_more =
      let here : IsTrail vars (e ∷ es) = rw is at trail in
      let against : IsRefutedMarked Lawful marks (e ∷ es) = rw is at refuted in
      let before : pending vars (e ∷ es) ≤ pending vars first = rw is at no_more in
      record {
        within = here.0;
        unset = here.1.0;
        forced = refuted_forces Lawful marks e es against;
        less = subst (λ b. (if b then tree_size (vars - suc (length es)) + 1 else 0) + pending vars es ≤ pending vars first) decided before;
      }

  -- the latest literal goes for what it follows from
  pub explained_refuted : (more fewer : List Bool) (second : List Entry) (e : Entry) (es : List Entry) → second ≡ e ∷ es → HasMarks more fewer → ForcesMarked Lawful more es e.literal → IsRefutedMarked Lawful fewer second → IsRefutedMarked Lawful more es
  explained_refuted more fewer second e es is has forced refuted = refuted_explained Lawful more fewer e es has forced (rw is at refuted)

  pub forced_dropped : (marks : List Bool) (second third : List Entry) (l : PLit) → IsDropped marks vars second third → ForcesMarked Lawful marks second l → ForcesMarked Lawful marks third l
  forced_dropped marks second third l gone forced a lawful agrees = forced a lawful (gone.agrees a agrees)

-- one literal less is no more work
pub no_more_below : (vars : ℕ) (first second : List Entry) (e : Entry) (es : List Entry) → second ≡ e ∷ es → pending vars second ≤ pending vars first → pending vars es ≤ pending vars first
no_more_below vars first second e es is no_more =
    let before : pending vars (e ∷ es) ≤ pending vars first = rw is at no_more in
    omega (arith, before, pending-below vars e es)
