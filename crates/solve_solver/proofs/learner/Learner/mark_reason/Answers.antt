use Rattle.std.proofs.Common.{◌≡◌, false, length, drop, MatchOption, subst, ap, arith}
use Rattle.std.specs.Bool.{OnTrue}
use Rattle.std.specs.List.{slice_get}
use Rattle.std.proofs.lemmas.List.{take_at}
use Rattle.std.proofs.lemmas.List.Elements.{All-contains}
use Rattle.solve_solver.specs.Clauses.{IsWithin}
use Rattle.solve_solver.specs.Learned.{clause_of, learned_list}
use Rattle.solve_solver.specs.LearnerView.{LearnerView}
use Rattle.solve_solver.specs.Marks.{IsBackedMarked, IsEntailed, IsMarkedBy}
use Rattle.solve_solver.specs.ContextView.{Lawful}
use Rattle.solve_solver.proofs.Entailment.{OnTrue-weaker}
use Rattle.solve_solver.proofs.LearnedClauses.{clause_of-there}
use Rattle.solve_solver.proofs.MarkedTrails.{IsBackedMarked-clause}
use Rattle.solve_solver.proofs.learner.Learner.mark_reason.Goals as goal

pub returns-in-Given-clause-marked : goal.returns-in-Given-clause-marked
returns-in-Given-clause-marked g c =
    let T = g.T.Theory in
    let marks = c.self.inside.marks in
    let back = take_at c.mark_clause.new.marks (drop (length c.mark_clause.new.marks) marks.items) marks.len (omega (arith, ap length c.as_mut_slice.ensures.value, c.mark_clause.auto.marks, marks.ok.0)) in
    rw back
    (subst (λ (v : LearnerView _ _). OnTrue c.mark_clause.result (IsBackedMarked (Lawful T.models T.meets v.state) c.mark_clause.new.marks v.state.entries c.args.literal)) c.self.view_is
    c.mark_clause.ensures.shown)

pub returns-in-Some-clause-marked : goal.returns-in-Some-clause-marked
returns-in-Some-clause-marked g c =
    let T = g.T.Theory in
    let marks = c.self.inside.marks in
    let s = c.self.inside.state in
    let back = take_at c.mark_clause-in-Some.new.marks (drop (length c.mark_clause-in-Some.new.marks) marks.items) marks.len (omega (arith, ap length c.as_mut_slice-in-Some.ensures.value, c.mark_clause-in-Some.auto.marks, marks.ok.0)) in
    let entailed = All-contains (IsEntailed (Lawful T.models T.meets s)) (learned_list c.self.inside.learned) c.in-Some.clause.now c.self.invariant.entailed (clause_of-there c.self.inside.learned c.in-Learned.slot c.in-Some.clause.now c.in-Some.ensures) in
    rw back
    (subst (λ (v : LearnerView _ _). OnTrue c.mark_clause-in-Some.result (IsBackedMarked (Lawful T.models T.meets v.state) c.mark_clause-in-Some.new.marks v.state.entries c.args.literal)) c.self.view_is
    (OnTrue-weaker c.mark_clause-in-Some.result
    (λ marked. IsBackedMarked-clause (Lawful T.models T.meets s) c.mark_clause-in-Some.new.marks s.entries c.args.literal c.in-Some.clause.now entailed (rw (← c.trail-trail.ensures.entries) marked))
    c.mark_clause-in-Some.ensures.marked))

pub returns-in-Given-clause-by : goal.returns-in-Given-clause-by
returns-in-Given-clause-by g c =
    let marks = c.self.inside.marks in
    let new = c.mark_clause.new.marks in
    let shown = c.mark_clause.result in
    let back = take_at new (drop (length new) marks.items) marks.len (omega (arith, ap length c.as_mut_slice.ensures.value, c.mark_clause.auto.marks, marks.ok.0)) in
    rw (back, c.in-Given.is)
    (subst (λ (v : LearnerView _ _). MatchOption (slice_get v.state.clauses c.in-Given.index) ((shown ≡ false) × (new ≡ v.marks)) (λ clause. IsMarkedBy v.state.entries c.args.literal clause v.marks new shown)) c.self.view_is
    (subst (λ old. MatchOption (slice_get c.self.inside.state.clauses c.in-Given.index) ((shown ≡ false) × (new ≡ old)) (λ clause. IsMarkedBy c.self.inside.state.entries c.args.literal clause old new shown)) c.as_mut_slice.ensures.value c.mark_clause.ensures.by))

pub returns-in-Some-clause-by : goal.returns-in-Some-clause-by
returns-in-Some-clause-by g c =
    let marks = c.self.inside.marks in
    let new = c.mark_clause-in-Some.new.marks in
    let shown = c.mark_clause-in-Some.result in
    let clause = c.in-Some.clause.now in
    let back = take_at new (drop (length new) marks.items) marks.len (omega (arith, ap length c.as_mut_slice-in-Some.ensures.value, c.mark_clause-in-Some.auto.marks, marks.ok.0)) in
    let here = subst (λ es. IsMarkedBy es c.args.literal clause c.as_mut_slice-in-Some.result.now new shown) c.trail-trail.ensures.entries c.mark_clause-in-Some.ensures in
    let from = subst (λ old. IsMarkedBy c.self.inside.state.entries c.args.literal clause old new shown) c.as_mut_slice-in-Some.ensures.value here in
    rw (back, c.in-Learned.is)
    (subst (λ (v : LearnerView _ _). MatchOption (clause_of v.learned c.in-Learned.slot) ((shown ≡ false) × (new ≡ v.marks)) (λ x. IsMarkedBy v.state.entries c.args.literal x v.marks new shown)) c.self.view_is
    (subst (λ o. MatchOption o ((shown ≡ false) × (new ≡ marks.items)) (λ x. IsMarkedBy c.self.inside.state.entries c.args.literal x marks.items new shown)) c.in-Some.ensures from))

pub mark_clause-requires-in-Some-clause-within : goal.mark_clause-requires-in-Some-clause-within
mark_clause-requires-in-Some-clause-within g c =
    let learned = c.self.inside.learned in
    rw c.trail-trail.ensures.vars
    (All-contains (IsWithin c.self.inside.state.vars) (learned_list learned) c.in-Some.clause.now c.self.invariant.within
    (clause_of-there learned c.in-Learned.slot c.in-Some.clause.now c.in-Some.ensures))
