use Rattle.std.proofs.Common.{◌≡◌, ◌↔◌, ◌<◌, false, get_or, length, set, Some, IsTrue, inr, ap, sym, subst, ◌∙◌, arith}
use Rattle.std.specs.Bool.{OnTrue}
use Rattle.std.specs.List.{slice_get}
use Rattle.std.specs.Option.{IsSomeAnd}
use Rattle.std.proofs.lemmas.Bool.{OnTrue_from}
use Rattle.std.proofs.lemmas.List.{get_or_default}
use Rattle.std.proofs.lemmas.List.Elements.{All-contains}
use Rattle.solve_solver.specs.declared.reason.Reason.{Reason}
use Rattle.solve_solver.specs.declared.reason.Reason.TheVariants.{Given, Learned, Unknown}
use Rattle.solve_solver.specs.Assignment.{value_at}
use Rattle.solve_solver.specs.Clauses.{IsWithin}
use Rattle.solve_solver.specs.Learned.{clause_of, learned_list}
use Rattle.solve_solver.specs.LearnerView.{LearnerView, clause_by}
use Rattle.solve_solver.specs.Marks.{ForcesMarked, IsEntailed, IsMarkedBut}
use Rattle.solve_solver.specs.ContextView.{Lawful}
use Rattle.solve_solver.proofs.LearnedClauses.{clause_of-there}
use Rattle.solve_solver.proofs.MarkedTrails.{IsBackedMarked-clause}
use Rattle.solve_solver.proofs.learner.Learner.is_explained.Goals as goal

pub returns-in-Some-clause-forced : goal.returns-in-Some-clause-forced
returns-in-Some-clause-forced g c =
    let T = g.T.Theory in
    let s = c.self.inside.state in
    let l = c.args.literal in
    let marks = set c.self.inside.marks.items l.var false in
    let entailed = All-contains (IsEntailed (Lawful T.models T.meets s)) (learned_list c.self.inside.learned) c.in-Some.clause.now c.self.invariant.entailed (clause_of-there c.self.inside.learned c.in-Learned.slot c.in-Some.clause.now c.in-Some.ensures) in
    subst (λ (v : LearnerView _ _). OnTrue c.is_marked_but.result (ForcesMarked (Lawful T.models T.meets v.state) (set v.marks l.var false) v.state.entries l)) c.self.view_is
    (OnTrue_from c.is_marked_but.result _
    (λ shown. IsBackedMarked-clause (Lawful T.models T.meets s) marks s.entries (Some l) c.in-Some.clause.now entailed
    (rw (← c.trail.ensures.entries, ← c.as_slice-marks.ensures.value) (c.is_marked_but.ensures.0 shown))))

pub returns-in-Given-clause-by : goal.returns-in-Given-clause-by
returns-in-Given-clause-by g c =
    let now = c.args.self.now in
    let l = c.args.literal in
    let r = c.index.result.now in
    let within : l.var < length c.self.inside.reasons.items = omega (arith, c.requires.within, c.self.invariant.reason_each, ap (λ (v : LearnerView _ _). v.state.vars) c.self.view_is, c.self.inside.reasons.ok.0) in
    let read : get_or now.reasons l.var Unknown ≡ Given c.in-Given.index = sym (ap (λ (v : LearnerView _ _). get_or v.reasons l.var Unknown) c.self.view_is) ∙ get_or_default c.self.inside.reasons.items l.var Unknown r within ∙ sym c.index.ensures ∙ c.in-Given.is in
    let by = subst (λ (v : LearnerView _ _). IsTrue c.is_explained.result ↔ IsSomeAnd (slice_get v.state.clauses c.in-Given.index) (IsMarkedBut (set v.marks l.var false) v.state.entries (Some l))) c.self.view_is
    (subst (λ marks. IsTrue c.is_explained.result ↔ IsSomeAnd (slice_get c.self.inside.state.clauses c.in-Given.index) (IsMarkedBut (set marks l.var false) c.self.inside.state.entries (Some l))) c.as_slice-marks.ensures.value c.is_explained.ensures.by) in
    λ _ explained. by.1 (subst (λ (x : Reason). IsSomeAnd (clause_by now x) (IsMarkedBut (set now.marks l.var false) now.state.entries (Some l))) read explained)

pub returns-in-Given-clause-only : goal.returns-in-Given-clause-only
returns-in-Given-clause-only g c =
    let now = c.args.self.now in
    let l = c.args.literal in
    let r = c.index.result.now in
    let within : l.var < length c.self.inside.reasons.items = omega (arith, c.requires.within, c.self.invariant.reason_each, ap (λ (v : LearnerView _ _). v.state.vars) c.self.view_is, c.self.inside.reasons.ok.0) in
    let read : get_or now.reasons l.var Unknown ≡ Given c.in-Given.index = sym (ap (λ (v : LearnerView _ _). get_or v.reasons l.var Unknown) c.self.view_is) ∙ get_or_default c.self.inside.reasons.items l.var Unknown r within ∙ sym c.index.ensures ∙ c.in-Given.is in
    let by = subst (λ (v : LearnerView _ _). IsTrue c.is_explained.result ↔ IsSomeAnd (slice_get v.state.clauses c.in-Given.index) (IsMarkedBut (set v.marks l.var false) v.state.entries (Some l))) c.self.view_is
    (subst (λ marks. IsTrue c.is_explained.result ↔ IsSomeAnd (slice_get c.self.inside.state.clauses c.in-Given.index) (IsMarkedBut (set marks l.var false) c.self.inside.state.entries (Some l))) c.as_slice-marks.ensures.value c.is_explained.ensures.by) in
    let marked_now : IsTrue (value_at now.marks l.var) = sym (ap (λ (v : LearnerView _ _). value_at v.marks l.var) c.self.view_is) ∙ sym (ap (λ marks. value_at marks l.var) c.as_slice-marks.ensures.value) ∙ c.if-not-marks-literal.false in
    λ t. inr (marked_now, subst (λ (x : Reason). IsSomeAnd (clause_by now x) (IsMarkedBut (set now.marks l.var false) now.state.entries (Some l))) (sym read) (by.0 t))

pub returns-in-Some-clause-by : goal.returns-in-Some-clause-by
returns-in-Some-clause-by g c =
    let now = c.args.self.now in
    let l = c.args.literal in
    let r = c.index.result.now in
    let within : l.var < length c.self.inside.reasons.items = omega (arith, c.requires.within, c.self.invariant.reason_each, ap (λ (v : LearnerView _ _). v.state.vars) c.self.view_is, c.self.inside.reasons.ok.0) in
    let read : get_or now.reasons l.var Unknown ≡ Learned c.in-Learned.slot = sym (ap (λ (v : LearnerView _ _). get_or v.reasons l.var Unknown) c.self.view_is) ∙ get_or_default c.self.inside.reasons.items l.var Unknown r within ∙ sym c.index.ensures ∙ c.in-Learned.is in
    let there = subst (λ (v : LearnerView _ _). Some c.in-Some.clause.now ≡ clause_of v.learned c.in-Learned.slot) c.self.view_is c.in-Some.ensures in
    let marked = subst (λ es. IsTrue c.is_marked_but.result ↔ IsMarkedBut (set c.as_slice-marks.result.now l.var false) es (Some l) c.in-Some.clause.now) c.trail.ensures.entries c.is_marked_but.ensures in
    let by = subst (λ (v : LearnerView _ _). IsTrue c.is_marked_but.result ↔ IsMarkedBut (set v.marks l.var false) v.state.entries (Some l) c.in-Some.clause.now) c.self.view_is
    (subst (λ marks. IsTrue c.is_marked_but.result ↔ IsMarkedBut (set marks l.var false) c.self.inside.state.entries (Some l) c.in-Some.clause.now) c.as_slice-marks.ensures.value marked) in
    λ _ explained. by.1 (subst (λ o. IsSomeAnd o (IsMarkedBut (set now.marks l.var false) now.state.entries (Some l))) (sym there) (subst (λ (x : Reason). IsSomeAnd (clause_by now x) (IsMarkedBut (set now.marks l.var false) now.state.entries (Some l))) read explained))

pub returns-in-Some-clause-only : goal.returns-in-Some-clause-only
returns-in-Some-clause-only g c =
    let now = c.args.self.now in
    let l = c.args.literal in
    let r = c.index.result.now in
    let within : l.var < length c.self.inside.reasons.items = omega (arith, c.requires.within, c.self.invariant.reason_each, ap (λ (v : LearnerView _ _). v.state.vars) c.self.view_is, c.self.inside.reasons.ok.0) in
    let read : get_or now.reasons l.var Unknown ≡ Learned c.in-Learned.slot = sym (ap (λ (v : LearnerView _ _). get_or v.reasons l.var Unknown) c.self.view_is) ∙ get_or_default c.self.inside.reasons.items l.var Unknown r within ∙ sym c.index.ensures ∙ c.in-Learned.is in
    let there = subst (λ (v : LearnerView _ _). Some c.in-Some.clause.now ≡ clause_of v.learned c.in-Learned.slot) c.self.view_is c.in-Some.ensures in
    let marked = subst (λ es. IsTrue c.is_marked_but.result ↔ IsMarkedBut (set c.as_slice-marks.result.now l.var false) es (Some l) c.in-Some.clause.now) c.trail.ensures.entries c.is_marked_but.ensures in
    let by = subst (λ (v : LearnerView _ _). IsTrue c.is_marked_but.result ↔ IsMarkedBut (set v.marks l.var false) v.state.entries (Some l) c.in-Some.clause.now) c.self.view_is
    (subst (λ marks. IsTrue c.is_marked_but.result ↔ IsMarkedBut (set marks l.var false) c.self.inside.state.entries (Some l) c.in-Some.clause.now) c.as_slice-marks.ensures.value marked) in
    let marked_now : IsTrue (value_at now.marks l.var) = sym (ap (λ (v : LearnerView _ _). value_at v.marks l.var) c.self.view_is) ∙ sym (ap (λ marks. value_at marks l.var) c.as_slice-marks.ensures.value) ∙ c.if-not-marks-literal.false in
    λ t. inr (marked_now, subst (λ (x : Reason). IsSomeAnd (clause_by now x) (IsMarkedBut (set now.marks l.var false) now.state.entries (Some l))) (sym read) (subst (λ o. IsSomeAnd o (IsMarkedBut (set now.marks l.var false) now.state.entries (Some l))) there (by.0 t)))

pub is_marked_but-requires-clause-within : goal.is_marked_but-requires-clause-within
is_marked_but-requires-clause-within g c =
    let learned = c.self.inside.learned in
    rw c.trail.ensures.vars
    (All-contains (IsWithin c.self.inside.state.vars) (learned_list learned) c.in-Some.clause.now c.self.invariant.within
    (clause_of-there learned c.in-Learned.slot c.in-Some.clause.now c.in-Some.ensures))
