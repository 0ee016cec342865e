-- Literals taken back that are not marked, one after another.
use Rattle.std.proofs.Common.{◌≡◌, ℕ, ◌≤◌, Bool, true, false, List, [], ◌∷◌, None, inl, inr, sym, ◌∙◌, arith}
use Rattle.std.proofs.lemmas.Bool.{cases_eq, cases_Bool, cond-true, cond-false, OnFalse_at}
use Rattle.solve_solver.specs.declared.trail.Entry.{Entry}
use Rattle.solve_solver.specs.Assignment.{value_at}
use Rattle.solve_solver.specs.Dropping.{IsDropped, IsLevelDropped, before_decision}
use Rattle.solve_solver.specs.Marks.{IsFreeLevel}
use Rattle.solve_solver.specs.Trail.{value_in}
use Rattle.solve_solver.specs.Work.{pending}
use Rattle.solve_solver.proofs.MarkedTrails.{AgreesMarked-unmarked}
use Rattle.solve_solver.proofs.Trails.{value_in-here, value_in-other}
use Rattle.solve_solver.proofs.WorkLeft.{pending-decided}

pub IsDropped-refl : (marks : List Bool) (vars : ℕ) (es : List Entry) → IsDropped marks vars es es
IsDropped-refl marks vars es = record { agrees = λ a h. h; unset = λ v h. h; no_more = omega arith }

pub IsDropped-trans : (marks : List Bool) (vars : ℕ) (first second third : List Entry) → IsDropped marks vars first second → IsDropped marks vars second third → IsDropped marks vars first third
IsDropped-trans marks vars first second third h k = record {
  agrees = λ a agrees. h.agrees a (k.agrees a agrees);
  unset = λ v unset. k.unset v (h.unset v unset);
  no_more = omega (arith, h.no_more, k.no_more);
}

-- what is not set with one more literal is not set without it
pub unset_below : (e : Entry) (es : List Entry) (v : ℕ) → value_in (e ∷ es) v ≡ None → value_in es v ≡ None
unset_below e es v h = elim (cases_eq e.literal.var v) [
  | inl q ↦ let is = value_in-here e es v q in cc
  | inr q ↦ sym (value_in-other e es v q) ∙ h
]

pub pending-below : (vars : ℕ) (e : Entry) (es : List Entry) → pending vars es ≤ pending vars (e ∷ es)
pending-below vars e es = omega arith

IsDropped-one : (marks : List Bool) (vars : ℕ) (e : Entry) (es : List Entry) → value_at marks e.literal.var ≡ false → IsDropped marks vars (e ∷ es) es
IsDropped-one marks vars e es unmarked = record {
  agrees = λ a h. AgreesMarked-unmarked a marks e es unmarked h;
  unset = λ v h. unset_below e es v h;
  no_more = pending-below vars e es;
}

-- a level in which nothing is marked
pub free_level_dropped : (marks : List Bool) (vars : ℕ) (es : List Entry) → IsFreeLevel marks es → IsLevelDropped marks vars es (before_decision es)
free_level_dropped marks vars [] free = absurd free
free_level_dropped marks vars (e ∷ es) free = elim (cases_Bool e.decided) [
  | inl decided ↦
      rw (decided_gone decided) (record {
        dropped = IsDropped-one marks vars e es free.0;
        less = omega (arith, pending-decided vars e es decided);
      })
  | inr implied ↦
      let below = free_level_dropped marks vars es (OnFalse_at implied free.1) in
      rw (implied_gone implied) (record {
        dropped = IsDropped-trans marks vars (e ∷ es) es (before_decision es) (IsDropped-one marks vars e es free.0) below.dropped;
        less = omega (arith, below.less, pending-below vars e es);
      })
]
  where
    decided_gone : e.decided ≡ true → before_decision (e ∷ es) ≡ es
    decided_gone h = cond-true e.decided es (before_decision es) h

    implied_gone : e.decided ≡ false → before_decision (e ∷ es) ≡ before_decision es
    implied_gone h = cond-false e.decided es (before_decision es) h
