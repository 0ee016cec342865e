use Rattle.std.proofs.Common.{◌≡◌, ◌-◌, ◌<◌, ◌∷◌, length, reverse, take, sym, ap, subst, ◌∙◌, arith}
use Rattle.std.proofs.lemmas.Bool.{false≢true, both_ways, OnFalse_at, OnFalse_from}
use Rattle.solve_solver.specs.Assignment.{value_at}
use Rattle.solve_solver.specs.Marks.{IsFreeLevel}
use Rattle.solve_solver.specs.Trail.{TrailView}
use Rattle.solve_solver.proofs.Trails.{reversed_within, reverse-take}
use Rattle.solve_solver.proofs.trail.Trail.is_free_level.Goals as goal

pub bounds-marks-entry : goal.bounds-marks-entry
bounds-marks-entry c =
    let entries = c.self.inside.entries.items in
    let vars = ap (λ (t : TrailView). t.vars) c.self.view_is in
    let place : c.loop-left.left - 1 < length entries = omega arith in
    let within = reversed_within _ entries c.self.invariant.is_trail (c.loop-left.left - 1) c.index-entry.result.now place in
    rw c.index-entry.ensures (omega (arith, within, vars, c.requires))

pub loop-left-preserved : goal.loop-left-preserved
loop-left-preserved c =
    let entries = c.self.inside.entries.items in
    let marks = c.args.marks.now in
    let e = c.index-entry.result.now in
    let rest = reverse (take (c.loop-left.left - 1) entries) in
    let step : reverse (take c.loop-left.left entries) ≡ e ∷ rest = reverse-take entries c.loop-left.left e c.loop-left-test.true c.loop-left.invariant.within ∙ ap (λ x. x ∷ rest) (sym c.index-entry.ensures) in
    record {
      within = omega (arith, c.loop-left.invariant.within);
      passed = (
        λ free. c.loop-left.invariant.passed.0 (rw step (c.if-marks-entry.false, OnFalse_from e.decided (IsFreeLevel marks rest) (λ _. free))),
        λ free. let here : IsFreeLevel marks (e ∷ rest) = rw step at (c.loop-left.invariant.passed.1 free) in OnFalse_at c.if-entry.false here.1,
      );
    }

pub returns-then-marks-entry : goal.returns-then-marks-entry
returns-then-marks-entry c =
    let entries = c.self.inside.entries.items in
    let marks = c.args.marks.now in
    let e = c.index-entry.result.now in
    let rest = reverse (take (c.loop-left.left - 1) entries) in
    let step : reverse (take c.loop-left.left entries) ≡ e ∷ rest = reverse-take entries c.loop-left.left e c.loop-left-test.true c.loop-left.invariant.within ∙ ap (λ x. x ∷ rest) (sym c.index-entry.ensures) in (
      λ h. absurd (false≢true h),
      λ free.
          let whole = subst (λ (t : TrailView). IsFreeLevel marks t.entries) (sym c.self.view_is) free in
          let here : IsFreeLevel marks (e ∷ rest) = rw step at (c.loop-left.invariant.passed.1 whole) in
          absurd (both_ways (value_at marks e.literal.var) here.0 c.if-marks-entry.true),
    )

pub returns : goal.returns
returns c =
    let entries = c.self.inside.entries.items in
    let marks = c.args.marks.now in
    let none : c.loop-left.left ≡ 0 = omega arith in (
      λ h. absurd (false≢true h),
      λ free.
          let whole = subst (λ (t : TrailView). IsFreeLevel marks t.entries) (sym c.self.view_is) free in
          absurd (subst (λ n. IsFreeLevel marks (reverse (take n entries))) none (c.loop-left.invariant.passed.1 whole)),
    )
