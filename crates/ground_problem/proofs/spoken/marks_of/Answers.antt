use Rattle.std.proofs.Common.{◌≡◌, ◌<◌, ◌∙◌, ℕ, true, Some}
use Rattle.std.specs.Prelude.{slice_get}
use Rattle.ground_problem.proofs.CheckLaws.{each_all, marked_next, marks_on}
use Rattle.ground_problem.proofs.spoken.marks_of.Goals as goal

pub loop-id-preserved : goal.loop-id-preserved
loop-id-preserved c =
    let listed = c.args.listed.now in
    let k = c.loop-id.id-index in
    let marks = c.loop-id.marks.items in
    let after = c.mark.new.marks.items in (
      marks_on listed k c.loop-id-test.true marks after c.loop-id.invariant.0 c.mark.ensures.only,
      c.mark.ensures.length ∙ c.loop-id.invariant.1,
      marked_next listed k c.args.count marks after c.loop-id-test.true c.loop-id.invariant.1 c.loop-id.invariant.2 c.mark.ensures.kept c.mark.ensures.marked,
    )

pub returns-clause-each : goal.returns-clause-each
returns-clause-each c =
    let P : ℕ → Type 0 = λ id. id < c.args.count → slice_get c.loop-id.marks.items id ≡ Some true in
    each_all P c.args.listed.now c.loop-id.id-index c.loop-id-test.false c.loop-id.invariant.2
