use Rattle.std.proofs.Common.{◌<◌, get_or, length, arith}
use Rattle.std.specs.List.{slice_index}
use Rattle.std.proofs.lemmas.List.{take_all}
use Rattle.solve_solver.proofs.SetMarks.{HasMarks-set, HasMarks-trans, places_marked, places_passed, only_at_places}
use Rattle.solve_solver.proofs.marking.mark_places.Goals as goal
use Rattle.solve_solver.proofs.marking.mark_places.Goals.{then-position-places, else-position-places}

pub loop-position-preserved : goal.loop-position-preserved
loop-position-preserved c =
    let places = c.args.places.now in
    let positions = c.args.positions.now in
    let marks = c.loop-position.marks in
    let i = c.loop-position.position-index in
    elim c.if-position-places.branch [
      | then-position-places w ↦
          let v = slice_index places (get_or positions i 0) in
          let below : v < length marks = omega (arith, c.requires (get_or positions i 0) 0 w.if-position-places.true, c.loop-position.auto.marks) in
          rw w.marks-is (record {
            more = HasMarks-trans _ marks c.args.marks.now (HasMarks-set marks v below) c.loop-position.invariant.more;
            only = only_at_places marks c.args.marks.now places positions i 0 c.loop-position-test.true w.if-position-places.true c.loop-position.invariant.only;
            marked = places_marked marks places positions i 0 c.loop-position-test.true w.if-position-places.true below c.loop-position.invariant.marked;
          })
      | else-position-places w ↦
          rw w.marks-is (record {
            more = c.loop-position.invariant.more;
            only = c.loop-position.invariant.only;
            marked = places_passed marks places positions i 0 c.loop-position-test.true w.if-position-places.false c.loop-position.invariant.marked;
          })
    ]

pub returns : goal.returns
returns c = record {
  more = c.loop-position.invariant.more;
  only = c.loop-position.invariant.only;
  marked = rw (take_all c.loop-position.position-index c.args.positions.now c.loop-position-test.false) at c.loop-position.invariant.marked;
}
