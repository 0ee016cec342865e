use Rattle.std.proofs.Common.{◌≤◌, length, arith}
use Rattle.certify_clauses.specs.InMemory.{problem_in}
use Rattle.certify_recheck.proofs.Saying.{room_left}
use Rattle.certify_plan.proofs.blame.blame.Goals as goal

pub blame_literal-requires-clause-room : goal.blame_literal-requires-clause-room
blame_literal-requires-clause-room g c =
    let T = g.T.Theory in
    let p = problem_in c.args.c.now in
    let told = c.args.told.now in
    let few : length c.args.path.now ≤ T.capacity told.theory = omega (arith, c.requires.few, c.requires.ready.room) in
    rw (c.requires.ready.asserted) (room_left p c.args.path.now told.count (T.capacity told.theory) c.if-told-path.true few)

pub blame_literal-requires-clause-roomy : goal.blame_literal-requires-clause-roomy
blame_literal-requires-clause-roomy g c =
    let p = problem_in c.args.c.now in
    let told = c.args.told.now in
    let few : length c.args.path.now ≤ c.clear.new.self.capacity = omega (arith, c.requires.few, c.requires.room, c.clear.ensures.capacity) in
    rw (c.requires.ready.asserted) (room_left p c.args.path.now told.count c.clear.new.self.capacity c.if-told-path.true few)
