use Rattle.door_judge.proofs.Keyed.{needed-at}
use Rattle.door_judge.proofs.finding.key_of.Goals as goal

pub returns-in-Some : goal.returns-in-Some
returns-in-Some c =
    needed-at c.args.tests.now c.loop-test.test-index c.test-item.result c.in-Some.key.field c.in-Some.key.id c.loop-test-test.true c.test-item.is c.in-Some.ensures
