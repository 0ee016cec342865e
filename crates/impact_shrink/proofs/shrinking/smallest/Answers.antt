use Rattle.std.proofs.Common.{refl}
use Rattle.type_schema.specs.SchemaViews.{script_of}
use Rattle.check_report.specs.Views.{witness_data}
use Rattle.impact_shrink.proofs.Dropped.{before-rounds, round-after, round-falls}
use Rattle.impact_shrink.proofs.shrinking.smallest.Goals as goal

pub rounds-init : goal.rounds-init
rounds-init c = before-rounds (script_of c.args.t.now) (witness_data c.args.w.now) c.args.base _ refl refl c.requires.base

pub round-requires-clause-base : goal.round-requires-clause-base
round-requires-clause-base c = c.rounds.invariant.real

pub rounds-preserved : goal.rounds-preserved
rounds-preserved c = round-after (script_of c.args.t.now) (witness_data c.args.w.now) c.args.base c.rounds.left _ c.rounds.invariant c.in_ok-left.ensures

pub rounds-smaller : goal.rounds-smaller
rounds-smaller c = round-falls (script_of c.args.t.now) (witness_data c.args.w.now) c.rounds.left _ c.rounds-test.true c.in_ok-left.ensures

pub returns-clause-small : goal.returns-clause-small
returns-clause-small c = c.rounds.invariant.small c.rounds-test.false

pub returns-clause-part : goal.returns-clause-part
returns-clause-part c = c.rounds.invariant.part
