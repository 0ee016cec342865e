use Rattle.form_terms.specs.GroundTerms.{skolem}
use Rattle.ground_terms.proofs.Standing.{list_kept, list_at, list_listed}
use Rattle.ground_terms.proofs.listing.list_skolems.Goals as goal

pub list_term-requires-clause-placed : goal.list_term-requires-clause-placed
list_term-requires-clause-placed c =
    list_kept c.args.terms.now c.loop-ts.terms _ c.loop-ts.invariant.kept (list_at c.args.terms.now c.args.arguments.now c.loop-ts.ts-index 0 c.requires c.loop-ts-test.true)

pub loop-ts-preserved : goal.loop-ts-preserved
loop-ts-preserved c =
    list_listed (skolem c.args.number c.args.sort) c.args.arguments.now c.loop-ts.ts-index _ _ _ _ _ _ c.requires c.loop-ts-test.true c.loop-ts.invariant c.in_ok-list_term.ensures
