use Rattle.form_terms.specs.GroundTerms.{field}
use Rattle.ground_terms.proofs.Standing.{one_kept, one_at, term_listed}
use Rattle.ground_terms.proofs.listing.list_fields.Goals as goal

pub list_term-requires-clause-placed : goal.list_term-requires-clause-placed
list_term-requires-clause-placed c =
    one_kept c.args.terms.now c.loop-t.terms _ c.loop-t.invariant.kept (one_at c.args.terms.now c.args.arguments.now c.loop-t.t-index 0 c.requires c.loop-t-test.true)

pub loop-t-preserved : goal.loop-t-preserved
loop-t-preserved c =
    term_listed (field c.args.h) c.args.arguments.now c.loop-t.t-index _ _ _ _ _ _ c.requires c.loop-t-test.true c.loop-t.invariant c.in_ok-list_term.ensures
