use Rattle.std.proofs.Common.{refl}
use Rattle.form_terms.specs.GroundTerms.{term_and}
use Rattle.ground_terms.specs.Nodes.{term_of, list_of}
use Rattle.ground_terms.specs.declared.node.TermNode.TheVariants.{Cons}
use Rattle.std.proofs.Common.{get_or}
use Rattle.ground_terms.proofs.Standing.{one_kept, list_kept, list_at, longer_listed, one_list_listed}
use Rattle.ground_terms.proofs.listing.list_with.Goals as goal

pub add-requires : goal.add-requires
add-requires c = (
  one_kept c.args.terms.now c.loop-rest.terms _ c.loop-rest.invariant.kept c.requires.one,
  list_kept c.args.terms.now c.loop-rest.terms _ c.loop-rest.invariant.kept (list_at c.args.terms.now c.args.rests.now c.loop-rest.rest-index 0 c.requires.lists c.loop-rest-test.true),
)

pub loop-rest-preserved : goal.loop-rest-preserved
loop-rest-preserved c =
    let rest = get_or c.args.rests.now c.loop-rest.rest-index 0 in
    let old = c.loop-rest.terms in
    longer_listed c.args.first c.args.rests.now c.loop-rest.rest-index _ old _ _ _ _ c.requires.one c.requires.lists c.loop-rest-test.true c.loop-rest.invariant
    (one_list_listed old _ (Cons c.args.first rest) c.in_ok-id.id _ _ (term_and (term_of old c.args.first) (list_of old rest)) c.in_ok-id.ensures.made refl refl c.in_ok-push.ensures.items)
