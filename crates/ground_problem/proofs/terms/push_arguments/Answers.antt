use Rattle.std.proofs.Common.{ap, false}
use Rattle.form_terms.specs.GroundTerms.{list_of}
use Rattle.ground_terms.specs.Nodes.{term_of}
use Rattle.ground_terms.proofs.Placement.{kind_within}
use Rattle.ground_problem.proofs.TermLaws.{down_begun, down_on, down_done, list_end}
use Rattle.ground_problem.proofs.terms.push_arguments.Goals as goal

pub down-init : goal.down-init
down-init c = down_begun c.args.source.arena.now c.args.source.terms.now (term_of c.args.source.terms.now c.args.id) c.args.list _ c.requires

pub node-requires : goal.node-requires
node-requires c = kind_within c.args.source.terms.now c.down.at false c.down.invariant.fits

pub down-preserved : goal.down-preserved
down-preserved c =
    let terms = c.args.source.terms.now in
    down_on c.args.source.arena.now terms (term_of terms c.args.id) c.args.list c.down.at c.in-Cons.t c.in-Cons.ts _ _ _ c.in-Cons.ensures.placed c.in-Cons.ensures.means c.in_ok-push_argument-in-Cons.ensures c.down.invariant

pub returns-in_default : goal.returns-in_default
returns-in_default c =
    let terms = c.args.source.terms.now in
    down_done c.args.source.arena.now terms (term_of terms c.args.id) c.args.list c.down.at _ _
    (ap list_of (list_end terms c.down.at c.node.result c.down.invariant.fits c.node.ensures.node c.node.ensures.means c.in_default.not-Cons)) c.down.invariant
