use Rattle.std.proofs.Common.{List, ℕ, subst, sym}
use Rattle.form_terms.specs.GroundTerms.{list_of}
use Rattle.ground_terms.specs.Nodes.{list_of as list_at}
use Rattle.ground_instances.specs.Lists.{IsDown}
use Rattle.ground_instances.proofs.ListLaws.{down_begun, down_on, down_done}
use Rattle.ground_instances.proofs.lists.items_of.Goals as goal

pub down-init : goal.down-init
down-init c =
    let D : List ℕ → Type 0 = λ ids. IsDown c.args.terms.now (list_of (list_at c.args.terms.now c.args.list)) c.args.list ids in
    subst D (sym c.new-ids.ensures.items) (down_begun c.args.terms.now c.args.list c.requires)

pub down-preserved : goal.down-preserved
down-preserved c =
    let D : List ℕ → Type 0 = λ ids. IsDown c.args.terms.now (list_of (list_at c.args.terms.now c.args.list)) c.in-Cons.ts ids in
    subst D (sym c.in_ok-push-in-Cons.ensures.items)
    (down_on c.args.terms.now (list_of (list_at c.args.terms.now c.args.list)) c.down.at c.in-Cons.t c.in-Cons.ts c.down.ids.items c.down.invariant c.in-Cons.ensures.placed c.in-Cons.ensures.means)

pub returns-in_default : goal.returns-in_default
returns-in_default c =
    down_done c.args.terms.now (list_of (list_at c.args.terms.now c.args.list)) c.down.at c.down.ids.items c.node.result c.down.invariant c.node.ensures.node c.node.ensures.means c.in_default.not-Cons
