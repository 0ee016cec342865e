use Rattle.std.proofs.Common.{sym, ap, ◌∙◌, subst, List, ℕ}
use Rattle.form_formula.specs.Nodes.{formula_of}
use Rattle.form_formula.specs.Truth.{truth}
use Rattle.decide_smaller.specs.Picks.{ArePicks}
use Rattle.decide_smaller.proofs.Picked.{none_leads, picked_all}
use Rattle.decide_smaller.proofs.picking.picks_in.Goals as goal

pub returns : goal.returns
returns c =
    let s = c.args.structure.now in
    let f = formula_of c.args.arena.now c.args.id in
    let all = picked_all s f (formula_of c.args.arena.now c.down.at) c.down.picks.items c.down.invariant.1 (none_leads c.args.arena.now c.down.at c.node.result.now c.node.ensures.means c.in_default.not-Exists) in
    let are : ArePicks s f c.down.picks.items = record { elements = all.0; true_there = ap (truth s c.down.picks.items) all.1 ∙ c.down.invariant.2 } in
    subst (λ (picks : List ℕ). ArePicks s f picks) (sym c.from_vec.ensures) are
