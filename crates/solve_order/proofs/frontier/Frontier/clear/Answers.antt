use Rattle.std.proofs.Common.{ap, ◌∙◌, length, replicate}
use Rattle.solve_order.specs.Reach.{unreached}
use Rattle.solve_order.proofs.FrontierLemmas.{forgotten}
use Rattle.solve_order.proofs.frontier.Frontier.clear.Goals as goal

pub returns : goal.returns
returns c =
    let s = c.self.inside in
    let e = c.forget.ensures in
    forgotten s.reached.items s.order.items.items s.order.places.items s.waiting s.touched s.order.paired c.self.invariant c.forget.new.reached.items e.length e.forgotten e.others ∙ ap (λ xs. replicate (length xs) unreached) c.self.view_is
