use Rattle.solve_order.proofs.SearchLemmas.{settled_stay, relaxing_after, lowers_after, met_after, closes_after}
use Rattle.solve_order.proofs.search.Search.relax.Goals as goal

pub lower_end-requires-clause-settled_stay : goal.lower_end-requires-clause-settled_stay
lower_end-requires-clause-settled_stay c =
    let at = c.requires.relaxing in
    settled_stay c.args.self.now.edges.now.literals c.args.self.now.values.now c.args.self.now.goal c.args.frontier.now c.args.frontier.now c.args.edge at.traced at.front c.requires.edge

pub returns-clause-relaxing : goal.returns-clause-relaxing
returns-clause-relaxing c =
    let literals = c.args.self.now.edges.now.literals in
    let values = c.args.self.now.values.now in
    let at = c.requires.relaxing in
    let r = c.lower_end.ensures in
    relaxing_after literals values c.args.self.now.goal c.args.frontier.now c.lower_end.new.frontier c.args.edge at.traced at.front c.requires.edge c.lower_end.result r.stays r.tail_stays r.relaxed

pub returns-clause-lowers : goal.returns-clause-lowers
returns-clause-lowers c =
    let literals = c.args.self.now.edges.now.literals in
    let values = c.args.self.now.values.now in
    let at = c.requires.relaxing in
    let r = c.lower_end.ensures in
    lowers_after literals values c.args.self.now.goal c.args.frontier.now c.lower_end.new.frontier c.args.edge at.traced at.front c.requires.edge c.lower_end.result r.stays r.tail_stays r.relaxed

pub returns-clause-met : goal.returns-clause-met
returns-clause-met c =
    let literals = c.args.self.now.edges.now.literals in
    let values = c.args.self.now.values.now in
    let at = c.requires.relaxing in
    let r = c.lower_end.ensures in
    met_after literals values c.args.self.now.goal c.args.frontier.now c.lower_end.new.frontier c.args.edge at.traced at.front c.requires.edge c.lower_end.result r.tail_stays r.relaxed

pub returns-clause-closes : goal.returns-clause-closes
returns-clause-closes c =
    let literals = c.args.self.now.edges.now.literals in
    let values = c.args.self.now.values.now in
    let at = c.requires.relaxing in
    let r = c.lower_end.ensures in
    closes_after literals values c.args.self.now.goal c.args.frontier.now c.lower_end.new.frontier c.args.edge at.traced at.front c.requires.edge c.lower_end.result r.stays r.tail
