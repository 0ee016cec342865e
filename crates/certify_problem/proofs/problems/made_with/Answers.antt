use Rattle.std.proofs.Common.{List, ◌++◌, ◌∙◌, ap, map, subst}
use Rattle.ground_problem.specs.Facts.{clauses_at, fact_at}
use Rattle.ground_problem.specs.GroundClauses.{AreGroundClauses}
use Rattle.ground_problem.specs.declared.facts.FactLiteral.{FactLiteral}
use Rattle.ground_problem.specs.declared.words.Words.{Words}
use Rattle.ground_terms.specs.declared.node.TermNode.{TermNode}
use Rattle.certify_atoms.specs.Orders.{AreOrders}
use Rattle.certify_problem.specs.Making.{IsMadeOf}
use Rattle.certify_problem.proofs.Lists.{ok_too}
use Rattle.certify_problem.proofs.Made.{facts_few}
use Rattle.certify_problem.proofs.problems.made_with.Goals as goal

pub listed_by-requires : goal.listed_by-requires
listed_by-requires c =
    facts_few (fact_at c.args.reader.arena.now c.args.spoken.now.made.terms) c.in_ok-ground.ground.facts.items c.in_ok-ground.ground.end c.in_ok-ground.ensures.encoding.rise

pub returns : goal.returns
returns c =
    let r = c.args.reader in
    let s = c.args.spoken.now in
    let g = r.signature.now in
    let nodes = r.arena.now in
    let texts = r.texts.now in
    let ground = c.in_ok-ground.ground in
    let orders = map (λ c. c.items) c.in_ok-orders.orders.items in
    let facts = map (fact_at nodes s.made.terms) ground.facts.items in
    let all = map (λ c. c.items) ground.clauses.items ++ map (λ c. c.items) ground.gates.items in
    ok_too c.listed_by.result _ _
    (λ made h. record {
      orders = orders;
      are_orders = subst (λ (ts : List TermNode). AreOrders g nodes ts s.words texts orders) c.requires.terms
          (subst (λ (w : Words). AreOrders g nodes r.terms.now w texts orders) c.requires.words c.in_ok-orders.ensures);
      ground = ground;
      is_ground = subst (λ (cs : List (List FactLiteral)). AreGroundClauses facts s.made nodes (clauses_at nodes s.made.terms cs) ground.end all)
          (ap (map (λ c. c.items)) c.as_slice.ensures.value ∙ c.in_ok-add_clauses.ensures) c.in_ok-ground.ensures;
      made = subst (λ (ts : List TermNode). IsMadeOf g nodes ts s.words texts ground made) c.requires.terms
          (subst (λ (w : Words). IsMadeOf g nodes r.terms.now w texts ground made) c.requires.words h);
    })
    c.listed_by.ensures
