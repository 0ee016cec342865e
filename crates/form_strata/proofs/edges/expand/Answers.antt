use Rattle.std.proofs.Common.{◌∙◌, sym}
use Rattle.std.proofs.lemmas.Option.{same_Some}
use Rattle.form_strata.proofs.VisitLaws.{expanded_twice}
use Rattle.form_strata.proofs.edges.expand.Goals as goal

pub returns-in_ok-add_term-in-Eq : goal.returns-in_ok-add_term-in-Eq
returns-in_ok-add_term-in-Eq g c =
    expanded_twice c.args.signature.now c.args.arena.now c.add_term-in-Eq-2.result c.args.visit g.node c.node.result.now c.in-Eq.s c.in-Eq.t c.args.walk.now c.add_term-in-Eq.new.self c.add_term-in-Eq-2.new.self
    (same_Some _ _ (sym c.requires.0 ∙ c.node.ensures.node)) c.in-Eq.is c.add_term-in-Eq.ensures.visits c.add_term-in-Eq-2.ensures.visits c.in_ok-add_term-in-Eq.ensures.edges c.add_term-in-Eq-2.ensures.edges
