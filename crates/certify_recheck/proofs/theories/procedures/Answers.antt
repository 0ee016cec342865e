use Rattle.certify_recheck.proofs.Ready.{ready}
use Rattle.certify_recheck.proofs.theories.procedures.Goals as goal

pub returns : goal.returns
returns g c =
    ready (g.C.Clauses.problem c.args.c.now) c.vars-capacity.result c.terms.result c.numbers.result c.fixed.result.now c.in_ok-equality.equality c.in_ok-order.order c.in_ok-theory.theory
    c.vars-capacity.ensures c.terms.ensures.terms c.numbers.ensures.numbers c.fixed.ensures.fixed c.in_ok-equality.ensures c.in_ok-order.ensures c.in_ok-theory.ensures
