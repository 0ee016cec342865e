use Rattle.solve_order.proofs.SearchLemmas.{Lowers-trans}
use Rattle.solve_order.proofs.search.Search.relax_range.Goals as goal

pub returns-then-relax_high-clause-lowers : goal.returns-then-relax_high-clause-lowers
returns-then-relax_high-clause-lowers c = Lowers-trans _ _ _ c.if-relax_low.ensures.lowers c.if-relax_high.ensures.lowers

pub returns-clause-lowers : goal.returns-clause-lowers
returns-clause-lowers c = Lowers-trans _ _ _ c.if-relax_low.ensures.lowers c.if-relax_high.ensures.lowers
