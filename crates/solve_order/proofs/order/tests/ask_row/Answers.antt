use Rattle.std.proofs.Common.{IsTrue, sym, subst}
use Rattle.solve_order.specs.declared.diff.Diff.{Diff}
use Rattle.std.specs.Prelude.{Bool}
use Rattle.solve_order.proofs.order.tests.ask_row.Goals as goal

pub ask-requires-clause-taken : goal.ask-requires-clause-taken
ask-requires-clause-taken c = subst (λ (takes : Diff → Bool). IsTrue (takes c.in-Some.l)) (sym c.requires.takes) c.in-Some.ensures
