use Rattle.std.proofs.Common.{arith}
use Rattle.text_tree.specs.ExprGrammar.{Expression, Set}
use Rattle.text_syntax.proofs.Nesting.{part_deeper, part_none}
use Rattle.text_syntax.proofs.nested.+nested.Goals as goal

pub expr-returns-then-levels-eq0 : goal.expr-returns-then-levels-eq0
expr-returns-then-levels-eq0 t c = part_none c.args.levels Expression c.args.cursor.now _ (omega arith) c.expr_stop.ensures

pub expr-returns : goal.expr-returns
expr-returns t c = rw (part_deeper c.args.levels Expression c.args.cursor.now (omega arith)) c.expression.ensures

pub set-returns-then-levels-eq0 : goal.set-returns-then-levels-eq0
set-returns-then-levels-eq0 t c = part_none c.args.levels Set c.args.cursor.now _ (omega arith) c.set_stop.ensures

pub set-returns : goal.set-returns
set-returns t c = rw (part_deeper c.args.levels Set c.args.cursor.now (omega arith)) c.set.ensures
