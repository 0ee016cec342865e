use Rattle.std.proofs.lemmas.Result.{err_from_is_err_and}
use Rattle.text_tree.specs.ExprGrammar.{Expression}
use Rattle.text_grammar.specs.Reading.{read}
use Rattle.text_syntax.proofs.Windowed.{through}
use Rattle.text_syntax.proofs.outermost.outermost_expression.Goals as goal

pub returns-in_err-read : goal.returns-in_err-read
unfolding read
returns-in_err-read c =
    let h = through 1024 64 Expression c.args.cursor.now c.window-window.result c.mark-start.result c.within-read.new.self c.follow.new.self c.within-read.result c.window-window.ensures c.mark-start.ensures
    (c.within-read.ensures _ c.expr-read.ensures) c.follow.ensures in
    let p = err_from_is_err_and c.from_residual.result c.from_residual.ensures.1 in
    rw (p.1, p.2) (rw c.in_err-read.was at h)

pub returns : goal.returns
unfolding read
returns c =
    let h = through 1024 64 Expression c.args.cursor.now c.window-window.result c.mark-start.result c.within-read.new.self c.follow.new.self c.within-read.result c.window-window.ensures c.mark-start.ensures
    (c.within-read.ensures _ c.expr-read.ensures) c.follow.ensures in
    let ok = rw c.in_ok-read.was at h in
    rw c.into_inner.ensures ok
