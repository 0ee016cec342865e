use Rattle.std.proofs.Common.{◌+◌, subst, ◌∙◌, arith}
use Rattle.certify_recheck.specs.Due.{later, tree}
use Rattle.certify_recheck.specs.Spots.{IsBadLine, Passes}
use Rattle.certify_recheck.specs.Walking.{IsStep}
use Rattle.certify_recheck.proofs.Passing.{bad_end, bad_here, bad_more, passes_more, spot}
use Rattle.certify_recheck.proofs.walk.walk.Goals as goal

pub returns-in-Bad-clause-bad : goal.returns-in-Bad-clause-bad
returns-in-Bad-clause-bad g c =
    let p = g.C.Clauses.problem c.args.c.now in
    let l = c.loop-read in
    let read = c.in-Some.read in
    let step = subst (λ s. IsStep p l.path.literals read.line c.take_line.new.path.literals s) c.in-Bad.is c.in_ok-take_line.ensures.step in
    l.invariant.bad l.line (bad_here c.args.text.now l.at l.line read.line read.next c.in-Some.ensures (tree p l.path.literals) (later p l.path.literals) step)

pub loop-read-preserved : goal.loop-read-preserved
loop-read-preserved g c =
    let p = g.C.Clauses.problem c.args.c.now in
    let l = c.loop-read in
    let text = c.args.text.now in
    let read = c.in-Some.read in
    let is_read = c.in-Some.ensures in
    let step = subst (λ s. IsStep p l.path.literals read.line c.take_line.new.path.literals s) c.in-More.is c.in_ok-take_line.ensures.step in
    let behind = is_read.behind in
    let before = l.invariant.numbered in
    record {
      vars = c.in_ok-take_line.ensures.vars ∙ l.invariant.vars;
      ready = c.in_ok-take_line.ensures.ready;
      within = is_read.within;
      numbered = omega arith;
      passes = λ to h.
          l.invariant.passes to
          (passes_more text l.at l.line read.line read.next is_read (tree p l.path.literals) (later p l.path.literals) to step.0
          (subst (λ ds. Passes text (spot read.next (l.line + 1)) ds to) step.1 h));
      bad = λ line h.
          l.invariant.bad line
          (bad_more text l.at l.line read.line read.next is_read (tree p l.path.literals) (later p l.path.literals) line step.0
          (subst (λ ds. IsBadLine text (spot read.next (l.line + 1)) ds line) step.1 h));
    }

-- no line is left
pub returns-clause-bad : goal.returns-clause-bad
returns-clause-bad g c =
    let p = g.C.Clauses.problem c.args.c.now in
    let l = c.loop-read in
    l.invariant.bad l.line (bad_end c.args.text.now l.at l.line (tree p l.path.literals) (later p l.path.literals) c.in_default.ensures)
