use Rattle.std.proofs.Common.{[], refl}
use Rattle.std.proofs.lemmas.Bool.{both_ways}
use Rattle.certify_recheck.specs.Due.{heading}
use Rattle.certify_recheck.proofs.Passing.{bad_end, bad_here, done_here}
use Rattle.certify_recheck.proofs.frame.recheck_heading.Goals as goal

pub returns-in_default-clause-passes : goal.returns-in_default-clause-passes
returns-in_default-clause-passes c = bad_end c.args.text.now c.args.from.at c.args.from.line heading [] c.in_default.ensures

pub returns-then-not-is_heading-clause-passes : goal.returns-then-not-is_heading-clause-passes
returns-then-not-is_heading-clause-passes c =
    let read = c.in-Some.read in
    bad_here c.args.text.now c.args.from.at c.args.from.line read.line read.next c.in-Some.ensures heading []
    (λ next. both_ways c.is_heading.result c.if-not-is_heading.true (c.is_heading.ensures.1 next))

pub returns-clause-passes : goal.returns-clause-passes
returns-clause-passes c =
    let read = c.in-Some.read in
    done_here c.args.text.now c.args.from.at c.args.from.line read.line read.next c.in-Some.ensures heading [] (c.is_heading.ensures.0 c.if-not-is_heading.false) refl
