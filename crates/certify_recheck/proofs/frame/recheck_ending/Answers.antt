use Rattle.std.proofs.Common.{[], refl}
use Rattle.std.proofs.lemmas.Bool.{both_ways}
use Rattle.certify_recheck.specs.Due.{ending}
use Rattle.certify_recheck.proofs.Passing.{bad_end, bad_here, done_here}
use Rattle.certify_recheck.proofs.frame.recheck_ending.Goals as goal

pub returns-in_default-clause-passes : goal.returns-in_default-clause-passes
returns-in_default-clause-passes c = bad_end c.args.text.now c.args.from.at c.args.from.line ending [] c.in_default.ensures

pub returns-then-not-is_ending-clause-passes : goal.returns-then-not-is_ending-clause-passes
returns-then-not-is_ending-clause-passes c =
    let read = c.in-Some.read in
    bad_here c.args.text.now c.args.from.at c.args.from.line read.line read.next c.in-Some.ensures ending []
    (λ next. both_ways c.is_ending.result c.if-not-is_ending.true (c.is_ending.ensures.1 next))

pub returns-clause-passes : goal.returns-clause-passes
returns-clause-passes c =
    let read = c.in-Some.read in
    done_here c.args.text.now c.args.from.at c.args.from.line read.line read.next c.in-Some.ensures ending [] (c.is_ending.ensures.0 c.if-not-is_ending.false) refl
