use Rattle.std.proofs.Common.{◌≡◌, arith, length, subst}
use Rattle.certify_scripts.specs.Passed.{HasParts}
use Rattle.certify_scripts.proofs.PartLaws.{bad_end, behind_end, certified}
use Rattle.certify_scripts.proofs.scripts.ended.Goals as goal

pub recheck_ending-requires-clause-at : goal.recheck_ending-requires-clause-at
recheck_ending-requires-clause-at c = c.requires.within.at

pub recheck_ending-requires-clause-line : goal.recheck_ending-requires-clause-line
recheck_ending-requires-clause-line c = omega (arith, c.requires.within.line, c.requires.within.at, c.requires.few)

pub returns-in-None : goal.returns-in-None
returns-in-None c = λ t g count has.
    let text = c.args.text.now in
    bad_end t g text c.args.from (subst (λ n. HasParts t g text n c.args.from) count has) c.args.from.line c.in-None.ensures.passes

pub returns-in-Some : goal.returns-in-Some
returns-in-Some c = λ t g count has.
    let text = c.args.text.now in
    behind_end t g text c.args.from (subst (λ n. HasParts t g text n c.args.from) count has) c.in-Some.to c.in-Some.ensures.passes c.if-to-text.true

pub returns-in-Some-2 : goal.returns-in-Some-2
returns-in-Some-2 c = λ t g count has.
    let text = c.args.text.now in
    let end : c.in-Some.to.at ≡ length text = omega (arith, c.if-to-text.false, c.in-Some.ensures.within) in
    certified t g text c.args.from (subst (λ n. HasParts t g text n c.args.from) count has) c.args.duties c.in-Some.to count c.in-Some.ensures.passes end
