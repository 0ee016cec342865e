use Rattle.std.proofs.Common.{rules}
use Rattle.std.proofs.lemmas.List.{take_all}
use Rattle.std.proofs.lemmas.List.Elements.{All-more}
use Rattle.certify_clauses.specs.Paths.{IsFalseOn}
use Rattle.certify_clauses.proofs.listed.are_false.Goals as goal

pub loop-literal-preserved : goal.loop-literal-preserved
loop-literal-preserved c =
    All-more (IsFalseOn c.args.path.now.literals) c.args.clause.now c.loop-literal.literal-index _ c.loop-literal-test.true c.loop-literal.invariant
    (c.is_false.ensures.0 c.if-not-is_false.false)

pub returns : goal.returns
returns c = (
  λ t. rw (← take_all c.loop-literal.literal-index c.args.clause.now c.loop-literal-test.false) c.loop-literal.invariant,
  λ all. search rules,
)
