use Rattle.std.proofs.Common.{◌<◌, ◌≡◌, ℕ, length, false, get_or, below_more, sym, ap, arith, ◌∙◌}
use Rattle.ground_terms.specs.declared.node.TermNode.TheVariants.{Empty}
use Rattle.decide_models.specs.Columns.{is_constant}
use Rattle.decide_models.proofs.Steps.{position_first, position_none, item_at}
use Rattle.decide_models.proofs.places.constant_of.Goals as goal

pub returns-then-is_constant : goal.returns-then-is_constant
returns-then-is_constant c =
    let nodes = c.args.terms.now in
    let p = is_constant c.args.sort in
    let e : get_or nodes c.loop-id.id Empty ≡ c.node.result = item_at nodes c.loop-id.id c.node.result Empty c.node.ensures.node in
    sym (position_first p nodes c.loop-id.id Empty (omega (arith, c.len-id-end.ensures.len)) c.loop-id.invariant (ap p e ∙ (sym c.is_constant.ensures ∙ c.if-is_constant.true)))

pub loop-id-preserved : goal.loop-id-preserved
loop-id-preserved c =
    let nodes = c.args.terms.now in
    let p = is_constant c.args.sort in
    let e : get_or nodes c.loop-id.id Empty ≡ c.node.result = item_at nodes c.loop-id.id c.node.result Empty c.node.ensures.node in
    below_more _ _ c.loop-id.invariant (ap p e ∙ (sym c.is_constant.ensures ∙ c.if-is_constant.false))

pub returns : goal.returns
returns c =
    let all : (k : ℕ) → k < length c.args.terms.now → is_constant c.args.sort (get_or c.args.terms.now k Empty) ≡ false = λ k lt. c.loop-id.invariant k (omega (arith, c.len-id-end.ensures.len)) in
    sym (position_none (is_constant c.args.sort) c.args.terms.now Empty all)
