use Rattle.std.proofs.Common.{ℕ, length, arith, subst, ◌≡◌}
use Rattle.decide_search.specs.Ranged.{AreRangedValues}
use Rattle.decide_search.proofs.RangedLaws.{no_values, values_more}
use Rattle.decide_search.proofs.reading.values_of.Goals as goal

pub loop-id-init : goal.loop-id-init
loop-id-init c = no_values c.args.source.reader.signature.now c.args.source.reader.terms.now c.new-values.result c.new-values.ensures

pub loop-id-preserved : goal.loop-id-preserved
loop-id-preserved c =
    values_more c.args.source.reader.signature.now c.args.source.reader.terms.now c.loop-id.id c.loop-id.values c.push.new.self c.in_ok-value.value c.in_ok-push.ensures.ok c.loop-id.invariant
    c.in_ok-value.ensures

pub returns : goal.returns
returns c =
    let P : ℕ → Type 0 = λ n. AreRangedValues c.args.source.reader.signature.now c.args.source.reader.terms.now n c.loop-id.values in
    let all : c.loop-id.id ≡ length c.args.source.reader.terms.now = omega arith in subst P all c.loop-id.invariant
