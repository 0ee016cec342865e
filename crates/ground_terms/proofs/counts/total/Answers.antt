use Rattle.std.proofs.Common.{ℕ, ◌∙◌, ◌+◌, sym, ap, get_or, take, refl}
use Rattle.form_terms.specs.Counts.{counted, sum_of}
use Rattle.ground_terms.proofs.Alike.{alike_cut, alike_sum}
use Rattle.ground_terms.proofs.CountRounds.{sum_more}
use Rattle.ground_terms.proofs.counts.total.Goals as goal

pub loop-count-preserved : goal.loop-count-preserved
loop-count-preserved c =
    let n : ℕ = get_or c.args.counts.now c.loop-count.count-index 0 in
    let before : ℕ = sum_of (take c.loop-count.count-index c.args.counts.now) in
    ap counted c.saturating_add-sum.ensures
    ∙ (alike_cut (c.loop-count.sum + n) ∙ (alike_sum c.loop-count.sum n before n c.loop-count.invariant refl ∙ ap counted (sym (sum_more c.args.counts.now c.loop-count.count-index c.loop-count-test.true))))
