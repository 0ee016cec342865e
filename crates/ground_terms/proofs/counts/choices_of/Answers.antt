use Rattle.std.proofs.Common.{ℕ, ◌∙◌, ◌*◌, sym, ap, get_or, map, take, refl}
use Rattle.form_terms.specs.Counts.{counted, product_of}
use Rattle.ground_terms.specs.Counting.{count_in}
use Rattle.ground_terms.proofs.Alike.{alike_cut, alike_product}
use Rattle.ground_terms.proofs.CountRounds.{product_next}
use Rattle.ground_terms.proofs.counts.choices_of.Goals as goal

pub loop-sort-preserved : goal.loop-sort-preserved
loop-sort-preserved c =
    let count : ℕ → ℕ = count_in c.args.counts.now in
    let s : ℕ = get_or c.args.sorts.now c.loop-sort.sort-index 0 in
    let before : ℕ = product_of (map count (take c.loop-sort.sort-index c.args.sorts.now)) in
    ap counted c.saturating_mul-choices.ensures
    ∙ (alike_cut (c.loop-sort.choices * c.count_of.result)
    ∙ (ap (λ n. counted (c.loop-sort.choices * n)) c.count_of.ensures
    ∙ (alike_product c.loop-sort.choices (count s) before (count s) c.loop-sort.invariant refl ∙ ap counted (sym (product_next count c.args.sorts.now c.loop-sort.sort-index 0 c.loop-sort-test.true)))))
