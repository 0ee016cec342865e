use Rattle.std.proofs.Common.{◌∙◌, ◌≤◌, [], sym, ap, arith}
use Rattle.form_formula.specs.Nodes.{formula_of}
use Rattle.form_terms.specs.Counts.{counted, count_after, nodes_over, sum_of}
use Rattle.form_terms.specs.Limits.{most_counted}
use Rattle.ground_terms.specs.Counting.{count_in}
use Rattle.ground_terms.proofs.Alike.{counted-small}
use Rattle.ground_terms.proofs.CountRounds.{total_is}
use Rattle.ground_terms.proofs.TreeSizes.{alike_nodes}
use Rattle.ground_terms.proofs.measure.measure_within.Goals as goal

pub returns-clause-terms : goal.returns-clause-terms
returns-clause-terms c =
    let g = c.args.signature.now in
    let f = formula_of c.args.arena.now c.args.id in
    let small : c.total-terms.result ≤ most_counted = omega arith in
    sym (counted-small c.total-terms.result small)
    ∙ (c.total-terms.ensures ∙ (ap (λ xs. counted (sum_of xs)) c.as_slice.ensures.value ∙ total_is g f c.args.rounds c.in_ok-counts.counts.items (c.in_ok-counts.ensures f c.requires.over c.requires.basis)))

pub returns-clause-nodes : goal.returns-clause-nodes
returns-clause-nodes c =
    let g = c.args.signature.now in
    let f = formula_of c.args.arena.now c.args.id in
    let small : c.in_ok-nodes.nodes ≤ most_counted = omega arith in
    let counts = c.in_ok-counts.ensures f c.requires.over c.requires.basis in
    sym (counted-small c.in_ok-nodes.nodes small)
    ∙ (c.in_ok-nodes.ensures
    ∙ (ap (λ xs. counted (nodes_over (count_in xs) f)) c.as_slice-2.ensures.value
    ∙ alike_nodes g (count_in c.in_ok-counts.counts.items) (count_after g f c.args.rounds) (λ s lt. counts.are s lt) [] f c.requires.over))
