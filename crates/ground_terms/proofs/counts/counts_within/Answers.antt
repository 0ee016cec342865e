use Rattle.std.proofs.Common.{◌≡◌, ◌∙◌, sym, arith, ◌+◌}
use Rattle.std.specs.Cmp.Lexicographic.{same_text}
use Rattle.form_terms.specs.Counts.{count_after}
use Rattle.ground_terms.specs.Counting.{AreCounts}
use Rattle.ground_terms.proofs.CountRounds.{counts_begun, counts_on, counts_settled}
use Rattle.ground_terms.proofs.counts.counts_within.Goals as goal

pub rounds-init : goal.rounds-init
rounds-init c = λ f over is. counts_begun c.args.signature.now f over c.args.basis.now is _ c.in_ok-counts.counts.items c.as_slice-2.ensures.value c.in_ok-counts.ensures

pub rounds-preserved : goal.rounds-preserved
rounds-preserved c = λ f over is.
    counts_on c.args.signature.now f over c.args.basis.now is _ _ c.rounds.counts.items _ c.in_ok-plain.plain.items _ c.in_ok-next.next.items _ c.rounds.round c.as_slice.ensures.value c.as_slice-in-rounds.ensures.value
    c.as_slice-in-rounds-2.ensures.value c.as_slice-in-rounds-4.ensures.value c.as_slice-in-rounds-3.ensures.value c.in_ok-plain.ensures (c.rounds.invariant f over is) c.in_ok-next.ensures

pub returns-then-eq : goal.returns-then-eq
returns-then-eq c = λ f over is.
    let same : c.in_ok-next.next.items ≡ c.rounds.counts.items = same_text _ _ (sym c.if-eq.true ∙ c.eq.ensures) in
    let next : AreCounts c.args.signature.now.sorts (count_after c.args.signature.now f (c.rounds.round + 1)) c.in_ok-next.next.items =
    counts_on c.args.signature.now f over c.args.basis.now is _ _ c.rounds.counts.items _ c.in_ok-plain.plain.items _ c.in_ok-next.next.items _ c.rounds.round c.as_slice.ensures.value c.as_slice-in-rounds.ensures.value
    c.as_slice-in-rounds-2.ensures.value c.as_slice-in-rounds-4.ensures.value c.as_slice-in-rounds-3.ensures.value c.in_ok-plain.ensures (c.rounds.invariant f over is) c.in_ok-next.ensures in
    counts_settled c.args.signature.now f over c.args.basis.now is c.rounds.round c.args.rounds c.rounds.counts.items c.in_ok-next.next.items (omega arith) (c.rounds.invariant f over is) next same
