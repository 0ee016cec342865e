use Rattle.std.proofs.Common.{arith, ℕ, false}
use Rattle.std.specs.Prelude.{slice_get, unwrap_or}
use Rattle.ground_problem.specs.declared.facts.FactNode.{FactNode}
use Rattle.decide_reading.specs.Columns.{IsSo}
use Rattle.decide_reading.proofs.Steps.{so_more, so_within}
use Rattle.decide_reading.proofs.check.check_facts.Goals as goal

pub loop-k-preserved : goal.loop-k-preserved
loop-k-preserved c =
    let P : ℕ → FactNode → Type 0 =
    λ j p. IsSo c.args.source.arena.now c.args.source.terms.now c.args.source.pairs.now c.args.source.columns.now p (unwrap_or (slice_get c.args.values.now j) false) in
    so_more P c.args.facts.now c.loop-k.k c.loop-k.invariant c.in_ok-check_at.ensures

pub returns : goal.returns
returns c =
    let P : ℕ → FactNode → Type 0 =
    λ j p. IsSo c.args.source.arena.now c.args.source.terms.now c.args.source.pairs.now c.args.source.columns.now p (unwrap_or (slice_get c.args.values.now j) false) in
    so_within P c.args.facts.now c.loop-k.k (omega arith) c.loop-k.invariant
