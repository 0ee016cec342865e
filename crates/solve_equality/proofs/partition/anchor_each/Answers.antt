use Rattle.std.proofs.Common.{◌≡◌, ap, ◌∙◌, length, arith, subst, get_or, ℕ, List, ◌<◌, cond, Some, None}
use Rattle.std.proofs.lemmas.List.{take_all}
use Rattle.solve_equality.specs.Partition.{is_fixed, first_anchors}
use Rattle.solve_equality.proofs.PartitionLemmas.{first_anchors_from_at}
use Rattle.solve_equality.proofs.partition.anchor_each.Goals as goal

pub returns : goal.returns
returns c =
    let anchors = c.loop-term.anchors in
    let fixed = c.args.fixed.now in
    let all = take_all c.loop-term.term-index fixed (omega arith) in
    first_anchors_from_at anchors fixed (subst (λ (fs : List ℕ). (t : ℕ) → t < length anchors → get_or anchors t None ≡ cond (is_fixed fs t) (Some t) None) all c.loop-term.invariant)
    ∙ ap (λ n. first_anchors n fixed) (omega arith)
