use Rattle.std.proofs.Common.{◌-◌, ◌+◌, ◌≡◌, arith, drop, ap, ◌∙◌, sym}
use Rattle.std.specs.Prelude.{◌==◌, reverse}
use Rattle.form_terms.specs.Listing.{unique}
use Rattle.decide_models.proofs.Uniques.{kept_step}
use Rattle.decide_models.proofs.classes.unique.Goals as goal

pub left-preserved : goal.left-preserved
left-preserved c =
    let left = c.left.left in
    let items = c.args.items.now in
    let next : left - 1 + 1 ≡ left = omega arith in
    let was : c.left.kept.items ≡ reverse (unique (λ j k. j == k) (drop (left - 1 + 1) items)) = c.left.invariant.1 ∙ ap (λ n. reverse (unique (λ j k. j == k) (drop n items))) (sym next) in
    (omega arith, kept_step items c.left.kept.items c.keep.new.kept.items (left - 1) (omega arith) was c.in_ok-keep.ensures)
