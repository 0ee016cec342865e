use Rattle.std.proofs.Common.{◌≡◌, ◌≤◌, length, drop}
use Rattle.std.specs.Prelude.{reverse, ◌==◌}
use Rattle.form_terms.specs.Listing.{unique}
use Rattle.decide_models.proofs.classes.unique.Given as goal

abbrev pub invariant-left : goal.invariant-left
invariant-left l = (l.left ≤ length l.items) × (l.kept.items ≡ reverse (unique (λ j k. j == k) (drop l.left l.items)))

abbrev pub decreases-left : goal.decreases-left
decreases-left l = l.left
