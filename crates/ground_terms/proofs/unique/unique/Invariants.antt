use Rattle.std.proofs.Common.{◌≡◌, ◌≤◌, length, drop}
use Rattle.std.specs.Prelude.{vec_len}
use Rattle.ground_terms.specs.Keeping.{IsKeeper}
use Rattle.ground_terms.proofs.unique.unique.Given as goal

abbrev pub invariant-left : goal.invariant-left
invariant-left l = (l.left ≤ length l.items) × (vec_len l.keeper.seen ≡ l.bound) × IsKeeper (drop l.left l.items) l.keeper

abbrev pub decreases-left : goal.decreases-left
decreases-left l = l.left
