-- What is due at the path's spot is what is left of the tree.
use Rattle.std.proofs.Common.{◌≡◌, ℕ, ◌+◌, ◌-◌, ◌≤◌, length, [], ◌∷◌}
use Rattle.certify_recheck.specs.Due.{due_at, tree}
use Rattle.certify_recheck.specs.Spots.{IsBadLine, Passes}
use Rattle.certify_recheck.specs.Walking.{IsReady}
use Rattle.certify_recheck.specs.declared.spot.Spot.{Spot}
use Rattle.certify_recheck.proofs.Passing.{spot}
use Rattle.certify_recheck.proofs.walk.walk.Given as goal

abbrev pub invariant-loop-read : goal.invariant-loop-read
invariant-loop-read g l =
    let theory = g.T.Theory in
    let c = g.C.Clauses.problem l.c in
    record {
      vars : l.path.vars ≡ c.vars;
      ready : IsReady c l.path.literals l.told.count (theory.literals l.told.theory) (theory.capacity l.told.theory) (theory.takes l.told.theory) (theory.models l.told.theory) theory.meets;
      within : l.at ≤ length l.text;
      numbered : l.line + l.fn.from.at ≤ l.fn.from.line + l.at;
      passes : (to : Spot) → Passes l.text (spot l.at l.line) (due_at c l.path.literals) to → Passes l.text l.fn.from (tree c [] ∷ []) to;
      bad : (line : ℕ) → IsBadLine l.text (spot l.at l.line) (due_at c l.path.literals) line → IsBadLine l.text l.fn.from (tree c [] ∷ []) line;
    }

abbrev pub decreases-loop-read : goal.decreases-loop-read
decreases-loop-read g l = length l.text - l.at
