use Rattle.std.proofs.Common.{◌≡◌, ◌+◌, ◌-◌, length, take}
use Rattle.solve_theory.specs.Pair.{in_order}
use Rattle.solve_theory.proofs.pair.PairTheory.undo.Given as goal

-- as many literals are taken back as the loop has turned
abbrev pub invariant-loop-taken : goal.invariant-loop-taken
invariant-loop-taken g l =
    let A = g.A.Theory in
    let B = g.B.Theory in
    let old = l.initial.self in
    let all = in_order old.sides (A.literals old.left) (B.literals old.right) in
    record {
      list : in_order l.self.sides (A.literals l.self.left) (B.literals l.self.right) ≡ take (length all - l._taken) all;
      sides : length l.self.sides + l._taken ≡ length old.sides;
      capacity : l.self.capacity ≡ old.capacity;
      left_takes : A.takes l.self.left ≡ A.takes old.left;
      right_takes : B.takes l.self.right ≡ B.takes old.right;
      left_models : A.models l.self.left ≡ A.models old.left;
      right_models : B.models l.self.right ≡ B.models old.right;
    }
