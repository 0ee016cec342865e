use Rattle.std.proofs.Common.{◌-◌, ◌∙◌, length, take, ap, arith}
use Rattle.solve_theory.specs.Pair.{in_order}
use Rattle.solve_theory.proofs.Sides.{length-in_order-le}
use Rattle.solve_theory.proofs.Undo.{one_less}
use Rattle.solve_theory.proofs.pair.PairTheory.undo.Goals as goal

pub undo_one-requires : goal.undo_one-requires
undo_one-requires g c =
    let old = c.args.self.now in
    omega (arith, c.loop-taken.invariant.sides, c.requires, length-in_order-le old.sides (g.A.Theory.literals old.left) (g.B.Theory.literals old.right))

pub loop-taken-preserved : goal.loop-taken-preserved
loop-taken-preserved g c =
    let old = c.args.self.now in
    let all = in_order old.sides (g.A.Theory.literals old.left) (g.B.Theory.literals old.right) in
    let inv = c.loop-taken.invariant in
    let one = c.undo_one.ensures in
    record {
      list = one.list ∙ ap (λ t. take (length t - 1) t) inv.list ∙ one_less all c.loop-taken._taken (omega (arith, c.requires));
      sides = omega (arith, one.sides, inv.sides);
      capacity = one.capacity ∙ inv.capacity;
      left_takes = one.left_takes ∙ inv.left_takes;
      right_takes = one.right_takes ∙ inv.right_takes;
      left_models = one.left_models ∙ inv.left_models;
      right_models = one.right_models ∙ inv.right_models;
    }
