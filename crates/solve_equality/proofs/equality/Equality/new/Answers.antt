use Rattle.solve_equality.proofs.EqualitySteps.{new_sound}
use Rattle.solve_equality.proofs.equality.Equality.new.Goals as goal

pub invariant_of-result : goal.invariant_of-result
invariant_of-result c =
    rw (c.in_ok-new.ensures, c.in_ok-new-2.ensures, c.in_ok-new-3.ensures, c.in_ok-new-4.ensures, c.in_ok-from_slice.ensures.items)
    (new_sound _ _ c.args.capacity c.args.terms c.args.fixed.now c.in_ok-with_capacity.ensures.items c.in_ok-with_capacity.ensures.capacity c.requires.capacity_fits c.requires.fixed_in)
