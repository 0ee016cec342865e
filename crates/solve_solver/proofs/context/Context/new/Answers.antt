use Rattle.std.proofs.Common.{refl, arith}
use Rattle.solve_solver.proofs.Contexts.{IsKeptContext-new}
use Rattle.solve_solver.proofs.context.Context.new.Goals as goal

pub invariant_of-result : goal.invariant_of-result
invariant_of-result g c =
    let T = g.T.Theory in
    rw (c.in_ok-trail.ensures, c.in_ok-core.ensures)
    (IsKeptContext-new T.literals T.capacity T.takes T.models T.meets _ c.in_ok-places.places.items _ _
    (record {
      in_step = c.requires.empty;
      has_model = rw c.requires.empty (g.met.T.Theory.empty_has_model c.args.theory);
      is_trail = tt;
      follows = tt;
      one_each = c.requires.one_each;
      room = c.requires.room;
      taken = c.requires.taken;
      within = c.requires.within;
    })
    refl c.in_ok-places.ensures.items c.in_ok-places.ensures.exact refl)
