use Rattle.std.proofs.Common.{◌<◌, true, arith}
use Rattle.solve_solver.specs.declared.literal.PLit.{PLit}
use Rattle.decide_search.proofs.Taken.{all_push}
use Rattle.decide_search.proofs.solving.try_first.Goals as goal

pub returns : goal.returns
returns c = λ n lt h.
    let P : PLit → Type 0 = λ l. l.var < n in
    all_push P c.args.values.now.items c.push.new.self.items (record { var = c.in_ok-var.var; plus = true }) c.in_ok-push.ensures.items h (omega (arith, lt, c.in_ok-var.ensures))
