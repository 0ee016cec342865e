use Rattle.std.proofs.Common.{take}
use Rattle.std.specs.Prelude.{fold}
use Rattle.form_formula.specs.Trees.{app}
use Rattle.form_formula.specs.Nodes.{term_of}
use Rattle.duty_writer.specs.Made.{IsPut}
use Rattle.duty_writer.proofs.nodes.put_chain.Given as goal

-- the functions so far were put
abbrev pub invariant-loop-f : goal.invariant-loop-f
invariant-loop-f l = IsPut l.fn.arena l.arena (fold (λ u f. app f u) (term_of l.fn.arena l.fn.t) (take l.f-index l.functions)) l.at
