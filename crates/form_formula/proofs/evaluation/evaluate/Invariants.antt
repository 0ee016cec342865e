use Rattle.std.proofs.Common.{◌≡◌, ◌+◌, []}
use Rattle.std.specs.Prelude.{sum_by}
use Rattle.form_formula.specs.Nodes.{formula_of}
use Rattle.form_formula.specs.Truth.{truth}
use Rattle.form_formula.specs.Evaluation.{chosen, outcome, step_value, frame_cost, step_cost, IsSound, AreWaiting}
use Rattle.form_formula.proofs.evaluation.evaluate.Given as goal

abbrev pub invariant-steps : goal.invariant-steps
invariant-steps l =
    AreWaiting l.arena l.waiting.frames.items l.waiting.elements.items × IsSound l.arena l.step
    × (outcome l.structure l.arena [] l.waiting.frames.items (step_value l.structure l.arena (chosen l.waiting.frames.items) l.step)
    ≡ outcome l.structure l.arena [] l.initial.waiting.frames.items (truth l.structure l.initial.waiting.elements.items (formula_of l.arena l.id)))

abbrev pub decreases-steps : goal.decreases-steps
decreases-steps l = sum_by (frame_cost l.structure l.arena) l.waiting.frames.items + step_cost l.structure l.arena l.step
