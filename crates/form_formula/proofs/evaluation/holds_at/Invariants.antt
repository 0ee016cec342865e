use Rattle.std.proofs.Common.{◌≡◌, take, [], Bool}
use Rattle.form_formula.specs.Evaluation.{outcome, AreWaiting}
use Rattle.form_formula.proofs.evaluation.holds_at.Given as goal

abbrev pub invariant-loop-element : goal.invariant-loop-element
invariant-loop-element l =
    AreWaiting l.arena l.waiting.frames.items l.waiting.elements.items
    × (l.waiting.elements.items ≡ take l.element-index l.elements)
    × ((b : Bool) → outcome l.structure l.arena [] l.waiting.frames.items b ≡ b)
