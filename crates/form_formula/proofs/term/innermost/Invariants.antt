use Rattle.std.proofs.Common.{◌≡◌}
use Rattle.form_formula.specs.Nodes.{IsTerm, term_of}
use Rattle.form_formula.specs.Truth.{value_of}
use Rattle.form_formula.specs.Values.{applied}
use Rattle.form_formula.proofs.term.innermost.Given as goal

abbrev pub invariant-loop-f : goal.invariant-loop-f
invariant-loop-f l =
    IsTerm l.reading.arena.now l.at
    × (applied l.reading.structure.now l.functions.items (value_of l.reading.structure.now l.reading.elements.now (term_of l.reading.arena.now l.at))
    ≡ value_of l.reading.structure.now l.reading.elements.now (term_of l.reading.arena.now l.id))

abbrev pub decreases-loop-f : goal.decreases-loop-f
decreases-loop-f l = l.at
