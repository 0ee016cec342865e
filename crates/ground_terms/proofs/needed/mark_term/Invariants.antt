use Rattle.std.proofs.Common.{List, Bool}
use Rattle.form_formula.specs.Nodes.{IsTerm, term_of}
use Rattle.form_terms.specs.Parts.{sorts_in}
use Rattle.ground_terms.specs.Codes.{AreMarked}
use Rattle.ground_terms.proofs.needed.mark_term.Given as goal

abbrev pub invariant-down : goal.invariant-down
invariant-down l =
    IsTerm l.arena l.at
    × ((final : List Bool) → AreMarked (sorts_in l.signature (term_of l.arena l.at)) l.marks final
    → AreMarked (sorts_in l.signature (term_of l.arena l.id)) l.initial.marks final)

abbrev pub decreases-down : goal.decreases-down
decreases-down l = l.at
