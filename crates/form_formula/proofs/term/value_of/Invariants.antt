use Rattle.std.proofs.Common.{◌≡◌}
use Rattle.std.specs.Prelude.{vec_len}
use Rattle.std.specs.Option.{option_map}
use Rattle.form_formula.specs.Nodes.{term_of}
use Rattle.form_formula.specs.Truth.{value_of}
use Rattle.form_formula.specs.Values.{sval_of, applied}
use Rattle.form_formula.proofs.term.value_of.Given as goal

abbrev pub invariant-loop-f : goal.invariant-loop-f
invariant-loop-f l =
    applied l.reading.structure.now l.functions.items (option_map sval_of l.value) ≡ value_of l.reading.structure.now l.reading.elements.now (term_of l.reading.arena.now l.id)

abbrev pub decreases-loop-f : goal.decreases-loop-f
decreases-loop-f l = vec_len l.functions
