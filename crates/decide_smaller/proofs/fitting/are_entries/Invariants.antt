use Rattle.std.proofs.Common.{ℕ, ◌<◌, Option, get_or}
use Rattle.form_formula.specs.declared.structure.SVal.{SVal}
use Rattle.form_terms.specs.Structures.{IsEntryOf}
use Rattle.decide_smaller.proofs.fitting.are_entries.Given as goal

abbrev pub invariant-loop-entry : goal.invariant-loop-entry
invariant-loop-entry l = (k : ℕ) (d : Option SVal) → k < l.entry-index → IsEntryOf l.structure l.sig (get_or l.table k d)
