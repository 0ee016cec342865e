use Rattle.std.proofs.Common.{◌≡◌, ◌-◌}
use Rattle.std.specs.List.{fold}
use Rattle.text_tree.specs.Forms.{each, AnyNumber, first}
use Rattle.text_tree.specs.ExprGrammar.{set_step, step}
use Rattle.text_tree.specs.Texts.{first_of}
use Rattle.text_grammar.specs.Reading.{made}
use Rattle.text_syntax.specs.Reads.{reading}
use Rattle.text_syntax.proofs.Folds.{folded}
use Rattle.text_syntax.proofs.grammar.Grammar.set_steps.Given as goal

abbrev pub invariant-loop-turn : goal.invariant-loop-turn
invariant-loop-turn g l =
    made (fold step l.fn.of) (reading l.self.levels (each AnyNumber set_step) l.fn.cursor)
    ≡ folded step (first first_of set_step) (reading l.self.levels set_step) (l._turn-end - l._turn) l.of l.cursor
