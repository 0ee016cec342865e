use Rattle.std.proofs.Common.{◌≡◌, ◌-◌}
use Rattle.text_tree.specs.ExprGrammar.{step, steps}
use Rattle.text_grammar.specs.Reading.{made}
use Rattle.text_syntax.specs.Reads.{reading}
use Rattle.text_syntax.proofs.Chaining.{chained}
use Rattle.text_syntax.proofs.Chained.{step_chain}
use Rattle.text_syntax.proofs.grammar.Grammar.steps.Given as goal

abbrev pub invariant-loop-turn : goal.invariant-loop-turn
invariant-loop-turn g l =
    made (step l.fn.of) (reading l.self.levels steps l.fn.cursor) ≡ chained (step_chain l.self.levels) (l._turn-end - l._turn) l.of l.cursor
