use Rattle.std.proofs.Common.{◌≡◌, ◌-◌}
use Rattle.std.specs.List.{fold}
use Rattle.text_tree.specs.declared.exprs.SetExpr.TheVariants as s
use Rattle.text_tree.specs.ExprGrammar.{get}
use Rattle.text_grammar.specs.Reading.{made}
use Rattle.text_syntax.specs.Parts.{chain_form}
use Rattle.text_syntax.specs.Reads.{reading}
use Rattle.text_syntax.proofs.Chaining.{chained}
use Rattle.text_syntax.proofs.Chained.{field_chain}
use Rattle.text_syntax.proofs.grammar.Grammar.chain.Given as goal

abbrev pub invariant-loop-turn : goal.invariant-loop-turn
invariant-loop-turn g l =
    made (λ v. v.1 (s.Path l.fn.at (fold get l.fn.of v.0))) (reading l.self.levels chain_form l.fn.cursor)
    ≡ chained (field_chain l.self.levels l.fn.at) (l._turn-end - l._turn) l.of l.cursor
