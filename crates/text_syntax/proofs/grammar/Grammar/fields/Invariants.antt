use Rattle.std.proofs.Common.{◌≡◌, ◌-◌, [], ◌∷◌}
use Rattle.std.specs.List.{fold}
use Rattle.text_lexer.specs.declared.token.TokenKind.TheVariants as k
use Rattle.text_tree.specs.Forms.{Sign, each, AnyNumber}
use Rattle.text_tree.specs.ExprGrammar.{get}
use Rattle.text_grammar.specs.Reading.{made}
use Rattle.text_syntax.specs.Parts.{field_form}
use Rattle.text_syntax.specs.Reads.{reading}
use Rattle.text_syntax.proofs.Folds.{folded}
use Rattle.text_syntax.proofs.grammar.Grammar.fields.Given as goal

abbrev pub invariant-loop-turn : goal.invariant-loop-turn
invariant-loop-turn g l =
    made (fold get l.fn.of) (reading l.self.levels (each AnyNumber field_form) l.fn.cursor)
    ≡ folded get (Sign k.Dot ∷ []) (reading l.self.levels field_form) (l._turn-end - l._turn) l.of l.cursor
