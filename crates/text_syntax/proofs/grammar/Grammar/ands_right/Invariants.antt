use Rattle.std.proofs.Common.{◌≡◌, ◌-◌, [], ◌∷◌}
use Rattle.std.specs.List.{fold}
use Rattle.text_lexer.specs.declared.token.TokenKind.TheVariants as k
use Rattle.text_tree.specs.Forms.{Sign, each, AnyNumber}
use Rattle.text_grammar.specs.Reading.{made}
use Rattle.text_syntax.specs.Parts.{and_form, and_of}
use Rattle.text_syntax.specs.Reads.{reading}
use Rattle.text_syntax.proofs.Folds.{folded}
use Rattle.text_syntax.proofs.grammar.Grammar.ands_right.Given as goal

abbrev pub invariant-loop-turn : goal.invariant-loop-turn
invariant-loop-turn g l =
    made (fold and_of l.fn.left) (reading l.self.levels (each AnyNumber and_form) l.fn.cursor)
    ≡ folded and_of (Sign k.AndAnd ∷ []) (reading l.self.levels and_form) (l._turn-end - l._turn) l.left l.cursor
