use Rattle.std.proofs.Common.{◌≡◌, ◌-◌, [], ◌∷◌}
use Rattle.std.specs.List.{fold}
use Rattle.text_lexer.specs.declared.token.TokenKind.TheVariants as k
use Rattle.text_tree.specs.Forms.{Sign, each, AnyNumber}
use Rattle.text_grammar.specs.Reading.{made}
use Rattle.text_syntax.specs.Parts.{or_form, or_of}
use Rattle.text_syntax.specs.Reads.{reading}
use Rattle.text_syntax.proofs.Folds.{folded}
use Rattle.text_syntax.proofs.grammar.Grammar.ors_right.Given as goal

abbrev pub invariant-loop-turn : goal.invariant-loop-turn
invariant-loop-turn g l =
    made (fold or_of l.fn.left) (reading l.self.levels (each AnyNumber or_form) l.fn.cursor)
    ≡ folded or_of (Sign k.OrOr ∷ []) (reading l.self.levels or_form) (l._turn-end - l._turn) l.left l.cursor
