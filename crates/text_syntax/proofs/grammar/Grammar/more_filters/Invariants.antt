use Rattle.std.proofs.Common.{◌≡◌, ◌-◌, [], ◌∷◌}
use Rattle.std.specs.List.{fold}
use Rattle.text_lexer.specs.declared.token.TokenKind.TheVariants as k
use Rattle.text_tree.specs.Forms.{Sign, each, AnyNumber}
use Rattle.text_tree.specs.ExprGrammar.{filter_form}
use Rattle.text_grammar.specs.Reading.{made}
use Rattle.text_syntax.specs.Parts.{behind_comma, pushed}
use Rattle.text_syntax.specs.Reads.{reading}
use Rattle.text_syntax.proofs.Folds.{folded}
use Rattle.text_syntax.proofs.grammar.Grammar.more_filters.Given as goal

abbrev pub invariant-loop-turn : goal.invariant-loop-turn
invariant-loop-turn g l =
    made (fold pushed l.fn.found) (reading l.self.levels (each AnyNumber (behind_comma filter_form)) l.fn.cursor)
    ≡ folded pushed (Sign k.Comma ∷ []) (reading l.self.levels (behind_comma filter_form)) (l._turn-end - l._turn) l.found l.cursor
