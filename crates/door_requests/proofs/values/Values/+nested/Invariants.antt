use Rattle.std.proofs.Common.{◌≡◌, ◌+◌, ◌-◌, ◌*◌, [], ◌∷◌}
use Rattle.std.specs.List.{fold}
use Rattle.text_lexer.specs.declared.token.TokenKind.TheVariants as k
use Rattle.text_tree.specs.Forms.{AnyNumber, Sign, each, part}
use Rattle.text_grammar.specs.Reading.{made}
use Rattle.text_syntax.specs.Parts.{pushed}
use Rattle.text_syntax.proofs.Folds.{folded}
use Rattle.door_requests.specs.Reads.{behind_comma, reading}
use Rattle.door_requests.proofs.values.Values.+nested.Given as goal

abbrev pub decreases-value : goal.decreases-value
decreases-value l = l.self.now.levels * 16

abbrev pub decreases-more_value : goal.decreases-more_value
decreases-more_value l = l.self.now.levels * 16 + 1

abbrev pub decreases-more_values : goal.decreases-more_values
decreases-more_values l = l.self.now.levels * 16 + 2

abbrev pub decreases-some_values : goal.decreases-some_values
decreases-some_values l = l.self.now.levels * 16 + 3

abbrev pub decreases-values : goal.decreases-values
decreases-values l = l.self.now.levels * 16 + 4

abbrev pub decreases-option : goal.decreases-option
decreases-option l = l.self.now.levels * 16 + 1

abbrev pub decreases-list : goal.decreases-list
decreases-list l = l.self.now.levels * 16 + 5

abbrev pub decreases-common : goal.decreases-common
decreases-common l = l.self.now.levels * 16 + 6

abbrev pub decreases-in_row : goal.decreases-in_row
decreases-in_row l = l.self.now.levels * 16 + 7

abbrev pub decreases-any : goal.decreases-any
decreases-any l = l.self.now.levels * 16 + 8

abbrev pub invariant-more_values-loop-turn : goal.invariant-more_values-loop-turn
invariant-more_values-loop-turn l =
    made (fold pushed l.fn.found) (reading l.self.levels (each AnyNumber (behind_comma (part l.self.place))) l.fn.cursor)
    ≡ folded pushed (Sign k.Comma ∷ []) (reading l.self.levels (behind_comma (part l.self.place))) (l._turn-end - l._turn) l.found l.cursor
