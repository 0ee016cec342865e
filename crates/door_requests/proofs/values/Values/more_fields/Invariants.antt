use Rattle.std.proofs.Common.{◌≡◌, ◌-◌, [], ◌∷◌}
use Rattle.std.specs.List.{fold}
use Rattle.text_lexer.specs.declared.token.TokenKind.TheVariants as k
use Rattle.text_tree.specs.Forms.{AnyNumber, Sign, each}
use Rattle.door_requests.specs.Grammar.{field_form}
use Rattle.text_grammar.specs.Reading.{made}
use Rattle.text_syntax.specs.Parts.{pushed}
use Rattle.text_syntax.proofs.Folds.{folded}
use Rattle.door_requests.specs.Reads.{behind_comma, reading}
use Rattle.door_requests.proofs.values.Values.more_fields.Given as goal

abbrev pub invariant-loop-turn : goal.invariant-loop-turn
invariant-loop-turn l =
    made (fold pushed l.fn.found) (reading l.self.levels (each AnyNumber (behind_comma field_form)) l.fn.cursor)
    ≡ folded pushed (Sign k.Comma ∷ []) (reading l.self.levels (behind_comma field_form)) (l._turn-end - l._turn) l.found l.cursor
