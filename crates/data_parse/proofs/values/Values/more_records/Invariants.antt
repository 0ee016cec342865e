use Rattle.std.proofs.Common.{◌≡◌, ◌-◌, [], ◌∷◌}
use Rattle.std.specs.List.{fold}
use Rattle.text_lexer.specs.declared.token.TokenKind.TheVariants as k
use Rattle.text_tree.specs.Forms.{AnyNumber, Sign, each}
use Rattle.data_tree.specs.Grammar.{record_form}
use Rattle.text_grammar.specs.Reading.{made}
use Rattle.text_syntax.specs.Parts.{pushed}
use Rattle.text_syntax.proofs.Folds.{folded}
use Rattle.data_parse.specs.Reads.{reading}
use Rattle.data_parse.proofs.values.Values.more_records.Given as goal

abbrev pub invariant-loop-turn : goal.invariant-loop-turn
invariant-loop-turn l =
    made (fold pushed l.fn.found) (reading l.self.levels (each AnyNumber (record_form)) l.fn.cursor)
    ≡ folded pushed (Sign k.At ∷ []) (reading l.self.levels (record_form)) (l._turn-end - l._turn) l.found l.cursor
