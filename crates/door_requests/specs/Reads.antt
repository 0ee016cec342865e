-- The readers of the forms of requests.
use Rattle.std.specs.Prelude.{ℕ, List, ◌∷◌}
use Rattle.text_lexer.specs.declared.token.TokenKind.TheVariants as k
use Rattle.text_grammar.specs.Reading.{Reader, read, read_part}
use Rattle.door_requests.specs.Grammar.{G, behind, rule, sign}
use Rattle.door_requests.specs.Texts.{first_of}

-- the reader of a form in which values nest so many levels deep
abbrev pub reading : {A : Type 0} → ℕ → G A → Reader A
reading levels f = read first_of (read_part rule first_of levels) f

-- one more of a list
abbrev pub behind_comma : {A : Type 0} → G A → G A
behind_comma f = behind (sign k.Comma) f

abbrev pub cons_pair : {A : Type 0} → A × List A → List A
cons_pair v = v.0 ∷ v.1
