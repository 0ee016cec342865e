-- Numbers and literals, as they are printed.
use Rattle.std.proofs.Common.{◌≡◌, ◌<◌, ℕ, true, false, ◌-◌, eqb, List, [], ◌∷◌, length, take, get_or, refl, sym, ◌∙◌, ap, subst, arith}
use Rattle.std.specs.Prelude.{nat_le}
use Rattle.std.specs.Char.{is_ascii_digit}
use Rattle.std.specs.Fmt.{decimal}
use Rattle.std.specs.List.{list_all}
use Rattle.std.specs.Str.{all_ascii_digits}
use Rattle.std.specs.Str.Parse.{digits_value}
use Rattle.std.proofs.lemmas.Fmt.{decimal-digits_value}
use Rattle.std.proofs.lemmas.Str.Parse.{numerals_by_value, tells_all_ascii_digits}
use Rattle.text_lexer.specs.declared.token.TokenKind.TheVariants as k
use Rattle.text_lexer.specs.Lexeme.{has_needless_zero, is_run}
use Rattle.text_lexer.specs.Written.{IsPart}
use Rattle.text_ast.specs.Pieces.{Piece}
use Rattle.text_tree.specs.Forms.{Plain, Negated, Literal, admits, largest, same_kind}
use Rattle.text_tree.specs.LiteralValue.{literal_value}
use Rattle.text_lexer.specs.Literal.{IsLiteral}
use Rattle.text_lexer.proofs.Values.{literal_utf8}
use Rattle.std.specs.List.{slice_range}
use Rattle.std.specs.Str.{IsUtf8}
use Rattle.std.proofs.Math.Seq.{take-length}
use Rattle.text_print.specs.Marks.{quoted}
use Rattle.text_print.proofs.Literals.{quoted_literal, quoted_utf8, value_is}
use Rattle.text_print.proofs.Canonical.{Canonical, lexeme, one}
use Rattle.text_print.proofs.Tokens.{Pieces, Bytes, Tok, and_true, as_kind, at, both_true, bytes_of, same_kind_as}

-- ---- numbers

digits_all : (ds : List ℕ) → list_all is_ascii_digit ds ≡ true → all_ascii_digits ds ≡ true
digits_all [] e = refl
digits_all (d ∷ ds) e =
    let parts = both_true (is_ascii_digit d) (list_all is_ascii_digit ds) e in
    and_true (is_ascii_digit d) (all_ascii_digits ds) parts.0 (digits_all ds parts.1)

lone_zero : (ds : List ℕ) → 0 < length ds → has_needless_zero ds ≡ false → get_or ds 0 0 ≡ 48 → length ds ≡ 1
lone_zero [] some plain zero = absurd (omega arith)
lone_zero (d ∷ []) some plain zero = refl
lone_zero (d ∷ f ∷ ds) some plain zero =
    let test : eqb 48 48 ≡ false = subst (λ z. eqb z 48 ≡ false) zero plain in absurd (no test)
  where
    no : true ≡ false → ⊥
    no e = cc

some_digits : (ds : List ℕ) → is_run is_ascii_digit is_ascii_digit ds ≡ true → (0 < length ds) × (all_ascii_digits ds ≡ true)
some_digits [] e = absurd (no e)
  where
    no : false ≡ true → ⊥
    no e = cc
some_digits (d ∷ ds) e =
    let parts = both_true (is_ascii_digit d) (list_all is_ascii_digit ds) e in
    (omega arith, and_true (is_ascii_digit d) (all_ascii_digits ds) parts.0 (digits_all ds parts.1))

-- a number is printed as it stands
pub number_text : (bytes : List ℕ) → IsPart (at k.Number bytes) → decimal (digits_value 10 bytes) ≡ bytes
number_text bytes part =
    let digits = some_digits bytes part.lexeme.form in
    decimal-digits_value (numerals_by_value (λ ds. all_ascii_digits ds ≡ true) tells_all_ascii_digits) bytes digits.1 digits.0
    (lone_zero bytes digits.0 part.lexeme.limits.0) (omega (arith, part.lexeme.limits.1))

pub plain_token : (S : Pieces) (l : Piece) → IsPart (lexeme l) → admits Plain l ≡ true → Canonical (Bytes l.bytes) (Tok S Plain) (at k.Number l.bytes ∷ []) 1
unfolding admits
plain_token S l part h =
    let tests = both_true (same_kind l.kind k.Number) (nat_le (digits_value 10 l.bytes) largest) h in
    one (at k.Number l.bytes) (as_kind l k.Number tests.0 part)
    (λ m e. (
      m,
      bytes_of m k.Number l.bytes e,
      (
        refl,
        and_true (same_kind m.kind k.Number) (nat_le (digits_value 10 m.bytes) largest) (same_kind_as m k.Number l.bytes e)
            (subst (λ z. nat_le (digits_value 10 z) largest ≡ true) (sym (bytes_of m k.Number l.bytes e)) tests.1),
      ),
    ))

pub negated_token : (S : Pieces) (l : Piece) → IsPart (lexeme l) → admits Negated l ≡ true → Canonical (Bytes l.bytes) (Tok S Negated) (at k.Number l.bytes ∷ []) 1
unfolding admits
negated_token S l part h =
    let tests = both_true (same_kind l.kind k.Number) (nat_le 1 (digits_value 10 l.bytes)) h in
    one (at k.Number l.bytes) (as_kind l k.Number tests.0 part)
    (λ m e. (
      m,
      bytes_of m k.Number l.bytes e,
      (
        refl,
        and_true (same_kind m.kind k.Number) (nat_le 1 (digits_value 10 m.bytes)) (same_kind_as m k.Number l.bytes e)
            (subst (λ z. nat_le 1 (digits_value 10 z) ≡ true) (sym (bytes_of m k.Number l.bytes e)) tests.1),
      ),
    ))

-- ---- literals

whole_range : (bytes : List ℕ) → slice_range bytes 0 (length bytes) ≡ bytes
whole_range bytes = let none : length bytes - 0 ≡ length bytes = omega arith in ap (λ n. take n bytes) none ∙ take-length bytes

quoted_part : (bytes : List ℕ) → IsPart (at k.Text bytes) → IsPart (at k.Text (quoted (literal_value bytes)))
quoted_part bytes part =
    let value = part.lexeme.limits.0 in
    let literal : IsLiteral bytes value = part.lexeme.limits.1 in
    let same : literal_value bytes ≡ value = value_is bytes value literal in
    let utf8 : IsUtf8 value = literal_utf8 bytes 0 (length bytes) value part.utf8 (subst (λ (z : List ℕ). IsLiteral z value) (sym (whole_range bytes)) literal) in
    subst (λ z. IsPart (at k.Text (quoted z))) (sym same)
    (record {
      lexeme = record { form = (value, quoted_literal value); limits = (value, quoted_literal value, part.lexeme.limits.2) };
      utf8 = quoted_utf8 value utf8;
    })

quoted_value : (value : List ℕ) → literal_value (quoted value) ≡ value
quoted_value value = value_is (quoted value) value (quoted_literal value)

pub literal_token : (S : Pieces) (l : Piece) → IsPart (lexeme l) → admits Literal l ≡ true
    → Canonical (λ m. literal_value m.bytes ≡ literal_value l.bytes) (Tok S Literal) (at k.Text (quoted (literal_value l.bytes)) ∷ []) 1
unfolding admits
literal_token S l part h =
    one (at k.Text (quoted (literal_value l.bytes))) (quoted_part l.bytes (as_kind l k.Text h part))
    (λ m e. (
      m,
      ap literal_value (bytes_of m k.Text (quoted (literal_value l.bytes)) e) ∙ quoted_value (literal_value l.bytes),
      (
        refl,
        same_kind_as m k.Text (quoted (literal_value l.bytes)) e,
      ),
    ))
