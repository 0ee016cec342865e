-- Words, numbers and texts, as they are printed, are tokens with what they say.
use Rattle.std.proofs.Common.{◌≡◌, ◌≤◌, not, ℕ, true, List, [], ◌∷◌, length, refl, sym, ◌∙◌, ap, subst, arith, le-leb}
use Rattle.std.specs.Prelude.{nat_le, nat_lt}
use Rattle.std.specs.Char.{is_ascii_lowercase, is_ascii_uppercase}
use Rattle.std.specs.Fmt.{decimal}
use Rattle.std.specs.Str.{bytes_eq}
use Rattle.std.specs.Str.Parse.{digits_value}
use Rattle.std.specs.List.{list_all}
use Rattle.std.proofs.lemmas.Bool.Decides.{nat_tests}
use Rattle.text_lexer.specs.declared.limits.TheConstants.{LARGEST_NUMBER}
use Rattle.text_lexer.specs.declared.token.TokenKind.TheVariants as k
use Rattle.text_lexer.specs.Lexeme.{is_run, is_word_byte}
use Rattle.text_lexer.specs.Written.{IsPart}
use Rattle.text_ast.specs.Pieces.{Piece}
use Rattle.text_ast.specs.Words.{IsText, is_reserved_lower, is_reserved_upper}
use Rattle.text_tree.specs.Forms.{Literal, Lower, Negated, Plain, Sign, Spells, Upper, Word, admits, largest, same_kind, token}
use Rattle.text_tree.specs.LiteralValue.{literal_value}
use Rattle.text_print.specs.Marks.{quoted}
use Rattle.type_schema.specs.Trees.{Name}
use Rattle.data_tree.specs.Grammar.{keyword, sign}
use Rattle.text_print.proofs.Literals.{quoted_literal, quoted_utf8, value_is}
use Rattle.text_print.proofs.Tokens.{and_true, at, both_true, bytes_of, is_ascii, part_of, same_kind_as, word_is}
use Rattle.text_print.proofs.Canonical.{lexeme}
use Rattle.data_read.specs.Words.{IsFieldName, IsModelName}
use Rattle.data_read.proofs.Forms.{Any, Pieces, Told, told-token}
use Rattle.data_read.proofs.Numbers.{number-part, value-of}

-- ---- words are of ASCII

low-byte : (b : ℕ) → is_word_byte b ≡ true → nat_lt b 128 ≡ true
low-byte b h = grind (arith, nat_tests)

low-first : (b : ℕ) → is_ascii_lowercase b ≡ true → nat_lt b 128 ≡ true
low-first b h = grind (arith, nat_tests)

high-first : (b : ℕ) → is_ascii_uppercase b ≡ true → nat_lt b 128 ≡ true
high-first b h = grind (arith, nat_tests)

low-rest : (bytes : List ℕ) → list_all is_word_byte bytes ≡ true → is_ascii bytes ≡ true
low-rest [] h = refl
low-rest (b ∷ bytes) h =
    let parts = both_true (is_word_byte b) (list_all is_word_byte bytes) h in and_true (nat_lt b 128) (is_ascii bytes) (low-byte b parts.0) (low-rest bytes parts.1)

low-word : (bytes : List ℕ) → is_run is_ascii_lowercase is_word_byte bytes ≡ true → is_ascii bytes ≡ true
low-word [] h = refl
low-word (b ∷ bytes) h =
    let parts = both_true (is_ascii_lowercase b) (list_all is_word_byte bytes) h in and_true (nat_lt b 128) (is_ascii bytes) (low-first b parts.0) (low-rest bytes parts.1)

high-word : (bytes : List ℕ) → is_run is_ascii_uppercase is_word_byte bytes ≡ true → is_ascii bytes ≡ true
high-word [] h = refl
high-word (b ∷ bytes) h =
    let parts = both_true (is_ascii_uppercase b) (list_all is_word_byte bytes) h in and_true (nat_lt b 128) (is_ascii bytes) (high-first b parts.0) (low-rest bytes parts.1)

module _ (S : Pieces) where
  -- ---- words

  told-word : (word : List ℕ) → IsPart (at k.Lower word) → Told Any (Spells S (keyword word)) (at k.Lower word ∷ [])
  unfolding admits
  told-word word part =
      told-token S (Word k.Lower word) (at k.Lower word) Any part
      (λ p e. (
        tt,
        and_true (same_kind p.kind k.Lower) (bytes_eq p.bytes word) (same_kind_as p k.Lower word e)
            (subst (λ z. bytes_eq z word ≡ true) (sym (bytes_of p k.Lower word e)) (word_is word)),
      ))

  pub told-keyword : (word : List ℕ) → is_run is_ascii_lowercase is_word_byte word ≡ true → length word ≤ 64 → is_ascii word ≡ true
      → Told Any (Spells S (keyword word)) (at k.Lower word ∷ [])
  told-keyword word run few ascii = told-word word (part_of (at k.Lower word) (record { form = run; limits = few }) ascii)

  pub told-field-name : (name : Name) → IsFieldName name → Told (λ p. p.bytes ≡ name) (Spells S (token Lower)) (at k.Lower name ∷ [])
  unfolding admits
  told-field-name name is =
      told-token S Lower (at k.Lower name) (λ p. p.bytes ≡ name) (part_of (at k.Lower name) is.word (low-word name is.word.form))
      (λ p e. (
        bytes_of p k.Lower name e,
        and_true (same_kind p.kind k.Lower) (not (is_reserved_lower p.bytes)) (same_kind_as p k.Lower name e)
            (subst (λ z. not (is_reserved_lower z) ≡ true) (sym (bytes_of p k.Lower name e)) (ap not is.free)),
      ))

  pub told-model-name : (name : Name) → IsModelName name → Told (λ p. p.bytes ≡ name) (Spells S (token Upper)) (at k.Upper name ∷ [])
  unfolding admits
  told-model-name name is =
      told-token S Upper (at k.Upper name) (λ p. p.bytes ≡ name) (part_of (at k.Upper name) is.word (high-word name is.word.form))
      (λ p e. (
        bytes_of p k.Upper name e,
        and_true (same_kind p.kind k.Upper) (not (is_reserved_upper p.bytes)) (same_kind_as p k.Upper name e)
            (subst (λ z. not (is_reserved_upper z) ≡ true) (sym (bytes_of p k.Upper name e)) (ap not is.free)),
      ))

  -- ---- numbers

  value-is : (p : Piece) (n : ℕ) → n ≤ LARGEST_NUMBER → lexeme p ≡ at k.Number (decimal n) → digits_value 10 p.bytes ≡ n
  value-is p n low e = ap (digits_value 10) (bytes_of p k.Number (decimal n) e) ∙ value-of n low

  pub told-digits : (n : ℕ) → n ≤ LARGEST_NUMBER → Told (λ p. digits_value 10 p.bytes ≡ n) (Spells S (sign k.Number)) (at k.Number (decimal n) ∷ [])
  unfolding admits
  told-digits n low =
      told-token S (Sign k.Number) (at k.Number (decimal n)) (λ p. digits_value 10 p.bytes ≡ n) (number-part n low)
      (λ p e. (value-is p n low e, same_kind_as p k.Number (decimal n) e))

  pub told-plain : (n : ℕ) → n ≤ largest → Told (λ p. digits_value 10 p.bytes ≡ n) (Spells S (token Plain)) (at k.Number (decimal n) ∷ [])
  unfolding admits
  told-plain n small =
      let low : n ≤ LARGEST_NUMBER = omega (arith, small) in
      told-token S Plain (at k.Number (decimal n)) (λ p. digits_value 10 p.bytes ≡ n) (number-part n low)
      (λ p e. (
        value-is p n low e,
        and_true (same_kind p.kind k.Number) (nat_le (digits_value 10 p.bytes) largest) (same_kind_as p k.Number (decimal n) e)
            (subst (λ z. nat_le z largest ≡ true) (sym (value-is p n low e)) (le-leb n largest small)),
      ))

  pub told-negated : (n : ℕ) → 1 ≤ n → n ≤ LARGEST_NUMBER → Told (λ p. digits_value 10 p.bytes ≡ n) (Spells S (token Negated)) (at k.Number (decimal n) ∷ [])
  unfolding admits
  told-negated n some low =
      told-token S Negated (at k.Number (decimal n)) (λ p. digits_value 10 p.bytes ≡ n) (number-part n low)
      (λ p e. (
        value-is p n low e,
        and_true (same_kind p.kind k.Number) (nat_le 1 (digits_value 10 p.bytes)) (same_kind_as p k.Number (decimal n) e)
            (subst (λ z. nat_le 1 z ≡ true) (sym (value-is p n low e)) (le-leb 1 n some)),
      ))

  -- ---- texts

  pub told-text : (bytes : List ℕ) → IsText bytes → Told (λ p. literal_value p.bytes ≡ bytes) (Spells S (token Literal)) (at k.Text (quoted bytes) ∷ [])
  unfolding admits
  told-text bytes is =
      told-token S Literal (at k.Text (quoted bytes)) (λ p. literal_value p.bytes ≡ bytes)
      (record {
        lexeme = record { form = (bytes, quoted_literal bytes); limits = (bytes, quoted_literal bytes, is.short) };
        utf8 = quoted_utf8 bytes is.utf8;
      })
      (λ p e. (
        ap literal_value (bytes_of p k.Text (quoted bytes) e) ∙ value_is (quoted bytes) bytes (quoted_literal bytes),
        same_kind_as p k.Text (quoted bytes) e,
      ))
