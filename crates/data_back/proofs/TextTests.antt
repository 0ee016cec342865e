-- The test on texts.
use Rattle.std.proofs.Common.{◌≡◌, ℕ, ◌≤◌, Bool, true, false, ◌&&◌, List, length, refl}
use Rattle.std.specs.Prelude.{nat_le}
use Rattle.std.specs.Str.{is_utf8}
use Rattle.std.proofs.lemmas.Bool.{le-leb, leb-true}
use Rattle.std.proofs.lemmas.Str.{IsUtf8-from_is_utf8, is_utf8-from_IsUtf8}
use Rattle.text_ast.specs.Words.{IsText}
use Rattle.text_lexer.specs.declared.limits.TheConstants.{MOST_TEXT_BYTES}
use Rattle.data_back.specs.Back.{is_text}

pub is-text : (bytes : List ℕ) → IsText bytes → is_text bytes ≡ true
is-text bytes is = rw (le-leb (length bytes) MOST_TEXT_BYTES is.short, is_utf8-from_IsUtf8 bytes is.utf8) refl

pub not-text : (bytes : List ℕ) → (IsText bytes → ⊥) → is_text bytes ≡ false
not-text bytes other =
    elim (nat_le (length bytes) MOST_TEXT_BYTES) as (λ (b : Bool). nat_le (length bytes) MOST_TEXT_BYTES ≡ b → (b && is_utf8 bytes) ≡ false) [
      | false ↦ λ _. refl
      | true ↦ λ short.
          elim (is_utf8 bytes) as (λ (b : Bool). is_utf8 bytes ≡ b → b ≡ false) [
            | false ↦ λ _. refl
            | true ↦ λ utf8. absurd (other record { utf8 = IsUtf8-from_is_utf8 bytes utf8; short = leb-true (length bytes) MOST_TEXT_BYTES short })
          ] refl
    ] refl
