-- The signs, by their bytes.
use Rattle.std.proofs.Common.{◌≡◌, ℕ, ◌<◌, Bool, true, false, ◌&&◌, cond, ◌⊎◌, inl, inr, List, [], ◌∷◌, slice_index, refl, eqb, Option, Some, lit<}
use Rattle.std.proofs.lemmas.Bool.{and_parts, eqb-true}
use Rattle.text_lexer.specs.declared.token.TokenKind.{TokenKind}
use Rattle.text_lexer.specs.declared.token.TokenKind.TheVariants.{Upper, Lower, Number, Text, ParenOpen, ParenClose, BracketOpen, BracketClose, BraceOpen, BraceClose, Comma, Colon, ColonColon, Dot, Arrow, Minus, Plus, EqEq, NotEq, Less, LessEq, Greater, GreaterEq, Not, AndAnd, OrOr, Bar, At}
use Rattle.text_lexer.specs.Front.{one_byte_sign, two_byte_sign}
use Rattle.text_lexer.specs.Lexeme.{HasForm, IsWithinLimits, sign_of}
use Rattle.text_lexer.proofs.Classes.{sign, class_of_kind}

-- the bytes of a sign are one or two, and the reader finds the sign by them
abbrev pub Bytes : TokenKind → Type 0
Bytes kind =
    ((a : ℕ) × (sign_of kind ≡ a ∷ []) × (one_byte_sign a ≡ Some kind) × (0 < a))
    ⊎ ((a b : ℕ) × (sign_of kind ≡ a ∷ b ∷ []) × (two_byte_sign a b ≡ Some kind) × (0 < b))

pub bytes_of_sign : (kind : TokenKind) → class_of_kind kind ≡ sign → Bytes kind
bytes_of_sign Upper e = absurd (cc)
bytes_of_sign Lower e = absurd (cc)
bytes_of_sign Number e = absurd (cc)
bytes_of_sign Text e = absurd (cc)
bytes_of_sign ColonColon e = let s = sign_of ColonColon in inr (slice_index s 0, slice_index s 1, refl, refl, lit< tt)
bytes_of_sign Arrow e = let s = sign_of Arrow in inr (slice_index s 0, slice_index s 1, refl, refl, lit< tt)
bytes_of_sign EqEq e = let s = sign_of EqEq in inr (slice_index s 0, slice_index s 1, refl, refl, lit< tt)
bytes_of_sign NotEq e = let s = sign_of NotEq in inr (slice_index s 0, slice_index s 1, refl, refl, lit< tt)
bytes_of_sign LessEq e = let s = sign_of LessEq in inr (slice_index s 0, slice_index s 1, refl, refl, lit< tt)
bytes_of_sign GreaterEq e = let s = sign_of GreaterEq in inr (slice_index s 0, slice_index s 1, refl, refl, lit< tt)
bytes_of_sign AndAnd e = let s = sign_of AndAnd in inr (slice_index s 0, slice_index s 1, refl, refl, lit< tt)
bytes_of_sign OrOr e = let s = sign_of OrOr in inr (slice_index s 0, slice_index s 1, refl, refl, lit< tt)
bytes_of_sign kind e = let s = sign_of kind in inl (slice_index s 0, refl, refl, lit< tt)

pub form_of_sign : (kind : TokenKind) (bytes : List ℕ) → class_of_kind kind ≡ sign → bytes ≡ sign_of kind → HasForm kind bytes
form_of_sign Upper bytes e h = absurd (cc)
form_of_sign Lower bytes e h = absurd (cc)
form_of_sign Number bytes e h = absurd (cc)
form_of_sign Text bytes e h = absurd (cc)
form_of_sign _ bytes e h = h

pub limits_of_sign : (kind : TokenKind) (bytes : List ℕ) → class_of_kind kind ≡ sign → IsWithinLimits kind bytes
limits_of_sign Upper bytes e = absurd (cc)
limits_of_sign Lower bytes e = absurd (cc)
limits_of_sign Number bytes e = absurd (cc)
limits_of_sign Text bytes e = absurd (cc)
limits_of_sign _ bytes e = tt

-- what the reader finds is a sign of these bytes
abbrev pub IsSignOf : TokenKind → List ℕ → Type 0
IsSignOf kind bytes = (sign_of kind ≡ bytes) × (class_of_kind kind ≡ sign)

one_or : (a c : ℕ) (found kind : TokenKind) (others : Option TokenKind) → IsSignOf found (c ∷ []) → (others ≡ Some kind → IsSignOf kind (a ∷ [])) → cond (eqb a c) (Some found) others ≡ Some kind → IsSignOf kind (a ∷ [])
one_or a c found kind others is next e = go (eqb a c) refl e
  where
    go : (t : Bool) → eqb a c ≡ t → cond t (Some found) others ≡ Some kind → IsSignOf kind (a ∷ [])
    go true same e =
        let here : found ≡ kind = cc in
        let byte = eqb-true a c same in
        rw (← here) (rw byte is)
    go false other e = next e

two_or : (a b c d : ℕ) (found kind : TokenKind) (others : Option TokenKind) → IsSignOf found (c ∷ d ∷ []) → (others ≡ Some kind → IsSignOf kind (a ∷ b ∷ [])) → cond (eqb a c && eqb b d) (Some found) others ≡ Some kind → IsSignOf kind (a ∷ b ∷ [])
two_or a b c d found kind others is next e = go (eqb a c && eqb b d) refl e
  where
    go : (t : Bool) → (eqb a c && eqb b d) ≡ t → cond t (Some found) others ≡ Some kind → IsSignOf kind (a ∷ b ∷ [])
    go true same e =
        let here : found ≡ kind = cc in
        let parts = and_parts (eqb a c) (eqb b d) same in
        let first = eqb-true a c parts.0 in
        let second = eqb-true b d parts.1 in
        rw (← here) (rw (first, second) is)
    go false other e = next e

pub one_byte_sign-is : (a : ℕ) (kind : TokenKind) → one_byte_sign a ≡ Some kind → IsSignOf kind (a ∷ [])
one_byte_sign-is a kind =
    one_or a 40 ParenOpen kind _ (refl, refl) (
    one_or a 41 ParenClose kind _ (refl, refl) (
    one_or a 91 BracketOpen kind _ (refl, refl) (
    one_or a 93 BracketClose kind _ (refl, refl) (
    one_or a 123 BraceOpen kind _ (refl, refl) (
    one_or a 125 BraceClose kind _ (refl, refl) (
    one_or a 44 Comma kind _ (refl, refl) (
    one_or a 58 Colon kind _ (refl, refl) (
    one_or a 46 Dot kind _ (refl, refl) (
    one_or a 45 Minus kind _ (refl, refl) (
    one_or a 43 Plus kind _ (refl, refl) (
    one_or a 60 Less kind _ (refl, refl) (
    one_or a 62 Greater kind _ (refl, refl) (
    one_or a 33 Not kind _ (refl, refl) (
    one_or a 124 Bar kind _ (refl, refl) (
    one_or a 64 At kind _ (refl, refl) (
    λ e. absurd (cc)))))))))))))))))

pub two_byte_sign-is : (a b : ℕ) (kind : TokenKind) → two_byte_sign a b ≡ Some kind → IsSignOf kind (a ∷ b ∷ [])
two_byte_sign-is a b kind =
    two_or a b 58 58 ColonColon kind _ (refl, refl) (
    two_or a b 45 62 Arrow kind _ (refl, refl) (
    two_or a b 61 61 EqEq kind _ (refl, refl) (
    two_or a b 33 61 NotEq kind _ (refl, refl) (
    two_or a b 60 61 LessEq kind _ (refl, refl) (
    two_or a b 62 61 GreaterEq kind _ (refl, refl) (
    two_or a b 38 38 AndAnd kind _ (refl, refl) (
    two_or a b 124 124 OrOr kind _ (refl, refl) (
    λ e. absurd (cc)))))))))
