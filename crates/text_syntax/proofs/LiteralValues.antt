-- What a literal stands for is what the function on its bytes gives.
use Rattle.std.proofs.Common.{◌≡◌, ℕ, ◌+◌, ◌*◌, ◌/◌, ◌%◌, ◌≤◌, inl, inr, List, [], ◌∷◌, ◌++◌, refl, sym, ◌∙◌, ap, arith, eqb, true, false, Some, append_assoc}
use Rattle.std.specs.Char.{digit_char, digit_value}
use Rattle.std.proofs.lemmas.Bool.{eqb-true}
use Rattle.std.proofs.lemmas.Bool.Decides.{nat_tests}
use Rattle.text_lexer.specs.Literal.{IsLiteral, WritesByte, Writes, escaped, is_raw}
use Rattle.text_lexer.proofs.Literals.{cond_found}
use Rattle.text_lexer.proofs.Values.{hex_parts}
use Rattle.text_tree.specs.LiteralValue.{literal_value, value_from}

raw_value : (byte : ℕ) (rest : List ℕ) → is_raw byte ≡ true → value_from 0 (byte ∷ rest) ≡ byte ∷ value_from 0 rest
raw_value byte rest raw =
    let quote : eqb byte 34 ≡ false = grind (arith, nat_tests) in
    let slash : eqb byte 92 ≡ false = grind (arith, nat_tests) in
    rw (quote, slash) refl

escape_is : (letter byte : ℕ) (rest : List ℕ) → escaped letter ≡ Some byte → value_from 0 (92 ∷ letter ∷ rest) ≡ byte ∷ value_from 0 rest
escape_is letter byte rest h = elim (cond_found (eqb letter 34) _ _ _ h) [
  | inl q ↦ let is = eqb-true letter 34 q.0 in let to : 34 ≡ byte = let e = q.1 in cc in rw (is, ← to) refl
  | inr a ↦ elim (cond_found (eqb letter 92) _ _ _ a.1) [
    | inl q ↦ let is = eqb-true letter 92 q.0 in let to : 92 ≡ byte = let e = q.1 in cc in rw (is, ← to) refl
    | inr b ↦ elim (cond_found (eqb letter 110) _ _ _ b.1) [
      | inl q ↦ let is = eqb-true letter 110 q.0 in let to : 10 ≡ byte = let e = q.1 in cc in rw (is, ← to) refl
      | inr d ↦ elim (cond_found (eqb letter 114) _ _ _ d.1) [
        | inl q ↦ let is = eqb-true letter 114 q.0 in let to : 13 ≡ byte = let e = q.1 in cc in rw (is, ← to) refl
        | inr f ↦ elim (cond_found (eqb letter 116) _ _ _ f.1) [
          | inl q ↦ let is = eqb-true letter 116 q.0 in let to : 9 ≡ byte = let e = q.1 in cc in rw (is, ← to) refl
          | inr g ↦ absurd (let e = g.1 in cc)
        ]
      ]
    ]
  ]
]

hex_is : (byte : ℕ) (rest : List ℕ) → byte ≤ 127
    → value_from 0 (92 ∷ 120 ∷ digit_char (byte / 16) ∷ digit_char (byte % 16) ∷ rest) ≡ byte ∷ value_from 0 rest
hex_is byte rest small =
    let e : digit_value (digit_char (byte / 16)) * 16 + digit_value (digit_char (byte % 16)) ≡ byte = omega (arith, hex_parts byte small) in
    ap (λ (z : ℕ). z ∷ value_from 0 rest) e

character_value : (written rest : List ℕ) (byte : ℕ) → WritesByte written byte → value_from 0 (written ++ rest) ≡ byte ∷ value_from 0 rest
character_value written rest byte (inl raw) = rw raw.0 (raw_value byte rest raw.1)
character_value written rest byte (inr (inl escape)) = rw escape.1 (escape_is escape.0 byte rest escape.2)
character_value written rest byte (inr (inr hex)) = rw hex.1 (hex_is byte rest hex.0)

inside_value : (value inside : List ℕ) → Writes inside value → value_from 0 (inside ++ 34 ∷ []) ≡ value
inside_value [] inside h = rw h refl
inside_value (byte ∷ value) inside (written, rest, is, first, others) =
    rw (is, append_assoc) (character_value written (rest ++ 34 ∷ []) byte first ∙ ap (λ (z : List ℕ). byte ∷ z) (inside_value value rest others))

pub literal_is : (bytes value : List ℕ) → IsLiteral bytes value → value ≡ literal_value bytes
literal_is bytes value (inside, is, writes) = rw is (sym (inside_value value inside writes))
