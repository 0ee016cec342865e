-- A literal stands for one list of bytes, and one literal begins at a place.
use Rattle.std.proofs.Common.{◌≡◌, ℕ, ◌/◌, ◌%◌, ◌<◌, inl, inr, List, [], ◌∷◌, ◌++◌, length, take, drop, slice_index, refl, sym, ◌∙◌, ap, ap₂, arith, Some, Ok, append_assoc}
use Rattle.std.proofs.lemmas.Bool.{false≢true, eq-eqb}
use Rattle.std.proofs.lemmas.List.{take_at}
use Rattle.std.proofs.lemmas.Str.{digit_value-digit_char}
use Rattle.std.proofs.Math.Seq.{drop-append_seam}
use Rattle.std.specs.Char.{digit_char, digit_value}
use Rattle.text_lexer.specs.Literal.{IsLiteral, WritesByte, Writes, escaped}
use Rattle.text_lexer.specs.LiteralEnd.{character_front}
use Rattle.text_lexer.proofs.Literals.{read_character}

digit_only : (m n : ℕ) → m < 16 → n < 16 → digit_char m ≡ digit_char n → m ≡ n
digit_only m n low high e =
    sym (digit_value-digit_char m (omega arith)) ∙ ap digit_value e ∙ digit_value-digit_char n (omega arith)

-- written alike, bytes are alike
byte_only : (written : List ℕ) (byte other : ℕ) → WritesByte written byte → WritesByte written other → byte ≡ other
byte_only written byte other (inl raw) (inl raw') = let e : byte ∷ [] ≡ other ∷ [] = sym raw.0 ∙ raw'.0 in cc
byte_only written byte other (inl raw) (inr (inl escape)) =
    absurd (let e = sym raw.0 ∙ escape.1 in omega (arith, ap length e))
byte_only written byte other (inl raw) (inr (inr hex)) = absurd (let e = sym raw.0 ∙ hex.1 in omega (arith, ap length e))
byte_only written byte other (inr (inl escape)) (inl raw) =
    absurd (let e = sym raw.0 ∙ escape.1 in omega (arith, ap length e))
byte_only written byte other (inr (inl escape)) (inr (inl escape')) =
    let e : 92 ∷ escape.0 ∷ [] ≡ 92 ∷ escape'.0 ∷ [] = sym escape.1 ∙ escape'.1 in
    let letter : escape.0 ≡ escape'.0 = cc in
    let found : Some byte ≡ Some other = sym escape.2 ∙ ap escaped letter ∙ escape'.2 in
    cc
byte_only written byte other (inr (inl escape)) (inr (inr hex)) =
    absurd (let e = sym escape.1 ∙ hex.1 in omega (arith, ap length e))
byte_only written byte other (inr (inr hex)) (inl raw) = absurd (let e = sym raw.0 ∙ hex.1 in omega (arith, ap length e))
byte_only written byte other (inr (inr hex)) (inr (inl escape)) =
    absurd (let e = sym escape.1 ∙ hex.1 in omega (arith, ap length e))
byte_only written byte other (inr (inr hex)) (inr (inr hex')) =
    let e = sym hex.1 ∙ hex'.1 in
    let high : digit_char (byte / 16) ≡ digit_char (other / 16) = cc in
    let low : digit_char (byte % 16) ≡ digit_char (other % 16) = cc in
    let quotient = digit_only (byte / 16) (other / 16) (omega (arith, hex.0)) (omega (arith, hex'.0)) high in
    let rest = digit_only (byte % 16) (other % 16) (omega arith) (omega arith) low in
    omega (arith, quotient, rest)

pub character_only : (written others written' others' : List ℕ) (byte byte' : ℕ) → WritesByte written byte → WritesByte written' byte' → written ++ others ≡ written' ++ others' → (written ≡ written') × (byte ≡ byte') × (others ≡ others')
character_only written others written' others' byte byte' w w' e =
    let one = (read_character 0 written others byte w).read in
    let two = (read_character 0 written' others' byte' w').read in
    let lens : Ok (length written) ≡ Ok (length written') = sym one ∙ ap (character_front 0) e ∙ two in
    let len : length written ≡ length written' = cc in
    let same : written ≡ written' = sym (take_at written others (length written) refl) ∙ ap₂ take len e ∙ take_at written' others' (length written') refl in
    let after : others ≡ others' = sym (drop-append_seam written others) ∙ ap₂ drop len e ∙ drop-append_seam written' others' in
    (same, byte_only written' byte byte' (rw same at w) w', after)

-- a character begins with no quote
no_quote_first : (written others after : List ℕ) (byte : ℕ) → WritesByte written byte → ¬ (written ++ others ≡ 34 ∷ after)
no_quote_first written others after byte w e =
    let none = (read_character 0 written others byte w).no_quote in
    let first : slice_index (written ++ others) 0 ≡ 34 = ap (λ (z : List ℕ). slice_index z 0) e in
    false≢true (sym none ∙ eq-eqb _ 34 first)

-- what is inside ends at the first quote that no character takes
pub inside_only : (value value' inside inside' after after' : List ℕ) → Writes inside value → Writes inside' value' → inside ++ 34 ∷ after ≡ inside' ++ 34 ∷ after' → (inside ≡ inside') × (value ≡ value')
inside_only [] [] inside inside' after after' w w' e = (w ∙ sym w', refl)
inside_only [] (b ∷ value') inside inside' after after' w (written, rest, is, first, others) e =
    let clash : written ++ (rest ++ 34 ∷ after') ≡ 34 ∷ after = sym (rw (w, is, append_assoc) at e) in
    absurd (no_quote_first written (rest ++ 34 ∷ after') after b first clash)
inside_only (b ∷ value) [] inside inside' after after' (written, rest, is, first, others) w' e =
    let clash : written ++ (rest ++ 34 ∷ after) ≡ 34 ∷ after' = rw (w', is, append_assoc) at e in
    absurd (no_quote_first written (rest ++ 34 ∷ after) after' b first clash)
inside_only (b ∷ value) (c ∷ value') inside inside' after after' (written, rest, is, first, others) (written', rest', is', first', others') e =
    let both : written ++ (rest ++ 34 ∷ after) ≡ written' ++ (rest' ++ 34 ∷ after') =
    sym (append_assoc written rest (34 ∷ after)) ∙ ap (λ (z : List ℕ). z ++ 34 ∷ after) (sym is) ∙ e ∙ ap (λ (z : List ℕ). z ++ 34 ∷ after') is' ∙ append_assoc written' rest' (34 ∷ after') in
    let here = character_only written (rest ++ 34 ∷ after) written' (rest' ++ 34 ∷ after') b c first first' both in
    let next = inside_only value value' rest rest' after after' others others' here.2 in
    (is ∙ ap₂ (λ (x y : List ℕ). x ++ y) here.0 next.0 ∙ sym is', ap₂ (λ (x : ℕ) (y : List ℕ). x ∷ y) here.1 next.1)

-- literals at the front of one text are one
pub literal_only : (bytes others value other after after' : List ℕ) → IsLiteral bytes value → IsLiteral others other → bytes ++ after ≡ others ++ after' → (bytes ≡ others) × (value ≡ other)
literal_only bytes others value other after after' (inside, is, writes) (inside', is', writes') e =
    let one : 34 ∷ (inside ++ 34 ∷ after) ≡ bytes ++ after = sym (ap (λ (z : List ℕ). z ++ after) is ∙ ap (λ (z : List ℕ). 34 ∷ z) (append_assoc inside (34 ∷ []) after)) in
    let two : others ++ after' ≡ 34 ∷ (inside' ++ 34 ∷ after') = ap (λ (z : List ℕ). z ++ after') is' ∙ ap (λ (z : List ℕ). 34 ∷ z) (append_assoc inside' (34 ∷ []) after') in
    let both : 34 ∷ (inside ++ 34 ∷ after) ≡ 34 ∷ (inside' ++ 34 ∷ after') = one ∙ e ∙ two in
    let tails : inside ++ 34 ∷ after ≡ inside' ++ 34 ∷ after' = cc in
    let same = inside_only value other inside inside' after after' writes writes' tails in
    (is ∙ ap (λ (z : List ℕ). 34 ∷ (z ++ 34 ∷ [])) same.0 ∙ sym is', same.1)
