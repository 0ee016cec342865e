-- Where a text ends: two texts of one kind, each with something behind it, are equal only where they are one, and what is behind is one.
use Rattle.std.proofs.Common.{◌≡◌, ℕ, suc, ◌+◌, ◌*◌, ◌/◌, ◌%◌, ◌^◌, ◌<◌, ◌≤◌, Bool, true, false, ◌||◌, List, [], ◌∷◌, ◌++◌, refl, sym, ◌∙◌, ap, subst, cond, arith, append_assoc, codes, length}
use Rattle.std.specs.Prelude.{ℤ, pos, negsuc, ◌==◌, nat_lt, if◌then◌else◌}
use Rattle.std.specs.Char.{digit_value, digit_char}
use Rattle.std.specs.Fmt.{decimal, signed_decimal}
use Rattle.std.specs.Int.Signed.{mag}
use Rattle.std.specs.List.{flat_map}
use Rattle.std.specs.Str.Parse.{AllDigits}
use Rattle.std.proofs.lemmas.Bool.{eqb-true, ltb-true}
use Rattle.std.proofs.lemmas.Fmt.{decimal_is_IsNumeral, decimal_injective}
use Rattle.std.proofs.lemmas.Str.{digit_value-digit_char}
use Rattle.text_print.specs.Marks.{escape, quoted}
use Rattle.data_print.specs.Texts.{id_text}

pub cancel : (a r s : List ℕ) → a ++ r ≡ a ++ s → r ≡ s
cancel [] r s e = e
cancel (x ∷ a) r s e = let rest : a ++ r ≡ a ++ s = cc in cancel a r s rest

pub both : {A : Type 0} (x y : A) (a b : List A) → x ≡ y → a ≡ b → x ∷ a ≡ y ∷ b
both x y a b e f = cc

-- the first
abbrev pub front : List ℕ → ℕ
front [] = 0
front (c ∷ r) = c

-- ---- numbers

-- no digit stands at the front
abbrev pub Stops : List ℕ → Type 0
Stops [] = Unit {0}
Stops (c ∷ r) = 10 ≤ digit_value c

not-digit : (r : List ℕ) (y : ℕ) (t : List ℕ) → Stops r → digit_value y < 10 → r ≡ y ∷ t → ⊥
not-digit [] y t stops is e = cc
not-digit (c ∷ r) y t stops is e =
    let same : y ≡ c = cc in
    let also : digit_value c < 10 = subst (λ n. digit_value n < 10) same is in
    absurd (omega (arith, stops, also))

digits-cut : (a b r s : List ℕ) → AllDigits 10 a → AllDigits 10 b → Stops r → Stops s → a ++ r ≡ b ++ s → (a ≡ b) × (r ≡ s)
digits-cut [] [] r s da db sr ss e = (refl, e)
digits-cut [] (y ∷ b) r s da db sr ss e = absurd (not-digit r y (b ++ s) sr db.0 e)
digits-cut (x ∷ a) [] r s da db sr ss e = absurd (not-digit s x (a ++ r) ss da.0 (sym e))
digits-cut (x ∷ a) (y ∷ b) r s da db sr ss e =
    let head : x ≡ y = cc in
    let tail : a ++ r ≡ b ++ s = cc in
    let rest = digits-cut a b r s da.1 db.1 sr ss tail in
    (both x y a b head rest.0, rest.1)

pub decimal-cut : (m n : ℕ) (r s : List ℕ) → m < 2 ^ 64 → n < 2 ^ 64 → Stops r → Stops s → decimal m ++ r ≡ decimal n ++ s → (m ≡ n) × (r ≡ s)
decimal-cut m n r s bm bn sr ss e =
    let cut = digits-cut (decimal m) (decimal n) r s (decimal_is_IsNumeral m bm).0.1 (decimal_is_IsNumeral n bn).0.1 sr ss e in
    (decimal_injective m n bm bn cut.0, cut.1)

pub id-cut : (m n : ℕ) (r s : List ℕ) → m < 2 ^ 64 → n < 2 ^ 64 → Stops r → Stops s → id_text m ++ r ≡ id_text n ++ s → (m ≡ n) × (r ≡ s)
id-cut m n r s bm bn sr ss e = decimal-cut m n r s bm bn sr ss (cancel (codes "@") (decimal m ++ r) (decimal n ++ s) e)

no-minus : (ds r t : List ℕ) → 0 < length ds → AllDigits 10 ds → ds ++ r ≡ 45 ∷ t → ⊥
no-minus [] r t long digits e = absurd (omega arith)
no-minus (c ∷ ds) r t long digits e =
    let same : c ≡ 45 = cc in
    let digit : digit_value 45 < 10 = subst (λ k. digit_value k < 10) same digits.0 in
    absurd (omega (arith, digit))

pub signed-cut : (x y : ℤ) (r s : List ℕ) → mag x < 2 ^ 63 → mag y < 2 ^ 63 → Stops r → Stops s → signed_decimal x ++ r ≡ signed_decimal y ++ s → (x ≡ y) × (r ≡ s)
signed-cut (pos m) (pos n) r s bm bn sr ss e =
    let cut = decimal-cut m n r s (omega (arith, bm)) (omega (arith, bn)) sr ss e in (ap pos cut.0, cut.1)
signed-cut (pos m) (negsuc n) r s bm bn sr ss e =
    let is = decimal_is_IsNumeral m (omega (arith, bm)) in absurd (no-minus (decimal m) r (decimal (suc n) ++ s) is.0.0 is.0.1 e)
signed-cut (negsuc m) (pos n) r s bm bn sr ss e =
    let is = decimal_is_IsNumeral n (omega (arith, bn)) in absurd (no-minus (decimal n) s (decimal (suc m) ++ r) is.0.0 is.0.1 (sym e))
signed-cut (negsuc m) (negsuc n) r s bm bn sr ss e =
    let cut = decimal-cut (suc m) (suc n) r s (omega (arith, bm)) (omega (arith, bn)) sr ss (cancel (45 ∷ []) (decimal (suc m) ++ r) (decimal (suc n) ++ s) e) in
    let same : m ≡ n = omega (arith, cut.0) in
    (ap negsuc same, cut.1)

-- ---- texts between quotes

-- the byte that is written at the front, and the rest
read-hex : List ℕ → ℕ × List ℕ
read-hex [] = (0, [])
read-hex (a ∷ []) = (0, [])
read-hex (a ∷ b ∷ r) = (digit_value a * 16 + digit_value b, r)

read-escaped : List ℕ → ℕ × List ℕ
read-escaped [] = (0, [])
read-escaped (c ∷ r) =
    cond (c == 34) (34, r) (cond (c == 92) (92, r) (cond (c == 110) (10, r) (cond (c == 114) (13, r) (cond (c == 116) (9, r) (read-hex r)))))

read-one : List ℕ → ℕ × List ℕ
read-one [] = (0, [])
read-one (c ∷ r) = cond (c == 92) (read-escaped r) (c, r)

hex-value : (b : ℕ) → b < 256 → digit_value (digit_char (b / 16)) * 16 + digit_value (digit_char (b % 16)) ≡ b
hex-value b small =
    let high = digit_value-digit_char (b / 16) (omega arith) in
    let low = digit_value-digit_char (b % 16) (omega arith) in
    rw (high, low) (omega arith)

control-small : (b : ℕ) → (nat_lt b 32 || (b == 127)) ≡ true → b < 256
control-small b e =
    elim (nat_lt b 32) as (λ (t : Bool). nat_lt b 32 ≡ t → (t || (b == 127)) ≡ true → b < 256) [
      | true ↦ λ h _. let small : b < 32 = ltb-true b 32 h in omega (arith, small)
      | false ↦ λ h k. let same : b ≡ 127 = eqb-true b 127 k in omega (arith, same)
    ] refl e

reads : (b : ℕ) (r : List ℕ) → read-one (escape b ++ r) ≡ (b, r)
unfolding read-one read-escaped read-hex
reads b r =
    elim (b == 34) as (λ (t : Bool). (b == 34) ≡ t
    → read-one ((if t then codes "\\\"" else (if b == 92 then codes "\\\\" else (if b == 10 then codes "\\n" else (if b == 13 then codes "\\r" else (if b == 9 then codes "\\t"
    else (if nat_lt b 32 || b == 127 then codes "\\x" ++ digit_char (b / 16) ∷ digit_char (b % 16) ∷ [] else b ∷ [])))))) ++ r) ≡ (b, r)) [
      | true ↦ λ e. ap (λ z. (z, r)) (sym (eqb-true b 34 e))
      | false ↦ λ _.
          elim (b == 92) as (λ (t : Bool). (b == 92) ≡ t
          → read-one ((if t then codes "\\\\" else (if b == 10 then codes "\\n" else (if b == 13 then codes "\\r" else (if b == 9 then codes "\\t"
          else (if nat_lt b 32 || b == 127 then codes "\\x" ++ digit_char (b / 16) ∷ digit_char (b % 16) ∷ [] else b ∷ []))))) ++ r) ≡ (b, r)) [
            | true ↦ λ e. ap (λ z. (z, r)) (sym (eqb-true b 92 e))
            | false ↦ λ other.
                elim (b == 10) as (λ (t : Bool). (b == 10) ≡ t
                → read-one ((if t then codes "\\n" else (if b == 13 then codes "\\r" else (if b == 9 then codes "\\t"
                else (if nat_lt b 32 || b == 127 then codes "\\x" ++ digit_char (b / 16) ∷ digit_char (b % 16) ∷ [] else b ∷ [])))) ++ r) ≡ (b, r)) [
                  | true ↦ λ e. ap (λ z. (z, r)) (sym (eqb-true b 10 e))
                  | false ↦ λ _.
                      elim (b == 13) as (λ (t : Bool). (b == 13) ≡ t
                      → read-one ((if t then codes "\\r" else (if b == 9 then codes "\\t"
                      else (if nat_lt b 32 || b == 127 then codes "\\x" ++ digit_char (b / 16) ∷ digit_char (b % 16) ∷ [] else b ∷ []))) ++ r) ≡ (b, r)) [
                        | true ↦ λ e. ap (λ z. (z, r)) (sym (eqb-true b 13 e))
                        | false ↦ λ _.
                            elim (b == 9) as (λ (t : Bool). (b == 9) ≡ t
                            → read-one ((if t then codes "\\t"
                            else (if nat_lt b 32 || b == 127 then codes "\\x" ++ digit_char (b / 16) ∷ digit_char (b % 16) ∷ [] else b ∷ [])) ++ r) ≡ (b, r)) [
                              | true ↦ λ e. ap (λ z. (z, r)) (sym (eqb-true b 9 e))
                              | false ↦ λ _.
                                  elim (nat_lt b 32 || b == 127) as (λ (t : Bool). (nat_lt b 32 || b == 127) ≡ t
                                  → read-one ((if t then codes "\\x" ++ digit_char (b / 16) ∷ digit_char (b % 16) ∷ [] else b ∷ []) ++ r) ≡ (b, r)) [
                                    | true ↦ λ e. ap (λ z. (z, r)) (hex-value b (control-small b e))
                                    | false ↦ λ _. ap (λ t. cond t (read-escaped r) (b, r)) other
                                  ] refl
                            ] refl
                      ] refl
                ] refl
          ] refl
    ] refl

escape-cut : (x y : ℕ) (r s : List ℕ) → escape x ++ r ≡ escape y ++ s → (x ≡ y) × (r ≡ s)
escape-cut x y r s e =
    let read : (x, r) ≡ (y, s) = sym (reads x r) ∙ ap read-one e ∙ reads y s in
    (ap (λ (p : ℕ × List ℕ). p.0) read, ap (λ (p : ℕ × List ℕ). p.1) read)

no-quote : (x : ℕ) (r s : List ℕ) → escape x ++ r ≡ 34 ∷ s → ⊥
unfolding read-one
no-quote x r s e =
    let read : (x, r) ≡ (34, s) = sym (reads x r) ∙ ap read-one e in
    let same : x ≡ 34 = ap (λ (p : ℕ × List ℕ). p.0) read in
    let bad : 92 ∷ 34 ∷ r ≡ 34 ∷ s = subst (λ z. escape z ++ r ≡ 34 ∷ s) same e in
    let wrong : 92 ≡ 34 = ap front bad in
    absurd (omega (arith, wrong))

bytes-cut : (a b r s : List ℕ) → flat_map escape a ++ 34 ∷ r ≡ flat_map escape b ++ 34 ∷ s → (a ≡ b) × (r ≡ s)
bytes-cut [] [] r s e = let rest : r ≡ s = cc in (refl, rest)
bytes-cut [] (y ∷ b) r s e =
    absurd (no-quote y (flat_map escape b ++ 34 ∷ s) r (sym (append_assoc (escape y) (flat_map escape b) (34 ∷ s)) ∙ sym e))
bytes-cut (x ∷ a) [] r s e =
    absurd (no-quote x (flat_map escape a ++ 34 ∷ r) s (sym (append_assoc (escape x) (flat_map escape a) (34 ∷ r)) ∙ e))
bytes-cut (x ∷ a) (y ∷ b) r s e =
    let cut = escape-cut x y (flat_map escape a ++ 34 ∷ r) (flat_map escape b ++ 34 ∷ s)
    (sym (append_assoc (escape x) (flat_map escape a) (34 ∷ r)) ∙ e ∙ append_assoc (escape y) (flat_map escape b) (34 ∷ s)) in
    let rest = bytes-cut a b r s cut.1 in
    (both x y a b cut.0 rest.0, rest.1)

pub quoted-cut : (a b r s : List ℕ) → quoted a ++ r ≡ quoted b ++ s → (a ≡ b) × (r ≡ s)
quoted-cut a b r s e =
    let inner : (flat_map escape a ++ 34 ∷ []) ++ r ≡ (flat_map escape b ++ 34 ∷ []) ++ s = cancel (34 ∷ []) ((flat_map escape a ++ 34 ∷ []) ++ r) ((flat_map escape b ++ 34 ∷ []) ++ s) e in
    bytes-cut a b r s (sym (append_assoc (flat_map escape a) (34 ∷ []) r) ∙ inner ∙ append_assoc (flat_map escape b) (34 ∷ []) s)
