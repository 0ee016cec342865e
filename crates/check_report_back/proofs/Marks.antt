-- Where a name ends, and the number of a command behind it.
use Rattle.std.proofs.Common.{◌≡◌, ℕ, suc, ◌+◌, ◌^◌, ◌<◌, ◌≤◌, Bool, true, false, not, ◌&&◌, ◌||◌, List, [], ◌∷◌, ◌++◌, refl, sym, ◌∙◌, ap, subst, cond, arith, append_assoc, append-nil, codes, length}
use Rattle.std.specs.Prelude.{Option, Some, None, position, nat_le}
use Rattle.std.specs.Fmt.{decimal}
use Rattle.std.specs.List.{list_all, list_any, position_or_len}
use Rattle.std.proofs.Math.Dec.{ltb}
use Rattle.std.proofs.lemmas.Bool.{ltb-true, ltb-false}
use Rattle.text_lexer.specs.declared.limits.TheConstants.{MOST_NAME_BYTES}
use Rattle.text_ast.specs.Words.{begins_with_letter, is_name_byte, IsName}
use Rattle.data_print.proofs.Cuts.{cancel, both, front, Stops, decimal-cut}
use Rattle.check_witness.specs.Printed.{marked}

-- what is behind the first
abbrev pub rest : List ℕ → List ℕ
rest [] = []
rest (c ∷ cs) = cs

-- ---- names

-- what stands behind a name does not go on with it
abbrev pub Ends : List ℕ → Type 0
Ends [] = Unit {0}
Ends (c ∷ r) = is_name_byte c ≡ false

and-first : (a b : Bool) → a && b ≡ true → a ≡ true
and-first true b e = refl
and-first false b e = cc

and-second : (a b : Bool) → a && b ≡ true → b ≡ true
and-second true b e = e
and-second false b e = cc

goes-on : (r t : List ℕ) (y : ℕ) → Ends r → is_name_byte y ≡ true → r ≡ y ∷ t → ⊥
goes-on [] t y ends is e = cc
goes-on (c ∷ r) t y ends is e =
    let same : c ≡ y = ap front e in
    let test : is_name_byte c ≡ true = ap is_name_byte same ∙ is in
    let wrong : false ≡ true = sym ends ∙ test in
    cc

run-cut : (a b r s : List ℕ) → list_all is_name_byte a ≡ true → list_all is_name_byte b ≡ true → Ends r → Ends s → a ++ r ≡ b ++ s → (a ≡ b) × (r ≡ s)
run-cut [] [] r s na nb er es e = (refl, e)
run-cut [] (y ∷ b) r s na nb er es e = absurd (goes-on r (b ++ s) y er (and-first (is_name_byte y) (list_all is_name_byte b) nb) e)
run-cut (x ∷ a) [] r s na nb er es e = absurd (goes-on s (a ++ r) x es (and-first (is_name_byte x) (list_all is_name_byte a) na) (sym e))
run-cut (x ∷ a) (y ∷ b) r s na nb er es e =
    let head : x ≡ y = ap front e in
    let tail : a ++ r ≡ b ++ s = ap rest e in
    let later = run-cut a b r s (and-second (is_name_byte x) (list_all is_name_byte a) na) (and-second (is_name_byte y) (list_all is_name_byte b) nb) er es tail in
    (both x y a b head later.0, later.1)

all-of-name : (x : List ℕ) → IsName x → list_all is_name_byte x ≡ true
all-of-name x is =
    and-second (begins_with_letter x) (list_all is_name_byte x) (and-first (begins_with_letter x && list_all is_name_byte x) (nat_le (length x) MOST_NAME_BYTES) is)

pub name-cut : (a b r s : List ℕ) → IsName a → IsName b → Ends r → Ends s → a ++ r ≡ b ++ s → (a ≡ b) × (r ≡ s)
name-cut a b r s na nb er es e = run-cut a b r s (all-of-name a na) (all-of-name b nb) er es e

-- ---- marked names

-- what stands behind a marked name
pub record IsBehind (r : List ℕ) : Type 0 where
  pub ends : Ends r
  pub plain : front r ≡ 64 → ⊥
  pub stops : Stops r

-- numbers of commands
abbrev pub IsCounted : Option ℕ → Type 0
IsCounted None = Unit {0}
IsCounted (Some k) = suc k < 2 ^ 64

with-mark : (x d r : List ℕ) → (x ++ (codes "@" ++ (d ++ []))) ++ r ≡ x ++ 64 ∷ (d ++ r)
with-mark x d r = simp (append_assoc, append-nil)

pub marked-cut : (x y : List ℕ) (i j : Option ℕ) (r s : List ℕ) → IsName x → IsName y → IsCounted i → IsCounted j → IsBehind r → IsBehind s
    → marked x i ++ r ≡ marked y j ++ s → (x ≡ y) × (i ≡ j) × (r ≡ s)
marked-cut x y None None r s nx ny ci cj br bs e =
    let cut = name-cut x y r s nx ny br.ends bs.ends e in (cut.0, refl, cut.1)
marked-cut x y None (Some j) r s nx ny ci cj br bs e =
    let cut = name-cut x y r (64 ∷ (decimal (suc j) ++ s)) nx ny br.ends refl (e ∙ with-mark y (decimal (suc j)) s) in
    absurd (br.plain (ap front cut.1))
marked-cut x y (Some i) None r s nx ny ci cj br bs e =
    let cut = name-cut x y (64 ∷ (decimal (suc i) ++ r)) s nx ny refl bs.ends (sym (with-mark x (decimal (suc i)) r) ∙ e) in
    absurd (bs.plain (ap front (sym cut.1)))
marked-cut x y (Some i) (Some j) r s nx ny ci cj br bs e =
    let cut = name-cut x y (64 ∷ (decimal (suc i) ++ r)) (64 ∷ (decimal (suc j) ++ s)) nx ny refl refl
    (sym (with-mark x (decimal (suc i)) r) ∙ e ∙ with-mark y (decimal (suc j)) s) in
    let number = decimal-cut (suc i) (suc j) r s ci cj br.stops bs.stops (cancel (64 ∷ []) (decimal (suc i) ++ r) (decimal (suc j) ++ s) cut.1) in
    let same : i ≡ j = omega (arith, number.0) in
    (cut.0, ap Some same, number.1)

-- ---- places in a list

pub place-below : {A : Type 0} (p : A → Bool) (xs : List A) (k : ℕ) → position p xs ≡ Some k → k < length xs
place-below p xs k e =
    elim (ltb (position_or_len p xs) (length xs)) as (λ (b : Bool). ltb (position_or_len p xs) (length xs) ≡ b → cond b (Some (position_or_len p xs)) None ≡ Some k → k < length xs) [
      | true ↦ λ h is. let same : position_or_len p xs ≡ k = cc in subst (λ n. n < length xs) same (ltb-true _ _ h)
      | false ↦ λ h is. cc
    ] refl e

first-fails : {A : Type 0} (p : A → Bool) (xs : List A) → length xs ≤ position_or_len p xs → list_any p xs ≡ false
first-fails p [] h = refl
first-fails {A} p (x ∷ xs) h =
    elim (p x) as (λ (b : Bool). suc (length xs) ≤ cond (not b) (1 + position_or_len p xs) 0 → (b || list_any p xs) ≡ false) [
      | true ↦ λ k. absurd (omega (arith, k))
      | false ↦ λ k. first-fails p xs (omega (arith, k))
    ] h

pub nowhere : {A : Type 0} (p : A → Bool) (xs : List A) → position p xs ≡ None → list_any p xs ≡ false
nowhere p xs e =
    elim (ltb (position_or_len p xs) (length xs)) as (λ (b : Bool). ltb (position_or_len p xs) (length xs) ≡ b → cond b (Some (position_or_len p xs)) None ≡ None → list_any p xs ≡ false) [
      | true ↦ λ h is. cc
      | false ↦ λ h is. first-fails p xs (ltb-false _ _ h)
    ] refl e

-- two tests that first pass at one place pass there together
pub together : {A : Type 0} (p q : A → Bool) (xs : List A) (k : ℕ) → position p xs ≡ Some k → position q xs ≡ Some k
    → (x : A) × (p x ≡ true) × (q x ≡ true)
together {A} p q xs k hp hq = at p q xs k (first p xs k hp) (first q xs k hq) (place-below p xs k hp)
  where
    first : (p : A → Bool) (xs : List A) (k : ℕ) → position p xs ≡ Some k → position_or_len p xs ≡ k
    first p xs k e =
        elim (ltb (position_or_len p xs) (length xs)) as (λ (b : Bool). cond b (Some (position_or_len p xs)) None ≡ Some k → position_or_len p xs ≡ k) [
          | true ↦ λ is. cc
          | false ↦ λ is. cc
        ] e

    at : (p q : A → Bool) (xs : List A) (k : ℕ) → position_or_len p xs ≡ k → position_or_len q xs ≡ k → k < length xs → (x : A) × (p x ≡ true) × (q x ≡ true)
    at p q [] k hp hq below = absurd (omega (arith, below))
    at p q (x ∷ xs) k hp hq below =
        elim (p x) as (λ (b : Bool). p x ≡ b → cond (not b) (1 + position_or_len p xs) 0 ≡ k → (y : A) × (p y ≡ true) × (q y ≡ true)) [
          | true ↦ λ px kp.
              elim (q x) as (λ (c : Bool). q x ≡ c → cond (not c) (1 + position_or_len q xs) 0 ≡ k → (y : A) × (p y ≡ true) × (q y ≡ true)) [
                | true ↦ λ qx kq. (x, px, qx)
                | false ↦ λ qx kq. absurd (omega (arith, kp, kq))
              ] refl hq
          | false ↦ λ px kp.
              elim (q x) as (λ (c : Bool). q x ≡ c → cond (not c) (1 + position_or_len q xs) 0 ≡ k → (y : A) × (p y ≡ true) × (q y ≡ true)) [
                | true ↦ λ qx kq. absurd (omega (arith, kp, kq))
                | false ↦ λ qx kq. at p q xs (position_or_len p xs) refl (omega (arith, kp, kq)) (omega (arith, kp, below))
              ] refl hq
        ] refl hp
