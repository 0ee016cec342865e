-- Forms whose print spells them again: how such facts go together.
use Rattle.std.proofs.Common.{◌≡◌, ◌≤◌, ◌+◌, ◌∙◌, inl, inr, ℕ, suc, false, arith, List, [], ◌∷◌, ◌++◌, length, refl, sym, ap, subst}
use Rattle.text_lexer.specs.declared.token.TokenKind.TheVariants as k
use Rattle.text_lexer.specs.Lexeme.{Lexeme, sign_of}
use Rattle.text_ast.specs.Pieces.{Piece}
use Rattle.text_tree.specs.Forms.{Want, Times, AreWithin, Spells, SpellsEach, Upper, Lower, Literal, token, either, each, mapped, within}
use Rattle.text_tree.specs.ExprGrammar.{G, ◌⨾◌, behind, braces, parens}
use Rattle.text_tree.specs.LiteralValue.{literal_value}
use Rattle.text_print.specs.Marks.{quoted}
use Rattle.text_print.proofs.Canonical as c
use Rattle.text_print.proofs.Canonical.{AreGood, Canonical, Read, Same, each_same, flat, moved, good_back, good_front, good_one, size_of, size_one}
use Rattle.text_print.proofs.LastCommas.{Silent, behind_silent, ends, kinds, kinds_append, lasts, not_ended}
use Rattle.text_print.proofs.Tokens.{Pieces, Any, Tok, at, brace_close_token, brace_open_token, close_token, lower_token, open_token, upper_token}
use Rattle.text_print.proofs.Values.{literal_token}

-- What is printed of whatever the form is spells it again, offsets aside, in no more pieces.
abbrev pub Prints : {A : Type 0} → Pieces → G A → (A → A → Type 0) → (A → List Lexeme) → Type 0
Prints {A} S f R m = (x : A) (ls : List Piece) → AreGood ls → Spells S f x ls → Canonical (R x) (Spells S f) (m x) (length ls)

-- in so many pieces more at most, without the commas that stand right before closing braces
pub record Within {A : Type 0} (R : A → Type 0) (F : A → List Piece → Type 0) (m : List Lexeme) (n : ℕ) (ls : List Piece) : Type 0 where
  pub most : ℕ
  pub canon : Canonical R F m most
  pub few : most + lasts (kinds ls) ≤ n + length ls

abbrev pub PrintsTo : {A : Type 0} → ℕ → Pieces → G A → (A → A → Type 0) → (A → List Lexeme) → Type 0
PrintsTo {A} n S f R m = (x : A) (ls : List Piece) → AreGood ls → Spells S f x ls → Within (R x) (Spells S f) (m x) n ls

pub without : {A : Type 0} (S : Pieces) (f : G A) {R : A → A → Type 0} {m : A → List Lexeme} → PrintsTo 0 S f R m → Prints S f R m
without S f one x ls good d = (let w = one x ls good d in c.rewritten refl (omega (arith, w.few)) w.canon)

pub p_token : (S : Pieces) (w : Want) (b : Lexeme) → Canonical Any (Tok S w) (b ∷ []) 1 → Prints S (token w) (λ l m. Unit {0}) (λ l. b ∷ [])
p_token S w b h x ls good (is, a) = c.rewritten refl (omega (arith, size_one ls x is)) h

pub p_upper : (S : Pieces) → Prints S (token Upper) (λ l m. m.bytes ≡ l.bytes) (λ l. at k.Upper l.bytes ∷ [])
p_upper S x ls good (is, a) = c.rewritten refl (omega (arith, size_one ls x is)) (upper_token S x (good_one ls x is good) a)

pub p_lower : (S : Pieces) → Prints S (token Lower) (λ l m. m.bytes ≡ l.bytes) (λ l. at k.Lower l.bytes ∷ [])
p_lower S x ls good (is, a) = c.rewritten refl (omega (arith, size_one ls x is)) (lower_token S x (good_one ls x is good) a)

pub p_literal : (S : Pieces)
    → Prints S (token Literal) (λ l m. literal_value m.bytes ≡ literal_value l.bytes) (λ l. at k.Text (quoted (literal_value l.bytes)) ∷ [])
p_literal S x ls good (is, a) = c.rewritten refl (omega (arith, size_one ls x is)) (literal_token S x (good_one ls x is good) a)

pub p_both : {A B : Type 0} (S : Pieces) (f : G A) (g : G B) (R : A → A → Type 0) (Q : B → B → Type 0) (m : A → List Lexeme) (n : B → List Lexeme)
    → Prints S f R m → Prints S g Q n → Prints S (f ⨾ g) (λ v w. R v.0 w.0 × Q v.1 w.1) (λ v. m v.0 ++ n v.1)
p_both S f g R Q m n one other v ls good (p, q, glue, a, b) =
    c.rewritten refl (omega (arith, size_of ls p q glue)) (c.both (one v.0 p (good_front ls p q glue good) a) (other v.1 q (good_back ls p q glue good) b))

pub p_both_to : {A B : Type 0} (n : ℕ) (S : Pieces) (f : G A) (g : G B) (R : A → A → Type 0) (Q : B → B → Type 0) (m : A → List Lexeme) (o : B → List Lexeme)
    → Silent S f → Prints S f R m → PrintsTo n S g Q o → PrintsTo n S (f ⨾ g) (λ v w. R v.0 w.0 × Q v.1 w.1) (λ v. m v.0 ++ o v.1)
p_both_to n S f g R Q m o calm one other v ls good (p, q, glue, a, b) =
    let w = other v.1 q (good_back ls p q glue good) b in
    record {
      most = length p + w.most;
      canon = c.both (one v.0 p (good_front ls p q glue good) a) w.canon;
      few = omega (arith, size_of ls p q glue, behind_silent ls p q glue (calm v.0 p a), w.few);
    }

pub p_either : {A : Type 0} (S : Pieces) (f g : G A) (R : A → A → Type 0) (m : A → List Lexeme) → Prints S f R m → Prints S g R m → Prints S (either f g) R m
p_either S f g R m one other x ls good (inl d) = moved (λ y. y) (λ y r. r) (λ y ks e. inl e) (one x ls good d)
p_either S f g R m one other x ls good (inr d) = moved (λ y. y) (λ y r. r) (λ y ks e. inr e) (other x ls good d)

pub p_mapped : {A B : Type 0} (S : Pieces) (make : A → B) (f : G A) (R : A → A → Type 0) (m : A → List Lexeme) (Q : B → B → Type 0) (n : B → List Lexeme)
    → ((v w : A) → R v w → Q (make v) (make w)) → ((v : A) → n (make v) ≡ m v) → Prints S f R m → Prints S (mapped make f) Q n
p_mapped S make f R m Q n same spelled one x ls good (v, is, d) =
    subst (λ z. Canonical (Q z) (Spells S (mapped make f)) (n z) (length ls)) (sym is)
    (c.rewritten (spelled v) (omega arith) (moved make (same v) (λ w ks e. (w, refl, e)) (one v ls good d)))

pub p_mapped_to : {A B : Type 0} (n : ℕ) (S : Pieces) (make : A → B) (f : G A) (R : A → A → Type 0) (m : A → List Lexeme) (Q : B → B → Type 0) (o : B → List Lexeme)
    → ((v w : A) → R v w → Q (make v) (make w)) → ((v : A) → o (make v) ≡ m v) → PrintsTo n S f R m → PrintsTo n S (mapped make f) Q o
p_mapped_to n S make f R m Q o same spelled one x ls good (v, is, d) =
    let w = one v ls good d in
    subst (λ z. Within (Q z) (Spells S (mapped make f)) (o z) n ls) (sym is)
    (record { most = w.most; canon = c.rewritten (spelled v) (omega arith) (moved make (same v) (λ w ks e. (w, refl, e)) w.canon); few = w.few })

pub p_behind : {A : Type 0} (S : Pieces) (w : Want) (b : Lexeme) (f : G A) (R : A → A → Type 0) (m : A → List Lexeme)
    → Canonical Any (Tok S w) (b ∷ []) 1 → Prints S f R m → Prints S (behind (token w) f) R (λ x. b ∷ m x)
p_behind S w b f R m h one =
    p_mapped S (λ v. v.1) (token w ⨾ f) (λ v u. Unit {0} × R v.1 u.1) (λ v. b ∷ [] ++ m v.1) R (λ x. b ∷ m x) (λ v u r. r.1) (λ v. refl)
    (p_both S (token w) f (λ v u. Unit {0}) R (λ v. b ∷ []) m (p_token S w b h) one)

pub p_behind_to : {A : Type 0} (n : ℕ) (S : Pieces) (w : Want) (b : Lexeme) (f : G A) (R : A → A → Type 0) (m : A → List Lexeme)
    → Silent S (token w) → Canonical Any (Tok S w) (b ∷ []) 1 → PrintsTo n S f R m → PrintsTo n S (behind (token w) f) R (λ x. b ∷ m x)
p_behind_to n S w b f R m calm h one =
    p_mapped_to n S (λ v. v.1) (token w ⨾ f) (λ v u. Unit {0} × R v.1 u.1) (λ v. b ∷ [] ++ m v.1) R (λ x. b ∷ m x) (λ v u r. r.1) (λ v. refl)
    (p_both_to n S (token w) f (λ v u. Unit {0}) R (λ v. b ∷ []) m calm (p_token S w b h) one)

pub p_parens : {A : Type 0} (S : Pieces) (f : G A) (R : A → A → Type 0) (m : A → List Lexeme) → Prints S f R m
    → Prints S (parens f) R (λ x. at k.ParenOpen (sign_of k.ParenOpen) ∷ (m x ++ at k.ParenClose (sign_of k.ParenClose) ∷ []))
p_parens S f R m one x ls good (v, is, (p, q, g, left, (p2, q2, g2, d, right))) =
    subst (λ z. Canonical (R z) (Spells S (parens f)) (at k.ParenOpen (sign_of k.ParenOpen) ∷ (m z ++ at k.ParenClose (sign_of k.ParenClose) ∷ [])) (length ls)) (sym is)
    (c.rewritten refl (omega (arith, size_of ls p q g, size_of q p2 q2 g2, size_one p v.0 left.0, size_one q2 v.1.1 right.0))
    (moved (λ w. w.1.0) (λ w r. r.1.0) (λ w ks e. (w, refl, e))
    (c.both (open_token S) (c.both (one v.1.0 p2 (good_front q p2 q2 g2 (good_back ls p q g good)) d) (close_token S)))))

pub p_braces : {A : Type 0} (S : Pieces) (f : G A) (R : A → A → Type 0) (m : A → List Lexeme) → Prints S f R m
    → Prints S (braces f) R (λ x. at k.BraceOpen (sign_of k.BraceOpen) ∷ (m x ++ at k.BraceClose (sign_of k.BraceClose) ∷ []))
p_braces S f R m one x ls good (v, is, (p, q, g, left, (p2, q2, g2, d, right))) =
    subst (λ z. Canonical (R z) (Spells S (braces f)) (at k.BraceOpen (sign_of k.BraceOpen) ∷ (m z ++ at k.BraceClose (sign_of k.BraceClose) ∷ [])) (length ls)) (sym is)
    (c.rewritten refl (omega (arith, size_of ls p q g, size_of q p2 q2 g2, size_one p v.0 left.0, size_one q2 v.1.1 right.0))
    (moved (λ w. w.1.0) (λ w r. r.1.0) (λ w ks e. (w, refl, e))
    (c.both (brace_open_token S) (c.both (one v.1.0 p2 (good_front q p2 q2 g2 (good_back ls p q g good)) d) (brace_close_token S)))))

pub same_length : {A : Type 0} (R : A → A → Type 0) (xs ys : List A) → Same R xs ys → length ys ≡ length xs
same_length R [] [] r = refl
same_length R [] (y ∷ ys) r = absurd r
same_length R (x ∷ xs) [] r = absurd r
same_length R (x ∷ xs) (y ∷ ys) (r, more) = ap suc (same_length R xs ys more)

-- each in one piece more at most, and without a comma at its end
pub each_more : {A : Type 0} (F : A → List Piece → Type 0) (R : A → A → Type 0) (m : A → List Lexeme)
    → ((x : A) (ls : List Piece) → AreGood ls → F x ls → Within (R x) F (m x) 1 ls) → ((x : A) (ls : List Piece) → F x ls → ends (kinds ls) ≡ false) → (xs : List A) (ls : List Piece)
    → AreGood ls → SpellsEach F xs ls → Within (Same R xs) (SpellsEach F) (flat m xs) (length xs) ls
each_more F R m one quiet [] ls good h =
    let none : lasts (kinds ls) ≡ 0 = ap (λ z. lasts (kinds z)) h in
    record { most = 0; canon = c.none [] tt refl; few = omega (arith, none) }
each_more F R m one quiet (x ∷ xs) ls good (p, q, g, first, more) =
    let a = one x p (good_front ls p q g good) first in
    let b = each_more F R m one quiet xs q (good_back ls p q g good) more in
    let whole : lasts (kinds ls) ≡ lasts (kinds p ++ kinds q) = ap lasts (ap kinds g ∙ kinds_append p q) in
    record {
      most = a.most + b.most;
      canon = moved (λ v. v.0 ∷ v.1) (λ v r. r) (λ v ks d. d) (c.both a.canon b.canon);
      few = omega (arith, size_of ls p q g, whole, not_ended (kinds p) (kinds q) (quiet x p first), a.few, b.few);
    }

pub within_count : (times : Times) (n m : ℕ) → m ≡ n → AreWithin times n → AreWithin times m
within_count times n m e h = subst (AreWithin times) (sym e) h

pub counted : {A : Type 0} {R : A → Type 0} {F G : A → List Piece → Type 0} {m : List Lexeme} {n : ℕ} → ((x : A) (ls : List Piece) → R x → F x ls → G x ls)
    → Canonical R F m n → Canonical R G m n
counted reads h = c.found (λ x ls r d. (x, r, reads x ls r d)) h

pub p_each : {A : Type 0} (S : Pieces) (times : Times) (f : G A) (R : A → A → Type 0) (m : A → List Lexeme) → Prints S f R m → Prints S (each times f) (Same R) (flat m)
p_each S times f R m one xs ls good (d, few) =
    counted (λ ys ks r e. (e, within_count times (length xs) (length ys) (same_length R xs ys r) few)) (each_same R (Spells S f) m one xs ls good d)

-- of no more pieces than there were
pub within_c : {A : Type 0} (S : Pieces) (most n : ℕ) (f : G A) {R : A → Type 0} {m : List Lexeme} → n ≤ most → Canonical R (Spells S f) m n
    → Canonical R (Spells S (within most f)) m n
within_c S most n f {R} {m} le h = record {
  parts = h.parts;
  reads = λ ls e. (
      let a = h.reads ls e in
      let few : length ls ≤ n = a.short in
      let short : length ls ≤ most = omega arith in
      record { value = a.value; is = a.is; spells = (a.spells, short); short = a.short });
}
