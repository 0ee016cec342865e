-- What is printed of `if` and `match` spells them.
use Rattle.std.proofs.Common.{◌≡◌, ◌≤◌, ◌+◌, ℕ, suc, true, arith, List, [], ◌∷◌, ◌++◌, length, codes, refl, sym, ◌∙◌, ap, subst, append_assoc}
use Rattle.text_lexer.specs.declared.token.TokenKind.TheVariants as k
use Rattle.text_lexer.specs.Lexeme.{Lexeme, sign_of}
use Rattle.text_lexer.specs.Written.{IsPart}
use Rattle.text_ast.specs.Pieces.{Piece}
use Rattle.text_tree.specs.declared.exprs.Expr.{Expr}
use Rattle.text_tree.specs.Forms.{Spells, Sign, Word, Lower, admits, token, part}
use Rattle.text_tree.specs.ExprGrammar.{G, ◌⨾◌, Expression, behind, keyword, sign, branches, condition, none_branch, scrutinee, some_branch}
use Rattle.text_print.specs.Exprs.{between, cases, choice, or_some, spaced, with_none}
use Rattle.text_print.specs.Marks.{Mark, lexemes_of_marks, lower}
use Rattle.text_print.proofs.Canonical as c
use Rattle.text_print.proofs.Canonical.{AreGood, Canonical, Pair, lexeme, moved, good_front, good_back, good_one, size_of, size_one}
use Rattle.text_print.proofs.Ranks.{lexemes_append}
use Rattle.text_print.proofs.ExprForms.{behind_c}
use Rattle.text_print.proofs.Tokens.{Pieces, Any, Bytes, arrow_token, at, bar_token, lower_token, lower_word}

abbrev pub word : List ℕ → Lexeme
word bytes = at k.Lower bytes

abbrev pub arrow : Lexeme
arrow = at k.Arrow (sign_of k.Arrow)

-- ---- if

pub choice_lexemes : (t a b : List Mark)
    → lexemes_of_marks (choice t a b) ≡ word (codes "if") ∷ (lexemes_of_marks t ++ word (codes "then") ∷ (lexemes_of_marks a ++ word (codes "else") ∷ lexemes_of_marks b))
choice_lexemes t a b =
    ap (λ z. word (codes "if") ∷ z)
    (lexemes_append t (spaced (codes "then") ++ (a ++ (spaced (codes "else") ++ b)))
    ∙ ap (λ z. lexemes_of_marks t ++ word (codes "then") ∷ z) (lexemes_append a (spaced (codes "else") ++ b)))

pub choice_c : {A : Type 0} (S : Pieces) (f : G A) {Q : Expr → Type 0} {R P : A → Type 0} {t a b : List Lexeme} {n p q : ℕ}
    → Canonical Q (S Expression) t n → Canonical R (Spells S f) a p → Canonical P (Spells S f) b q
    → Canonical (Pair (Pair Any Q) (Pair R P)) (Spells S (condition ⨾ branches f)) (word (codes "if") ∷ (t ++ word (codes "then") ∷ (a ++ word (codes "else") ∷ b)))
    ((1 + n) + (suc p + suc q))
unfolding condition
choice_c S f x y z =
    c.both (c.both (lower_word S (codes "if") refl refl refl) x)
    (c.both (behind_c S (Word k.Lower (codes "then")) f (lower_word S (codes "then") refl refl refl) y)
    (behind_c S (Word k.Lower (codes "else")) f (lower_word S (codes "else") refl refl refl) z))

pub record ChoiceParts {A : Type 0} (S : Pieces) (f : G A) (v : (Piece × Expr) × (A × A)) (ls : List Piece) : Type 0 where
  pub test : List Piece
  pub one : List Piece
  pub other : List Piece
  pub fewer : (1 + length test) + (suc (length one) + suc (length other)) ≤ length ls
  pub good_test : AreGood test
  pub good_one : AreGood one
  pub good_other : AreGood other
  pub spells_test : S Expression v.0.1 test
  pub spells_one : Spells S f v.1.0 one
  pub spells_other : Spells S f v.1.1 other

pub choice_parts : {A : Type 0} (S : Pieces) (f : G A) (v : (Piece × Expr) × (A × A)) (ls : List Piece) → AreGood ls → Spells S (condition ⨾ branches f) v ls
    → ChoiceParts S f v ls
unfolding condition
choice_parts S f v ls good (p, q, g, (p1, q1, g1, (ai, aa), test), (p2, q2, g2, (u, same, (a, b, g3, (ti, ta), one)), (w, alike, (d, e, g4, (ei, ea), other)))) =
    let s1 : length ls ≡ length p + length q = size_of ls p q g in
    let s2 : length p ≡ length p1 + length q1 = size_of p p1 q1 g1 in
    let s3 : length q ≡ length p2 + length q2 = size_of q p2 q2 g2 in
    let s4 : length p2 ≡ length a + length b = size_of p2 a b g3 in
    let s5 : length q2 ≡ length d + length e = size_of q2 d e g4 in
    let t1 : length p1 ≡ 1 = size_one p1 v.0.0 ai in
    let t2 : length a ≡ 1 = size_one a u.0 ti in
    let t3 : length d ≡ 1 = size_one d w.0 ei in
    let goodq = good_back ls p q g good in
    record {
      test = q1;
      one = b;
      other = e;
      fewer = omega arith;
      good_test = good_back p p1 q1 g1 (good_front ls p q g good);
      good_one = good_back p2 a b g3 (good_front q p2 q2 g2 goodq);
      good_other = good_back q2 d e g4 (good_back q p2 q2 g2 goodq);
      spells_test = test;
      spells_one = subst (λ z. Spells S f z b) (sym same) one;
      spells_other = subst (λ z. Spells S f z e) (sym alike) other;
    }

-- ---- match

pub cases_lexemes : (t a : List Mark) (x : List ℕ) (b : List Mark)
    → lexemes_of_marks (cases t a x b)
    ≡ word (codes "match") ∷ (lexemes_of_marks t ++ word (codes "with") ∷ word (codes "none") ∷ arrow ∷ (lexemes_of_marks a
    ++ at k.Bar (sign_of k.Bar) ∷ word (codes "some") ∷ word x ∷ arrow ∷ lexemes_of_marks b))
cases_lexemes t a x b =
    ap (λ z. word (codes "match") ∷ z)
    (lexemes_append t (with_none ++ (a ++ (or_some ++ lower x ∷ (between k.Arrow ++ b))))
    ∙ ap (λ z. lexemes_of_marks t ++ word (codes "with") ∷ word (codes "none") ∷ arrow ∷ z) (lexemes_append a (or_some ++ lower x ∷ (between k.Arrow ++ b))))

pub cases_c : {A : Type 0} (S : Pieces) (f : G A) (l : Piece) → IsPart (lexeme l) → admits Lower l ≡ true → {Q : Expr → Type 0} {R P : A → Type 0}
    {t a b : List Lexeme} {n p q : ℕ} → Canonical Q (S Expression) t n → Canonical R (Spells S f) a p → Canonical P (Spells S f) b q
    → Canonical (Pair (Pair Any Q) (Pair R (Pair (Bytes l.bytes) P))) (Spells S (scrutinee ⨾ none_branch f ⨾ some_branch f))
    (word (codes "match") ∷ (t ++ word (codes "with") ∷ word (codes "none") ∷ arrow ∷ (a ++ at k.Bar (sign_of k.Bar) ∷ word (codes "some") ∷ word l.bytes ∷ arrow ∷ b)))
    ((1 + (n + 1)) + ((2 + p) + (2 + (1 + suc q))))
unfolding scrutinee
cases_c S f l safe admitted {Q} {R} {P} {t} {a} {b} {n} {p} {q} x y z =
    let key : Canonical (Pair Any (Pair Q Any)) (Spells S (keyword (codes "match") ⨾ part Expression ⨾ keyword (codes "with")))
    (word (codes "match") ∷ (t ++ word (codes "with") ∷ [])) (1 + (n + 1)) =
    c.both (lower_word S (codes "match") refl refl refl) (c.both x (lower_word S (codes "with") refl refl refl)) in
    let head : Canonical (Pair Any Q) (Spells S scrutinee) (word (codes "match") ∷ (t ++ word (codes "with") ∷ [])) (1 + (n + 1)) =
    moved (λ v. (v.0, v.1.0)) (λ v r. (r.0, r.1.0)) (λ v ls d. (v, refl, d)) key in
    let none = behind_c S (Word k.Lower (codes "none")) (behind (sign k.Arrow) f) (lower_word S (codes "none") refl refl refl) (behind_c S (Sign k.Arrow) f (arrow_token S) y) in
    let some = behind_c S (Sign k.Bar) (behind (keyword (codes "some")) (token Lower ⨾ behind (sign k.Arrow) f)) (bar_token S)
    (behind_c S (Word k.Lower (codes "some")) (token Lower ⨾ behind (sign k.Arrow) f) (lower_word S (codes "some") refl refl refl)
    (c.both (lower_token S l safe admitted) (behind_c S (Sign k.Arrow) f (arrow_token S) z))) in
    let rest : List Lexeme = word (codes "none") ∷ arrow ∷ (a ++ at k.Bar (sign_of k.Bar) ∷ word (codes "some") ∷ word l.bytes ∷ arrow ∷ b) in
    c.rewritten (ap (λ z. word (codes "match") ∷ z) (sym (append_assoc t (word (codes "with") ∷ []) rest))) (omega arith) (c.both head (c.both none some))

pub record CaseParts {A : Type 0} (S : Pieces) (f : G A) (v : (Piece × Expr) × (A × (Piece × A))) (ls : List Piece) : Type 0 where
  pub test : List Piece
  pub one : List Piece
  pub other : List Piece
  pub fewer : (1 + (length test + 1)) + ((2 + length one) + (2 + (1 + suc (length other)))) ≤ length ls
  pub good_test : AreGood test
  pub good_one : AreGood one
  pub good_other : AreGood other
  pub name : IsPart (lexeme v.1.1.0)
  pub admitted : admits Lower v.1.1.0 ≡ true
  pub spells_test : S Expression v.0.1 test
  pub spells_one : Spells S f v.1.0 one
  pub spells_other : Spells S f v.1.1.1 other

pub case_parts : {A : Type 0} (S : Pieces) (f : G A) (v : (Piece × Expr) × (A × (Piece × A))) (ls : List Piece) → AreGood ls
    → Spells S (scrutinee ⨾ none_branch f ⨾ some_branch f) v ls → CaseParts S f v ls
unfolding scrutinee
case_parts {A} S f v ls good (
  p,
  q,
  g,
  (t, tis, (p1, q1, g1, (ai, aa), (p2, q2, g2, test, (wi, wa)))),
  (
    r,
    o,
    g3,
    (n, nis, (n1, n2, g4, (ni, na), (w, wis, (w1, w2, g5, (ri, ra), one)))),
    (b, bis, (b1, b2, g6, (bi, ba), (s, sis, (s1, s2, g7, (si, sa), (x1, x2, g8, (xi, xa), (y, yis, (y1, y2, g9, (yi, ya), other))))))),
  ),
) =
    let a1 : length ls ≡ length p + length q = size_of ls p q g in
    let a2 : length p ≡ length p1 + length q1 = size_of p p1 q1 g1 in
    let a3 : length q1 ≡ length p2 + length q2 = size_of q1 p2 q2 g2 in
    let a4 : length q ≡ length r + length o = size_of q r o g3 in
    let a5 : length r ≡ length n1 + length n2 = size_of r n1 n2 g4 in
    let a6 : length n2 ≡ length w1 + length w2 = size_of n2 w1 w2 g5 in
    let a7 : length o ≡ length b1 + length b2 = size_of o b1 b2 g6 in
    let a8 : length b2 ≡ length s1 + length s2 = size_of b2 s1 s2 g7 in
    let a9 : length s2 ≡ length x1 + length x2 = size_of s2 x1 x2 g8 in
    let a10 : length x2 ≡ length y1 + length y2 = size_of x2 y1 y2 g9 in
    let c1 : length p1 ≡ 1 = size_one p1 t.0 ai in
    let c2 : length q2 ≡ 1 = size_one q2 t.1.1 wi in
    let c3 : length n1 ≡ 1 = size_one n1 n.0 ni in
    let c4 : length w1 ≡ 1 = size_one w1 w.0 ri in
    let c5 : length b1 ≡ 1 = size_one b1 b.0 bi in
    let c6 : length s1 ≡ 1 = size_one s1 s.0 si in
    let c7 : length x1 ≡ 1 = size_one x1 s.1.0 xi in
    let c8 : length y1 ≡ 1 = size_one y1 y.0 yi in
    let goodq = good_back ls p q g good in
    let goods = good_back b2 s1 s2 g7 (good_back o b1 b2 g6 (good_back q r o g3 goodq)) in
    let tested : t.1.0 ≡ v.0.1 = ap (λ z. z.1) (sym tis) in
    let branch : v.1.0 ≡ w.1 = nis ∙ wis in
    let named : v.1.1 ≡ s.1 = bis ∙ sis in
    record {
      test = p2;
      one = w2;
      other = y2;
      fewer = omega arith;
      good_test = good_front q1 p2 q2 g2 (good_back p p1 q1 g1 (good_front ls p q g good));
      good_one = good_back n2 w1 w2 g5 (good_back r n1 n2 g4 (good_front q r o g3 goodq));
      good_other = good_back x2 y1 y2 g9 (good_back s2 x1 x2 g8 goods);
      name = subst (λ (z : Piece × A). IsPart (lexeme z.0)) (sym named) (good_one x1 s.1.0 xi (good_front s2 x1 x2 g8 goods));
      admitted = subst (λ (z : Piece × A). admits Lower z.0 ≡ true) (sym named) xa;
      spells_test = subst (λ z. S Expression z p2) tested test;
      spells_one = subst (λ z. Spells S f z w2) (sym branch) one;
      spells_other = subst (λ z. Spells S f z y2) (sym (ap (λ z. z.1) named ∙ yis)) other;
    }
