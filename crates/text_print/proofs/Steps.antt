-- What is printed of `Find`, `map`, `flat_map` and paths spells them.
use Rattle.std.proofs.Common.{◌≡◌, ◌≤◌, ◌+◌, ℕ, suc, true, arith, List, [], ◌∷◌, ◌++◌, map, length, codes, refl, sym, ◌∙◌, ap, subst, append_assoc}
use Rattle.text_lexer.specs.declared.token.TokenKind.TheVariants as k
use Rattle.text_lexer.specs.Lexeme.{Lexeme, sign_of}
use Rattle.text_lexer.specs.Written.{IsPart}
use Rattle.text_ast.specs.Pieces.{Piece}
use Rattle.text_tree.specs.declared.exprs.Expr.{Expr}
use Rattle.text_tree.specs.declared.exprs.SetExpr.{SetExpr}
use Rattle.text_tree.specs.declared.exprs.SetExpr.TheVariants as s
use Rattle.text_tree.specs.declared.exprs.Filter.{Filter}
use Rattle.text_tree.specs.Forms.{Spells, Sign, Word, Upper, Lower, admits, token, part}
use Rattle.text_tree.specs.ExprGrammar.{G, Expression, Set, behind, braces, parens, keyword, named, listed, lambda, filter_form, find, map_step, flat_step}
use Rattle.text_tree.specs.Stripped.{stripped_expr, stripped_filter, stripped_name, stripped_set}
use Rattle.text_tree.specs.Placed.{set_at}
use Rattle.text_print.specs.Exprs.{commas, step as step_marks, spelled_expr, spelled_filter, spelled_set}
use Rattle.text_print.specs.Marks.{Mark, lexemes_of_marks}
use Rattle.text_print.specs.Marks as mark
use Rattle.text_print.proofs.Canonical as c
use Rattle.text_print.proofs.Canonical.{AreGood, Canonical, Same, each_same, flat, lexeme, moved, good_front, good_back, good_one, size_of, size_one}
use Rattle.text_print.proofs.Layers as layer
use Rattle.text_print.proofs.Ranks.{AsExpr, Deep, expr_lexemes, lexemes_append}
use Rattle.text_print.proofs.SetRanks.{AsSet, Knows, set_lexemes}
use Rattle.text_print.proofs.SetForms.{filter_c, AsFilter, listed_c, same_map}
use Rattle.text_print.proofs.ExprForms.{behind_c, inside, name_as}
use Rattle.text_print.proofs.Tokens.{Pieces, Bytes, at, brace_close_token, brace_open_token, close_token, colons_token, arrow_token, lower_token, lower_word, open_token, upper_token, upper_word}

abbrev pub dot : Lexeme
dot = at k.Dot (sign_of k.Dot)

pub parens_c : {A : Type 0} (S : Pieces) (f : G A) {R : A → Type 0} {m : List Lexeme} {n : ℕ} → Canonical R (Spells S f) m n
    → Canonical R (Spells S (parens f)) (at k.ParenOpen (sign_of k.ParenOpen) ∷ (m ++ at k.ParenClose (sign_of k.ParenClose) ∷ [])) (1 + (n + 1))
parens_c S f h = moved (λ v. v.1.0) (λ v r. r.1.0) (λ v ls d. (v, refl, d)) (c.both (open_token S) (c.both h (close_token S)))

pub braces_c : {A : Type 0} (S : Pieces) (f : G A) {R : A → Type 0} {m : List Lexeme} {n : ℕ} → Canonical R (Spells S f) m n
    → Canonical R (Spells S (braces f)) (at k.BraceOpen (sign_of k.BraceOpen) ∷ (m ++ at k.BraceClose (sign_of k.BraceClose) ∷ [])) (1 + (n + 1))
braces_c S f h = moved (λ v. v.1.0) (λ v r. r.1.0) (λ v ls d. (v, refl, d)) (c.both (brace_open_token S) (c.both h (brace_close_token S)))

pub lambda_c : {A : Type 0} (S : Pieces) (f : G A) (l : Piece) → IsPart (lexeme l) → admits Lower l ≡ true → {R : A → Type 0} {m : List Lexeme} {n : ℕ}
    → Canonical R (Spells S f) m n
    → Canonical (c.Pair (Bytes l.bytes) R) (Spells S (lambda f)) (at k.Lower l.bytes ∷ at k.Arrow (sign_of k.Arrow) ∷ m) (1 + suc n)
lambda_c S f l safe admitted h = c.both (lower_token S l safe admitted) (behind_c S (Sign k.Arrow) f (arrow_token S) h)

-- ---- Find

pub find_as : (m l : Piece) (ys xs : List Filter) (a b : ℕ) → m.bytes ≡ l.bytes → Same AsFilter xs ys → AsSet (s.Find b (named l) xs) (s.Find a (named m) ys)
find_as m l ys xs a b n r =
    layer.Find_stripped (named m) ys a ∙ ap (λ z. s.Find 0 z (map stripped_filter ys)) (name_as m l n)
    ∙ ap (λ z. s.Find 0 (stripped_name (named l)) z) (same_map stripped_filter xs ys r) ∙ sym (layer.Find_stripped (named l) xs b)

find_lexemes : (l : Piece) (fs : List Filter)
    → set_lexemes (s.Find l.at (named l) fs)
    ≡ at k.Upper l.bytes ∷ at k.ColonColon (sign_of k.ColonColon) ∷ at k.Upper (codes "Find") ∷ at k.ParenOpen (sign_of k.ParenOpen)
    ∷ ((at k.BraceOpen (sign_of k.BraceOpen) ∷ (lexemes_of_marks (commas (map spelled_filter fs)) ++ at k.BraceClose (sign_of k.BraceClose) ∷ []))
    ++ at k.ParenClose (sign_of k.ParenClose) ∷ [])
find_lexemes l fs =
    let inner = lexemes_of_marks (commas (map spelled_filter fs)) in
    ap (λ z. lexemes_of_marks z.marks) (layer.Find_spelled (named l) fs l.at)
    ∙ ap (λ z. at k.Upper l.bytes ∷ at k.ColonColon (sign_of k.ColonColon) ∷ at k.Upper (codes "Find") ∷ at k.ParenOpen (sign_of k.ParenOpen) ∷ at k.BraceOpen (sign_of k.BraceOpen) ∷ z)
    (lexemes_append (commas (map spelled_filter fs)) (mark.sign k.BraceClose ∷ mark.sign k.ParenClose ∷ [])
    ∙ sym (append_assoc inner (at k.BraceClose (sign_of k.BraceClose) ∷ []) (at k.ParenClose (sign_of k.ParenClose) ∷ [])))

pub record Found (S : Pieces) (f : G SetExpr) (x : SetExpr) (most : ℕ) : Type 0 where
  pub rank : (spelled_set x).rank ≡ 2
  pub canon : Canonical (AsSet x) (Spells S f) (set_lexemes x) most

find_of : (S : Pieces) (l : Piece) (fs : List Filter) (n : ℕ) → IsPart (lexeme l) → admits Upper l ≡ true
    → Canonical (Same AsFilter fs) (Spells S (listed filter_form)) (lexemes_of_marks (commas (map spelled_filter fs))) n
    → Found S find (s.Find l.at (named l) fs) (n + 7)
unfolding find
find_of S l fs n safe admitted h = record {
  rank = ap (λ z. z.rank) (layer.Find_spelled (named l) fs l.at);
  canon =
      c.rewritten (find_lexemes l fs) (omega arith)
      (moved (λ z. s.Find z.0.at (named z.0) z.1) (λ z r. find_as z.0 l z.1 fs z.0.at l.at r.0 r.1) (λ z ls d. (z, refl, d))
      (c.both (upper_token S l safe admitted)
      (behind_c S (Sign k.ColonColon) (behind (token (Word k.Upper (codes "Find"))) (parens (braces (listed filter_form)))) (colons_token S)
      (behind_c S (Word k.Upper (codes "Find")) (parens (braces (listed filter_form))) (upper_word S (codes "Find") refl refl refl)
      (parens_c S (braces (listed filter_form)) (braces_c S (listed filter_form) h))))));
}

pub find_c : (S : Pieces) → Knows S → (x : SetExpr) (ls : List Piece) → AreGood ls → Spells S find x ls → Found S find x (length ls)
unfolding find
find_c S know x ls good (v, is, (p, q, g, (ni, na), (u, uis, (a, b, g2, (ci, ca), (w, wis, (d, e, g3, (fi, fa), (y, yis, rest))))))) =
    let a1 : length ls ≡ length p + length q = size_of ls p q g in
    let a2 : length q ≡ length a + length b = size_of q a b g2 in
    let a3 : length b ≡ length d + length e = size_of b d e g3 in
    let c1 : length p ≡ 1 = size_one p v.0 ni in
    let c2 : length a ≡ 1 = size_one a u.0 ci in
    let c3 : length d ≡ 1 = size_one d w.0 fi in
    let goode = good_back b d e g3 (good_back q a b g2 (good_back ls p q g good)) in
    let i = inside S k.ParenOpen k.ParenClose (Spells S (braces (listed filter_form))) y e goode rest in
    let j = inside S k.BraceOpen k.BraceClose (Spells S (listed filter_form)) i.spells.0 i.inner i.good i.spells.2 in
    let n1 : length i.inner + 2 ≤ length e = i.fewer in
    let n2 : length j.inner + 2 ≤ length i.inner = j.fewer in
    let fs = i.spells.0.1.0 in
    let same : v.1 ≡ fs = uis ∙ wis ∙ yis ∙ i.spells.1 in
    let made = find_of S v.0 fs (length j.inner) (good_one p v.0 ni (good_front ls p q g good)) na
    (listed_c S filter_form AsFilter spelled_filter (filter_c S know) fs j.inner j.good j.spells) in
    subst (λ z. Found S find z (length ls)) (sym (is ∙ ap (λ z. s.Find v.0.at (named v.0) z) same))
    (record { rank = made.rank; canon = c.rewritten refl (omega arith) made.canon })

-- ---- steps

abbrev pub Step : Type 0
Step = SetExpr → SetExpr

abbrev pub AsStep : Step → Step → Type 0
AsStep f g = (x y : SetExpr) → AsSet x y → AsSet (f x) (g y)

-- a step after a dot
pub record OneStep (S : Pieces) (form : G Step) (f : Step) (most : ℕ) : Type 0 where
  pub marks : List Lexeme
  pub grows : (x : SetExpr) → set_lexemes (f x) ≡ set_lexemes x ++ dot ∷ marks
  pub rank : (x : SetExpr) → (spelled_set (f x)).rank ≡ 2
  pub canon : Canonical (AsStep f) (Spells S form) marks most

step_lexemes : (word x : List ℕ) (body : List Mark)
    → lexemes_of_marks (step_marks word x body)
    ≡ dot ∷ at k.Lower word ∷ at k.ParenOpen (sign_of k.ParenOpen) ∷ at k.Lower x ∷ at k.Arrow (sign_of k.Arrow) ∷ (lexemes_of_marks body ++ at k.ParenClose (sign_of k.ParenClose) ∷ [])
step_lexemes word x body =
    ap (λ z. dot ∷ at k.Lower word ∷ at k.ParenOpen (sign_of k.ParenOpen) ∷ at k.Lower x ∷ at k.Arrow (sign_of k.Arrow) ∷ z) (lexemes_append body (mark.sign k.ParenClose ∷ []))

pub map_as : (m l : Piece) (y x : Expr) → m.bytes ≡ l.bytes → AsExpr x y → AsStep (λ of. s.MapS (set_at of) of (named l) x) (λ of. s.MapS (set_at of) of (named m) y)
map_as m l y x n r t u h =
    layer.MapS_stripped u (named m) y (set_at u) ∙ ap (λ z. s.MapS 0 z (stripped_name (named m)) (stripped_expr y)) h
    ∙ ap (λ z. s.MapS 0 (stripped_set t) z (stripped_expr y)) (name_as m l n)
    ∙ ap (λ z. s.MapS 0 (stripped_set t) (stripped_name (named l)) z) r ∙ sym (layer.MapS_stripped t (named l) x (set_at t))

pub flat_as : (m l : Piece) (y x : SetExpr) → m.bytes ≡ l.bytes → AsSet x y → AsStep (λ of. s.FlatS (set_at of) of (named l) x) (λ of. s.FlatS (set_at of) of (named m) y)
flat_as m l y x n r t u h =
    layer.FlatS_stripped u (named m) y (set_at u) ∙ ap (λ z. s.FlatS 0 z (stripped_name (named m)) (stripped_set y)) h
    ∙ ap (λ z. s.FlatS 0 (stripped_set t) z (stripped_set y)) (name_as m l n)
    ∙ ap (λ z. s.FlatS 0 (stripped_set t) (stripped_name (named l)) z) r ∙ sym (layer.FlatS_stripped t (named l) x (set_at t))

map_of : (S : Pieces) (l : Piece) (x : Expr) (n : ℕ) → IsPart (lexeme l) → admits Lower l ≡ true → Deep S x n
    → OneStep S map_step (λ of. s.MapS (set_at of) of (named l) x) (n + 5)
unfolding map_step
map_of S l x n safe admitted h = record {
  marks = at k.Lower (codes "map") ∷ at k.ParenOpen (sign_of k.ParenOpen) ∷ at k.Lower l.bytes ∷ at k.Arrow (sign_of k.Arrow) ∷ (expr_lexemes x ++ at k.ParenClose (sign_of k.ParenClose) ∷ []);
  grows = λ t. (ap (λ z. lexemes_of_marks z.marks) (layer.MapS_spelled t (named l) x (set_at t))
      ∙ lexemes_append (spelled_set t).marks (step_marks (codes "map") l.bytes (spelled_expr x).marks)
      ∙ ap (λ z. set_lexemes t ++ z) (step_lexemes (codes "map") l.bytes (spelled_expr x).marks));
  rank = λ t. ap (λ z. z.rank) (layer.MapS_spelled t (named l) x (set_at t));
  canon =
      c.rewritten refl (omega arith)
      (moved (λ z of. s.MapS (set_at of) of (named z.0) z.1) (λ z r. map_as z.0 l z.1 x r.0 r.1) (λ z ls d. (z, refl, d))
      (behind_c S (Word k.Lower (codes "map")) (parens (lambda (part Expression))) (lower_word S (codes "map") refl refl refl)
      (parens_c S (lambda (part Expression)) (lambda_c S (part Expression) l safe admitted h))));
}

flat_of : (S : Pieces) (l : Piece) (x : SetExpr) (n : ℕ) → IsPart (lexeme l) → admits Lower l ≡ true → Canonical (AsSet x) (S Set) (set_lexemes x) n
    → OneStep S flat_step (λ of. s.FlatS (set_at of) of (named l) x) (n + 5)
unfolding flat_step
flat_of S l x n safe admitted h = record {
  marks = at k.Lower (codes "flat_map") ∷ at k.ParenOpen (sign_of k.ParenOpen) ∷ at k.Lower l.bytes ∷ at k.Arrow (sign_of k.Arrow) ∷ (set_lexemes x ++ at k.ParenClose (sign_of k.ParenClose) ∷ []);
  grows = λ t. (ap (λ z. lexemes_of_marks z.marks) (layer.FlatS_spelled t (named l) x (set_at t))
      ∙ lexemes_append (spelled_set t).marks (step_marks (codes "flat_map") l.bytes (spelled_set x).marks)
      ∙ ap (λ z. set_lexemes t ++ z) (step_lexemes (codes "flat_map") l.bytes (spelled_set x).marks));
  rank = λ t. ap (λ z. z.rank) (layer.FlatS_spelled t (named l) x (set_at t));
  canon =
      c.rewritten refl (omega arith)
      (moved (λ z of. s.FlatS (set_at of) of (named z.0) z.1) (λ z r. flat_as z.0 l z.1 x r.0 r.1) (λ z ls d. (z, refl, d))
      (behind_c S (Word k.Lower (codes "flat_map")) (parens (lambda (part Set))) (lower_word S (codes "flat_map") refl refl refl)
      (parens_c S (lambda (part Set)) (lambda_c S (part Set) l safe admitted h))));
}

-- the variable and the body of `x -> body` in parentheses behind a word
pub record LambdaParts {A : Type 0} (S : Pieces) (f : G A) (v : Piece × A) (ls : List Piece) : Type 0 where
  pub body : List Piece
  pub fewer : length body + 5 ≤ length ls
  pub good : AreGood body
  pub name : IsPart (lexeme v.0)
  pub admitted : admits Lower v.0 ≡ true
  pub spells : Spells S f v.1 body

lambda_parts : {A : Type 0} (S : Pieces) (word : List ℕ) (f : G A) (v : Piece × A) (ls : List Piece) → AreGood ls
    → Spells S (behind (keyword word) (parens (lambda f))) v ls → LambdaParts S f v ls
lambda_parts {A} S word f v ls good (u, uis, (p, q, g, (wi, wa), (w, wis, (p1, q1, g1, (oi, oa), (p2, q2, g2, (x1, x2, g3, (ni, na), (y, yis, (y1, y2, g4, (ai, aa), body))), (ei, ea)))))) =
    let a1 : length ls ≡ length p + length q = size_of ls p q g in
    let a2 : length q ≡ length p1 + length q1 = size_of q p1 q1 g1 in
    let a3 : length q1 ≡ length p2 + length q2 = size_of q1 p2 q2 g2 in
    let a4 : length p2 ≡ length x1 + length x2 = size_of p2 x1 x2 g3 in
    let a5 : length x2 ≡ length y1 + length y2 = size_of x2 y1 y2 g4 in
    let c1 : length p ≡ 1 = size_one p u.0 wi in
    let c2 : length p1 ≡ 1 = size_one p1 w.0 oi in
    let c3 : length q2 ≡ 1 = size_one q2 w.1.1 ei in
    let c4 : length x1 ≡ 1 = size_one x1 w.1.0.0 ni in
    let c5 : length y1 ≡ 1 = size_one y1 y.0 ai in
    let goodp = good_front q1 p2 q2 g2 (good_back q p1 q1 g1 (good_back ls p q g good)) in
    let same : v ≡ w.1.0 = uis ∙ wis in
    record {
      body = y2;
      fewer = omega arith;
      good = good_back x2 y1 y2 g4 (good_back p2 x1 x2 g3 goodp);
      name = subst (λ (z : Piece × A). IsPart (lexeme z.0)) (sym same) (good_one x1 w.1.0.0 ni (good_front p2 x1 x2 g3 goodp));
      admitted = subst (λ (z : Piece × A). admits Lower z.0 ≡ true) (sym same) na;
      spells = subst (λ z. Spells S f z y2) (sym (ap (λ z. z.1) same ∙ yis)) body;
    }

pub map_one : (S : Pieces) → Knows S → (f : Step) (ls : List Piece) → AreGood ls → Spells S map_step f ls → OneStep S map_step f (length ls)
unfolding map_step
map_one S know f ls good (v, is, d) =
    let i = lambda_parts S (codes "map") (part Expression) v ls good d in
    let known = know.expr v.1 i.body i.good i.spells in
    let made = map_of S v.0 v.1 (length i.body) i.name i.admitted known.1 in
    subst (λ z. OneStep S map_step z (length ls)) (sym is)
    (record { marks = made.marks; grows = made.grows; rank = made.rank; canon = c.rewritten refl i.fewer made.canon })

pub flat_one : (S : Pieces) → Knows S → (f : Step) (ls : List Piece) → AreGood ls → Spells S flat_step f ls → OneStep S flat_step f (length ls)
unfolding flat_step
flat_one S know f ls good (v, is, d) =
    let i = lambda_parts S (codes "flat_map") (part Set) v ls good d in
    let known = know.set v.1 i.body i.good i.spells in
    let made = flat_of S v.0 v.1 (length i.body) i.name i.admitted known.1 in
    subst (λ z. OneStep S flat_step z (length ls)) (sym is)
    (record { marks = made.marks; grows = made.grows; rank = made.rank; canon = c.rewritten refl i.fewer made.canon })
