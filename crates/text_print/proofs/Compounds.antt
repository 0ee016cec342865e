-- What is printed of comparisons, conjunctions, disjunctions and choices spells them.
use Rattle.std.proofs.Common.{◌≡◌, ◌+◌, inl, inr, ℕ, suc, arith, List, [], ◌∷◌, ◌++◌, length, codes, refl, sym, ◌∙◌, ap, subst, append_assoc}
use Rattle.std.specs.List.{fold}
use Rattle.std.proofs.lemmas.Grind.{fold-append}
use Rattle.text_lexer.specs.declared.token.TokenKind.TheVariants as k
use Rattle.text_lexer.specs.Lexeme.{sign_of}
use Rattle.text_ast.specs.Pieces.{Piece}
use Rattle.text_tree.specs.declared.exprs.CmpOp.{CmpOp}
use Rattle.text_tree.specs.declared.exprs.CmpOp.TheVariants as op
use Rattle.text_tree.specs.declared.exprs.Expr.{Expr}
use Rattle.text_tree.specs.declared.exprs.Expr.TheVariants as e
use Rattle.text_tree.specs.declared.exprs.Expr.TheOpen.{Expr-F}
use Rattle.text_tree.specs.declared.exprs.SetExpr.{SetExpr}
use Rattle.text_tree.specs.declared.exprs.SetExpr.TheVariants as s
use Rattle.text_tree.specs.Forms.{Spells, SpellsEach, Sign}
use Rattle.text_tree.specs.ExprGrammar.{Set, behind, sign, cmp_op, container, comparison, compared, conjunction, disjunction}
use Rattle.text_tree.specs.Placed.{expr_at}
use Rattle.text_tree.specs.Stripped.{stripped_expr, stripped_set}
use Rattle.text_print.specs.Exprs.{at_least, between, cmp_sign, container as container_marks, expr_spelling, spaced, spelled_expr, spelled_set}
use Rattle.text_print.specs.Marks.{lexemes_of_marks}
use Rattle.text_print.proofs.Canonical as c
use Rattle.text_print.proofs.Canonical.{AreGood, Canonical, moved, good_front, good_back, size_of, size_one}
use Rattle.text_print.proofs.Layers as layer
use Rattle.text_print.proofs.More.{each_snoc}
use Rattle.text_print.proofs.Ranks.{AsExpr, Held, held, held_at, larger, lexemes_append, looser}
use Rattle.text_print.proofs.SetRanks.{AsSet, Knows, firm_container, path_as}
use Rattle.text_print.proofs.ExprForms.{inside, path_held, unary_held}
use Rattle.text_print.proofs.Tokens.{Pieces, Tok, and_sign_token, at, lower_word, or_sign_token, part_of, sign_token}

-- ---- comparisons

pub cmp_token : (S : Pieces) (o : CmpOp) → Canonical (λ p. p ≡ o) (Spells S cmp_op) (at (cmp_sign o) (sign_of (cmp_sign o)) ∷ []) 1
unfolding cmp_op
cmp_token S op.Eq = moved (λ l. op.Eq) (λ l r. refl) (λ l ls d. inl (l, refl, d)) (sign_token S k.EqEq (part_of (at k.EqEq (sign_of k.EqEq)) (record { form = refl; limits = tt }) refl))
cmp_token S op.Ne = moved (λ l. op.Ne) (λ l r. refl) (λ l ls d. inr (inl (l, refl, d))) (sign_token S k.NotEq (part_of (at k.NotEq (sign_of k.NotEq)) (record { form = refl; limits = tt }) refl))
cmp_token S op.Lt = moved (λ l. op.Lt) (λ l r. refl) (λ l ls d. inr (inr (inl (l, refl, d)))) (sign_token S k.Less (part_of (at k.Less (sign_of k.Less)) (record { form = refl; limits = tt }) refl))
cmp_token S op.Le = moved (λ l. op.Le) (λ l r. refl) (λ l ls d. inr (inr (inr (inl (l, refl, d))))) (sign_token S k.LessEq (part_of (at k.LessEq (sign_of k.LessEq)) (record { form = refl; limits = tt }) refl))
cmp_token S op.Gt = moved (λ l. op.Gt) (λ l r. refl) (λ l ls d. inr (inr (inr (inr (inl (l, refl, d)))))) (sign_token S k.Greater (part_of (at k.Greater (sign_of k.Greater)) (record { form = refl; limits = tt }) refl))
cmp_token S op.Ge = moved (λ l. op.Ge) (λ l r. refl) (λ l ls d. inr (inr (inr (inr (inr (l, refl, d)))))) (sign_token S k.GreaterEq (part_of (at k.GreaterEq (sign_of k.GreaterEq)) (record { form = refl; limits = tt }) refl))

pub cmp_size : (S : Pieces) (o : CmpOp) (ls : List Piece) → Spells S cmp_op o ls → length ls ≡ 1
unfolding cmp_op
cmp_size S o ls (inl (l, is, (g, a))) = size_one ls l g
cmp_size S o ls (inr (inl (l, is, (g, a)))) = size_one ls l g
cmp_size S o ls (inr (inr (inl (l, is, (g, a))))) = size_one ls l g
cmp_size S o ls (inr (inr (inr (inl (l, is, (g, a)))))) = size_one ls l g
cmp_size S o ls (inr (inr (inr (inr (inl (l, is, (g, a))))))) = size_one ls l g
cmp_size S o ls (inr (inr (inr (inr (inr (l, is, (g, a))))))) = size_one ls l g

pub cmp_as : (p o : CmpOp) (y x w v : Expr) (a b : ℕ) → p ≡ o → AsExpr x y → AsExpr v w → AsExpr (e.Cmp b o x v) (e.Cmp a p y w)
cmp_as p o y x w v a b f r t =
    layer.Cmp_stripped p y w a ∙ ap (λ z. e.Cmp 0 z (stripped_expr y) (stripped_expr w)) f ∙ ap (λ z. e.Cmp 0 o z (stripped_expr w)) r
    ∙ ap (λ z. e.Cmp 0 o (stripped_expr x) z) t ∙ sym (layer.Cmp_stripped o x v b)

cmp_held : (S : Pieces) (o : CmpOp) (x y : Expr) (n m : ℕ) → Held S 4 x n → Held S 4 y m → Held S 3 (e.Cmp (expr_at x) o x y) (n + suc m)
unfolding compared comparison
cmp_held S o x y n m h j =
    held S 3 (e.Cmp (expr_at x) o x y) (expr_spelling (Expr-F.Cmp (expr_at x) o (spelled_expr x) (spelled_expr y))) (n + suc m)
    (layer.Cmp_spelled o x y (expr_at x)) (omega arith)
    (c.rewritten (lexemes_append (at_least 4 (spelled_expr x)) (between (cmp_sign o) ++ at_least 4 (spelled_expr y))) (omega arith)
    (moved (λ z. e.Cmp (expr_at z.0) z.1.0 z.0 z.1.1) (λ z r. cmp_as z.1.0 o z.0 x z.1.1 y (expr_at z.0) (expr_at x) r.1.0 r.0 r.1.1)
    (λ z ls (a, b, g, left, rest). ((z.0, λ left. e.Cmp (expr_at left) z.1.0 left z.1.1), refl, (a, b, g, left, inl (z.1, refl, rest))))
    (c.both (held_at S 4 (omega arith) x n h) (c.both (cmp_token S o) (held_at S 4 (omega arith) y m j)))))

pub container_read : (S : Pieces) → Knows S → (x : SetExpr) (ls : List Piece) → AreGood ls → Spells S container x ls
    → Canonical (AsSet x) (Spells S container) (lexemes_of_marks (container_marks (spelled_set x))) (length ls)
unfolding container
container_read S know x ls good (inl (y, is, d)) =
    subst (λ z. Canonical (AsSet z) (Spells S container) (lexemes_of_marks (container_marks (spelled_set z))) (length ls)) (sym is)
    (c.rewritten (ap (λ z. lexemes_of_marks (container_marks z)) (layer.Path_spelled y (expr_at y))) (omega arith)
    (moved (λ w. s.Path (expr_at w) w) (λ w r. path_as w y (expr_at w) (expr_at y) r) (λ w ks d. inl (w, refl, d))
    (held_at S 6 (omega arith) y (length ls) (path_held S know y ls good d))))
container_read S know x ls good (inr (v, is, d)) =
    let i = inside S k.BraceOpen k.BraceClose (S Set) v ls good d in
    let known = know.set v.1.0 i.inner i.good i.spells in
    subst (λ z. Canonical (AsSet z) (Spells S container) (lexemes_of_marks (container_marks (spelled_set z))) (length ls)) (sym is)
    (c.rewritten refl i.fewer (firm_container S v.1.0 (length i.inner) known.0 known.1))

pub member_as : (y x : Expr) (u t : SetExpr) (a b : ℕ) → AsExpr x y → AsSet t u → AsExpr (e.Member b x t) (e.Member a y u)
member_as y x u t a b r f =
    layer.Member_stripped y u a ∙ ap (λ z. e.Member 0 z (stripped_set u)) r ∙ ap (λ z. e.Member 0 (stripped_expr x) z) f ∙ sym (layer.Member_stripped x t b)

member_held : (S : Pieces) (x : Expr) (t : SetExpr) (n m : ℕ) → Held S 4 x n
    → Canonical (AsSet t) (Spells S container) (lexemes_of_marks (container_marks (spelled_set t))) m → Held S 3 (e.Member (expr_at x) x t) (n + suc m)
unfolding compared comparison
member_held S x t n m h j =
    held S 3 (e.Member (expr_at x) x t) (expr_spelling (Expr-F.Member (expr_at x) (spelled_expr x) (spelled_set t))) (n + suc m)
    (layer.Member_spelled x t (expr_at x)) (omega arith)
    (c.rewritten (lexemes_append (at_least 4 (spelled_expr x)) (spaced (codes "in") ++ container_marks (spelled_set t))) (omega arith)
    (moved (λ z. e.Member (expr_at z.0) z.0 z.1.1) (λ z r. member_as z.0 x z.1.1 t (expr_at z.0) (expr_at x) r.0 r.1.1)
    (λ z ls (a, b, g, left, rest). ((z.0, λ left. e.Member (expr_at left) left z.1.1), refl, (a, b, g, left, inr (inl (z.1.1, refl, (z.1, refl, rest))))))
    (c.both (held_at S 4 (omega arith) x n h) (c.both (lower_word S (codes "in") refl refl refl) j))))

pub compared_held : (S : Pieces) → Knows S → (x : Expr) (ls : List Piece) → AreGood ls → Spells S compared x ls → Held S 3 x (length ls)
unfolding compared comparison
compared_held S know x ls good (v, is, (p, q, g, left, inl (w, made, (a, b, g2, o, right)))) =
    let one : length ls ≡ length p + length q = size_of ls p q g in
    let two : length q ≡ length a + length b = size_of q a b g2 in
    let three : length a ≡ 1 = cmp_size S w.0 a o in
    let goodq = good_back ls p q g good in
    subst (λ z. Held S 3 z (length ls)) (sym (is ∙ ap (λ f. f v.0) made))
    (larger S 3 (e.Cmp (expr_at v.0) w.0 v.0 w.1) (length p + suc (length b)) (length ls) (omega arith)
    (cmp_held S w.0 v.0 w.1 (length p) (length b) (unary_held S know v.0 p (good_front ls p q g good) left) (unary_held S know w.1 b (good_back q a b g2 goodq) right)))
compared_held S know x ls good (v, is, (p, q, g, left, inr (inl (t, made, (u, same, (a, b, g2, (ai, aa), right)))))) =
    let one : length ls ≡ length p + length q = size_of ls p q g in
    let two : length q ≡ length a + length b = size_of q a b g2 in
    let three : length a ≡ 1 = size_one a u.0 ai in
    let goodq = good_back ls p q g good in
    subst (λ z. Held S 3 z (length ls)) (sym (is ∙ ap (λ f. f v.0) made ∙ ap (λ z. e.Member (expr_at v.0) v.0 z) same))
    (larger S 3 (e.Member (expr_at v.0) v.0 u.1) (length p + suc (length b)) (length ls) (omega arith)
    (member_held S v.0 u.1 (length p) (length b) (unary_held S know v.0 p (good_front ls p q g good) left)
    (container_read S know u.1 b (good_back q a b g2 goodq) right)))
compared_held S know x ls good (v, is, (p, q, g, left, inr (inr (made, none)))) =
    let one : length ls ≡ length p + length q = size_of ls p q g in
    subst (λ z. Held S 3 z (length ls)) (sym (is ∙ ap (λ f. f v.0) made))
    (larger S 3 v.0 (length p) (length ls) (omega arith) (looser S 3 4 v.0 (length p) (omega arith) (unary_held S know v.0 p (good_front ls p q g good) left)))

-- ---- conjunctions

pub and_as : (y x w v : Expr) (a b : ℕ) → AsExpr x y → AsExpr v w → AsExpr (e.And b x v) (e.And a y w)
and_as y x w v a b r t =
    layer.And_stripped y w a ∙ ap (λ z. e.And 0 z (stripped_expr w)) r ∙ ap (λ z. e.And 0 (stripped_expr x) z) t ∙ sym (layer.And_stripped x v b)

add_and : (S : Pieces) (v : Expr × (Piece × Expr)) (ls : List Piece) → c.Then (Spells S conjunction) (c.Then (Tok S (Sign k.AndAnd)) (Spells S compared)) v ls
    → Spells S conjunction (e.And (expr_at v.0) v.0 v.1.1) ls
unfolding conjunction
add_and S v ls (front, back, glue, (w, is, (a, b, g, first, (rest, t))), d) = (
  (w.0, w.1 ++ v.1.1 ∷ []),
  ap (λ z. e.And (expr_at z) z v.1.1) is ∙ sym (fold-append (λ left right. e.And (expr_at left) left right) w.0 w.1 (v.1.1 ∷ [])),
  (
    a,
    b ++ back,
    glue ∙ ap (λ (z : List Piece). z ++ back) g ∙ append_assoc a b back,
    first,
    (each_snoc (Spells S (behind (sign k.AndAnd) compared)) w.1 v.1.1 b back rest (v.1, refl, d), tt),
  ),
)

and_held : (S : Pieces) (x y : Expr) (n m : ℕ) → Held S 2 x n → Held S 3 y m → Held S 2 (e.And (expr_at x) x y) (n + suc m)
and_held S x y n m h j =
    held S 2 (e.And (expr_at x) x y) (expr_spelling (Expr-F.And (expr_at x) (spelled_expr x) (spelled_expr y))) (n + suc m) (layer.And_spelled x y (expr_at x)) (omega arith)
    (c.rewritten (lexemes_append (at_least 2 (spelled_expr x)) (between k.AndAnd ++ at_least 3 (spelled_expr y))) (omega arith)
    (moved (λ z. e.And (expr_at z.0) z.0 z.1.1) (λ z w. and_as z.0 x z.1.1 y (expr_at z.0) (expr_at x) w.0 w.1.1) (add_and S)
    (c.both (held_at S 2 (omega arith) x n h) (c.both (and_sign_token S) (held_at S 3 (omega arith) y m j)))))

ands_held : (S : Pieces) → Knows S → (x : Expr) (ys : List Expr) (n : ℕ) (ls : List Piece) → AreGood ls → SpellsEach (Spells S (behind (sign k.AndAnd) compared)) ys ls
    → Held S 2 x n → Held S 2 (fold (λ left right. e.And (expr_at left) left right) x ys) (n + length ls)
ands_held S know x [] n ls good d h = larger S 2 x n (n + length ls) (omega arith) h
ands_held S know x (y ∷ ys) n ls good (p, q, g, (v, is, (a, b, g2, (ai, aa), right)), more) h =
    let one : length ls ≡ length p + length q = size_of ls p q g in
    let two : length p ≡ length a + length b = size_of p a b g2 in
    let three : length a ≡ 1 = size_one a v.0 ai in
    let here : Held S 2 (e.And (expr_at x) x y) (n + suc (length b)) =
    subst (λ z. Held S 2 (e.And (expr_at x) x z) (n + suc (length b))) (sym is)
    (and_held S x v.1 n (length b) h (compared_held S know v.1 b (good_back p a b g2 (good_front ls p q g good)) right)) in
    larger S 2 (fold (λ left right. e.And (expr_at left) left right) (e.And (expr_at x) x y) ys) ((n + suc (length b)) + length q) (n + length ls) (omega arith)
    (ands_held S know (e.And (expr_at x) x y) ys (n + suc (length b)) q (good_back ls p q g good) more here)

pub conjunction_held : (S : Pieces) → Knows S → (x : Expr) (ls : List Piece) → AreGood ls → Spells S conjunction x ls → Held S 2 x (length ls)
unfolding conjunction
conjunction_held S know x ls good (v, is, (p, q, g, first, (rest, t))) =
    let one : length ls ≡ length p + length q = size_of ls p q g in
    subst (λ z. Held S 2 z (length ls)) (sym is)
    (larger S 2 (fold (λ left right. e.And (expr_at left) left right) v.0 v.1) (length p + length q) (length ls) (omega arith)
    (ands_held S know v.0 v.1 (length p) q (good_back ls p q g good) rest
    (looser S 2 3 v.0 (length p) (omega arith) (compared_held S know v.0 p (good_front ls p q g good) first))))

-- ---- disjunctions

pub or_as : (y x w v : Expr) (a b : ℕ) → AsExpr x y → AsExpr v w → AsExpr (e.Or b x v) (e.Or a y w)
or_as y x w v a b r t =
    layer.Or_stripped y w a ∙ ap (λ z. e.Or 0 z (stripped_expr w)) r ∙ ap (λ z. e.Or 0 (stripped_expr x) z) t ∙ sym (layer.Or_stripped x v b)

add_or : (S : Pieces) (v : Expr × (Piece × Expr)) (ls : List Piece) → c.Then (Spells S disjunction) (c.Then (Tok S (Sign k.OrOr)) (Spells S conjunction)) v ls
    → Spells S disjunction (e.Or (expr_at v.0) v.0 v.1.1) ls
unfolding disjunction
add_or S v ls (front, back, glue, (w, is, (a, b, g, first, (rest, t))), d) = (
  (w.0, w.1 ++ v.1.1 ∷ []),
  ap (λ z. e.Or (expr_at z) z v.1.1) is ∙ sym (fold-append (λ left right. e.Or (expr_at left) left right) w.0 w.1 (v.1.1 ∷ [])),
  (
    a,
    b ++ back,
    glue ∙ ap (λ (z : List Piece). z ++ back) g ∙ append_assoc a b back,
    first,
    (each_snoc (Spells S (behind (sign k.OrOr) conjunction)) w.1 v.1.1 b back rest (v.1, refl, d), tt),
  ),
)

or_held : (S : Pieces) (x y : Expr) (n m : ℕ) → Held S 1 x n → Held S 2 y m → Held S 1 (e.Or (expr_at x) x y) (n + suc m)
or_held S x y n m h j =
    held S 1 (e.Or (expr_at x) x y) (expr_spelling (Expr-F.Or (expr_at x) (spelled_expr x) (spelled_expr y))) (n + suc m) (layer.Or_spelled x y (expr_at x)) (omega arith)
    (c.rewritten (lexemes_append (at_least 1 (spelled_expr x)) (between k.OrOr ++ at_least 2 (spelled_expr y))) (omega arith)
    (moved (λ z. e.Or (expr_at z.0) z.0 z.1.1) (λ z w. or_as z.0 x z.1.1 y (expr_at z.0) (expr_at x) w.0 w.1.1) (add_or S)
    (c.both (held_at S 1 (omega arith) x n h) (c.both (or_sign_token S) (held_at S 2 (omega arith) y m j)))))

ors_held : (S : Pieces) → Knows S → (x : Expr) (ys : List Expr) (n : ℕ) (ls : List Piece) → AreGood ls → SpellsEach (Spells S (behind (sign k.OrOr) conjunction)) ys ls
    → Held S 1 x n → Held S 1 (fold (λ left right. e.Or (expr_at left) left right) x ys) (n + length ls)
ors_held S know x [] n ls good d h = larger S 1 x n (n + length ls) (omega arith) h
ors_held S know x (y ∷ ys) n ls good (p, q, g, (v, is, (a, b, g2, (ai, aa), right)), more) h =
    let one : length ls ≡ length p + length q = size_of ls p q g in
    let two : length p ≡ length a + length b = size_of p a b g2 in
    let three : length a ≡ 1 = size_one a v.0 ai in
    let here : Held S 1 (e.Or (expr_at x) x y) (n + suc (length b)) =
    subst (λ z. Held S 1 (e.Or (expr_at x) x z) (n + suc (length b))) (sym is)
    (or_held S x v.1 n (length b) h (conjunction_held S know v.1 b (good_back p a b g2 (good_front ls p q g good)) right)) in
    larger S 1 (fold (λ left right. e.Or (expr_at left) left right) (e.Or (expr_at x) x y) ys) ((n + suc (length b)) + length q) (n + length ls) (omega arith)
    (ors_held S know (e.Or (expr_at x) x y) ys (n + suc (length b)) q (good_back ls p q g good) more here)

pub disjunction_held : (S : Pieces) → Knows S → (x : Expr) (ls : List Piece) → AreGood ls → Spells S disjunction x ls → Held S 1 x (length ls)
unfolding disjunction
disjunction_held S know x ls good (v, is, (p, q, g, first, (rest, t))) =
    let one : length ls ≡ length p + length q = size_of ls p q g in
    subst (λ z. Held S 1 z (length ls)) (sym is)
    (larger S 1 (fold (λ left right. e.Or (expr_at left) left right) v.0 v.1) (length p + length q) (length ls) (omega arith)
    (ors_held S know v.0 v.1 (length p) q (good_back ls p q g good) rest
    (looser S 1 2 v.0 (length p) (omega arith) (conjunction_held S know v.0 p (good_front ls p q g good) first))))
