-- What is printed of each form of expression spells it.
use Rattle.std.specs.Prelude.{nat_le}
use Rattle.std.specs.Fmt.{decimal}
use Rattle.std.specs.Str.Parse.{digits_value}
use Rattle.std.proofs.lemmas.Bool.{leb-true}
use Rattle.std.proofs.Common.{◌≡◌, ◌≤◌, ◌+◌, ◌-◌, inl, inr, ℕ, ℤ, pos, suc, true, false, arith, List, [], ◌∷◌, ◌++◌, length, codes, refl, sym, ◌∙◌, ap, subst, append_assoc}
use Rattle.std.specs.List.{fold}
use Rattle.std.proofs.lemmas.Grind.{fold-append}
use Rattle.text_lexer.specs.declared.token.TokenKind.TheVariants as k
use Rattle.text_lexer.specs.declared.token.TokenKind.{TokenKind}
use Rattle.text_lexer.specs.Lexeme.{Lexeme, sign_of}
use Rattle.text_lexer.specs.Written.{IsPart}
use Rattle.text_ast.specs.Pieces.{Piece}
use Rattle.text_tree.specs.declared.named.Named.{Named}
use Rattle.text_tree.specs.declared.exprs.Expr.{Expr}
use Rattle.text_tree.specs.declared.exprs.Expr.TheVariants as e
use Rattle.text_tree.specs.declared.exprs.Expr.TheOpen.{Expr-F}
use Rattle.text_tree.specs.Forms.{Want, Spells, SpellsEach, Sign, Lower, admits, largest, same_kind, token}
use Rattle.text_tree.specs.ExprGrammar.{G, Expression, behind, sign, minus, named, get, var_of, path_root, path, flag, number, literal, option, atom, unary}
use Rattle.text_tree.specs.Placed.{expr_at, placed_expr}
use Rattle.text_tree.specs.Stripped.{stripped_name, stripped_expr}
use Rattle.text_tree.specs.LiteralValue.{literal_value}
use Rattle.text_print.specs.Exprs.{at_least, expr_spelling, spelled_expr}
use Rattle.text_print.specs.Marks.{lexemes_of_marks, lower}
use Rattle.text_print.specs.Marks as mark
use Rattle.text_print.proofs.Canonical as c
use Rattle.text_print.proofs.Canonical.{AreGood, Canonical, lexeme, moved, good_front, good_back, good_one, size_of, size_one}
use Rattle.text_print.proofs.Layers as layer
use Rattle.text_print.proofs.More.{each_snoc}
use Rattle.text_print.proofs.Ranks.{AsExpr, Held, deep_as, held, held_at, larger, lexemes_append, looser, path_of_root, tight_as}
use Rattle.text_print.proofs.SetRanks.{Knows}
use Rattle.text_print.proofs.Tokens.{Pieces, Any, Tok, as_kind, at, both_true, close_token, dot_token, lower_token, lower_word, minus_token, not_sign_token, open_token}
use Rattle.text_print.proofs.Values.{literal_token, negated_token, number_text, plain_token}

-- ---- names

pub name_as : (m l : Piece) → m.bytes ≡ l.bytes → stripped_name (named m) ≡ stripped_name (named l)
name_as m l e = ap (λ (z : List ℕ). let n : Named = record { name = z; at = 0 } in n) e

pub var_as : (m l : Piece) → m.bytes ≡ l.bytes → AsExpr (var_of l) (var_of m)
var_as m l same = layer.Var_stripped (named m) m.at ∙ ap (λ z. e.Var 0 z) (name_as m l same) ∙ sym (layer.Var_stripped (named l) l.at)

pub get_as : (y x : Expr) (m l : Piece) → AsExpr x y → m.bytes ≡ l.bytes → AsExpr (get x l) (get y m)
get_as y x m l r same =
    layer.Get_stripped y (named m) (expr_at y) ∙ ap (λ z. e.Get 0 z (stripped_name (named m))) r
    ∙ ap (λ z. e.Get 0 (stripped_expr x) z) (name_as m l same) ∙ sym (layer.Get_stripped x (named l) (expr_at x))

-- ---- paths

fresh_var : (S : Pieces) (l : Piece) (n : ℕ) → 1 ≤ n → IsPart (lexeme l) → admits Lower l ≡ true → Held S 6 (var_of l) n
unfolding path_root
fresh_var S l n some safe a =
    held S 6 (var_of l) (expr_spelling (Expr-F.Var l.at (named l))) n (layer.Var_spelled (named l) l.at) (omega arith)
    (c.rewritten refl some
    (moved var_of (λ m r. var_as m l r) (λ m ks d. path_of_root S (var_of m) ks (inl (m, refl, d))) (lower_token S l safe a)))

-- the pieces of a form in parentheses
pub record Inside {A : Type 0} (F : A → List Piece → Type 0) (x : A) (ls : List Piece) : Type 0 where
  pub inner : List Piece
  pub fewer : length inner + 2 ≤ length ls
  pub good : AreGood inner
  pub spells : F x inner

pub inside : {A : Type 0} (S : Pieces) (left right : TokenKind) (F : A → List Piece → Type 0) (v : Piece × (A × Piece)) (ls : List Piece) → AreGood ls
    → c.Then (Tok S (Sign left)) (c.Then F (Tok S (Sign right))) v ls → Inside F v.1.0 ls
inside S left right F v ls good (p, q, g, (po, oa), (p2, q2, g2, h, (pc, ca))) =
    let one : length ls ≡ length p + length q = size_of ls p q g in
    let two : length q ≡ length p2 + length q2 = size_of q p2 q2 g2 in
    let a : length p ≡ 1 = size_one p v.0 po in
    let b : length q2 ≡ 1 = size_one q2 v.1.1 pc in
    record { inner = p2; fewer = omega arith; good = good_front q p2 q2 g2 (good_back ls p q g good); spells = h }

pub root_held : (S : Pieces) → Knows S → (x : Expr) (ls : List Piece) → AreGood ls → Spells S path_root x ls → Held S 6 x (length ls)
unfolding path_root
root_held S know x ls good (inl (l, is, (g, a))) =
    let some : 1 ≤ length ls = omega (arith, size_one ls l g) in
    subst (λ z. Held S 6 z (length ls)) (sym is) (fresh_var S l (length ls) some (good_one ls l g good) a)
root_held S know x ls good (inr (v, is, d)) =
    let i = inside S k.ParenOpen k.ParenClose (S Expression) v ls good d in
    let known = know.expr v.1.0 i.inner i.good i.spells in
    subst (λ z. Held S 6 z (length ls)) (sym is)
    (inr (record {
      inside = length i.inner;
      fewer = i.fewer;
      tight = tight_as S (placed_expr v.0.at v.1.0) v.1.0 (length i.inner) (layer.spelled_placed_expr v.0.at v.1.0) (layer.stripped_placed_expr v.0.at v.1.0) known.0;
      deep = deep_as S (placed_expr v.0.at v.1.0) v.1.0 (length i.inner) (layer.spelled_placed_expr v.0.at v.1.0) (layer.stripped_placed_expr v.0.at v.1.0) known.1;
    }))

-- a path with one field more
add_field : (S : Pieces) (v : Expr × (Piece × Piece)) (ls : List Piece) → c.Then (Spells S path) (c.Then (Tok S (Sign k.Dot)) (Tok S Lower)) v ls
    → Spells S path (get v.0 v.1.1) ls
unfolding path
add_field S v ls (front, back, glue, (w, is, (a, b, g, root, (rest, t))), d) = (
  (w.0, w.1 ++ v.1.1 ∷ []),
  ap (λ z. get z v.1.1) is ∙ sym (fold-append get w.0 w.1 (v.1.1 ∷ [])),
  (
    a,
    b ++ back,
    glue ∙ ap (λ (z : List Piece). z ++ back) g ∙ append_assoc a b back,
    root,
    (each_snoc (Spells S (behind (sign k.Dot) (token Lower))) w.1 v.1.1 b back rest (v.1, refl, d), tt),
  ),
)

field_held : (S : Pieces) (x : Expr) (l : Piece) (n : ℕ) → IsPart (lexeme l) → admits Lower l ≡ true → Held S 6 x n → Held S 6 (get x l) (n + 2)
field_held S x l n safe a h =
    held S 6 (get x l) (expr_spelling (Expr-F.Get (expr_at x) (spelled_expr x) (named l))) (n + 2) (layer.Get_spelled x (named l) (expr_at x)) (omega arith)
    (c.rewritten (lexemes_append (at_least 6 (spelled_expr x)) (mark.sign k.Dot ∷ lower l.bytes ∷ [])) (omega arith)
    (moved (λ v. get v.0 v.1.1) (λ v r. get_as v.0 x v.1.1 l r.0 r.1.1) (add_field S)
    (c.both (held_at S 6 (omega arith) x n h) (c.both (dot_token S) (lower_token S l safe a)))))

pub fields_held : (S : Pieces) (x : Expr) (fs : List Piece) (n : ℕ) (ls : List Piece) → AreGood ls → SpellsEach (Spells S (behind (sign k.Dot) (token Lower))) fs ls
    → Held S 6 x n → Held S 6 (fold get x fs) (n + length ls)
fields_held S x [] n ls good e h = larger S 6 x n (n + length ls) (omega arith) h
fields_held S x (f ∷ fs) n ls good (p, q, g, (v, is, (p2, q2, g2, (pd, da), (pl, la))), more) h =
    let one : length ls ≡ length p + length q = size_of ls p q g in
    let two : length p ≡ length p2 + length q2 = size_of p p2 q2 g2 in
    let a : length p2 ≡ 1 = size_one p2 v.0 pd in
    let b : length q2 ≡ 1 = size_one q2 v.1 pl in
    let safe : IsPart (lexeme v.1) = good_one q2 v.1 pl (good_back p p2 q2 g2 (good_front ls p q g good)) in
    let here : Held S 6 (get x f) (n + 2) = subst (λ z. Held S 6 (get x z) (n + 2)) (sym is) (field_held S x v.1 n safe la h) in
    larger S 6 (fold get (get x f) fs) ((n + 2) + length q) (n + length ls) (omega arith) (fields_held S (get x f) fs (n + 2) q (good_back ls p q g good) more here)

pub path_held : (S : Pieces) → Knows S → (x : Expr) (ls : List Piece) → AreGood ls → Spells S path x ls → Held S 6 x (length ls)
unfolding path
path_held S know x ls good (v, is, (p, q, g, root, (rest, t))) =
    let size : length ls ≡ length p + length q = size_of ls p q g in
    subst (λ z. Held S 6 z (length ls)) (sym is)
    (larger S 6 (fold get v.0 v.1) (length p + length q) (length ls) (omega arith)
    (fields_held S v.0 v.1 (length p) q (good_back ls p q g good) rest (root_held S know v.0 p (good_front ls p q g good) root)))

-- ---- atoms

-- a form behind a token
pub behind_c : {A : Type 0} (S : Pieces) (w : Want) (f : G A) {R : A → Type 0} {b : Lexeme} {m : List Lexeme} {p : ℕ}
    → Canonical Any (Tok S w) (b ∷ []) 1 → Canonical R (Spells S f) m p → Canonical R (Spells S (behind (token w) f)) (b ∷ m) (suc p)
behind_c S w f {R} {b} {m} {p} t h =
    c.rewritten refl (omega arith) (moved (λ v. v.1) (λ v r. r.1) (λ v ls d. (v, refl, d)) (c.both t h))

flag_held : (S : Pieces) (x : Expr) (ls : List Piece) → Spells S flag x ls → Held S 5 x (length ls)
unfolding flag atom
flag_held S x ls (inl (l, is, (g, a))) =
    subst (λ z. Held S 5 z (length ls)) (sym is)
    (held S 5 (e.Flag l.at true) (expr_spelling (Expr-F.Flag l.at true)) (length ls) (layer.Flag_spelled true l.at) (omega arith)
    (c.rewritten refl (omega (arith, size_one ls l g))
    (moved (λ m. e.Flag m.at true) (λ m r. layer.Flag_stripped true m.at ∙ sym (layer.Flag_stripped true l.at)) (λ m ks d. inl (inl (m, refl, d)))
    (lower_word S (codes "true") refl refl refl))))
flag_held S x ls (inr (l, is, (g, a))) =
    subst (λ z. Held S 5 z (length ls)) (sym is)
    (held S 5 (e.Flag l.at false) (expr_spelling (Expr-F.Flag l.at false)) (length ls) (layer.Flag_spelled false l.at) (omega arith)
    (c.rewritten refl (omega (arith, size_one ls l g))
    (moved (λ m. e.Flag m.at false) (λ m r. layer.Flag_stripped false m.at ∙ sym (layer.Flag_stripped false l.at)) (λ m ks d. inl (inr (m, refl, d)))
    (lower_word S (codes "false") refl refl refl))))

pub num_as : (v : ℕ → ℤ) (m l : Piece) → m.bytes ≡ l.bytes → (a b : ℕ) → AsExpr (e.Num b (v (digits_value 10 l.bytes))) (e.Num a (v (digits_value 10 m.bytes)))
num_as v m l r a b =
    layer.Num_stripped (v (digits_value 10 m.bytes)) a ∙ ap (λ z. e.Num 0 (v (digits_value 10 z))) r ∙ sym (layer.Num_stripped (v (digits_value 10 l.bytes)) b)

some_number : (n : ℕ) → 1 ≤ n → suc (n - 1) ≡ n
some_number n h = omega arith

number_held : (S : Pieces) (x : Expr) (ls : List Piece) → AreGood ls → Spells S number x ls → Held S 5 x (length ls)
unfolding number atom admits
number_held S x ls good (inl (l, is, (g, a))) =
    let safe : IsPart (at k.Number l.bytes) = as_kind l k.Number (both_true (same_kind l.kind k.Number) (nat_le (digits_value 10 l.bytes) largest) a).0 (good_one ls l g good) in
    subst (λ z. Held S 5 z (length ls)) (sym is)
    (held S 5 (e.Num l.at (pos (digits_value 10 l.bytes))) (expr_spelling (Expr-F.Num l.at (pos (digits_value 10 l.bytes)))) (length ls)
    (layer.Num_spelled (pos (digits_value 10 l.bytes)) l.at) (omega arith)
    (c.rewritten (ap (λ z. at k.Number z ∷ []) (number_text l.bytes safe)) (omega (arith, size_one ls l g))
    (moved (λ m. e.Num m.at (pos (digits_value 10 m.bytes))) (λ m r. num_as pos m l r m.at l.at) (λ m ks d. inr (inl (inl (m, refl, d))))
    (plain_token S l (good_one ls l g good) a))))
number_held S x ls good (inr (v, is, (p, q, g, (po, oa), (ql, la)))) =
    let tests = both_true (same_kind v.1.kind k.Number) (nat_le 1 (digits_value 10 v.1.bytes)) la in
    let goodq = good_one q v.1 ql (good_back ls p q g good) in
    let safe : IsPart (at k.Number v.1.bytes) = as_kind v.1 k.Number tests.0 goodq in
    let one : length ls ≡ length p + length q = size_of ls p q g in
    let some : 1 ≤ digits_value 10 v.1.bytes = leb-true 1 (digits_value 10 v.1.bytes) tests.1 in
    let n = minus (digits_value 10 v.1.bytes) in
    subst (λ z. Held S 5 z (length ls)) (sym is)
    (held S 5 (e.Num v.0.at n) (expr_spelling (Expr-F.Num v.0.at n)) (length ls) (layer.Num_spelled n v.0.at) (omega arith)
    (c.rewritten
    (ap (λ z. at k.Minus (sign_of k.Minus) ∷ at k.Number (decimal z) ∷ []) (some_number (digits_value 10 v.1.bytes) some)
    ∙ ap (λ z. at k.Minus (sign_of k.Minus) ∷ at k.Number z ∷ []) (number_text v.1.bytes safe)) (omega (arith, size_one p v.0 po, size_one q v.1 ql))
    (moved (λ m. e.Num m.0.at (minus (digits_value 10 m.1.bytes))) (λ m r. num_as minus m.1 v.1 r.1 m.0.at v.0.at) (λ m ks d. inr (inl (inr (m, refl, d))))
    (c.both (minus_token S) (negated_token S v.1 goodq la)))))

pub str_as : (m l : Piece) → literal_value m.bytes ≡ literal_value l.bytes → AsExpr (e.Str l.at (literal_value l.bytes)) (e.Str m.at (literal_value m.bytes))
str_as m l r = layer.Str_stripped (literal_value m.bytes) m.at ∙ ap (λ z. e.Str 0 z) r ∙ sym (layer.Str_stripped (literal_value l.bytes) l.at)

literal_held : (S : Pieces) (x : Expr) (ls : List Piece) → AreGood ls → Spells S literal x ls → Held S 5 x (length ls)
unfolding literal atom
literal_held S x ls good (l, is, (g, a)) =
    subst (λ z. Held S 5 z (length ls)) (sym is)
    (held S 5 (e.Str l.at (literal_value l.bytes)) (expr_spelling (Expr-F.Str l.at (literal_value l.bytes))) (length ls)
    (layer.Str_spelled (literal_value l.bytes) l.at) (omega arith)
    (c.rewritten refl (omega (arith, size_one ls l g))
    (moved (λ m. e.Str m.at (literal_value m.bytes)) (λ m r. str_as m l r) (λ m ks d. inr (inr (inl (m, refl, d))))
    (literal_token S l (good_one ls l g good) a))))

pub some_as : (y x : Expr) (a b : ℕ) → AsExpr x y → AsExpr (e.SomeLit b x) (e.SomeLit a y)
some_as y x a b r = layer.SomeLit_stripped y a ∙ ap (λ z. e.SomeLit 0 z) r ∙ sym (layer.SomeLit_stripped x b)

option_held : (S : Pieces) → Knows S → (x : Expr) (ls : List Piece) → AreGood ls → Spells S option x ls → Held S 5 x (length ls)
unfolding option atom
option_held S know x ls good (inl (l, is, (g, a))) =
    subst (λ z. Held S 5 z (length ls)) (sym is)
    (held S 5 (e.NoneLit l.at) (expr_spelling (Expr-F.NoneLit l.at)) (length ls) (layer.NoneLit_spelled l.at) (omega arith)
    (c.rewritten refl (omega (arith, size_one ls l g))
    (moved (λ m. e.NoneLit m.at) (λ m r. layer.NoneLit_stripped m.at ∙ sym (layer.NoneLit_stripped l.at)) (λ m ks d. inr (inr (inr (inl (inl (m, refl, d))))))
    (lower_word S (codes "none") refl refl refl))))
option_held S know x ls good (inr (v, is, (p, q, g, (po, oa), (w, same, d)))) =
    let i = inside S k.ParenOpen k.ParenClose (S Expression) w q (good_back ls p q g good) d in
    let known = know.expr w.1.0 i.inner i.good i.spells in
    let one : length ls ≡ length p + length q = size_of ls p q g in
    let few : length i.inner + 2 ≤ length q = i.fewer in
    let here : x ≡ e.SomeLit v.0.at w.1.0 = is ∙ ap (λ z. e.SomeLit v.0.at z) same in
    subst (λ z. Held S 5 z (length ls)) (sym here)
    (held S 5 (e.SomeLit v.0.at w.1.0) (expr_spelling (Expr-F.SomeLit v.0.at (spelled_expr w.1.0))) (length ls) (layer.SomeLit_spelled w.1.0 v.0.at) (omega arith)
    (c.rewritten
    (ap (λ z. at k.Lower (codes "some") ∷ at k.ParenOpen (sign_of k.ParenOpen) ∷ z) (lexemes_append (spelled_expr w.1.0).marks (mark.sign k.ParenClose ∷ [])))
    (omega (arith, size_one p v.0 po))
    (moved (λ z. e.SomeLit z.0.at z.1.1.0) (λ z r. some_as z.1.1.0 w.1.0 z.0.at v.0.at r.1.1.0)
    (λ z ks (a, b, h, key, rest). inr (inr (inr (inl (inr ((z.0, z.1.1.0), refl, (a, b, h, key, (z.1, refl, rest))))))))
    (c.both (lower_word S (codes "some") refl refl refl) (c.both (open_token S) (c.both known.1 (close_token S)))))))

pub atom_held : (S : Pieces) → Knows S → (x : Expr) (ls : List Piece) → AreGood ls → Spells S atom x ls → Held S 5 x (length ls)
unfolding atom
atom_held S know x ls good (inl h) = flag_held S x ls h
atom_held S know x ls good (inr (inl h)) = number_held S x ls good h
atom_held S know x ls good (inr (inr (inl h))) = literal_held S x ls good h
atom_held S know x ls good (inr (inr (inr (inl h)))) = option_held S know x ls good h
atom_held S know x ls good (inr (inr (inr (inr h)))) = looser S 5 6 x (length ls) (omega arith) (path_held S know x ls good h)

pub not_as : (y x : Expr) (a b : ℕ) → AsExpr x y → AsExpr (e.Not b x) (e.Not a y)
not_as y x a b r = layer.Not_stripped y a ∙ ap (λ z. e.Not 0 z) r ∙ sym (layer.Not_stripped x b)

pub unary_held : (S : Pieces) → Knows S → (x : Expr) (ls : List Piece) → AreGood ls → Spells S unary x ls → Held S 4 x (length ls)
unfolding unary
unary_held S know x ls good (inl (v, is, (p, q, g, (po, oa), d))) =
    let h = atom_held S know v.1 q (good_back ls p q g good) d in
    let one : length ls ≡ length p + length q = size_of ls p q g in
    subst (λ z. Held S 4 z (length ls)) (sym is)
    (held S 4 (e.Not v.0.at v.1) (expr_spelling (Expr-F.Not v.0.at (spelled_expr v.1))) (length ls) (layer.Not_spelled v.1 v.0.at) (omega arith)
    (c.rewritten refl (omega (arith, size_one p v.0 po))
    (moved (λ z. e.Not z.0.at z.1) (λ z r. not_as z.1 v.1 z.0.at v.0.at r.1) (λ z ks d. inl (z, refl, d))
    (c.both (not_sign_token S) (held_at S 5 (omega arith) v.1 (length q) h)))))
unary_held S know x ls good (inr h) = looser S 4 5 x (length ls) (omega arith) (atom_held S know x ls good h)
