-- What is printed of each form of set spells it.
use Rattle.std.proofs.Common.{◌≡◌, ◌≤◌, ◌+◌, inl, inr, ℕ, arith, List, [], ◌∷◌, ◌++◌, map, length, codes, refl, sym, ◌∙◌, ap, subst}
use Rattle.text_lexer.specs.declared.token.TokenKind.TheVariants as k
use Rattle.text_lexer.specs.Lexeme.{Lexeme, sign_of}
use Rattle.text_ast.specs.Pieces.{Piece}
use Rattle.text_tree.specs.declared.exprs.CmpOp.TheVariants as op
use Rattle.text_tree.specs.declared.exprs.FilterOp.{FilterOp}
use Rattle.text_tree.specs.declared.exprs.FilterOp.TheVariants as filter
use Rattle.text_tree.specs.declared.exprs.Expr.{Expr}
use Rattle.text_tree.specs.declared.exprs.Expr.TheOpen.{SetExpr-F}
use Rattle.text_tree.specs.declared.exprs.SetExpr.{SetExpr}
use Rattle.text_tree.specs.declared.exprs.SetExpr.TheVariants as s
use Rattle.text_tree.specs.declared.exprs.Item.{Item}
use Rattle.text_tree.specs.declared.exprs.Item.TheVariants as item
use Rattle.text_tree.specs.declared.exprs.Filter.{Filter, roll-Filter}
use Rattle.text_tree.specs.Forms.{Spells, Sign}
use Rattle.text_tree.specs.ExprGrammar.{G, behind, sign, named, listed, item_form, list, filter_op, filter_form, set_term}
use Rattle.text_tree.specs.Stripped.{stripped_expr, stripped_filter, stripped_item, stripped_name}
use Rattle.text_print.specs.Exprs.{commas, filter_sign, joined, set_spelling, spelled_expr, spelled_filter, spelled_item}
use Rattle.text_print.specs.Marks.{Mark, lexemes_of_marks}
use Rattle.text_print.specs.Marks as mark
use Rattle.text_print.proofs.Canonical as c
use Rattle.text_print.proofs.Canonical.{AreGood, Canonical, Same, each_same, flat, lexeme, moved, good_front, good_back, good_one, size_of, size_one}
use Rattle.text_print.proofs.Layers as layer
use Rattle.text_print.proofs.Ranks.{AsExpr, lexemes_append}
use Rattle.text_print.proofs.SetRanks.{AsSet, HeldSet, Knows, held_set}
use Rattle.text_print.proofs.ExprForms.{behind_c, inside, name_as}
use Rattle.text_print.proofs.Compounds.{cmp_size, cmp_token}
use Rattle.text_print.proofs.Tokens.{Pieces, at, colon_token, comma_token, list_close_token, list_open_token, lower_token, lower_word, upper_token}

-- ---- lists with commas

abbrev pub comma : Lexeme
comma = at k.Comma (sign_of k.Comma)

pub joined_lexemes : {A : Type 0} (m : A → List Mark) (xs : List A)
    → lexemes_of_marks (joined (mark.sign k.Comma ∷ mark.sp ∷ []) (map m xs)) ≡ flat (λ x. comma ∷ lexemes_of_marks (m x)) xs
joined_lexemes m [] = refl
joined_lexemes m (x ∷ xs) =
    ap (λ z. comma ∷ z) (lexemes_append (m x) (joined (mark.sign k.Comma ∷ mark.sp ∷ []) (map m xs)) ∙ ap (λ z. lexemes_of_marks (m x) ++ z) (joined_lexemes m xs))

pub listed_c : {A : Type 0} (S : Pieces) (f : G A) (R : A → A → Type 0) (m : A → List Mark)
    → ((x : A) (ls : List Piece) → AreGood ls → Spells S f x ls → Canonical (R x) (Spells S f) (lexemes_of_marks (m x)) (length ls))
    → (xs : List A) (ls : List Piece) → AreGood ls → Spells S (listed f) xs ls → Canonical (Same R xs) (Spells S (listed f)) (lexemes_of_marks (commas (map m xs))) (length ls)
listed_c {A} S f R m one xs ls good (inl (v, is, (p, q, g, first, (rest, t)))) =
    let size : length ls ≡ length p + length q = size_of ls p q g in
    subst (λ zs. Canonical (Same R zs) (Spells S (listed f)) (lexemes_of_marks (commas (map m zs))) (length ls)) (sym is)
    (c.rewritten (lexemes_append (m v.0) (joined (mark.sign k.Comma ∷ mark.sp ∷ []) (map m v.1)) ∙ ap (λ z. lexemes_of_marks (m v.0) ++ z) (joined_lexemes m v.1))
    (omega arith)
    (moved (λ w. w.0 ∷ w.1) (λ w r. r) (λ w ks (a, b, h, d, more). inl (w, refl, (a, b, h, d, (more, tt))))
    (c.both (one v.0 p (good_front ls p q g good) first)
    (each_same R (Spells S (behind (sign k.Comma) f)) (λ x. comma ∷ lexemes_of_marks (m x)) (after S f R m one) v.1 q (good_back ls p q g good) rest))))
  where
    after : (S : Pieces) (f : G A) (R : A → A → Type 0) (m : A → List Mark)
        → ((x : A) (ls : List Piece) → AreGood ls → Spells S f x ls → Canonical (R x) (Spells S f) (lexemes_of_marks (m x)) (length ls))
        → (x : A) (ls : List Piece) → AreGood ls → Spells S (behind (sign k.Comma) f) x ls
        → Canonical (R x) (Spells S (behind (sign k.Comma) f)) (comma ∷ lexemes_of_marks (m x)) (length ls)
    after S f R m one x ls good (v, is, (p, q, g, (ci, ca), d)) =
        let size : length ls ≡ length p + length q = size_of ls p q g in
        let head : length p ≡ 1 = size_one p v.0 ci in
        subst (λ z. Canonical (R z) (Spells S (behind (sign k.Comma) f)) (comma ∷ lexemes_of_marks (m z)) (length ls)) (sym is)
        (c.rewritten refl (omega arith) (behind_c S (Sign k.Comma) f (comma_token S) (one v.1 q (good_back ls p q g good) d)))
listed_c S f R m one xs ls good (inr (is, none)) =
    subst (λ zs. Canonical (Same R zs) (Spells S (listed f)) (lexemes_of_marks (commas (map m zs))) (length ls)) (sym is)
    (c.rewritten refl (omega arith) (c.none [] tt (inr (refl, refl))))

pub same_map : {A : Type 0} (strip : A → A) (xs ys : List A) → Same (λ x y. strip y ≡ strip x) xs ys → map strip ys ≡ map strip xs
same_map strip [] [] r = refl
same_map strip [] (y ∷ ys) r = absurd r
same_map strip (x ∷ xs) [] r = absurd r
same_map strip (x ∷ xs) (y ∷ ys) (r, more) = ap (λ z. z ∷ map strip ys) r ∙ ap (λ z. strip x ∷ z) (same_map strip xs ys more)

-- ---- items

abbrev pub AsItem : Item → Item → Type 0
AsItem x y = stripped_item y ≡ stripped_item x

pub item_c : (S : Pieces) → Knows S → (x : Item) (ls : List Piece) → AreGood ls → Spells S item_form x ls
    → Canonical (AsItem x) (Spells S item_form) (lexemes_of_marks (spelled_item x)) (length ls)
unfolding item_form
item_c S know x ls good (inl (l, is, (g, a))) =
    subst (λ z. Canonical (AsItem z) (Spells S item_form) (lexemes_of_marks (spelled_item z)) (length ls)) (sym is)
    (c.rewritten (ap lexemes_of_marks (layer.Static_spelled (named l))) (omega (arith, size_one ls l g))
    (moved (λ m. item.Static (named m))
    (λ m r. layer.Static_stripped (named m) ∙ ap item.Static (name_as m l r) ∙ sym (layer.Static_stripped (named l))) (λ m ks d. inl (m, refl, d))
    (upper_token S l (good_one ls l g good) a)))
item_c S know x ls good (inr (y, is, d)) =
    subst (λ z. Canonical (AsItem z) (Spells S item_form) (lexemes_of_marks (spelled_item z)) (length ls)) (sym is)
    (c.rewritten (ap lexemes_of_marks (layer.One_spelled y)) (omega arith)
    (moved item.One (λ w r. layer.One_stripped w ∙ ap item.One r ∙ sym (layer.One_stripped y)) (λ w ks d. inr (w, refl, d)) (know.expr y ls good d).1))

pub list_as : (xs ys : List Item) (a b : ℕ) → Same AsItem xs ys → AsSet (s.List b xs) (s.List a ys)
list_as xs ys a b r = layer.List_stripped ys a ∙ ap (λ z. s.List 0 z) (same_map stripped_item xs ys r) ∙ sym (layer.List_stripped xs b)

pub list_held : (S : Pieces) → Knows S → (x : SetExpr) (ls : List Piece) → AreGood ls → Spells S list x ls → HeldSet S 2 x (length ls)
unfolding list set_term
list_held S know x ls good (v, is, d) =
    let i = inside S k.BracketOpen k.BracketClose (Spells S (listed item_form)) v ls good d in
    subst (λ z. HeldSet S 2 z (length ls)) (sym is)
    (held_set S 2 (s.List v.0.at v.1.0) (set_spelling (SetExpr-F.List v.0.at (map spelled_item v.1.0))) (length ls) (layer.List_spelled v.1.0 v.0.at) (omega arith) (omega arith)
    (c.rewritten (ap (λ z. at k.BracketOpen (sign_of k.BracketOpen) ∷ z) (lexemes_append (commas (map spelled_item v.1.0)) (mark.sign k.BracketClose ∷ [])))
    (let few : length i.inner + 2 ≤ length ls = i.fewer in omega arith)
    (moved (λ z. s.List z.0.at z.1.0) (λ z r. list_as v.1.0 z.1.0 z.0.at v.0.at r.1.0) (λ z ks d. inr (inr (inl (z, refl, d))))
    (c.both (list_open_token S) (c.both (listed_c S item_form AsItem spelled_item (item_c S know) v.1.0 i.inner i.good i.spells) (list_close_token S))))))

-- ---- filters

filter_token : (S : Pieces) (o : FilterOp) → Canonical (λ p. p ≡ o) (Spells S filter_op) (lexemes_of_marks (filter_sign o)) 1
unfolding filter_op
filter_token S (filter.Cmp op.Eq) = moved (λ l. filter.Cmp op.Eq) (λ l r. refl) (λ l ls d. inl (l, refl, d)) (colon_token S)
filter_token S (filter.Cmp op.Ne) = moved filter.Cmp (λ p r. ap filter.Cmp r) (λ p ls d. inr (inr (p, refl, d))) (cmp_token S op.Ne)
filter_token S (filter.Cmp op.Lt) = moved filter.Cmp (λ p r. ap filter.Cmp r) (λ p ls d. inr (inr (p, refl, d))) (cmp_token S op.Lt)
filter_token S (filter.Cmp op.Le) = moved filter.Cmp (λ p r. ap filter.Cmp r) (λ p ls d. inr (inr (p, refl, d))) (cmp_token S op.Le)
filter_token S (filter.Cmp op.Gt) = moved filter.Cmp (λ p r. ap filter.Cmp r) (λ p ls d. inr (inr (p, refl, d))) (cmp_token S op.Gt)
filter_token S (filter.Cmp op.Ge) = moved filter.Cmp (λ p r. ap filter.Cmp r) (λ p ls d. inr (inr (p, refl, d))) (cmp_token S op.Ge)
filter_token S filter.Has = moved (λ l. filter.Has) (λ l r. refl) (λ l ls d. inr (inl (l, refl, d))) (lower_word S (codes "has") refl refl refl)

filter_size : (S : Pieces) (o : FilterOp) (ls : List Piece) → Spells S filter_op o ls → length ls ≡ 1
unfolding filter_op
filter_size S o ls (inl (l, is, (g, a))) = size_one ls l g
filter_size S o ls (inr (inl (l, is, (g, a)))) = size_one ls l g
filter_size S o ls (inr (inr (p, is, d))) = cmp_size S p ls d

abbrev pub AsFilter : Filter → Filter → Type 0
AsFilter x y = stripped_filter y ≡ stripped_filter x

abbrev pub filter_of : Piece → FilterOp → Expr → Filter
filter_of l o x = roll-Filter (record { field = named l; op = o; value = x })

pub filter_as : (m l : Piece) (p o : FilterOp) (y x : Expr) → m.bytes ≡ l.bytes → p ≡ o → AsExpr x y → AsFilter (filter_of l o x) (filter_of m p y)
filter_as m l p o y x n f r =
    layer.Filter_stripped (named m) p y ∙ ap (λ z. roll-Filter (record { field = z; op = p; value = stripped_expr y })) (name_as m l n)
    ∙ ap (λ z. roll-Filter (record { field = stripped_name (named l); op = z; value = stripped_expr y })) f
    ∙ ap (λ z. roll-Filter (record { field = stripped_name (named l); op = o; value = z })) r ∙ sym (layer.Filter_stripped (named l) o x)

pub filter_c : (S : Pieces) → Knows S → (x : Filter) (ls : List Piece) → AreGood ls → Spells S filter_form x ls
    → Canonical (AsFilter x) (Spells S filter_form) (lexemes_of_marks (spelled_filter x)) (length ls)
unfolding filter_form
filter_c S know x ls good (v, is, (p, q, g, (ni, na), (a, b, g2, o, value))) =
    let size : length ls ≡ length p + length q = size_of ls p q g in
    let more : length q ≡ length a + length b = size_of q a b g2 in
    let one : length p ≡ 1 = size_one p v.0 ni in
    let two : length a ≡ 1 = filter_size S v.1.0 a o in
    let known = know.expr v.1.1 b (good_back q a b g2 (good_back ls p q g good)) value in
    subst (λ z. Canonical (AsFilter z) (Spells S filter_form) (lexemes_of_marks (spelled_filter z)) (length ls)) (sym is)
    (c.rewritten
    (ap lexemes_of_marks (layer.Filter_spelled (named v.0) v.1.0 v.1.1) ∙ ap (λ z. at k.Lower v.0.bytes ∷ z) (lexemes_append (filter_sign v.1.0) (spelled_expr v.1.1).marks))
    (omega arith)
    (moved (λ z. filter_of z.0 z.1.0 z.1.1) (λ z r. filter_as z.0 v.0 z.1.0 v.1.0 z.1.1 v.1.1 r.0 r.1.0 r.1.1) (λ z ks d. (z, refl, d))
    (c.both (lower_token S v.0 (good_one p v.0 ni (good_front ls p q g good)) na) (c.both (filter_token S v.1.0) known.1))))
