-- What is printed of chains spells them.
use Rattle.std.proofs.Common.{◌≡◌, ◌+◌, ◌⊎◌, inl, inr, ℕ, suc, arith, List, [], ◌∷◌, ◌++◌, length, refl, sym, ◌∙◌, ap, subst, append_assoc, append-nil}
use Rattle.std.specs.List.{fold}
use Rattle.text_lexer.specs.declared.token.TokenKind.TheVariants as k
use Rattle.text_lexer.specs.Lexeme.{Lexeme}
use Rattle.text_ast.specs.Pieces.{Piece}
use Rattle.text_tree.specs.declared.exprs.Expr.{Expr}
use Rattle.text_tree.specs.declared.exprs.SetExpr.{SetExpr}
use Rattle.text_tree.specs.declared.exprs.SetExpr.TheVariants as s
use Rattle.text_tree.specs.Forms.{Spells, SpellsEach, IsToken, ◌then◌, Sign, Lower, token}
use Rattle.text_tree.specs.ExprGrammar.{G, behind, sign, named, found, map_step, flat_step, path_chain, path_steps, set_term, step, steps, get, var_of}
use Rattle.text_tree.specs.Stripped.{stripped_set}
use Rattle.text_tree.specs.Placed.{expr_at}
use Rattle.text_print.specs.Exprs.{at_least, spelled_expr, spelled_set}
use Rattle.text_print.specs.Marks.{Mark, lexemes_of_marks}
use Rattle.text_print.specs.Marks as mark
use Rattle.text_print.proofs.Canonical as c
use Rattle.text_print.proofs.Canonical.{AreGood, Canonical, Same, each_same, flat, lexeme, moved, good_front, good_back, good_one, size_of, size_one}
use Rattle.text_print.proofs.Layers as layer
use Rattle.text_print.proofs.More.{each_more}
use Rattle.text_print.proofs.Ranks.{AsExpr, lexemes_append}
use Rattle.text_print.proofs.SetRanks.{AsSet, HeldSet, Knows, path_as, set_form_at, set_lexemes}
use Rattle.text_print.proofs.ExprForms.{get_as, var_as}
use Rattle.text_print.proofs.Tokens.{Pieces, Tok, at, dot_token, lower_token}
use Rattle.text_print.proofs.Steps.{AsStep, OneStep, Step, dot, find_c, flat_one, map_one}

-- ---- steps one after another

-- a form behind a dot
abbrev pub Dotted : {A : Type 0} → Pieces → G A → A → List Piece → Type 0
Dotted S f x ls = (IsToken (Sign k.Dot) then Spells S f x) ls

pub dotted_c : {A : Type 0} (S : Pieces) (f : G A) {R : A → Type 0} {m : List Lexeme} {n : ℕ} → Canonical R (Spells S f) m n → Canonical R (Dotted S f) (dot ∷ m) (suc n)
dotted_c S f h =
    c.rewritten refl (omega arith) (moved (λ v. v.1) (λ v r. r.1) (λ v ls (a, b, g, (di, da), d). (a, b, g, (v.0, di, da), d)) (c.both (dot_token S) h))

-- some steps, with what they add
pub record Grown (S : Pieces) {A : Type 0} (form : A → List Piece → Type 0) (apply : A → Step) (R : A → A → Type 0) (f : A) (most : ℕ) : Type 0 where
  pub marks : List Lexeme
  pub grows : (x : SetExpr) → set_lexemes (apply f x) ≡ set_lexemes x ++ marks
  pub keeps : (x : SetExpr) → (spelled_set x).rank ≡ 2 → (spelled_set (apply f x)).rank ≡ 2
  pub canon : Canonical (R f) form marks most

abbrev pub all_steps : List Step → Step
all_steps fs x = fold step x fs

pub steps_as : (fs gs : List Step) → Same AsStep fs gs → AsStep (all_steps fs) (all_steps gs)
steps_as [] [] r x y h = h
steps_as [] (g ∷ gs) r x y h = absurd r
steps_as (f ∷ fs) [] r x y h = absurd r
steps_as (f ∷ fs) (g ∷ gs) (r, more) x y h = steps_as fs gs more (f x) (g y) (r x y h)

pub maps_c : (S : Pieces) → Knows S → (fs : List Step) (ls : List Piece) → AreGood ls → SpellsEach (Dotted S map_step) fs ls
    → Grown S (SpellsEach (Dotted S map_step)) all_steps (Same AsStep) fs (length ls)
maps_c S know [] ls good h = record {
  marks = [];
  grows = λ x. sym (append-nil (set_lexemes x));
  keeps = λ x r. r;
  canon = c.rewritten refl (omega arith) (c.none [] tt refl);
}
maps_c S know (f ∷ fs) ls good (p, q, g, (a, b, g2, (l, di, da), d), more) =
    let a1 : length ls ≡ length p + length q = size_of ls p q g in
    let a2 : length p ≡ length a + length b = size_of p a b g2 in
    let c1 : length a ≡ 1 = size_one a l di in
    let one = map_one S know f b (good_back p a b g2 (good_front ls p q g good)) d in
    let rest = maps_c S know fs q (good_back ls p q g good) more in
    record {
      marks = dot ∷ (one.marks ++ rest.marks);
      grows = λ x. (rest.grows (f x) ∙ ap (λ (z : List Lexeme). z ++ rest.marks) (one.grows x) ∙ append_assoc (set_lexemes x) (dot ∷ one.marks) rest.marks);
      keeps = λ x r. rest.keeps (f x) (one.rank x);
      canon = c.rewritten refl (omega arith) (moved (λ v. v.0 ∷ v.1) (λ v r. r) (λ v ks d. d) (c.both (dotted_c S map_step one.canon) rest.canon));
    }

-- what ends the steps
abbrev pub Ends : Pieces → Step → List Piece → Type 0
Ends S f ls = Dotted S flat_step f ls ⊎ ((f ≡ (λ of. of)) × (ls ≡ []))

abbrev pub self : Step → Step
self f = f

pub ends_c : (S : Pieces) → Knows S → (f : Step) (ls : List Piece) → AreGood ls → Ends S f ls → Grown S (Ends S) self AsStep f (length ls)
ends_c S know f ls good (inl (a, b, g, (l, di, da), d)) =
    let a1 : length ls ≡ length a + length b = size_of ls a b g in
    let c1 : length a ≡ 1 = size_one a l di in
    let one = flat_one S know f b (good_back ls a b g good) d in
    record {
      marks = dot ∷ one.marks;
      grows = one.grows;
      keeps = λ x r. one.rank x;
      canon = c.rewritten refl (omega arith) (moved (λ v. v) (λ v r. r) (λ v ks d. inl d) (dotted_c S flat_step one.canon));
    }
ends_c S know f ls good (inr (is, none)) = record {
  marks = [];
  grows = λ x. (ap (λ h. set_lexemes (h x)) is ∙ sym (append-nil (set_lexemes x)));
  keeps = λ x r. ap (λ h. (spelled_set (h x)).rank) is ∙ r;
  canon = c.rewritten refl (omega arith) (c.none {R = AsStep f} (λ of. of) (λ x y r. r ∙ ap (λ h. stripped_set (h x)) (sym is)) (inr (refl, refl)));
}

pub steps_c : (S : Pieces) → Knows S → (f : Step) (ls : List Piece) → AreGood ls → Spells S steps f ls → Grown S (Spells S steps) self AsStep f (length ls)
unfolding steps
steps_c S know f ls good (v, is, ((p, q, g, items, end), t)) =
    let a1 : length ls ≡ length p + length q = size_of ls p q g in
    let maps = maps_c S know v.0 p (good_front ls p q g good) items in
    let last = ends_c S know v.1 q (good_back ls p q g good) end in
    subst (λ z. Grown S (Spells S steps) self AsStep z (length ls)) (sym is)
    (record {
      marks = maps.marks ++ last.marks;
      grows = λ x. (last.grows (all_steps v.0 x) ∙ ap (λ (z : List Lexeme). z ++ last.marks) (maps.grows x) ∙ append_assoc (set_lexemes x) maps.marks last.marks);
      keeps = λ x r. last.keeps (all_steps v.0 x) (maps.keeps x r);
      canon =
          c.rewritten refl (omega arith)
          (moved (λ w of. w.1 (fold step of w.0)) (λ w r x y h. r.1 (all_steps v.0 x) (all_steps w.0 y) (steps_as v.0 w.0 r.0 x y h))
          (λ w ks d. (w, refl, (d, tt))) (c.both maps.canon last.canon));
    })

pub path_steps_c : (S : Pieces) → Knows S → (f : Step) (ls : List Piece) → AreGood ls → Spells S path_steps f ls → OneStep S path_steps f (length ls)
unfolding path_steps
path_steps_c S know f ls good (inl (v, is, (p, q, g, first, more))) =
    let a1 : length ls ≡ length p + length q = size_of ls p q g in
    let one = map_one S know v.0 p (good_front ls p q g good) first in
    let rest = steps_c S know v.1 q (good_back ls p q g good) more in
    subst (λ z. OneStep S path_steps z (length ls)) (sym is)
    (record {
      marks = one.marks ++ rest.marks;
      grows = λ x. (rest.grows (v.0 x) ∙ ap (λ (z : List Lexeme). z ++ rest.marks) (one.grows x) ∙ append_assoc (set_lexemes x) (dot ∷ one.marks) rest.marks);
      rank = λ x. rest.keeps (v.0 x) (one.rank x);
      canon =
          c.rewritten refl (omega arith)
          (moved (λ w of. w.1 (w.0 of)) (λ w r x y h. r.1 (v.0 x) (w.0 y) (r.0 x y h)) (λ w ks d. inl (w, refl, d)) (c.both one.canon rest.canon));
    })
path_steps_c S know f ls good (inr d) =
    let one = flat_one S know f ls good d in
    record { marks = one.marks; grows = one.grows; rank = one.rank; canon = moved (λ w. w) (λ w r. r) (λ w ks d. inr d) one.canon }

-- ---- chains

pub held_term : (S : Pieces) (x : SetExpr) (most : ℕ) → (spelled_set x).rank ≡ 2 → Canonical (AsSet x) (Spells S set_term) (set_lexemes x) most → HeldSet S 2 x most
held_term S x most two h =
    inl (inr (omega (arith, two), subst (λ z. Canonical (AsSet x) (Spells S (set_form_at z)) (set_lexemes x) most) (sym two) h), omega (arith, two))

pub found_held : (S : Pieces) → Knows S → (x : SetExpr) (ls : List Piece) → AreGood ls → Spells S found x ls → HeldSet S 2 x (length ls)
unfolding found set_term
found_held S know x ls good (v, is, (p, q, g, first, more)) =
    let a1 : length ls ≡ length p + length q = size_of ls p q g in
    let base = find_c S know v.0 p (good_front ls p q g good) first in
    let rest = steps_c S know v.1 q (good_back ls p q g good) more in
    subst (λ z. HeldSet S 2 z (length ls)) (sym is)
    (held_term S (v.1 v.0) (length ls) (rest.keeps v.0 base.rank)
    (c.rewritten (rest.grows v.0) (omega arith)
    (moved (λ w. w.1 w.0) (λ w r. r.1 v.0 w.0 r.0) (λ w ks d. inr (inr (inr (inr (inl (w, refl, d)))))) (c.both base.canon rest.canon))))

-- the fields of a variable

abbrev pub SameBytes : Piece → Piece → Type 0
SameBytes l m = m.bytes ≡ l.bytes

pub fields_as : (fs gs : List Piece) (x y : Expr) → AsExpr x y → Same SameBytes fs gs → AsExpr (fold get x fs) (fold get y gs)
fields_as [] [] x y h r = h
fields_as [] (g ∷ gs) x y h r = absurd r
fields_as (f ∷ fs) [] x y h r = absurd r
fields_as (f ∷ fs) (g ∷ gs) x y h (r, more) = fields_as fs gs (get x f) (get y g) (get_as y x g f h r) more

abbrev pub field_lexemes : Piece → List Lexeme
field_lexemes l = dot ∷ at k.Lower l.bytes ∷ []

path_lexemes : (x : Expr) (fs : List Piece)
    → lexemes_of_marks (at_least 6 (spelled_expr (fold get x fs))) ≡ lexemes_of_marks (at_least 6 (spelled_expr x)) ++ flat field_lexemes fs
path_lexemes x [] = sym (append-nil (lexemes_of_marks (at_least 6 (spelled_expr x))))
path_lexemes x (f ∷ fs) =
    path_lexemes (get x f) fs
    ∙ ap (λ (z : List Lexeme). z ++ flat field_lexemes fs)
    (ap (λ z. lexemes_of_marks (at_least 6 z)) (layer.Get_spelled x (named f) (expr_at x)) ∙ lexemes_append (at_least 6 (spelled_expr x)) (mark.sign k.Dot ∷ mark.lower f.bytes ∷ []))
    ∙ append_assoc (lexemes_of_marks (at_least 6 (spelled_expr x))) (field_lexemes f) (flat field_lexemes fs)

one_name : (S : Pieces) (f : Piece) (ls : List Piece) → AreGood ls → Dotted S (token Lower) f ls → Canonical (SameBytes f) (Dotted S (token Lower)) (field_lexemes f) (length ls)
one_name S f ls good (a, b, g, (l, di, da), (fi, fa)) =
    let a1 : length ls ≡ length a + length b = size_of ls a b g in
    let c1 : length a ≡ 1 = size_one a l di in
    let c2 : length b ≡ 1 = size_one b f fi in
    c.rewritten refl (omega arith) (dotted_c S (token Lower) (lower_token S f (good_one b f fi (good_back ls a b g good)) fa))

-- a name with the names behind it
pub names_c : (S : Pieces) (l : Piece) (fs : List Piece) (p q : List Piece) → AreGood p → AreGood q → Spells S (token Lower) l p → SpellsEach (Dotted S (token Lower)) fs q
    → Canonical (c.Pair (SameBytes l) (Same SameBytes fs)) (c.Then (Tok S Lower) (SpellsEach (Dotted S (token Lower))))
    (lexemes_of_marks (at_least 6 (spelled_expr (fold get (var_of l) fs)))) (length p + length q)
names_c S l fs p q goodp goodq (li, la) rest =
    c.rewritten
    (path_lexemes (var_of l) fs ∙ ap (λ z. lexemes_of_marks (at_least 6 z) ++ flat field_lexemes fs) (layer.Var_spelled (named l) l.at))
    (omega (arith, size_one p l li))
    (c.both (lower_token S l (good_one p l li goodp) la) (each_same SameBytes (Dotted S (token Lower)) field_lexemes (one_name S) fs q goodq rest))

undotted : (S : Pieces) (x : Piece) (ls : List Piece) → Dotted S (token Lower) x ls → Spells S (behind (sign k.Dot) (token Lower)) x ls
undotted S x ls (a, b, g, (l, di, da), d) = ((l, x), refl, (a, b, g, (di, da), d))

pub path_chain_held : (S : Pieces) → Knows S → (x : SetExpr) (ls : List Piece) → AreGood ls → Spells S path_chain x ls → HeldSet S 2 x (length ls)
unfolding path_chain set_term
path_chain_held S know x ls good (v, is, (p, q, g, name, ((a, b, g2, items, inr (made, none)), t))) =
    let a1 : length ls ≡ length p + length q = size_of ls p q g in
    let a2 : length q ≡ length a + length b = size_of q a b g2 in
    let goodq = good_back ls p q g good in
    let inner = fold get (var_of v.0) v.1.0 in
    let here : x ≡ s.Path v.0.at inner = is ∙ ap (λ h. h (s.Path v.0.at inner)) made in
    let three : (spelled_set x).rank ≡ 3 = ap (λ z. (spelled_set z).rank) here ∙ ap (λ z. z.rank) (layer.Path_spelled inner v.0.at) in
    inl (
      inl (record {
        inner = inner;
        place = v.0.at;
        is = here;
        reads =
            c.rewritten refl (omega arith)
            (moved (λ w. fold get (var_of w.0) w.1) (λ w r. fields_as v.1.0 w.1 (var_of v.0) (var_of w.0) (var_as w.0 v.0 r.0) r.1)
            (λ w ks (d, e, h, n, rest). (w, refl, (d, e, h, n, (each_more (Dotted S (token Lower)) (Spells S (behind (sign k.Dot) (token Lower))) (undotted S) w.1 e rest, tt))))
            (names_c S v.0 v.1.0 p a (good_front ls p q g good) (good_front q a b g2 goodq) name items));
      }),
      omega (arith, three),
    )
path_chain_held S know x ls good (v, is, (p, q, g, name, ((a, b, g2, items, inl (a3, b3, g3, (l, di, da), d)), t))) =
    let a1 : length ls ≡ length p + length q = size_of ls p q g in
    let a2 : length q ≡ length a + length b = size_of q a b g2 in
    let a4 : length b ≡ length a3 + length b3 = size_of b a3 b3 g3 in
    let c1 : length a3 ≡ 1 = size_one a3 l di in
    let goodq = good_back ls p q g good in
    let inner = fold get (var_of v.0) v.1.0 in
    let f = v.1.1 in
    let base : SetExpr = s.Path v.0.at inner in
    let more = path_steps_c S know f b3 (good_back b a3 b3 g3 (good_back q a b g2 goodq)) d in
    let grown : set_lexemes (f base) ≡ lexemes_of_marks (at_least 6 (spelled_expr inner)) ++ dot ∷ more.marks =
    more.grows base ∙ ap (λ z. lexemes_of_marks z.marks ++ dot ∷ more.marks) (layer.Path_spelled inner v.0.at) in
    subst (λ z. HeldSet S 2 z (length ls)) (sym is)
    (held_term S (f base) (length ls) (more.rank base)
    (c.rewritten grown (omega arith)
    (moved (λ w. w.1 (s.Path w.0.0.at (fold get (var_of w.0.0) w.0.1)))
    (λ w r. r.1 base (s.Path w.0.0.at (fold get (var_of w.0.0) w.0.1))
    (path_as (fold get (var_of w.0.0) w.0.1) inner w.0.0.at v.0.at (fields_as v.1.0 w.0.1 (var_of v.0) (var_of w.0.0) (var_as w.0.0 v.0 r.0.0) r.0.1)))
    (λ w ks (d1, e1, h1, (d2, e2, h2, n, rest), last). inr (inr (inr (inr (inr (
      (w.0.0, (w.0.1, w.1)),
      refl,
      (d2, e2 ++ e1, h1 ∙ ap (λ (z : List Piece). z ++ e1) h2 ∙ append_assoc d2 e2 e1, n, ((e2, e1, refl, rest, inl last), tt)),
    ))))))
    (c.both (names_c S v.0 v.1.0 p a (good_front ls p q g good) (good_front q a b g2 goodq) name items) (dotted_c S path_steps more.canon)))))
