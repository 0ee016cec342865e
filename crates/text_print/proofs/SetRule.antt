-- What is printed of a set spells it.
use Rattle.std.proofs.Common.{◌≡◌, ◌+◌, inl, inr, ℕ, suc, arith, List, [], ◌∷◌, ◌++◌, length, refl, sym, ◌∙◌, ap, subst, append_assoc}
use Rattle.std.specs.List.{fold}
use Rattle.std.proofs.lemmas.Grind.{fold-append}
use Rattle.text_lexer.specs.declared.token.TokenKind.TheVariants as k
use Rattle.text_lexer.specs.Lexeme.{sign_of}
use Rattle.text_ast.specs.Pieces.{Piece}
use Rattle.text_tree.specs.declared.exprs.Expr.{Expr}
use Rattle.text_tree.specs.declared.exprs.Expr.TheOpen.{SetExpr-F}
use Rattle.text_tree.specs.declared.exprs.SetExpr.{SetExpr}
use Rattle.text_tree.specs.declared.exprs.SetExpr.TheVariants as s
use Rattle.text_tree.specs.Forms.{Spells, SpellsEach, Sign, part}
use Rattle.text_tree.specs.ExprGrammar.{Set, named, if_set, match_set, set, set_step, set_term, step, sum}
use Rattle.text_tree.specs.Placed.{set_at}
use Rattle.text_tree.specs.Stripped.{stripped_expr, stripped_name, stripped_set}
use Rattle.text_print.specs.Exprs.{at_least, between, set_spelling, spelled_expr, spelled_set}
use Rattle.text_print.specs.Marks.{lexemes_of_marks}
use Rattle.text_print.proofs.Canonical as c
use Rattle.text_print.proofs.Canonical.{AreGood, Canonical, moved, good_back, good_front, size_of, size_one}
use Rattle.text_print.proofs.Layers as layer
use Rattle.text_print.proofs.More.{each_snoc}
use Rattle.text_print.proofs.Ranks.{AsExpr, lexemes_append}
use Rattle.text_print.proofs.SetRanks.{AsSet, HeldSet, Knows, firm_as, held_set, set_deep_as, set_held_at, set_larger, set_looser}
use Rattle.text_print.proofs.SetForms.{list_held}
use Rattle.text_print.proofs.ExprForms.{behind_c, inside, name_as}
use Rattle.text_print.proofs.Choices.{case_parts, cases_c, cases_lexemes, choice_c, choice_lexemes, choice_parts}
use Rattle.text_print.proofs.Steps.{AsStep, Step}
use Rattle.text_print.proofs.Chains.{found_held, path_chain_held}
use Rattle.text_print.proofs.Tokens.{Pieces, at, lower_word, minus_token, plus_token}
use Rattle.std.proofs.Common.{codes}

pub term_held : (S : Pieces) → Knows S → (x : SetExpr) (ls : List Piece) → AreGood ls → Spells S set_term x ls → HeldSet S 2 x (length ls)
unfolding set_term
term_held S know x ls good (inl (l, is, (g, a))) =
    subst (λ z. HeldSet S 2 z (length ls)) (sym is)
    (held_set S 2 (s.Everyone l.at l.at) (set_spelling (SetExpr-F.Everyone l.at l.at)) (length ls) (layer.Everyone_spelled l.at l.at) (omega arith) (omega arith)
    (c.rewritten refl (omega (arith, size_one ls l g))
    (moved (λ m. s.Everyone m.at m.at) (λ m r. layer.Everyone_stripped m.at m.at ∙ sym (layer.Everyone_stripped l.at l.at)) (λ m ks d. inl (m, refl, d))
    (lower_word S (codes "public") refl refl refl))))
term_held S know x ls good (inr (inl (l, is, (g, a)))) =
    subst (λ z. HeldSet S 2 z (length ls)) (sym is)
    (held_set S 2 (s.Nobody l.at) (set_spelling (SetExpr-F.Nobody l.at)) (length ls) (layer.Nobody_spelled l.at) (omega arith) (omega arith)
    (c.rewritten refl (omega (arith, size_one ls l g))
    (moved (λ m. s.Nobody m.at) (λ m r. layer.Nobody_stripped m.at ∙ sym (layer.Nobody_stripped l.at)) (λ m ks d. inr (inl (m, refl, d)))
    (lower_word S (codes "none") refl refl refl))))
term_held S know x ls good (inr (inr (inl d))) = list_held S know x ls good d
term_held S know x ls good (inr (inr (inr (inl (v, is, d))))) =
    let i = inside S k.ParenOpen k.ParenClose (S Set) v ls good d in
    let known = know.set v.1.0 i.inner i.good i.spells in
    subst (λ z. HeldSet S 2 z (length ls)) (sym is)
    (inr (record {
      inside = length i.inner;
      fewer = i.fewer;
      firm = firm_as S v.1.0 v.0.at (length i.inner) known.0;
      deep = set_deep_as S v.1.0 v.0.at (length i.inner) known.1;
    }))
term_held S know x ls good (inr (inr (inr (inr (inl d))))) = found_held S know x ls good d
term_held S know x ls good (inr (inr (inr (inr (inr d))))) = path_chain_held S know x ls good d

-- ---- sums and differences

-- a step with what it adds
pub record SumStep (S : Pieces) (f : Step) (most : ℕ) : Type 0 where
  pub grows : (x : SetExpr) (n : ℕ) → HeldSet S 1 x n → HeldSet S 1 (f x) (n + most)

add_step : (S : Pieces) (v : SetExpr × Step) (ls : List Piece) → c.Then (Spells S sum) (Spells S set_step) v ls → Spells S sum (v.1 v.0) ls
unfolding sum
add_step S v ls (front, back, glue, (w, is, (a, b, g, first, (rest, t))), d) = (
  (w.0, w.1 ++ v.1 ∷ []),
  ap v.1 is ∙ sym (fold-append step w.0 w.1 (v.1 ∷ [])),
  (
    a,
    b ++ back,
    glue ∙ ap (λ (z : List Piece). z ++ back) g ∙ append_assoc a b back,
    first,
    (each_snoc (Spells S set_step) w.1 v.1 b back rest d, tt),
  ),
)

pub sum_as : (u t : SetExpr) → AsSet t u → AsStep (λ left. s.Sum (set_at left) left t) (λ left. s.Sum (set_at left) left u)
sum_as u t r x y h =
    layer.Sum_stripped y u (set_at y) ∙ ap (λ z. s.Sum 0 z (stripped_set u)) h ∙ ap (λ z. s.Sum 0 (stripped_set x) z) r ∙ sym (layer.Sum_stripped x t (set_at x))

sum_step : (S : Pieces) (t : SetExpr) (m : ℕ) → HeldSet S 2 t m → SumStep S (λ left. s.Sum (set_at left) left t) (suc m)
unfolding set_step
sum_step S t m j =
    let added : Canonical (AsStep (λ left. s.Sum (set_at left) left t)) (Spells S set_step) (at k.Plus (sign_of k.Plus) ∷ lexemes_of_marks (at_least 2 (spelled_set t))) (suc m) =
    moved (λ u left. s.Sum (set_at left) left u) (λ u r. sum_as u t r) (λ u ks d. inl (u, refl, d))
    (behind_c S (Sign k.Plus) set_term (plus_token S) (set_held_at S 2 (omega arith) t m j)) in
    record {
      grows = λ x n h. (
          held_set S 1 (s.Sum (set_at x) x t) (set_spelling (SetExpr-F.Sum (set_at x) (spelled_set x) (spelled_set t))) (n + suc m) (layer.Sum_spelled x t (set_at x))
          (omega arith) (omega arith)
          (c.rewritten (lexemes_append (at_least 1 (spelled_set x)) (between k.Plus ++ at_least 2 (spelled_set t))) (omega arith)
          (moved (λ w. w.1 w.0) (λ w r. r.1 x w.0 r.0) (add_step S) (c.both (set_held_at S 1 (omega arith) x n h) added))));
    }

pub less_as : (u t : SetExpr) → AsSet t u → AsStep (λ left. s.Less (set_at left) left t) (λ left. s.Less (set_at left) left u)
less_as u t r x y h =
    layer.Less_stripped y u (set_at y) ∙ ap (λ z. s.Less 0 z (stripped_set u)) h ∙ ap (λ z. s.Less 0 (stripped_set x) z) r ∙ sym (layer.Less_stripped x t (set_at x))

less_step : (S : Pieces) (t : SetExpr) (m : ℕ) → HeldSet S 2 t m → SumStep S (λ left. s.Less (set_at left) left t) (suc m)
unfolding set_step
less_step S t m j =
    let added : Canonical (AsStep (λ left. s.Less (set_at left) left t)) (Spells S set_step) (at k.Minus (sign_of k.Minus) ∷ lexemes_of_marks (at_least 2 (spelled_set t))) (suc m) =
    moved (λ u left. s.Less (set_at left) left u) (λ u r. less_as u t r) (λ u ks d. inr (u, refl, d))
    (behind_c S (Sign k.Minus) set_term (minus_token S) (set_held_at S 2 (omega arith) t m j)) in
    record {
      grows = λ x n h. (
          held_set S 1 (s.Less (set_at x) x t) (set_spelling (SetExpr-F.Less (set_at x) (spelled_set x) (spelled_set t))) (n + suc m) (layer.Less_spelled x t (set_at x))
          (omega arith) (omega arith)
          (c.rewritten (lexemes_append (at_least 1 (spelled_set x)) (between k.Minus ++ at_least 2 (spelled_set t))) (omega arith)
          (moved (λ w. w.1 w.0) (λ w r. r.1 x w.0 r.0) (add_step S) (c.both (set_held_at S 1 (omega arith) x n h) added))));
    }

step_c : (S : Pieces) → Knows S → (f : Step) (ls : List Piece) → AreGood ls → Spells S set_step f ls → SumStep S f (length ls)
unfolding set_step
step_c S know f ls good (inl (t, made, (u, same, (p, q, g, (pi, pa), d)))) =
    let a1 : length ls ≡ length p + length q = size_of ls p q g in
    let c1 : length p ≡ 1 = size_one p u.0 pi in
    let one = sum_step S u.1 (length q) (term_held S know u.1 q (good_back ls p q g good) d) in
    subst (λ z. SumStep S z (length ls)) (sym (made ∙ ap (λ z left. s.Sum (set_at left) left z) same))
    (record { grows = λ x n h. set_larger S 1 (s.Sum (set_at x) x u.1) (n + suc (length q)) (n + length ls) (omega arith) (one.grows x n h) })
step_c S know f ls good (inr (t, made, (u, same, (p, q, g, (pi, pa), d)))) =
    let a1 : length ls ≡ length p + length q = size_of ls p q g in
    let c1 : length p ≡ 1 = size_one p u.0 pi in
    let one = less_step S u.1 (length q) (term_held S know u.1 q (good_back ls p q g good) d) in
    subst (λ z. SumStep S z (length ls)) (sym (made ∙ ap (λ z left. s.Less (set_at left) left z) same))
    (record { grows = λ x n h. set_larger S 1 (s.Less (set_at x) x u.1) (n + suc (length q)) (n + length ls) (omega arith) (one.grows x n h) })

sums_held : (S : Pieces) → Knows S → (x : SetExpr) (fs : List Step) (n : ℕ) (ls : List Piece) → AreGood ls → SpellsEach (Spells S set_step) fs ls
    → HeldSet S 1 x n → HeldSet S 1 (fold step x fs) (n + length ls)
sums_held S know x [] n ls good d h = set_larger S 1 x n (n + length ls) (omega arith) h
sums_held S know x (f ∷ fs) n ls good (p, q, g, first, more) h =
    let a1 : length ls ≡ length p + length q = size_of ls p q g in
    let one = step_c S know f p (good_front ls p q g good) first in
    set_larger S 1 (fold step (f x) fs) ((n + length p) + length q) (n + length ls) (omega arith)
    (sums_held S know (f x) fs (n + length p) q (good_back ls p q g good) more (one.grows x n h))

pub sum_held : (S : Pieces) → Knows S → (x : SetExpr) (ls : List Piece) → AreGood ls → Spells S sum x ls → HeldSet S 1 x (length ls)
unfolding sum
sum_held S know x ls good (v, is, (p, q, g, first, (rest, t))) =
    let a1 : length ls ≡ length p + length q = size_of ls p q g in
    subst (λ z. HeldSet S 1 z (length ls)) (sym is)
    (set_larger S 1 (fold step v.0 v.1) (length p + length q) (length ls) (omega arith)
    (sums_held S know v.0 v.1 (length p) q (good_back ls p q g good) rest
    (set_looser S 1 2 v.0 (length p) (omega arith) (term_held S know v.0 p (good_front ls p q g good) first))))

-- ---- choices

pub if_as : (y x : Expr) (w v u t : SetExpr) (a b : ℕ) → AsExpr x y → AsSet v w → AsSet t u → AsSet (s.IfS b x v t) (s.IfS a y w u)
if_as y x w v u t a b f g h =
    layer.IfS_stripped y w u a ∙ ap (λ z. s.IfS 0 z (stripped_set w) (stripped_set u)) f ∙ ap (λ z. s.IfS 0 (stripped_expr x) z (stripped_set u)) g
    ∙ ap (λ z. s.IfS 0 (stripped_expr x) (stripped_set v) z) h ∙ sym (layer.IfS_stripped x v t b)

pub match_as : (y x : Expr) (w v u t : SetExpr) (m l : Piece) (a b : ℕ) → AsExpr x y → AsSet v w → m.bytes ≡ l.bytes → AsSet t u
    → AsSet (s.MatchS b x v (named l) t) (s.MatchS a y w (named m) u)
match_as y x w v u t m l a b f g n h =
    layer.MatchS_stripped y w (named m) u a ∙ ap (λ z. s.MatchS 0 z (stripped_set w) (stripped_name (named m)) (stripped_set u)) f
    ∙ ap (λ z. s.MatchS 0 (stripped_expr x) z (stripped_name (named m)) (stripped_set u)) g
    ∙ ap (λ z. s.MatchS 0 (stripped_expr x) (stripped_set v) z (stripped_set u)) (name_as m l n)
    ∙ ap (λ z. s.MatchS 0 (stripped_expr x) (stripped_set v) (stripped_name (named l)) z) h ∙ sym (layer.MatchS_stripped x v (named l) t b)

pub set_rule_held : (S : Pieces) → Knows S → (x : SetExpr) (ls : List Piece) → AreGood ls → Spells S set x ls → HeldSet S 0 x (length ls)
unfolding set if_set match_set
set_rule_held S know x ls good (inl (v, is, d)) =
    let i = choice_parts S (part Set) v ls good d in
    let t = know.expr v.0.1 i.test i.good_test i.spells_test in
    let one = know.set v.1.0 i.one i.good_one i.spells_one in
    let other = know.set v.1.1 i.other i.good_other i.spells_other in
    subst (λ z. HeldSet S 0 z (length ls)) (sym is)
    (held_set S 0 (s.IfS v.0.0.at v.0.1 v.1.0 v.1.1) (set_spelling (SetExpr-F.IfS v.0.0.at (spelled_expr v.0.1) (spelled_set v.1.0) (spelled_set v.1.1))) (length ls)
    (layer.IfS_spelled v.0.1 v.1.0 v.1.1 v.0.0.at) (omega arith) (omega arith)
    (c.rewritten (choice_lexemes (spelled_expr v.0.1).marks (spelled_set v.1.0).marks (spelled_set v.1.1).marks) i.fewer
    (moved (λ z. s.IfS z.0.0.at z.0.1 z.1.0 z.1.1) (λ z r. if_as z.0.1 v.0.1 z.1.0 v.1.0 z.1.1 v.1.1 z.0.0.at v.0.0.at r.0.1 r.1.0 r.1.1)
    (λ z ks d. inl (z, refl, d)) (choice_c S (part Set) t.1 one.1 other.1))))
set_rule_held S know x ls good (inr (inl (v, is, d))) =
    let i = case_parts S (part Set) v ls good d in
    let t = know.expr v.0.1 i.test i.good_test i.spells_test in
    let one = know.set v.1.0 i.one i.good_one i.spells_one in
    let other = know.set v.1.1.1 i.other i.good_other i.spells_other in
    let x = named v.1.1.0 in
    subst (λ z. HeldSet S 0 z (length ls)) (sym is)
    (held_set S 0 (s.MatchS v.0.0.at v.0.1 v.1.0 x v.1.1.1) (set_spelling (SetExpr-F.MatchS v.0.0.at (spelled_expr v.0.1) (spelled_set v.1.0) x (spelled_set v.1.1.1)))
    (length ls) (layer.MatchS_spelled v.0.1 v.1.0 x v.1.1.1 v.0.0.at) (omega arith) (omega arith)
    (c.rewritten (cases_lexemes (spelled_expr v.0.1).marks (spelled_set v.1.0).marks x.name (spelled_set v.1.1.1).marks) i.fewer
    (moved (λ z. s.MatchS z.0.0.at z.0.1 z.1.0 (named z.1.1.0) z.1.1.1)
    (λ z r. match_as z.0.1 v.0.1 z.1.0 v.1.0 z.1.1.1 v.1.1.1 z.1.1.0 v.1.1.0 z.0.0.at v.0.0.at r.0.1 r.1.0 r.1.1.0 r.1.1.1)
    (λ z ks d. inr (inl (z, refl, d))) (cases_c S (part Set) v.1.1.0 i.name i.admitted t.1 one.1 other.1))))
set_rule_held S know x ls good (inr (inr h)) = set_looser S 0 1 x (length ls) (omega arith) (sum_held S know x ls good h)
