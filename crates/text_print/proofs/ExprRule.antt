-- What is printed of an expression spells it.
use Rattle.std.proofs.Common.{◌≡◌, inl, inr, ℕ, arith, List, length, refl, sym, ◌∙◌, ap, subst}
use Rattle.text_ast.specs.Pieces.{Piece}
use Rattle.text_tree.specs.declared.exprs.Expr.{Expr}
use Rattle.text_tree.specs.declared.exprs.Expr.TheVariants as e
use Rattle.text_tree.specs.declared.exprs.Expr.TheOpen.{Expr-F}
use Rattle.text_tree.specs.Forms.{Spells, part}
use Rattle.text_tree.specs.ExprGrammar.{Expression, named, expression, if_expr, match_expr}
use Rattle.text_tree.specs.Stripped.{stripped_expr, stripped_name}
use Rattle.text_print.specs.Exprs.{expr_spelling, spelled_expr}
use Rattle.text_print.proofs.Canonical as c
use Rattle.text_print.proofs.Canonical.{AreGood, moved}
use Rattle.text_print.proofs.Layers as layer
use Rattle.text_print.proofs.Ranks.{AsExpr, Held, held, looser}
use Rattle.text_print.proofs.SetRanks.{Knows}
use Rattle.text_print.proofs.ExprForms.{name_as}
use Rattle.text_print.proofs.Choices.{case_parts, cases_c, cases_lexemes, choice_c, choice_lexemes, choice_parts}
use Rattle.text_print.proofs.Compounds.{disjunction_held}
use Rattle.text_print.proofs.Tokens.{Pieces}

pub if_as : (y x w v u t : Expr) (a b : ℕ) → AsExpr x y → AsExpr v w → AsExpr t u → AsExpr (e.IfE b x v t) (e.IfE a y w u)
if_as y x w v u t a b f g h =
    layer.IfE_stripped y w u a ∙ ap (λ z. e.IfE 0 z (stripped_expr w) (stripped_expr u)) f ∙ ap (λ z. e.IfE 0 (stripped_expr x) z (stripped_expr u)) g
    ∙ ap (λ z. e.IfE 0 (stripped_expr x) (stripped_expr v) z) h ∙ sym (layer.IfE_stripped x v t b)

pub match_as : (y x w v u t : Expr) (m l : Piece) (a b : ℕ) → AsExpr x y → AsExpr v w → m.bytes ≡ l.bytes → AsExpr t u
    → AsExpr (e.MatchE b x v (named l, t)) (e.MatchE a y w (named m, u))
match_as y x w v u t m l a b f g n h =
    layer.MatchE_stripped y w (named m) u a ∙ ap (λ z. e.MatchE 0 z (stripped_expr w) (stripped_name (named m), stripped_expr u)) f
    ∙ ap (λ z. e.MatchE 0 (stripped_expr x) z (stripped_name (named m), stripped_expr u)) g
    ∙ ap (λ z. e.MatchE 0 (stripped_expr x) (stripped_expr v) (z, stripped_expr u)) (name_as m l n)
    ∙ ap (λ z. e.MatchE 0 (stripped_expr x) (stripped_expr v) (stripped_name (named l), z)) h ∙ sym (layer.MatchE_stripped x v (named l) t b)

pub expression_held : (S : Pieces) → Knows S → (x : Expr) (ls : List Piece) → AreGood ls → Spells S expression x ls → Held S 0 x (length ls)
unfolding expression if_expr match_expr
expression_held S know x ls good (inl (v, is, d)) =
    let i = choice_parts S (part Expression) v ls good d in
    let t = know.expr v.0.1 i.test i.good_test i.spells_test in
    let one = know.expr v.1.0 i.one i.good_one i.spells_one in
    let other = know.expr v.1.1 i.other i.good_other i.spells_other in
    subst (λ z. Held S 0 z (length ls)) (sym is)
    (held S 0 (e.IfE v.0.0.at v.0.1 v.1.0 v.1.1) (expr_spelling (Expr-F.IfE v.0.0.at (spelled_expr v.0.1) (spelled_expr v.1.0) (spelled_expr v.1.1))) (length ls)
    (layer.IfE_spelled v.0.1 v.1.0 v.1.1 v.0.0.at) (omega arith)
    (c.rewritten (choice_lexemes (spelled_expr v.0.1).marks (spelled_expr v.1.0).marks (spelled_expr v.1.1).marks) i.fewer
    (moved (λ z. e.IfE z.0.0.at z.0.1 z.1.0 z.1.1) (λ z r. if_as z.0.1 v.0.1 z.1.0 v.1.0 z.1.1 v.1.1 z.0.0.at v.0.0.at r.0.1 r.1.0 r.1.1)
    (λ z ks d. inl (z, refl, d)) (choice_c S (part Expression) t.1 one.1 other.1))))
expression_held S know x ls good (inr (inl (v, is, d))) =
    let i = case_parts S (part Expression) v ls good d in
    let t = know.expr v.0.1 i.test i.good_test i.spells_test in
    let one = know.expr v.1.0 i.one i.good_one i.spells_one in
    let other = know.expr v.1.1.1 i.other i.good_other i.spells_other in
    let x = named v.1.1.0 in
    subst (λ z. Held S 0 z (length ls)) (sym is)
    (held S 0 (e.MatchE v.0.0.at v.0.1 v.1.0 (x, v.1.1.1)) (expr_spelling (Expr-F.MatchE v.0.0.at (spelled_expr v.0.1) (spelled_expr v.1.0) (x, spelled_expr v.1.1.1)))
    (length ls) (layer.MatchE_spelled v.0.1 v.1.0 x v.1.1.1 v.0.0.at) (omega arith)
    (c.rewritten (cases_lexemes (spelled_expr v.0.1).marks (spelled_expr v.1.0).marks x.name (spelled_expr v.1.1.1).marks) i.fewer
    (moved (λ z. e.MatchE z.0.0.at z.0.1 z.1.0 (named z.1.1.0, z.1.1.1))
    (λ z r. match_as z.0.1 v.0.1 z.1.0 v.1.0 z.1.1.1 v.1.1.1 z.1.1.0 v.1.1.0 z.0.0.at v.0.0.at r.0.1 r.1.0 r.1.1.0 r.1.1.1)
    (λ z ks d. inr (inl (z, refl, d))) (cases_c S (part Expression) v.1.1.0 i.name i.admitted t.1 one.1 other.1))))
expression_held S know x ls good (inr (inr h)) = looser S 0 1 x (length ls) (omega arith) (disjunction_held S know x ls good h)
