use Rattle.std.proofs.Common.{◌≡◌, ◌∙◌, ap}
use Rattle.type_schema.specs.Trees.{Expr}
use Rattle.online_meaning.specs.Finds.{finds_of}
use Rattle.type_schema.specs.Views.{expr_of}
use Rattle.type_schema.specs.declared.trees.TExpr.{TExpr}
use Rattle.online_finds.proofs.Seen.{Eq_seen, Iff_seen, Less_seen, Member_seen, And_seen, Or_seen, IfE_seen, MatchE_seen}
use Rattle.online_finds.proofs.FindLaws.{two_exprs, expr_set, three_exprs}
use Rattle.online_finds.proofs.finds.+finds.Goals as goal

in_it : (e f : TExpr) (x : Expr) → e ≡ f → expr_of f ≡ x → finds_of (expr_of e) ≡ finds_of x
in_it e f x is seen = ap (λ (e : TExpr). finds_of (expr_of e)) is ∙ ap (λ (x : Expr). finds_of x) seen

pub add_expr-returns-in_ok-add_expr-in-Eq-2 : goal.add_expr-returns-in_ok-add_expr-in-Eq-2
add_expr-returns-in_ok-add_expr-in-Eq-2 t c =
    two_exprs c.args.e.now c.in-Eq.a c.in-Eq.b _ _ _ _ _ (in_it _ _ _ c.in-Eq.is (Eq_seen c.in-Eq.a c.in-Eq.b c.in-Eq.field-2))
    c.get-in-Eq.ensures c.get-in-Eq-2.ensures c.in_ok-add_expr-in-Eq.ensures c.in_ok-add_expr-in-Eq-2.ensures

pub add_expr-returns-in_ok-add_expr-in-Iff-2 : goal.add_expr-returns-in_ok-add_expr-in-Iff-2
add_expr-returns-in_ok-add_expr-in-Iff-2 t c =
    two_exprs c.args.e.now c.in-Iff.a c.in-Iff.b _ _ _ _ _ (in_it _ _ _ c.in-Iff.is (Iff_seen c.in-Iff.a c.in-Iff.b c.in-Iff.field-2))
    c.get-in-Iff.ensures c.get-in-Iff-2.ensures c.in_ok-add_expr-in-Iff.ensures c.in_ok-add_expr-in-Iff-2.ensures

pub add_expr-returns-in_ok-add_expr-in-And-2 : goal.add_expr-returns-in_ok-add_expr-in-And-2
add_expr-returns-in_ok-add_expr-in-And-2 t c =
    two_exprs c.args.e.now c.in-And.a c.in-And.b _ _ _ _ _ (in_it _ _ _ c.in-And.is (And_seen c.in-And.a c.in-And.b))
    c.get-in-And.ensures c.get-in-And-2.ensures c.in_ok-add_expr-in-And.ensures c.in_ok-add_expr-in-And-2.ensures

pub add_expr-returns-in_ok-add_expr-in-Or-2 : goal.add_expr-returns-in_ok-add_expr-in-Or-2
add_expr-returns-in_ok-add_expr-in-Or-2 t c =
    two_exprs c.args.e.now c.in-Or.a c.in-Or.b _ _ _ _ _ (in_it _ _ _ c.in-Or.is (Or_seen c.in-Or.a c.in-Or.b))
    c.get-in-Or.ensures c.get-in-Or-2.ensures c.in_ok-add_expr-in-Or.ensures c.in_ok-add_expr-in-Or-2.ensures

pub add_expr-returns-in_ok-add_expr-in-Less-2 : goal.add_expr-returns-in_ok-add_expr-in-Less-2
add_expr-returns-in_ok-add_expr-in-Less-2 t c =
    two_exprs c.args.e.now c.in-Less.a c.in-Less.b _ _ _ _ _ (in_it _ _ _ c.in-Less.is (Less_seen c.in-Less.a c.in-Less.b c.in-Less.field-2))
    c.get-in-Less.ensures c.get-in-Less-2.ensures c.in_ok-add_expr-in-Less.ensures c.in_ok-add_expr-in-Less-2.ensures

pub add_expr-returns-in_ok-add_set-in-Member : goal.add_expr-returns-in_ok-add_set-in-Member
add_expr-returns-in_ok-add_set-in-Member t c =
    expr_set c.args.e.now c.in-Member.of _ c.in-Member.set _ _ _ _ (in_it _ _ _ c.in-Member.is (Member_seen c.in-Member.of c.in-Member.field-1 c.in-Member.set))
    c.get-in-Member.ensures c.get-in-Member-2.ensures c.in_ok-add_expr-in-Member.ensures c.in_ok-add_set-in-Member.ensures

pub add_expr-returns-in_ok-add_expr-in-IfE-3 : goal.add_expr-returns-in_ok-add_expr-in-IfE-3
add_expr-returns-in_ok-add_expr-in-IfE-3 t c =
    three_exprs c.args.e.now c.in-IfE.first c.in-IfE.a c.in-IfE.b _ _ _ _ _ _ _ (in_it _ _ _ c.in-IfE.is (IfE_seen c.in-IfE.first c.in-IfE.a c.in-IfE.b))
    c.get-in-IfE.ensures c.get-in-IfE-2.ensures c.get-in-IfE-3.ensures
    c.in_ok-add_expr-in-IfE.ensures c.in_ok-add_expr-in-IfE-2.ensures c.in_ok-add_expr-in-IfE-3.ensures

pub add_expr-returns-in_ok-add_expr-in-MatchE-3 : goal.add_expr-returns-in_ok-add_expr-in-MatchE-3
add_expr-returns-in_ok-add_expr-in-MatchE-3 t c =
    three_exprs c.args.e.now c.in-MatchE.first c.in-MatchE.a c.in-MatchE.b _ _ _ _ _ _ _ (in_it _ _ _ c.in-MatchE.is (MatchE_seen c.in-MatchE.first c.in-MatchE.a c.in-MatchE.field-2 c.in-MatchE.b))
    c.get-in-MatchE.ensures c.get-in-MatchE-2.ensures c.get-in-MatchE-3.ensures
    c.in_ok-add_expr-in-MatchE.ensures c.in_ok-add_expr-in-MatchE-2.ensures c.in_ok-add_expr-in-MatchE-3.ensures
