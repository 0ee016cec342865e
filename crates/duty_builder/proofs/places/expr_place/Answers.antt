use Rattle.std.proofs.Common.{ap, sym, ◌∙◌}
use Rattle.type_schema.specs.declared.trees.TExpr.{TExpr}
use Rattle.type_schema.specs.declared.trees.TSet.{TSet}
use Rattle.type_schema.specs.Trees.{get, within, match_expr}
use Rattle.type_schema.specs.Views.{expr_of, set_of}
use Rattle.duty_builder.proofs.Forms.{Get_is, Member_is, MatchE_is}
use Rattle.duty_builder.proofs.Standing.{ok_as, in_form}
use Rattle.duty_builder.proofs.places.expr_place.Goals as goal

pub returns-in-Get : goal.returns-in-Get
returns-in-Get c =
    ok_as c.get_place.result _ _ (λ place h. in_form place c.args.e.now _ c.args.number
    (ap (λ (a : TExpr). get (expr_of a) c.in-Get.field-1 c.in-Get.field-2) c.get-in-Get.ensures
    ∙ sym (ap expr_of c.in-Get.is ∙ Get_is c.in-Get.of c.in-Get.field-1 c.in-Get.field-2)) (h c.in-Get.field-1 c.in-Get.field-2)) c.get_place.ensures

pub returns-in-Member : goal.returns-in-Member
returns-in-Member c =
    ok_as c.member_place.result _ _ (λ place h. in_form place c.args.e.now _ c.args.number
    (ap (λ (a : TExpr). within (expr_of a) c.in-Member.field-1 (set_of c.get-in-Member-2.result.now)) c.get-in-Member.ensures
    ∙ (ap (λ (a : TSet). within (expr_of c.in-Member.of) c.in-Member.field-1 (set_of a)) c.get-in-Member-2.ensures
    ∙ sym (ap expr_of c.in-Member.is ∙ Member_is c.in-Member.of c.in-Member.field-1 c.in-Member.set))) (h c.in-Member.field-1)) c.member_place.ensures

pub returns-in-MatchE : goal.returns-in-MatchE
returns-in-MatchE c =
    ok_as c.match_place.result _ _ (λ place h. in_form place c.args.e.now _ c.args.number
    (ap (λ (a : TExpr). match_expr (expr_of a) (expr_of c.get-in-MatchE-2.result.now) c.in-MatchE.field-2 (expr_of c.get-in-MatchE-3.result.now)) c.get-in-MatchE.ensures
    ∙ (ap (λ (a : TExpr). match_expr (expr_of c.in-MatchE.of) (expr_of a) c.in-MatchE.field-2 (expr_of c.get-in-MatchE-3.result.now)) c.get-in-MatchE-2.ensures
    ∙ (ap (λ (a : TExpr). match_expr (expr_of c.in-MatchE.of) (expr_of c.in-MatchE.a) c.in-MatchE.field-2 (expr_of a)) c.get-in-MatchE-3.ensures
    ∙ sym (ap expr_of c.in-MatchE.is ∙ MatchE_is c.in-MatchE.of c.in-MatchE.a c.in-MatchE.field-2 c.in-MatchE.c)))) (h c.in-MatchE.field-2)) c.match_place.ensures
