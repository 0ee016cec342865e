use Rattle.std.proofs.Common.{◌≡◌, ◌∙◌, ap, sym, refl, inl, inr}
use Rattle.type_schema.specs.Views.{expr_of}
use Rattle.duty_meaning.specs.Cases.{continued, is_truth, condition_of, truth}
use Rattle.duty_meaning.specs.Formulas.{cases_of}
use Rattle.duty_builder.specs.Values.{schema_in, written_in, written_upto, scene_data, end_data, steps_data}
use Rattle.duty_builder.proofs.Walks.{ok_same, walk_get, walk_match, walk_some, first_just, whole_form}
use Rattle.duty_builder.proofs.Forms.{Flag_is, Eq_is, Iff_is, Less_is, Member_is, Not_is, And_is, Or_is}
use Rattle.duty_builder.specs.declared.values.Steps.{Steps}
use Rattle.duty_builder.proofs.truths.+first.Goals as goal

pub first-returns-in-SomeLit : goal.first-returns-in-SomeLit
first-returns-in-SomeLit t c =
    let st = c.args.start.now in
    let s = schema_in st in
    let w = written_in st c.args.scene.now in
    let env = scene_data st c.args.scene.now in
    let go = steps_data st c.args.steps.now in
    ok_same c.first.result _ _
    (first_just s go (condition_of s (cases_of s w env (expr_of c.get-a.result.now))) (cases_of s w env (expr_of c.get-a.result.now)) refl
    ∙ ap (λ v. is_truth s (continued go v)) (walk_some s w env c.args.e.now c.get-a.result.now c.in-SomeLit.a c.in-SomeLit.is c.get-a.ensures)) c.first.ensures

pub first-returns-in-Get : goal.first-returns-in-Get
first-returns-in-Get t c =
    let st = c.args.start.now in
    ok_same c.first-in-Get.result _ _
    (ap (is_truth (schema_in st)) (walk_get (schema_in st) (written_in st c.args.scene.now) (scene_data st c.args.scene.now)
    (written_upto st c.upto_of.result) (steps_data st c.args.steps.now) c.args.e.now c.get.result.now c.in-Get.a c.in-Get.m c.in-Get.f c.in-Get.is c.get.ensures
    (ap (written_upto st) (sym c.upto_of.ensures)))) c.first-in-Get.ensures

pub first-returns-in-MatchE : goal.first-returns-in-MatchE
first-returns-in-MatchE t c =
    let st = c.args.start.now in
    ok_same c.first-in-MatchE.result _ _
    (ap (is_truth (schema_in st)) (walk_match (schema_in st) (written_in st c.args.scene.now) (scene_data st c.args.scene.now)
    (steps_data st c.args.steps.now) c.args.e.now c.get-in-MatchE-3.result.now c.in-MatchE.of c.get-in-MatchE.result.now c.in-MatchE.a c.get-in-MatchE-2.result.now c.in-MatchE.c
    c.in-MatchE.field-2 c.in-MatchE.is c.get-in-MatchE-3.ensures c.get-in-MatchE.ensures c.get-in-MatchE-2.ensures)) c.first-in-MatchE.ensures

pub first-returns-in-Flag : goal.first-returns-in-Flag
first-returns-in-Flag t c =
    let st = c.args.start.now in
    let s = schema_in st in
    let w = written_in st c.args.scene.now in
    let env = scene_data st c.args.scene.now in
    let e = c.args.e.now in
    let whole : truth (condition_of s (cases_of s w env (expr_of e))) ≡ cases_of s w env (expr_of e) =
    elim c.in-Flag.is [
      | inl p ↦ whole_form s w env e _ (ap expr_of p.1 ∙ Flag_is p.0) refl
      | inr q ↦
          elim q [
            | inl p ↦ whole_form s w env e _ (ap expr_of p.3 ∙ Eq_is p.0 p.1 p.2) refl
            | inr q ↦
                elim q [
                  | inl p ↦ whole_form s w env e _ (ap expr_of p.3 ∙ Iff_is p.0 p.1 p.2) refl
                  | inr q ↦
                      elim q [
                        | inl p ↦ whole_form s w env e _ (ap expr_of p.3 ∙ Less_is p.0 p.1 p.2) refl
                        | inr q ↦
                            elim q [
                              | inl p ↦ whole_form s w env e _ (ap expr_of p.3 ∙ Member_is p.0 p.1 p.2) refl
                              | inr q ↦
                                  elim q [
                                    | inl p ↦ whole_form s w env e _ (ap expr_of p.1 ∙ Not_is p.0) refl
                                    | inr q ↦
                                        elim q [ inl p ↦ whole_form s w env e _ (ap expr_of p.2 ∙ And_is p.0 p.1) refl | inr p ↦ whole_form s w env e _ (ap expr_of p.2 ∙ Or_is p.0 p.1) refl ]
                                  ]
                            ]
                      ]
                ]
          ]
    ] in
    ok_same c.first_end-in-Flag.result _ _ (ap (λ v. is_truth s (continued (steps_data st c.args.steps.now) v)) whole) c.first_end-in-Flag.ensures

pub first_end-returns-in-Get : goal.first_end-returns-in-Get
first_end-returns-in-Get t c =
    let st = c.args.start.now in
    ok_same c.first_get.result _ _ (ap (λ (v : Steps). is_truth (schema_in st) (steps_data st v (end_data st c.args.end.now))) (sym c.in-Get.is)) c.first_get.ensures

pub first_end-returns-in-Match : goal.first_end-returns-in-Match
first_end-returns-in-Match t c =
    let st = c.args.start.now in
    ok_same c.first_match.result _ _ (ap (λ (v : Steps). is_truth (schema_in st) (steps_data st v (end_data st c.args.end.now))) (sym c.in-Match.is)) c.first_match.ensures
