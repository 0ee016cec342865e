-- What is answered of each form, from what is found of its parts.
use Rattle.std.proofs.Common.{◌≡◌, ◌∙◌, ◌++◌, ◌∷◌, [], arith, ℤ, w64, SFits, to_z, of_z, ap, rules, sym, refl}
use Rattle.std.specs.Prelude.{Ok, Err}
use Rattle.std.proofs.lemmas.Int.{to_z-of_z}
use Rattle.text_tree.specs.declared.exprs.Expr.TheVariants as e
use Rattle.text_tree.specs.declared.exprs.SetExpr.TheVariants as se
use Rattle.text_tree.specs.declared.exprs.Item.{Item}
use Rattle.text_tree.specs.declared.exprs.Filter.{Filter}
use Rattle.type_schema.specs.declared.trees.TItem.{TItem}
use Rattle.type_schema.specs.declared.trees.TFilter.{TFilter}
use Rattle.type_schema.specs.declared.trees.TFilter.TheVariants as tf
use Rattle.type_typing.specs.Names.{plain_of}
use Rattle.type_typing.specs.Outcome.{Checked}
use Rattle.type_typing.specs.Exprs.{typed_source, typed_item, typed_filter}
use Rattle.type_typing.proofs.CheckedLists as lists
use Rattle.type_typing.proofs.Forms as form
use Rattle.type_typing.proofs.SetSteps as set_step
use Rattle.type_typing.proofs.Steps as step
use Rattle.type_typing.proofs.exprs.+typing.Goals as goal

pub typed_expr-returns-in-Flag : goal.typed_expr-returns-in-Flag
typed_expr-returns-in-Flag t c =
    step.Flag_last (plain_of c.args.schema.now) c.args.vars.now c.args.asked c.in-Flag.value c.in-Flag.at c.args.e.now c.fit.result c.in-Flag.is c.fit.ensures

pub typed_expr-returns-in-Num : goal.typed_expr-returns-in-Num
typed_expr-returns-in-Num t c =
    let value = c.in-Num.value in
    let fits : SFits w64 value = search rules in
    let passed : ℤ = to_z w64 (of_z w64 value) in
    let kept : passed ≡ value = to_z-of_z w64 value fits in
    step.Num_last (plain_of c.args.schema.now) c.args.vars.now c.args.asked passed c.in-Num.at c.args.e.now c.fit-in-Num.result (c.in-Num.is ∙ ap (λ (z : ℤ). e.Num c.in-Num.at z) (sym kept)) c.fit-in-Num.ensures

pub typed_expr-returns-in-Str : goal.typed_expr-returns-in-Str
typed_expr-returns-in-Str t c =
    step.Str_last (plain_of c.args.schema.now) c.args.vars.now c.args.asked c.get.result.now c.in-Str.at c.args.e.now c.text_of.result (c.in-Str.is ∙ ap (λ z. e.Str c.in-Str.at z) (sym c.get.ensures)) c.text_of.ensures

pub typed_expr-returns-in-Var : goal.typed_expr-returns-in-Var
typed_expr-returns-in-Var t c =
    step.Var_last (plain_of c.args.schema.now) c.args.vars.now c.args.asked c.in-Var.x c.in-Var.at c.args.e.now c.variable.result c.in-Var.is c.variable.ensures

pub typed_expr-returns-in-NoneLit : goal.typed_expr-returns-in-NoneLit
typed_expr-returns-in-NoneLit t c =
    step.NoneLit_last (plain_of c.args.schema.now) c.args.vars.now c.args.asked c.in-NoneLit.at c.args.e.now c.none_of.result c.in-NoneLit.is c.none_of.ensures

pub typed_expr-returns-in_err-inner-in-SomeLit : goal.typed_expr-returns-in_err-inner-in-SomeLit
typed_expr-returns-in_err-inner-in-SomeLit t c =
    let same : c.from_residual.result ≡ Err c.in_err-inner-in-SomeLit.field-0.0 = search rules in
    rw same
    (step.SomeLit_fault0 (plain_of c.args.schema.now) c.args.vars.now c.args.asked c.in-SomeLit.e c.in-SomeLit.at c.args.e.now c.in_err-inner-in-SomeLit.field-0.0 c.in-SomeLit.is (λ ne. cc (c.in_err-inner-in-SomeLit.ensures ne)))

pub typed_expr-returns-in_ok-inner-in-SomeLit : goal.typed_expr-returns-in_ok-inner-in-SomeLit
typed_expr-returns-in_ok-inner-in-SomeLit t c =
    step.SomeLit_last (plain_of c.args.schema.now) c.args.vars.now c.args.asked c.in-SomeLit.e c.in-SomeLit.at c.args.e.now c.in_ok-inner-in-SomeLit.inner c.just.result c.in-SomeLit.is (cc c.in_ok-inner-in-SomeLit.ensures) c.just.ensures

pub typed_expr-returns-in_err-of-in-Get : goal.typed_expr-returns-in_err-of-in-Get
typed_expr-returns-in_err-of-in-Get t c =
    let same : c.from_residual-in_err-of-in-Get.result ≡ Err c.in_err-of-in-Get.field-0.0 = search rules in
    rw same
    (step.Get_fault0 (plain_of c.args.schema.now) c.args.vars.now c.args.asked c.in-Get.e c.in-Get.field c.in-Get.at c.args.e.now c.in_err-of-in-Get.field-0.0 c.in-Get.is (λ ne. cc (c.in_err-of-in-Get.ensures ne)))

pub typed_expr-returns-in_ok-of-in-Get : goal.typed_expr-returns-in_ok-of-in-Get
typed_expr-returns-in_ok-of-in-Get t c =
    step.Get_last (plain_of c.args.schema.now) c.args.vars.now c.args.asked c.in-Get.e c.get-in-Get-2.result.now c.in-Get.at c.args.e.now c.in_ok-of-in-Get.of c.field_of.result (c.in-Get.is ∙ ap (λ z. e.Get c.in-Get.at c.in-Get.e z) (sym c.get-in-Get-2.ensures)) (cc c.in_ok-of-in-Get.ensures) c.field_of.ensures

pub typed_expr-returns-in_err-left-in-Cmp : goal.typed_expr-returns-in_err-left-in-Cmp
typed_expr-returns-in_err-left-in-Cmp t c =
    let same : c.from_residual-in_err-left-in-Cmp.result ≡ Err c.in_err-left-in-Cmp.field-0.0 = search rules in
    rw same
    (step.Cmp_fault0 (plain_of c.args.schema.now) c.args.vars.now c.args.asked c.in-Cmp.op c.in-Cmp.a c.in-Cmp.b c.in-Cmp.at c.args.e.now c.in_err-left-in-Cmp.field-0.0 c.in-Cmp.is (λ ne. cc (c.in_err-left-in-Cmp.ensures ne)))

pub typed_expr-returns-in_err-base-in-Cmp : goal.typed_expr-returns-in_err-base-in-Cmp
typed_expr-returns-in_err-base-in-Cmp t c =
    let same : c.from_residual-in_err-base-in-Cmp.result ≡ Err c.in_err-base-in-Cmp.field-0.0 = search rules in
    rw same
    (step.Cmp_fault1 (plain_of c.args.schema.now) c.args.vars.now c.args.asked c.in-Cmp.op c.in-Cmp.a c.in-Cmp.b c.in-Cmp.at c.args.e.now c.in_ok-left-in-Cmp.left c.in_err-base-in-Cmp.field-0.0 c.in-Cmp.is (cc c.in_ok-left-in-Cmp.ensures) (λ ne. cc c.in_err-base-in-Cmp.ensures))

pub typed_expr-returns-in_err-right-in-Cmp : goal.typed_expr-returns-in_err-right-in-Cmp
typed_expr-returns-in_err-right-in-Cmp t c =
    let same : c.from_residual-in_err-right-in-Cmp.result ≡ Err c.in_err-right-in-Cmp.field-0.0 = search rules in
    rw same
    (step.Cmp_fault2 (plain_of c.args.schema.now) c.args.vars.now c.args.asked c.in-Cmp.op c.in-Cmp.a c.in-Cmp.b c.in-Cmp.at c.args.e.now c.in_ok-left-in-Cmp.left c.in_ok-base-in-Cmp.base c.in_err-right-in-Cmp.field-0.0 c.in-Cmp.is (cc c.in_ok-left-in-Cmp.ensures) (cc c.in_ok-base-in-Cmp.ensures) (λ ne. cc (c.in_err-right-in-Cmp.ensures ne)))

pub typed_expr-returns-in_ok-right-in-Cmp : goal.typed_expr-returns-in_ok-right-in-Cmp
typed_expr-returns-in_ok-right-in-Cmp t c =
    step.Cmp_last (plain_of c.args.schema.now) c.args.vars.now c.args.asked c.in-Cmp.op c.in-Cmp.a c.in-Cmp.b c.in-Cmp.at c.args.e.now c.in_ok-left-in-Cmp.left c.in_ok-base-in-Cmp.base c.in_ok-right-in-Cmp.right c.comparison.result c.in-Cmp.is (cc c.in_ok-left-in-Cmp.ensures) (cc c.in_ok-base-in-Cmp.ensures) (cc c.in_ok-right-in-Cmp.ensures) c.comparison.ensures

pub typed_expr-returns-in_err-of-in-Member : goal.typed_expr-returns-in_err-of-in-Member
typed_expr-returns-in_err-of-in-Member t c =
    let same : c.from_residual-in_err-of-in-Member.result ≡ Err c.in_err-of-in-Member.field-0.0 = search rules in
    rw same
    (step.Member_fault0 (plain_of c.args.schema.now) c.args.vars.now c.args.asked c.in-Member.e c.in-Member.set c.in-Member.at c.args.e.now c.in_err-of-in-Member.field-0.0 c.in-Member.is (λ ne. cc (c.in_err-of-in-Member.ensures ne)))

pub typed_expr-returns-in_err-model-in-Member : goal.typed_expr-returns-in_err-model-in-Member
typed_expr-returns-in_err-model-in-Member t c =
    let same : c.from_residual-in_err-model-in-Member.result ≡ Err c.in_err-model-in-Member.field-0.0 = search rules in
    rw same
    (step.Member_fault1 (plain_of c.args.schema.now) c.args.vars.now c.args.asked c.in-Member.e c.in-Member.set c.in-Member.at c.args.e.now c.in_ok-of-in-Member.of c.in_err-model-in-Member.field-0.0 c.in-Member.is (cc c.in_ok-of-in-Member.ensures) (λ ne. cc c.in_err-model-in-Member.ensures))

pub typed_expr-returns-in_err-set-in-Member : goal.typed_expr-returns-in_err-set-in-Member
typed_expr-returns-in_err-set-in-Member t c =
    let same : c.from_residual-in_err-set-in-Member.result ≡ Err c.in_err-set-in-Member.field-0.0 = search rules in
    rw same
    (step.Member_fault2 (plain_of c.args.schema.now) c.args.vars.now c.args.asked c.in-Member.e c.in-Member.set c.in-Member.at c.args.e.now c.in_ok-of-in-Member.of c.in_ok-model-in-Member.model c.in_err-set-in-Member.field-0.0 c.in-Member.is (cc c.in_ok-of-in-Member.ensures) (cc c.in_ok-model-in-Member.ensures) (λ ne. cc (c.in_err-set-in-Member.ensures ne)))

pub typed_expr-returns-in_ok-set-in-Member : goal.typed_expr-returns-in_ok-set-in-Member
typed_expr-returns-in_ok-set-in-Member t c =
    step.Member_last (plain_of c.args.schema.now) c.args.vars.now c.args.asked c.in-Member.e c.in-Member.set c.in-Member.at c.args.e.now c.in_ok-of-in-Member.of c.in_ok-model-in-Member.model c.in_ok-set-in-Member.set c.within.result c.in-Member.is (cc c.in_ok-of-in-Member.ensures) (cc c.in_ok-model-in-Member.ensures) (cc c.in_ok-set-in-Member.ensures) c.within.ensures

pub typed_expr-returns-in_err-inner-in-Not : goal.typed_expr-returns-in_err-inner-in-Not
typed_expr-returns-in_err-inner-in-Not t c =
    let same : c.from_residual-in_err-inner-in-Not.result ≡ Err c.in_err-inner-in-Not.field-0.0 = search rules in
    rw same
    (step.Not_fault0 (plain_of c.args.schema.now) c.args.vars.now c.args.asked c.in-Not.e c.in-Not.at c.args.e.now c.in_err-inner-in-Not.field-0.0 c.in-Not.is (λ ne. cc (c.in_err-inner-in-Not.ensures ne)))

pub typed_expr-returns-in_ok-inner-in-Not : goal.typed_expr-returns-in_ok-inner-in-Not
typed_expr-returns-in_ok-inner-in-Not t c =
    step.Not_last (plain_of c.args.schema.now) c.args.vars.now c.args.asked c.in-Not.e c.in-Not.at c.args.e.now c.in_ok-inner-in-Not.inner c.negation.result c.in-Not.is (cc c.in_ok-inner-in-Not.ensures) c.negation.ensures

pub typed_expr-returns-in_err-left-in-And : goal.typed_expr-returns-in_err-left-in-And
typed_expr-returns-in_err-left-in-And t c =
    let same : c.from_residual-in_err-left-in-And.result ≡ Err c.in_err-left-in-And.field-0.0 = search rules in
    rw same
    (step.And_fault0 (plain_of c.args.schema.now) c.args.vars.now c.args.asked c.in-And.a c.in-And.b c.in-And.at c.args.e.now c.in_err-left-in-And.field-0.0 c.in-And.is (λ ne. cc (c.in_err-left-in-And.ensures ne)))

pub typed_expr-returns-in_err-right-in-And : goal.typed_expr-returns-in_err-right-in-And
typed_expr-returns-in_err-right-in-And t c =
    let same : c.from_residual-in_err-right-in-And.result ≡ Err c.in_err-right-in-And.field-0.0 = search rules in
    rw same
    (step.And_fault1 (plain_of c.args.schema.now) c.args.vars.now c.args.asked c.in-And.a c.in-And.b c.in-And.at c.args.e.now c.in_ok-left-in-And.left c.in_err-right-in-And.field-0.0 c.in-And.is (cc c.in_ok-left-in-And.ensures) (λ ne. cc (c.in_err-right-in-And.ensures ne)))

pub typed_expr-returns-in_ok-right-in-And : goal.typed_expr-returns-in_ok-right-in-And
typed_expr-returns-in_ok-right-in-And t c =
    step.And_last (plain_of c.args.schema.now) c.args.vars.now c.args.asked c.in-And.a c.in-And.b c.in-And.at c.args.e.now c.in_ok-left-in-And.left c.in_ok-right-in-And.right c.both.result c.in-And.is (cc c.in_ok-left-in-And.ensures) (cc c.in_ok-right-in-And.ensures) c.both.ensures

pub typed_expr-returns-in_err-left-in-Or : goal.typed_expr-returns-in_err-left-in-Or
typed_expr-returns-in_err-left-in-Or t c =
    let same : c.from_residual-in_err-left-in-Or.result ≡ Err c.in_err-left-in-Or.field-0.0 = search rules in
    rw same
    (step.Or_fault0 (plain_of c.args.schema.now) c.args.vars.now c.args.asked c.in-Or.a c.in-Or.b c.in-Or.at c.args.e.now c.in_err-left-in-Or.field-0.0 c.in-Or.is (λ ne. cc (c.in_err-left-in-Or.ensures ne)))

pub typed_expr-returns-in_err-right-in-Or : goal.typed_expr-returns-in_err-right-in-Or
typed_expr-returns-in_err-right-in-Or t c =
    let same : c.from_residual-in_err-right-in-Or.result ≡ Err c.in_err-right-in-Or.field-0.0 = search rules in
    rw same
    (step.Or_fault1 (plain_of c.args.schema.now) c.args.vars.now c.args.asked c.in-Or.a c.in-Or.b c.in-Or.at c.args.e.now c.in_ok-left-in-Or.left c.in_err-right-in-Or.field-0.0 c.in-Or.is (cc c.in_ok-left-in-Or.ensures) (λ ne. cc (c.in_err-right-in-Or.ensures ne)))

pub typed_expr-returns-in_ok-right-in-Or : goal.typed_expr-returns-in_ok-right-in-Or
typed_expr-returns-in_ok-right-in-Or t c =
    step.Or_last (plain_of c.args.schema.now) c.args.vars.now c.args.asked c.in-Or.a c.in-Or.b c.in-Or.at c.args.e.now c.in_ok-left-in-Or.left c.in_ok-right-in-Or.right c.either.result c.in-Or.is (cc c.in_ok-left-in-Or.ensures) (cc c.in_ok-right-in-Or.ensures) c.either.ensures

pub typed_expr-returns-in_err-test-in-IfE : goal.typed_expr-returns-in_err-test-in-IfE
typed_expr-returns-in_err-test-in-IfE t c =
    let same : c.from_residual-in_err-test-in-IfE.result ≡ Err c.in_err-test-in-IfE.field-0.0 = search rules in
    rw same
    (step.IfE_fault0 (plain_of c.args.schema.now) c.args.vars.now c.args.asked c.in-IfE.c c.in-IfE.a c.in-IfE.b c.in-IfE.at c.args.e.now c.in_err-test-in-IfE.field-0.0 c.in-IfE.is (λ ne. cc (c.in_err-test-in-IfE.ensures ne)))

pub typed_expr-returns-in_err-one-in-IfE : goal.typed_expr-returns-in_err-one-in-IfE
typed_expr-returns-in_err-one-in-IfE t c =
    let same : c.from_residual-in_err-one-in-IfE.result ≡ Err c.in_err-one-in-IfE.field-0.0 = search rules in
    rw same
    (step.IfE_fault1 (plain_of c.args.schema.now) c.args.vars.now c.args.asked c.in-IfE.c c.in-IfE.a c.in-IfE.b c.in-IfE.at c.args.e.now c.in_ok-test-in-IfE.test c.in_err-one-in-IfE.field-0.0 c.in-IfE.is (cc c.in_ok-test-in-IfE.ensures) (λ ne. cc (c.in_err-one-in-IfE.ensures ne)))

pub typed_expr-returns-in_err-other-in-IfE : goal.typed_expr-returns-in_err-other-in-IfE
typed_expr-returns-in_err-other-in-IfE t c =
    let same : c.from_residual-in_err-other-in-IfE.result ≡ Err c.in_err-other-in-IfE.field-0.0 = search rules in
    rw same
    (step.IfE_fault2 (plain_of c.args.schema.now) c.args.vars.now c.args.asked c.in-IfE.c c.in-IfE.a c.in-IfE.b c.in-IfE.at c.args.e.now c.in_ok-test-in-IfE.test c.in_ok-one-in-IfE.one c.in_err-other-in-IfE.field-0.0 c.in-IfE.is (cc c.in_ok-test-in-IfE.ensures) (cc c.in_ok-one-in-IfE.ensures) (λ ne. cc (c.in_err-other-in-IfE.ensures ne)))

pub typed_expr-returns-in_ok-other-in-IfE : goal.typed_expr-returns-in_ok-other-in-IfE
typed_expr-returns-in_ok-other-in-IfE t c =
    step.IfE_last (plain_of c.args.schema.now) c.args.vars.now c.args.asked c.in-IfE.c c.in-IfE.a c.in-IfE.b c.in-IfE.at c.args.e.now c.in_ok-test-in-IfE.test c.in_ok-one-in-IfE.one c.in_ok-other-in-IfE.other c.choice.result c.in-IfE.is (cc c.in_ok-test-in-IfE.ensures) (cc c.in_ok-one-in-IfE.ensures) (cc c.in_ok-other-in-IfE.ensures) c.choice.ensures

pub typed_expr-returns-in_err-of-in-MatchE : goal.typed_expr-returns-in_err-of-in-MatchE
typed_expr-returns-in_err-of-in-MatchE t c =
    let same : c.from_residual-in_err-of-in-MatchE.result ≡ Err c.in_err-of-in-MatchE.field-0.0 = search rules in
    rw same
    (step.MatchE_fault0 (plain_of c.args.schema.now) c.args.vars.now c.args.asked c.in-MatchE.e c.in-MatchE.a c.get-in-MatchE.result.now.0 c.get-in-MatchE.result.now.1 c.in-MatchE.at c.args.e.now c.in_err-of-in-MatchE.field-0.0 (c.in-MatchE.is ∙ ap (λ z. e.MatchE c.in-MatchE.at c.in-MatchE.e c.in-MatchE.a z) (sym c.get-in-MatchE.ensures)) (λ ne. cc (c.in_err-of-in-MatchE.ensures ne)))

pub typed_expr-returns-in_err-inside-in-MatchE : goal.typed_expr-returns-in_err-inside-in-MatchE
typed_expr-returns-in_err-inside-in-MatchE t c =
    let same : c.from_residual-in_err-inside-in-MatchE.result ≡ Err c.in_err-inside-in-MatchE.field-0.0 = search rules in
    rw same
    (step.MatchE_fault1 (plain_of c.args.schema.now) c.args.vars.now c.args.asked c.in-MatchE.e c.in-MatchE.a c.get-in-MatchE.result.now.0 c.get-in-MatchE.result.now.1 c.in-MatchE.at c.args.e.now c.in_ok-of-in-MatchE.of c.in_err-inside-in-MatchE.field-0.0 (c.in-MatchE.is ∙ ap (λ z. e.MatchE c.in-MatchE.at c.in-MatchE.e c.in-MatchE.a z) (sym c.get-in-MatchE.ensures)) (cc c.in_ok-of-in-MatchE.ensures) (λ ne. cc c.in_err-inside-in-MatchE.ensures))

pub typed_expr-returns-in_err-none-in-MatchE : goal.typed_expr-returns-in_err-none-in-MatchE
typed_expr-returns-in_err-none-in-MatchE t c =
    let same : c.from_residual-in_err-none-in-MatchE.result ≡ Err c.in_err-none-in-MatchE.field-0.0 = search rules in
    rw same
    (step.MatchE_fault2 (plain_of c.args.schema.now) c.args.vars.now c.args.asked c.in-MatchE.e c.in-MatchE.a c.get-in-MatchE.result.now.0 c.get-in-MatchE.result.now.1 c.in-MatchE.at c.args.e.now c.in_ok-of-in-MatchE.of c.in_ok-inside-in-MatchE.inside c.in_err-none-in-MatchE.field-0.0 (c.in-MatchE.is ∙ ap (λ z. e.MatchE c.in-MatchE.at c.in-MatchE.e c.in-MatchE.a z) (sym c.get-in-MatchE.ensures)) (cc c.in_ok-of-in-MatchE.ensures) (cc c.in_ok-inside-in-MatchE.ensures) (λ ne. cc (c.in_err-none-in-MatchE.ensures ne)))

pub typed_expr-returns-in_err-inner-in-MatchE : goal.typed_expr-returns-in_err-inner-in-MatchE
typed_expr-returns-in_err-inner-in-MatchE t c =
    let same : c.from_residual-in_err-inner-in-MatchE.result ≡ Err c.in_err-inner-in-MatchE.field-0.0 = search rules in
    rw same
    (step.MatchE_fault3 (plain_of c.args.schema.now) c.args.vars.now c.args.asked c.in-MatchE.e c.in-MatchE.a c.get-in-MatchE.result.now.0 c.get-in-MatchE.result.now.1 c.in-MatchE.at c.args.e.now c.in_ok-of-in-MatchE.of c.in_ok-inside-in-MatchE.inside c.in_ok-none-in-MatchE.none c.in_err-inner-in-MatchE.field-0.0 (c.in-MatchE.is ∙ ap (λ z. e.MatchE c.in-MatchE.at c.in-MatchE.e c.in-MatchE.a z) (sym c.get-in-MatchE.ensures)) (cc c.in_ok-of-in-MatchE.ensures) (cc c.in_ok-inside-in-MatchE.ensures) (cc c.in_ok-none-in-MatchE.ensures) (λ ne. cc (c.in_err-inner-in-MatchE.ensures ne)))

pub typed_expr-returns-in_err-some-in-MatchE : goal.typed_expr-returns-in_err-some-in-MatchE
typed_expr-returns-in_err-some-in-MatchE t c =
    let same : c.from_residual-in_err-some-in-MatchE.result ≡ Err c.in_err-some-in-MatchE.field-0.0 = search rules in
    rw same
    (step.MatchE_fault4 (plain_of c.args.schema.now) c.args.vars.now c.args.asked c.in-MatchE.e c.in-MatchE.a c.get-in-MatchE.result.now.0 c.get-in-MatchE.result.now.1 c.in-MatchE.at c.args.e.now c.in_ok-of-in-MatchE.of c.in_ok-inside-in-MatchE.inside c.in_ok-none-in-MatchE.none c.in_ok-inner-in-MatchE.inner c.in_err-some-in-MatchE.field-0.0 (c.in-MatchE.is ∙ ap (λ z. e.MatchE c.in-MatchE.at c.in-MatchE.e c.in-MatchE.a z) (sym c.get-in-MatchE.ensures)) (cc c.in_ok-of-in-MatchE.ensures) (cc c.in_ok-inside-in-MatchE.ensures) (cc c.in_ok-none-in-MatchE.ensures) (cc c.in_ok-inner-in-MatchE.ensures) (λ ne. cc (c.in_err-some-in-MatchE.ensures ne)))

pub typed_expr-returns-in_ok-some-in-MatchE : goal.typed_expr-returns-in_ok-some-in-MatchE
typed_expr-returns-in_ok-some-in-MatchE t c =
    step.MatchE_last (plain_of c.args.schema.now) c.args.vars.now c.args.asked c.in-MatchE.e c.in-MatchE.a c.get-in-MatchE.result.now.0 c.get-in-MatchE.result.now.1 c.in-MatchE.at c.args.e.now c.in_ok-of-in-MatchE.of c.in_ok-inside-in-MatchE.inside c.in_ok-none-in-MatchE.none c.in_ok-inner-in-MatchE.inner c.in_ok-some-in-MatchE.some c.cases.result (c.in-MatchE.is ∙ ap (λ z. e.MatchE c.in-MatchE.at c.in-MatchE.e c.in-MatchE.a z) (sym c.get-in-MatchE.ensures)) (cc c.in_ok-of-in-MatchE.ensures) (cc c.in_ok-inside-in-MatchE.ensures) (cc c.in_ok-none-in-MatchE.ensures) (cc c.in_ok-inner-in-MatchE.ensures) (cc c.in_ok-some-in-MatchE.ensures) c.cases.ensures

pub typed_set-returns-in-Everyone : goal.typed_set-returns-in-Everyone
typed_set-returns-in-Everyone t c =
    set_step.SetEveryone_last (plain_of c.args.schema.now) c.args.vars.now c.args.content c.in-Everyone.word c.in-Everyone.field-0 c.args.set.now c.everyone.result c.in-Everyone.is c.everyone.ensures

pub typed_set-returns-in-Nobody : goal.typed_set-returns-in-Nobody
typed_set-returns-in-Nobody t c =
    set_step.SetNobody_last (plain_of c.args.schema.now) c.args.vars.now c.args.content c.in-Nobody.field-0 c.args.set.now c.boxed.result c.in-Nobody.is c.boxed.ensures

pub typed_set-returns-in_err-items-in-List : goal.typed_set-returns-in_err-items-in-List
typed_set-returns-in_err-items-in-List t c =
    let same : c.from_residual.result ≡ Err c.in_err-items-in-List.field-0.0 = search rules in
    rw same
    (set_step.SetList_fault0 (plain_of c.args.schema.now) c.args.vars.now c.args.content c.in-List.items c.in-List.field-0 c.args.set.now c.in_err-items-in-List.field-0.0 c.in-List.is (λ ne. cc (c.in_err-items-in-List.ensures ne)))

pub typed_set-returns-in_ok-items-in-List : goal.typed_set-returns-in_ok-items-in-List
typed_set-returns-in_ok-items-in-List t c =
    set_step.SetList_last (plain_of c.args.schema.now) c.args.vars.now c.args.content c.in-List.items c.in-List.field-0 c.args.set.now c.in_ok-items-in-List.items c.boxed-in-List.result c.in-List.is (cc c.in_ok-items-in-List.ensures) c.boxed-in-List.ensures

pub typed_set-returns-in_err-left-in-Sum : goal.typed_set-returns-in_err-left-in-Sum
typed_set-returns-in_err-left-in-Sum t c =
    let same : c.from_residual-in_err-left-in-Sum.result ≡ Err c.in_err-left-in-Sum.field-0.0 = search rules in
    rw same
    (set_step.SetSum_fault0 (plain_of c.args.schema.now) c.args.vars.now c.args.content c.in-Sum.a c.in-Sum.b c.in-Sum.field-0 c.args.set.now c.in_err-left-in-Sum.field-0.0 c.in-Sum.is (λ ne. cc (c.in_err-left-in-Sum.ensures ne)))

pub typed_set-returns-in_err-right-in-Sum : goal.typed_set-returns-in_err-right-in-Sum
typed_set-returns-in_err-right-in-Sum t c =
    let same : c.from_residual-in_err-right-in-Sum.result ≡ Err c.in_err-right-in-Sum.field-0.0 = search rules in
    rw same
    (set_step.SetSum_fault1 (plain_of c.args.schema.now) c.args.vars.now c.args.content c.in-Sum.a c.in-Sum.b c.in-Sum.field-0 c.args.set.now c.in_ok-left-in-Sum.left c.in_err-right-in-Sum.field-0.0 c.in-Sum.is (cc c.in_ok-left-in-Sum.ensures) (λ ne. cc (c.in_err-right-in-Sum.ensures ne)))

pub typed_set-returns-in_ok-right-in-Sum : goal.typed_set-returns-in_ok-right-in-Sum
typed_set-returns-in_ok-right-in-Sum t c =
    set_step.SetSum_last (plain_of c.args.schema.now) c.args.vars.now c.args.content c.in-Sum.a c.in-Sum.b c.in-Sum.field-0 c.args.set.now c.in_ok-left-in-Sum.left c.in_ok-right-in-Sum.right c.boxed-in-Sum.result c.in-Sum.is (cc c.in_ok-left-in-Sum.ensures) (cc c.in_ok-right-in-Sum.ensures) c.boxed-in-Sum.ensures

pub typed_set-returns-in_err-left-in-Less : goal.typed_set-returns-in_err-left-in-Less
typed_set-returns-in_err-left-in-Less t c =
    let same : c.from_residual-in_err-left-in-Less.result ≡ Err c.in_err-left-in-Less.field-0.0 = search rules in
    rw same
    (set_step.SetLess_fault0 (plain_of c.args.schema.now) c.args.vars.now c.args.content c.in-Less.a c.in-Less.b c.in-Less.field-0 c.args.set.now c.in_err-left-in-Less.field-0.0 c.in-Less.is (λ ne. cc (c.in_err-left-in-Less.ensures ne)))

pub typed_set-returns-in_err-right-in-Less : goal.typed_set-returns-in_err-right-in-Less
typed_set-returns-in_err-right-in-Less t c =
    let same : c.from_residual-in_err-right-in-Less.result ≡ Err c.in_err-right-in-Less.field-0.0 = search rules in
    rw same
    (set_step.SetLess_fault1 (plain_of c.args.schema.now) c.args.vars.now c.args.content c.in-Less.a c.in-Less.b c.in-Less.field-0 c.args.set.now c.in_ok-left-in-Less.left c.in_err-right-in-Less.field-0.0 c.in-Less.is (cc c.in_ok-left-in-Less.ensures) (λ ne. cc (c.in_err-right-in-Less.ensures ne)))

pub typed_set-returns-in_ok-right-in-Less : goal.typed_set-returns-in_ok-right-in-Less
typed_set-returns-in_ok-right-in-Less t c =
    set_step.SetLess_last (plain_of c.args.schema.now) c.args.vars.now c.args.content c.in-Less.a c.in-Less.b c.in-Less.field-0 c.args.set.now c.in_ok-left-in-Less.left c.in_ok-right-in-Less.right c.boxed-in-Less.result c.in-Less.is (cc c.in_ok-left-in-Less.ensures) (cc c.in_ok-right-in-Less.ensures) c.boxed-in-Less.ensures

pub typed_set-returns-in_err-of-in-Find : goal.typed_set-returns-in_err-of-in-Find
typed_set-returns-in_err-of-in-Find t c =
    let same : c.from_residual-in_err-of-in-Find.result ≡ Err c.in_err-of-in-Find.field-0.0 = search rules in
    rw same
    (set_step.SetFind_fault0 (plain_of c.args.schema.now) c.args.vars.now c.args.content c.in-Find.field-1 c.in-Find.field-2 c.in-Find.field-0 c.args.set.now c.in_err-of-in-Find.field-0.0 c.in-Find.is (λ ne. cc (c.in_err-of-in-Find.ensures ne)))

pub typed_set-returns-in_ok-of-in-Find : goal.typed_set-returns-in_ok-of-in-Find
typed_set-returns-in_ok-of-in-Find t c =
    set_step.SetFind_last (plain_of c.args.schema.now) c.args.vars.now c.args.content c.in-Find.field-1 c.in-Find.field-2 c.in-Find.field-0 c.args.set.now c.in_ok-of-in-Find.of c.chain.result c.in-Find.is (cc c.in_ok-of-in-Find.ensures) (step.is_given _ _ c.chain.ensures)

pub typed_set-returns-in_err-of-in-Path : goal.typed_set-returns-in_err-of-in-Path
typed_set-returns-in_err-of-in-Path t c =
    let same : c.from_residual-in_err-of-in-Path.result ≡ Err c.in_err-of-in-Path.field-0.0 = search rules in
    rw same
    (set_step.SetPath_fault0 (plain_of c.args.schema.now) c.args.vars.now c.args.content c.in-Path.field-1 c.in-Path.field-0 c.args.set.now c.in_err-of-in-Path.field-0.0 c.in-Path.is (λ ne. cc (c.in_err-of-in-Path.ensures ne)))

pub typed_set-returns-in_ok-of-in-Path : goal.typed_set-returns-in_ok-of-in-Path
typed_set-returns-in_ok-of-in-Path t c =
    set_step.SetPath_last (plain_of c.args.schema.now) c.args.vars.now c.args.content c.in-Path.field-1 c.in-Path.field-0 c.args.set.now c.in_ok-of-in-Path.of c.chain-in-Path.result c.in-Path.is (cc c.in_ok-of-in-Path.ensures) (step.is_given _ _ c.chain-in-Path.ensures)

pub typed_set-returns-in_err-of-in-MapS : goal.typed_set-returns-in_err-of-in-MapS
typed_set-returns-in_err-of-in-MapS t c =
    let same : c.from_residual-in_err-of-in-MapS.result ≡ Err c.in_err-of-in-MapS.field-0.0 = search rules in
    rw same
    (set_step.SetMapS_fault0 (plain_of c.args.schema.now) c.args.vars.now c.args.content c.in-MapS.field-1 c.in-MapS.field-2 c.in-MapS.field-3 c.in-MapS.field-0 c.args.set.now c.in_err-of-in-MapS.field-0.0 c.in-MapS.is (λ ne. cc (c.in_err-of-in-MapS.ensures ne)))

pub typed_set-returns-in_ok-of-in-MapS : goal.typed_set-returns-in_ok-of-in-MapS
typed_set-returns-in_ok-of-in-MapS t c =
    set_step.SetMapS_last (plain_of c.args.schema.now) c.args.vars.now c.args.content c.in-MapS.field-1 c.in-MapS.field-2 c.in-MapS.field-3 c.in-MapS.field-0 c.args.set.now c.in_ok-of-in-MapS.of c.chain-in-MapS.result c.in-MapS.is (cc c.in_ok-of-in-MapS.ensures) (step.is_given _ _ c.chain-in-MapS.ensures)

pub typed_set-returns-in_err-over-in-FlatS : goal.typed_set-returns-in_err-over-in-FlatS
typed_set-returns-in_err-over-in-FlatS t c =
    let same : c.from_residual-in_err-over-in-FlatS.result ≡ Err c.in_err-over-in-FlatS.field-0.0 = search rules in
    rw same
    (set_step.SetFlatS_fault0 (plain_of c.args.schema.now) c.args.vars.now c.args.content c.in-FlatS.of c.in-FlatS.x c.in-FlatS.each c.in-FlatS.field-0 c.args.set.now c.in_err-over-in-FlatS.field-0.0 c.in-FlatS.is (λ ne. cc (c.in_err-over-in-FlatS.ensures ne)))

pub typed_set-returns-in_err-inner-in-FlatS : goal.typed_set-returns-in_err-inner-in-FlatS
typed_set-returns-in_err-inner-in-FlatS t c =
    let same : c.from_residual-in_err-inner-in-FlatS.result ≡ Err c.in_err-inner-in-FlatS.field-0.0 = search rules in
    rw same
    (set_step.SetFlatS_fault1 (plain_of c.args.schema.now) c.args.vars.now c.args.content c.in-FlatS.of c.get-x.result.now c.in-FlatS.each c.in-FlatS.field-0 c.args.set.now c.in_ok-over-in-FlatS.over c.in_err-inner-in-FlatS.field-0.0 (c.in-FlatS.is ∙ ap (λ z. se.FlatS c.in-FlatS.field-0 c.in-FlatS.of z c.in-FlatS.each) (sym c.get-x.ensures)) (cc c.in_ok-over-in-FlatS.ensures) (λ ne. cc (c.in_err-inner-in-FlatS.ensures ne)))

pub typed_set-returns-in_err-each-in-FlatS : goal.typed_set-returns-in_err-each-in-FlatS
typed_set-returns-in_err-each-in-FlatS t c =
    let same : c.from_residual-in_err-each-in-FlatS.result ≡ Err c.in_err-each-in-FlatS.field-0.0 = search rules in
    rw same
    (set_step.SetFlatS_fault2 (plain_of c.args.schema.now) c.args.vars.now c.args.content c.in-FlatS.of c.get-x.result.now c.in-FlatS.each c.in-FlatS.field-0 c.args.set.now c.in_ok-over-in-FlatS.over c.in_ok-inner-in-FlatS.inner c.in_err-each-in-FlatS.field-0.0 (c.in-FlatS.is ∙ ap (λ z. se.FlatS c.in-FlatS.field-0 c.in-FlatS.of z c.in-FlatS.each) (sym c.get-x.ensures)) (cc c.in_ok-over-in-FlatS.ensures) (cc c.in_ok-inner-in-FlatS.ensures) (λ ne. cc (c.in_err-each-in-FlatS.ensures ne)))

pub typed_set-returns-in_ok-each-in-FlatS : goal.typed_set-returns-in_ok-each-in-FlatS
typed_set-returns-in_ok-each-in-FlatS t c =
    set_step.SetFlatS_last (plain_of c.args.schema.now) c.args.vars.now c.args.content c.in-FlatS.of c.get-x.result.now c.in-FlatS.each c.in-FlatS.field-0 c.args.set.now c.in_ok-over-in-FlatS.over c.in_ok-inner-in-FlatS.inner c.in_ok-each-in-FlatS.each c.flat_mapped.result (c.in-FlatS.is ∙ ap (λ z. se.FlatS c.in-FlatS.field-0 c.in-FlatS.of z c.in-FlatS.each) (sym c.get-x.ensures)) (cc c.in_ok-over-in-FlatS.ensures) (cc c.in_ok-inner-in-FlatS.ensures) (cc c.in_ok-each-in-FlatS.ensures) c.flat_mapped.ensures

pub typed_set-returns-in_err-test-in-IfS : goal.typed_set-returns-in_err-test-in-IfS
typed_set-returns-in_err-test-in-IfS t c =
    let same : c.from_residual-in_err-test-in-IfS.result ≡ Err c.in_err-test-in-IfS.field-0.0 = search rules in
    rw same
    (set_step.SetIfS_fault0 (plain_of c.args.schema.now) c.args.vars.now c.args.content c.in-IfS.c c.in-IfS.a c.in-IfS.b c.in-IfS.field-0 c.args.set.now c.in_err-test-in-IfS.field-0.0 c.in-IfS.is (λ ne. cc (c.in_err-test-in-IfS.ensures ne)))

pub typed_set-returns-in_err-one-in-IfS : goal.typed_set-returns-in_err-one-in-IfS
typed_set-returns-in_err-one-in-IfS t c =
    let same : c.from_residual-in_err-one-in-IfS.result ≡ Err c.in_err-one-in-IfS.field-0.0 = search rules in
    rw same
    (set_step.SetIfS_fault1 (plain_of c.args.schema.now) c.args.vars.now c.args.content c.in-IfS.c c.in-IfS.a c.in-IfS.b c.in-IfS.field-0 c.args.set.now c.in_ok-test-in-IfS.test c.in_err-one-in-IfS.field-0.0 c.in-IfS.is (cc c.in_ok-test-in-IfS.ensures) (λ ne. cc (c.in_err-one-in-IfS.ensures ne)))

pub typed_set-returns-in_err-other-in-IfS : goal.typed_set-returns-in_err-other-in-IfS
typed_set-returns-in_err-other-in-IfS t c =
    let same : c.from_residual-in_err-other-in-IfS.result ≡ Err c.in_err-other-in-IfS.field-0.0 = search rules in
    rw same
    (set_step.SetIfS_fault2 (plain_of c.args.schema.now) c.args.vars.now c.args.content c.in-IfS.c c.in-IfS.a c.in-IfS.b c.in-IfS.field-0 c.args.set.now c.in_ok-test-in-IfS.test c.in_ok-one-in-IfS.one c.in_err-other-in-IfS.field-0.0 c.in-IfS.is (cc c.in_ok-test-in-IfS.ensures) (cc c.in_ok-one-in-IfS.ensures) (λ ne. cc (c.in_err-other-in-IfS.ensures ne)))

pub typed_set-returns-in_ok-other-in-IfS : goal.typed_set-returns-in_ok-other-in-IfS
typed_set-returns-in_ok-other-in-IfS t c =
    set_step.SetIfS_last (plain_of c.args.schema.now) c.args.vars.now c.args.content c.in-IfS.c c.in-IfS.a c.in-IfS.b c.in-IfS.field-0 c.args.set.now c.in_ok-test-in-IfS.test c.in_ok-one-in-IfS.one c.in_ok-other-in-IfS.other c.choice_of_sets.result c.in-IfS.is (cc c.in_ok-test-in-IfS.ensures) (cc c.in_ok-one-in-IfS.ensures) (cc c.in_ok-other-in-IfS.ensures) c.choice_of_sets.ensures

pub typed_set-returns-in_err-of-in-MatchS : goal.typed_set-returns-in_err-of-in-MatchS
typed_set-returns-in_err-of-in-MatchS t c =
    let same : c.from_residual-in_err-of-in-MatchS.result ≡ Err c.in_err-of-in-MatchS.field-0.0 = search rules in
    rw same
    (set_step.SetMatchS_fault0 (plain_of c.args.schema.now) c.args.vars.now c.args.content c.in-MatchS.e c.in-MatchS.a c.get-x-in-MatchS.result.now c.in-MatchS.b c.in-MatchS.field-0 c.args.set.now c.in_err-of-in-MatchS.field-0.0 (c.in-MatchS.is ∙ ap (λ z. se.MatchS c.in-MatchS.field-0 c.in-MatchS.e c.in-MatchS.a z c.in-MatchS.b) (sym c.get-x-in-MatchS.ensures)) (λ ne. cc (c.in_err-of-in-MatchS.ensures ne)))

pub typed_set-returns-in_err-inside-in-MatchS : goal.typed_set-returns-in_err-inside-in-MatchS
typed_set-returns-in_err-inside-in-MatchS t c =
    let same : c.from_residual-in_err-inside-in-MatchS.result ≡ Err c.in_err-inside-in-MatchS.field-0.0 = search rules in
    rw same
    (set_step.SetMatchS_fault1 (plain_of c.args.schema.now) c.args.vars.now c.args.content c.in-MatchS.e c.in-MatchS.a c.get-x-in-MatchS.result.now c.in-MatchS.b c.in-MatchS.field-0 c.args.set.now c.in_ok-of-in-MatchS.of c.in_err-inside-in-MatchS.field-0.0 (c.in-MatchS.is ∙ ap (λ z. se.MatchS c.in-MatchS.field-0 c.in-MatchS.e c.in-MatchS.a z c.in-MatchS.b) (sym c.get-x-in-MatchS.ensures)) (cc c.in_ok-of-in-MatchS.ensures) (λ ne. cc c.in_err-inside-in-MatchS.ensures))

pub typed_set-returns-in_err-none-in-MatchS : goal.typed_set-returns-in_err-none-in-MatchS
typed_set-returns-in_err-none-in-MatchS t c =
    let same : c.from_residual-in_err-none-in-MatchS.result ≡ Err c.in_err-none-in-MatchS.field-0.0 = search rules in
    rw same
    (set_step.SetMatchS_fault2 (plain_of c.args.schema.now) c.args.vars.now c.args.content c.in-MatchS.e c.in-MatchS.a c.get-x-in-MatchS.result.now c.in-MatchS.b c.in-MatchS.field-0 c.args.set.now c.in_ok-of-in-MatchS.of c.in_ok-inside-in-MatchS.inside c.in_err-none-in-MatchS.field-0.0 (c.in-MatchS.is ∙ ap (λ z. se.MatchS c.in-MatchS.field-0 c.in-MatchS.e c.in-MatchS.a z c.in-MatchS.b) (sym c.get-x-in-MatchS.ensures)) (cc c.in_ok-of-in-MatchS.ensures) (cc c.in_ok-inside-in-MatchS.ensures) (λ ne. cc (c.in_err-none-in-MatchS.ensures ne)))

pub typed_set-returns-in_err-inner-in-MatchS : goal.typed_set-returns-in_err-inner-in-MatchS
typed_set-returns-in_err-inner-in-MatchS t c =
    let same : c.from_residual-in_err-inner-in-MatchS.result ≡ Err c.in_err-inner-in-MatchS.field-0.0 = search rules in
    rw same
    (set_step.SetMatchS_fault3 (plain_of c.args.schema.now) c.args.vars.now c.args.content c.in-MatchS.e c.in-MatchS.a c.get-x-in-MatchS.result.now c.in-MatchS.b c.in-MatchS.field-0 c.args.set.now c.in_ok-of-in-MatchS.of c.in_ok-inside-in-MatchS.inside c.in_ok-none-in-MatchS.none c.in_err-inner-in-MatchS.field-0.0 (c.in-MatchS.is ∙ ap (λ z. se.MatchS c.in-MatchS.field-0 c.in-MatchS.e c.in-MatchS.a z c.in-MatchS.b) (sym c.get-x-in-MatchS.ensures)) (cc c.in_ok-of-in-MatchS.ensures) (cc c.in_ok-inside-in-MatchS.ensures) (cc c.in_ok-none-in-MatchS.ensures) (λ ne. cc (c.in_err-inner-in-MatchS.ensures ne)))

pub typed_set-returns-in_err-some-in-MatchS : goal.typed_set-returns-in_err-some-in-MatchS
typed_set-returns-in_err-some-in-MatchS t c =
    let same : c.from_residual-in_err-some-in-MatchS.result ≡ Err c.in_err-some-in-MatchS.field-0.0 = search rules in
    rw same
    (set_step.SetMatchS_fault4 (plain_of c.args.schema.now) c.args.vars.now c.args.content c.in-MatchS.e c.in-MatchS.a c.get-x-in-MatchS.result.now c.in-MatchS.b c.in-MatchS.field-0 c.args.set.now c.in_ok-of-in-MatchS.of c.in_ok-inside-in-MatchS.inside c.in_ok-none-in-MatchS.none c.in_ok-inner-in-MatchS.inner c.in_err-some-in-MatchS.field-0.0 (c.in-MatchS.is ∙ ap (λ z. se.MatchS c.in-MatchS.field-0 c.in-MatchS.e c.in-MatchS.a z c.in-MatchS.b) (sym c.get-x-in-MatchS.ensures)) (cc c.in_ok-of-in-MatchS.ensures) (cc c.in_ok-inside-in-MatchS.ensures) (cc c.in_ok-none-in-MatchS.ensures) (cc c.in_ok-inner-in-MatchS.ensures) (λ ne. cc (c.in_err-some-in-MatchS.ensures ne)))

pub typed_set-returns-in_ok-some-in-MatchS : goal.typed_set-returns-in_ok-some-in-MatchS
typed_set-returns-in_ok-some-in-MatchS t c =
    set_step.SetMatchS_last (plain_of c.args.schema.now) c.args.vars.now c.args.content c.in-MatchS.e c.in-MatchS.a c.get-x-in-MatchS.result.now c.in-MatchS.b c.in-MatchS.field-0 c.args.set.now c.in_ok-of-in-MatchS.of c.in_ok-inside-in-MatchS.inside c.in_ok-none-in-MatchS.none c.in_ok-inner-in-MatchS.inner c.in_ok-some-in-MatchS.some c.set_cases.result (c.in-MatchS.is ∙ ap (λ z. se.MatchS c.in-MatchS.field-0 c.in-MatchS.e c.in-MatchS.a z c.in-MatchS.b) (sym c.get-x-in-MatchS.ensures)) (cc c.in_ok-of-in-MatchS.ensures) (cc c.in_ok-inside-in-MatchS.ensures) (cc c.in_ok-none-in-MatchS.ensures) (cc c.in_ok-inner-in-MatchS.ensures) (cc c.in_ok-some-in-MatchS.ensures) c.set_cases.ensures

pub typed_source-returns-in_err-number-in-Find : goal.typed_source-returns-in_err-number-in-Find
typed_source-returns-in_err-number-in-Find t c =
    let same : c.from_residual.result ≡ Err c.in_err-number-in-Find.field-0.0 = search rules in
    rw same
    (set_step.SourceFind_fault0 (plain_of c.args.schema.now) c.args.vars.now c.get-model.result.now c.in-Find.filters c.in-Find.field-0 c.args.set.now c.in_err-number-in-Find.field-0.0 (c.in-Find.is ∙ ap (λ z. se.Find c.in-Find.field-0 z c.in-Find.filters) (sym c.get-model.ensures)) (λ ne. cc c.in_err-number-in-Find.ensures))

pub typed_source-returns-in_err-filters-in-Find : goal.typed_source-returns-in_err-filters-in-Find
typed_source-returns-in_err-filters-in-Find t c =
    let same : c.from_residual-in_err-filters-in-Find.result ≡ Err c.in_err-filters-in-Find.field-0.0 = search rules in
    rw same
    (set_step.SourceFind_fault1 (plain_of c.args.schema.now) c.args.vars.now c.get-model.result.now c.in-Find.filters c.in-Find.field-0 c.args.set.now c.in_ok-number-in-Find.number c.in_err-filters-in-Find.field-0.0 (c.in-Find.is ∙ ap (λ z. se.Find c.in-Find.field-0 z c.in-Find.filters) (sym c.get-model.ensures)) (cc c.in_ok-number-in-Find.ensures) (λ ne. cc (c.in_err-filters-in-Find.ensures ne)))

pub typed_source-returns-in_ok-filters-in-Find : goal.typed_source-returns-in_ok-filters-in-Find
typed_source-returns-in_ok-filters-in-Find t c =
    set_step.SourceFind_last (plain_of c.args.schema.now) c.args.vars.now c.get-model.result.now c.in-Find.filters c.in-Find.field-0 c.args.set.now c.in_ok-number-in-Find.number c.in_ok-filters-in-Find.filters c.found.result (c.in-Find.is ∙ ap (λ z. se.Find c.in-Find.field-0 z c.in-Find.filters) (sym c.get-model.ensures)) (cc c.in_ok-number-in-Find.ensures) (cc c.in_ok-filters-in-Find.ensures) c.found.ensures

pub typed_source-returns-in_err-of-in-Path : goal.typed_source-returns-in_err-of-in-Path
typed_source-returns-in_err-of-in-Path t c =
    let same : c.from_residual-in_err-of-in-Path.result ≡ Err c.in_err-of-in-Path.field-0.0 = search rules in
    rw same
    (set_step.SourcePath_fault0 (plain_of c.args.schema.now) c.args.vars.now c.in-Path.e c.in-Path.field-0 c.args.set.now c.in_err-of-in-Path.field-0.0 c.in-Path.is (λ ne. cc (c.in_err-of-in-Path.ensures ne)))

pub typed_source-returns-in_ok-of-in-Path : goal.typed_source-returns-in_ok-of-in-Path
typed_source-returns-in_ok-of-in-Path t c =
    set_step.SourcePath_last (plain_of c.args.schema.now) c.args.vars.now c.in-Path.e c.in-Path.field-0 c.args.set.now c.in_ok-of-in-Path.of c.path.result c.in-Path.is (cc c.in_ok-of-in-Path.ensures) c.path.ensures

pub typed_source-returns-in_err-over-in-MapS : goal.typed_source-returns-in_err-over-in-MapS
typed_source-returns-in_err-over-in-MapS t c =
    let same : c.from_residual-in_err-over-in-MapS.result ≡ Err c.in_err-over-in-MapS.field-0.0 = search rules in
    rw same
    (set_step.SourceMapS_fault0 (plain_of c.args.schema.now) c.args.vars.now c.in-MapS.of c.in-MapS.x c.in-MapS.e c.in-MapS.field-0 c.args.set.now c.in_err-over-in-MapS.field-0.0 c.in-MapS.is (λ ne. cc (c.in_err-over-in-MapS.ensures ne)))

pub typed_source-returns-in_err-inner-in-MapS : goal.typed_source-returns-in_err-inner-in-MapS
typed_source-returns-in_err-inner-in-MapS t c =
    let same : c.from_residual-in_err-inner-in-MapS.result ≡ Err c.in_err-inner-in-MapS.field-0.0 = search rules in
    rw same
    (set_step.SourceMapS_fault1 (plain_of c.args.schema.now) c.args.vars.now c.in-MapS.of c.get-x.result.now c.in-MapS.e c.in-MapS.field-0 c.args.set.now c.in_ok-over-in-MapS.over c.in_err-inner-in-MapS.field-0.0 (c.in-MapS.is ∙ ap (λ z. se.MapS c.in-MapS.field-0 c.in-MapS.of z c.in-MapS.e) (sym c.get-x.ensures)) (cc c.in_ok-over-in-MapS.ensures) (λ ne. cc (c.in_err-inner-in-MapS.ensures ne)))

pub typed_source-returns-in_err-each-in-MapS : goal.typed_source-returns-in_err-each-in-MapS
typed_source-returns-in_err-each-in-MapS t c =
    let same : c.from_residual-in_err-each-in-MapS.result ≡ Err c.in_err-each-in-MapS.field-0.0 = search rules in
    rw same
    (set_step.SourceMapS_fault2 (plain_of c.args.schema.now) c.args.vars.now c.in-MapS.of c.get-x.result.now c.in-MapS.e c.in-MapS.field-0 c.args.set.now c.in_ok-over-in-MapS.over c.in_ok-inner-in-MapS.inner c.in_err-each-in-MapS.field-0.0 (c.in-MapS.is ∙ ap (λ z. se.MapS c.in-MapS.field-0 c.in-MapS.of z c.in-MapS.e) (sym c.get-x.ensures)) (cc c.in_ok-over-in-MapS.ensures) (cc c.in_ok-inner-in-MapS.ensures) (λ ne. cc (c.in_err-each-in-MapS.ensures ne)))

pub typed_source-returns-in_ok-each-in-MapS : goal.typed_source-returns-in_ok-each-in-MapS
typed_source-returns-in_ok-each-in-MapS t c =
    set_step.SourceMapS_last (plain_of c.args.schema.now) c.args.vars.now c.in-MapS.of c.get-x.result.now c.in-MapS.e c.in-MapS.field-0 c.args.set.now c.in_ok-over-in-MapS.over c.in_ok-inner-in-MapS.inner c.in_ok-each-in-MapS.each c.mapped.result (c.in-MapS.is ∙ ap (λ z. se.MapS c.in-MapS.field-0 c.in-MapS.of z c.in-MapS.e) (sym c.get-x.ensures)) (cc c.in_ok-over-in-MapS.ensures) (cc c.in_ok-inner-in-MapS.ensures) (cc c.in_ok-each-in-MapS.ensures) c.mapped.ensures

pub typed_source-returns-in-Everyone : goal.typed_source-returns-in-Everyone
typed_source-returns-in-Everyone t c =
    λ ne. ap (λ z. typed_source (plain_of c.args.schema.now) c.args.vars.now z) c.in-Everyone.is ∙ form.Everyone_no_source (plain_of c.args.schema.now) c.args.vars.now c.in-Everyone.field-1 c.in-Everyone.at

pub typed_source-returns-in-Nobody : goal.typed_source-returns-in-Nobody
typed_source-returns-in-Nobody t c =
    λ ne. ap (λ z. typed_source (plain_of c.args.schema.now) c.args.vars.now z) c.in-Nobody.is ∙ form.Nobody_no_source (plain_of c.args.schema.now) c.args.vars.now c.in-Nobody.at

pub typed_source-returns-in-List : goal.typed_source-returns-in-List
typed_source-returns-in-List t c =
    λ ne. ap (λ z. typed_source (plain_of c.args.schema.now) c.args.vars.now z) c.in-List.is ∙ form.List_no_source (plain_of c.args.schema.now) c.args.vars.now c.in-List.field-1 c.in-List.at

pub typed_source-returns-in-Sum : goal.typed_source-returns-in-Sum
typed_source-returns-in-Sum t c =
    λ ne. ap (λ z. typed_source (plain_of c.args.schema.now) c.args.vars.now z) c.in-Sum.is ∙ form.Sum_no_source (plain_of c.args.schema.now) c.args.vars.now c.in-Sum.field-1 c.in-Sum.field-2 c.in-Sum.at

pub typed_source-returns-in-Less : goal.typed_source-returns-in-Less
typed_source-returns-in-Less t c =
    λ ne. ap (λ z. typed_source (plain_of c.args.schema.now) c.args.vars.now z) c.in-Less.is ∙ form.Less_no_source (plain_of c.args.schema.now) c.args.vars.now c.in-Less.field-1 c.in-Less.field-2 c.in-Less.at

pub typed_source-returns-in-FlatS : goal.typed_source-returns-in-FlatS
typed_source-returns-in-FlatS t c =
    λ ne. ap (λ z. typed_source (plain_of c.args.schema.now) c.args.vars.now z) c.in-FlatS.is ∙ form.FlatS_no_source (plain_of c.args.schema.now) c.args.vars.now c.in-FlatS.field-1 c.in-FlatS.field-2 c.in-FlatS.field-3 c.in-FlatS.at

pub typed_source-returns-in-IfS : goal.typed_source-returns-in-IfS
typed_source-returns-in-IfS t c =
    λ ne. ap (λ z. typed_source (plain_of c.args.schema.now) c.args.vars.now z) c.in-IfS.is ∙ form.IfS_no_source (plain_of c.args.schema.now) c.args.vars.now c.in-IfS.field-1 c.in-IfS.field-2 c.in-IfS.field-3 c.in-IfS.at

pub typed_source-returns-in-MatchS : goal.typed_source-returns-in-MatchS
typed_source-returns-in-MatchS t c =
    λ ne. ap (λ z. typed_source (plain_of c.args.schema.now) c.args.vars.now z) c.in-MatchS.is ∙ form.MatchS_no_source (plain_of c.args.schema.now) c.args.vars.now c.in-MatchS.field-1 c.in-MatchS.field-2 c.in-MatchS.field-3 c.in-MatchS.field-4 c.in-MatchS.at

pub typed_item-returns-in_err-of-in-One : goal.typed_item-returns-in_err-of-in-One
typed_item-returns-in_err-of-in-One t c =
    let same : c.from_residual.result ≡ Err c.in_err-of-in-One.field-0.0 = search rules in
    rw same
    (set_step.ItemOne_fault0 (plain_of c.args.schema.now) c.args.vars.now c.args.content c.in-One.e c.args.item.now c.in_err-of-in-One.field-0.0 c.in-One.is (λ ne. cc (c.in_err-of-in-One.ensures ne)))

pub typed_item-returns-in_ok-of-in-One : goal.typed_item-returns-in_ok-of-in-One
typed_item-returns-in_ok-of-in-One t c =
    set_step.ItemOne_last (plain_of c.args.schema.now) c.args.vars.now c.args.content c.in-One.e c.args.item.now c.in_ok-of-in-One.of c.listed_record.result c.in-One.is (cc c.in_ok-of-in-One.ensures)
    (step.is_given _ _ c.listed_record.ensures)

pub typed_item-returns-in-Static : goal.typed_item-returns-in-Static
typed_item-returns-in-Static t c =
    set_step.ItemStatic_last (plain_of c.args.schema.now) c.args.vars.now c.args.content c.in-Static.x c.args.item.now c.listed_static.result c.in-Static.is (step.is_given _ _ c.listed_static.ensures)

pub typed_filter-returns-in_err-field : goal.typed_filter-returns-in_err-field
typed_filter-returns-in_err-field t c =
    let same : c.from_residual.result ≡ Err c.in_err-field.field-0.0 = search rules in
    rw same
    (set_step.Filter_fault0 (plain_of c.args.schema.now) c.args.vars.now c.args.model c.args.filter.now c.in_err-field.field-0.0 (λ ne. cc c.in_err-field.ensures))

pub typed_filter-returns-in_err-asked : goal.typed_filter-returns-in_err-asked
typed_filter-returns-in_err-asked t c =
    let same : c.from_residual-in_err-asked.result ≡ Err c.in_err-asked.field-0.0 = search rules in
    rw same
    (set_step.Filter_fault1 (plain_of c.args.schema.now) c.args.vars.now c.args.model c.args.filter.now (c.in_ok-field.field, c.in_ok-field.ty) c.in_err-asked.field-0.0 (cc c.in_ok-field.ensures) (λ ne. cc c.in_err-asked.ensures))

pub typed_filter-returns-in_err-value : goal.typed_filter-returns-in_err-value
typed_filter-returns-in_err-value t c =
    let same : c.from_residual-in_err-value.result ≡ Err c.in_err-value.field-0.0 = search rules in
    rw same
    (set_step.Filter_fault2 (plain_of c.args.schema.now) c.args.vars.now c.args.model c.args.filter.now (c.in_ok-field.field, c.in_ok-field.ty) c.in_ok-asked.asked c.in_err-value.field-0.0 (cc c.in_ok-field.ensures) (cc c.in_ok-asked.ensures) (λ ne. cc (c.in_err-value.ensures ne)))

pub typed_filter-returns : goal.typed_filter-returns
typed_filter-returns t c =
    let whole : typed_filter (plain_of c.args.schema.now) c.args.vars.now c.args.model c.args.filter.now ≡ Ok (tf.Test c.in_ok-field.field c.args.filter.now.op c.in_ok-value.value.tree)
    = set_step.Filter_last (plain_of c.args.schema.now) c.args.vars.now c.args.model c.args.filter.now (c.in_ok-field.field, c.in_ok-field.ty) c.in_ok-asked.asked c.in_ok-value.value (Ok (tf.Test c.in_ok-field.field c.args.filter.now.op c.in_ok-value.value.tree)) (cc c.in_ok-field.ensures) (cc c.in_ok-asked.ensures) (cc c.in_ok-value.ensures) refl in
    cc whole

pub typed_items-returns-in_err-one : goal.typed_items-returns-in_err-one
typed_items-returns-in_err-one t c =
    let same : c.from_residual.result ≡ Err c.in_err-one.field-0.0 = search rules in
    let f : Item → Checked TItem = typed_item (plain_of c.args.schema.now) c.args.vars.now c.args.content in
    let at = c.loop-item.item-index in
    let x = c.item-item.result in
    let done = c.loop-item.typed.items in
    rw same (lists.part_stops f c.args.items.now at x done _ c.in_err-one.field-0.0 (omega arith) c.item-item.is c.loop-item.invariant c.in_err-one.ensures)

pub typed_items-loop-item-preserved : goal.typed_items-loop-item-preserved
typed_items-loop-item-preserved t c =
    let f : Item → Checked TItem = typed_item (plain_of c.args.schema.now) c.args.vars.now c.args.content in
    let at = c.loop-item.item-index in
    let x = c.item-item.result in
    let done = c.loop-item.typed.items in
    let pushed : c.push.new.self.items ≡ done ++ c.in_ok-one.one ∷ [] = search rules in
    rw pushed (lists.part_goes_on f c.args.items.now at x done _ c.in_ok-one.one (omega arith) c.item-item.is c.loop-item.invariant c.in_ok-one.ensures)

pub typed_items-returns : goal.typed_items-returns
typed_items-returns t c =
    let f : Item → Checked TItem = typed_item (plain_of c.args.schema.now) c.args.vars.now c.args.content in
    let done = c.loop-item.typed.items in
    let all = sym c.loop-item.invariant ∙ lists.no_part f c.args.items.now c.loop-item.item-index done (omega arith) in
    cc all

pub typed_filters-returns-in_err-one : goal.typed_filters-returns-in_err-one
typed_filters-returns-in_err-one t c =
    let same : c.from_residual.result ≡ Err c.in_err-one.field-0.0 = search rules in
    let f : Filter → Checked TFilter = typed_filter (plain_of c.args.schema.now) c.args.vars.now c.args.model in
    let at = c.loop-filter.filter-index in
    let x = c.filter-item.result in
    let done = c.loop-filter.typed.items in
    rw same (lists.part_stops f c.args.filters.now at x done _ c.in_err-one.field-0.0 (omega arith) c.filter-item.is c.loop-filter.invariant c.in_err-one.ensures)

pub typed_filters-loop-filter-preserved : goal.typed_filters-loop-filter-preserved
typed_filters-loop-filter-preserved t c =
    let f : Filter → Checked TFilter = typed_filter (plain_of c.args.schema.now) c.args.vars.now c.args.model in
    let at = c.loop-filter.filter-index in
    let x = c.filter-item.result in
    let done = c.loop-filter.typed.items in
    let pushed : c.push.new.self.items ≡ done ++ c.in_ok-one.one ∷ [] = search rules in
    rw pushed (lists.part_goes_on f c.args.filters.now at x done _ c.in_ok-one.one (omega arith) c.filter-item.is c.loop-filter.invariant c.in_ok-one.ensures)

pub typed_filters-returns : goal.typed_filters-returns
typed_filters-returns t c =
    let f : Filter → Checked TFilter = typed_filter (plain_of c.args.schema.now) c.args.vars.now c.args.model in
    let done = c.loop-filter.typed.items in
    let all = sym c.loop-filter.invariant ∙ lists.no_part f c.args.filters.now c.loop-filter.filter-index done (omega arith) in
    cc all
