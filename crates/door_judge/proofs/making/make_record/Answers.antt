use Rattle.std.proofs.Common.{◌≡◌, ◌∙◌, refl, ap, sym}
use Rattle.std.specs.Prelude.{not}
use Rattle.data_meaning.specs.Database.{Database}
use Rattle.type_schema.specs.Views as view
use Rattle.type_schema.specs.declared.rights.Right.TheVariants as right
use Rattle.type_schema.specs.SchemaViews.{schema_of}
use Rattle.door_meaning.specs.declared.reply.Denial.TheVariants as denial
use Rattle.door_meaning.specs.Conditions.{may}
use Rattle.door_meaning.specs.Orders.{unless}
use Rattle.door_meaning.specs.Records.{is_made_by, judged_making, ready_making}
use Rattle.door_meaning.specs.Replies.{Denied}
use Rattle.door_judge.specs.Views.{making_data}
use Rattle.door_judge.proofs.Passing.{goes-err, goes-ok}
use Rattle.door_judge.proofs.Stages.{comes_stop}
use Rattle.door_judge.proofs.making.make_record.Goals as goal

pub returns-in-Ok-clause-judged : goal.returns-in-Ok-clause-judged
returns-in-Ok-clause-judged c =
    let s = schema_of c.args.s.now in
    let making = making_data c.in_ok-making.making in
    let ready = c.in_ok-making.ensures in
    let asked = unless (not (is_made_by c.args.base.now c.args.who making)) (Denied (denial.Right right.Create)) in
    let part = unless (not (may c.making_ready.new.base (view.policy_of c.deref.result.now) making.id c.args.who)) (Denied (denial.Right right.Create)) in
    let is : asked ≡ part
    = ap (λ (d : Database). unless (not (may d making.info.create making.id c.args.who)) (Denied (denial.Right right.Create))) (sym ready.done)
    ∙ ap (λ p. unless (not (may c.making_ready.new.base (view.policy_of p) making.id c.args.who)) (Denied (denial.Right right.Create))) (sym c.deref.ensures) in
    goes-ok (ready_making s c.args.base.now c.args.model.now c.args.ws.now) making _ ready.ready ∙ goes-ok asked c.in-Ok.field-0 _ (is ∙ c.in-Ok.ensures)

pub returns-clause-judged : goal.returns-clause-judged
returns-clause-judged c =
    let s = schema_of c.args.s.now in
    let making = making_data c.in_ok-making.making in
    let ready = c.in_ok-making.ensures in
    let asked = unless (not (is_made_by c.args.base.now c.args.who making)) (Denied (denial.Right right.Create)) in
    let part = unless (not (may c.making_ready.new.base (view.policy_of c.deref.result.now) making.id c.args.who)) (Denied (denial.Right right.Create)) in
    let is : asked ≡ part
    = ap (λ (d : Database). unless (not (may d making.info.create making.id c.args.who)) (Denied (denial.Right right.Create))) (sym ready.done)
    ∙ ap (λ p. unless (not (may c.making_ready.new.base (view.policy_of p) making.id c.args.who)) (Denied (denial.Right right.Create))) (sym c.deref.ensures) in
    comes_stop part (λ x. x) (judged_making s c.args.base.now c.args.who c.args.model.now c.args.ws.now) making_data c.in-Err.halt
    (λ reply e. goes-ok (ready_making s c.args.base.now c.args.model.now c.args.ws.now) making _ ready.ready ∙ goes-err asked reply _ (is ∙ e))
    c.in-Err.ensures

pub returns-clause-kept : goal.returns-clause-kept
returns-clause-kept c =
    let making = making_data c.in_ok-making.making in
    c.take_back.ensures.undone c.args.base.now making.info making.row refl c.in_ok-making.ensures.done
