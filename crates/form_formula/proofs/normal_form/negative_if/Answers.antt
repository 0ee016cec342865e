use Rattle.std.proofs.Common.{false}
use Rattle.std.proofs.lemmas.Result.{IfOk-weaker}
use Rattle.form_formula.proofs.FormLemmas.{step_result}
use Rattle.form_formula.proofs.normal_form.negative_if.Goals as goal

pub returns-then-wanted-clause-form : goal.returns-then-wanted-clause-form
returns-then-wanted-clause-form g c =
    IfOk-weaker c.negative_form.result _ _ (λ r taken wanted k.
    step_result c.args.arena.now c.negative_form.new.arena c.args.forms.now c.args.id false g.node r c.requires.1.0 c.requires.0
    (c.requires.1.1.1.0 wanted) taken k) c.negative_form.ensures.taken
