use Rattle.std.proofs.lemmas.Result.{IfOk-weaker}
use Rattle.form_bench.proofs.tests.random.term.Goals as goal

pub returns-clause-kept : goal.returns-clause-kept
returns-clause-kept c =
    IfOk-weaker c.mk_app.result _ _ (λ id made k kind e. made.kept_kinds k kind (c.in_ok-variable.ensures.made.kept_kinds k kind e)) c.mk_app.ensures.made
