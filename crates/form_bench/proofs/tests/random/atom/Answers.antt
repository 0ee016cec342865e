use Rattle.std.proofs.lemmas.Result.{IfOk-weaker}
use Rattle.form_bench.proofs.tests.random.atom.Goals as goal

pub returns-in-0-clause-kept : goal.returns-in-0-clause-kept
returns-in-0-clause-kept c =
    IfOk-weaker c.mk_eq.result _ _ (λ id made k kind e. made.kept_kinds k kind (c.in_ok-right.ensures.kept k kind (c.in_ok-left.ensures.kept k kind e))) c.mk_eq.ensures.made

pub returns-in-1-clause-kept : goal.returns-in-1-clause-kept
returns-in-1-clause-kept c =
    IfOk-weaker c.mk_less.result _ _ (λ id made k kind e. made.kept_kinds k kind (c.in_ok-right.ensures.kept k kind (c.in_ok-left.ensures.kept k kind e))) c.mk_less.ensures.made

pub returns-in-2-clause-kept : goal.returns-in-2-clause-kept
returns-in-2-clause-kept c =
    IfOk-weaker c.mk_has.result _ _ (λ id made k kind e. made.kept_kinds k kind (c.in_ok-right.ensures.kept k kind (c.in_ok-left.ensures.kept k kind e))) c.mk_has.ensures.made

pub returns-in-3-clause-kept : goal.returns-in-3-clause-kept
returns-in-3-clause-kept c =
    IfOk-weaker c.mk_flag.result _ _ (λ id made k kind e. made.kept_kinds k kind (c.in_ok-right.ensures.kept k kind (c.in_ok-left.ensures.kept k kind e))) c.mk_flag.ensures.made

pub returns-in_default-clause-kept : goal.returns-in_default-clause-kept
returns-in_default-clause-kept c =
    IfOk-weaker c.mk_some.result _ _ (λ id made k kind e. made.kept_kinds k kind (c.in_ok-right.ensures.kept k kind (c.in_ok-left.ensures.kept k kind e))) c.mk_some.ensures.made
