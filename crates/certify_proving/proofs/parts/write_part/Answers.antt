use Rattle.std.proofs.Common.{subst}
use Rattle.type_schema.specs.SchemaViews.{script_of}
use Rattle.form_formula.specs.NormalForm.{normal_form}
use Rattle.duty_meaning.specs.Duties.{formula_of}
use Rattle.certify_clauses.specs.InMemory.{problem_in}
use Rattle.certify_problem.specs.Grounded.{IsGrounded}
use Rattle.certify_problem.specs.declared.grounded.Grounded.{Grounded}
use Rattle.certify_problem.proofs.Below.{variables_below}
use Rattle.certify_proving.proofs.Faults.{err_so, ok_so, part_fault}
use Rattle.certify_proving.proofs.parts.write_part.Goals as goal

pub write_over-requires-clause-below : goal.write_over-requires-clause-below
write_over-requires-clause-below g c =
    let s = c.args.grounding.now in
    let f = formula_of (script_of s.script.now) c.args.duty in
    let P : Grounded → Type 0 = λ grounded. IsGrounded s.signature.now f (normal_form f) grounded in
    let is = subst P c.in-Clauses.is c.in_ok-c.ensures in
    variables_below s.signature.now (normal_form f) is.terms (problem_in c.in-Clauses.c) is.problem

pub unreachable-requires : goal.unreachable-requires
unreachable-requires g c =
    let s = c.args.grounding.now in
    let f = formula_of (script_of s.script.now) c.args.duty in
    let P : Grounded → Type 0 = λ grounded. IsGrounded s.signature.now f (normal_form f) grounded in
    let is = subst P c.in-Cyclic.is c.in_ok-c.ensures in
    (c.requires.within s.signature.now c.requires.signature c.args.duty c.requires.listed).shallow_within is.not_stratified is.over_limit

pub unreachable-requires-in-TooLarge : goal.unreachable-requires-in-TooLarge
unreachable-requires-in-TooLarge g c =
    let s = c.args.grounding.now in
    let f = formula_of (script_of s.script.now) c.args.duty in
    let P : Grounded → Type 0 = λ grounded. IsGrounded s.signature.now f (normal_form f) grounded in
    let is = subst P c.in-TooLarge.is c.in_ok-c.ensures in
    (c.requires.within s.signature.now c.requires.signature c.args.duty c.requires.listed).within is.stratified is.over_limit

pub returns-clause-ok : goal.returns-clause-ok
returns-clause-ok g c =
    let s = c.args.grounding.now in
    let f = formula_of (script_of s.script.now) c.args.duty in
    let P : Grounded → Type 0 = λ grounded. IsGrounded s.signature.now f (normal_form f) grounded in
    let is = subst P c.in-Clauses.is c.in_ok-c.ensures in
    ok_so c.write_over.result _ _ (λ h. record { problem = problem_in c.in-Clauses.c; is = is; written = h }) c.write_over.ensures.ok

pub returns-clause-err : goal.returns-clause-err
returns-clause-err g c =
    let s = c.args.grounding.now in
    let f = formula_of (script_of s.script.now) c.args.duty in
    let P : Grounded → Type 0 = λ grounded. IsGrounded s.signature.now f (normal_form f) grounded in
    let is = subst P c.in-Clauses.is c.in_ok-c.ensures in
    err_so c.write_over.result _ _
    (λ e h. part_fault (script_of s.script.now) s.signature.now g.W.Sink.told g.W.Sink.faults c.args.duty c.args.number (problem_in c.in-Clauses.c) is c.args.out.now c.write_over.new.out e h)
    c.write_over.ensures.err
