use Rattle.std.proofs.Common.{◌≡◌, ◌∙◌, Some, ap, sym}
use Rattle.std.specs.Prelude.{slice_get}
use Rattle.std.proofs.lemmas.Option.{slice_get-get_or}
use Rattle.ground_instances.specs.declared.input.Input.{Input}
use Rattle.ground_instances.specs.declared.input.Input.TheVariants.{There}
use Rattle.ground_problem.specs.Inputs.{IsToldInput}
use Rattle.ground_problem.specs.Telling.{told_so_far}
use Rattle.ground_problem.proofs.CheckLaws.{each_next, each_all, field_in}
use Rattle.ground_problem.proofs.checks.Check.are_told.Goals as goal

pub is_told_input-requires-clause-field : goal.is_told_input-requires-clause-field
is_told_input-requires-clause-field c =
    let at : slice_get c.args.fields.now c.loop-k.k ≡ Some c.in-Some.field.now =
    slice_get-get_or c.args.fields.now c.loop-k.k c.in-Some.field.now c.in-Some.ensures.lookup.3.0 ∙ ap (λ x. Some x) (sym c.in-Some.ensures.lookup.1) in
    field_in c.args.self.terms.now c.args.inputs.now c.args.fields.now c.loop-k.k c.in-Some.field.now (There 0) c.requires.fields c.loop-k-test.true at

pub loop-k-preserved : goal.loop-k-preserved
loop-k-preserved c =
    let s = c.args.self in
    let P : Input → Type 0 = λ i. IsToldInput s.signature.now (told_so_far s.terms.now s.telling.now) s.arena.now s.terms.now i in
    each_next P c.args.inputs.now c.loop-k.k (There 0) c.loop-k-test.true c.loop-k.invariant (c.is_told_input.ensures c.if-not-is_told_input.false)

pub returns : goal.returns
returns c =
    let s = c.args.self in
    let P : Input → Type 0 = λ i. IsToldInput s.signature.now (told_so_far s.terms.now s.telling.now) s.arena.now s.terms.now i in
    λ yes. each_all P c.args.inputs.now c.loop-k.k c.loop-k-test.false c.loop-k.invariant
