use Rattle.std.proofs.Common.{◌≡◌, ◌∙◌, ◌+◌, ℕ, refl, sym, ap, arith, length, subst}
use Rattle.type_schema.specs.SchemaViews.{script_of}
use Rattle.duty_numbering.proofs.SignatureLaws.{start_types_are_there}
use Rattle.duty_meaning.specs.Duties.{obligations_of}
use Rattle.form_formula.specs.declared.structure.Signature.{Signature}
use Rattle.check_scripts.specs.Outcomes.{accepted, IsOutcome}
use Rattle.check_scripts.specs.Views.{outcome_data}
use Rattle.check_scripts.proofs.Cleared.{AreCleared, none_cleared, one_more, first_settles, all_accept, at_place, of_some, of_none}
use Rattle.check_scripts.proofs.scripts.check_script.Goals as goal

pub signature_of-requires : goal.signature_of-requires
signature_of-requires g c = start_types_are_there (script_of c.args.t.now) c.requires

pub loop-duty-init : goal.loop-duty-init
loop-duty-init g c = (none_cleared _ _, refl)

pub unsettled-requires-clause-over : goal.unsettled-requires-clause-over
unsettled-requires-clause-over g c = c.loop-duty.invariant.1 ∙ c.new-known.ensures

pub returns-in-Some : goal.returns-in-Some
returns-in-Some g c =
    let t = script_of c.args.t.now in
    let so_far : AreCleared t c.in_ok-signature.signature c.loop-duty.duty-index
    = subst (λ (s : Signature). AreCleared t s c.loop-duty.duty-index) c.new-known.ensures c.loop-duty.invariant.0 in
    first_settles t c.in_ok-signature.signature c.in_ok-signature.ensures c.loop-duty.duty-index _ (outcome_data c.in-Some.outcome) so_far
    (at_place t c.as_slice-duty-items.result.now (c.as_slice-duty-items.ensures.value ∙ c.in_ok-duties.ensures) c.loop-duty.duty-index _ c.loop-duty-test.true)
    (of_some _ _ c.in_ok-outcome.field-0 c.in-Some.outcome c.in-Some.is c.in_ok-outcome.ensures.settled)

pub loop-duty-preserved : goal.loop-duty-preserved
loop-duty-preserved g c =
    let t = script_of c.args.t.now in
    let so_far : AreCleared t c.in_ok-signature.signature c.loop-duty.duty-index
    = subst (λ (s : Signature). AreCleared t s c.loop-duty.duty-index) c.new-known.ensures c.loop-duty.invariant.0 in
    let more : AreCleared t c.in_ok-signature.signature (c.loop-duty.duty-index + 1)
    = one_more t c.in_ok-signature.signature c.loop-duty.duty-index _ so_far
    (at_place t c.as_slice-duty-items.result.now (c.as_slice-duty-items.ensures.value ∙ c.in_ok-duties.ensures) c.loop-duty.duty-index _ c.loop-duty-test.true)
    (of_none _ _ c.in_ok-outcome.field-0 c.in-None.is c.in_ok-outcome.ensures.settled) in (
      subst (λ (s : Signature). AreCleared t s (c.loop-duty.duty-index + 1)) (sym c.new-known.ensures) more,
      c.in_ok-outcome.ensures.kept ∙ c.loop-duty.invariant.1,
    )

pub returns : goal.returns
returns g c =
    let t = script_of c.args.t.now in
    let so_far : AreCleared t c.in_ok-signature.signature c.loop-duty.duty-index
    = subst (λ (s : Signature). AreCleared t s c.loop-duty.duty-index) c.new-known.ensures c.loop-duty.invariant.0 in
    let same : c.as_slice-duty-items.result.now ≡ obligations_of t = c.as_slice-duty-items.ensures.value ∙ c.in_ok-duties.ensures in
    let end : c.loop-duty.duty-index ≡ length c.as_slice-duty-items.result.now = omega arith in
    let count : c.loop-duty.duty-index ≡ c.len.result = end ∙ c.as_slice-duty-items.ensures.len ∙ sym c.len.ensures in
    subst (λ (n : ℕ). IsOutcome t (accepted n)) count
    (all_accept t c.in_ok-signature.signature c.in_ok-signature.ensures c.loop-duty.duty-index (end ∙ ap length same) so_far)
