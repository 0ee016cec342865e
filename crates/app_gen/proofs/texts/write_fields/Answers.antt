use Rattle.std.proofs.Common.{◌≡◌, ◌∙◌, ◌++◌, sym, ap, arith, append_assoc, append-nil}
use Rattle.app_gen.specs.Generated.{fields_text}
use Rattle.app_gen.proofs.Steps.{fields_next}
use Rattle.app_gen.proofs.texts.write_fields.Goals as goal

pub loop-number-init : goal.loop-number-init
loop-number-init c = (sym (append-nil c.args.out.now), omega arith)

pub loop-number-preserved : goal.loop-number-preserved
loop-number-preserved c =
    let before = c.loop-number.invariant.0 in
    let left = c.loop-number-test.true in
    (rw (fields_next c.loop-number.number) (simp (c.in_ok-write_field.ensures, before, append_assoc)), omega (arith, left))

pub returns : goal.returns
returns c =
    let done : c.loop-number.number ≡ c.args.count = omega (arith, c.loop-number-test.false, c.loop-number.invariant.1) in
    c.loop-number.invariant.0 ∙ ap (λ n. c.args.out.now ++ fields_text n) done
