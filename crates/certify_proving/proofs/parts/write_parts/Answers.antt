use Rattle.std.proofs.Common.{rules, ◌≡◌, ◌≤◌, arith, subst, sym}
use Rattle.std.specs.Prelude.{Err, IfErr}
use Rattle.type_schema.specs.SchemaViews.{script_of}
use Rattle.certify_proving.specs.Parts.{IsPartsFault}
use Rattle.certify_proving.proofs.Faults.{fault_at}
use Rattle.certify_proving.proofs.Written.{more_at}
use Rattle.certify_proving.proofs.parts.write_parts.Goals as goal

pub returns-in_err-write_part-clause-err : goal.returns-in_err-write_part-clause-err
returns-in_err-write_part-clause-err g c =
    let s = c.args.grounding.now in
    let t = script_of s.script.now in
    let same : c.from_residual-in_err-write_part.result ≡ Err c.in_err-write_part.field-0.0 = search rules in
    subst (λ r. IfErr r (IsPartsFault t s.signature.now g.W.Sink.told g.W.Sink.faults c.args.out.now c.write_part.new.out)) (sym same)
    (fault_at t s.signature.now g.W.Sink.told g.W.Sink.faults c.args.out.now c.loop-place.out c.write_part.new.out c.args.duties.now _ c.loop-place.place c.in_ok-number.number c.requires.listed
    c.loop-place-test.true c.in_ok-number.ensures.is c.loop-place.invariant.written c.loop-place.invariant.never_falls c.write_part.ensures.never_falls c.in_err-write_part.field-0.0
    c.in_err-write_part.ensures.err)

pub loop-place-preserved : goal.loop-place-preserved
loop-place-preserved g c =
    let s = c.args.grounding.now in
    let t = script_of s.script.now in
    let before : g.W.Sink.faults c.args.out.now ≤ g.W.Sink.faults c.loop-place.out = c.loop-place.invariant.never_falls in
    let after : g.W.Sink.faults c.loop-place.out ≤ g.W.Sink.faults c.write_part.new.out = c.write_part.ensures.never_falls in
    record {
      written = more_at t s.signature.now (g.W.Sink.told c.args.out.now) (g.W.Sink.told c.loop-place.out) (g.W.Sink.told c.write_part.new.out) c.args.duties.now _ c.loop-place.place c.in_ok-number.number
          c.requires.listed c.loop-place-test.true c.in_ok-number.ensures.is c.loop-place.invariant.written c.in_ok-write_part.ensures.ok;
      never_falls = omega (arith, before, after);
    }
