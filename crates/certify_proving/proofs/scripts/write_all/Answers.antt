use Rattle.std.proofs.Common.{rules, ◌≡◌, ◌≤◌, ap, arith, length, refl, subst, sym}
use Rattle.std.specs.Prelude.{Err, IfErr}
use Rattle.type_schema.specs.SchemaViews.{script_of}
use Rattle.duty_meaning.specs.Duties.{obligations_of}
use Rattle.certify_proving.specs.Proved.{IsFaultBy}
use Rattle.certify_proving.specs.declared.fault.ProveErr.TheVariants.{WriteFault}
use Rattle.certify_proving.proofs.Faults.{behind_fault, rose_later}
use Rattle.certify_proving.proofs.Written.{cut_at_end, cut_first, proved}
use Rattle.certify_proving.proofs.scripts.write_all.Goals as goal

pub returns-in_err-put_all-clause-err : goal.returns-in_err-put_all-clause-err
returns-in_err-put_all-clause-err g c =
    let s = c.args.grounding.now in
    let t = script_of s.script.now in
    let same : c.from_residual.result ≡ Err WriteFault = search rules in
    subst (λ r. IfErr r (IsFaultBy t s.signature.now g.W.Sink.told g.W.Sink.faults c.args.out.now c.put_all.new.out)) (sym same)
    (c.in_err-put_all.ensures.counted, cut_first t s.signature.now (g.W.Sink.told c.args.out.now) (g.W.Sink.told c.put_all.new.out) _ refl c.in_err-put_all.ensures.err)

pub returns-in_err-write_parts-clause-err : goal.returns-in_err-write_parts-clause-err
returns-in_err-write_parts-clause-err g c =
    let s = c.args.grounding.now in
    let t = script_of s.script.now in
    let same : c.from_residual-in_err-write_parts.result ≡ Err c.in_err-write_parts.field-0.0 = search rules in
    subst (λ r. IfErr r (IsFaultBy t s.signature.now g.W.Sink.told g.W.Sink.faults c.args.out.now c.write_parts.new.out)) (sym same)
    (behind_fault t s.signature.now g.W.Sink.told g.W.Sink.faults c.args.out.now c.put_all.new.out c.write_parts.new.out _ refl c.in_ok-put_all.ensures.ok c.put_all.ensures.never_falls
    c.write_parts.ensures.never_falls c.in_err-write_parts.field-0.0 c.in_err-write_parts.ensures.err)

pub returns-in_err-put_all-2-clause-err : goal.returns-in_err-put_all-2-clause-err
returns-in_err-put_all-2-clause-err g c =
    let s = c.args.grounding.now in
    let t = script_of s.script.now in
    let faults = g.W.Sink.faults in
    let same : c.from_residual-in_err-put_all-2.result ≡ Err WriteFault = search rules in
    let all : length (obligations_of t) ≤ length c.args.duties.now = omega (arith, ap length c.requires.listed) in
    let one : faults c.args.out.now ≤ faults c.put_all.new.out = c.put_all.ensures.never_falls in
    let two : faults c.put_all.new.out ≤ faults c.write_parts.new.out = c.write_parts.ensures.never_falls in
    let before : faults c.args.out.now ≤ faults c.write_parts.new.out = omega (arith, one, two) in
    let rose = rose_later (faults c.args.out.now) (faults c.write_parts.new.out) (faults c.put_all-2.new.out) before c.put_all-2.ensures.never_falls c.in_err-put_all-2.ensures.counted in
    subst (λ r. IfErr r (IsFaultBy t s.signature.now g.W.Sink.told faults c.args.out.now c.put_all-2.new.out)) (sym same) (
      rose,
      cut_at_end t s.signature.now (g.W.Sink.told c.args.out.now) (g.W.Sink.told c.put_all.new.out) (g.W.Sink.told c.write_parts.new.out) _ refl c.in_ok-put_all.ensures.ok (length c.args.duties.now) all
          c.in_ok-write_parts.ensures.ok (g.W.Sink.told c.put_all-2.new.out) _ refl c.in_err-put_all-2.ensures.err,
    )

pub returns-clause-ok : goal.returns-clause-ok
returns-clause-ok g c =
    let s = c.args.grounding.now in
    let t = script_of s.script.now in
    let all : length (obligations_of t) ≤ length c.args.duties.now = omega (arith, ap length c.requires.listed) in
    proved t s.signature.now (g.W.Sink.told c.args.out.now) (g.W.Sink.told c.put_all.new.out) (g.W.Sink.told c.write_parts.new.out) _ refl c.in_ok-put_all.ensures.ok (length c.args.duties.now) all
    c.in_ok-write_parts.ensures.ok (g.W.Sink.told c.put_all-2.new.out) _ refl c.in_ok-put_all-2.ensures.ok
