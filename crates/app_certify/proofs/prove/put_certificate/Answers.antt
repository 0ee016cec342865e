use Rattle.std.proofs.Common.{◌≡◌, refl, subst, sym}
use Rattle.type_schema.specs.SchemaViews.{script_of}
use Rattle.app_flow.specs.Outside.{IsWritten}
use Rattle.app_files.specs.declared.status.Status.{Status}
use Rattle.app_files.specs.declared.status.Status.TheVariants as exit
use Rattle.app_certify.specs.Proved.{IsProof, Whole}
use Rattle.app_certify.proofs.ProveLaws.{failed, failed_written}
use Rattle.app_certify.proofs.prove.put_certificate.Goals as goal

pub returns-in-Ok-clause-proof : goal.returns-in-Ok-clause-proof
returns-in-Ok-clause-proof g c = Whole refl c.in-Ok.ensures.ok

pub returns-in-Err-clause-proof : goal.returns-in-Err-clause-proof
returns-in-Err-clause-proof g c =
    let t = script_of c.args.t.now in
    subst (λ (s : Status). IsProof t (g.W.Sink.told c.args.out.now) (g.W.Sink.told c.prove_script.new.out) s) (sym c.fault_status.ensures)
    (failed t g.W.Sink.told g.W.Sink.faults c.args.out.now c.prove_script.new.out c.in-Err.err c.in-Err.ensures.err)

pub returns-in-Err-clause-out : goal.returns-in-Err-clause-out
returns-in-Err-clause-out g c =
    let t = script_of c.args.t.now in
    subst (λ (s : Status). IsWritten g.W.Sink.faults c.args.out.now c.prove_script.new.out (s ≡ exit.ReadFault) (s ≡ exit.WriteFault)) (sym c.fault_status.ensures)
    (failed_written t g.W.Sink.told g.W.Sink.faults c.args.out.now c.prove_script.new.out c.in-Err.err c.in-Err.ensures.err c.prove_script.ensures.never_falls)
