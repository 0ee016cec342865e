use Rattle.std.proofs.Common.{rules, ◌≡◌, inl, refl, subst, sym}
use Rattle.std.specs.Prelude.{Err, IfErr}
use Rattle.type_schema.specs.SchemaViews.{script_of}
use Rattle.certify_proving.specs.Proved.{IsFault}
use Rattle.certify_proving.specs.declared.fault.ProveErr.TheVariants.{OutOfMemory}
use Rattle.certify_proving.proofs.Faults.{err_so, ok_so, with_signature}
use Rattle.certify_proving.proofs.scripts.proved_by.Goals as goal

pub returns-in_err-duties-clause-err : goal.returns-in_err-duties-clause-err
returns-in_err-duties-clause-err g c =
    let same : c.from_residual.result ≡ Err OutOfMemory = search rules in
    subst (λ r. IfErr r (IsFault (script_of c.args.grounding.now.script.now) g.W.Sink.told g.W.Sink.faults c.args.out.now c.args.out.now)) (sym same) (inl refl)

pub returns-clause-ok : goal.returns-clause-ok
returns-clause-ok g c =
    ok_so c.write_all.result _ _ (λ h. record { signature = c.args.grounding.now.signature.now; signature_of = c.requires.signature; so = h }) c.write_all.ensures.ok

pub returns-clause-err : goal.returns-clause-err
returns-clause-err g c =
    let s = c.args.grounding.now in
    err_so c.write_all.result _ _ (λ e h. with_signature (script_of s.script.now) s.signature.now g.W.Sink.told g.W.Sink.faults c.requires.signature c.args.out.now c.write_all.new.out e h) c.write_all.ensures.err
