use Rattle.std.proofs.Common.{◌≡◌, ◌≢◌, ◌∙◌, sym, subst}
use Rattle.std.proofs.lemmas.Result.{IfErr-weaker}
use Rattle.data_records.specs.declared.data_err.Limit.{Limit}
use Rattle.type_schema.specs.SchemaViews.{schema_of}
use Rattle.data_judge.specs.declared.limits.Limits.TheVariants.{Waived}
use Rattle.data_read.specs.declared.read_err.ReadErr.{ReadErr}
use Rattle.data_read.specs.declared.read_err.ReadErr.TheVariants as err
use Rattle.data_read.specs.Reading.{IsRefusedAs}
use Rattle.data_read.proofs.OneReading.{never-full}
use Rattle.data_read.proofs.read.reload_database.Goals as goal

pub returns-clause-full : goal.returns-clause-full
returns-clause-full c =
    let s = schema_of c.args.s.now in
    let refused = IsRefusedAs Waived s c.args.text.now in
    IfErr-weaker c.read_within.result (λ (e : ReadErr). e ≢ err.OutOfMemory → refused e) (λ (e : ReadErr). (what : Limit) → e ≢ err.Full what)
    (λ e is what same. never-full s c.args.text.now what (subst refused same (is (λ memory. let other : err.OutOfMemory ≡ err.Full what = sym memory ∙ same in cc))))
    c.read_within.ensures.refused
