use Rattle.std.proofs.Common.{ap, sym}
use Rattle.type_schema.specs.declared.trees.TInit.{TInit}
use Rattle.type_schema.specs.Views.{init_of}
use Rattle.duty_meaning.specs.Sizes.{result_size}
use Rattle.duty_builder.specs.Values.{schema_in, written_upto}
use Rattle.duty_builder.proofs.Costs.{spends_same, made_spent}
use Rattle.duty_builder.proofs.inits.spend_result.Goals as goal

pub returns-in-Plain : goal.returns-in-Plain
returns-in-Plain c =
    let st = c.args.start.now in
    spends_same _ _ c.args.w.now c.spend_plain.new.w c.spend_plain.result (ap (λ (i : TInit). result_size (schema_in st) (written_upto st c.args.upto) c.args.ty (init_of i)) (sym c.in-Plain.is)) c.spend_plain.ensures

pub returns-in-OfSet : goal.returns-in-OfSet
returns-in-OfSet c =
    let st = c.args.start.now in
    made_spent _ _ _ _ _ _ (ap (λ (i : TInit). result_size (schema_in st) (written_upto st c.args.upto) c.args.ty (init_of i)) (sym c.in-OfSet.is)) c.write.ensures
