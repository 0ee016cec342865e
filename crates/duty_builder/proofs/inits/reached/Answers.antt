use Rattle.duty_writer.specs.Terms.{term_data}
use Rattle.duty_builder.specs.Values.{schema_in, written_upto}
use Rattle.duty_builder.proofs.Walks.{makes_same}
use Rattle.duty_builder.proofs.inits.reached.Goals as goal

pub returns : goal.returns
returns c =
    let st = c.args.start.now in
    makes_same _ _ _ _ _ (c.use_of-used.ensures (schema_in st) (written_upto st c.args.upto) (term_data c.args.source.now) (term_data c.args.row.now) c.args.above) c.write.ensures
