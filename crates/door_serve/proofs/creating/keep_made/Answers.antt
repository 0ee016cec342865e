use Rattle.std.proofs.Common.{◌≡◌, ◌∙◌, ap, sym, true, false, Option}
use Rattle.std.specs.Prelude.{is_some}
use Rattle.data_meaning.specs.Database.{Record, records_of}
use Rattle.data_records.proofs.Tables.{any-found}
use Rattle.door_serve.proofs.creating.keep_made.Goals as goal

pub unreachable-requires : goal.unreachable-requires
unreachable-requires g c =
    let never : true ≡ false
    = sym c.requires.there ∙ any-found c.args.id (records_of c.args.d.now c.args.info.now.number) ∙ ap (λ (o : Option Record). is_some o) (sym c.in-None.ensures) in
    cc
