use Rattle.std.proofs.Common.{◌≡◌, ◌∙◌, ap, sym, true, false, Option}
use Rattle.std.specs.Prelude.{is_some}
use Rattle.data_meaning.specs.Database.{Record, records_of}
use Rattle.data_records.proofs.Tables.{any-found}
use Rattle.door_judge.proofs.setting.record_with.Goals as goal

pub unreachable-requires : goal.unreachable-requires
unreachable-requires c =
    let never : true ≡ false
    = sym c.requires ∙ any-found c.args.id (records_of c.args.d.now c.args.set.now.info.now.number) ∙ ap (λ (o : Option Record). is_some o) (sym c.in-None.ensures) in
    cc
