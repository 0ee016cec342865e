use Rattle.std.proofs.Common.{ap, sym, subst}
use Rattle.type_schema.specs.SchemaViews.{model_info_of}
use Rattle.data_meaning.specs.Database.{Database}
use Rattle.data_records.specs.Views.{record_data}
use Rattle.store_keeper.specs.Stored.{Stored, IsStored, stored_of}
use Rattle.store_keeper.proofs.Putting.{next-fresh}
use Rattle.store_keeper.proofs.Storing.{put-is, put-stored}
use Rattle.store_keeper.proofs.records.put_stored.Goals as goal

pub put_record-requires-clause-fresh : goal.put_record-requires-clause-fresh
put_record-requires-clause-fresh c =
    let s = stored_of c.args.stored.now in
    next-fresh s.schema (model_info_of c.args.info.now) s.base c.requires.stored.database c.requires.may.model

pub returns-in-Ok-clause-ok : goal.returns-in-Ok-clause-ok
returns-in-Ok-clause-ok c =
    let s = stored_of c.args.stored.now in
    ap (λ (d : Database). let u : Stored = record s { base = d } in u)
    (put-is c.databases_stay.ensures s (model_info_of c.args.info.now) (record_data c.args.made.now) c.put_record.new.base c.requires.stored c.requires.may.model
    c.in-Ok.ensures.ok)

pub returns-in-Ok-clause-stored : goal.returns-in-Ok-clause-stored
returns-in-Ok-clause-stored c =
    let s = stored_of c.args.stored.now in
    let info = model_info_of c.args.info.now in
    let r = record_data c.args.made.now in
    let after = put-is c.databases_stay.ensures s info r c.put_record.new.base c.requires.stored c.requires.may.model c.in-Ok.ensures.ok in
    subst (λ (d : Database). IsStored (let u : Stored = record s { base = d } in u)) (sym after)
    (put-stored c.databases_stay.ensures s info r c.put_record.new.base c.requires.stored c.requires.may.model c.in-Ok.ensures.ok)
