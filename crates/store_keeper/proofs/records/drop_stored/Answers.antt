use Rattle.std.proofs.Common.{◌≡◌, sym, subst}
use Rattle.type_schema.specs.SchemaViews.{model_info_of}
use Rattle.data_meaning.specs.Database.{Database}
use Rattle.store_keeper.specs.Changes.{with_drop}
use Rattle.store_keeper.specs.Stored.{Stored, IsStored, stored_of}
use Rattle.store_keeper.proofs.Storing.{drop-stored}
use Rattle.store_keeper.proofs.records.drop_stored.Goals as goal

pub returns-clause-stored : goal.returns-clause-stored
returns-clause-stored c =
    let s = stored_of c.args.stored.now in
    let info = model_info_of c.args.info.now in
    let after : c.remove.new.self ≡ (with_drop info.number c.args.id s).base = c.in-Ok.ensures.2 in
    subst (λ (d : Database). IsStored (let u : Stored = record s { base = d } in u)) (sym after)
    (drop-stored c.databases_stay.ensures s info c.args.id c.requires.stored c.requires.may)
