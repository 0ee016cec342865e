use Rattle.std.proofs.Common.{◌≡◌, ◌∙◌, refl, ap, sym, subst, Option, Some}
use Rattle.std.specs.Prelude.{IfSome, Result, Ok, Err}
use Rattle.data_meaning.specs.Database.{Record, Database, has_record}
use Rattle.data_records.specs.Inserted.{with_row}
use Rattle.door_meaning.specs.Records.{Making, create_stage, judged_making, with_base}
use Rattle.door_meaning.specs.Replies.{New, Reply}
use Rattle.door_meaning.specs.Sessions.{Outcome, live_session}
use Rattle.door_meaning.specs.State.{State}
use Rattle.door_meaning.specs.declared.reply.Reply.TheVariants as answer
use Rattle.door_meaning.specs.declared.session.Session.{Session}
use Rattle.store_keeper.specs.Changes.{MayPut, with_put}
use Rattle.store_keeper.specs.Stored.{Stored}
use Rattle.store_keeper.specs.declared.keeper.KeepCall.TheVariants.{Put}
use Rattle.door_judge.specs.Views.{making_data}
use Rattle.door_serve.specs.declared.door_err.DoorErr.{DoorErr}
use Rattle.door_serve.specs.Changing.{Keeps, made_record, record_at}
use Rattle.door_serve.specs.Doing.{Puts}
use Rattle.door_serve.specs.DoorState.{state_of}
use Rattle.door_serve.proofs.Behind.{goes-through, stops-first, stops-second}
use Rattle.door_serve.proofs.Carried.{found-made, made-over, made-stored, made-there, may-make}
use Rattle.door_serve.proofs.Ending.{based, based-same, carried-out, failed, halted, held-so}
use Rattle.door_serve.proofs.door.Door.create.Goals as goal

-- the record is made
abbrev made : State → Making → Outcome
made st making = with_base (New making.id) (with_row making.info making.row st.stored.base) st

abbrev making-made : State → Session → Making → Result Outcome Reply
making-made st s making = Ok (made st making)

pub returns-in-Err : goal.returns-in-Err
returns-in-Err g c =
    let st = state_of c.args.self.now in
    halted g.K.Keeper.told g.K.Keeper.calls g.K.Keeper.faults st c.args.store.now c.requires (create_stage st c.args.session.now c.args.model.now c.args.ws.now)
    (live_session st c.bytes.result.now) c.in-Err.halt c.ended.result st c.ended.ensures c.in-Err.ensures
    (λ reply e. stops-first (live_session st c.args.session.now.name) (λ (s : Session). judged_making st.stored.schema st.stored.base s.who c.args.model.now c.args.ws.now) (making-made st)
    reply (ap (live_session st) (sym c.bytes.ensures.bytes) ∙ e)) refl

pub returns-in-Err-make_record : goal.returns-in-Err-make_record
returns-in-Err-make_record g c =
    let st = state_of c.args.self.now in
    let s = c.in-Ok.s.now in
    let live : live_session st c.args.session.now.name ≡ Ok s = ap (live_session st) (sym c.bytes.ensures.bytes) ∙ c.in-Ok.ensures in
    halted g.K.Keeper.told g.K.Keeper.calls g.K.Keeper.faults st c.args.store.now c.requires (create_stage st c.args.session.now c.args.model.now c.args.ws.now)
    (judged_making st.stored.schema st.stored.base s.who c.args.model.now c.args.ws.now) c.in-Err-make_record.halt c.ended-in-Err-make_record.result _ c.ended-in-Err-make_record.ensures
    c.in-Err-make_record.ensures.judged
    (λ reply e. stops-second (live_session st c.args.session.now.name) (λ (s : Session). judged_making st.stored.schema st.stored.base s.who c.args.model.now c.args.ws.now) (making-made st)
    s reply live e)
    (based-same st c.make_record.new.base c.in-Err-make_record.ensures.kept)

pub keep_made-requires-clause-there : goal.keep_made-requires-clause-there
keep_made-requires-clause-there g c =
    let st = state_of c.args.self.now in
    let making = making_data c.in-Ok-make_record.making in
    let ready = c.in-Ok-make_record.ensures in
    ap (λ (d : Database). has_record d making.info.number making.id) ready.done
    ∙ made-there c.databases_stay.ensures st.stored c.requires.stored making ready.known ready.number ready.admitted

pub keep_made-requires-clause-may : goal.keep_made-requires-clause-may
keep_made-requires-clause-may g c =
    let st = state_of c.args.self.now in
    let making = making_data c.in-Ok-make_record.making in
    let ready = c.in-Ok-make_record.ensures in
    let found : record_at c.make_record.new.base making.info.number making.id ≡ Some (made_record making)
    = ap (λ (d : Database). record_at d making.info.number making.id) ready.done
    ∙ found-made c.databases_stay.ensures st.stored c.requires.stored making ready.known ready.number ready.admitted in
    held-so (g.K.Keeper.told c.args.store.now) st.stored (λ (t : Stored). IfSome (record_at c.make_record.new.base making.info.number making.id) (MayPut t making.info)) c.requires.told
    (subst (λ (o : Option Record). IfSome o (MayPut st.stored making.info)) (sym found)
    (may-make c.databases_stay.ensures st.stored c.requires.stored making ready.known ready.number ready.admitted))

pub returns-in-Err-keep_made : goal.returns-in-Err-keep_made
returns-in-Err-keep_made g c =
    let st = state_of c.args.self.now in
    let s = c.in-Ok.s.now in
    let live : live_session st c.args.session.now.name ≡ Ok s = ap (live_session st) (sym c.bytes.ensures.bytes) ∙ c.in-Ok.ensures in
    let making = making_data c.in-Ok-make_record.making in
    let ready = c.in-Ok-make_record.ensures in
    let found : record_at c.make_record.new.base making.info.number making.id ≡ Some (made_record making)
    = ap (λ (d : Database). record_at d making.info.number making.id) ready.done
    ∙ found-made c.databases_stay.ensures st.stored c.requires.stored making ready.known ready.number ready.admitted in
    let end : Result (Unit {0}) DoorErr = Err c.in-Err-keep_made.err in
    let keeps : Keeps g.K.Keeper.told g.K.Keeper.calls g.K.Keeper.faults (with_put making.info.number (made_record making)) Put c.args.store.now c.keep_made.new.store end
    = subst (λ (o : Option Record). IfSome o (λ r. Keeps g.K.Keeper.told g.K.Keeper.calls g.K.Keeper.faults (with_put making.info.number r) Put c.args.store.now c.keep_made.new.store end)) found
    c.in-Err-keep_made.ensures in
    failed g.K.Keeper.told g.K.Keeper.calls g.K.Keeper.faults st c.args.store.now c.requires c.keep_made.new.store (with_put making.info.number (made_record making)) Put
    c.in-Err-keep_made.err (create_stage st c.args.session.now c.args.model.now c.args.ws.now) (made st making) _ keeps
    (goes-through (live_session st c.args.session.now.name) (λ (s : Session). judged_making st.stored.schema st.stored.base s.who c.args.model.now c.args.ws.now) (making-made st) s making live
    ready.judged)
    (Puts refl refl) (based-same st c.take_back.new.self (c.take_back.ensures.undone st.stored.base making.info making.row refl ready.done))

pub returns : goal.returns
returns g c =
    let st = state_of c.args.self.now in
    let s = c.in-Ok.s.now in
    let live : live_session st c.args.session.now.name ≡ Ok s = ap (live_session st) (sym c.bytes.ensures.bytes) ∙ c.in-Ok.ensures in
    let making = making_data c.in-Ok-make_record.making in
    let ready = c.in-Ok-make_record.ensures in
    let found : record_at c.make_record.new.base making.info.number making.id ≡ Some (made_record making)
    = ap (λ (d : Database). record_at d making.info.number making.id) ready.done
    ∙ found-made c.databases_stay.ensures st.stored c.requires.stored making ready.known ready.number ready.admitted in
    let end : Result (Unit {0}) DoorErr = Ok c.in_default.field-0 in
    let keeps : Keeps g.K.Keeper.told g.K.Keeper.calls g.K.Keeper.faults (with_put making.info.number (made_record making)) Put c.args.store.now c.keep_made.new.store end
    = subst (λ (o : Option Record). IfSome o (λ r. Keeps g.K.Keeper.told g.K.Keeper.calls g.K.Keeper.faults (with_put making.info.number r) Put c.args.store.now c.keep_made.new.store end)) found
    c.in_default.ensures in
    carried-out g.K.Keeper.told g.K.Keeper.calls g.K.Keeper.faults st c.args.store.now c.requires c.keep_made.new.store (with_put making.info.number (made_record making)) Put
    c.in_default.field-0 (create_stage st c.args.session.now c.args.model.now c.args.ws.now) (made st making) (answer.New making.id) _ keeps
    (goes-through (live_session st c.args.session.now.name) (λ (s : Session). judged_making st.stored.schema st.stored.base s.who c.args.model.now c.args.ws.now) (making-made st) s making live
    ready.judged)
    refl (ap (λ (d : Database). based st d) ready.done) (Puts refl refl)
    (made-over c.databases_stay.ensures st.stored c.requires.stored making ready.known ready.number ready.admitted)
    (made-stored c.databases_stay.ensures st.stored c.requires.stored making ready.known ready.number ready.admitted)
