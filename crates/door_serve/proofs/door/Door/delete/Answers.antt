use Rattle.std.proofs.Common.{◌≡◌, ◌∙◌, ℕ, refl, ap, sym}
use Rattle.std.specs.Prelude.{Result, Ok}
use Rattle.data_records.specs.Removed.{without_record}
use Rattle.door_meaning.specs.Records.{delete_stage, ready_removal, with_base}
use Rattle.door_meaning.specs.Replies.{Done, Reply}
use Rattle.door_meaning.specs.Sessions.{Outcome, live_session}
use Rattle.door_meaning.specs.State.{State}
use Rattle.door_meaning.specs.declared.session.Session.{Session}
use Rattle.door_meaning.specs.declared.reply.Reply.TheVariants as answer
use Rattle.store_keeper.proofs.Storing.{drop-stored}
use Rattle.store_keeper.specs.Changes.{with_drop}
use Rattle.store_keeper.specs.declared.keeper.KeepCall.TheVariants.{DropRow}
use Rattle.type_schema.specs.Schema.{ModelInfo}
use Rattle.type_schema.specs.SchemaViews.{model_info_of}
use Rattle.door_serve.specs.Doing.{Drops}
use Rattle.door_serve.specs.DoorState.{state_of}
use Rattle.door_serve.proofs.Ending.{ends-based, halted}
use Rattle.door_serve.proofs.Behind.{goes-through, stops-first, stops-second}
use Rattle.door_serve.proofs.door.Door.delete.Goals as goal

-- the record is dropped
abbrev dropped : State → ℕ → Session → ModelInfo → Result Outcome Reply
dropped st id s m = Ok (with_base Done (without_record m.number id st.stored.base) st)

pub returns-in-Err : goal.returns-in-Err
returns-in-Err g c =
    let st = state_of c.args.self.now in
    halted g.K.Keeper.told g.K.Keeper.calls g.K.Keeper.faults st c.args.store.now c.requires (delete_stage st c.args.session.now c.args.model.now c.args.id)
    (live_session st c.bytes.result.now) c.in-Err.halt c.ended.result st c.ended.ensures c.in-Err.ensures
    (λ reply e. stops-first (live_session st c.args.session.now.name) (λ (s : Session). ready_removal st.stored.schema st.stored.base s.who c.args.model.now c.args.id.number)
    (dropped st c.args.id.number) reply (ap (live_session st) (sym c.bytes.ensures.bytes) ∙ e)) refl

pub returns-in-Err-removal_ready : goal.returns-in-Err-removal_ready
returns-in-Err-removal_ready g c =
    let st = state_of c.args.self.now in
    let s = c.in-Ok.s.now in
    let live : live_session st c.args.session.now.name ≡ Ok s = ap (live_session st) (sym c.bytes.ensures.bytes) ∙ c.in-Ok.ensures in
    let part = ready_removal st.stored.schema st.stored.base s.who c.args.model.now c.args.id.number in
    halted g.K.Keeper.told g.K.Keeper.calls g.K.Keeper.faults st c.args.store.now c.requires (delete_stage st c.args.session.now c.args.model.now c.args.id)
    part c.in-Err-removal_ready.halt c.ended-in-Err-removal_ready.result st c.ended-in-Err-removal_ready.ensures c.in-Err-removal_ready.ensures.ready
    (λ reply e. stops-second (live_session st c.args.session.now.name) (λ (s : Session). ready_removal st.stored.schema st.stored.base s.who c.args.model.now c.args.id.number)
    (dropped st c.args.id.number) s reply live e) refl

pub returns : goal.returns
returns g c =
    let st = state_of c.args.self.now in
    let s = c.in-Ok.s.now in
    let id = c.args.id.number in
    let info = model_info_of c.in-Ok-removal_ready.info.now in
    let may = c.in-Ok-removal_ready.ensures.may in
    let live : live_session st c.args.session.now.name ≡ Ok s = ap (live_session st) (sym c.bytes.ensures.bytes) ∙ c.in-Ok.ensures in
    ends-based g.K.Keeper.told g.K.Keeper.calls g.K.Keeper.faults st c.args.store.now c.requires c.drop_record.new.store (with_drop info.number id) DropRow answer.Done
    (without_record info.number id st.stored.base) c.drop_record.new.base c.drop_record.result (delete_stage st c.args.session.now c.args.model.now c.args.id) c.drop_record.ensures.keeps
    (goes-through (live_session st c.args.session.now.name) (λ (s : Session). ready_removal st.stored.schema st.stored.base s.who c.args.model.now c.args.id.number) (dropped st id) s info live
    c.in-Ok-removal_ready.ensures.ready)
    c.drop_record.ensures.reply c.drop_record.ensures.done c.drop_record.ensures.kept (Drops refl refl) refl
    (drop-stored c.databases_stay.ensures st.stored info id c.requires.stored (record { model = may.model; there = may.there; free = may.free }))
