use Rattle.std.proofs.Common.{◌≡◌, ◌∙◌, ℕ, refl, ap, sym, subst}
use Rattle.std.specs.Prelude.{OnErr, OnOk, Result, Ok}
use Rattle.data_meaning.specs.Database.{Record, Database}
use Rattle.data_records.specs.Changed.{with_field}
use Rattle.data_records.specs.Views.{record_data}
use Rattle.door_meaning.specs.Records.{Setting, ready_setting, with_base, write_stage}
use Rattle.door_meaning.specs.Replies.{Done, Reply}
use Rattle.door_meaning.specs.Sessions.{Outcome, live_session}
use Rattle.door_meaning.specs.State.{State}
use Rattle.door_meaning.specs.declared.session.Session.{Session}
use Rattle.door_meaning.specs.declared.reply.Reply.TheVariants as answer
use Rattle.store_keeper.specs.Changes.{MayPut, with_put}
use Rattle.store_keeper.specs.Stored.{Stored}
use Rattle.store_keeper.specs.declared.keeper.KeepCall.TheVariants.{Put}
use Rattle.door_judge.specs.Parts.{set_record}
use Rattle.door_serve.specs.Doing.{Puts}
use Rattle.door_serve.specs.DoorState.{state_of}
use Rattle.door_judge.specs.Views.{setting_data}
use Rattle.door_serve.proofs.Carried.{may-set, set-over, set-stored}
use Rattle.door_serve.proofs.Ending.{based-same, ends-based, halted, held-so, starved-end}
use Rattle.door_serve.proofs.Behind.{goes-through, stops-first, stops-second}
use Rattle.door_serve.proofs.door.Door.write.Goals as goal

-- the field is written
abbrev written : State → ℕ → Session → Setting → Result Outcome Reply
written st id s set = Ok (with_base Done (with_field set.info.number id set.field.number set.value st.stored.base) st)

pub returns-in-Err : goal.returns-in-Err
returns-in-Err g c =
    let st = state_of c.args.self.now in
    let cell = c.args.cell.now in
    halted g.K.Keeper.told g.K.Keeper.calls g.K.Keeper.faults st c.args.store.now c.requires (write_stage st c.args.session.now cell.model.now cell.id cell.field.now c.args.l.now)
    (live_session st c.bytes.result.now) c.in-Err.halt c.ended.result st c.ended.ensures c.in-Err.ensures
    (λ reply e. stops-first (live_session st c.args.session.now.name) (λ (s : Session). ready_setting st.stored.schema st.stored.base s.who cell.model.now cell.id.number cell.field.now c.args.l.now)
    (written st cell.id.number) reply (ap (live_session st) (sym c.bytes.ensures.bytes) ∙ e)) refl

pub returns-in-Err-setting_ready : goal.returns-in-Err-setting_ready
returns-in-Err-setting_ready g c =
    let st = state_of c.args.self.now in
    let cell = c.args.cell.now in
    let s = c.in-Ok.s.now in
    let live : live_session st c.args.session.now.name ≡ Ok s = ap (live_session st) (sym c.bytes.ensures.bytes) ∙ c.in-Ok.ensures in
    let part = ready_setting st.stored.schema st.stored.base s.who cell.model.now cell.id.number cell.field.now c.args.l.now in
    halted g.K.Keeper.told g.K.Keeper.calls g.K.Keeper.faults st c.args.store.now c.requires (write_stage st c.args.session.now cell.model.now cell.id cell.field.now c.args.l.now)
    part c.in-Err-setting_ready.halt c.ended-in-Err-setting_ready.result _ c.ended-in-Err-setting_ready.ensures c.in-Err-setting_ready.ensures.ready
    (λ reply e. stops-second (live_session st c.args.session.now.name) (λ (s : Session). ready_setting st.stored.schema st.stored.base s.who cell.model.now cell.id.number cell.field.now c.args.l.now)
    (written st cell.id.number) s reply live e)
    (based-same st c.setting_ready.new.base c.in-Err-setting_ready.ensures.same)

pub returns-in_err-made : goal.returns-in_err-made
returns-in_err-made g c =
    let st = state_of c.args.self.now in
    starved-end g.K.Keeper.told g.K.Keeper.calls g.K.Keeper.faults st c.args.store.now c.requires _ _ c.from_residual.result c.from_residual.ensures.1
    (based-same st c.setting_ready.new.base c.in-Ok-setting_ready.ensures.same)

pub set_kept-requires-clause-may : goal.set_kept-requires-clause-may
set_kept-requires-clause-may g c =
    let st = state_of c.args.self.now in
    let id = c.args.cell.now.id.number in
    let set = setting_data c.in-Ok-setting_ready.set in
    let is : record_data c.in_ok-made.made ≡ set_record st.stored.base set.info.number id set.field.number set.value
    = c.in_ok-made.ensures ∙ ap (λ (d : Database). set_record d set.info.number id set.field.number set.value) c.in-Ok-setting_ready.ensures.same in
    held-so (g.K.Keeper.told c.args.store.now) st.stored (λ (t : Stored). MayPut t set.info (record_data c.in_ok-made.made)) c.requires.told
    (subst (MayPut st.stored set.info) (sym is)
    (may-set c.databases_stay.ensures st.stored c.requires.stored id set c.in-Ok-setting_ready.ensures.known c.in-Ok-setting_ready.ensures.fits))

pub returns : goal.returns
returns g c =
    let st = state_of c.args.self.now in
    let cell = c.args.cell.now in
    let s = c.in-Ok.s.now in
    let id = cell.id.number in
    let set = setting_data c.in-Ok-setting_ready.set in
    let made = record_data c.in_ok-made.made in
    let same = c.in-Ok-setting_ready.ensures.same in
    let live : live_session st c.args.session.now.name ≡ Ok s = ap (live_session st) (sym c.bytes.ensures.bytes) ∙ c.in-Ok.ensures in
    let is : made ≡ set_record st.stored.base set.info.number id set.field.number set.value
    = c.in_ok-made.ensures ∙ ap (λ (d : Database). set_record d set.info.number id set.field.number set.value) same in
    let new = with_field set.info.number id set.field.number set.value st.stored.base in
    let new_is : with_field set.info.number made.id set.field.number set.value c.setting_ready.new.base ≡ new
    = ap (λ (r : Record). with_field set.info.number r.id set.field.number set.value c.setting_ready.new.base) is ∙ ap (with_field set.info.number id set.field.number set.value) same in
    let known = c.in-Ok-setting_ready.ensures.known in
    let fits = c.in-Ok-setting_ready.ensures.fits in
    ends-based g.K.Keeper.told g.K.Keeper.calls g.K.Keeper.faults st c.args.store.now c.requires c.set_kept.new.store (with_put set.info.number made) Put answer.Done new c.set_kept.new.base
    c.set_kept.result (write_stage st c.args.session.now cell.model.now cell.id cell.field.now c.args.l.now) c.set_kept.ensures.keeps
    (goes-through (live_session st c.args.session.now.name) (λ (s : Session). ready_setting st.stored.schema st.stored.base s.who cell.model.now id cell.field.now c.args.l.now) (written st id) s set live
    c.in-Ok-setting_ready.ensures.ready)
    c.set_kept.ensures.reply (subst (λ (d : Database). OnOk c.set_kept.result (c.set_kept.new.base ≡ d)) new_is c.set_kept.ensures.done)
    (subst (λ (d : Database). OnErr c.set_kept.result (c.set_kept.new.base ≡ d)) same c.set_kept.ensures.kept) (Puts refl refl)
    (ap (λ (r : Record). with_put set.info.number r st.stored) is ∙ set-over c.databases_stay.ensures st.stored c.requires.stored id set known fits)
    (set-stored c.databases_stay.ensures st.stored c.requires.stored id set known fits)
