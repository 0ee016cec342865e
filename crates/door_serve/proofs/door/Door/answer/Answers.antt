use Rattle.std.proofs.Common.{[], refl, ap, sym, ◌∙◌, subst}
use Rattle.std.specs.Prelude.{Result, Ok}
use Rattle.door_requests.specs.declared.requests.Request.{Request}
use Rattle.door_requests.specs.declared.requests.Request.TheVariants as request
use Rattle.door_meaning.specs.declared.reply.Reply.{Reply}
use Rattle.door_meaning.specs.Records.{create_stage, delete_stage, find_stage, read_stage, write_stage}
use Rattle.door_meaning.specs.Sessions.{closed, opened, outcome_of, renewed}
use Rattle.door_meaning.specs.Migrates.{IsMigration}
use Rattle.door_meaning.specs.Step.{IsAnswered, MayFetch, NoFile}
use Rattle.door_serve.specs.Doing.{Does}
use Rattle.door_serve.specs.DoorState.{state_of}
use Rattle.door_serve.specs.Moving.{MigrationMayFetch}
use Rattle.door_serve.specs.declared.door_err.DoorErr.{DoorErr}
use Rattle.door_serve.proofs.Doing.{does-change, does-look, does-nothing, does-starve-end, does-wider}
use Rattle.door_serve.proofs.Migrating.{migration-fetch}
use Rattle.door_serve.proofs.StoredStays.{closed-stays, opened-stays, renewed-stays}
use Rattle.door_serve.proofs.door.Door.answer.Goals as goal

pub returns-in_err-open_session-in-Open : goal.returns-in_err-open_session-in-Open
returns-in_err-open_session-in-Open g c =
    let st = state_of c.args.self.now in
    does-starve-end g.F.Shelf.told g.F.Shelf.calls g.F.Shelf.faults g.K.Keeper.told g.K.Keeper.calls g.K.Keeper.faults (MayFetch st c.args.request.now) (NoFile refl)
    (IsAnswered (g.F.Shelf.told c.args.shelf.now) st c.args.request.now) st
    c.args.shelf.now c.args.store.now c.requires c.from_residual.result (state_of c.open_session.new.self) c.from_residual.ensures.1 c.in_err-open_session-in-Open.ensures.kept

pub returns-in_ok-open_session-in-Open : goal.returns-in_ok-open_session-in-Open
returns-in_ok-open_session-in-Open g c =
    let st = state_of c.args.self.now in
    let name = c.in-Open.session.name in
    let files = g.F.Shelf.told c.args.shelf.now in
    let gives = c.in_ok-open_session-in-Open.ensures.done in
    subst (λ (r : Request). Does g.F.Shelf.told g.F.Shelf.calls g.F.Shelf.faults g.K.Keeper.told g.K.Keeper.calls g.K.Keeper.faults (MayFetch st r) (IsAnswered files st r) st c.args.shelf.now c.args.shelf.now
    c.args.store.now c.args.store.now (Ok c.in_ok-open_session-in-Open.field-0) (state_of c.open_session.new.self)) (sym c.in-Open.is)
    (does-nothing g.F.Shelf.told g.F.Shelf.calls g.F.Shelf.faults g.K.Keeper.told g.K.Keeper.calls g.K.Keeper.faults
    (MayFetch st (request.Open c.in-Open.session c.in-Open.who c.in-Open.field-2)) (NoFile refl) (IsAnswered files st (request.Open c.in-Open.session c.in-Open.who c.in-Open.field-2)) st c.args.shelf.now c.args.store.now c.requires (opened st name c.in-Open.who)
    c.in_ok-open_session-in-Open.field-0 (state_of c.open_session.new.self) (refl, refl) gives.replied gives.kept (opened-stays st name c.in-Open.who))

pub returns-in-Renew : goal.returns-in-Renew
returns-in-Renew g c =
    let st = state_of c.args.self.now in
    let name = c.in-Renew.session.name in
    let answers = IsAnswered (g.F.Shelf.told c.args.shelf.now) st in
    let comes : answers c.args.request.now [] (renewed st name) = subst (λ (r : Request). answers r [] (renewed st name)) (sym c.in-Renew.is) (refl, refl) in
    does-nothing g.F.Shelf.told g.F.Shelf.calls g.F.Shelf.faults g.K.Keeper.told g.K.Keeper.calls g.K.Keeper.faults (MayFetch st c.args.request.now) (NoFile refl) (answers c.args.request.now) st c.args.shelf.now c.args.store.now c.requires
    (renewed st name) c.renew.result (state_of c.renew.new.self) comes c.renew.ensures.replied c.renew.ensures.kept (renewed-stays st name)

pub returns-in-Close : goal.returns-in-Close
returns-in-Close g c =
    let st = state_of c.args.self.now in
    let name = c.in-Close.session.name in
    let answers = IsAnswered (g.F.Shelf.told c.args.shelf.now) st in
    let comes : answers c.args.request.now [] (closed st name) = subst (λ (r : Request). answers r [] (closed st name)) (sym c.in-Close.is) (refl, refl) in
    does-nothing g.F.Shelf.told g.F.Shelf.calls g.F.Shelf.faults g.K.Keeper.told g.K.Keeper.calls g.K.Keeper.faults (MayFetch st c.args.request.now) (NoFile refl) (answers c.args.request.now) st c.args.shelf.now c.args.store.now c.requires
    (closed st name) c.close.result (state_of c.close.new.self) comes c.close.ensures.replied c.close.ensures.kept (closed-stays st name)

pub returns-in-Read : goal.returns-in-Read
returns-in-Read g c =
    let st = state_of c.args.self.now in
    let files = g.F.Shelf.told c.args.shelf.now in
    let r = request.Read c.in-Read.session c.in-Read.model c.in-Read.id c.in-Read.field c.in-Read.field-4 in
    let stage = read_stage st c.in-Read.session c.in-Read.model c.in-Read.id c.in-Read.field in
    subst (λ (r : Request). Does g.F.Shelf.told g.F.Shelf.calls g.F.Shelf.faults g.K.Keeper.told g.K.Keeper.calls g.K.Keeper.faults (MayFetch st r) (IsAnswered files st r) st c.args.shelf.now
    c.args.shelf.now c.args.store.now c.args.store.now c.looked.result st) (sym c.in-Read.is)
    (subst (λ (end : Result Reply DoorErr). Does g.F.Shelf.told g.F.Shelf.calls g.F.Shelf.faults g.K.Keeper.told g.K.Keeper.calls g.K.Keeper.faults (MayFetch st r) (IsAnswered files st r) st
    c.args.shelf.now c.args.shelf.now c.args.store.now c.args.store.now end st) (sym c.looked.ensures)
    (does-look g.F.Shelf.told g.F.Shelf.calls g.F.Shelf.faults g.K.Keeper.told g.K.Keeper.calls g.K.Keeper.faults (MayFetch st r) (NoFile refl) (IsAnswered files st r) st c.args.shelf.now
    c.args.store.now c.requires stage c.read.result (λ outcome e. (refl, e)) c.read.ensures))

pub returns-in-Find : goal.returns-in-Find
returns-in-Find g c =
    let st = state_of c.args.self.now in
    let files = g.F.Shelf.told c.args.shelf.now in
    let stage = find_stage st c.in-Find.session c.in-Find.model c.as_slice.result.now in
    subst (λ (r : Request). Does g.F.Shelf.told g.F.Shelf.calls g.F.Shelf.faults g.K.Keeper.told g.K.Keeper.calls g.K.Keeper.faults (MayFetch st r) (IsAnswered files st r) st c.args.shelf.now c.args.shelf.now
    c.args.store.now c.args.store.now c.looked-in-Find.result st) (sym c.in-Find.is)
    (subst (λ (end : Result Reply DoorErr). Does g.F.Shelf.told g.F.Shelf.calls g.F.Shelf.faults g.K.Keeper.told g.K.Keeper.calls g.K.Keeper.faults
    (MayFetch st (request.Find c.in-Find.session c.in-Find.model c.in-Find.conditions c.in-Find.field-3)) (IsAnswered files st (request.Find c.in-Find.session c.in-Find.model c.in-Find.conditions c.in-Find.field-3)) st c.args.shelf.now c.args.shelf.now c.args.store.now c.args.store.now end st)
    (sym c.looked-in-Find.ensures)
    (does-look g.F.Shelf.told g.F.Shelf.calls g.F.Shelf.faults g.K.Keeper.told g.K.Keeper.calls g.K.Keeper.faults
    (MayFetch st (request.Find c.in-Find.session c.in-Find.model c.in-Find.conditions c.in-Find.field-3)) (NoFile refl) (IsAnswered files st (request.Find c.in-Find.session c.in-Find.model c.in-Find.conditions c.in-Find.field-3)) st c.args.shelf.now c.args.store.now c.requires stage c.find.result
    (λ outcome e. (refl, e ∙ ap (λ conditions. outcome_of st (find_stage st c.in-Find.session c.in-Find.model conditions)) c.as_slice.ensures)) c.find.ensures))

pub returns-in-Write : goal.returns-in-Write
returns-in-Write g c =
    let st = state_of c.args.self.now in
    let files = g.F.Shelf.told c.args.shelf.now in
    subst (λ (r : Request). Does g.F.Shelf.told g.F.Shelf.calls g.F.Shelf.faults g.K.Keeper.told g.K.Keeper.calls g.K.Keeper.faults (MayFetch st r) (IsAnswered files st r) st c.args.shelf.now c.args.shelf.now
    c.args.store.now c.write.new.store c.write.result (state_of c.write.new.self)) (sym c.in-Write.is)
    (does-change g.F.Shelf.told g.F.Shelf.calls g.F.Shelf.faults g.K.Keeper.told g.K.Keeper.calls g.K.Keeper.faults
    (MayFetch st (request.Write c.in-Write.session c.in-Write.model c.in-Write.id c.in-Write.field c.in-Write.value c.in-Write.field-5)) (NoFile refl) (IsAnswered files st (request.Write c.in-Write.session c.in-Write.model c.in-Write.id c.in-Write.field c.in-Write.value c.in-Write.field-5)) st c.args.shelf.now c.args.store.now c.requires
    (outcome_of st (write_stage st c.in-Write.session c.in-Write.model c.in-Write.id c.in-Write.field c.in-Write.value)) c.write.new.store c.write.result (state_of c.write.new.self)
    (refl, refl) c.write.ensures)

pub returns-in-Create : goal.returns-in-Create
returns-in-Create g c =
    let st = state_of c.args.self.now in
    let files = g.F.Shelf.told c.args.shelf.now in
    subst (λ (r : Request). Does g.F.Shelf.told g.F.Shelf.calls g.F.Shelf.faults g.K.Keeper.told g.K.Keeper.calls g.K.Keeper.faults (MayFetch st r) (IsAnswered files st r) st c.args.shelf.now c.args.shelf.now
    c.args.store.now c.create.new.store c.create.result (state_of c.create.new.self)) (sym c.in-Create.is)
    (does-change g.F.Shelf.told g.F.Shelf.calls g.F.Shelf.faults g.K.Keeper.told g.K.Keeper.calls g.K.Keeper.faults
    (MayFetch st (request.Create c.in-Create.session c.in-Create.model c.in-Create.row c.in-Create.field-3)) (NoFile refl) (IsAnswered files st (request.Create c.in-Create.session c.in-Create.model c.in-Create.row c.in-Create.field-3)) st c.args.shelf.now c.args.store.now c.requires
    (outcome_of st (create_stage st c.in-Create.session c.in-Create.model c.as_slice-in-Create.result.now)) c.create.new.store c.create.result (state_of c.create.new.self)
    (refl, ap (λ row. outcome_of st (create_stage st c.in-Create.session c.in-Create.model row)) c.as_slice-in-Create.ensures) c.create.ensures)

pub returns-in-Delete : goal.returns-in-Delete
returns-in-Delete g c =
    let st = state_of c.args.self.now in
    let files = g.F.Shelf.told c.args.shelf.now in
    subst (λ (r : Request). Does g.F.Shelf.told g.F.Shelf.calls g.F.Shelf.faults g.K.Keeper.told g.K.Keeper.calls g.K.Keeper.faults (MayFetch st r) (IsAnswered files st r) st c.args.shelf.now c.args.shelf.now
    c.args.store.now c.delete.new.store c.delete.result (state_of c.delete.new.self)) (sym c.in-Delete.is)
    (does-change g.F.Shelf.told g.F.Shelf.calls g.F.Shelf.faults g.K.Keeper.told g.K.Keeper.calls g.K.Keeper.faults
    (MayFetch st (request.Delete c.in-Delete.session c.in-Delete.model c.in-Delete.id c.in-Delete.field-3)) (NoFile refl) (IsAnswered files st (request.Delete c.in-Delete.session c.in-Delete.model c.in-Delete.id c.in-Delete.field-3)) st c.args.shelf.now c.args.store.now c.requires
    (outcome_of st (delete_stage st c.in-Delete.session c.in-Delete.model c.in-Delete.id)) c.delete.new.store c.delete.result (state_of c.delete.new.self) (refl, refl) c.delete.ensures)

pub returns-in-Migrate : goal.returns-in-Migrate
returns-in-Migrate g c =
    let st = state_of c.args.self.now in
    let files = g.F.Shelf.told c.args.shelf.now in
    let name = c.in-Migrate.name in
    subst (λ (r : Request). Does g.F.Shelf.told g.F.Shelf.calls g.F.Shelf.faults g.K.Keeper.told g.K.Keeper.calls g.K.Keeper.faults (MayFetch st r) (IsAnswered files st r) st c.args.shelf.now
    c.migrate.new.shelf c.args.store.now c.migrate.new.store c.migrate.result (state_of c.migrate.new.self)) (sym c.in-Migrate.is)
    (does-wider g.F.Shelf.told g.F.Shelf.calls g.F.Shelf.faults g.K.Keeper.told g.K.Keeper.calls g.K.Keeper.faults (MigrationMayFetch st name) (MayFetch st (request.Migrate name c.in-Migrate.field-1))
    (migration-fetch st name c.in-Migrate.field-1) (IsMigration files st name) (IsMigration files st name) (λ calls outcome is. is) st c.args.shelf.now c.migrate.new.shelf c.args.store.now
    c.migrate.new.store c.migrate.result (state_of c.migrate.new.self) c.migrate.ensures)
