use Rattle.std.proofs.Common.{◌∙◌, None, Some, refl}
use Rattle.door_meaning.specs.State.{is_named}
use Rattle.door_judge.proofs.Places.{nowhere, placed, removed_at, somewhere}
use Rattle.door_serve.proofs.SessionLemmas.{close_done, close_none}
use Rattle.door_serve.proofs.door.Door.close.Goals as goal

pub returns-in-Some : goal.returns-in-Some
returns-in-Some c =
    let at = placed is_named c.args.session.now _ c.args.self.now.sessions _ (Some c.in-Some.at) c.bytes.ensures.bytes c.place_of.ensures.first c.in-Some.is in
    close_done c.args.self.now c.args.session.now _ (somewhere (is_named c.args.session.now) _ _ at) refl (c.remove.ensures ∙ removed_at (is_named c.args.session.now) _ _ at)

pub returns-in-None : goal.returns-in-None
returns-in-None c =
    let at = placed is_named c.args.session.now _ c.args.self.now.sessions _ None c.bytes.ensures.bytes c.place_of.ensures.first c.in-None.is in
    close_none c.args.self.now c.args.session.now (nowhere (is_named c.args.session.now) _ at)
