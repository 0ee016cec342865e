use Rattle.std.proofs.Common.{◌∙◌, None, Some, refl, sym}
use Rattle.data_records.proofs.Firsts.{none-from_position}
use Rattle.door_meaning.specs.State.{at_version, is_named}
use Rattle.door_judge.proofs.Places.{changed_at, found_there, placed}
use Rattle.door_serve.proofs.SessionLemmas.{renew_done, renew_gone, renew_none}
use Rattle.door_serve.proofs.door.Door.renew.Goals as goal

pub returns-in_default : goal.returns-in_default
returns-in_default c =
    let at = placed is_named c.args.session.now _ c.args.self.now.sessions _ None c.bytes.ensures.bytes c.place_of.ensures.first c.in_default.is in
    renew_none c.args.self.now c.args.session.now (none-from_position (is_named c.args.session.now) _ at)

pub returns-then-not-has_principal : goal.returns-then-not-has_principal
returns-then-not-has_principal c =
    let at = placed is_named c.args.session.now _ c.args.self.now.sessions _ (Some c.in-Some.at) c.bytes.ensures.bytes c.place_of.ensures.first c.in-Some.is in
    let s = found_there (is_named c.args.session.now) _ _ at in
    renew_gone c.args.self.now c.args.session.now s.0 s.1 (sym (c.has_principal.ensures s.0 s.2) ∙ c.if-not-has_principal.true)

pub returns : goal.returns
returns c =
    let at = placed is_named c.args.session.now _ c.args.self.now.sessions _ (Some c.in-Some.at) c.bytes.ensures.bytes c.place_of.ensures.first c.in-Some.is in
    let s = found_there (is_named c.args.session.now) _ _ at in
    renew_done c.args.self.now c.args.session.now s.0 _ _ s.1 (sym (c.has_principal.ensures s.0 s.2) ∙ c.if-not-has_principal.false) refl refl
    (c.set_version.ensures s.0 ∙ changed_at (is_named c.args.session.now) (at_version c.args.self.now.stored.version) _ _ s.0 at)
