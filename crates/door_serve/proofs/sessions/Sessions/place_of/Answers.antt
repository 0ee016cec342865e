use Rattle.std.proofs.Common.{◌∙◌, ap}
use Rattle.std.specs.Prelude.{position}
use Rattle.door_meaning.specs.declared.session.Session.{Session}
use Rattle.door_meaning.specs.State.{is_named}
use Rattle.door_serve.proofs.SessionNames.{placed-by}
use Rattle.door_serve.proofs.sessions.Sessions.place_of.Goals as goal

pub returns-clause-first : goal.returns-clause-first
returns-clause-first c =
    c.get_index_of.ensures.index
    ∙ placed-by (λ k. k.items) (λ (s : Session). s.name) c.self.inside.names.keys c.self.inside.opened.items c.self.invariant c.args.name.now
    ∙ ap (position (is_named c.args.name.now)) c.self.view_is
