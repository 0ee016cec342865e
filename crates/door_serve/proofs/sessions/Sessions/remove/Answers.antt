use Rattle.std.proofs.Common.{◌∙◌, ap, map, sym}
use Rattle.door_meaning.specs.declared.session.Session.{Session}
use Rattle.door_serve.proofs.SessionNames.{names-less}
use Rattle.door_serve.proofs.sessions.Sessions.remove.Goals as goal

pub invariant_of-self : goal.invariant_of-self
invariant_of-self c =
    ap (map (λ k. k.items)) c.shift_remove_index.ensures.keys
    ∙ names-less (λ k. k.items) (λ (s : Session). s.name) c.self.inside.names.keys c.self.inside.opened.items c.self.invariant c.args.at
    ∙ ap (map (λ (s : Session). s.name)) (sym c.remove.ensures.items)
