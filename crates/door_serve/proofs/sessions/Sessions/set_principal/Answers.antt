use Rattle.std.proofs.Common.{◌∙◌, ap, sym}
use Rattle.door_meaning.specs.declared.session.Session.{Session}
use Rattle.door_serve.proofs.SessionNames.{names-kept}
use Rattle.door_serve.proofs.sessions.Sessions.set_principal.Goals as goal

pub invariant_of-self : goal.invariant_of-self
invariant_of-self c =
    c.self.invariant ∙ sym (names-kept (λ (s : Session). s.name) c.self.inside.opened.items c.args.at _ c.index_mut.result.now (ap (λ (s : Session). s.name) c.index_mut.ensures.value))
