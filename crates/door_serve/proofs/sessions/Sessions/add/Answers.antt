use Rattle.std.proofs.Common.{◌∙◌, ◌∷◌, ◌++◌, [], ap, cond, map, refl, sym}
use Rattle.std.specs.List.{list_any}
use Rattle.std.specs.Str.{bytes_eq}
use Rattle.door_meaning.specs.declared.session.Session.{Session}
use Rattle.door_meaning.specs.State.{is_named}
use Rattle.door_serve.proofs.SessionNames.{names-more}
use Rattle.door_serve.proofs.sessions.Sessions.add.Goals as goal

pub invariant_of-self-2 : goal.invariant_of-self-2
invariant_of-self-2 c =
    names-more (λ k. k.items) (λ (s : Session). s.name) c.self.inside.names.keys c.self.inside.opened.items c.self.invariant c.args.session.name c.in_ok-name.name c.args.session
    c.insert.new.self.keys (ap (list_any (is_named c.args.session.name)) c.self.view_is ∙ c.requires)
    (c.in_ok-name.ensures.items_if_clones_equal (λ x y e. e) ∙ c.bytes.ensures.bytes) refl
    (c.in_ok-insert.ensures.keys
    ∙ ap (λ ks. cond (list_any (λ j. bytes_eq c.in_ok-name.name.items j.items) ks) ks (ks ++ c.in_ok-name.name ∷ [])) c.reserve.ensures.keys)
    ∙ ap (map (λ (s : Session). s.name)) (sym c.in_ok-push.ensures.items)
