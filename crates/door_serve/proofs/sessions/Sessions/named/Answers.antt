use Rattle.std.proofs.Common.{◌∙◌, List, ap, get_or, sym}
use Rattle.data_records.proofs.Firsts.{none-from_position}
use Rattle.door_meaning.specs.State.{is_named}
use Rattle.door_meaning.specs.declared.session.Session.{Session}
use Rattle.door_judge.proofs.Places.{found_at}
use Rattle.door_serve.proofs.sessions.Sessions.named.Goals as goal

pub returns-in-Some : goal.returns-in-Some
returns-in-Some c =
    found_at (is_named c.args.name.now) c.args.self.now c.in-Some.at c.index.result.now (sym c.in-Some.ensures.first)
    (c.index.ensures ∙ ap (λ (xs : List Session). get_or xs c.in-Some.at c.index.result.now) c.self.view_is)

pub returns-in-None : goal.returns-in-None
returns-in-None c = sym (none-from_position (is_named c.args.name.now) c.args.self.now (sym c.in-None.ensures.first))
