use Rattle.std.proofs.Common.{◌∙◌}
use Rattle.door_meaning.specs.State.{is_named}
use Rattle.door_judge.proofs.Places.{any_placed}
use Rattle.door_serve.proofs.sessions.Sessions.has.Goals as goal

pub returns : goal.returns
returns c = c.is_some.ensures ∙ any_placed (is_named c.args.name.now) c.args.self.now c.place_of.result c.place_of.ensures.first
