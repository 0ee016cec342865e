use Rattle.std.proofs.Common.{ap, ◌∙◌}
use Rattle.link_arena.specs.Lists.{Lists, is_linked}
use Rattle.link_arena.proofs.LinkedLemmas.{is_linked-unlinked}
use Rattle.link_arena.proofs.rings.Rings.move_to.Goals as goal

pub push_back-requires-clause-unlinked : goal.push_back-requires-clause-unlinked
push_back-requires-clause-unlinked c =
    ap (λ (s : Lists). is_linked c.args.node s.lists) c.unlink.ensures ∙ is_linked-unlinked c.args.node c.args.self.now.lists
