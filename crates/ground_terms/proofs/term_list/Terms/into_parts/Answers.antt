use Rattle.std.proofs.Common.{refl}
use Rattle.ground_terms.proofs.Standing.{ones_there}
use Rattle.ground_terms.proofs.term_list.Terms.into_parts.Goals as goal

pub returns : goal.returns
returns c = record { ones = ones_there _ _ c.args.self.ones; are = refl }
