use Rattle.std.specs.Prelude.{vec_len}
use Rattle.ground_terms.specs.Parts.{ground_name}
use Rattle.ground_terms.specs.Codes.{IsClimb}
use Rattle.ground_terms.proofs.chain.list_chain.Given as goal

abbrev pub invariant-up : goal.invariant-up
invariant-up l = IsClimb l.signature (ground_name l.fn.name) l.initial.functions.items l.functions.items l.fn.terms l.terms l.at l.listed.items

abbrev pub decreases-up : goal.decreases-up
decreases-up l = vec_len l.functions
