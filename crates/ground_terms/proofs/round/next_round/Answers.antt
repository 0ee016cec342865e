use Rattle.std.proofs.Common.{◌≡◌, rules}
use Rattle.ground_terms.proofs.Standing.{ones_kept}
use Rattle.ground_terms.proofs.AppliedTerms.{round_listed}
use Rattle.ground_terms.proofs.round.next_round.Goals as goal

pub list_parts-requires : goal.list_parts-requires
list_parts-requires c = ones_kept c.args.terms.now _ c.args.current.now c.in_ok-list_functions.ensures.kept c.requires.current

pub returns : goal.returns
returns c =
    let e : c.in_ok-next.next.items ≡ c.args.plain.now = search rules in
    round_listed c.args.signature.now c.args.plain.now c.args.current.now c.args.functions.now c.args.parts.now _ _ _ _ _ _ c.requires.plain c.requires.current e
    c.in_ok-list_functions.ensures c.in_ok-list_parts.ensures
