use Rattle.std.proofs.Common.{◌≡◌, length, rules}
use Rattle.ground_terms.specs.Parts.{ground_name}
use Rattle.ground_terms.proofs.Chains.{climb_begun, climb_on, climb_done}
use Rattle.ground_terms.proofs.WalkLemmas.{none_left}
use Rattle.ground_terms.proofs.chain.list_chain.Goals as goal

pub up-init : goal.up-init
up-init c =
    climb_begun c.args.signature.now (ground_name c.args.name) c.args.functions.items _ _ c.in_ok-at.at _ _ c.requires c.in_ok-at.ensures.one c.in_ok-at.ensures.is c.in_ok-at.ensures.listed

pub list_field-requires : goal.list_field-requires
list_field-requires c = c.up.invariant.one

pub up-preserved : goal.up-preserved
up-preserved c =
    climb_on c.args.signature.now (ground_name c.args.name) c.args.functions.items _ _ c.in-Some.f _ _ _ _ _ _ _ c.in-Some.ensures.items c.up.invariant
    c.in_ok-at-2.ensures.one c.in_ok-at-2.ensures.is c.in_ok-at-2.ensures.listed

pub returns : goal.returns
returns c =
    let e : length c.up.functions.items ≡ 0 = search rules in
    climb_done c.args.signature.now (ground_name c.args.name) c.args.functions.items c.up.functions.items _ _ _ _ (none_left c.up.functions.items e) c.up.invariant
