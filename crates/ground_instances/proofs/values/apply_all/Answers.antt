use Rattle.std.proofs.Common.{◌≡◌, length, rules, []}
use Rattle.ground_terms.proofs.WalkLemmas.{none_left}
use Rattle.ground_instances.proofs.ValueLaws.{reached_begun, reached_on, reached_done}
use Rattle.ground_instances.proofs.values.apply_all.Goals as goal

pub up-init : goal.up-init
up-init c = λ nodes. reached_begun nodes c.args.terms.now c.args.functions.items c.args.value c.requires

pub apply-requires : goal.apply-requires
apply-requires c = (c.up.invariant []).has.fits

pub up-preserved : goal.up-preserved
up-preserved c = λ nodes. reached_on nodes _ _ _ _ _ _ c.in-Some.f _ _ c.in-Some.ensures.items (c.up.invariant nodes) (c.in_ok-value.ensures nodes)

pub returns : goal.returns
returns c = λ nodes.
    let e : length c.up.functions.items ≡ 0 = search rules in
    reached_done nodes _ _ _ c.up.functions.items _ (none_left c.up.functions.items e) (c.up.invariant nodes)
