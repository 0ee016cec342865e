use Rattle.std.proofs.Common.{◌≡◌, ℕ, ◌+◌, ◌<◌, List, true, length, get_or, subst, sym, arith}
use Rattle.ground_terms.specs.Standing.{AreOnes}
use Rattle.ground_terms.proofs.Standing.{ones_kept}
use Rattle.ground_instances.specs.Shapes.{is_in}
use Rattle.ground_instances.proofs.MaskLaws.{masked_on, masked_done}
use Rattle.ground_instances.proofs.instance.masked.Goals as goal

pub loop-place-preserved : goal.loop-place-preserved
loop-place-preserved c =
    let terms = c.add.new.self in
    let P : List ℕ → Type 0 = λ ids. (length ids ≡ c.loop-place.place + 1) × AreOnes terms ids × ((k : ℕ) → k < c.loop-place.place + 1 → is_in c.args.mask k ≡ true → get_or ids k 0 ≡ get_or c.args.variables.now k 0) in
    subst P (sym c.in_ok-push.ensures.items)
    (masked_on c.args.mask terms c.args.variables.now c.loop-place.kept.items c.loop-place.place c.in_ok-blank.blank c.pick-term.result c.loop-place-test.true
    (ones_kept c.args.terms.now terms c.args.variables.now c.in_ok-blank.ensures.made.kept c.requires) c.in_ok-blank.ensures.made.kind c.pick-term.ensures c.loop-place.invariant.0 c.loop-place.invariant.1 c.loop-place.invariant.2)

pub returns : goal.returns
returns c =
    let end : c.loop-place.place ≡ length c.args.variables.now = omega arith in
    masked_done c.args.mask c.args.terms.now c.add.new.self c.args.variables.now c.loop-place.kept.items c.loop-place.place c.in_ok-blank.ensures.made.kept end c.loop-place.invariant.0 c.loop-place.invariant.1 c.loop-place.invariant.2
