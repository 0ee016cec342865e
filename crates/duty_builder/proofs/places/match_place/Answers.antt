use Rattle.std.proofs.Common.{◌≡◌, ◌++◌, ◌∷◌, [], length, refl, arith}
use Rattle.type_schema.specs.Uses.{uses_of}
use Rattle.type_schema.specs.Views.{expr_of}
use Rattle.duty_meaning.specs.Cases.{at_ends}
use Rattle.duty_meaning.specs.Formulas.{cases_of}
use Rattle.duty_meaning.specs.Reach.{end_is_none, end_is_some, reach}
use Rattle.duty_builder.proofs.Standing.{in_three}
use Rattle.duty_builder.proofs.places.match_place.Goals as goal

pub returns : goal.returns
returns c =
    let of = expr_of c.args.of.now in
    let same : c.in_ok-count.count ≡ length (uses_of (expr_of c.args.of.now)) = omega (arith, c.in_ok-count.ensures) in
    let same' : c.in_ok-more.more ≡ length (uses_of (expr_of c.args.a.now)) = omega (arith, c.in_ok-more.ensures) in
    λ name s written y env above. in_three s written y env above c.args.number c.in_ok-count.count _ c.in_ok-more.more _ c.saturating_sub-rest.result c.saturating_sub-last.result
    c.pick.result _ c.pick-second.result _ _ (λ n. reach s written y env of n above)
    (λ n. at_ends above (end_is_none s (reach s written y env (expr_of c.args.a.now) n above)) (cases_of s written env of))
    (λ n. at_ends above (end_is_some s (λ v. reach s written y (env ++ v ∷ []) (expr_of c.args.c.now) n above)) (cases_of s written env of))
    c.pick.ensures c.pick-second.ensures same same' c.saturating_sub-rest.ensures c.saturating_sub-last.ensures refl refl refl
