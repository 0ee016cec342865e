use Rattle.std.proofs.Common.{◌∙◌, List, ℕ, subst, sym, ap, take, ◌+◌}
use Rattle.std.specs.List.{filter}
use Rattle.ground_terms.specs.Applying.{is_plain_in}
use Rattle.ground_terms.specs.Standing.{terms_at, AreTermsAt}
use Rattle.ground_terms.proofs.Standing.{one_at, passes_next, fails_next}
use Rattle.ground_terms.proofs.first.plain_terms.Goals as goal
use Rattle.ground_terms.proofs.first.plain_terms.Goals.{then-is_plain+in_ok-push, else-is_plain}

pub is_plain-requires : goal.is_plain-requires
is_plain-requires c = one_at c.args.terms.now c.args.listed.now c.loop-id.id-index 0 c.requires c.loop-id-test.true

pub loop-id-preserved : goal.loop-id-preserved
loop-id-preserved c =
    let fs : List ℕ = c.args.functions.now in
    let P : List ℕ → Type 0 =
    λ found. AreTermsAt c.args.terms.now found (filter (is_plain_in fs) (terms_at c.args.terms.now (take (c.loop-id.id-index + 1) c.args.listed.now))) in
    elim c.if-is_plain.branch [
      | then-is_plain+in_ok-push w ↦
          subst P (sym (ap (λ v. v.items) w.found-is ∙ w.in_ok-push.ensures.items))
          (passes_next c.args.terms.now (is_plain_in fs) c.args.listed.now c.loop-id.id-index c.loop-id.found.items c.requires c.loop-id-test.true (sym c.is_plain.ensures ∙ w.if-is_plain.true) c.loop-id.invariant)
      | else-is_plain w ↦
          subst P (sym (ap (λ v. v.items) w.found-is))
          (fails_next c.args.terms.now (is_plain_in fs) c.args.listed.now c.loop-id.id-index c.loop-id.found.items c.loop-id-test.true (sym c.is_plain.ensures ∙ w.if-is_plain.false) c.loop-id.invariant)
    ]
