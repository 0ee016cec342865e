use Rattle.std.proofs.Common.{◌∙◌, List, ℕ, Bool, subst, sym, ap}
use Rattle.std.specs.List.{filter}
use Rattle.std.proofs.Common.{take, ◌+◌}
use Rattle.form_terms.specs.GroundTerms.{GroundTerm, sort_of, is_number}
use Rattle.ground_terms.specs.Standing.{terms_at, AreTermsAt}
use Rattle.ground_terms.proofs.Standing.{one_at, passes_next, fails_next}
use Rattle.ground_terms.proofs.listing.of_sort.Goals as goal
use Rattle.ground_terms.proofs.listing.of_sort.Goals.{then-has_sort+in_ok-push, else-has_sort}

pub has_sort-requires : goal.has_sort-requires
has_sort-requires c = one_at c.args.terms.now c.args.listed.now c.loop-id.id-index 0 c.requires c.loop-id-test.true

pub loop-id-preserved : goal.loop-id-preserved
loop-id-preserved c =
    let g = c.args.signature.now in
    let P : List ℕ → Type 0 =
    λ found. AreTermsAt c.args.terms.now found (filter (λ (t : GroundTerm). is_number (sort_of g t) c.args.sort) (terms_at c.args.terms.now (take (c.loop-id.id-index + 1) c.args.listed.now))) in
    let p : GroundTerm → Bool = λ t. is_number (sort_of g t) c.args.sort in
    elim c.if-has_sort.branch [
      | then-has_sort+in_ok-push w ↦
          subst P (sym (ap (λ v. v.items) w.found-is ∙ w.in_ok-push.ensures.items))
          (passes_next c.args.terms.now p c.args.listed.now c.loop-id.id-index c.loop-id.found.items c.requires c.loop-id-test.true (sym c.has_sort.ensures ∙ w.if-has_sort.true) c.loop-id.invariant)
      | else-has_sort w ↦
          subst P (sym (ap (λ v. v.items) w.found-is))
          (fails_next c.args.terms.now p c.args.listed.now c.loop-id.id-index c.loop-id.found.items c.loop-id-test.true (sym c.has_sort.ensures ∙ w.if-has_sort.false) c.loop-id.invariant)
    ]
