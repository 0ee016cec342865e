use Rattle.std.proofs.Common.{◌∙◌}
use Rattle.ground_terms.proofs.SameTerms.{from_basis}
use Rattle.ground_terms.proofs.terms.terms_from.Goals as goal

pub returns : goal.returns
returns c = λ f h.
    c.in_ok-ids.ensures.are
    ∙ from_basis c.args.signature.now f c.args.basis _ _ _ c.args.rounds h c.as_slice-2.ensures.value c.as_slice.ensures.value c.as_slice-3.ensures.value
