use Rattle.std.proofs.Common.{◌≢◌, ◌+◌, ◌<◌, ℕ, List, All, subst, sym}
use Rattle.std.specs.Prelude.{AllPairs}
use Rattle.certify_problem.proofs.Lists.{fixed_in, fixed_once}
use Rattle.certify_problem.proofs.listed.listed.Goals as goal

pub invariant_of-result-clause-fixed_within : goal.invariant_of-result-clause-fixed_within
invariant_of-result-clause-fixed_within c = subst (λ (fs : List ℕ). All (λ f. f < c.args.terms + c.args.texts) fs) (sym c.in_ok-fixed.ensures.are) (fixed_in c.args.terms c.args.texts)

pub invariant_of-result-clause-fixed_once : goal.invariant_of-result-clause-fixed_once
invariant_of-result-clause-fixed_once c = subst (λ (fs : List ℕ). AllPairs (λ f h. f ≢ h) fs) (sym c.in_ok-fixed.ensures.are) (fixed_once c.args.terms c.args.texts)
