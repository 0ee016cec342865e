use Rattle.std.proofs.Common.{◌-◌, arith, subst, List, ℕ, [], get_or}
use Rattle.form_terms.specs.Listing.{with_each}
use Rattle.ground_terms.specs.Applying.{of_sort_in}
use Rattle.ground_terms.specs.Standing.{terms_at, lists_at, AreListsListed}
use Rattle.ground_terms.proofs.Standing.{ones_kept}
use Rattle.ground_terms.proofs.AppliedTerms.{choice_listed}
use Rattle.ground_terms.proofs.round.choices.Goals as goal

pub longer_lists-requires-clause-ones : goal.longer_lists-requires-clause-ones
longer_lists-requires-clause-ones c = ones_kept c.args.terms.now c.left.terms c.args.current.now c.left.invariant.1.kept c.requires

pub left-preserved : goal.left-preserved
left-preserved c =
    let g = c.args.signature.now in
    let Q : List ℕ → Type 0 =
    λ rests. AreListsListed (with_each (of_sort_in g (terms_at c.left.terms c.args.current.now) (get_or c.args.sorts.now (c.left.left - 1) 0)) (lists_at c.left.terms rests))
    c.left.terms c.longer_lists.new.terms [] c.in_ok-lists-2.lists.items in (
      omega arith,
      choice_listed g c.args.current.now c.args.sorts.now c.left.left (c.left.left - 1) c.args.terms.now c.left.terms c.longer_lists.new.terms c.left.lists.items c.in_ok-lists-2.lists.items
          c.requires (omega arith) (omega arith) c.left.invariant.1 (subst Q c.as_slice.ensures.value c.in_ok-lists-2.ensures),
    )
