use Rattle.std.proofs.Common.{◌∙◌}
use Rattle.ground_problem.proofs.AllLaws.{base_are, told_ones}
use Rattle.ground_problem.proofs.base.base_clauses.Goals as goal

pub push_terms-requires : goal.push_terms-requires
push_terms-requires c = told_ones c.args.terms.now c.args.words.now.named.items c.args.words.now.others.items _ (c.as_slice.ensures.value ∙ c.in_ok-told.ensures) c.requires.named c.requires.others

pub push_sorts-requires : goal.push_sorts-requires
push_sorts-requires c = told_ones c.args.terms.now c.args.words.now.named.items c.args.words.now.others.items _ (c.as_slice-2.ensures.value ∙ c.in_ok-told.ensures) c.requires.named c.requires.others

pub returns : goal.returns
returns c =
    base_are c.args.signature.now c.args.arena.now c.args.terms.now c.args.words.now _ _ _ _ _ _ _ _ c.new-clauses.ensures.items (c.as_slice.ensures.value ∙ c.in_ok-told.ensures) (c.as_slice-2.ensures.value ∙ c.in_ok-told.ensures)
    c.as_slice-3.ensures.value c.in_ok-push_terms.ensures c.in_ok-push_sorts.ensures c.in_ok-push_pairs.ensures c.in_ok-push_functions.ensures
