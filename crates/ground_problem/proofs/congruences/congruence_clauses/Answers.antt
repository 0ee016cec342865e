use Rattle.std.proofs.Common.{◌∙◌}
use Rattle.ground_problem.proofs.AllLaws.{congruent, told_ones}
use Rattle.ground_problem.proofs.congruences.congruence_clauses.Goals as goal

pub push_alikes-requires : goal.push_alikes-requires
push_alikes-requires c = told_ones c.args.terms.now c.args.words.now.named.items c.args.words.now.others.items _ (c.as_slice.ensures.value ∙ c.in_ok-told.ensures) c.requires.named c.requires.others

pub returns : goal.returns
returns c =
    congruent c.args.signature.now c.args.arena.now c.args.terms.now c.args.words.now _ _ _ _ _ _ _ _ _ c.new-clauses.ensures.items (c.as_slice.ensures.value ∙ c.in_ok-told.ensures) c.as_slice-2.ensures.value c.as_slice-3.ensures.value
    c.as_slice-4.ensures.value c.in_ok-push_alikes.ensures c.in_ok-push_elements.ensures c.in_ok-push_values.ensures c.in_ok-push_relations.ensures
