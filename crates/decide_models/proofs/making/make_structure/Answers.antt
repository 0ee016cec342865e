use Rattle.std.proofs.Common.{◌∙◌, ap, subst, sym, length, List, ℕ, ◌<◌, ◌++◌}
use Rattle.std.specs.Prelude.{All}
use Rattle.form_formula.specs.Nodes.{formula_of}
use Rattle.decide_models.specs.Columns.{class_lists}
use Rattle.decide_models.proofs.Whole.{ones_below, both_ones, structure_made, picks_made}
use Rattle.decide_models.proofs.making.make_structure.Goals as goal

pub class_lists-requires : goal.class_lists-requires
class_lists-requires c =
    let P : List ℕ → Type 0 = λ xs. All (λ id. id < length c.args.terms.now) xs in
    subst P (sym c.as_slice-named.ensures.value) (ones_below c.args.terms.now c.args.words.now.named.items c.requires.words.named)

pub picks-requires-clause-below : goal.picks-requires-clause-below
picks-requires-clause-below c =
    let P : List ℕ → Type 0 = λ xs. All (λ id. id < length c.args.terms.now) xs in
    subst P (sym c.as_slice-named.ensures.value) (ones_below c.args.terms.now c.args.words.now.named.items c.requires.words.named)

pub structure_from-requires : goal.structure_from-requires
structure_from-requires c =
    let w = c.args.words.now in
    ones_below c.args.terms.now (w.named.items ++ w.others.items) (both_ones c.args.terms.now w.named.items w.others.items c.requires.words.named c.requires.words.others)

pub returns-clause-structure : goal.returns-clause-structure
returns-clause-structure c = λ listed table over words told.
    let g = c.args.signature.now in
    let nodes = c.args.terms.now in
    let found = c.args.found.now in
    structure_made g (formula_of c.args.arena.now c.args.id) listed over nodes c.args.words.now found table c.len-nodes.ensures.placed told c.requires.words words _ _ _
    (c.in_ok-all.ensures ∙ ap (class_lists g nodes found) c.as_slice-named.ensures.value) c.in_ok-elements.ensures c.in_ok-structure.ensures

pub returns-clause-picks : goal.returns-clause-picks
returns-clause-picks c = λ listed table over words told.
    let g = c.args.signature.now in
    let nodes = c.args.terms.now in
    let found = c.args.found.now in
    picks_made g (formula_of c.args.arena.now c.args.id) listed over nodes c.args.words.now found table c.len-nodes.ensures.placed told c.requires.words words c.as_slice-named.result.now
    _ _ _ c.as_slice-named.ensures.value (c.in_ok-all.ensures ∙ ap (class_lists g nodes found) c.as_slice-named.ensures.value) c.in_ok-elements.ensures c.in_ok-picks.ensures
