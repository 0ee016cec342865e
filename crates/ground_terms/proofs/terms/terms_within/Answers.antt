use Rattle.std.proofs.Common.{◌≡◌, ◌∙◌, List, subst, sym, ap}
use Rattle.form_formula.specs.Nodes.{formula_of}
use Rattle.form_terms.specs.GroundTerms.{GroundTerm}
use Rattle.form_terms.specs.Listing.{Lists, terms_after}
use Rattle.form_terms.specs.Universe.{ArisesWithin, IsHerbrandTerm}
use Rattle.form_terms.proofs.CountLaws.{lists_within, lists_herbrand}
use Rattle.ground_terms.specs.TermLists.{terms_in}
use Rattle.ground_terms.proofs.terms.terms_within.Goals as goal

are : (c : goal.In_ok-terms) → terms_in c.in_ok-terms.terms ≡ terms_after c.args.signature.now (formula_of c.args.arena.now c.args.id) c.args.rounds
are c = c.in_ok-terms.ensures (formula_of c.args.arena.now c.args.id) c.in_ok-basis.ensures

pub returns-clause-terms : goal.returns-clause-terms
returns-clause-terms c = are c

pub returns-clause-listed : goal.returns-clause-listed
returns-clause-listed c =
    let g = c.args.signature.now in
    let f = formula_of c.args.arena.now c.args.id in
    let P : List GroundTerm → Type 0 = λ ts. Lists (ArisesWithin g f c.args.rounds) ts in
    subst P (sym (are c)) (lists_within g f c.requires.over c.args.rounds)

pub returns-clause-all : goal.returns-clause-all
returns-clause-all c = λ stratified e.
    let g = c.args.signature.now in
    let f = formula_of c.args.arena.now c.args.id in
    let P : List GroundTerm → Type 0 = λ ts. Lists (IsHerbrandTerm g f) ts in
    subst P (sym (are c ∙ ap (λ n. terms_after g f n) e)) (lists_herbrand g f c.requires.over stratified)
