use Rattle.std.proofs.Common.{List, subst, sym}
use Rattle.form_formula.specs.Nodes.{formula_of}
use Rattle.form_terms.specs.GroundTerms.{GroundTerm}
use Rattle.form_terms.specs.Listing.{Lists}
use Rattle.form_terms.specs.Universe.{IsShallowTerm}
use Rattle.form_terms.proofs.CountLaws.{lists_within}
use Rattle.ground_terms.specs.declared.limited.Limited.{Limited}
use Rattle.ground_terms.specs.Limited.{IsLimited}
use Rattle.ground_terms.proofs.limited.shallow.Goals as goal

pub returns-in-Listed-clause-listed : goal.returns-in-Listed-clause-listed
returns-in-Listed-clause-listed c =
    let g = c.args.signature.now in
    let f = formula_of c.args.arena.now c.args.id in
    let P : List GroundTerm → Type 0 = λ ts. Lists (IsShallowTerm g f) ts in
    let L : Limited → Type 0 = λ l. IsLimited g f 2 l in
    let listed = subst L c.in-Listed.is c.in_ok-terms.ensures in
    subst P (sym listed.0) (lists_within g f c.requires.over 2)
