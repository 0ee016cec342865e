use Rattle.std.proofs.Common.{Bool, List, [], Option, subst}
use Rattle.std.specs.Prelude.{IfSome}
use Rattle.form_formula.specs.Nodes.{formula_of}
use Rattle.ground_terms.specs.TermLists.{terms_in}
use Rattle.form_formula.specs.NormalForm.{IsNormal}
use Rattle.form_formula.specs.Over.{IsOver}
use Rattle.form_formula.specs.Trees.{Formula}
use Rattle.form_terms.specs.GroundTerms.{GroundTerm}
use Rattle.ground_problem.specs.Spoken.{IsSpoken}
use Rattle.decide_models.specs.declared.found.Found.{Found}
use Rattle.decide_search.specs.Tabled.{HasTable}
use Rattle.decide_search.proofs.Glue.{tabled_by}
use Rattle.decide_search.proofs.search.find_table.Goals as goal

pub returns-in-None-clause-none : goal.returns-in-None-clause-none
returns-in-None-clause-none c = λ same.
    c.in_ok-table_for.ensures.none c.in-None.is (formula_of c.args.arena.now c.args.id) (terms_in c.args.terms) c.args.closed c.requires.over c.requires.normal c.in_ok-spoken.ensures.spoken

pub returns-in-Some-clause-some : goal.returns-in-Some-clause-some
returns-in-Some-clause-some c =
    let is = c.in_ok-spoken.ensures.spoken in
    let P : Option Found → Type 0 = λ o. IfSome o (λ found. (f : Formula) → (terms : List GroundTerm) → (closed : Bool) → IsOver c.args.signature.now [] f → IsNormal f
    → IsSpoken c.args.signature.now c.args.arena.now f terms closed c.in_ok-spoken.spoken → HasTable c.args.signature.now f terms c.in_ok-spoken.spoken found) in
    tabled_by c.args.signature.now c.args.arena.now (formula_of c.args.arena.now c.args.id) (terms_in c.args.terms) c.args.closed c.in_ok-spoken.spoken c.in-Some.found c.tabled.result is
    (subst P c.in-Some.is c.in_ok-table_for.ensures.some (formula_of c.args.arena.now c.args.id) (terms_in c.args.terms) c.args.closed c.requires.over c.requires.normal is)
    c.tabled.ensures.terms c.tabled.ensures.words c.tabled.ensures.found
