use Rattle.std.proofs.Common.{Option, List, ℕ, subst}
use Rattle.std.specs.Prelude.{IfSome}
use Rattle.form_formula.specs.Nodes.{formula_of}
use Rattle.decide_smaller.specs.Picks.{ArePicks}
use Rattle.decide_verdict.proofs.Judged.{shallow_found, shallow_tried}
use Rattle.decide_verdict.proofs.shallow_terms.judged.Goals as goal

pub returns-in-Some : goal.returns-in-Some
returns-in-Some c = λ f terms same lists h.
    let n = formula_of c.args.arena.now c.args.id in
    let P : Option (List ℕ) → Type 0 = λ o. IfSome o (ArePicks c.args.tried.structure n) in
    let picks = subst P c.in-Some.is c.in_ok-picks.ensures.some in
    shallow_found c.args.signature.now f n c.requires.over c.requires.normal same c.requires.cyclic terms lists c.requires.within c.args.tried.structure c.in-Some.picks h.structure
    picks.elements picks.true_there

pub returns-in-None : goal.returns-in-None
returns-in-None c = λ f terms same lists h.
    shallow_tried c.args.signature.now f (formula_of c.args.arena.now c.args.id) c.requires.over c.requires.normal same c.requires.cyclic terms lists c.requires.within c.args.cycle
    c.requires.cycle c.args.tried h (c.in_ok-picks.ensures.none c.in-None.is)
