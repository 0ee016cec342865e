use Rattle.std.proofs.Common.{Option, false, subst}
use Rattle.std.specs.Prelude.{IfSome}
use Rattle.form_formula.specs.Nodes.{formula_of}
use Rattle.ground_terms.specs.TermLists.{terms_in}
use Rattle.form_tables.proofs.TermsFormed.{terms_within}
use Rattle.decide_verdict.specs.declared.trying.Tried.{Tried}
use Rattle.decide_verdict.specs.Tried.{IsTriedOver}
use Rattle.decide_verdict.proofs.Judged.{ok_too, shallow_safe}
use Rattle.decide_verdict.proofs.shallow_terms.decide_over.Goals as goal

pub try_terms-requires-clause-formed : goal.try_terms-requires-clause-formed
try_terms-requires-clause-formed c = terms_within c.args.signature.now (formula_of c.args.arena.now c.args.id) c.requires.over (terms_in c.args.terms) 2 c.requires.listed

pub returns-in-None : goal.returns-in-None
returns-in-None c = λ f same.
    shallow_safe c.args.signature.now f (formula_of c.args.arena.now c.args.id) c.requires.over c.requires.normal same c.requires.cyclic (terms_in c.args.terms) c.requires.listed
    c.requires.within (c.in_ok-try_terms.ensures.none c.in-None.is)

pub returns-in-Some : goal.returns-in-Some
returns-in-Some c =
    let P : Option Tried → Type 0 = λ o. IfSome o (IsTriedOver c.args.signature.now (formula_of c.args.arena.now c.args.id) (terms_in c.args.terms) false) in
    ok_too c.judged.result _ _ (λ verdict h f same. h f (terms_in c.args.terms) same c.requires.listed (subst P c.in-Some.is c.in_ok-try_terms.ensures.some)) c.judged.ensures
