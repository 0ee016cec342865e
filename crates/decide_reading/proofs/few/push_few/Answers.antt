use Rattle.std.proofs.Common.{List, Vec, Global, Contains, sym, subst}
use Rattle.std.proofs.lemmas.List.Elements.{Contains-get_or}
use Rattle.ground_problem.specs.declared.facts.FactLiteral.{FactLiteral}
use Rattle.decide_reading.proofs.Parts.{one_congruence, words_part}
use Rattle.decide_reading.proofs.few.push_few.Goals as goal

pub congruence_clauses-requires : goal.congruence_clauses-requires
congruence_clauses-requires c = words_part c.args.speech.terms.now c.args.speech.words.now c.args.few.now c.requires.words c.requires.part

pub push_broken-requires : goal.push_broken-requires
push_broken-requires c =
    let s = c.args.speech in
    let all = c.as_slice-clause-items in
    let P : Vec FactLiteral Global → Type 0 = λ v. Contains all.result.now v in
    let Q : List (Vec FactLiteral Global) → Type 0 = λ vs. Contains vs c.clause-item.result in
    let listed : P c.clause-item.result = subst P (sym c.clause-item.is) (Contains-get_or all.result.now c.loop-clause.clause-index c.clause-item.result c.loop-clause-test.true) in
    one_congruence s.signature.now (λ clause. clause.items) s.arena.now s.terms.now s.words.now c.args.few.now c.in_ok-more.more.items c.clause-item.result c.as_slice.result.now
    (subst Q all.ensures.value listed) (sym c.as_slice.ensures.value) c.requires.part c.in_ok-more.ensures
