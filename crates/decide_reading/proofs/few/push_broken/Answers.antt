use Rattle.std.proofs.Common.{List, refl, subst}
use Rattle.ground_problem.specs.declared.words.PairNode.{PairNode}
use Rattle.decide_reading.specs.Broken.{IsBroken}
use Rattle.decide_reading.proofs.Parts.{broken_after}
use Rattle.decide_reading.proofs.few.push_broken.Goals as goal

pub returns : goal.returns
returns c =
    let s = c.args.speech in
    let P : List PairNode → Type 0 = λ pairs. IsBroken s.terms.now s.found.now pairs c.args.clause.now in
    broken_after s.signature.now (λ clause. clause.items) s.arena.now s.terms.now s.words.now s.found.now c.args.clauses.now.items c.push.new.self.items c.in_ok-own.own c.args.clause.now
    c.in_ok-push.ensures.items c.in_ok-own.ensures.items c.requires (subst P c.as_slice.ensures.value (c.if-not-is_broken.ensures refl))
