use Rattle.std.proofs.Common.{◌<◌, length, subst}
use Rattle.certify_recheck.specs.Walking.{IsReady}
use Rattle.certify_recheck.proofs.Ready.{ready_back, told_size}
use Rattle.certify_recheck.proofs.theories.take_back.Goals as goal

pub untell-requires : goal.untell-requires
untell-requires g c =
    let T = g.T.Theory in
    let p = g.C.Clauses.problem c.args.c.now in
    let told = c.args.told.now in
    let old = told.theory in
    let h = subst (λ ls. IsReady p ls told.count (T.literals old) (T.capacity old) (T.takes old) (T.models old) T.meets) c.in_ok-last.ensures.literals c.requires.ready in
    let past : length c.pop.new.self.literals < told.count = rw (← c.literals.ensures.literals) c.if-told-literals.false in
    told_size p c.pop.new.self.literals c.in_ok-last.last told.count (T.literals old) (T.capacity old) (T.takes old) (T.models old) T.meets h past

pub returns-clause-ready : goal.returns-clause-ready
returns-clause-ready g c =
    let T = g.T.Theory in
    let p = g.C.Clauses.problem c.args.c.now in
    let told = c.args.told.now in
    let old = told.theory in
    let new = c.untell.new.theory in
    let h = subst (λ ls. IsReady p ls told.count (T.literals old) (T.capacity old) (T.takes old) (T.models old) T.meets) c.in_ok-last.ensures.literals c.requires.ready in
    let past : length c.pop.new.self.literals < told.count = rw (← c.literals.ensures.literals) c.if-told-literals.false in
    ready_back p c.pop.new.self.literals c.in_ok-last.last told.count (T.literals old) (T.capacity old) (T.takes old) (T.models old) T.meets h (T.literals new) (T.capacity new) (T.takes new) (T.models new) past
    c.untell.ensures.list c.untell.ensures.capacity c.untell.ensures.takes c.untell.ensures.models
