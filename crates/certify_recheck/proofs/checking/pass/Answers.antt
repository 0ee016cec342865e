use Rattle.std.proofs.Common.{[], ◌∷◌, ◌+◌}
use Rattle.std.proofs.lemmas.Bool.{both_ways}
use Rattle.certify_recheck.specs.Due.{part, tree}
use Rattle.certify_recheck.specs.Spots.{IsRefusal, Passes}
use Rattle.certify_recheck.proofs.Parts.{err_then, ok_then, refusal_more}
use Rattle.certify_recheck.proofs.Passing.{bad_here, passes_more, spot}
use Rattle.certify_recheck.proofs.checking.pass.Goals as goal

pub returns-then-not-is_duty-clause-bad : goal.returns-then-not-is_duty-clause-bad
returns-then-not-is_duty-clause-bad g c =
    let due = part (g.C.Clauses.problem c.args.c.now) c.args.duty in
    bad_here c.args.text.now c.args.from.at c.args.from.line c.in-Some.read.line c.in-Some.read.next c.in-Some.ensures due []
    (λ next. both_ways c.is_duty.result c.if-not-is_duty.true ((c.is_duty.ensures (g.C.Clauses.problem c.args.c.now)).1 next))

pub returns-clause-ok : goal.returns-clause-ok
returns-clause-ok g c =
    let p = g.C.Clauses.problem c.args.c.now in
    let read = c.in-Some.read in
    let text = c.args.text.now in
    let from = c.args.from in
    let next = (c.is_duty.ensures p).0 c.if-not-is_duty.false in
    ok_then c.walk.result (Passes text (spot read.next (from.line + 1)) (tree p [] ∷ [])) (Passes text from (part p c.args.duty ∷ [])) c.walk.ensures.ok
    (λ to h. passes_more text from.at from.line read.line read.next c.in-Some.ensures (part p c.args.duty) [] to next h)

pub returns-clause-bad : goal.returns-clause-bad
returns-clause-bad g c =
    let p = g.C.Clauses.problem c.args.c.now in
    let read = c.in-Some.read in
    let text = c.args.text.now in
    let from = c.args.from in
    let next = (c.is_duty.ensures p).0 c.if-not-is_duty.false in
    err_then c.walk.result (IsRefusal text (spot read.next (from.line + 1)) (tree p [] ∷ [])) (IsRefusal text from (part p c.args.duty ∷ [])) c.walk.ensures.bad
    (λ e h. refusal_more text from.at from.line read.line read.next c.in-Some.ensures (part p c.args.duty) [] next e h)
