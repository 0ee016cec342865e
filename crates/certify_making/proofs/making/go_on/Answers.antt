use Rattle.std.proofs.Common.{◌≤◌, List, length, Option, subst, sym, ◌∙◌}
use Rattle.std.specs.Prelude.{MatchOption}
use Rattle.certify_clauses.specs.declared.literal.Literal.{Literal}
use Rattle.certify_recheck.specs.Due.{Due, IsNext, later, tree}
use Rattle.certify_recheck.specs.Walking.{IsStep}
use Rattle.certify_recheck.specs.declared.line.Line.{Line}
use Rattle.certify_recheck.specs.declared.walk.Step.{Step}
use Rattle.certify_making.specs.Following.{IsBegun}
use Rattle.certify_clauses.specs.InMemory.{problem_in}
use Rattle.certify_making.specs.Open.{IsOpen}
use Rattle.certify_making.specs.Texts.{IsSmall}
use Rattle.certify_making.proofs.Following.{begun_more}
use Rattle.certify_making.proofs.Open.{assigned}
use Rattle.certify_making.proofs.Work.{less}
use Rattle.certify_making.proofs.making.go_on.Goals as goal

pub unreachable-requires : goal.unreachable-requires
unreachable-requires g c =
    let p = problem_in c.args.c.now in
    let path = c.args.path.now.literals in
    let next = subst (λ (o : Option Line). MatchOption o (IsOpen p path) (λ l. IsNext (tree p path) l × IsSmall l)) c.in-Some.is c.in_ok-next.ensures.next in
    let step = subst (λ (s : Step). IsStep p path c.in-Some.line c.take_line.new.path.literals s) c.in-Bad.is c.in_ok-step.ensures.step in
    step next.0

pub returns-in_default-clause-went : goal.returns-in_default-clause-went
returns-in_default-clause-went g c =
    let p = problem_in c.args.c.now in
    let path = c.args.path.now.literals in
    let left = subst (λ (o : Option Line). MatchOption o (IsOpen p path) (λ l. IsNext (tree p path) l × IsSmall l)) c.in_default.is c.in_ok-next.ensures.next in
    assigned p path left c.requires.below

pub returns-in-More-clause-went : goal.returns-in-More-clause-went
returns-in-More-clause-went g c =
    let p = problem_in c.args.c.now in
    let path = c.args.path.now.literals in
    let new = c.take_line.new.path.literals in
    let next = subst (λ (o : Option Line). MatchOption o (IsOpen p path) (λ l. IsNext (tree p path) l × IsSmall l)) c.in-Some.is c.in_ok-next.ensures.next in
    let step = subst (λ (s : Step). IsStep p path c.in-Some.line new s) c.in-More.is c.in_ok-step.ensures.step in
    let long = subst (λ (ls : List Literal). length ls ≤ c.take_line.new.path.vars) c.literals-few.ensures.literals c.literals-few.ensures.few in
    record {
      begun = λ h.
          subst (λ (ds : List Due). IsBegun p c.args.duty c.push_line.new.text.items ds) (sym step.1)
          (begun_more p c.args.duty c.args.text.now.items c.push_line.new.text.items (tree p path) (later p path) c.in-Some.line h next.0 next.1 c.in_ok-push_line.ensures);
      less = less p p.vars path new c.in-Some.line step (subst (λ n. length new ≤ n) (c.take_line.ensures.vars ∙ c.requires.vars) long);
    }

pub returns-in-Done-clause-went : goal.returns-in-Done-clause-went
returns-in-Done-clause-went g c = λ h.
    let p = problem_in c.args.c.now in
    let path = c.args.path.now.literals in
    let new = c.take_line.new.path.literals in
    let next = subst (λ (o : Option Line). MatchOption o (IsOpen p path) (λ l. IsNext (tree p path) l × IsSmall l)) c.in-Some.is c.in_ok-next.ensures.next in
    let step = subst (λ (s : Step). IsStep p path c.in-Some.line new s) c.in-Done.is c.in_ok-step.ensures.step in
    subst (λ (ds : List Due). IsBegun p c.args.duty c.push_line.new.text.items ds) step.1
    (begun_more p c.args.duty c.args.text.now.items c.push_line.new.text.items (tree p path) (later p path) c.in-Some.line h next.0 next.1 c.in_ok-push_line.ensures)
