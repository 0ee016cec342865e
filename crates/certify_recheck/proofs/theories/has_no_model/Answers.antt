use Rattle.std.proofs.Common.{◌≤◌, ◌+◌, ◌++◌, get_or, length, ap, refl, subst, sym, ◌∙◌, arith}
use Rattle.std.specs.Option.{option_to_list}
use Rattle.std.proofs.lemmas.Bool.{both_ways, cond-true}
use Rattle.solve_theory.specs.Models.{HasModel}
use Rattle.certify_clauses.specs.Paths.{negative}
use Rattle.certify_clauses.specs.Problem.{are_columns, meets_said, said_by}
use Rattle.certify_recheck.proofs.Ready.{ready_more}
use Rattle.certify_recheck.proofs.Saying.{front_has, room_left, said_more}
use Rattle.certify_recheck.proofs.theories.has_no_model.Goals as goal

pub tell-requires-clause-room : goal.tell-requires-clause-room
tell-requires-clause-room g c =
    let T = g.T.Theory in
    let p = g.C.Clauses.problem c.args.c.now in
    let l = c.loop-told in
    let few : length c.args.path.now ≤ T.capacity l.told.theory = omega (arith, c.requires.few, l.invariant.room) in
    rw (l.invariant.asserted) (room_left p c.args.path.now l.told.count (T.capacity l.told.theory) c.loop-told-test.true few)

pub returns-then-not-tell-clause-verdict : goal.returns-then-not-tell-clause-verdict
returns-then-not-tell-clause-verdict g c =
    let T = g.T.Theory in
    let p = g.C.Clauses.problem c.args.c.now in
    let l = c.loop-told in
    let path = c.args.path.now in
    let said = option_to_list (said_by p (get_or path l.told.count (negative 0))) in
    let all = T.literals l.told.theory ++ said in (
      λ _ h.
          let front = front_has p (are_columns p) meets_said path (l.told.count + 1) h in
          let at_all = subst (λ xs. HasModel (are_columns p) meets_said xs) (said_more p path l.told.count (negative 0) c.loop-told-test.true ∙ sym (ap (λ xs. xs ++ said) l.invariant.asserted)) front in
          let at_models = subst (λ m. HasModel m meets_said all) (sym l.invariant.models_are) at_all in
          let at_meets = subst (λ f. HasModel (T.models l.told.theory) f all) (sym l.invariant.meets_are) at_models in
          both_ways c.tell.result c.if-not-tell.true (c.tell.ensures.verdict.1 at_meets),
      λ _. refl,
    )

pub loop-told-preserved : goal.loop-told-preserved
loop-told-preserved g c =
    let T = g.T.Theory in
    let p = g.C.Clauses.problem c.args.c.now in
    let l = c.loop-told in
    let path = c.args.path.now in
    let old = l.told.theory in
    let new = c.tell.new.theory in
    let said = option_to_list (said_by p (get_or path l.told.count (negative 0))) in
    let list = c.tell.ensures.list ∙ cond-true c.tell.result (T.literals old ++ said) (T.literals old) c.if-not-tell.false in
    ready_more p path l.told.count (T.literals old) (T.capacity old) (T.takes old) (T.models old) T.meets l.invariant (negative 0) (T.literals new) (T.capacity new) (T.takes new) (T.models new)
    c.loop-told-test.true list (subst (λ xs. HasModel (T.models old) T.meets xs) (sym list) (c.tell.ensures.verdict.0 c.if-not-tell.false))
    c.tell.ensures.capacity c.tell.ensures.takes c.tell.ensures.models
