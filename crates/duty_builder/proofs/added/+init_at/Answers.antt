use Rattle.std.proofs.Common.{◌≡◌, ◌∙◌, false, ap, sym}
use Rattle.std.specs.Prelude.{◌&&◌, ◌==◌, Some}
use Rattle.type_schema.specs.Views.{init_of}
use Rattle.duty_meaning.specs.Formulas.{init_cases}
use Rattle.duty_builder.specs.Values.{schema_in, written_upto}
use Rattle.duty_builder.proofs.Written.{written_here, written_before, not_both, not_first}
use Rattle.duty_builder.proofs.added.+init_at.Goals as goal
use Rattle.duty_builder.proofs.added.+init_at.Goals.{else-added-m-via-then-added-m+else-added-f, else-added-m-via-else-added-m}

pub returns-then-added-f : goal.returns-then-added-f
returns-then-added-f t c =
    let a = c.in-Some.added.now in
    let at = c.in-Some.ensures.lookup.3 in
    written_here (schema_in c.args.start.now) c.args.start.now.added.now c.args.upto c.in_ok-before.before c.args.m c.args.f a c.in_ok-before.ensures.0 c.in_ok-before.ensures.1
    at.0 (at.1 a) c.if-added-m.true c.if-added-f.true
    ∙ ap (λ i. Some (init_cases (schema_in c.args.start.now) (written_upto c.args.start.now c.in_ok-before.before) (init_of i))) (sym c.deref.ensures)

pub returns : goal.returns
returns t c =
    let a = c.in-Some.added.now in
    let at = c.in-Some.ensures.lookup.3 in
    let other : ((a.0 == c.args.m) && (a.1 == c.args.f)) ≡ false =
    elim c.else-added-m.branch [
      | else-added-m-via-then-added-m+else-added-f w ↦ not_both _ _ _ _ w.if-added-f.false
      | else-added-m-via-else-added-m w ↦ not_first _ _ _ _ w.if-added-m.false
    ] in
    let same = written_before (schema_in c.args.start.now) c.args.start.now.added.now c.args.upto c.in_ok-before.before c.args.m c.args.f a c.in_ok-before.ensures.0 c.in_ok-before.ensures.1
    at.0 (at.1 a) other in
    rw same c.init_at-2.ensures
