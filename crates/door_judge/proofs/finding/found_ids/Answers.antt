use Rattle.std.proofs.Common.{◌≡◌, ◌∙◌, ℕ, List, ap, map, subst}
use Rattle.std.specs.Prelude.{IfOk, filter}
use Rattle.door_judge.specs.Tests.{is_there_and_shown, test_data}
use Rattle.door_judge.proofs.Keyed.{keyed-found}
use Rattle.door_judge.proofs.Shown.{shown-found}
use Rattle.door_judge.proofs.finding.found_ids.Goals as goal

pub returns-in-None : goal.returns-in-None
returns-in-None c =
    subst (λ (ids : List ℕ). IfOk c.shown_among.result (λ found. found.items ≡ ids))
    (shown-found c.args.d.now c.args.m c.args.who (map test_data c.args.tests.now) c.records.result.now c.records.ensures.all c.records.ensures.rising) c.shown_among.ensures

pub returns-in_ok-ids-in-Some : goal.returns-in_ok-ids-in-Some
returns-in_ok-ids-in-Some c =
    let tests = map test_data c.args.tests.now in
    let shown = is_there_and_shown c.args.d.now c.args.m c.args.who tests in
    subst (λ (ids : List ℕ). IfOk c.shown_ids.result (λ found. found.items ≡ ids))
    (ap (filter shown) (c.as_slice.ensures.value ∙ c.in_ok-ids-in-Some.ensures)
    ∙ keyed-found c.args.d.now c.args.m c.args.who tests c.in-Some.key.field c.in-Some.key.id c.in-Some.ensures)
    c.shown_ids.ensures
