use Rattle.std.proofs.Common.{◌≡◌, ◌&&◌, ◌∙◌, Bool, ap, map, subst, sym}
use Rattle.std.specs.Prelude.{IfOk}
use Rattle.std.proofs.lemmas.List.Folds.{list_all-map}
use Rattle.data_records.specs.Views.{slot_data}
use Rattle.door_judge.specs.Tests.{may_read_all, meets_in, test_data}
use Rattle.door_judge.proofs.finding.is_shown.Goals as goal

pub returns-then-meets_all : goal.returns-then-meets_all
returns-then-meets_all c =
    let asked = may_read_all c.args.d.now c.args.who (map test_data c.args.tests.now) c.args.row.now.id in
    let met = list_all-map (meets_in (map slot_data c.args.row.now.slots)) test_data c.args.tests.now ∙ sym c.meets_all.ensures ∙ c.if-meets_all.true in
    subst (λ (m : Bool). IfOk c.may_read_all.result (λ b. b ≡ (m && asked))) (sym met) c.may_read_all.ensures

pub returns-else-meets_all : goal.returns-else-meets_all
returns-else-meets_all c =
    let asked = may_read_all c.args.d.now c.args.who (map test_data c.args.tests.now) c.args.row.now.id in
    let met = list_all-map (meets_in (map slot_data c.args.row.now.slots)) test_data c.args.tests.now ∙ sym c.meets_all.ensures ∙ c.if-meets_all.false in
    sym (ap (λ m. m && asked) met)
