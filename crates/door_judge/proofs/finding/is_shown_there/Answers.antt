use Rattle.std.proofs.Common.{◌≡◌, ◌&&◌, ◌∙◌, Bool, ap, is_some, map, subst, sym}
use Rattle.std.specs.Prelude.{IfOk}
use Rattle.std.specs.List.{list_all}
use Rattle.data_records.specs.Views.{record_data}
use Rattle.data_records.proofs.Tables.{any-found}
use Rattle.data_meaning.specs.Database.{records_of}
use Rattle.door_meaning.specs.Conditions.{is_shown}
use Rattle.door_judge.specs.Tests.{test_data}
use Rattle.door_judge.proofs.Keyed.{shown-there}
use Rattle.door_judge.proofs.finding.is_shown_there.Goals as goal

pub returns-in-Some : goal.returns-in-Some
returns-in-Some c =
    subst (λ (there : Bool). IfOk c.is_shown.result (λ b. b ≡ there))
    (shown-there c.args.d.now c.args.m c.args.who (map test_data c.args.tests.now) c.args.id (record_data c.in-Some.row.now) (sym c.in-Some.ensures)) c.is_shown.ensures

pub returns-in-None : goal.returns-in-None
returns-in-None c =
    let shown = list_all (is_shown c.args.d.now c.args.m c.args.who c.args.id) (map test_data c.args.tests.now) in
    sym (ap (λ b. b && shown) (any-found c.args.id (records_of c.args.d.now c.args.m) ∙ ap is_some (sym c.in-None.ensures)))
