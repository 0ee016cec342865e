use Rattle.std.proofs.Common.{◌∙◌}
use Rattle.data_meaning.specs.Values.{Id}
use Rattle.data_meaning.specs.Database.{field_at, slots_of}
use Rattle.data_meaning.specs.Meaning.{are_equal}
use Rattle.data_members.proofs.Finds.{passing-among, passing-ids}
use Rattle.data_members.proofs.finding.ids_found.Goals as goal

pub returns-in_ok-ids-in-Some : goal.returns-in_ok-ids-in-Some
returns-in_ok-ids-in-Some c =
    let d = c.args.database.now in
    let m = c.args.m in
    passing-among d m c.args.tests.now (λ found. found.items) (λ y. are_equal (field_at d m y c.in-Some.f) (Id c.in-Some.id)) c.as_slice.result.now c.ids_left.result
    (λ y passes. c.in-Some.ensures (slots_of d m y) passes) (c.as_slice.ensures.value ∙ c.in_ok-ids-in-Some.ensures) c.ids_left.ensures

pub returns-in-None : goal.returns-in-None
returns-in-None c =
    passing-ids c.args.database.now c.args.m c.args.tests.now (λ found. found.items) c.records.result.now c.ids_passing.result c.records.ensures.all c.records.ensures.rising c.ids_passing.ensures
