use Rattle.std.proofs.Common.{◌≡◌, refl, subst}
use Rattle.std.specs.Prelude.{IfOk}
use Rattle.data_meaning.specs.Values.{Id}
use Rattle.data_meaning.specs.Database.{ids_of, field_at}
use Rattle.data_meaning.specs.Meaning.{are_equal}
use Rattle.data_records.specs.Namings.{IsIndexed}
use Rattle.data_records.specs.Rising.{AreRising}
use Rattle.data_records.proofs.Holding.{equal-there, found-within, ids-rise}
use Rattle.data_records.proofs.database.Database.ids_holding.Goals as goal

pub returns-in-Some : goal.returns-in-Some
returns-in-Some c =
    let d = c.args.self.now in
    let noted = subst (IsIndexed c.self.inside.index) c.self.view_is c.self.invariant.1 in
    let rises = subst AreRising c.self.view_is c.self.invariant.0.rising in
    subst (λ ids. IfOk c.held_among.result (λ found. found.items ≡ ids))
    (found-within (λ i. are_equal (field_at d c.args.m i c.args.f) (Id c.args.id)) c.in-Some.ids.now (ids_of d c.args.m) (c.if-is_rising.ensures.0 refl) (ids-rise d c.args.m rises)
    (λ i equal. c.in-Some.ensures i (field_at d c.args.m i c.args.f) (noted c.args.m i c.args.f) equal) (equal-there d c.args.m c.args.f (Id c.args.id))) c.held_among.ensures
