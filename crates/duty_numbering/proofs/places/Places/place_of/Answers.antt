use Rattle.std.proofs.Common.{◌≡◌, ◌∙◌, ap, sym, length}
use Rattle.std.specs.Option.{option_copied}
use Rattle.duty_meaning.specs.Structures.{before}
use Rattle.duty_numbering.proofs.PlaceLaws.{place-found, place-missing}
use Rattle.duty_numbering.proofs.places.Places.place_of.Goals as goal

pub returns-in-Some : goal.returns-in-Some
returns-in-Some g c =
    place-found (λ x. g.K.PartialEq.eq x c.args.key) c.self.inside.keys.items (option_copied c.get.result) c.in-Some.place.now
    (ap option_copied c.in-Some.is) (c.get.ensures.value ∙ c.self.invariant.1 c.args.key)
    ∙ ap (before (λ x. g.K.PartialEq.eq x c.args.key)) c.self.view_is

pub returns-in-None : goal.returns-in-None
returns-in-None g c =
    ap length c.as_slice.ensures.value
    ∙ (place-missing (λ x. g.K.PartialEq.eq x c.args.key) c.self.inside.keys.items (option_copied c.get.result)
    (ap option_copied c.in-None.is) (c.get.ensures.value ∙ c.self.invariant.1 c.args.key)
    ∙ ap (before (λ x. g.K.PartialEq.eq x c.args.key)) c.self.view_is)
