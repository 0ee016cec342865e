use Rattle.form_strata.proofs.PlaceLemmas.{place_pushed}
use Rattle.form_strata.proofs.places.push_place.Goals as goal

pub returns : goal.returns
returns c =
    place_pushed c.args.places.now.items c.args.to c.args.place c.index_mut.result.now c.push.new.self c.requires c.index_mut.ensures.value
    c.in_ok-push.ensures.items
