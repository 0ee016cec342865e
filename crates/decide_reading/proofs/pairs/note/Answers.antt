use Rattle.std.proofs.Common.{◌∙◌, sym}
use Rattle.std.proofs.lemmas.Option.{none-some}
use Rattle.indexmap.proofs.CallerLemmas.{insert_entry-new}
use Rattle.decide_reading.proofs.PlaceLaws.{noted_before, noted_now}
use Rattle.decide_reading.proofs.pairs.note.Goals as goal

pub returns-in-Some : goal.returns-in-Some
returns-in-Some c = λ before same are.
    noted_before c.args.places.now.entries before c.args.pair (λ none. none-some _ (sym (c.in-Some.ensures.same ∙ none))) are

pub returns-in_ok-insert-in-None : goal.returns-in_ok-insert-in-None
returns-in_ok-insert-in-None c = λ before same are.
    noted_now c.args.places.now.entries c.insert.new.self.entries before c.args.pair c.args.place
    (c.in_ok-insert-in-None.ensures.entries ∙ insert_entry-new _ c.args.places.now c.args.pair c.args.place (sym c.in-None.ensures.own)) same are
