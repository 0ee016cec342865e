use Rattle.std.proofs.lemmas.Option.{slice_get-get_or}
use Rattle.decide_search.proofs.Halved.{none_linked, halves_more}
use Rattle.decide_search.proofs.halves.halves_of.Goals as goal

pub loop-k-init : goal.loop-k-init
loop-k-init c =
    none_linked c.args.reader.signature.now c.args.reader.arena.now c.args.reader.terms.now c.args.reader.words.now c.args.reader.texts.now c.args.vars c.args.facts.now
    c.new.result.items c.new-2.result.items (λ link. link.items) c.new-2.ensures.items

pub loop-k-preserved : goal.loop-k-preserved
loop-k-preserved c =
    halves_more c.args.reader.signature.now c.args.reader.arena.now c.args.reader.terms.now c.args.reader.words.now c.args.reader.texts.now c.args.vars c.loop-k.k _
    c.args.facts.now _ _ _ (slice_get-get_or c.args.facts.now c.loop-k.k _ c.loop-k-test.true) c.in_ok-x.ensures c.loop-k.invariant c.in_ok-halve_one.ensures
