use Rattle.std.proofs.Common.{rules, ◌≡◌, ◌∙◌, sym, codes}
use Rattle.std.specs.Prelude.{Some}
use Rattle.data_back.specs.Reading.{word_at}
use Rattle.data_back.specs.Back.{id_at}
use Rattle.data_back.proofs.Turns.{next-id}
use Rattle.data_back.proofs.values.read_ids.Goals as goal

pub loop-turn-preserved : goal.loop-turn-preserved
loop-turn-preserved c =
    let l = c.loop-turn in
    let read : id_at l.scanner ≡ Some (c.in_ok-id.id, c.read_id.new.scanner) = c.in_ok-id.ensures in
    let comma : word_at (codes ", ") c.read_id.new.scanner ≡ Some (tt, c.takes.new.self) = search rules in
    rw c.in_ok-push.ensures.ok
    (sym (next-id l.ids l._turn _ l.scanner c.loop-turn-test.true c.in_ok-id.id c.read_id.new.scanner c.takes.new.self read comma) ∙ l.invariant)
