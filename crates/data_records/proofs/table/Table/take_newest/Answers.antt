use Rattle.std.proofs.Common.{◌≡◌, ◌-◌, ◌<◌, refl, ap, sym, ◌∙◌, arith, length, map, take}
use Rattle.std.specs.Prelude.{Some}
use Rattle.std.proofs.lemmas.List.{length-map}
use Rattle.data_records.specs.Undone.{last_of, lowered}
use Rattle.data_records.specs.Views.{record_data}
use Rattle.data_records.proofs.Moves.{last-off}
use Rattle.data_records.proofs.Undone.{last-mapped, lowered-some, some-last}
use Rattle.data_records.proofs.table.Table.take_newest.Goals as goal

pub returns-clause-left : goal.returns-clause-left
returns-clause-left c =
    let t = c.args.self.now in
    let old = t.records in
    let some : 0 < length old.items = some-last (Some c.in_ok-taken.taken) c.pop.new.self.items old.items refl c.in_ok-taken.ensures.items in
    let next : c.saturating_sub-self.result ≡ lowered (map record_data old.items) t.next
    = c.saturating_sub-self.ensures ∙ sym (lowered-some (map record_data old.items) t.next (omega (arith, some, length-map old.items record_data))) in
    ap (λ n. record { model = t.model; next = n; records = map record_data c.pop.new.self.items }) next
    ∙ ap (λ rs. record { model = t.model; next = lowered (map record_data old.items) t.next; records = rs })
    (ap (map record_data) (c.in_ok-taken.ensures.rest ∙ ap (λ n. take (n - 1) old.items) (omega (arith, old.ok.0))) ∙ last-off record_data old.items)

pub returns-clause-taken : goal.returns-clause-taken
returns-clause-taken c = last-mapped record_data c.pop.new.self.items c.in_ok-taken.taken ∙ ap (λ rs. last_of (map record_data rs)) (sym c.in_ok-taken.ensures.items)
