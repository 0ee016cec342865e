use Rattle.std.proofs.Common.{◌≡◌, true, subst, sym, ◌∙◌}
use Rattle.std.specs.Map.{lookup}
use Rattle.data_records.specs.Namings.{is_same_place}
use Rattle.data_records.proofs.Entries.{stands, written-kept}
use Rattle.data_records.proofs.Noted.{one-place}
use Rattle.data_records.proofs.holders.Holders.forget.Goals as goal

pub returns-in-Some : goal.returns-in-Some
returns-in-Some c = λ x i differs there.
    subst (λ es. stands (λ ids. ids.items) (lookup (is_same_place x) es) i ≡ true) (sym (c.get_mut.follows.holds c.take.new.ids).0)
    (written-kept (λ ids. ids.items) (is_same_place c.args.place) (is_same_place x) i c.args.self.now.by.entries c.in-Some.ids.now c.take.new.ids c.in-Some.ensures.value
    (λ k test passes. c.take.ensures i (λ same. differs (one-place x k passes ∙ sym (one-place c.args.place k test), same))) there)
