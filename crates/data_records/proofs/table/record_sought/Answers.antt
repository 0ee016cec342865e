use Rattle.std.proofs.Common.{rules, sym, ap, ◌∙◌}
use Rattle.std.specs.Prelude.{Ok, Err, Some}
use Rattle.std.proofs.lemmas.Option.{slice_get-get_or}
use Rattle.std.proofs.lemmas.List.Sorted.{answers_always}
use Rattle.data_records.proofs.Searches.{searched_by}
use Rattle.data_records.proofs.table.record_sought.Goals as goal

-- the closure gives a record's id
pub returns-in-Ok : goal.returns-in-Ok
returns-in-Ok c =
    let facts = c.in-Ok.ensures in
    let by_key = facts.position (λ r. r.id) (answers_always _ _ _ (λ f a r g called. search rules)) in
    let found = searched_by (λ r. r.id) c.args.id c.args.records.now (Ok c.in-Ok.at) c.requires facts.bound by_key in
    let here = slice_get-get_or c.args.records.now c.in-Ok.at c.index-records-at.result facts.bound in
    sym (found ∙ here ∙ ap Some (sym c.index-records-at.is))

pub returns-in-Err : goal.returns-in-Err
returns-in-Err c =
    let facts = c.in-Err.ensures in
    let by_key = facts.position (λ r. r.id) (answers_always _ _ _ (λ f a r g called. search rules)) in
    sym (searched_by (λ r. r.id) c.args.id c.args.records.now (Err c.in-Err.field-0) c.requires facts.bound by_key)
