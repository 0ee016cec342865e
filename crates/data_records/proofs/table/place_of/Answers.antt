use Rattle.std.proofs.Common.{rules}
use Rattle.std.specs.Prelude.{Ok, Err}
use Rattle.std.proofs.lemmas.List.Sorted.{answers_always}
use Rattle.data_records.proofs.Searches.{placed_by}
use Rattle.data_records.proofs.table.place_of.Goals as goal

-- the closure gives a record's id
pub returns-in-Ok : goal.returns-in-Ok
returns-in-Ok c =
    let facts = c.in-Ok.ensures in
    let by_key = facts.position (λ r. r.id) (answers_always _ _ _ (λ f a r g called. search rules)) in
    placed_by (λ r. r.id) c.args.id c.args.records.now (Ok c.in-Ok.at) c.requires facts.bound by_key

pub returns-in-Err : goal.returns-in-Err
returns-in-Err c =
    let facts = c.in-Err.ensures in
    let by_key = facts.position (λ r. r.id) (answers_always _ _ _ (λ f a r g called. search rules)) in
    placed_by (λ r. r.id) c.args.id c.args.records.now (Err c.in-Err.field-0) c.requires facts.bound by_key
