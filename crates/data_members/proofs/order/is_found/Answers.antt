use Rattle.std.proofs.Common.{rules, sym}
use Rattle.std.specs.Prelude.{Ok, Err}
use Rattle.std.proofs.lemmas.List.Sorted.{answers_always}
use Rattle.data_meaning.specs.Meaning.{id_of_record}
use Rattle.data_members.specs.Sets.{number, rank}
use Rattle.data_members.proofs.Founds.{found-by}
use Rattle.data_members.proofs.order.is_found.Goals as goal

-- the closure gives a principal's place in the order
pub returns-in-Ok : goal.returns-in-Ok
returns-in-Ok c =
    let facts = c.in-Ok.ensures in
    let by_key = facts.position (λ p. (rank p, number p, id_of_record p)) (answers_always _ _ _ (λ f a r g called. search rules)) in
    sym (found-by c.args.ps.now c.args.who (Ok c.in-Ok.field-0) c.requires facts.bound (rw (c.rank.ensures, c.number.ensures, c.record_id.ensures) at by_key))

pub returns-in-Err : goal.returns-in-Err
returns-in-Err c =
    let facts = c.in-Err.ensures in
    let by_key = facts.position (λ p. (rank p, number p, id_of_record p)) (answers_always _ _ _ (λ f a r g called. search rules)) in
    sym (found-by c.args.ps.now c.args.who (Err c.in-Err.field-0) c.requires facts.bound (rw (c.rank.ensures, c.number.ensures, c.record_id.ensures) at by_key))
