use Rattle.std.proofs.Common.{rules, refl}
use Rattle.std.proofs.lemmas.List.Filters.{dedup_is}
use Rattle.std.proofs.lemmas.List.Sorted.{answers_always}
use Rattle.data_meaning.specs.Meaning.{id_of_record}
use Rattle.data_members.specs.Sets.{number, rank}
use Rattle.data_members.proofs.Orders.{IsEquality, principals-same, principals-tied, principals-total, set-left}
use Rattle.data_members.proofs.order.rising_principals.Goals as goal

-- the closure gives a principal's place in the order
pub returns : goal.returns
returns c =
    let sorted = c.sort_unstable_by_key.new.self.items in
    let left = dedup_is _ sorted c.dedup.new.self.items c.dedup.ensures.filtered in
    let equal : IsEquality _ = record { statics = λ n k. refl; static_record = λ n m id. refl; record_static = λ m id n. refl; records = λ m i n j. refl } in
    set-left principals-total (principals-tied _ equal) (principals-same _ equal) c.args.ps.items sorted c.dedup.new.self.items c.sort_unstable_by_key.ensures.permutation
    (c.sort_unstable_by_key.ensures.sorted (λ p. (rank p, number p, id_of_record p)) (answers_always _ _ _ (λ f a r g called. search rules))) left
