use Rattle.std.proofs.Common.{rules}
use Rattle.std.proofs.lemmas.List.Sorted.{IsNonDecreasingBy-from_sort_by_key}
use Rattle.data_records.specs.declared.record.Record.{Record}
use Rattle.data_judge.proofs.tables.by_id.Goals as goal

pub returns-clause-order : goal.returns-clause-order
returns-clause-order c = IsNonDecreasingBy-from_sort_by_key (λ (r : Record). r.id) _ c.sort_unstable_by_key.ensures.sorted (λ a r q k. search rules)
