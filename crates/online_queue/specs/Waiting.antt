-- Records at nodes, and a queue of some of them.
use Rattle.std.specs.Prelude.{ℕ, Bool, false, List, [], ◌∷◌, ◌++◌, Option, None, slice_index_or}
use Rattle.std.specs.Option.{option_map_or}
use Rattle.online_queue.specs.declared.records.RecordId.{RecordId}
use Rattle.online_queue.specs.Records.{is_among, without}

-- the record that each node is for, and the records that wait, the first first
pub record Waiting : Type 0 where
  pub names : List (Option RecordId)
  pub queue : List RecordId

-- the record at the node
abbrev pub name_at : List (Option RecordId) → ℕ → Option RecordId
name_at names node = slice_index_or names node None

-- whether the record at the node waits
abbrev pub is_waiting : Waiting → ℕ → Bool
is_waiting w node = option_map_or (λ r. is_among r w.queue) (name_at w.names node) false

-- the record goes to the end
abbrev pub to_end : RecordId → Waiting → Waiting
to_end r w = record w { queue = without r w.queue ++ r ∷ [] }

-- the record waits no more
abbrev pub taken_out : RecordId → Waiting → Waiting
taken_out r w = record w { queue = without r w.queue }
