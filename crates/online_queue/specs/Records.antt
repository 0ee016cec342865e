-- Records in lists.
use Rattle.std.specs.Prelude.{Bool, not, ◌&&◌, ◌==◌, List, ◌++◌, filter}
use Rattle.std.specs.List.{list_any}
use Rattle.online_queue.specs.declared.records.RecordId.{RecordId}

-- whether they are one record, by model and id
abbrev pub same_record : RecordId → RecordId → Bool
same_record r q = (r.model == q.model) && (r.id == q.id)

-- a record is in a list of records, by its model and id
abbrev pub is_among : RecordId → List RecordId → Bool
is_among r records = list_any (same_record r) records

-- the queue without a record
abbrev pub without : RecordId → List RecordId → List RecordId
without r queue = filter (λ q. not (same_record r q)) queue

-- records are marked: moved to the end of the queue, or put there
abbrev pub marked : List RecordId → List RecordId → List RecordId
marked records queue = filter (λ q. not (is_among q records)) queue ++ records
