-- How much a database that is read may hold.
use Rattle.std.specs.Prelude.{nat_lt, Option, None, Some, if◌then◌else◌}
use Rattle.data_meaning.specs.Database.{Database}
use Rattle.data_records.specs.Room.{most_records, most_weight, record_count, total_weight}
use Rattle.data_records.specs.declared.data_err.Limit.{Limit}
use Rattle.data_records.specs.declared.data_err.Limit.TheVariants as limit
use Rattle.data_judge.specs.declared.limits.Limits.{Limits}
use Rattle.data_judge.specs.declared.limits.Limits.TheVariants.{Asked, Waived}

-- Of what it holds too much: first of records, then of weight. Where the limits are waived, it is of nothing.
abbrev pub excess : Limits → Database → Option Limit
excess Asked d =
    if nat_lt most_records (record_count d) then Some limit.Records
    else (if nat_lt most_weight (total_weight d) then Some limit.Weight else None)
excess Waived d = None
