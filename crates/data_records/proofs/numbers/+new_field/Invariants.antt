use Rattle.std.proofs.Common.{length}
use Rattle.data_records.proofs.numbers.+new_field.Given as goal

abbrev pub decreases-new_field : goal.decreases-new_field
decreases-new_field l = length l.models.now
