use Rattle.data_read.proofs.OneReading.{one-read, read-not-refused, one-reason, some-reading, also-kept, above-limits, never-full}
use Rattle.data_read.proofs.laws.one_reading.Goals as goal

pub returns-clause-some : goal.returns-clause-some
returns-clause-some c = some-reading

pub returns-clause-one : goal.returns-clause-one
returns-clause-one c = one-read

pub returns-clause-read : goal.returns-clause-read
returns-clause-read c = read-not-refused

pub returns-clause-refusal : goal.returns-clause-refusal
returns-clause-refusal c = one-reason

pub returns-clause-kept : goal.returns-clause-kept
returns-clause-kept c = also-kept

pub returns-clause-above : goal.returns-clause-above
returns-clause-above c = above-limits

pub returns-clause-full : goal.returns-clause-full
returns-clause-full c = never-full
