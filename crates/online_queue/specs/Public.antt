-- The words of this crate's public contracts.
pub use Rattle.online_queue.specs.Records.{same_record, is_among, without, marked}
pub use Rattle.online_queue.specs.Sound.{Takes}
pub use Rattle.online_queue.specs.Waiting.{Waiting, name_at, is_waiting, to_end, taken_out}
