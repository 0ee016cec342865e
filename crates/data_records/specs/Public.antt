-- The words that speak of the values and databases of the code, and of how they are changed.
pub use Rattle.data_records.specs.Views.{value_data, slot_data, record_data, table_data}
pub use Rattle.data_records.specs.Shape.{IsShape, dangling_in}
pub use Rattle.data_records.specs.Rows.{AreShaped, IsFirstWrong, AreAllThere, IsFirstDangling, slots_from}
pub use Rattle.data_records.specs.Room.{weight_of, record_count, total_weight, HasRoom}
pub use Rattle.data_records.specs.Inserted.{empty_of, with_row, IsAdmitted, IsRefused, Inserts}
pub use Rattle.data_records.specs.Kept.{AreGiven}
pub use Rattle.data_records.specs.Rising.{AreRising}
pub use Rattle.data_records.specs.Changed.{with_field, has_field, HasRoomFor, IsFitting, IsUnfit, Sets}
pub use Rattle.data_records.specs.Moved.{with_table, without_table, without_slot, without_field, with_slot, with_slots, with_new_field}
pub use Rattle.data_records.specs.Undone.{without_newest, Undoes}
pub use Rattle.data_records.specs.Removed.{first_reference, without_record, IsHeld, Removes}
pub use Rattle.data_records.specs.Principals.{is_principal_of}
pub use Rattle.data_records.specs.Renumbered.{new_model, new_field, HasNewNumbers, renumbered}
pub use Rattle.data_records.specs.Keeping.{ChangesKeep, DatabasesStay, RecordsHaveFields}
