-- The words that speak of databases, and of what scripts mean on them.
pub use Rattle.data_meaning.specs.Values.{Value, IsValueOf}
pub use Rattle.data_meaning.specs.Database.{Slot, Record, Table, Database, ids_of, has_record, field_at, is_there, IsIntact, IsDatabase, HasNoFurtherTables, IsInOrder}
pub use Rattle.data_meaning.specs.FieldsTyped.{FieldsAreTyped}
pub use Rattle.data_meaning.specs.Meaning.{Env, value_of, member, allows}
pub use Rattle.data_meaning.specs.Touched.{touched, set_touched, init_touched}
pub use Rattle.data_meaning.specs.Run.{init_value, after_command, run_to, widened}
pub use Rattle.data_meaning.specs.Gain.{IsStart, is_principal_at, policy_at, has_right_at, updates, weakens, is_weakened, GainAt, Survives, Gain, may_read_at, AddsAt, FlowAt}
pub use Rattle.data_meaning.specs.Runs.{RunsKeepDatabases, WidenedStarts}
pub use Rattle.data_meaning.specs.Secure.{ReadsAdded, IsSecure, IsStepSecure, StepsSecureWhole}
pub use Rattle.data_meaning.specs.Agreeing.{HaveSameIds, AreSameCells, TouchedSettles, TouchedSettlesAll}
pub use Rattle.data_meaning.specs.Sound.{IsHeld, AreHeld, ValuesAreTyped, IsRecordThere, MembersAreThere}
pub use Rattle.data_meaning.specs.Worked.{WorkedValues}
