use Rattle.std.proofs.Common.{ℕ, map, take}
use Rattle.data_meaning.specs.Values.{Value}
use Rattle.data_records.specs.Namings.{AreRowsKnown, IsKnown}
use Rattle.data_records.specs.Views.{record_data}
use Rattle.data_records.proofs.index.Index.note_rows.Given as goal

abbrev pub invariant-loop-record : goal.invariant-loop-record
invariant-loop-record l = record {
  kept : (n i g : ℕ) (w : Value) → IsKnown l.initial.self n i g w → IsKnown l.self n i g w;
  noted : AreRowsKnown l.self l.m (map record_data (take l.record-index l.records));
}
