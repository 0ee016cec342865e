use Rattle.data_records.proofs.FieldSet.{set-keeps}
use Rattle.data_records.proofs.RowIn.{empty-is, insert-keeps}
use Rattle.data_records.proofs.RowOut.{remove-keeps}
use Rattle.data_records.proofs.laws.databases_stay.Goals as goal

pub returns : goal.returns
returns c = λ s proper. record {
  empty = empty-is s proper;
  insert = λ d is info row model ok. insert-keeps s proper d is info row model ok;
  set_field = λ d is m id info field v model found fit. set-keeps s proper d is m id info field v model found fit;
  remove = λ d is m id none. remove-keeps s proper d is m id none;
}
