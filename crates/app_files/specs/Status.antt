-- The exit status of each end of a run.
use Rattle.std.specs.Prelude.{ℕ}
use Rattle.app_files.specs.declared.status.Status.{Status}
use Rattle.app_files.specs.declared.status.Status.TheVariants.{Done, Usage, Missing, TextRefused, TypesRefused, Leak, Undecided, TooLarge, StoreState, ReadFault, WriteFault, StoreFault, OutOfMemory, TooLong, BadCertificate}

abbrev pub code_of : Status → ℕ
code_of Done = 0
code_of Usage = 2
code_of Missing = 3
code_of TextRefused = 4
code_of TypesRefused = 5
code_of Leak = 6
code_of Undecided = 7
code_of TooLarge = 8
code_of StoreState = 9
code_of ReadFault = 10
code_of WriteFault = 11
code_of StoreFault = 12
code_of OutOfMemory = 13
code_of TooLong = 14
code_of BadCertificate = 16
