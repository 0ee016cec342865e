-- Values as the types of the code keep them: numbers of 64 bits, and texts.
use Rattle.std.specs.Prelude.{List, FitsSigned}
use Rattle.std.specs.List.{AllByRecursion}
use Rattle.std.specs.Int.{w64}
use Rattle.text_ast.specs.Words.{IsText}
use Rattle.data_meaning.specs.Values.{Value, Flag, Num, Str, Id, Ids, Nothing, Just}
use Rattle.data_meaning.specs.Database.{Slot, Record, Table, Database}

abbrev pub HasRange : Value → Type 0
HasRange (Flag b) = Unit {0}
HasRange (Num n) = FitsSigned w64 n
HasRange (Str bytes) = IsText bytes
HasRange (Id id) = Unit {0}
HasRange (Ids ids) = Unit {0}
HasRange Nothing = Unit {0}
HasRange (Just v) = HasRange v

abbrev pub HaveRanges : List Slot → Type 0
HaveRanges slots = AllByRecursion (λ (slot : Slot). HasRange slot.value) slots

abbrev pub RecordsHaveRanges : List Record → Type 0
RecordsHaveRanges records = AllByRecursion (λ (r : Record). HaveRanges r.slots) records

-- each value of the database
abbrev pub IsRanged : Database → Type 0
IsRanged d = AllByRecursion (λ (t : Table). RecordsHaveRanges t.records) d
