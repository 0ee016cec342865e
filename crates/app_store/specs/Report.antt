-- The reports of commands over the store, each with its end.
use Rattle.std.specs.Prelude.{ℕ, List, [], ◌∷◌, codes}
use Rattle.std.specs.Fmt.{decimal}
use Rattle.std.specs.List.{concat}
use Rattle.app_files.specs.Report.{cause_text, syntax_text}
use Rattle.data_records.specs.declared.data_err.Limit.TheVariants as limit
use Rattle.data_read.specs.declared.read_err.ReadErr.{ReadErr}
use Rattle.data_read.specs.declared.read_err.ReadErr.TheVariants as err
use Rattle.app_store.specs.declared.stop.StoreRefusal.{StoreRefusal}
use Rattle.app_store.specs.declared.stop.StoreRefusal.TheVariants.{IsSet, IsEmpty, IsSpent, Data}

abbrev pub ok_version_text : ℕ → List ℕ
ok_version_text version = concat (codes "ok version " ∷ decimal version ∷ codes "\n" ∷ [])

abbrev pub applied_text : (obligations version : ℕ) → List ℕ
applied_text obligations version =
    concat (codes "applied obligations " ∷ decimal obligations ∷ codes " version " ∷ decimal version ∷ codes "\n" ∷ [])

-- why the text in the file writes no database
abbrev pub data_text : List ℕ → ReadErr → List ℕ
data_text name (err.Syntax e) = syntax_text name e
data_text name (err.Unknown at) = cause_text name (codes "unknown at ") at
data_text name (err.Absent at) = cause_text name (codes "absent at ") at
data_text name (err.Twice at) = cause_text name (codes "twice at ") at
data_text name (err.WrongShape at) = cause_text name (codes "wrong shape at ") at
data_text name (err.BadId at) = cause_text name (codes "bad id at ") at
data_text name (err.Dangling at) = cause_text name (codes "dangling at ") at
data_text name (err.Full limit.Records) = concat (name ∷ codes ": full records\n" ∷ [])
data_text name (err.Full limit.Weight) = concat (name ∷ codes ": full weight\n" ∷ [])
-- nothing is refused so
data_text name err.OutOfMemory = concat (name ∷ codes ": out of memory\n" ∷ [])

abbrev pub store_refusal_text : StoreRefusal → List ℕ
store_refusal_text IsSet = codes "store is set\n"
store_refusal_text IsEmpty = codes "store is empty\n"
store_refusal_text IsSpent = codes "version is spent\n"
store_refusal_text (Data name e) = data_text name e
