-- To the words of the laws.
use Rattle.std.proofs.Common.{◌≡◌, ◌≤◌, List, None, Some, refl, le-ltb}
use Rattle.type_schema.specs.Schema.{Schema}
use Rattle.data_meaning.specs.Database.{Database}
use Rattle.data_records.specs.declared.data_err.Limit.{Limit}
use Rattle.data_records.specs.Room.{most_records, most_weight, record_count, total_weight}
use Rattle.data_print.specs.Texts.{database_text}
use Rattle.data_tree.specs.declared.tables.TableLit.{TableLit}
use Rattle.data_tree.specs.Texts.{IsDataText}
use Rattle.data_judge.specs.declared.limits.Limits.{Limits}
use Rattle.data_judge.specs.declared.limits.Limits.TheVariants.{Asked, Waived}
use Rattle.data_judge.specs.Judged.{Reads}
use Rattle.data_judge.specs.Limits.{excess}
use Rattle.data_read.specs.declared.read_err.ReadErr.TheVariants as err
use Rattle.data_read.specs.Reading.{IsRead, IsRefusedAs}
use Rattle.data_read.specs.Printable.{IsPrintable}
use Rattle.data_read.proofs.ReadAgain.{printed-reads}
use Rattle.data_read.proofs.Spelled.{printed-spelled}

-- the text spells tables that write the database, with nothing wrong
printed : (s : Schema) (d : Database) → IsPrintable s d → (ts : List TableLit) × IsDataText (database_text s d) ts × Reads s ts d
printed s d is =
    let (ts, text, are) = printed-spelled s d is.proper is.words is.database in (ts, text, printed-reads s d ts is.proper is.database is.order are)

read : (limits : Limits) (s : Schema) (d : Database) → IsPrintable s d → excess limits d ≡ None → IsRead limits s (database_text s d) d
read limits s d is within = let (ts, text, reads) = printed s d is in (ts, text, record { reads = reads; within = within })

pub waived : (s : Schema) (d : Database) → IsPrintable s d → IsRead Waived s (database_text s d) d
waived s d is = read Waived s d is refl

pub within : (s : Schema) (d : Database) → IsPrintable s d → record_count d ≤ most_records → total_weight d ≤ most_weight → IsRead Asked s (database_text s d) d
within s d is records weight =
    read Asked s d is (rw (le-ltb most_records (record_count d) records, le-ltb most_weight (total_weight d) weight) refl)

pub full : (s : Schema) (d : Database) (what : Limit) → IsPrintable s d → excess Asked d ≡ Some what → IsRefusedAs Asked s (database_text s d) (err.Full what)
full s d what is over = let (ts, text, reads) = printed s d is in (ts, text, (d, reads, over))
