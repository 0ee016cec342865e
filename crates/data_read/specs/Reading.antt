-- Which database a text writes over a schema, and why it writes none.
use Rattle.std.specs.Prelude.{ℕ, List}
use Rattle.type_schema.specs.Schema.{Schema}
use Rattle.data_meaning.specs.Database.{Database}
use Rattle.data_tree.specs.declared.tables.TableLit.{TableLit}
use Rattle.data_tree.specs.Grammar.{data_form}
use Rattle.data_tree.specs.Texts.{IsDataText}
use Rattle.data_parse.specs.Refused as parse
use Rattle.data_judge.specs.declared.fault.Fault.TheVariants as fault
use Rattle.data_judge.specs.declared.fault.Refusal.{Refusal}
use Rattle.data_judge.specs.declared.fault.Refusal.TheVariants as refusal
use Rattle.data_judge.specs.declared.limits.Limits.{Limits}
use Rattle.data_judge.specs.Judged as judge
use Rattle.data_read.specs.declared.read_err.ReadErr.{ReadErr}
use Rattle.data_read.specs.declared.read_err.ReadErr.TheVariants as err

module _ (limits : Limits) (s : Schema) (text : List ℕ) where
  -- The text spells tables in which nothing is wrong, and they write the database.
  abbrev pub IsRead : Database → Type 0
  IsRead d = (ts : List TableLit) × IsDataText text ts × judge.IsGiven limits s ts d

  -- The text spells tables, and this is wrong with them first.
  abbrev pub AreRefusedFor : Refusal → Type 0
  AreRefusedFor r = (ts : List TableLit) × IsDataText text ts × judge.IsRefusedFor limits s ts r

  -- The text spells no tables, for this cause and at this place; or this is wrong with them first.
  abbrev pub IsRefusedAs : ReadErr → Type 0
  IsRefusedAs (err.Syntax e) = parse.IsRefusedAs data_form text e
  IsRefusedAs (err.Unknown at) = AreRefusedFor (refusal.Broken (fault.Unknown at))
  IsRefusedAs (err.Absent at) = AreRefusedFor (refusal.Broken (fault.Absent at))
  IsRefusedAs (err.Twice at) = AreRefusedFor (refusal.Broken (fault.Twice at))
  IsRefusedAs (err.WrongShape at) = AreRefusedFor (refusal.Broken (fault.WrongShape at))
  IsRefusedAs (err.BadId at) = AreRefusedFor (refusal.Broken (fault.BadId at))
  IsRefusedAs (err.Dangling at) = AreRefusedFor (refusal.Dangling at)
  IsRefusedAs (err.Full what) = AreRefusedFor (refusal.Full what)
  IsRefusedAs err.OutOfMemory = ⊥
