-- What the trees of a database's text are over a schema: a database, or what is wrong first.
use Rattle.std.specs.Prelude.{◌≡◌, List, None, Some}
use Rattle.data_tree.specs.declared.tables.TableLit.{TableLit}
use Rattle.type_schema.specs.Schema.{Schema}
use Rattle.data_meaning.specs.Database.{Database}
use Rattle.data_judge.specs.declared.fault.Refusal.{Refusal}
use Rattle.data_judge.specs.declared.fault.Refusal.TheVariants as refusal
use Rattle.data_judge.specs.declared.limits.Limits.{Limits}
use Rattle.data_judge.specs.Faults.{rule_fault}
use Rattle.data_judge.specs.Limits.{excess}
use Rattle.data_judge.specs.Meaning.{AreHeld}
use Rattle.data_judge.specs.References.{lost}

module _ (s : Schema) (ts : List TableLit) where
  -- No part breaks a rule, and the database holds what is written.
  pub record Writes (d : Database) : Type 0 where
    pub sound : rule_fault s ts ≡ None
    pub held : AreHeld ts s.models d

  -- each id in a value names a record
  pub record Reads (d : Database) : Type 0 where
    pub writes : Writes d
    pub found : lost s d ts ≡ None

module _ (limits : Limits) (s : Schema) (ts : List TableLit) where
  -- and the database keeps within the limits, where they are asked
  pub record IsGiven (d : Database) : Type 0 where
    pub reads : Reads s ts d
    pub within : excess limits d ≡ None

  -- What is wrong first: a part that breaks a rule, in reading order; then an id that names no record; then a limit, where it is asked.
  abbrev pub IsRefusedFor : Refusal → Type 0
  IsRefusedFor (refusal.Broken f) = rule_fault s ts ≡ Some f
  IsRefusedFor (refusal.Dangling at) = (d : Database) × Writes s ts d × (lost s d ts ≡ Some at)
  IsRefusedFor (refusal.Full what) = (d : Database) × Reads s ts d × (excess limits d ≡ Some what)
  IsRefusedFor refusal.OutOfMemory = Unit {0}
