-- What the end of a command over the store says of what is stored, and of the script in the file.
use Rattle.std.specs.Prelude.{◌≡◌, ◌≢◌, ◌⊎◌, ◌<◌, ℕ, IsTrue, is_some, List, Option, Some, None, IfSome, Ok}
use Rattle.app_flow.specs.Told.{Appends}
use Rattle.app_files.specs.declared.status.Status.{Status}
use Rattle.app_files.specs.declared.status.Status.TheVariants.{Done, Leak, ReadFault, WriteFault, StoreFault, OutOfMemory}
use Rattle.app_files.specs.Answer.{ScriptOf}
use Rattle.app_files.specs.Headline.{ShowsLeak}
use Rattle.app_files.specs.Loads.{Fetches}
use Rattle.app_files.specs.Stages.{Then}
use Rattle.check_scripts.specs.Sound.{IsDecidable}
use Rattle.data_meaning.specs.Secure.{IsSecure, IsStepSecure}
use Rattle.data_meaning.specs.Database.{Database}
use Rattle.type_schema.specs.Schema.{Schema}
use Rattle.type_schema.specs.Script.{Script}
use Rattle.store_keeper.specs.Content.{Content, replaced}
use Rattle.store_keeper.specs.Stored.{Stored, IsStored, last_version}
use Rattle.store_apply.specs.Applied.{IsApplied, initial_of}
use Rattle.store_show.specs.Texts.{show_text}
use Rattle.app_store.specs.Answer.{AsksSchema, AsksBase}
use Rattle.app_store.specs.Calls.{Call}
use Rattle.app_store.specs.Told.{Told}
use Rattle.app_store.specs.Words.{Command, Init, Check, Apply, Show}

-- The store holds this.
pub record IsHeld (content : Content) (s : Stored) : Type 0 where
  pub told : IfSome content (λ held. held ≡ Some s)
  pub stored : IsStored s

-- The store holds s, and the file is this script over its schema.
pub record AsksOver (told : Told) (name : List ℕ) (s : Stored) (t : Script) : Type 0 where
  pub held : IsHeld told.content s
  pub script : Then (Fetches told.files name) (ScriptOf name s.schema) (Ok t)

-- Files and a store that are told ask for just this script over just this.
pub record IsAskedOf (told : Told) (name : List ℕ) (s : Stored) (t : Script) : Type 0 where
  pub held : told.content ≡ Some (Some s)
  pub tells : IsTrue (is_some told.files)
  pub script : Then (Fetches told.files name) (ScriptOf name s.schema) (Ok t)

-- A fault of an outside object or want of memory ended the run.
abbrev pub IsFaulty : Status → Type 0
IsFaulty status = (status ≡ ReadFault) ⊎ (status ≡ WriteFault) ⊎ (status ≡ StoreFault) ⊎ (status ≡ OutOfMemory)

-- The script over what is stored is secure and accepted, or it is not and leaks; or a fault or want of memory ended the run.
pub data IsSettledBy (t : Script) (status : Status) : Type 0 where
  Accepts : status ≡ Done → IsStepSecure t → IsSettledBy t status
  Leaks : status ≡ Leak → (IsStepSecure t → ⊥) → IsSettledBy t status
  Faults : IsFaulty status → IsSettledBy t status

-- The script in the file over what is stored is secure, and the store holds what it makes of that: its meaning.
pub record IsCarriedOut (told : Told) (name : List ℕ) (content : Content) : Type 0 where
  pub held : Stored
  pub script : Script
  pub asks : AsksOver told name held script
  pub rises : held.version < last_version
  pub step_secure : IsStepSecure script
  pub secure : IsSecure script
  pub now : Stored
  pub applied : IsApplied held script now
  pub holds : content ≡ replaced now told.content

module _ (told : Told) (name : List ℕ) (content : Content) (before after : Option (List ℕ)) (status : Status) where
  -- `check SCRIPT`. Where the script is accepted, it is secure, at each of its commands and as a whole: on every start database, of any size.
  -- Where it leaks, a real witness is put out. The store holds what it held. Where each of its obligations can be decided, it is accepted or leaks.
  pub record CheckHeadline : Type 0 where
    pub secure : status ≡ Done → (s : Stored) × (t : Script) × AsksOver told name s t × IsStepSecure t × IsSecure t
    pub leak : status ≡ Leak → (s : Stored) × (t : Script) × AsksOver told name s t × ShowsLeak t before after
    pub kept : content ≡ told.content
    pub decided : (s : Stored) (t : Script) → IsAskedOf told name s t → IsDecidable t → IsSettledBy t status

  -- `apply SCRIPT`. Where the script is accepted, it is secure, at each of its commands and as a whole: on every start database, of any size;
  -- and the store holds its meaning. Where it leaks, a real witness is put out. Whenever it is not accepted, the store holds what it held; where
  -- the output met a fault, it was one or the other. Where each of its obligations can be decided and the version can rise, it is accepted or
  -- leaks.
  pub record ApplyHeadline : Type 0 where
    pub accepted : status ≡ Done → IsCarriedOut told name content
    pub cut : status ≡ WriteFault → IsCarriedOut told name content ⊎ (content ≡ told.content)
    pub leak : status ≡ Leak → (s : Stored) × (t : Script) × AsksOver told name s t × ShowsLeak t before after
    pub unchanged : status ≢ Done → status ≢ WriteFault → content ≡ told.content
    pub decided : (s : Stored) (t : Script) → IsAskedOf told name s t → s.version < last_version → IsDecidable t → IsSettledBy t status

-- `init`: where it is done, the store held nothing, and holds the schema of the specification with the database of the data.
pub record IsInitialised (told : Told) (spec : List ℕ) (base_name : Option (List ℕ)) (content : Content) : Type 0 where
  pub free : IfSome told.content (λ held. held ≡ None)
  pub schema : Schema
  pub spec_calls : List Call
  pub is_schema : AsksSchema told spec spec_calls (Ok schema)
  pub base : Database
  pub data_calls : List Call
  pub is_base : AsksBase told base_name schema data_calls (Ok base)
  pub holds : content ≡ replaced (initial_of schema base) told.content

-- Files and a store that are told ask for just this schema and this database, and nothing is stored yet.
pub record IsInitAsked (told : Told) (spec : List ℕ) (base_name : Option (List ℕ)) (schema : Schema) (base : Database) : Type 0 where
  pub free : told.content ≡ Some None
  pub tells : IsTrue (is_some told.files)
  pub spec_calls : List Call
  pub is_schema : AsksSchema told spec spec_calls (Ok schema)
  pub data_calls : List Call
  pub is_base : AsksBase told base_name schema data_calls (Ok base)

pub record InitHeadline (told : Told) (spec : List ℕ) (base_name : Option (List ℕ)) (content : Content) (status : Status) : Type 0 where
  pub done : status ≡ Done → IsInitialised told spec base_name content
  pub cut : status ≡ WriteFault → IsInitialised told spec base_name content ⊎ (content ≡ told.content)
  pub unchanged : status ≢ Done → status ≢ WriteFault → content ≡ told.content
  -- where files and a store that are told ask for this, it is done
  pub decided : (schema : Schema) (base : Database) → IsInitAsked told spec base_name schema base → (status ≡ Done) ⊎ IsFaulty status

-- `show`: where it is done, the text of what the store holds is put out. The store is as it was.
pub record ShowHeadline (told : Told) (content : Content) (before after : Option (List ℕ)) (status : Status) : Type 0 where
  pub shown : status ≡ Done → (s : Stored) × IsHeld told.content s × Appends before after (show_text s)
  pub kept : content ≡ told.content
  pub decided : (s : Stored) → told.content ≡ Some (Some s) → (status ≡ Done) ⊎ IsFaulty status

-- what the end of the command says
abbrev pub StoreHeadline : Told → Command → (content : Content) → (before after : Option (List ℕ)) → Status → Type 0
StoreHeadline told (Init spec base_name) content before after status = InitHeadline told spec base_name content status
StoreHeadline told (Check name) content before after status = CheckHeadline told name content before after status
StoreHeadline told (Apply name) content before after status = ApplyHeadline told name content before after status
StoreHeadline told Show content before after status = ShowHeadline told content before after status
