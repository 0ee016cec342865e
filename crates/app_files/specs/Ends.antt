-- How a run of the program ends.
use Rattle.std.specs.Prelude.{◌≡◌, ◌⊎◌, ℕ, ⊤, List, Option, Err}
use Rattle.app_flow.specs.Files.{Files}
use Rattle.app_flow.specs.Told.{Appends, AppendsFront}
use Rattle.app_files.specs.declared.answer.Answer.{Answer}
use Rattle.app_files.specs.declared.status.Status.{Status}
use Rattle.app_files.specs.declared.status.Status.TheVariants as status
use Rattle.app_files.specs.declared.status.Status.TheVariants.{Usage, ReadFault, WriteFault, StoreFault, OutOfMemory}
use Rattle.app_files.specs.declared.stop.Stop.TheVariants as stop
use Rattle.app_files.specs.Answer.{IsAnswer, Runs, status_of, text_of}

-- The report was put into the output, whole, so that the run ends as it was decided, or cut short by a fault.
pub data IsReported (report : List ℕ) (decided : Status) (before after : Option (List ℕ)) (status : Status) : Type 0 where
  Whole : status ≡ decided → Appends before after report → IsReported report decided before after status
  Cut : status ≡ WriteFault → AppendsFront before after report → IsReported report decided before after status

-- The report of the answer was put into the output, or there was not enough memory for it.
pub data IsPut (answer : Answer) (before after : Option (List ℕ)) (status : Status) : Type 0 where
  Report : IsReported (text_of answer) (status_of answer) before after status → IsPut answer before after status
  NoReport : status ≡ OutOfMemory → IsPut answer before after status

-- The words are answered, and the report of the answer is put into the output; or, where a file was due, the shelf met a
-- fault; or there was not enough memory. These names are fetched on the way.
pub data Ends (files : Option Files) (words calls : List (List ℕ)) (before after : Option (List ℕ)) (status : Status) : Type 0 where
  Answered : (answer : Answer) → IsAnswer files words calls answer → IsPut answer before after status → Ends files words calls before after status
  Unread : status ≡ ReadFault → Runs files words calls (Err stop.ReadFault) → Ends files words calls before after status
  NoMemory : status ≡ OutOfMemory → Runs files words calls (Err stop.OutOfMemory) → Ends files words calls before after status

-- A fault or want of memory ended the run, and no answer.
abbrev pub IsCutOff : Status → Type 0
IsCutOff status.Done = ⊥
IsCutOff status.Usage = ⊥
IsCutOff status.Missing = ⊥
IsCutOff status.TextRefused = ⊥
IsCutOff status.TypesRefused = ⊥
IsCutOff status.Leak = ⊥
IsCutOff status.Undecided = ⊥
IsCutOff status.TooLarge = ⊥
IsCutOff status.StoreState = ⊥
IsCutOff status.ReadFault = ⊤
IsCutOff status.WriteFault = ⊤
IsCutOff status.StoreFault = ⊤
IsCutOff status.OutOfMemory = ⊤
IsCutOff status.TooLong = ⊥
IsCutOff status.BadCertificate = ⊥

-- With these the program wrote nothing.
abbrev pub IsSilent : Status → Type 0
IsSilent status = (status ≡ ReadFault) ⊎ (status ≡ StoreFault) ⊎ (status ≡ OutOfMemory)

-- With one of these the program ends where its words are no command.
abbrev pub IsOfUsage : Status → Type 0
IsOfUsage status = (status ≡ Usage) ⊎ (status ≡ WriteFault) ⊎ (status ≡ OutOfMemory)
