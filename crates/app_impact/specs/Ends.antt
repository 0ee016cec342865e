-- How a run of `impact` ends.
use Rattle.std.specs.Prelude.{◌≡◌, ℕ, List, Option, Err}
use Rattle.app_flow.specs.Files.{Files}
use Rattle.app_files.specs.Ends.{IsReported}
use Rattle.app_files.specs.Words.{Names}
use Rattle.app_files.specs.declared.status.Status.{Status}
use Rattle.app_files.specs.declared.status.Status.TheVariants.{ReadFault, OutOfMemory}
use Rattle.app_files.specs.declared.stop.Stop.TheVariants as stop
use Rattle.app_impact.specs.declared.answer.ImpactAnswer.{ImpactAnswer}
use Rattle.app_impact.specs.Answer.{FindsFiles, IsAnswer, status_of, text_of}

-- The report of the answer was put into the output, or there was not enough memory for it.
pub data IsPut (answer : ImpactAnswer) (before after : Option (List ℕ)) (status : Status) : Type 0 where
  Report : IsReported (text_of answer) (status_of answer) before after status → IsPut answer before after status
  NoReport : status ≡ OutOfMemory → IsPut answer before after status

-- The files are answered, and the report of the answer is put into the output; or the shelf met a fault; or there was not enough memory. These names are
-- fetched on the way.
pub data ImpactEnds (files : Option Files) (names : Names) (calls : List (List ℕ)) (before after : Option (List ℕ)) (status : Status) : Type 0 where
  Answered : (answer : ImpactAnswer) → IsAnswer files names calls answer → IsPut answer before after status → ImpactEnds files names calls before after status
  Unread : status ≡ ReadFault → FindsFiles files names calls (Err stop.ReadFault) → ImpactEnds files names calls before after status
  NoMemory : status ≡ OutOfMemory → FindsFiles files names calls (Err stop.OutOfMemory) → ImpactEnds files names calls before after status
