-- What was answered to lines, and why no more were.
use Rattle.std.specs.Prelude.{◌≡◌, ◌<◌, ℕ, List, [], ◌++◌, map, Option}
use Rattle.std.specs.Io.KnownBytes.{Consumes}
use Rattle.app_flow.specs.Files.{Files}
use Rattle.app_files.specs.declared.status.Status.{Status}
use Rattle.app_files.specs.declared.status.Status.TheVariants.{Done, ReadFault, WriteFault, StoreFault, OutOfMemory, TooLong}
use Rattle.app_store.specs.Calls.{Call}
use Rattle.door_lines.specs.Lines.{IsInLine}
use Rattle.door_meaning.specs.declared.limits.TheConstants.{MOST_INPUT_BYTES}
use Rattle.door_meaning.specs.State.{State}
use Rattle.door_meaning.specs.Step.{DoorRun}
use Rattle.store_keeper.specs.Stored.{Stored}
use Rattle.app_serve.specs.Lines.{AreLines, read_as}

abbrev pub most_input_bytes : ℕ
most_input_bytes = MOST_INPUT_BYTES

-- the door over what is stored, without sessions
abbrev pub door_over : Stored → State
door_over s = record { stored = s; sessions = [] }

-- Bytes were taken from the input: these lines, each answered in the one run of the door over them, and then this rest.
pub record AreAnswered (files : Option Files) (s : Stored) (input input_after : Option (List ℕ)) (bytes : List ℕ) (lines : List (List ℕ)) (rest : List ℕ) (calls : List Call) (text : List ℕ) (after : State) : Type 0 where
  pub taken : Consumes input input_after (bytes ++ rest)
  pub are_lines : AreLines input bytes lines
  pub run : DoorRun files (door_over s) (map read_as lines) calls text after

-- Why no further line is answered. Each fault comes only where its object counted one.
pub data IsEnd (no_file no_input no_output no_store at_end : Type 0) (took : ℕ) (rest : List ℕ) (status : Status) : Type 0 where
  -- the input has ended, and each of its lines is answered
  AtEnd : status ≡ Done → at_end → rest ≡ [] → took < most_input_bytes → IsEnd no_file no_input no_output no_store at_end took rest status
  -- as many bytes were taken as may be, and each whole line among them is answered
  Spent : status ≡ TooLong → took ≡ most_input_bytes → IsInLine rest → IsEnd no_file no_input no_output no_store at_end took rest status
  -- the input met a fault, and each whole line among the bytes taken is answered
  Unfed : status ≡ ReadFault → no_input → IsInLine rest → IsEnd no_file no_input no_output no_store at_end took rest status
  -- the next line found a file that the shelf did not give
  Unread : status ≡ ReadFault → no_file → IsEnd no_file no_input no_output no_store at_end took rest status
  -- of the reply to the last line that is answered a front was put out
  Unwritten : status ≡ WriteFault → no_output → IsEnd no_file no_input no_output no_store at_end took rest status
  -- the store did not take what the next line made
  Unstored : status ≡ StoreFault → no_store → IsEnd no_file no_input no_output no_store at_end took rest status
  NoMemory : status ≡ OutOfMemory → IsEnd no_file no_input no_output no_store at_end took rest status
