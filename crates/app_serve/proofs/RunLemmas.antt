-- Runs of the door, one line after another.
use Rattle.std.proofs.Common.{ℕ, List, [], ◌∷◌, ◌++◌, Option, sym, subst, append-nil, append_assoc}
use Rattle.app_flow.specs.Files.{Files}
use Rattle.app_store.specs.Calls.{Call}
use Rattle.door_meaning.specs.Replies.{reply_text}
use Rattle.door_meaning.specs.Sessions.{Outcome}
use Rattle.door_meaning.specs.State.{State}
use Rattle.door_meaning.specs.Step.{DoorRun, DoorStep, Line, Stands, Steps}

-- a run and then one more line
pub run-more : (files : Option Files) (st mid : State) (lines : List Line) (calls : List Call) (text : List ℕ) → DoorRun files st lines calls text mid
    → (line : Line) (more : List Call) (outcome : Outcome) → DoorStep files mid line more outcome
    → DoorRun files st (lines ++ line ∷ []) (calls ++ more) (text ++ reply_text outcome.reply) outcome.state
run-more files st _ _ _ _ (Stands at) line more outcome step =
    let run = Steps at outcome.state line [] more [] outcome [] step (Stands outcome.state) in
    subst (λ (c : List Call). DoorRun files at (line ∷ []) c (reply_text outcome.reply) outcome.state) (append-nil more)
    (subst (λ (t : List ℕ). DoorRun files at (line ∷ []) (more ++ []) t outcome.state) (append-nil (reply_text outcome.reply)) run)
run-more files st _ _ _ _ (Steps at after first lines calls later made text one rest) line more outcome step =
    let run = Steps at outcome.state first (lines ++ line ∷ []) calls (later ++ more) made (text ++ reply_text outcome.reply) one
    (run-more files made.state after lines later text rest line more outcome step) in
    subst (λ (c : List Call). DoorRun files at (first ∷ (lines ++ line ∷ [])) c ((reply_text made.reply ++ text) ++ reply_text outcome.reply) outcome.state) (sym (append_assoc calls later more))
    (subst (λ (t : List ℕ). DoorRun files at (first ∷ (lines ++ line ∷ [])) (calls ++ (later ++ more)) t outcome.state) (sym (append_assoc (reply_text made.reply) text (reply_text outcome.reply))) run)
