-- A run of the program over a shelf, an input, a store and an output, all of it in one.
use Rattle.std.specs.Prelude.{◌≡◌, ℕ, Bool, true, false, List, Option, MatchOption}
use Rattle.app_certify.specs.Run.{IsCertifyRun}
use Rattle.app_certify.specs.Words as certify
use Rattle.app_impact.specs.Run.{IsImpactRun}
use Rattle.app_impact.specs.Words as impact
use Rattle.app_flow.specs.Files.{Files}
use Rattle.app_files.specs.declared.status.Status.{Status}
use Rattle.app_files.specs.Run.{IsFilesRun}
use Rattle.app_store.specs.Run.{IsStoreRun}
use Rattle.app_store.specs.Words.{command_of}
use Rattle.app_serve.specs.Run.{IsServeRun}
use Rattle.app_serve.specs.Words.{is_serve}
use Rattle.store_keeper.specs.declared.keeper.KeepCall.{KeepCall}
use Rattle.store_keeper.specs.Content.{Content}

-- The words are those of `serve`, or others.
abbrev pub MatchServe : Bool → (serves others : Type 0) → Type 0
MatchServe true serves others = serves
MatchServe false serves others = others

-- The words came to this status. A command over the store is carried out, and `serve` answers the lines of the input; a command on certificates is
-- carried out, or what weakenings newly allow is told, or any other words are answered, over files alone, and then the store is not called. Only `serve` reads the input. The shelf holds
-- `files`, tells what was `fetched` and counted `unread` faults; the input has `left` bytes and counted `unfed` ones; the store holds `content`, tells
-- the calls that `kept` it and counted `unkept` faults; the output `told` its bytes and counted `unwritten` faults; each as it was before and as it is
-- after.
abbrev pub IsRun : {F S K W : Type 0} (files : F → Option Files) (fetched : F → Option (List (List ℕ))) (unread : F → ℕ) (left : S → Option (List ℕ)) (unfed : S → ℕ) (content : K → Content) (kept : K → Option (List KeepCall)) (unkept : K → ℕ) (told : W → Option (List ℕ)) (unwritten : W → ℕ) (words : List (List ℕ)) (shelf shelf_after : F) (input input_after : S) (store store_after : K) (out out_after : W) (status : Status) → Type 0
IsRun files fetched unread left unfed content kept unkept told unwritten words shelf shelf_after input input_after store store_after out out_after status =
    MatchOption (command_of words)
    (MatchServe (is_serve words)
    (IsServeRun files fetched unread left unfed content kept unkept told unwritten shelf shelf_after input input_after store store_after out out_after status)
    (MatchOption (certify.command_of words)
    (MatchOption (impact.impact_of words)
    (IsFilesRun files fetched unread told unwritten words shelf shelf_after out out_after status × (store_after ≡ store) × (input_after ≡ input))
    (λ names. IsImpactRun files fetched unread told unwritten names shelf shelf_after out out_after status × (store_after ≡ store) × (input_after ≡ input)))
    (λ command. IsCertifyRun files fetched unread told unwritten command shelf shelf_after out out_after status × (store_after ≡ store) × (input_after ≡ input))))
    (λ command. IsStoreRun files fetched unread content kept unkept told unwritten command shelf shelf_after store store_after out out_after status × (input_after ≡ input))
