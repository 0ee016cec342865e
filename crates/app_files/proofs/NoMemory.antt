-- What is checked where there is no memory, and over the same files.
use Rattle.std.proofs.Common.{◌≡◌, ℕ, List, [], ◌∷◌, refl, subst}
use Rattle.std.specs.Prelude.{Option, Some, Result, Err}
use Rattle.app_flow.specs.Files.{Files}
use Rattle.app_flow.specs.Shelves.{MemFileState, files_of}
use Rattle.app_files.specs.declared.answer.Checked.{Checked}
use Rattle.app_files.specs.declared.stop.Stop.{Stop}
use Rattle.app_files.specs.declared.stop.Stop.TheVariants.{OutOfMemory}
use Rattle.app_files.specs.Answer.{ChecksFiles}
use Rattle.app_files.specs.Stages.{Stops, Stopped, InMemory}
use Rattle.app_files.specs.Words.{Names, names_of}

pub no-memory : (told : Option Files) (names : Names) → InMemory (ChecksFiles told names) (Err OutOfMemory)
no-memory told names = (names.spec ∷ [], Stopped OutOfMemory (Stopped OutOfMemory (refl, Stops OutOfMemory tt refl) refl) refl)

pub same-files : (a b : List MemFileState) (s t u v : List ℕ) (r : Result Checked Stop) → a ≡ b → s ≡ t → u ≡ v
    → InMemory (ChecksFiles (Some (files_of a)) (names_of s u)) r → InMemory (ChecksFiles (Some (files_of b)) (names_of t v)) r
same-files a b s t u v r files specification script h =
    subst (λ (z : List MemFileState). InMemory (ChecksFiles (Some (files_of z)) (names_of t v)) r) files
    (subst (λ (z : List ℕ). InMemory (ChecksFiles (Some (files_of a)) (names_of z v)) r) specification
    (subst (λ (z : List ℕ). InMemory (ChecksFiles (Some (files_of a)) (names_of s z)) r) script h))
