-- What comes of a file: it is fetched, and then it is read as a tree.
use Rattle.std.specs.Prelude.{◌≡◌, ◌<◌, ◌≤◌, ℕ, List, length, ⊤, Option, Some, None, IfSome, IsSomeAnd, Ok, Err}
use Rattle.app_flow.specs.Files.{Files}
use Rattle.text_tree.specs.ExprGrammar.{G}
use Rattle.text_tree.specs.Texts.{IsTextOf}
use Rattle.text_parse.specs.Refused.{IsRefusedAs}
use Rattle.text_parse.specs.declared.syntax_err.SyntaxErr.{SyntaxErr}
use Rattle.app_files.specs.declared.limits.TheConstants.{MOST_FILE_BYTES}
use Rattle.app_files.specs.declared.refusal.Refusal.{Refusal}
use Rattle.app_files.specs.declared.refusal.Refusal.TheVariants.{Usage, Missing, TooLong, Text, SpecTypes, ScriptTypes}
use Rattle.app_files.specs.declared.stop.Stop.TheVariants.{Refused, ReadFault, OutOfMemory}
use Rattle.app_files.specs.Stages.{Stage, Judges}

-- Why the shelf does not give a file of at most so many bytes: it has none of that name, or the file is above the limit.
abbrev pub IsNotGiven : (limit : ℕ) → Option Files → List ℕ → Refusal → Type 0
IsNotGiven limit told name (Missing n) = (n ≡ name) × IfSome told (λ files. files name ≡ None)
IsNotGiven limit told name (TooLong n) = (n ≡ name) × IfSome told (λ files. IsSomeAnd (files name) (λ text. limit < length text))
IsNotGiven limit told name Usage = ⊥
IsNotGiven limit told name (Text n err) = ⊥
IsNotGiven limit told name (SpecTypes n err) = ⊥
IsNotGiven limit told name (ScriptTypes n fault) = ⊥

-- The shelf gives the file of that name, of at most so many bytes. Where it tells its files, it is that file.
abbrev pub FetchesWithin : (limit : ℕ) → Option Files → List ℕ → Stage (List ℕ)
FetchesWithin limit told name (Ok text) = (length text ≤ limit) × IfSome told (λ files. files name ≡ Some text)
FetchesWithin limit told name (Err (Refused refusal)) = IsNotGiven limit told name refusal
FetchesWithin limit told name (Err ReadFault) = ⊤
FetchesWithin limit told name (Err OutOfMemory) = ⊤

-- The shelf gives the specification or script of that name.
abbrev pub Fetches : Option Files → List ℕ → Stage (List ℕ)
Fetches told name = FetchesWithin MOST_FILE_BYTES told name

-- The text is read as the tree of the form that it spells; or it is refused for the cause that it has.
abbrev pub Reads : {T : Type 0} → G T → List ℕ → List ℕ → Stage T
Reads form name text =
    Judges (λ refusal. (err : SyntaxErr) × (refusal ≡ Text name err) × IsRefusedAs form text err) (IsTextOf form text)
