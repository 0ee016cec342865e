-- A text that writes a database is refused for nothing.
use Rattle.std.proofs.Common.{◌≡◌, ℕ, List, subst}
use Rattle.std.specs.Prelude.{Option, Some, None, IsTrue, is_some, Ok, Err}
use Rattle.app_flow.specs.Files.{Files}
use Rattle.app_files.specs.declared.refusal.Refusal.{Refusal}
use Rattle.app_files.specs.declared.refusal.Refusal.TheVariants as refusal
use Rattle.app_files.specs.declared.stop.Stop.{Stop}
use Rattle.app_files.specs.declared.stop.Stop.TheVariants as stop
use Rattle.app_files.specs.Loads.{FetchesWithin}
use Rattle.app_files.specs.Stages.{Stops, Goes}
use Rattle.app_files.proofs.OneStatus.{fetches-one}
use Rattle.type_schema.specs.Schema.{Schema}
use Rattle.data_meaning.specs.Database.{Database}
use Rattle.data_judge.specs.declared.limits.Limits.TheVariants.{Asked}
use Rattle.data_read.specs.declared.read_err.ReadErr.TheVariants as err
use Rattle.data_read.proofs.OneReading.{read-not-refused}
use Rattle.app_store.specs.declared.limits.TheConstants.{MOST_DATA_BYTES}
use Rattle.app_store.specs.declared.stop.StoreRefusal.{StoreRefusal}
use Rattle.app_store.specs.declared.stop.StoreRefusal.TheVariants.{IsSet, IsEmpty, IsSpent, Data}
use Rattle.app_store.specs.declared.stop.StoreStop.TheVariants as why
use Rattle.app_store.specs.Answer.{AsksBase}
use Rattle.app_store.specs.Calls.{Call}
use Rattle.app_store.specs.Data.{DataOf, DataOfFile, IsNoData}
use Rattle.app_store.specs.Told.{Told}

no-data : (name : List ℕ) (s : Schema) (text : List ℕ) (d : Database) → DataOf name s text (Ok d) → (r : StoreRefusal) → IsNoData name s text r → ⊥
no-data name s text d reads IsSet h = h
no-data name s text d reads IsEmpty h = h
no-data name s text d reads IsSpent h = h
no-data name s text d reads (Data n e) (same, of, refused) = read-not-refused Asked s text d e reads refused

text-so : (name : List ℕ) (s : Schema) (text : List ℕ) (d : Database) → DataOf name s text (Ok d) → (r : Refusal) → DataOf name s text (Err (why.Files (stop.Refused r))) → ⊥
text-so name s text d reads refusal.Usage h = h
text-so name s text d reads (refusal.Missing n) h = h
text-so name s text d reads (refusal.TooLong n) h = h
text-so name s text d reads (refusal.Text n e) (same, refused) = read-not-refused Asked s text d (err.Syntax e) reads refused
text-so name s text d reads (refusal.SpecTypes n e) h = h
text-so name s text d reads (refusal.ScriptTypes n fault) h = h

-- ---- files

module _ (files : Files) (name : List ℕ) where
  one-text : (t u : List ℕ) → FetchesWithin MOST_DATA_BYTES (Some files) name (Ok t) → FetchesWithin MOST_DATA_BYTES (Some files) name (Ok u) → t ≡ u
  one-text t u p q = let same = fetches-one MOST_DATA_BYTES files name (Ok t) (Ok u) tt tt p q in cc

  fetched-so : (t : List ℕ) (r : Refusal) → FetchesWithin MOST_DATA_BYTES (Some files) name (Ok t) → FetchesWithin MOST_DATA_BYTES (Some files) name (Err (stop.Refused r)) → ⊥
  fetched-so t r p q = let differ = fetches-one MOST_DATA_BYTES files name (Ok t) (Err (stop.Refused r)) tt tt p q in cc

  file-refused-not : (s : Schema) (d : Database) (r : StoreRefusal) → DataOfFile (Some files) name s (Ok d) → DataOfFile (Some files) name s (Err (why.Refused r)) → ⊥
  file-refused-not s d r (Stops w p e) q = cc
  file-refused-not s d r (Goes t p reads) (Stops w (x, is, q) e) = cc
  file-refused-not s d r (Goes t p reads) (Goes u q refused) =
      no-data name s t d reads r (subst (λ (z : List ℕ). DataOf name s z (Err (why.Refused r))) (one-text u t q p) refused)

  file-so : (s : Schema) (d : Database) (r : Refusal) → DataOfFile (Some files) name s (Ok d) → DataOfFile (Some files) name s (Err (why.Files (stop.Refused r))) → ⊥
  file-so s d r (Stops w p e) q = cc
  file-so s d r (Goes t p reads) (Stops w (x, is, q) e) =
      let same : x ≡ stop.Refused r = cc in
      fetched-so t r p (subst (λ (z : Stop). FetchesWithin MOST_DATA_BYTES (Some files) name (Err z)) same q)
  file-so s d r (Goes t p reads) (Goes u q refused) =
      text-so name s t d reads r (subst (λ (z : List ℕ). DataOf name s z (Err (why.Files (stop.Refused r)))) (one-text u t q p) refused)

-- ---- the database of `init`

pub base-refused-not : (told : Told) (base_name : Option (List ℕ)) (s : Schema) (d : Database) → IsTrue (is_some told.files) → (c e : List Call) (r : StoreRefusal)
    → AsksBase told base_name s c (Ok d) → AsksBase told base_name s e (Err (why.Refused r)) → ⊥
base-refused-not told None s d tells c e r p (none, never) = never
base-refused-not told (Some name) s d tells c e r (one, p) (two, q) = go told.files tells p q
  where
    go : (files : Option Files) → IsTrue (is_some files) → DataOfFile files name s (Ok d) → DataOfFile files name s (Err (why.Refused r)) → ⊥
    go None lacks x y = absurd cc
    go (Some files) has x y = file-refused-not files name s d r x y

pub base-no-file : (told : Told) (base_name : Option (List ℕ)) (s : Schema) (d : Database) → IsTrue (is_some told.files) → (c e : List Call) (r : Refusal)
    → AsksBase told base_name s c (Ok d) → AsksBase told base_name s e (Err (why.Files (stop.Refused r))) → ⊥
base-no-file told None s d tells c e r p (none, never) = never
base-no-file told (Some name) s d tells c e r (one, p) (two, q) = go told.files tells p q
  where
    go : (files : Option Files) → IsTrue (is_some files) → DataOfFile files name s (Ok d) → DataOfFile files name s (Err (why.Files (stop.Refused r))) → ⊥
    go None lacks x y = absurd cc
    go (Some files) has x y = file-so files name s d r x y
