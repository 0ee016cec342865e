-- Parts of commands over the store: what they never come to, and scripts that are checked on the way.
use Rattle.std.proofs.Common.{◌≡◌, ℕ, List, [], ◌∷◌, refl, sym, ap, ◌∙◌, subst}
use Rattle.std.specs.Prelude.{Option, Some, None, Result, Ok, Err}
use Rattle.std.specs.List.{flat_map}
use Rattle.app_files.specs.declared.stop.Stop.{Stop}
use Rattle.app_files.specs.declared.stop.Stop.TheVariants as stop
use Rattle.app_files.specs.declared.answer.Checked.{Checked}
use Rattle.app_files.specs.Answer.{SpecOf, ScriptOf, Checks}
use Rattle.app_files.specs.Loads.{Fetches, FetchesWithin}
use Rattle.app_files.specs.Stages.{Stage, Then, Stops, Goes, Gives, Stopping, ComesTo, Calling}
use Rattle.app_flow.specs.Files.{Files}
use Rattle.app_flow.specs.Outside.{IsRead}
use Rattle.app_flow.proofs.OutsideLemmas.{read-as}
use Rattle.store_keeper.specs.declared.keeper.KeepCall.{KeepCall}
use Rattle.store_keeper.specs.Content.{Content}
use Rattle.type_schema.specs.Schema.{Schema}
use Rattle.data_meaning.specs.Database.{Database}
use Rattle.store_apply.specs.Settling.{IsRenumbered}
use Rattle.app_store.specs.declared.stop.StoreStop.{StoreStop}
use Rattle.app_store.specs.declared.stop.StoreStop.TheVariants as why
use Rattle.app_store.specs.Answer.{AsksBase, AsksSchema, ChecksScript}
use Rattle.app_store.specs.Calls.{Call, Fetch, fetched_by, kept_by}
use Rattle.app_store.specs.Data.{DataOf}
use Rattle.app_store.specs.declared.limits.TheConstants.{MOST_DATA_BYTES}
use Rattle.app_store.specs.Ran.{Ran}
use Rattle.app_store.specs.Stages.{StoreStage, StorePart, Makes}
use Rattle.app_store.specs.Store.{Loads, IsFree, Holds, MayRise}
use Rattle.app_store.specs.Told.{Told, IsKept}
use Rattle.app_store.proofs.Ran.{kept-as, kept-none, ran-file}

-- ---- the store reads no file

pub free-unread : (content : Content) → ¬ (Then (Loads content) IsFree (Err (why.Files stop.ReadFault)))
free-unread content (Stops w p e) =
    let same : w ≡ why.Files stop.ReadFault = cc in
    subst (λ (z : StoreStop). Loads content (Err z)) same p
free-unread content (Goes held loads never) = never

pub held-unread : (content : Content) → ¬ (Then (Loads content) Holds (Err (why.Files stop.ReadFault)))
held-unread content (Stops w p e) =
    let same : w ≡ why.Files stop.ReadFault = cc in
    subst (λ (z : StoreStop). Loads content (Err z)) same p
held-unread content (Goes held loads never) = never

pub rising-unread : (content : Content) → ¬ (Then (Then (Loads content) Holds) MayRise (Err (why.Files stop.ReadFault)))
rising-unread content (Stops w p e) =
    let same : w ≡ why.Files stop.ReadFault = cc in
    held-unread content (subst (λ (z : StoreStop). Then (Loads content) Holds (Err z)) same p)
rising-unread content (Goes s held never) = never

-- ---- files are no store

pub files-unkept : {A : Type 0} (stage : Stage A) → ¬ (Stopping why.Files stage (Err why.StoreFault))
files-unkept stage (s, is, p) = cc

pub then-unkept : {A B : Type 0} (stage : Stage A) (second : A → StoreStage B) → ((x : A) → ¬ (second x (Err why.StoreFault))) → ¬ (Then (Stopping why.Files stage) second (Err why.StoreFault))
then-unkept stage second never (Stops w (s, is, p) e) = cc
then-unkept stage second never (Goes x p q) = never x q

pub schema-unkept : (files : Option Files) (name : List ℕ) → ¬ (Then (Stopping why.Files (Then (Fetches files name) (SpecOf name))) (λ (s : Schema). Makes (IsRenumbered s)) (Err why.StoreFault))
schema-unkept files name = then-unkept (Then (Fetches files name) (SpecOf name)) (λ (s : Schema). Makes (IsRenumbered s)) (λ s h. h)

base-unkept : (told : Told) (base_name : Option (List ℕ)) (s : Schema) (calls : List Call) → ¬ (AsksBase told base_name s calls (Err why.StoreFault))
base-unkept told None s calls (none, h) = h
base-unkept told (Some name) s calls (one, h) = then-unkept (FetchesWithin MOST_DATA_BYTES told.files name) (DataOf name s) (λ text h. h) h

base-seen : (told : Told) (base_name : Option (List ℕ)) (s : Schema) (calls : List Call) (r : Result Database StoreStop) → AsksBase told base_name s calls r
    → ComesTo (AsksBase told base_name s calls) (λ (d : Database). d) r
base-seen told base_name s calls (Ok d) h = h
base-seen told base_name s calls (Err why) h = h

-- what stopped a stage over files is handed on
pub files-stopped : {A B : Type 0} (r : Result A Stop) (end : Result B StoreStop) (s : Stop) → r ≡ Err s → end ≡ Err (why.Files s) → end ≡ Err (why.Files stop.ReadFault) → r ≡ Err stop.ReadFault
files-stopped r end s was is fault =
    let same : s ≡ stop.ReadFault = cc in
    was ∙ ap (λ (z : Stop). Err z) same

module _ {F K : Type 0} (files : F → Option Files) (fetched : F → Option (List (List ℕ))) (unread : F → ℕ) (content : K → Content) (kept : K → Option (List KeepCall)) (unkept : K → ℕ) where
  -- a file is fetched, and the stages over it stop
  pub ran-file-stopped : {A B C : Type 0} (name : List ℕ) (stage : Stage A) (seen : B → A) (shelf shelf_after : F) (store : K) (r : Result C Stop) (s : Stop) → r ≡ Err s → stage (Err s)
      → IsRead files fetched unread shelf shelf_after (name ∷ []) (r ≡ Err stop.ReadFault)
      → Ran files fetched unread content kept unkept (Calling (Fetch name) (Stopping why.Files stage)) seen shelf shelf_after store store (Err (why.Files s))
  ran-file-stopped {A} {B} name stage seen shelf shelf_after store r s was h read =
      ran-file files fetched unread content kept unkept name (Stopping why.Files stage) seen shelf shelf_after store (Err (why.Files s)) (s, refl, h)
      (read-as files fetched unread shelf shelf_after _ _ _ (λ e. files-stopped r (Err (why.Files s)) s was refl e) read) (files-unkept stage)

  -- a script is checked over the schema
  pub ran-checked : (told : Told) (name : List ℕ) (s : Schema) (shelf shelf_after : F) (store : K) (checked : Checked) (failed : Type 0)
      → Then (Then (Fetches told.files name) (ScriptOf name s)) Checks (Ok checked) → IsRead files fetched unread shelf shelf_after (name ∷ []) failed
      → Ran files fetched unread content kept unkept (ChecksScript told name s) (λ (y : Checked). y) shelf shelf_after store store (Ok checked)
  ran-checked told name s shelf shelf_after store checked failed h read =
      let stage : Stage Checked = Then (Then (Fetches told.files name) (ScriptOf name s)) Checks in
      ran-file files fetched unread content kept unkept name (Stopping why.Files stage) (λ (y : Checked). y) shelf shelf_after store (Ok checked) h
      (read-as files fetched unread shelf shelf_after _ _ _ (λ e. absurd cc) read) (files-unkept stage)

  pub ran-unchecked : (told : Told) (name : List ℕ) (s : Schema) (shelf shelf_after : F) (store : K) (r : Result Checked Stop) (x : Stop) → r ≡ Err x
      → Then (Then (Fetches told.files name) (ScriptOf name s)) Checks (Err x) → IsRead files fetched unread shelf shelf_after (name ∷ []) (r ≡ Err stop.ReadFault)
      → Ran files fetched unread content kept unkept (ChecksScript told name s) (λ (y : Checked). y) shelf shelf_after store store (Err (why.Files x))
  ran-unchecked told name s shelf shelf_after store r x was h read =
      ran-file-stopped name (Then (Then (Fetches told.files name) (ScriptOf name s)) Checks) (λ (y : Checked). y) shelf shelf_after store r x was h read

  -- a specification is fetched and numbered anew
  pub ran-schema : {C : Type 0} (told : Told) (name : List ℕ) (seen : C → Schema) (shelf shelf_after : F) (store : K) (r : Result C StoreStop)
      → ComesTo (Then (Stopping why.Files (Then (Fetches told.files name) (SpecOf name))) (λ (s : Schema). Makes (IsRenumbered s))) seen r
      → IsRead files fetched unread shelf shelf_after (name ∷ []) (r ≡ Err (why.Files stop.ReadFault))
      → Ran files fetched unread content kept unkept (AsksSchema told name) seen shelf shelf_after store store r
  ran-schema told name seen shelf shelf_after store r came read =
      ran-file files fetched unread content kept unkept name (Then (Stopping why.Files (Then (Fetches told.files name) (SpecOf name))) (λ (s : Schema). Makes (IsRenumbered s))) seen shelf shelf_after store r came read
      (schema-unkept told.files name)

  -- the database of `init`
  pub ran-base : (told : Told) (base_name : Option (List ℕ)) (s : Schema) (shelf shelf_after : F) (store : K) (r : Result Database StoreStop)
      → (calls : List Call) × AsksBase told base_name s calls r × (flat_map kept_by calls ≡ []) × IsRead files fetched unread shelf shelf_after (flat_map fetched_by calls) (r ≡ Err (why.Files stop.ReadFault))
      → Ran files fetched unread content kept unkept (AsksBase told base_name s) (λ (d : Database). d) shelf shelf_after store store r
  ran-base told base_name s shelf shelf_after store r (calls, asks, none, read) = record {
    calls = calls;
    came = base-seen told base_name s calls r asks;
    read = read;
    kept_so =
        subst (λ (made : List KeepCall). IsKept kept unkept store store made (r ≡ Err why.StoreFault)) (sym none)
        (kept-none kept unkept store _ (λ e. base-unkept told base_name s calls (subst (λ (z : Result Database StoreStop). AsksBase told base_name s calls z) e asks)));
    same = refl;
  }

  -- what a part passes on is put into a larger value
  pub ran-given : {A C : Type 0} (into : A → C) (part : StorePart A) (a b : F) (p q : K) (x : A) → Ran files fetched unread content kept unkept part (λ (y : A). y) a b p q (Ok x)
      → Ran files fetched unread content kept unkept (λ calls. Gives into (part calls)) (λ (y : C). y) a b p q (Ok (into x))
  ran-given into part a b p q x ran = record {
    calls = ran.calls;
    came = (x, refl, ran.came);
    read = read-as files fetched unread a b _ _ _ (λ e. absurd cc) ran.read;
    kept_so = kept-as kept unkept p q _ _ _ (λ e. absurd cc) ran.kept_so;
    same = ran.same;
  }

  pub ran-given-stopped : {A C : Type 0} (into : A → C) (part : StorePart A) (a b : F) (p q : K) (s : StoreStop) → Ran files fetched unread content kept unkept part (λ (y : A). y) a b p q (Err s)
      → Ran files fetched unread content kept unkept (λ calls. Gives into (part calls)) (λ (y : C). y) a b p q (Err s)
  ran-given-stopped into part a b p q s ran = record {
    calls = ran.calls;
    came = ran.came;
    read = read-as files fetched unread a b _ _ _ (λ e. let same : s ≡ why.Files stop.ReadFault = cc in ap (λ (z : StoreStop). Err z) same) ran.read;
    kept_so = kept-as kept unkept p q _ _ _ (λ e. let same : s ≡ why.StoreFault = cc in ap (λ (z : StoreStop). Err z) same) ran.kept_so;
    same = ran.same;
  }

  -- a part ends so, as an answer of another type
  pub ran-as : {A B : Type 0} (part : StorePart A) (seen : B → A) (a b : F) (p q : K) (r end : Result B StoreStop) → end ≡ r → Ran files fetched unread content kept unkept part seen a b p q r
      → Ran files fetched unread content kept unkept part seen a b p q end
  ran-as {A} {B} part seen a b p q r end is ran = subst (λ (z : Result B StoreStop). Ran files fetched unread content kept unkept part seen a b p q z) (sym is) ran
