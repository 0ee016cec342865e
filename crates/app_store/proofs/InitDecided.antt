-- Where files and a store are told, what `init` comes to.
use Rattle.std.proofs.Common.{◌≡◌, ◌⊎◌, inl, inr, ℕ, List, sym, ◌∙◌, subst}
use Rattle.std.specs.Prelude.{Option, Some, None, IsTrue, is_some, IfSome, Ok, Err}
use Rattle.app_flow.specs.Files.{Files}
use Rattle.app_files.specs.declared.refusal.Refusal.{Refusal}
use Rattle.app_files.specs.declared.status.Status.{Status}
use Rattle.app_files.specs.declared.status.Status.TheVariants as exit
use Rattle.app_files.specs.declared.stop.Stop.{Stop}
use Rattle.app_files.specs.declared.stop.Stop.TheVariants as stop
use Rattle.app_files.specs.Answer.{SpecOf}
use Rattle.app_files.specs.Ends.{IsReported, Whole, Cut}
use Rattle.app_files.specs.Loads.{Fetches}
use Rattle.app_files.specs.Stages.{Then, Stops, Goes, Stopped, Went}
use Rattle.app_files.proofs.OneStatus.{file-spec-one}
use Rattle.type_schema.specs.Schema.{Schema}
use Rattle.data_meaning.specs.Database.{Database}
use Rattle.store_keeper.specs.Content.{Content}
use Rattle.store_apply.specs.Settling.{IsRenumbered}
use Rattle.app_store.specs.declared.answer.StoreAnswer.{StoreAnswer}
use Rattle.app_store.specs.declared.answer.StoreAnswer.TheVariants as answer
use Rattle.app_store.specs.declared.stop.StoreRefusal.{StoreRefusal}
use Rattle.app_store.specs.declared.stop.StoreStop.{StoreStop}
use Rattle.app_store.specs.declared.stop.StoreStop.TheVariants as why
use Rattle.app_store.specs.Answer.{AsksFree, AsksSchema, AsksBase, Inits, end_of, status_of, text_of}
use Rattle.app_store.specs.Calls.{Call}
use Rattle.app_store.specs.Ends as ends
use Rattle.app_store.specs.Ends.{IsStoppedBy, Ends}
use Rattle.app_store.specs.Headline.{IsFaulty, IsInitAsked}
use Rattle.app_store.specs.Store.{Loads}
use Rattle.app_store.specs.Told.{Told}
use Rattle.app_store.specs.Words.{Init}
use Rattle.app_store.proofs.Decided.{stopped-faulty}
use Rattle.app_store.proofs.Found.{init-found}
use Rattle.app_store.proofs.OneBase.{base-refused-not, base-no-file}

-- a schema is numbered anew in one way
renumbered-one : (s a b : Schema) → IsRenumbered s a → IsRenumbered s b → a ≡ b
renumbered-one s a b p q = let same : Ok a ≡ Ok b = sym p.typed ∙ q.typed in cc

module _ (told : Told) (name : List ℕ) (tells : IsTrue (is_some told.files)) where
  -- the file is one specification, and is not refused
  one-spec : (s t : Schema) → Then (Fetches told.files name) (SpecOf name) (Ok s) → Then (Fetches told.files name) (SpecOf name) (Ok t) → s ≡ t
  one-spec s t p q = go told.files tells p q
    where
      go : (files : Option Files) → IsTrue (is_some files) → Then (Fetches files name) (SpecOf name) (Ok s) → Then (Fetches files name) (SpecOf name) (Ok t) → s ≡ t
      go None lacks one two = absurd cc
      go (Some files) has one two = let same = file-spec-one files name (Ok s) (Ok t) tt tt one two in cc

  spec-so : (s : Schema) (r : Refusal) → Then (Fetches told.files name) (SpecOf name) (Ok s) → Then (Fetches told.files name) (SpecOf name) (Err (stop.Refused r)) → ⊥
  spec-so s r p q = go told.files tells p q
    where
      go : (files : Option Files) → IsTrue (is_some files) → Then (Fetches files name) (SpecOf name) (Ok s) → Then (Fetches files name) (SpecOf name) (Err (stop.Refused r)) → ⊥
      go None lacks one two = absurd cc
      go (Some files) has one two = let differ = file-spec-one files name (Ok s) (Err (stop.Refused r)) tt tt one two in cc

  schema-one : (c d : List Call) (s t : Schema) → AsksSchema told name c (Ok s) → AsksSchema told name d (Ok t) → s ≡ t
  schema-one c d s t (one, Stops w p e) q = absurd cc
  schema-one c d s t (one, Goes u p f) (two, Stops w q e) = absurd cc
  schema-one c d s t (one, Goes u p f) (two, Goes v q g) =
      let same : v ≡ u = one-spec v u q p in
      renumbered-one u s t f (subst (λ (z : Schema). IsRenumbered z t) same g)

  schema-no-store : (c : List Call) (r : StoreRefusal) → AsksSchema told name c (Err (why.Refused r)) → ⊥
  schema-no-store c r (one, Stops w (x, is, p) e) = cc
  schema-no-store c r (one, Goes u p never) = never

  schema-so : (c d : List Call) (s : Schema) (r : Refusal) → AsksSchema told name c (Ok s) → AsksSchema told name d (Err (why.Files (stop.Refused r))) → ⊥
  schema-so c d s r (one, Stops w p e) q = cc
  schema-so c d s r (one, Goes u p f) (two, Stops w (x, is, q) e) =
      let same : x ≡ stop.Refused r = cc in
      spec-so u r p (subst (λ (z : Stop). Then (Fetches told.files name) (SpecOf name) (Err z)) same q)
  schema-so c d s r (one, Goes u p f) (two, Goes v q never) = never

module _ (told : Told) (spec : List ℕ) (base_name : Option (List ℕ)) (schema : Schema) (base : Database) (asked : IsInitAsked told spec base_name schema base) (content : Content) (before after : Option (List ℕ)) (status : Status) where
  free-so : (calls : List Call) (r : StoreRefusal) → AsksFree told calls (Err (why.Refused r)) → ⊥
  free-so calls r (one, Stops w p e) =
      let same : w ≡ why.Refused r = cc in
      subst (λ (z : StoreStop). Loads told.content (Err z)) same p
  free-so calls r (one, Goes held loads (refusal, some)) =
      let is = subst (λ (c : Content). IfSome c (λ h. h ≡ held)) asked.free loads.0 in
      some (sym is)

  free-no-file : (calls : List Call) (r : Refusal) → AsksFree told calls (Err (why.Files (stop.Refused r))) → ⊥
  free-no-file calls r (one, Stops w p e) =
      let same : w ≡ why.Files (stop.Refused r) = cc in
      subst (λ (z : StoreStop). Loads told.content (Err z)) same p
  free-no-file calls r (one, Goes held loads never) = never

  same-schema : (c : List Call) (s : Schema) → AsksSchema told spec c (Ok s) → s ≡ schema
  same-schema c s p = schema-one told spec asked.tells c asked.spec_calls s schema p asked.is_schema

  init-refused : (calls : List Call) (r : StoreRefusal) → Inits told spec base_name calls (Err (why.Refused r)) → ⊥
  init-refused calls r (Stopped w p e) =
      let same : w ≡ why.Refused r = cc in
      free-so calls r (subst (λ (z : StoreStop). AsksFree told calls (Err z)) same p)
  init-refused calls r (Went x front later p (Stopped w q e) split) =
      let same : w ≡ why.Refused r = cc in
      schema-no-store told spec asked.tells later r (subst (λ (z : StoreStop). AsksSchema told spec later (Err z)) same q)
  init-refused calls r (Went x front later p (Went s front2 later2 q (Stopped w b e) split2) split) =
      let same : w ≡ why.Refused r = cc in
      base-refused-not told base_name schema base asked.tells asked.data_calls later2 r asked.is_base
      (subst (λ (z : Schema). AsksBase told base_name z later2 (Err (why.Refused r))) (same-schema front2 s q)
      (subst (λ (z : StoreStop). AsksBase told base_name s later2 (Err z)) same b))
  init-refused calls r (Went x front later p (Went s front2 later2 q (Went d front3 later3 b (none, never) split3) split2) split) = never

  init-no-file : (calls : List Call) (r : Refusal) → Inits told spec base_name calls (Err (why.Files (stop.Refused r))) → ⊥
  init-no-file calls r (Stopped w p e) =
      let same : w ≡ why.Files (stop.Refused r) = cc in
      free-no-file calls r (subst (λ (z : StoreStop). AsksFree told calls (Err z)) same p)
  init-no-file calls r (Went x front later p (Stopped w q e) split) =
      let same : w ≡ why.Files (stop.Refused r) = cc in
      schema-so told spec asked.tells asked.spec_calls later schema r asked.is_schema (subst (λ (z : StoreStop). AsksSchema told spec later (Err z)) same q)
  init-no-file calls r (Went x front later p (Went s front2 later2 q (Stopped w b e) split2) split) =
      let same : w ≡ why.Files (stop.Refused r) = cc in
      base-no-file told base_name schema base asked.tells asked.data_calls later2 r asked.is_base
      (subst (λ (z : Schema). AsksBase told base_name z later2 (Err (why.Files (stop.Refused r)))) (same-schema front2 s q)
      (subst (λ (z : StoreStop). AsksBase told base_name s later2 (Err z)) same b))
  init-no-file calls r (Went x front later p (Went s front2 later2 q (Went d front3 later3 b (none, never) split3) split2) split) = never

  init-whole : (a : StoreAnswer) (calls : List Call) → Inits told spec base_name calls (end_of a) → status ≡ status_of a → status ≡ exit.Done
  init-whole (answer.Initialised x) calls runs e = e
  init-whole (answer.Applied n x) calls runs e = e
  init-whole (answer.Shown x) calls runs e = e
  init-whole (answer.Checked c) calls runs e = absurd (let f = init-found told spec base_name calls (answer.Checked c) runs in let is = f.is in cc)
  init-whole (answer.FilesRefused r) calls runs e = absurd (init-no-file calls r runs)
  init-whole (answer.Refused r) calls runs e = absurd (init-refused calls r runs)

  init-reported : (a : StoreAnswer) (calls : List Call) → Inits told spec base_name calls (end_of a) → IsReported (text_of a) (status_of a) before after status → (status ≡ exit.Done) ⊎ IsFaulty status
  init-reported a calls runs (Whole e put) = inl (init-whole a calls runs e)
  init-reported a calls runs (Cut e front) = inr (inr (inl e))

  faulty-so : (status ≡ exit.StoreFault) ⊎ (status ≡ exit.OutOfMemory) → (status ≡ exit.Done) ⊎ IsFaulty status
  faulty-so (inl e) = inr (inr (inr (inl e)))
  faulty-so (inr e) = inr (inr (inr (inr e)))

  pub init-decided : (calls : List Call) → Ends told (Init spec base_name) calls content before after status → (status ≡ exit.Done) ⊎ IsFaulty status
  init-decided calls (ends.Reported r) = init-reported r.answer calls r.is_answer r.reported
  init-decided calls (ends.Stored u holds put) = init-reported u.answer u.asked u.is_answer put
  init-decided calls (ends.Unstored u fault kept) = faulty-so fault
  init-decided calls (ends.NoReport a runs e kept) = faulty-so (inr e)
  init-decided calls (ends.Stopped w runs e kept) = inr (stopped-faulty w status e)
