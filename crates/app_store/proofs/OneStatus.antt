-- Two answers to one command over the same files and the same store have one status, or one is a leak and the other no decision.
use Rattle.std.proofs.Common.{◌≡◌, ◌<◌, inl, ℕ, List, refl, ap, sym, ◌∙◌, subst, arith}
use Rattle.std.specs.Prelude.{⊤, Option, Some, None, Result, Ok, Err}
use Rattle.app_flow.specs.Files.{Files}
use Rattle.app_files.specs.declared.answer.Checked.{Checked}
use Rattle.app_files.specs.declared.refusal.Refusal.TheVariants as refusal
use Rattle.app_files.specs.declared.stop.Stop.{Stop}
use Rattle.app_files.specs.declared.stop.Stop.TheVariants as stop
use Rattle.app_files.specs.Answer.{AreAlike, SpecOf, ScriptOf, Checks, refusal_status}
use Rattle.app_files.specs.Loads.{Fetches, FetchesWithin}
use Rattle.app_files.specs.Stages.{Stage, Then, Stops, Goes, Gives, Stopping, Inside, Next, Stopped, Went}
use Rattle.app_files.proofs.OneStatus as files
use Rattle.app_files.proofs.OneStatus.{alike, fetches-one, file-script-one, file-spec-one}
use Rattle.check_scripts.specs.Agree.{Standing, passed, standing}
use Rattle.check_scripts.specs.Outcomes.{Outcome, IsOutcome, accepted, leak, undecided, too_large}
use Rattle.check_scripts.specs.Views.{outcome_data}
use Rattle.check_scripts.proofs.Agree.{outcomes_agree}
use Rattle.type_schema.specs.Schema.{Schema}
use Rattle.data_meaning.specs.Database.{Database}
use Rattle.data_judge.specs.declared.limits.Limits.TheVariants.{Asked}
use Rattle.data_read.specs.declared.read_err.ReadErr.{ReadErr}
use Rattle.data_read.specs.declared.read_err.ReadErr.TheVariants as err
use Rattle.data_read.specs.Reading.{IsRefusedAs}
use Rattle.data_read.proofs.OneReading.{one-read, one-reason, read-not-refused}
use Rattle.data_records.specs.Inserted.{empty_of}
use Rattle.store_keeper.specs.declared.stored.Stored as code
use Rattle.store_keeper.specs.Stored.{Stored, last_version, stored_of}
use Rattle.store_apply.specs.Applied.{initial_of}
use Rattle.store_apply.specs.Settling.{IsRenumbered}
use Rattle.app_store.specs.declared.answer.StoreAnswer.{StoreAnswer}
use Rattle.app_store.specs.declared.answer.StoreAnswer.TheVariants as answer
use Rattle.app_store.specs.declared.limits.TheConstants.{MOST_DATA_BYTES}
use Rattle.app_store.specs.declared.stop.StoreRefusal.{StoreRefusal}
use Rattle.app_store.specs.declared.stop.StoreRefusal.TheVariants.{IsSet, IsEmpty, IsSpent, Data}
use Rattle.app_store.specs.declared.stop.StoreStop.{StoreStop}
use Rattle.app_store.specs.declared.stop.StoreStop.TheVariants as why
use Rattle.app_store.specs.Answer.{AsksFree, AsksHeld, AsksRising, AsksSchema, AsksBase, ChecksScript, Inits, ChecksHeld, IsDecision, Applies, Leaves, AppliesScript, Shows, Runs, end_of, store_refusal_status, status_of}
use Rattle.app_store.specs.Calls.{Call}
use Rattle.app_store.specs.Data.{DataOf, IsOfTables}
use Rattle.app_store.specs.Stages.{StoreStage, StorePart, Decides, Makes}
use Rattle.app_store.specs.Store.{Loads, IsFree, Holds, MayRise}
use Rattle.app_store.specs.Told.{Told, told_all}
use Rattle.app_store.specs.Words.{Command, Init, Check, Apply, Show}

-- No fault and no want of memory ended the stage.
abbrev IsRefused : StoreStop → Type 0
IsRefused (why.Files (stop.Refused r)) = ⊤
IsRefused (why.Files stop.ReadFault) = ⊥
IsRefused (why.Files stop.OutOfMemory) = ⊥
IsRefused (why.Refused r) = ⊤
IsRefused why.StoreFault = ⊥

abbrev IsFound : {A : Type 0} → Result A StoreStop → Type 0
IsFound (Ok x) = ⊤
IsFound (Err s) = IsRefused s

-- The stage comes to one end; or to one as far as a view shows.
abbrev IsOneBy : {A C : Type 0} → (Result A StoreStop → C) → StoreStage A → Type 0
IsOneBy {A} view stage = (x y : Result A StoreStop) → IsFound x → IsFound y → stage x → stage y → view x ≡ view y

abbrev IsOne : {A : Type 0} → StoreStage A → Type 0
IsOne {A} stage = (x y : Result A StoreStop) → IsFound x → IsFound y → stage x → stage y → x ≡ y

-- And so does a part, whatever it calls.
abbrev IsOnePartBy : {A C : Type 0} → (Result A StoreStop → C) → StorePart A → Type 0
IsOnePartBy {A} view part = (c d : List Call) (x y : Result A StoreStop) → IsFound x → IsFound y → part c x → part d y → view x ≡ view y

abbrev IsOnePart : {A : Type 0} → StorePart A → Type 0
IsOnePart {A} part = (c d : List Call) (x y : Result A StoreStop) → IsFound x → IsFound y → part c x → part d y → x ≡ y

then-one : {A B : Type 0} (first : StoreStage A) (second : A → StoreStage B) → IsOne first → ((x : A) → IsOne (second x)) → IsOne (Then first second)
then-one first second one-first one-second x y f g (Stops s p d) (Stops t q e) =
    let whole = one-first (Err s) (Err t) (subst IsFound d f) (subst IsFound e g) p q in
    let same : s ≡ t = cc in
    d ∙ ap (λ (z : StoreStop). Err z) same ∙ sym e
then-one first second one-first one-second x y f g (Stops s p d) (Goes b q e) =
    let differ = one-first (Err s) (Ok b) (subst IsFound d f) tt p q in
    absurd cc
then-one first second one-first one-second x y f g (Goes a p d) (Stops t q e) =
    let differ = one-first (Ok a) (Err t) tt (subst IsFound e g) p q in
    absurd cc
then-one first second one-first one-second x y f g (Goes a p d) (Goes b q e) =
    let whole = one-first (Ok a) (Ok b) tt tt p q in
    let same : a ≡ b = cc in
    one-second b x y f g (subst (λ z. second z x) same d) e

next-one : {A B V : Type 0} (view : Result B StoreStop → V) (first : StorePart A) (second : A → StorePart B) → IsOnePart first → ((x : A) → IsOnePartBy view (second x)) → IsOnePartBy view (Next first second)
next-one view first second one-first one-second c d x y f g (Stopped s p e) (Stopped t q h) =
    let whole = one-first c d (Err s) (Err t) (subst IsFound e f) (subst IsFound h g) p q in
    let same : s ≡ t = cc in
    ap view (e ∙ ap (λ (z : StoreStop). Err z) same ∙ sym h)
next-one view first second one-first one-second c d x y f g (Stopped s p e) (Went b before after q h split) =
    let differ = one-first c before (Err s) (Ok b) (subst IsFound e f) tt p q in
    absurd cc
next-one view first second one-first one-second c d x y f g (Went a before after p e split) (Stopped t q h) =
    let differ = one-first before d (Ok a) (Err t) tt (subst IsFound h g) p q in
    absurd cc
next-one view first second one-first one-second c d x y f g (Went a before after p e split) (Went b earlier later q h parted) =
    let whole = one-first before earlier (Ok a) (Ok b) tt tt p q in
    let same : a ≡ b = cc in
    one-second b after later x y f g (subst (λ z. second z after x) same e) h

-- ---- stages

refused-file : (s : Stop) → IsRefused (why.Files s) → files.IsRefused s
refused-file (stop.Refused r) h = tt
refused-file stop.ReadFault h = h
refused-file stop.OutOfMemory h = h

refused-by : (t : StoreStop) (s : Stop) → t ≡ why.Files s → IsRefused t → files.IsRefused s
refused-by t s is h = refused-file s (subst IsRefused is h)

stopping-one : {A : Type 0} (stage : Stage A) → files.IsOne stage → IsOne (Stopping why.Files stage)
stopping-one stage one (Ok a) (Ok b) f g p q =
    let whole = one (Ok a) (Ok b) tt tt p q in
    let same : a ≡ b = cc in
    ap (λ z. Ok z) same
stopping-one stage one (Ok a) (Err t) f g p (s, is, q) = let differ = one (Ok a) (Err s) tt (refused-by t s is g) p q in absurd cc
stopping-one stage one (Err t) (Ok b) f g (s, is, p) q = let differ = one (Err s) (Ok b) (refused-by t s is f) tt p q in absurd cc
stopping-one stage one (Err t) (Err u) f g (s, is, p) (v, are, q) =
    let whole = one (Err s) (Err v) (refused-by t s is f) (refused-by u v are g) p q in
    let same : s ≡ v = cc in
    ap (λ (z : StoreStop). Err z) (is ∙ ap (λ (z : Stop). why.Files z) same ∙ sym are)

-- what a stage decides by itself
decides-one : {A : Type 0} (refuses : StoreRefusal → Type 0) (passes : A → Type 0) → ((x y : A) → passes x → passes y → x ≡ y) → ((r t : StoreRefusal) → refuses r → refuses t → r ≡ t)
    → ((x : A) (r : StoreRefusal) → passes x → refuses r → ⊥) → IsOne (Decides refuses passes)
decides-one refuses passes value reason apart (Ok x) (Ok y) f g p q = ap (λ z. Ok z) (value x y p q)
decides-one refuses passes value reason apart (Ok x) (Err (why.Refused r)) f g p q = absurd (apart x r p q)
decides-one refuses passes value reason apart (Ok x) (Err (why.Files s)) f g p q = absurd q
decides-one refuses passes value reason apart (Ok x) (Err why.StoreFault) f g p q = absurd q
decides-one refuses passes value reason apart (Err (why.Refused r)) (Ok y) f g p q = absurd (apart y r q p)
decides-one refuses passes value reason apart (Err (why.Refused r)) (Err (why.Refused t)) f g p q = ap (λ (z : StoreRefusal). Err (why.Refused z)) (reason r t p q)
decides-one refuses passes value reason apart (Err (why.Refused r)) (Err (why.Files s)) f g p q = absurd q
decides-one refuses passes value reason apart (Err (why.Refused r)) (Err why.StoreFault) f g p q = absurd q
decides-one refuses passes value reason apart (Err (why.Files s)) y f g p q = absurd p
decides-one refuses passes value reason apart (Err why.StoreFault) y f g p q = absurd p

-- stages that refuse nothing, where their values look alike
makes-by : {A V : Type 0} (view : Result A StoreStop → V) (passes other : A → Type 0) → ((x y : A) → passes x → other y → view (Ok x) ≡ view (Ok y)) → (x y : Result A StoreStop) → IsFound x → IsFound y
    → Makes passes x → Makes other y → view x ≡ view y
makes-by view passes other value (Ok x) (Ok y) f g p q = value x y p q
makes-by view passes other value (Ok x) (Err (why.Files (stop.Refused r))) f g p q = absurd q
makes-by view passes other value (Ok x) (Err (why.Files stop.ReadFault)) f g p q = absurd q
makes-by view passes other value (Ok x) (Err (why.Files stop.OutOfMemory)) f g p q = absurd g
makes-by view passes other value (Ok x) (Err (why.Refused r)) f g p q = absurd q
makes-by view passes other value (Ok x) (Err why.StoreFault) f g p q = absurd q
makes-by view passes other value (Err (why.Files (stop.Refused r))) y f g p q = absurd p
makes-by view passes other value (Err (why.Files stop.ReadFault)) y f g p q = absurd p
makes-by view passes other value (Err (why.Files stop.OutOfMemory)) y f g p q = absurd f
makes-by view passes other value (Err (why.Refused r)) y f g p q = absurd p
makes-by view passes other value (Err why.StoreFault) y f g p q = absurd p

makes-one : {A : Type 0} (passes : A → Type 0) → ((x y : A) → passes x → passes y → x ≡ y) → IsOne (Makes passes)
makes-one {A} passes value = makes-by (λ (z : Result A StoreStop). z) passes passes (λ x y p q. ap (λ z. Ok z) (value x y p q))

gives-by : {A V : Type 0} (view : Result A StoreStop → V) (passes : A → Type 0) → ((x y : A) → passes x → passes y → view (Ok x) ≡ view (Ok y)) → IsOneBy view (Decides (λ r. ⊥) passes)
gives-by view passes value (Ok x) (Ok y) f g p q = value x y p q
gives-by view passes value (Ok x) (Err (why.Refused r)) f g p q = absurd q
gives-by view passes value (Ok x) (Err (why.Files s)) f g p q = absurd q
gives-by view passes value (Ok x) (Err why.StoreFault) f g p q = absurd q
gives-by view passes value (Err (why.Refused r)) y f g p q = absurd p
gives-by view passes value (Err (why.Files s)) y f g p q = absurd p
gives-by view passes value (Err why.StoreFault) y f g p q = absurd p

-- ---- the store

loads-one : (held : Option Stored) → IsOne (Loads (Some held))
loads-one held (Ok a) (Ok b) f g p q = ap (λ (z : Option Stored). Ok z) (sym p.0 ∙ q.0)
loads-one held (Ok a) (Err (why.Files (stop.Refused r))) f g p q = absurd q
loads-one held (Ok a) (Err (why.Files stop.ReadFault)) f g p q = absurd q
loads-one held (Ok a) (Err (why.Files stop.OutOfMemory)) f g p q = absurd g
loads-one held (Ok a) (Err (why.Refused r)) f g p q = absurd q
loads-one held (Ok a) (Err why.StoreFault) f g p q = absurd g
loads-one held (Err (why.Files (stop.Refused r))) y f g p q = absurd p
loads-one held (Err (why.Files stop.ReadFault)) y f g p q = absurd p
loads-one held (Err (why.Files stop.OutOfMemory)) y f g p q = absurd f
loads-one held (Err (why.Refused r)) y f g p q = absurd p
loads-one held (Err why.StoreFault) y f g p q = absurd f

free-one : (held : Option Stored) → IsOne (IsFree held)
free-one held =
    decides-one (λ r. (r ≡ IsSet) × (held ≡ None → ⊥)) (λ x. held ≡ None) (λ x y p q. refl) (λ r t p q. p.0 ∙ sym q.0) (λ x r p q. q.1 p)

holds-one : (held : Option Stored) → IsOne (Holds held)
holds-one held =
    decides-one (λ r. (r ≡ IsEmpty) × (held ≡ None)) (λ s. held ≡ Some s) (λ x y p q. let both : Some x ≡ Some y = sym p ∙ q in cc) (λ r t p q. p.0 ∙ sym q.0)
    (λ x r p q. let none = q.1 in cc)

rises-one : (s : Stored) → IsOne (MayRise s)
rises-one s =
    decides-one (λ r. (r ≡ IsSpent) × (s.version ≡ last_version)) (λ same. (same ≡ s) × (s.version < last_version)) (λ x y p q. p.0 ∙ sym q.0) (λ r t p q. p.0 ∙ sym q.0)
    (λ x r p q. let below = p.1 in let last = q.1 in absurd (omega arith))

-- ---- files

renumbered-one : (s a b : Schema) → IsRenumbered s a → IsRenumbered s b → a ≡ b
renumbered-one s a b p q = let same : Ok a ≡ Ok b = sym p.typed ∙ q.typed in cc

module _ (name : List ℕ) (s : Schema) (text : List ℕ) where
  -- why the stages stop where the text writes no database
  abbrev stop_for : ReadErr → StoreStop
  stop_for (err.Syntax e) = why.Files (stop.Refused (refusal.Text name e))
  stop_for (err.Unknown at) = why.Refused (Data name (err.Unknown at))
  stop_for (err.Absent at) = why.Refused (Data name (err.Absent at))
  stop_for (err.Twice at) = why.Refused (Data name (err.Twice at))
  stop_for (err.WrongShape at) = why.Refused (Data name (err.WrongShape at))
  stop_for (err.BadId at) = why.Refused (Data name (err.BadId at))
  stop_for (err.Dangling at) = why.Refused (Data name (err.Dangling at))
  stop_for (err.Full what) = why.Refused (Data name (err.Full what))
  stop_for err.OutOfMemory = why.Refused (Data name err.OutOfMemory)

  abbrev Cause : StoreStop → Type 0
  Cause w = (e : ReadErr) × IsRefusedAs Asked s text e × (w ≡ stop_for e)

  of-tables : (n : List ℕ) (e : ReadErr) → n ≡ name → IsOfTables e → why.Refused (Data n e) ≡ stop_for e
  of-tables n (err.Syntax e) is h = absurd h
  of-tables n (err.Unknown at) is h = ap (λ m. why.Refused (Data m (err.Unknown at))) is
  of-tables n (err.Absent at) is h = ap (λ m. why.Refused (Data m (err.Absent at))) is
  of-tables n (err.Twice at) is h = ap (λ m. why.Refused (Data m (err.Twice at))) is
  of-tables n (err.WrongShape at) is h = ap (λ m. why.Refused (Data m (err.WrongShape at))) is
  of-tables n (err.BadId at) is h = ap (λ m. why.Refused (Data m (err.BadId at))) is
  of-tables n (err.Dangling at) is h = ap (λ m. why.Refused (Data m (err.Dangling at))) is
  of-tables n (err.Full what) is h = ap (λ m. why.Refused (Data m (err.Full what))) is
  of-tables n err.OutOfMemory is h = absurd h

  cause : (w : StoreStop) → IsRefused w → DataOf name s text (Err w) → Cause w
  cause (why.Files (stop.Refused refusal.Usage)) f h = absurd h
  cause (why.Files (stop.Refused (refusal.Missing n))) f h = absurd h
  cause (why.Files (stop.Refused (refusal.TooLong n))) f h = absurd h
  cause (why.Files (stop.Refused (refusal.Text n e))) f h = (err.Syntax e, h.1, ap (λ m. why.Files (stop.Refused (refusal.Text m e))) h.0)
  cause (why.Files (stop.Refused (refusal.SpecTypes n e))) f h = absurd h
  cause (why.Files (stop.Refused (refusal.ScriptTypes n fault))) f h = absurd h
  cause (why.Files stop.ReadFault) f h = absurd f
  cause (why.Files stop.OutOfMemory) f h = absurd f
  cause (why.Refused IsSet) f h = absurd h
  cause (why.Refused IsEmpty) f h = absurd h
  cause (why.Refused IsSpent) f h = absurd h
  cause (why.Refused (Data n e)) f h = (e, h.2, of-tables n e h.0 h.1)
  cause why.StoreFault f h = absurd f

  data-one : IsOne (DataOf name s text)
  data-one (Ok d) (Ok e) f g p q = ap (λ (z : Database). Ok z) (one-read Asked s text d e p q)
  data-one (Ok d) (Err w) f g p q = let c = cause w g q in absurd (read-not-refused Asked s text d c.0 p c.1)
  data-one (Err w) (Ok d) f g p q = let c = cause w f p in absurd (read-not-refused Asked s text d c.0 q c.1)
  data-one (Err w) (Err v) f g p q =
      let a = cause w f p in
      let b = cause v g q in
      ap (λ (z : StoreStop). Err z) (a.2 ∙ ap stop_for (one-reason Asked s text a.0 b.0 a.1 b.1) ∙ sym b.2)

-- what an end shows: how a script stands, that what was asked for was done, or why the stages stop
data Seen : Type 0 where
  stands : Standing → Seen
  done : Seen
  stops : StoreStop → Seen

abbrev checked_seen : Result Checked StoreStop → Seen
checked_seen (Ok c) = stands (standing (outcome_data c.outcome))
checked_seen (Err s) = stops s

abbrev answer_seen : Result StoreAnswer StoreStop → Seen
answer_seen (Ok (answer.Initialised x)) = done
answer_seen (Ok (answer.Checked c)) = stands (standing (outcome_data c.outcome))
answer_seen (Ok (answer.Applied n x)) = done
answer_seen (Ok (answer.Shown x)) = done
answer_seen (Ok (answer.FilesRefused r)) = stops (why.Files (stop.Refused r))
answer_seen (Ok (answer.Refused r)) = stops (why.Refused r)
answer_seen (Err s) = stops s

module _ (shelf : Files) (held : Option Stored) where
  abbrev told : Told
  told = told_all shelf held

  free-part : IsOnePart (AsksFree told)
  free-part c d x y f g p q = then-one (Loads (Some held)) IsFree (loads-one held) free-one x y f g p.1 q.1

  held-part : IsOnePart (AsksHeld told)
  held-part c d x y f g p q = then-one (Loads (Some held)) Holds (loads-one held) holds-one x y f g p.1 q.1

  rising-part : IsOnePart (AsksRising told)
  rising-part c d x y f g p q =
      then-one (Then (Loads (Some held)) Holds) MayRise (then-one (Loads (Some held)) Holds (loads-one held) holds-one) rises-one x y f g p.1 q.1

  schema-part : (name : List ℕ) → IsOnePart (AsksSchema told name)
  schema-part name c d x y f g p q =
      then-one (Stopping why.Files (Then (Fetches (Some shelf) name) (SpecOf name))) (λ s. Makes (IsRenumbered s))
      (stopping-one (Then (Fetches (Some shelf) name) (SpecOf name)) (file-spec-one shelf name)) (λ s. makes-one (IsRenumbered s) (renumbered-one s)) x y f g p.1 q.1

  base-part : (base_name : Option (List ℕ)) (s : Schema) → IsOnePart (AsksBase told base_name s)
  base-part None s c d x y f g p q = makes-one (λ b. b ≡ empty_of s) (λ a b e h. e ∙ sym h) x y f g p.1 q.1
  base-part (Some name) s c d x y f g p q =
      then-one (Stopping why.Files (FetchesWithin MOST_DATA_BYTES (Some shelf) name)) (DataOf name s)
      (stopping-one (FetchesWithin MOST_DATA_BYTES (Some shelf) name) (fetches-one MOST_DATA_BYTES shelf name)) (data-one name s) x y f g p.1 q.1

  -- ---- a script that is checked

  module _ (name : List ℕ) (s : Schema) where
    checked-alike : (a b : Checked) → Then (Then (Fetches (Some shelf) name) (ScriptOf name s)) Checks (Ok a) → Then (Then (Fetches (Some shelf) name) (ScriptOf name s)) Checks (Ok b)
        → standing (outcome_data a.outcome) ≡ standing (outcome_data b.outcome)
    checked-alike a b (Stops w p e) q = absurd cc
    checked-alike a b (Goes t p h) (Stops w q e) = absurd cc
    checked-alike a b (Goes t p h) (Goes u q k) =
        let whole = file-script-one shelf name s (Ok t) (Ok u) tt tt p q in
        let same : t ≡ u = cc in
        outcomes_agree u k.typed (outcome_data a.outcome) (outcome_data b.outcome) (subst (λ z. IsOutcome z (outcome_data a.outcome)) same h.outcome) k.outcome

    not-refused : (a : Checked) (w : Stop) → files.IsRefused w → Then (Then (Fetches (Some shelf) name) (ScriptOf name s)) Checks (Ok a)
        → Then (Then (Fetches (Some shelf) name) (ScriptOf name s)) Checks (Err w) → ⊥
    not-refused a w f (Stops v p e) q = cc
    not-refused a w f (Goes t p h) (Stops v q e) =
        let same : w ≡ v = cc in
        let differ = file-script-one shelf name s (Ok t) (Err v) tt (subst files.IsRefused same f) p q in cc
    not-refused a (stop.Refused r) f (Goes t p h) (Goes u q k) = k
    not-refused a stop.ReadFault f (Goes t p h) (Goes u q k) = f
    not-refused a stop.OutOfMemory f (Goes t p h) (Goes u q k) = f

    refused-alike : (w v : Stop) → files.IsRefused w → files.IsRefused v → Then (Then (Fetches (Some shelf) name) (ScriptOf name s)) Checks (Err w)
        → Then (Then (Fetches (Some shelf) name) (ScriptOf name s)) Checks (Err v) → w ≡ v
    refused-alike w v f g (Stops a p d) (Stops b q e) =
        let one : w ≡ a = cc in
        let other : v ≡ b = cc in
        let whole = file-script-one shelf name s (Err a) (Err b) (subst files.IsRefused one f) (subst files.IsRefused other g) p q in
        let same : a ≡ b = cc in
        one ∙ same ∙ sym other
    refused-alike w (stop.Refused r) f g p (Goes u q k) = absurd k
    refused-alike w stop.ReadFault f g p (Goes u q k) = absurd g
    refused-alike w stop.OutOfMemory f g p (Goes u q k) = absurd g
    refused-alike (stop.Refused r) v f g (Goes t p h) q = absurd h
    refused-alike stop.ReadFault v f g (Goes t p h) q = absurd f
    refused-alike stop.OutOfMemory v f g (Goes t p h) q = absurd f

    script-part : IsOnePartBy checked_seen (ChecksScript told name s)
    script-part c d (Ok a) (Ok b) f g p q = ap stands (checked-alike a b p.1 q.1)
    script-part c d (Ok a) (Err t) f g p (calls, (w, is, q)) = absurd (not-refused a w (refused-by t w is g) p.1 q)
    script-part c d (Err t) (Ok b) f g (calls, (w, is, p)) q = absurd (not-refused b w (refused-by t w is f) q.1 p)
    script-part c d (Err t) (Err u) f g (calls, (w, is, p)) (more, (v, are, q)) =
        ap stops (is ∙ ap (λ (z : Stop). why.Files z) (refused-alike w v (refused-by t w is f) (refused-by u v are g) p q) ∙ sym are)

    -- what it comes to, as an answer
    answer-part : IsOnePartBy answer_seen (λ calls. Gives answer.Checked (ChecksScript told name s calls))
    answer-part c d (Ok x) (Ok y) f g (a, is, p) (b, are, q) =
        ap (λ (z : StoreAnswer). answer_seen (Ok z)) is ∙ (script-part c d (Ok a) (Ok b) tt tt p q ∙ sym (ap (λ (z : StoreAnswer). answer_seen (Ok z)) are))
    answer-part c d (Ok x) (Err t) f g (a, is, p) q = ap (λ (z : StoreAnswer). answer_seen (Ok z)) is ∙ script-part c d (Ok a) (Err t) tt g p q
    answer-part c d (Err t) (Ok y) f g p (b, are, q) = script-part c d (Err t) (Ok b) f tt p q ∙ sym (ap (λ (z : StoreAnswer). answer_seen (Ok z)) are)
    answer-part c d (Err t) (Err u) f g p q = script-part c d (Err t) (Err u) f g p q

  -- ---- the commands

  abbrev IsInitialised : Schema → Database → StoreAnswer → Type 0
  IsInitialised s b a = (after : code.Stored) × (a ≡ answer.Initialised after) × (stored_of after ≡ initial_of s b)

  are-done : (s : Schema) (b : Database) (x y : StoreAnswer) → IsInitialised s b x → IsInitialised s b y → answer_seen (Ok x) ≡ answer_seen (Ok y)
  are-done s b x y h k = ap (λ (z : StoreAnswer). answer_seen (Ok z)) h.1 ∙ sym (ap (λ (z : StoreAnswer). answer_seen (Ok z)) k.1)

  init-one : (spec : List ℕ) (base_name : Option (List ℕ)) → IsOnePartBy answer_seen (Inits told spec base_name)
  init-one spec base_name =
      next-one answer_seen (AsksFree told) (λ x. Next (AsksSchema told spec) (λ s. Next (AsksBase told base_name s) (λ b. Inside (Decides (λ r. ⊥) (IsInitialised s b))))) free-part
      (λ x. next-one answer_seen (AsksSchema told spec) (λ s. Next (AsksBase told base_name s) (λ b. Inside (Decides (λ r. ⊥) (IsInitialised s b)))) (schema-part spec)
      (λ s. next-one answer_seen (AsksBase told base_name s) (λ b. Inside (Decides (λ r. ⊥) (IsInitialised s b))) (base-part base_name s)
      (λ b c d x y f g p q. gives-by answer_seen (IsInitialised s b) (are-done s b) x y f g p.1 q.1)))

  check-one : (name : List ℕ) → IsOnePartBy answer_seen (ChecksHeld told name)
  check-one name = next-one answer_seen (AsksHeld told) (λ s calls. Gives answer.Checked (ChecksScript told name s.schema calls)) held-part (λ s. answer-part name s.schema)

  show-one : IsOnePartBy answer_seen (Shows told)
  show-one =
      next-one answer_seen (AsksHeld told) (λ s. Inside (Decides (λ r. ⊥) (λ a. (shown : code.Stored) × (a ≡ answer.Shown shown) × (stored_of shown ≡ s)))) held-part
      (λ s c d x y f g p q.
      gives-by answer_seen (λ a. (shown : code.Stored) × (a ≡ answer.Shown shown) × (stored_of shown ≡ s))
      (λ a b h k. ap (λ (z : StoreAnswer). answer_seen (Ok z)) h.1 ∙ sym (ap (λ (z : StoreAnswer). answer_seen (Ok z)) k.1)) x y f g p.1 q.1)

  -- where the first part comes to one end as far as is seen
  next-by : (first : StorePart Checked) (second : Checked → StorePart StoreAnswer) → IsOnePartBy checked_seen first
      → ((a b : Checked) → standing (outcome_data a.outcome) ≡ standing (outcome_data b.outcome) → (c d : List Call) (x y : Result StoreAnswer StoreStop) → IsFound x → IsFound y → second a c x → second b d y
      → answer_seen x ≡ answer_seen y)
      → IsOnePartBy answer_seen (Next first second)
  next-by first second one-first one-second c d x y f g (Stopped s p e) (Stopped t q h) =
      ap answer_seen e ∙ (one-first c d (Err s) (Err t) (subst IsFound e f) (subst IsFound h g) p q ∙ sym (ap answer_seen h))
  next-by first second one-first one-second c d x y f g (Stopped s p e) (Went b before after q h split) =
      let differ = one-first c before (Err s) (Ok b) (subst IsFound e f) tt p q in absurd cc
  next-by first second one-first one-second c d x y f g (Went a before after p e split) (Stopped t q h) =
      let differ = one-first before d (Ok a) (Err t) tt (subst IsFound h g) p q in absurd cc
  next-by first second one-first one-second c d x y f g (Went a before after p e split) (Went b earlier later q h parted) =
      let whole = one-first before earlier (Ok a) (Ok b) tt tt p q in
      let same : standing (outcome_data a.outcome) ≡ standing (outcome_data b.outcome) = cc in
      one-second a b same after later x y f g e h

  accepted-so : (o : Outcome) → standing o ≡ passed → (n : ℕ) × (o ≡ accepted n)
  accepted-so (accepted n) e = (n, refl)
  accepted-so (leak w) e = absurd cc
  accepted-so (undecided d cycle) e = absurd cc
  accepted-so (too_large d terms nodes) e = absurd cc

  decision-one : (s : Stored) (a b : Checked) → standing (outcome_data a.outcome) ≡ standing (outcome_data b.outcome) → (x y : StoreAnswer) → IsDecision s a x → IsDecision s b y
      → answer_seen (Ok x) ≡ answer_seen (Ok y)
  decision-one s a b same x y (Applies n after is h e) (Applies m later are k d) =
      ap (λ (z : StoreAnswer). answer_seen (Ok z)) e ∙ sym (ap (λ (z : StoreAnswer). answer_seen (Ok z)) d)
  decision-one s a b same x y (Applies n after is h e) (Leaves not d) =
      let o = accepted-so (outcome_data b.outcome) (sym same ∙ ap standing is) in absurd (not o.0 o.1)
  decision-one s a b same x y (Leaves not e) (Applies m later are k d) =
      let o = accepted-so (outcome_data a.outcome) (same ∙ ap standing are) in absurd (not o.0 o.1)
  decision-one s a b same x y (Leaves not e) (Leaves nor d) =
      ap (λ (z : StoreAnswer). answer_seen (Ok z)) e ∙ (ap stands same ∙ sym (ap (λ (z : StoreAnswer). answer_seen (Ok z)) d))

  apply-one : (name : List ℕ) → IsOnePartBy answer_seen (AppliesScript told name)
  apply-one name =
      next-one answer_seen (AsksRising told) (λ s. Next (ChecksScript told name s.schema) (λ checked. Inside (Makes (IsDecision s checked)))) rising-part
      (λ s. next-by (ChecksScript told name s.schema) (λ checked. Inside (Makes (IsDecision s checked))) (script-part name s.schema)
      (λ a b same c d x y f g p q. makes-by answer_seen (IsDecision s a) (IsDecision s b) (decision-one s a b same) x y f g p.1 q.1))

  runs-one : (command : Command) → IsOnePartBy answer_seen (Runs told command)
  runs-one (Init spec base_name) = init-one spec base_name
  runs-one (Check name) = check-one name
  runs-one (Apply name) = apply-one name
  runs-one Show = show-one

is-found : (a : StoreAnswer) → IsFound (end_of a)
is-found (answer.Initialised x) = tt
is-found (answer.Checked c) = tt
is-found (answer.Applied n x) = tt
is-found (answer.Shown x) = tt
is-found (answer.FilesRefused r) = tt
is-found (answer.Refused r) = tt

seen-alike : (a b : StoreAnswer) → answer_seen (end_of a) ≡ answer_seen (end_of b) → AreAlike (status_of a) (status_of b)
seen-alike (answer.Initialised x) (answer.Initialised y) e = inl refl
seen-alike (answer.Initialised x) (answer.Checked d) e = absurd cc
seen-alike (answer.Initialised x) (answer.Applied m y) e = inl refl
seen-alike (answer.Initialised x) (answer.Shown y) e = inl refl
seen-alike (answer.Initialised x) (answer.FilesRefused t) e = absurd cc
seen-alike (answer.Initialised x) (answer.Refused t) e = absurd cc
seen-alike (answer.Checked c) (answer.Initialised y) e = absurd cc
seen-alike (answer.Checked c) (answer.Checked d) e = alike (outcome_data c.outcome) (outcome_data d.outcome) cc
seen-alike (answer.Checked c) (answer.Applied m y) e = absurd cc
seen-alike (answer.Checked c) (answer.Shown y) e = absurd cc
seen-alike (answer.Checked c) (answer.FilesRefused t) e = absurd cc
seen-alike (answer.Checked c) (answer.Refused t) e = absurd cc
seen-alike (answer.Applied n x) (answer.Initialised y) e = inl refl
seen-alike (answer.Applied n x) (answer.Checked d) e = absurd cc
seen-alike (answer.Applied n x) (answer.Applied m y) e = inl refl
seen-alike (answer.Applied n x) (answer.Shown y) e = inl refl
seen-alike (answer.Applied n x) (answer.FilesRefused t) e = absurd cc
seen-alike (answer.Applied n x) (answer.Refused t) e = absurd cc
seen-alike (answer.Shown x) (answer.Initialised y) e = inl refl
seen-alike (answer.Shown x) (answer.Checked d) e = absurd cc
seen-alike (answer.Shown x) (answer.Applied m y) e = inl refl
seen-alike (answer.Shown x) (answer.Shown y) e = inl refl
seen-alike (answer.Shown x) (answer.FilesRefused t) e = absurd cc
seen-alike (answer.Shown x) (answer.Refused t) e = absurd cc
seen-alike (answer.FilesRefused r) (answer.Initialised y) e = absurd cc
seen-alike (answer.FilesRefused r) (answer.Checked d) e = absurd cc
seen-alike (answer.FilesRefused r) (answer.Applied m y) e = absurd cc
seen-alike (answer.FilesRefused r) (answer.Shown y) e = absurd cc
seen-alike (answer.FilesRefused r) (answer.FilesRefused t) e = let same : r ≡ t = cc in inl (ap refusal_status same)
seen-alike (answer.FilesRefused r) (answer.Refused t) e = absurd cc
seen-alike (answer.Refused r) (answer.Initialised y) e = absurd cc
seen-alike (answer.Refused r) (answer.Checked d) e = absurd cc
seen-alike (answer.Refused r) (answer.Applied m y) e = absurd cc
seen-alike (answer.Refused r) (answer.Shown y) e = absurd cc
seen-alike (answer.Refused r) (answer.FilesRefused t) e = absurd cc
seen-alike (answer.Refused r) (answer.Refused t) e = let same : r ≡ t = cc in inl (ap store_refusal_status same)

pub one-status : (shelf : Files) (held : Option Stored) (command : Command) (calls others : List Call) (a b : StoreAnswer) → Runs (told_all shelf held) command calls (end_of a)
    → Runs (told_all shelf held) command others (end_of b) → AreAlike (status_of a) (status_of b)
one-status shelf held command calls others a b p q = seen-alike a b (runs-one shelf held command calls others (end_of a) (end_of b) (is-found a) (is-found b) p q)
