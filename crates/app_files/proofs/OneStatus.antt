-- Two answers to the same words on the same files have one status, or one is a leak and the other no decision.
use Rattle.std.proofs.Common.{◌≡◌, ◌<◌, ◌≤◌, ◌⊎◌, inl, inr, ℕ, List, [], ◌∷◌, refl, ap, ap₂, sym, ◌∙◌, subst, length, arith}
use Rattle.std.specs.Prelude.{⊤, Option, Some, None, IsSomeAnd, Result, Ok, Err}
use Rattle.app_flow.specs.Files.{Files}
use Rattle.text_tree.specs.declared.models.Spec as written_spec
use Rattle.text_tree.specs.declared.commands.Script as written_script
use Rattle.text_tree.specs.ExprGrammar.{G}
use Rattle.text_tree.specs.Grammar.{spec_form, script_form}
use Rattle.text_tree.specs.Texts.{IsTextOf}
use Rattle.text_parse.specs.Refused.{IsRefusedAs}
use Rattle.text_parse.specs.declared.syntax_err.SyntaxErr.{SyntaxErr}
use Rattle.text_parse.proofs.OneText.{OneText}
use Rattle.text_parse.proofs.GrammarTexts.{spec_text, script_text}
use Rattle.type_schema.specs.Schema.{Schema}
use Rattle.type_schema.specs.Script.{Script, IsScript}
use Rattle.type_schema.specs.SchemaViews.{script_of}
use Rattle.check_scripts.specs.Views.{outcome_data}
use Rattle.type_specs.specs.Specs.{typed_spec}
use Rattle.type_typing.specs.declared.type_err.TypeErr.{TypeErr}
use Rattle.type_commands.specs.declared.script_err.ScriptErr.TheVariants.{Bad}
use Rattle.type_commands.specs.Scripts.{typed_script}
use Rattle.type_scripts.specs.Counted.{counted}
use Rattle.check_scripts.specs.Outcomes.{Outcome, accepted, leak, undecided, too_large, IsOutcome}
use Rattle.check_scripts.specs.Agree.{Standing, passed, held_up, oversized, standing}
use Rattle.check_scripts.proofs.Agree.{outcomes_agree}
use Rattle.app_files.specs.declared.limits.TheConstants.{MOST_FILE_BYTES}
use Rattle.app_files.specs.declared.answer.Answer.{Answer}
use Rattle.app_files.specs.declared.answer.Answer.TheVariants as answer
use Rattle.app_files.specs.declared.answer.Checked.{Checked}
use Rattle.app_files.specs.declared.answer.Generated.{Generated}
use Rattle.app_files.specs.declared.fault.Fault.{Fault}
use Rattle.app_files.specs.declared.refusal.Refusal.{Refusal}
use Rattle.app_files.specs.declared.refusal.Refusal.TheVariants as refusal
use Rattle.app_files.specs.declared.status.Status.{Status}
use Rattle.app_files.specs.declared.status.Status.TheVariants as status
use Rattle.app_files.specs.declared.stop.Stop.{Stop}
use Rattle.app_files.specs.declared.stop.Stop.TheVariants as stop
use Rattle.app_files.specs.Answer.{SpecOf, ScriptOf, AsksTexts, Asks, Checks, ChecksFiles, Generates, Runs, Checking, Generating, NoCommand, end_of, IsAnswer, refusal_status, outcome_status, status_of, AreAlike}
use Rattle.app_files.specs.Loads.{IsNotGiven, FetchesWithin, Fetches, Reads}
use Rattle.app_files.specs.Generated.{generated, tightened_names, loosened_names}
use Rattle.app_files.specs.Stages.{Stage, Then, Stops, Goes, Passes, Gives, Part, Inside, Calling, Next, Stopped, Went, InMemory}
use Rattle.app_files.specs.Typed.{TypesSpec, TypesScript, HasFault, schema_before, user_of}
use Rattle.app_files.specs.Words.{Names, check_of, gen_of, IsNoCommand}

-- No fault and no want of memory ended the stage.
abbrev pub IsRefused : Stop → Type 0
IsRefused (stop.Refused r) = ⊤
IsRefused stop.ReadFault = ⊥
IsRefused stop.OutOfMemory = ⊥

abbrev pub IsFound : {A : Type 0} → Result A Stop → Type 0
IsFound (Ok x) = ⊤
IsFound (Err s) = IsRefused s

-- The stage comes to one end; or to one as far as a view shows.
abbrev pub IsOne : {A : Type 0} → Stage A → Type 0
IsOne {A} stage = (x y : Result A Stop) → IsFound x → IsFound y → stage x → stage y → x ≡ y

abbrev pub IsOneBy : {A C : Type 0} → (Result A Stop → C) → Stage A → Type 0
IsOneBy {A} view stage = (x y : Result A Stop) → IsFound x → IsFound y → stage x → stage y → view x ≡ view y

-- Where both stages come to one end, so do they one after the other.
then-one : {A B C : Type 0} (view : Result B Stop → C) (first : Stage A) (second : A → Stage B) → IsOne first → ((x : A) → IsOneBy view (second x)) → IsOneBy view (Then first second)
then-one view first second one-first one-second x y f g (Stops s p d) (Stops t q e) =
    let whole = one-first (Err s) (Err t) (subst IsFound d f) (subst IsFound e g) p q in
    let same : s ≡ t = cc in
    ap view (d ∙ ap (λ (z : Stop). Err z) same ∙ sym e)
then-one view first second one-first one-second x y f g (Stops s p d) (Goes b q e) =
    let differ = one-first (Err s) (Ok b) (subst IsFound d f) tt p q in
    absurd cc
then-one view first second one-first one-second x y f g (Goes a p d) (Stops t q e) =
    let differ = one-first (Ok a) (Err t) tt (subst IsFound e g) p q in
    absurd cc
then-one view first second one-first one-second x y f g (Goes a p d) (Goes b q e) =
    let whole = one-first (Ok a) (Ok b) tt tt p q in
    let same : a ≡ b = cc in
    one-second b x y f g (subst (λ z. second z x) same d) e

-- A file is missing, too long, or a text within the limit, and no two of these.
no_file : (P : List ℕ → Type 0) (file : Option (List ℕ)) → file ≡ None → IsSomeAnd file P → ⊥
no_file P None e h = h
no_file P (Some text) e h = cc

too_long : (limit : ℕ) (file : Option (List ℕ)) (text : List ℕ) → length text ≤ limit → file ≡ Some text → IsSomeAnd file (λ t. limit < length t) → ⊥
too_long limit None text short e h = h
too_long limit (Some t) text short e h = let same : t ≡ text = cc in omega (arith, ap length same)

given-refused : (limit : ℕ) (files : Files) (name text : List ℕ) (r : Refusal) → length text ≤ limit → files name ≡ Some text → IsNotGiven limit (Some files) name r → ⊥
given-refused limit files name text refusal.Usage short e h = h
given-refused limit files name text (refusal.Missing n) short e (s, none) = cc
given-refused limit files name text (refusal.TooLong n) short e (s, long) = too_long limit (files name) text short e long
given-refused limit files name text (refusal.Text n err) short e h = h
given-refused limit files name text (refusal.SpecTypes n err) short e h = h
given-refused limit files name text (refusal.ScriptTypes n fault) short e h = h

refused-one : (limit : ℕ) (files : Files) (name : List ℕ) (r t : Refusal) → IsNotGiven limit (Some files) name r → IsNotGiven limit (Some files) name t → r ≡ t
refused-one limit files name (refusal.Missing m) (refusal.Missing n) (s, p) (u, q) = cc
refused-one limit files name (refusal.Missing m) (refusal.TooLong n) (s, p) (u, q) = absurd (no_file _ (files name) p q)
refused-one limit files name (refusal.TooLong m) (refusal.Missing n) (s, p) (u, q) = absurd (no_file _ (files name) q p)
refused-one limit files name (refusal.TooLong m) (refusal.TooLong n) (s, p) (u, q) = cc
refused-one limit files name refusal.Usage t p q = absurd p
refused-one limit files name (refusal.Text m err) t p q = absurd p
refused-one limit files name (refusal.SpecTypes m err) t p q = absurd p
refused-one limit files name (refusal.ScriptTypes m fault) t p q = absurd p
refused-one limit files name (refusal.Missing m) refusal.Usage p q = absurd q
refused-one limit files name (refusal.Missing m) (refusal.Text n err) p q = absurd q
refused-one limit files name (refusal.Missing m) (refusal.SpecTypes n err) p q = absurd q
refused-one limit files name (refusal.Missing m) (refusal.ScriptTypes n fault) p q = absurd q
refused-one limit files name (refusal.TooLong m) refusal.Usage p q = absurd q
refused-one limit files name (refusal.TooLong m) (refusal.Text n err) p q = absurd q
refused-one limit files name (refusal.TooLong m) (refusal.SpecTypes n err) p q = absurd q
refused-one limit files name (refusal.TooLong m) (refusal.ScriptTypes n fault) p q = absurd q

pub fetches-one : (limit : ℕ) (files : Files) (name : List ℕ) → IsOne (FetchesWithin limit (Some files) name)
fetches-one limit files name (Ok a) (Ok b) f g (s, p) (u, q) = let same : a ≡ b = cc in ap (λ z. Ok z) same
fetches-one limit files name (Ok a) (Err (stop.Refused r)) f g (s, p) q = absurd (given-refused limit files name a r s p q)
fetches-one limit files name (Ok a) (Err stop.ReadFault) f g p q = absurd g
fetches-one limit files name (Ok a) (Err stop.OutOfMemory) f g p q = absurd g
fetches-one limit files name (Err (stop.Refused r)) (Ok b) f g p (u, q) = absurd (given-refused limit files name b r u q p)
fetches-one limit files name (Err (stop.Refused r)) (Err (stop.Refused t)) f g p q = ap (λ z. Err (stop.Refused z)) (refused-one limit files name r t p q)
fetches-one limit files name (Err (stop.Refused r)) (Err stop.ReadFault) f g p q = absurd g
fetches-one limit files name (Err (stop.Refused r)) (Err stop.OutOfMemory) f g p q = absurd g
fetches-one limit files name (Err stop.ReadFault) y f g p q = absurd f
fetches-one limit files name (Err stop.OutOfMemory) y f g p q = absurd f

-- A text spells one tree of the form, or it is refused for one cause, and never both.
reads-one : {T : Type 0} (form : G T) → OneText form → (name text : List ℕ) → IsOne (Reads form name text)
reads-one form one name text (Ok a) (Ok b) f g p q = ap (λ z. Ok z) (one.one text a b p q)
reads-one form one name text (Ok a) (Err (stop.Refused r)) f g p (err, is, has) = absurd (one.tree text a err p has)
reads-one form one name text (Ok a) (Err stop.ReadFault) f g p q = absurd g
reads-one form one name text (Ok a) (Err stop.OutOfMemory) f g p q = absurd g
reads-one form one name text (Err (stop.Refused r)) (Ok b) f g (err, is, has) q = absurd (one.tree text b err q has)
reads-one form one name text (Err (stop.Refused r)) (Err (stop.Refused t)) f g (err, is, has) (other, same, had) =
    ap (λ z. Err (stop.Refused z)) (is ∙ ap (refusal.Text name) (one.refusal text err other has had) ∙ sym same)
reads-one form one name text (Err (stop.Refused r)) (Err stop.ReadFault) f g p q = absurd g
reads-one form one name text (Err (stop.Refused r)) (Err stop.OutOfMemory) f g p q = absurd g
reads-one form one name text (Err stop.ReadFault) y f g p q = absurd f
reads-one form one name text (Err stop.OutOfMemory) y f g p q = absurd f

types-spec-one : (name : List ℕ) (spec : written_spec.Spec) → IsOne (TypesSpec name spec)
types-spec-one name spec (Ok a) (Ok b) f g p q = let same : a ≡ b = cc in ap (λ z. Ok z) same
types-spec-one name spec (Ok a) (Err (stop.Refused r)) f g p (err, is, has) = absurd cc
types-spec-one name spec (Ok a) (Err stop.ReadFault) f g p q = absurd g
types-spec-one name spec (Ok a) (Err stop.OutOfMemory) f g p q = absurd g
types-spec-one name spec (Err (stop.Refused r)) (Ok b) f g (err, is, has) q = absurd cc
types-spec-one name spec (Err (stop.Refused r)) (Err (stop.Refused t)) f g (err, is, has) (other, same, had) =
    let one : err ≡ other = cc in
    ap (λ z. Err (stop.Refused z)) (is ∙ ap (refusal.SpecTypes name) one ∙ sym same)
types-spec-one name spec (Err (stop.Refused r)) (Err stop.ReadFault) f g p q = absurd g
types-spec-one name spec (Err (stop.Refused r)) (Err stop.OutOfMemory) f g p q = absurd g
types-spec-one name spec (Err stop.ReadFault) y f g p q = absurd f
types-spec-one name spec (Err stop.OutOfMemory) y f g p q = absurd f

same-fault : (a b : Fault) → a.command ≡ b.command → a.err ≡ b.err → a.user ≡ b.user → a ≡ b
same-fault a b command err user =
    ap (λ (k : ℕ). record { command = k; err = a.err; user = a.user }) command
    ∙ ap (λ (e : TypeErr). record { command = b.command; err = e; user = a.user }) err
    ∙ ap (λ (u : List ℕ). record { command = b.command; err = b.err; user = u }) user

-- a fault of a script over a schema is one
fault-one : (s : Schema) (script : written_script.Script) (a b : Fault) → HasFault s script a → HasFault s script b → a ≡ b
fault-one s script a b p q =
    let refused : Err (Bad a.command a.err) ≡ Err (Bad b.command b.err) = sym p.refused ∙ q.refused in
    let command : a.command ≡ b.command = cc in
    let err : a.err ≡ b.err = cc in
    let reached : Ok p.before ≡ Ok q.before = sym p.before_is ∙ ap (schema_before s script) command ∙ q.before_is in
    let before : p.before ≡ q.before = cc in
    let user : a.user ≡ b.user = p.user ∙ ap₂ user_of before err ∙ sym q.user in
    same-fault a b command err user

types-script-one : (name : List ℕ) (s : Schema) (script : written_script.Script) → IsOne (TypesScript name s script)
types-script-one name s script (Ok a) (Ok b) f g p q = let same : a ≡ b = cc in ap (λ z. Ok z) same
types-script-one name s script (Ok a) (Err (stop.Refused r)) f g p (fault, is, has) = let refused = has.refused in absurd cc
types-script-one name s script (Ok a) (Err stop.ReadFault) f g p q = absurd g
types-script-one name s script (Ok a) (Err stop.OutOfMemory) f g p q = absurd g
types-script-one name s script (Err (stop.Refused r)) (Ok b) f g (fault, is, has) q = let refused = has.refused in absurd cc
types-script-one name s script (Err (stop.Refused r)) (Err (stop.Refused t)) f g (fault, is, has) (other, same, had) =
    ap (λ z. Err (stop.Refused z)) (is ∙ ap (refusal.ScriptTypes name) (fault-one s script fault other has had) ∙ sym same)
types-script-one name s script (Err (stop.Refused r)) (Err stop.ReadFault) f g p q = absurd g
types-script-one name s script (Err (stop.Refused r)) (Err stop.OutOfMemory) f g p q = absurd g
types-script-one name s script (Err stop.ReadFault) y f g p q = absurd f
types-script-one name s script (Err stop.OutOfMemory) y f g p q = absurd f

pub then-same : {A B : Type 0} (first : Stage A) (second : A → Stage B) → IsOne first → ((x : A) → IsOne (second x)) → IsOne (Then first second)
then-same {A} {B} first second one-first one-second = then-one (λ (z : Result B Stop). z) first second one-first one-second

-- ---- texts

pub spec-one : (name text : List ℕ) → IsOne (SpecOf name text)
spec-one name text = then-same (Reads spec_form name text) (TypesSpec name) (reads-one spec_form spec_text name text) (types-spec-one name)

pub script-one : (name : List ℕ) (s : Schema) (text : List ℕ) → IsOne (ScriptOf name s text)
script-one name s text = then-same (Reads script_form name text) (TypesScript name s) (reads-one script_form script_text name text) (types-script-one name s)

-- Texts ask for one script.
pub texts-one : (names : Names) (spec script : List ℕ) → IsOne (AsksTexts names spec script)
texts-one names spec script = then-same (SpecOf names.spec spec) (λ s. ScriptOf names.script s script) (spec-one names.spec spec) (λ s. script-one names.script s script)

-- ---- parts that call

-- The part comes to one end, or to one as far as a view shows, whatever it calls.
abbrev pub IsOnePartBy : {C A V : Type 0} → (Result A Stop → V) → Part C A → Type 0
IsOnePartBy {C} {A} view part = (c d : List C) (x y : Result A Stop) → IsFound x → IsFound y → part c x → part d y → view x ≡ view y

abbrev pub IsOnePart : {C A : Type 0} → Part C A → Type 0
IsOnePart {C} {A} part = IsOnePartBy (λ (z : Result A Stop). z) part

next-one : {C A B V : Type 0} (view : Result B Stop → V) (first : Part C A) (second : A → Part C B) → IsOnePart first → ((x : A) → IsOnePartBy view (second x)) → IsOnePartBy view (Next first second)
next-one view first second one-first one-second c d x y f g (Stopped s p e) (Stopped t q h) =
    let whole = one-first c d (Err s) (Err t) (subst IsFound e f) (subst IsFound h g) p q in
    let same : s ≡ t = cc in
    ap view (e ∙ ap (λ (z : Stop). Err z) same ∙ sym h)
next-one view first second one-first one-second c d x y f g (Stopped s p e) (Went b before after q h split) =
    let differ = one-first c before (Err s) (Ok b) (subst IsFound e f) tt p q in
    absurd cc
next-one view first second one-first one-second c d x y f g (Went a before after p e split) (Stopped t q h) =
    let differ = one-first before d (Ok a) (Err t) tt (subst IsFound h g) p q in
    absurd cc
next-one view first second one-first one-second c d x y f g (Went a before after p e split) (Went b earlier later q h parted) =
    let whole = one-first before earlier (Ok a) (Ok b) tt tt p q in
    let same : a ≡ b = cc in
    one-second b after later x y f g (subst (λ z. second z after x) same e) h

-- Files ask for one script.
pub asks-one : (files : Files) (names : Names) → IsOnePart (Asks (Some files) names)
asks-one files names =
    next-one (λ z. z) (Calling names.spec (Then (Fetches (Some files) names.spec) (SpecOf names.spec)))
    (λ s. Calling names.script (Then (Fetches (Some files) names.script) (ScriptOf names.script s)))
    (λ c d x y f g p q.
    then-same (Fetches (Some files) names.spec) (SpecOf names.spec) (fetches-one MOST_FILE_BYTES files names.spec) (spec-one names.spec) x y f g p.1 q.1)
    (λ s c d x y f g p q.
    then-same (Fetches (Some files) names.script) (ScriptOf names.script s) (fetches-one MOST_FILE_BYTES files names.script) (script-one names.script s) x y f g p.1 q.1)

-- So does one file over a schema.
pub file-script-one : (files : Files) (name : List ℕ) (s : Schema) → IsOne (Then (Fetches (Some files) name) (ScriptOf name s))
file-script-one files name s = then-same (Fetches (Some files) name) (ScriptOf name s) (fetches-one MOST_FILE_BYTES files name) (script-one name s)

-- And one file is one specification.
pub file-spec-one : (files : Files) (name : List ℕ) → IsOne (Then (Fetches (Some files) name) (SpecOf name))
file-spec-one files name = then-same (Fetches (Some files) name) (SpecOf name) (fetches-one MOST_FILE_BYTES files name) (spec-one name)

-- what an end shows: how the script stands, or the status of a refusal
data Seen : Type 0 where
  stands : Standing → Seen
  made : Seen
  refused : Status → Seen
  cut_off : Seen

abbrev stop_seen : Stop → Seen
stop_seen (stop.Refused r) = refused (refusal_status r)
stop_seen stop.ReadFault = cut_off
stop_seen stop.OutOfMemory = cut_off

abbrev end_seen : Result Checked Stop → Seen
end_seen (Ok checked) = stands (standing (outcome_data checked.outcome))
end_seen (Err s) = stop_seen s

abbrev kind : {A : Type 0} → Result A Stop → Seen
kind (Ok x) = made
kind (Err s) = stop_seen s

abbrev answer_seen : Result Answer Stop → Seen
answer_seen (Ok (answer.Checked checked)) = stands (standing (outcome_data checked.outcome))
answer_seen (Ok (answer.Generated g)) = made
answer_seen (Ok (answer.Refused r)) = refused (refusal_status r)
answer_seen (Err s) = stop_seen s

checks-one : (t : Script) → IsOneBy end_seen (Checks t)
checks-one t (Ok a) (Ok b) f g p q = ap stands (outcomes_agree t p.typed (outcome_data a.outcome) (outcome_data b.outcome) p.outcome q.outcome)
checks-one t (Ok a) (Err (stop.Refused r)) f g p q = absurd q
checks-one t (Ok a) (Err stop.ReadFault) f g p q = absurd g
checks-one t (Ok a) (Err stop.OutOfMemory) f g p q = absurd g
checks-one t (Err (stop.Refused r)) y f g p q = absurd p
checks-one t (Err stop.ReadFault) y f g p q = absurd f
checks-one t (Err stop.OutOfMemory) y f g p q = absurd f

files-one : (files : Files) (names : Names) → IsOneBy end_seen (InMemory (ChecksFiles (Some files) names))
files-one files names x y f g (c, p) (d, q) =
    next-one end_seen (Asks (Some files) names) (λ t. Inside (Checks t)) (asks-one files names)
    (λ t e h u v k l m n. checks-one t u v k l m.1 n.1) c d x y f g p q

-- ---- the two scripts that are generated

not-made : (s : Stop) → IsRefused s → made ≡ stop_seen s → ⊥
not-made (stop.Refused r) f e = cc
not-made stop.ReadFault f e = f
not-made stop.OutOfMemory f e = f

not-standing : (s : Stop) (how : Standing) → IsRefused s → stands how ≡ stop_seen s → ⊥
not-standing (stop.Refused r) how f e = cc
not-standing stop.ReadFault how f e = f
not-standing stop.OutOfMemory how f e = f

-- Where the first stage ends in one way, and the second does after whatever the first passed on, both do.
then-kind : {A B : Type 0} (first : Stage A) (second other : A → Stage B) → IsOneBy kind first
    → ((a b : A) (x y : Result B Stop) → IsFound x → IsFound y → second a x → other b y → kind x ≡ kind y)
    → (x y : Result B Stop) → IsFound x → IsFound y → Then first second x → Then first other y → kind x ≡ kind y
then-kind first second other one-first one-second x y f g (Stops s p d) (Stops t q e) =
    ap kind d ∙ one-first (Err s) (Err t) (subst IsFound d f) (subst IsFound e g) p q ∙ sym (ap kind e)
then-kind first second other one-first one-second x y f g (Stops s p d) (Goes b q e) =
    absurd (not-made s (subst IsFound d f) (sym (one-first (Err s) (Ok b) (subst IsFound d f) tt p q)))
then-kind first second other one-first one-second x y f g (Goes a p d) (Stops t q e) =
    absurd (not-made t (subst IsFound e g) (one-first (Ok a) (Err t) tt (subst IsFound e g) p q))
then-kind first second other one-first one-second x y f g (Goes a p d) (Goes b q e) = one-second a b x y f g d e

files-kind : (files : Files) (names : Names) → IsOneBy kind (InMemory (ChecksFiles (Some files) names))
files-kind files names (Ok a) (Ok b) f g p q = refl
files-kind files names (Ok a) (Err t) f g p q = absurd (not-standing t (standing (outcome_data a.outcome)) g (files-one files names (Ok a) (Err t) f g p q))
files-kind files names (Err s) (Ok b) f g p q = absurd (not-standing s (standing (outcome_data b.outcome)) f (sym (files-one files names (Err s) (Ok b) f g p q)))
files-kind files names (Err s) (Err t) f g p q = files-one files names (Err s) (Err t) f g p q

passes-kind : {A : Type 0} (v w : A) (x y : Result A Stop) → IsFound x → IsFound y → Passes v x → Passes w y → kind x ≡ kind y
passes-kind v w (Ok a) (Ok b) f g p q = refl
passes-kind v w (Err (stop.Refused r)) y f g p q = absurd p
passes-kind v w (Err stop.ReadFault) y f g p q = absurd p
passes-kind v w (Err stop.OutOfMemory) y f g p q = absurd f
passes-kind v w (Ok a) (Err (stop.Refused r)) f g p q = absurd q
passes-kind v w (Ok a) (Err stop.ReadFault) f g p q = absurd q
passes-kind v w (Ok a) (Err stop.OutOfMemory) f g p q = absurd g

generates-one : (n : ℕ) → IsOneBy kind (Generates n)
generates-one n =
    then-kind (InMemory (ChecksFiles (Some (generated n)) tightened_names)) (λ c. behind c) (λ c. behind c) (files-kind (generated n) tightened_names)
    (λ c d x y f g p q.
    then-kind (InMemory (ChecksFiles (Some (generated n)) loosened_names)) (λ l. Passes (record { commands = n; tightened = c; loosened = l }))
    (λ l. Passes (record { commands = n; tightened = d; loosened = l })) (files-kind (generated n) loosened_names)
    (λ l m. passes-kind (record { commands = n; tightened = c; loosened = l }) (record { commands = n; tightened = d; loosened = m })) x y f g p q)
  where
    behind : Checked → Stage Generated
    behind c = Then (InMemory (ChecksFiles (Some (generated n)) loosened_names)) (λ l. Passes (record { commands = n; tightened = c; loosened = l }))

-- ---- commands

-- No words are two commands.
pub not-both : (words : List (List ℕ)) (names : Names) (n : ℕ) → check_of words ≡ Some names → gen_of words ≡ Some n → ⊥
not-both [] names n p q = cc
not-both (a ∷ []) names n p q = cc
not-both (a ∷ b ∷ []) names n p q = cc
not-both (a ∷ b ∷ c ∷ rest) names n p q = cc

gives-one : {A : Type 0} (into : A → Answer) (view : Result A Stop → Seen) → ((a : A) → answer_seen (Ok (into a)) ≡ view (Ok a)) → ((s : Stop) → stop_seen s ≡ view (Err s))
    → (stage : Stage A) → IsOneBy view stage → IsOneBy answer_seen (Gives into stage)
gives-one into view found stopped stage one (Ok x) (Ok y) f g (a, is, p) (b, same, q) =
    ap (λ (z : Answer). answer_seen (Ok z)) is ∙ found a ∙ one (Ok a) (Ok b) tt tt p q ∙ sym (found b) ∙ sym (ap (λ (z : Answer). answer_seen (Ok z)) same)
gives-one into view found stopped stage one (Ok x) (Err t) f g (a, is, p) q =
    ap (λ (z : Answer). answer_seen (Ok z)) is ∙ found a ∙ one (Ok a) (Err t) tt g p q ∙ sym (stopped t)
gives-one into view found stopped stage one (Err s) (Ok y) f g p (b, same, q) =
    stopped s ∙ one (Err s) (Ok b) f tt p q ∙ sym (found b) ∙ sym (ap (λ (z : Answer). answer_seen (Ok z)) same)
gives-one into view found stopped stage one (Err s) (Err t) f g p q = stopped s ∙ one (Err s) (Err t) f g p q ∙ sym (stopped t)

-- what is given by one run of the part is given whatever it calls
gives-any : {C A : Type 0} (into : A → Answer) (part : Part C A) (calls : List C) (end : Result Answer Stop) → Gives into (part calls) end → Gives into (InMemory part) end
gives-any into part calls (Ok x) (a, is, p) = (a, is, (calls, p))
gives-any into part calls (Err s) p = (calls, p)

runs-one : (files : Files) (words : List (List ℕ)) → IsOnePartBy answer_seen (Runs (Some files) words)
runs-one files words c d x y f g (Checking names is p) (Checking others are q) =
    let same : names ≡ others = cc in
    gives-one answer.Checked end_seen (λ a. refl) (λ s. refl) (InMemory (ChecksFiles (Some files) others)) (files-one files others) x y f g
    (gives-any answer.Checked (ChecksFiles (Some files) others) c x (subst (λ (z : Names). Gives answer.Checked (ChecksFiles (Some files) z c) x) same p))
    (gives-any answer.Checked (ChecksFiles (Some files) others) d y q)
runs-one files words c d x y f g (Checking names is p) (Generating n are none q) = absurd (not-both words names n is are)
runs-one files words c d x y f g (Checking names is p) (NoCommand neither none e) = absurd (let no = neither.0 in cc)
runs-one files words c d x y f g (Generating n is none p) (Checking names are q) = absurd (not-both words names n are is)
runs-one files words c d x y f g (Generating n is none p) (Generating m are still q) =
    let same : n ≡ m = cc in
    gives-one answer.Generated kind (λ a. refl) (λ s. refl) (Generates m) (generates-one m) x y f g
    (subst (λ (z : ℕ). Gives answer.Generated (Generates z) x) same p) q
runs-one files words c d x y f g (Generating n is none p) (NoCommand neither still e) = absurd (let no = neither.1 in cc)
runs-one files words c d x y f g (NoCommand neither none e) (Checking names are q) = absurd (let no = neither.0 in cc)
runs-one files words c d x y f g (NoCommand neither none e) (Generating n are still q) = absurd (let no = neither.1 in cc)
runs-one files words c d x y f g (NoCommand neither none e) (NoCommand other still h) = ap answer_seen (e ∙ sym h)

pub alike : (a b : Outcome) → standing a ≡ standing b → AreAlike (outcome_status a) (outcome_status b)
alike (accepted m) (accepted n) e = inl refl
alike (accepted m) (leak v) e = absurd cc
alike (accepted m) (undecided d cycle) e = absurd cc
alike (accepted m) (too_large d terms nodes) e = absurd cc
alike (leak w) (accepted n) e = absurd cc
alike (leak w) (leak v) e = inl refl
alike (leak w) (undecided d cycle) e = inr (inl (refl, refl))
alike (leak w) (too_large d terms nodes) e = absurd cc
alike (undecided d cycle) (accepted n) e = absurd cc
alike (undecided d cycle) (leak v) e = inr (inr (refl, refl))
alike (undecided d cycle) (undecided c other) e = inl refl
alike (undecided d cycle) (too_large c terms nodes) e = absurd cc
alike (too_large d terms nodes) (accepted n) e = absurd cc
alike (too_large d terms nodes) (leak v) e = absurd cc
alike (too_large d terms nodes) (undecided c cycle) e = absurd cc
alike (too_large d terms nodes) (too_large c some many) e = inl refl

is-found : (a : Answer) → IsFound (end_of a)
is-found (answer.Checked c) = tt
is-found (answer.Generated g) = tt
is-found (answer.Refused r) = tt

seen-alike : (a b : Answer) → answer_seen (end_of a) ≡ answer_seen (end_of b) → AreAlike (status_of a) (status_of b)
seen-alike (answer.Checked a) (answer.Checked b) e = alike (outcome_data a.outcome) (outcome_data b.outcome) cc
seen-alike (answer.Checked a) (answer.Generated h) e = absurd cc
seen-alike (answer.Checked a) (answer.Refused t) e = absurd cc
seen-alike (answer.Generated g) (answer.Checked b) e = absurd cc
seen-alike (answer.Generated g) (answer.Generated h) e = inl refl
seen-alike (answer.Generated g) (answer.Refused t) e = absurd cc
seen-alike (answer.Refused r) (answer.Checked b) e = absurd cc
seen-alike (answer.Refused r) (answer.Generated h) e = absurd cc
seen-alike (answer.Refused r) (answer.Refused t) e = inl cc

pub one-status : (files : Files) (words calls others : List (List ℕ)) (a b : Answer) → IsAnswer (Some files) words calls a → IsAnswer (Some files) words others b → AreAlike (status_of a) (status_of b)
one-status files words calls others a b p q = seen-alike a b (runs-one files words calls others (end_of a) (end_of b) (is-found a) (is-found b) p q)
