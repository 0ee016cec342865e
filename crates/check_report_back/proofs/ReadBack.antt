-- What is read of a text is the witness whose printed text it is.
use Rattle.std.proofs.Common.{◌≡◌, ℕ, List, [], ◌∷◌, ◌++◌, map, refl, sym, ◌∙◌, ap, subst, codes}
use Rattle.std.specs.Prelude.{Option, Some, None, Result, Ok, Err, IfOk}
use Rattle.std.specs.List.{concat, AllByRecursion}
use Rattle.std.specs.Option.{SomeIff, option_map}
use Rattle.type_schema.specs.Proper.{model_numbers, AreProperFields}
use Rattle.type_schema.specs.Schema.{ModelInfo}
use Rattle.type_schema.specs.Script.{Script, IsScript}
use Rattle.data_meaning.specs.Database.{Table}
use Rattle.data_back.specs.Back.{found}
use Rattle.data_back.specs.Printed.{IsStandard}
use Rattle.data_back.proofs.TablesRead.{some-one}
use Rattle.data_back.specs.Reading.{Answer, after, word_at}
use Rattle.check_witness.specs.Printed.{leak_line, row_line, principal_line, touched_line, database_text, witness_text}
use Rattle.check_witness.specs.Witness.{Witness}
use Rattle.check_witness.proofs.Scripts.{start-models, start-fields, HasFields}
use Rattle.check_report_back.specs.Told.{HasNames}
use Rattle.check_report_back.specs.declared.heads.Head.{Head}
use Rattle.check_report_back.specs.Back.{head_at, tables_from, witness_of, witness_at}
use Rattle.check_report_back.specs.Printed.{IsWitnessOn, IsReadBack, WitnessesComeBack}
use Rattle.check_report_back.specs.Scripts.{SchemasAreNumbered}
use Rattle.check_report_back.proofs.BaseRead.{base-read, in-model-order}
use Rattle.check_report_back.proofs.Gained.{gains-are}
use Rattle.check_report_back.proofs.Leaked.{leaks-are}
use Rattle.check_report_back.proofs.HeadRead.{head-read}
use Rattle.check_report_back.proofs.Present.{is-witness}

lines : (leak row who cell base : List ℕ) → concat (leak ∷ row ∷ who ∷ cell ∷ codes "database\n" ∷ base ∷ codes "end\n" ∷ [])
    ≡ leak ++ (row ++ (who ++ (cell ++ (codes "database\n" ++ (base ++ codes "end\n")))))
lines leak row who cell base = refl

abbrev head-of : Witness → Head
head-of w = record { access = record { command = w.command; target = w.target; right = w.right }; row = w.row; who = w.who; cell = w.cell }

-- the text of a witness is read
pub witness-read : (t : Script) → IsScript t → HasNames t → (w : Witness) → IsWitnessOn t w → witness_at t (witness_text t w) ≡ Some (w, codes "end\n")
witness-read t script names w on =
    let is = is-witness t w on in
    let behind = database_text t w.base ++ codes "end\n" in
    ap (witness_at t) (lines (leak_line t w) (row_line t w) (principal_line t w.who) (touched_line t w.command w.cell) (database_text t w.base))
    ∙ ap (after (λ head a. after (λ _ b. after (λ tables c. Some (witness_of head tables, c)) (tables_from [] t.start.models b)) (word_at (codes "database\n") a)))
    (head-read t script names (head-of w) behind is.command is.target is.row is.who is.cell)
    ∙ ap (after (λ tables c. Some (witness_of (head-of w) tables, c))) (base-read t script names w.base (codes "end\n") on.base)

-- where the one follows from the other
pub if-ok : {A E : Type 0} (P Q : A → Type 0) (r : Result A E) → ((x : A) → P x → Q x) → IfOk r P → IfOk r Q
if-ok P Q (Ok x) f h = f x h
if-ok P Q (Err e) f h = tt

-- of an element, and of what it stands for
pub if-seen : {A B : Type 0} (f : A → B) (o : Option A) (P : Type 0) (x : A) → SomeIff o P x → SomeIff (option_map f o) P (f x)
if-seen f None P x h = h
if-seen f (Some y) P x h = (h.0, ap f h.1)

found-some : {A : Type 0} (a : Answer A) (x : A) → found a ≡ Some x → (rest : List ℕ) × (a ≡ Some (x, rest))
found-some None x e = cc
found-some (Some p) x e = (p.1, ap (λ z. Some (z, p.1)) (some-one e))

-- tables that were read stand in the order of the models
read-behind : (head : Head) (b : Answer (List Table)) (w : Witness) (rest : List ℕ) → after (λ tables c. Some (witness_of head tables, c)) b ≡ Some (w, rest)
    → (more : List ℕ) × (b ≡ Some (w.base, more))
read-behind head None w rest e = cc
read-behind head (Some p) w rest e =
    let same : p.0 ≡ w.base = ap (λ (q : Witness × List ℕ). q.0.base) (some-one e) in (p.1, ap (λ tables. Some (tables, p.1)) same)

in-order-behind : (t : Script) (head : Head) (a : Answer (Unit {0})) (w : Witness) (rest : List ℕ)
    → after (λ _ b. after (λ tables c. Some (witness_of head tables, c)) (tables_from [] t.start.models b)) a ≡ Some (w, rest)
    → map (λ (u : Table). u.model) w.base ≡ model_numbers t.start.models
in-order-behind t head None w rest e = cc
in-order-behind t head (Some p) w rest e =
    let read = read-behind head (tables_from [] t.start.models p.1) w rest e in in-model-order [] t.start.models p.1 w.base read.0 read.1

in-order-read : (t : Script) (a : Answer Head) (w : Witness) (rest : List ℕ)
    → after (λ head b. after (λ _ c. after (λ tables d. Some (witness_of head tables, d)) (tables_from [] t.start.models c)) (word_at (codes "database\n") b)) a ≡ Some (w, rest)
    → map (λ (u : Table). u.model) w.base ≡ model_numbers t.start.models
in-order-read t None w rest e = cc
in-order-read t (Some p) w rest e = in-order-behind t p.0 (word_at (codes "database\n") p.1) w rest e

module _ (t : Script) (script : IsScript t) (names : HasNames t) (text : List ℕ) where
  printed-found : (w : Witness) → IsWitnessOn t w → witness_text t w ≡ text → found (witness_at t text) ≡ Some w
  printed-found w on e = ap (λ z. found (witness_at t z)) (sym e) ∙ ap found (witness-read t script names w on)

  pub nothing-found : found (witness_at t text) ≡ None → IsReadBack t text None
  nothing-found none w on e = let both : None ≡ Some w = sym none ∙ printed-found w on e in cc

  module _ (head : Head) (tables : List Table) (some : found (witness_at t text) ≡ Some (witness_of head tables)) where
    only-one : (w : Witness) → IsWitnessOn t w → witness_text t w ≡ text → w ≡ witness_of head tables
    only-one w on e = some-one (sym (printed-found w on e) ∙ some)

    pub in-order : map (λ (u : Table). u.model) tables ≡ model_numbers t.start.models
    in-order =
        let whole = found-some (witness_at t text) (witness_of head tables) some in
        in-order-read t (head_at t text) (witness_of head tables) whole.0 whole.1

    pub not-standard : (IsStandard t.start tables → ⊥) → IsReadBack t text None
    not-standard other w on e = other (subst (λ (v : Witness). IsStandard t.start v.base) (only-one w on e) on.base)

    pub if-printed : (w : Witness) (o : Option Witness) → w ≡ witness_of head tables → SomeIff o (IsWitnessOn t w × (witness_text t w ≡ text)) w → IsReadBack t text o
    if-printed w None same h = λ v on e. h (
      subst (IsWitnessOn t) (only-one v on e ∙ sym same) on,
      ap (witness_text t) (same ∙ sym (only-one v on e)) ∙ e,
    )
    if-printed w (Some v) same h = (subst (IsWitnessOn t) (sym h.1) h.0.0, ap (witness_text t) h.1 ∙ h.0.1)

come-back : (t : Script) → IsScript t → HasNames t → (w : Witness) → IsWitnessOn t w → (o : Option Witness) → IsReadBack t (witness_text t w) o → o ≡ Some w
come-back t script names w on None h = absurd (h w on refl)
come-back t script names w on (Some v) h =
    sym (printed-found t script names (witness_text t w) v h.0 h.1) ∙ printed-found t script names (witness_text t w) w on refl

pub witnesses-back : WitnessesComeBack
witnesses-back = record { back = come-back; told = λ t script w on. is-witness t w on; gains = gains-are; leaks = leaks-are }

proper-fields : (next : ℕ) (models : List ModelInfo) → AllByRecursion (AreProperFields next) models → AllByRecursion HasFields models
proper-fields next [] all = tt
proper-fields next (m ∷ models) all = (all.0.numbers.distinct, proper-fields next models all.1)

pub schemas-numbered : SchemasAreNumbered
schemas-numbered = record {
  proper = λ s is. record { models = is.models.distinct; fields = proper-fields s.next_field s.models is.fields };
  start = λ t is. record { models = start-models t is; fields = start-fields t is };
}
