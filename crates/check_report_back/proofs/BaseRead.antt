-- The tables of a start database are read, each behind the marked name of its model.
use Rattle.std.proofs.Common.{◌≡◌, ℕ, cond, length, Bool, true, false, List, [], ◌∷◌, ◌++◌, map, refl, sym, ◌∙◌, ap, subst, append_assoc, append-nil, codes}
use Rattle.std.specs.Prelude.{Some, None, is_some, ◌==◌}
use Rattle.std.specs.List.{flat_map, find, AllByRecursion}
use Rattle.std.specs.Str.{bytes_eq}
use Rattle.std.proofs.lemmas.Bool.{eq-eqb}
use Rattle.std.proofs.lemmas.Slice.Eq.{bytes_eq-Decides}
use Rattle.type_schema.specs.Schema.{ModelInfo}
use Rattle.type_schema.specs.Typing.{HasModel}
use Rattle.type_schema.specs.Proper.{model_numbers}
use Rattle.type_schema.specs.Script.{Script, IsScript}
use Rattle.data_meaning.specs.Database.{Record, Table, Database, table_of, IsTableOf, HasTable}
use Rattle.data_print.specs.Texts.{table_text}
use Rattle.data_back.specs.Back.{id_at, records_from, table_at}
use Rattle.data_back.specs.Back as tables
use Rattle.data_back.specs.Printed.{IsStandard}
use Rattle.data_back.proofs.TablesRead.{some-one, AreFound, found-all, printed-read, in-order}
use Rattle.data_back.proofs.Turns.{map_one}
use Rattle.data_back.specs.Reading.{Answer, after, word_at, name_at}
use Rattle.data_back.proofs.Printed.{pieces-read}
use Rattle.check_witness.specs.Printed.{model_text, database_text}
use Rattle.check_witness.proofs.Scripts.{start-models, start-fields, HasFields}
use Rattle.check_report_back.specs.Told.{HasNames}
use Rattle.check_report_back.specs.Back.{mark_at, tables_from}
use Rattle.check_report_back.proofs.NamesTold.{Follows, blank, model-is-named}

abbrev a-table : ℕ → ℕ → List Record → Table
a-table m n records = record { model = m; next = n; records = records }

-- ---- each model is found

among : {A : Type 0} (p : A → Bool) (done xs : List A) (x : A) → p x ≡ true → is_some (find p (done ++ x ∷ xs)) ≡ true
among p [] xs x e = ap (λ b. is_some (cond b (Some x) (find p xs))) e
among {A} p (y ∷ done) xs x e =
    elim (p y) as (λ (b : Bool). is_some (cond b (Some y) (find p (done ++ x ∷ xs))) ≡ true) [ true ↦ refl | false ↦ among p done xs x e ]

abbrev AreAmong : List ModelInfo → List ModelInfo → Type 0
AreAmong all = AllByRecursion (λ (m : ModelInfo). is_some (find (λ (i : ModelInfo). i.number == m.number) all) ≡ true)

each-among : (done models : List ModelInfo) → AreAmong (done ++ models) models
each-among done [] = tt
each-among done (m ∷ models) = (
  among (λ (i : ModelInfo). i.number == m.number) done models m (eq-eqb m.number m.number refl),
  subst (λ all. AreAmong all models) (append_assoc done (m ∷ []) models) (each-among (done ++ m ∷ []) models),
)

-- ---- behind a name

after-some : {A B : Type 0} (f : A → List ℕ → Answer B) (a : Answer A) (b : B × List ℕ) → after f a ≡ Some b → (p : A × List ℕ) × (a ≡ Some p) × (f p.0 p.1 ≡ Some b)
after-some f None b e = cc
after-some f (Some p) b e = (p, refl, e)

behind-blank : (text : List ℕ) (p : Unit {0} × List ℕ) → word_at (codes " ") text ≡ Some p → (rest : List ℕ) × (text ≡ 32 ∷ rest)
behind-blank [] p e = cc
behind-blank (c ∷ text) p e =
    elim (bytes_eq (c ∷ []) (32 ∷ [])) as (λ (b : Bool). bytes_eq (c ∷ []) (32 ∷ []) ≡ b → cond b (Some (tt, text)) None ≡ Some p → (rest : List ℕ) × (c ∷ text ≡ 32 ∷ rest)) [
      | true ↦ λ same h. let one : c ∷ [] ≡ 32 ∷ [] = (bytes_eq-Decides (c ∷ []) (32 ∷ [])).0 same in (text, ap (λ z. z ++ text) one)
      | false ↦ λ same h. cc
    ] refl e

-- the model's table, behind whose name a blank stands
table-follows : (m : ModelInfo) (text : List ℕ) (b : Table × List ℕ) → table_at m text ≡ Some b → Follows text
table-follows m text b e =
    let first = after-some (λ _ c. after (λ next d. after (λ _ f. after (λ records g. Some (a-table m.number next records, g)) (records_from m.fields [] (length f) f)) (word_at (codes " {\n") d)) (id_at c))
    (word_at (codes " ") text) b e in
    let is = behind-blank text first.0 first.1 in
    subst Follows (sym is.1) (blank is.0)

module _ (t : Script) (script : IsScript t) (names : HasNames t) (d : Database) where
  one-read : (done : List Table) (m : ModelInfo) (models : List ModelInfo) (u : Table) (us : List Table) (r : List ℕ) → HasFields m → HasModel t.start m.number
      → table_of d m.number ≡ Some u → u.model ≡ m.number → IsTableOf d m u
      → tables_from (done ++ u ∷ []) models (flat_map (λ i. table_text (model_text t i.number) d i) models ++ r) ≡ Some ((done ++ u ∷ []) ++ us, r)
      → tables_from done (m ∷ models) (flat_map (λ i. table_text (model_text t i.number) d i) (m ∷ models) ++ r) ≡ Some (done ++ u ∷ us, r)
  one-read done m models u us r apart has found same is later =
      let rest = flat_map (λ i. table_text (model_text t i.number) d i) models ++ r in
      let read = printed-read d m u (model_text t m.number) rest apart found same is in
      let n = model-is-named t script names m.number read.0 has (table-follows m read.0 (u, rest) read.2) in
      ap (tables_from done (m ∷ models)) (append_assoc (table_text (model_text t m.number) d m) (flat_map (λ i. table_text (model_text t i.number) d i) models) r ∙ read.1)
      ∙ ap (after (λ _ a. after (λ _ b. after (λ table c. tables_from (done ++ table ∷ []) models c) (table_at m b)) (mark_at a))) n.first
      ∙ ap (after (λ _ b. after (λ table c. tables_from (done ++ table ∷ []) models c) (table_at m b))) n.second
      ∙ ap (after (λ table c. tables_from (done ++ table ∷ []) models c)) read.2
      ∙ later ∙ ap (λ z. Some (z, r)) (append_assoc done (u ∷ []) us)

  tables-read : (done : List Table) (models : List ModelInfo) (us : List Table) (r : List ℕ) → AllByRecursion HasFields models → AreAmong t.start.models models
      → AllByRecursion (HasTable d) models → AreFound d models us
      → tables_from done models (flat_map (λ i. table_text (model_text t i.number) d i) models ++ r) ≡ Some (done ++ us, r)
  tables-read done [] [] r apart among has found = rw append-nil refl
  tables-read done [] (u ∷ us) r apart among has found = absurd found
  tables-read done (m ∷ models) [] r apart among has found = absurd found
  tables-read done (m ∷ models) (u ∷ us) r apart among has found =
      let one : has.0.0 ≡ u = some-one (sym has.0.1 ∙ found.0.1) in
      one-read done m models u us r apart.0 among.0 found.0.1 found.0.0 (subst (IsTableOf d m) one has.0.2)
      (tables-read (done ++ u ∷ []) models us r apart.1 among.1 has.1 found.1)

  pub base-read : (r : List ℕ) → IsStandard t.start d → tables_from [] t.start.models (database_text t d ++ r) ≡ Some (d, r)
  base-read r is =
      tables-read [] t.start.models d r (start-fields t script) (each-among [] t.start.models) is.database.tables
      (found-all t.start.models d (start-models t script) is.order)

-- ---- tables that are read are those of the models, in their order

table-model : (m : ModelInfo) (text : List ℕ) (u : Table) (rest : List ℕ) → table_at m text ≡ Some (u, rest) → u.model ≡ m.number
table-model m text u rest e =
    let whole : tables.tables_from [] (m ∷ []) (m.name ++ text) ≡ Some (u ∷ [], rest) = rw (pieces-read.word m.name text, e) refl in
    ap first (in-order [] (m ∷ []) (m.name ++ text) (u ∷ []) rest whole)
  where
    first : List ℕ → ℕ
    first [] = 0
    first (n ∷ ns) = n

pub in-model-order : (done : List Table) (models : List ModelInfo) (text : List ℕ) (us : List Table) (rest : List ℕ) → tables_from done models text ≡ Some (us, rest)
    → map (λ (u : Table). u.model) us ≡ map (λ (u : Table). u.model) done ++ model_numbers models
in-model-order done [] text us rest e =
    ap (map (λ (u : Table). u.model)) (sym (ap (λ (p : List Table × List ℕ). p.0) (some-one e))) ∙ sym (append-nil (map (λ (u : Table). u.model) done))
in-model-order done (m ∷ models) text us rest e =
    let one = after-some (λ _ a. after (λ _ b. after (λ table c. tables_from (done ++ table ∷ []) models c) (table_at m b)) (mark_at a)) (name_at text) (us, rest) e in
    let two = after-some (λ _ b. after (λ table c. tables_from (done ++ table ∷ []) models c) (table_at m b)) (mark_at one.0.1) (us, rest) one.2 in
    let three = after-some (λ table c. tables_from (done ++ table ∷ []) models c) (table_at m two.0.1) (us, rest) two.2 in
    in-model-order (done ++ three.0.0 ∷ []) models three.0.1 us rest three.2
    ∙ ap (λ ns. ns ++ model_numbers models) (map_one (λ (u : Table). u.model) done three.0.0)
    ∙ append_assoc (map (λ (u : Table). u.model) done) (three.0.0.model ∷ []) (model_numbers models)
    ∙ ap (λ n. map (λ (u : Table). u.model) done ++ n ∷ model_numbers models) (table-model m two.0.1 three.0.0 three.0.1 three.1)
