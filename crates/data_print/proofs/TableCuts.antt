-- The text of a database tells it.
use Rattle.std.proofs.Common.{◌≡◌, ℕ, false, List, [], ◌∷◌, ◌++◌, map, refl, sym, ◌∙◌, ap, subst, cond, arith, append_assoc, codes}
use Rattle.std.specs.Prelude.{Option, Some, ◌==◌, nat_eq}
use Rattle.std.specs.List.{find, flat_map, concat, AllByRecursion, IsDistinct}
use Rattle.std.specs.Option.{option_map_or}
use Rattle.std.proofs.lemmas.Bool.{eq-eqb, eqb-true}
use Rattle.type_schema.specs.Schema.{ModelInfo, Schema}
use Rattle.type_schema.specs.Proper.{field_numbers, model_numbers}
use Rattle.data_meaning.specs.Database.{Record, Table, Database, table_of, HasTable, IsDatabase, IsInOrder}
use Rattle.data_meaning.proofs.Finds.{find-holds}
use Rattle.data_print.specs.Texts.{id_text, record_text, table_text}
use Rattle.data_print.specs.Told.{TextsTellDatabases}
use Rattle.data_print.proofs.Cuts.{cancel, both, id-cut}
use Rattle.data_print.proofs.RecordCuts.{records-cut}

abbrev made-table : ℕ → ℕ → List Record → Table
made-table m n records = record { model = m; next = n; records = records }

same-table : (t u : Table) → t.model ≡ u.model → t.next ≡ u.next → t.records ≡ u.records → t ≡ u
same-table t u e f g = ap (λ m. made-table m t.next t.records) e ∙ ap (λ n. made-table u.model n t.records) f ∙ ap (made-table u.model u.next) g

-- a table under a name
written : List ℕ → ModelInfo → Table → List ℕ
written name m t = concat (name ∷ codes " " ∷ id_text t.next ∷ codes " {\n" ∷ flat_map (record_text m) t.records ∷ codes "}\n" ∷ [])

is-written : (name : List ℕ) (d : Database) (m : ModelInfo) (t : Table) → table_of d m.number ≡ Some t → table_text name d m ≡ written name m t
unfolding written
is-written name d m t e =
    ap (λ (o : Option Table). concat (name ∷ codes " " ∷ id_text (option_map_or (λ (table : Table). table.next) o 1) ∷ codes " {\n"
    ∷ flat_map (record_text m) (option_map_or (λ (u : Table). u.records) o []) ∷ codes "}\n" ∷ [])) e

lines : (n i c t : List ℕ) → (n ++ (codes " " ++ (i ++ (codes " {\n" ++ (c ++ codes "}\n"))))) ++ t ≡ n ++ (codes " " ++ (i ++ (codes " {\n" ++ (c ++ 125 ∷ 10 ∷ t))))
lines n i c t = simp append_assoc

module _ (d e : Database) where
  table-cut : (name : List ℕ) (m : ModelInfo) (r s : List ℕ) → IsDistinct nat_eq (field_numbers m.fields) → HasTable d m → HasTable e m
      → table_text name d m ++ r ≡ table_text name e m ++ s → (table_of d m.number ≡ table_of e m.number) × (r ≡ s)
  unfolding written
  table-cut name m r s apart hd he same =
      let t = hd.0 in
      let u = he.0 in
      let ct = flat_map (record_text m) t.records in
      let cu = flat_map (record_text m) u.records in
      let whole = sym (lines name (id_text t.next) ct r) ∙ ap (λ z. z ++ r) (sym (is-written name d m t hd.1)) ∙ same
      ∙ ap (λ z. z ++ s) (is-written name e m u he.1) ∙ lines name (id_text u.next) cu s in
      let next = id-cut t.next u.next (codes " {\n" ++ (ct ++ 125 ∷ 10 ∷ r)) (codes " {\n" ++ (cu ++ 125 ∷ 10 ∷ s)) (omega (arith, hd.2.last)) (omega (arith, he.2.last)) (omega arith) (omega arith)
      (cancel (codes " ") (id_text t.next ++ (codes " {\n" ++ (ct ++ 125 ∷ 10 ∷ r))) (id_text u.next ++ (codes " {\n" ++ (cu ++ 125 ∷ 10 ∷ s)))
      (cancel name (codes " " ++ (id_text t.next ++ (codes " {\n" ++ (ct ++ 125 ∷ 10 ∷ r)))) (codes " " ++ (id_text u.next ++ (codes " {\n" ++ (cu ++ 125 ∷ 10 ∷ s)))) whole)) in
      let rows = records-cut d e m t.next u.next t.records u.records (10 ∷ r) (10 ∷ s) apart hd.2.last he.2.last hd.2.records he.2.records
      (cancel (codes " {\n") (ct ++ 125 ∷ 10 ∷ r) (cu ++ 125 ∷ 10 ∷ s) next.1) in
      let number : (t : Table) (x : Database) → table_of x m.number ≡ Some t → t.model ≡ m.number = λ t x h. eqb-true _ _ (find-holds (λ (v : Table). v.model == m.number) x t h) in
      let table : t ≡ u = same-table t u (number t d hd.1 ∙ sym (number u e he.1)) next.0 rows.0 in
      (hd.1 ∙ ap Some table ∙ sym he.1, cancel (10 ∷ []) r s rows.1)

  tables-cut : (name : ModelInfo → List ℕ) (models : List ModelInfo) → AllByRecursion (λ (m : ModelInfo). IsDistinct nat_eq (field_numbers m.fields)) models
      → AllByRecursion (HasTable d) models → AllByRecursion (HasTable e) models
      → flat_map (λ m. table_text (name m) d m) models ≡ flat_map (λ m. table_text (name m) e m) models
      → AllByRecursion (λ k. table_of d k ≡ table_of e k) (model_numbers models)
  tables-cut name [] apart hd he same = tt
  tables-cut name (m ∷ models) apart hd he same =
      let cut = table-cut (name m) m (flat_map (λ i. table_text (name i) d i) models) (flat_map (λ i. table_text (name i) e i) models) apart.0 hd.0 he.0 same in
      (cut.0, tables-cut name models apart.1 hd.1 he.1 cut.1)

skip : (t : Table) (d : Database) (k : ℕ) → nat_eq t.model k ≡ false → table_of (t ∷ d) k ≡ table_of d k
skip t d k other = ap (λ b. cond b (Some t) (find (λ (u : Table). u.model == k) d)) other

skipped : (t u : Table) (d e : Database) (ks : List ℕ) → t.model ≡ u.model → AllByRecursion (λ k. nat_eq t.model k ≡ false) ks
    → AllByRecursion (λ k. table_of (t ∷ d) k ≡ table_of (u ∷ e) k) ks → AllByRecursion (λ k. table_of d k ≡ table_of e k) ks
skipped t u d e [] same others all = tt
skipped t u d e (k ∷ ks) same others all =
    (sym (skip t d k others.0) ∙ all.0 ∙ skip u e k (ap (λ n. nat_eq n k) (sym same) ∙ others.0), skipped t u d e ks same others.1 all.1)

-- databases with the same tables in the same order
same-tables : (d e : Database) (ks : List ℕ) → map (λ (t : Table). t.model) d ≡ ks → map (λ (t : Table). t.model) e ≡ ks → IsDistinct nat_eq ks
    → AllByRecursion (λ k. table_of d k ≡ table_of e k) ks → d ≡ e
unfolding IsDistinct
same-tables [] [] ks hd he apart all = refl
same-tables [] (u ∷ e) [] hd he apart all = cc
same-tables [] (u ∷ e) (k ∷ ks) hd he apart all = cc
same-tables (t ∷ d) [] [] hd he apart all = cc
same-tables (t ∷ d) [] (k ∷ ks) hd he apart all = cc
same-tables (t ∷ d) (u ∷ e) [] hd he apart all = cc
same-tables (t ∷ d) (u ∷ e) (k ∷ ks) hd he apart all =
    let tk : t.model ≡ k = cc in
    let uk : u.model ≡ k = cc in
    let td : map (λ (v : Table). v.model) d ≡ ks = cc in
    let ue : map (λ (v : Table). v.model) e ≡ ks = cc in
    let here : (v : Table) (x : Database) → v.model ≡ k → table_of (v ∷ x) k ≡ Some v = λ v x h. ap (λ b. cond b (Some v) (find (λ (w : Table). w.model == k) x)) (eq-eqb v.model k h) in
    let some : Some t ≡ Some u = sym (here t d tk) ∙ all.0 ∙ here u e uk in
    let first : t ≡ u = cc in
    let others : AllByRecursion (λ n. nat_eq t.model n ≡ false) ks = subst (λ n. AllByRecursion (λ z. nat_eq n z ≡ false) ks) (sym tk) apart.0 in
    both t u d e first (same-tables d e ks td ue apart.1 (skipped t u d e ks (tk ∙ sym uk) others all.1))

pub tells : (s : Schema) (name : ModelInfo → List ℕ) (d e : Database) → AllByRecursion (λ (m : ModelInfo). IsDistinct nat_eq (field_numbers m.fields)) s.models
    → IsDatabase s d → IsInOrder s d → IsDatabase s e → IsInOrder s e
    → flat_map (λ m. table_text (name m) d m) s.models ≡ flat_map (λ m. table_text (name m) e m) s.models → d ≡ e
tells s name d e apart id od ie oe same =
    same-tables d e (model_numbers s.models) od oe (subst (IsDistinct nat_eq) od id.apart) (tables-cut d e name s.models apart id.tables ie.tables same)

pub texts-tell : TextsTellDatabases
texts-tell s d e apart id od ie oe same = tells s (λ m. m.name) d e apart id od ie oe same
