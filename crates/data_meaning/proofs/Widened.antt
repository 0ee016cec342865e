-- A database over the schema before a script, with an empty table for each model that the script creates, is one to start from.
use Rattle.std.proofs.Common.{◌≡◌, ℕ, zero, suc, ◌+◌, ◌<◌, ◌≤◌, Bool, true, false, IsTrue, List, [], ◌∷◌, ◌++◌, length, refl, ap, sym, ◌∙◌, subst, arith, cond, map, drop}
use Rattle.std.specs.Prelude.{Option, Some, None, ◌==◌, nat_eq, is_some, slice_get}
use Rattle.std.specs.List.{find, list_any, AllByRecursion, IsDistinct}
use Rattle.std.specs.Option.{option_map_or}
use Rattle.std.proofs.lemmas.Bool.{eq-eqb, ne_eqb}
use Rattle.type_schema.specs.Schema.{FieldInfo, ModelInfo, Schema, model_of, model_in}
use Rattle.type_schema.specs.Typing.{HasModel}
use Rattle.type_schema.specs.Commands.{Command, create_model, delete_model, add_static, remove_static, add_principal, add_field, remove_field, update_field, weaken_field, update_model, weaken_model, schema_after}
use Rattle.type_schema.specs.Script.{Script, schema_at, command_at, count, closed_model, created_by, created, start_of, IsScript}
use Rattle.data_meaning.specs.Database.{Record, Table, Database, table_of, has_record, IsTableOf, HasTable, IsDatabase, HasNoFurtherTables}
use Rattle.data_meaning.specs.Run.{widened}
use Rattle.data_meaning.specs.Gain.{IsStart}
use Rattle.data_meaning.specs.Runs.{WidenedStarts}
use Rattle.data_meaning.proofs.Carried.{all-of, all-append, Stays, all-stay, table-carried}
use Rattle.data_meaning.proofs.Finds.{find-holds}
use Rattle.data_meaning.proofs.Runs.{early, command-there, next-after, rises-to}

-- ---- models whose numbers rise

-- each number is larger than the one before it, and the first is no less than this one
abbrev Rise : ℕ → List ModelInfo → Type 0
Rise least [] = Unit {0}
Rise least (i ∷ models) = (least ≤ i.number) × Rise (i.number + 1) models

above : (least low : ℕ) (models : List ModelInfo) → low ≤ least → Rise least models → AllByRecursion (λ (i : ModelInfo). low ≤ i.number) models
above least low [] le rise = tt
above least low (i ∷ models) le rise = (
  (let first : least ≤ i.number = rise.0 in omega (arith, first, le)),
  (let first : least ≤ i.number = rise.0 in above (i.number + 1) low models (omega (arith, first, le)) rise.1),
)

rise-from : (low least : ℕ) (models : List ModelInfo) → low ≤ least → Rise least models → Rise low models
rise-from low least [] le rise = tt
rise-from low least (i ∷ models) le rise = ((let first : least ≤ i.number = rise.0 in omega (arith, first, le)), rise.1)

abbrev empty : ModelInfo → Table
empty i = record { model = i.number; next = 1; records = [] }

abbrev model_numbers_of : List Table → List ℕ
model_numbers_of ts = map (λ (t : Table). t.model) ts

differ : (least : ℕ) (models : List ModelInfo) → Rise least models → IsDistinct nat_eq (model_numbers_of (map empty models))
unfolding IsDistinct
differ least [] rise = tt
differ least (i ∷ models) rise = (others models (above (i.number + 1) (i.number + 1) models (omega arith) rise.1), differ (i.number + 1) models rise.1)
  where
    others : (ms : List ModelInfo) → AllByRecursion (λ (j : ModelInfo). i.number + 1 ≤ j.number) ms → AllByRecursion (λ k. nat_eq i.number k ≡ false) (model_numbers_of (map empty ms))
    others [] all = tt
    others (j ∷ ms) all = ((let more : i.number + 1 ≤ j.number = all.0 in ne_eqb i.number j.number (λ e. omega (arith, e, more))), others ms all.1)

-- tables of smaller numbers in front
differ-behind : (next : ℕ) (d : Database) (models : List ModelInfo) → IsDistinct nat_eq (model_numbers_of d) → AllByRecursion (λ (t : Table). t.model < next) d → Rise next models
    → IsDistinct nat_eq (model_numbers_of (d ++ map empty models))
unfolding IsDistinct
differ-behind next [] models apart below rise = differ next models rise
differ-behind next (t ∷ d) models apart below rise = (others d apart.0, differ-behind next d models apart.1 below.1 rise)
  where
    ends : (ms : List ModelInfo) → AllByRecursion (λ (j : ModelInfo). next ≤ j.number) ms → AllByRecursion (λ k. nat_eq t.model k ≡ false) (model_numbers_of (map empty ms))
    ends [] all = tt
    ends (j ∷ ms) all = (
      (let less : t.model < next = below.0 in let more : next ≤ j.number = all.0 in ne_eqb t.model j.number (λ e. omega (arith, e, less, more))),
      ends ms all.1,
    )

    others : (ts : Database) → AllByRecursion (λ k. nat_eq t.model k ≡ false) (model_numbers_of ts) → AllByRecursion (λ k. nat_eq t.model k ≡ false) (model_numbers_of (ts ++ map empty models))
    others [] all = ends models (above next next models (omega arith) rise)
    others (u ∷ ts) all = (all.0, others ts all.1)

-- ---- what look-up finds

find-front : {A : Type 0} (p : A → Bool) (xs ys : List A) (y : A) → find p xs ≡ Some y → find p (xs ++ ys) ≡ Some y
find-front p [] ys y e = cc
find-front {A} p (x ∷ xs) ys y e =
    elim (p x) as (λ (b : Bool). cond b (Some x) (find p xs) ≡ Some y → cond b (Some x) (find p (xs ++ ys)) ≡ Some y) [
      | true ↦ λ h. h
      | false ↦ λ h. find-front p xs ys y h
    ] e

some-front : {A : Type 0} (p : A → Bool) (xs ys : List A) → is_some (find p xs) ≡ true → is_some (find p (xs ++ ys)) ≡ true
some-front p [] ys e = cc
some-front {A} p (x ∷ xs) ys e =
    elim (p x) as (λ (b : Bool). is_some (cond b (Some x) (find p xs)) ≡ true → is_some (cond b (Some x) (find p (xs ++ ys))) ≡ true) [
      | true ↦ λ h. refl
      | false ↦ λ h. some-front p xs ys h
    ] e

some-behind : {A : Type 0} (p : A → Bool) (xs ys : List A) → is_some (find p ys) ≡ true → is_some (find p (xs ++ ys)) ≡ true
some-behind p [] ys e = e
some-behind {A} p (x ∷ xs) ys e =
    elim (p x) as (λ (b : Bool). is_some (cond b (Some x) (find p (xs ++ ys))) ≡ true) [ true ↦ refl | false ↦ some-behind p xs ys e ]

-- behind tables of other models
behind : (next n : ℕ) (d : Database) (ts : List Table) → AllByRecursion (λ (t : Table). t.model < next) d → next ≤ n → table_of (d ++ ts) n ≡ table_of ts n
behind next n [] ts below le = refl
behind next n (t ∷ d) ts below le =
    let less : t.model < next = below.0 in
    ap (λ b. cond b (Some t) (table_of (d ++ ts) n)) (ne_eqb t.model n (λ e. omega (arith, e, less, le))) ∙ behind next n d ts below.1 le

-- each model has its own empty table, and is found among them
each-empty : (least : ℕ) (models : List ModelInfo) → Rise least models → AllByRecursion (λ (i : ModelInfo). table_of (map empty models) i.number ≡ Some (empty i)) models
each-empty least [] rise = tt
each-empty least (i ∷ models) rise = (
  ap (λ b. cond b (Some (empty i)) (table_of (map empty models) i.number)) (eq-eqb i.number i.number refl),
  later models (above (i.number + 1) (i.number + 1) models (omega arith) rise.1) (each-empty (i.number + 1) models rise.1),
)
  where
    later : (ms : List ModelInfo) → AllByRecursion (λ (j : ModelInfo). i.number + 1 ≤ j.number) ms → AllByRecursion (λ (j : ModelInfo). table_of (map empty models) j.number ≡ Some (empty j)) ms
        → AllByRecursion (λ (j : ModelInfo). table_of (empty i ∷ map empty models) j.number ≡ Some (empty j)) ms
    later [] more all = tt
    later (j ∷ ms) more all = (
      (let above : i.number + 1 ≤ j.number = more.0 in
          ap (λ b. cond b (Some (empty i)) (table_of (map empty models) j.number)) (ne_eqb i.number j.number (λ e. omega (arith, e, above))) ∙ all.0),
      later ms more.1 all.1,
    )

each-there : (models : List ModelInfo) → AllByRecursion (λ (i : ModelInfo). is_some (model_in models i.number) ≡ true) models
each-there [] = tt
each-there (i ∷ models) = (ap (λ b. is_some (cond b (Some i) (model_in models i.number))) (eq-eqb i.number i.number refl), later models (each-there models))
  where
    later : (ms : List ModelInfo) → AllByRecursion (λ (j : ModelInfo). is_some (model_in models j.number) ≡ true) ms → AllByRecursion (λ (j : ModelInfo). is_some (model_in (i ∷ models) j.number) ≡ true) ms
    later [] all = tt
    later (j ∷ ms) all = (
      elim (i.number == j.number) as (λ (b : Bool). is_some (cond b (Some i) (model_in models j.number)) ≡ true) [ true ↦ refl | false ↦ all.0 ],
      later ms all.1,
    )

-- ---- created models have numbers that rise

cut-at : {A : Type 0} (xs : List A) (k : ℕ) (x : A) → slice_get xs k ≡ Some x → drop k xs ≡ x ∷ drop (suc k) xs
cut-at [] k x e = cc
cut-at (y ∷ xs) zero x e = let same : y ≡ x = cc in ap (λ z. z ∷ xs) same
cut-at (y ∷ xs) (suc k) x e = cut-at xs k x e

cut-past : {A : Type 0} (xs : List A) (k : ℕ) → length xs ≤ k → drop k xs ≡ []
cut-past [] zero past = refl
cut-past [] (suc k) past = refl
cut-past (x ∷ xs) zero past = absurd (omega arith)
cut-past (x ∷ xs) (suc k) past = cut-past xs k (omega arith)

cut-none : {A : Type 0} (xs : List A) → drop 0 xs ≡ xs
cut-none [] = refl
cut-none (x ∷ xs) = refl

module _ (t : Script) (is : IsScript t) where
  created-first : (k : ℕ) (c : Command) → command_at t k ≡ Some c → (rest : List ModelInfo) → Rise (schema_after (schema_at t k) c).next_model rest
      → Rise (schema_at t k).next_model (created_by c ++ rest)
  created-first k (create_model i) here rest rise =
      let number : i.number ≡ (schema_at t k).next_model = (is.commands k (create_model i) here).0 in
      (omega (arith, number), rise-from (i.number + 1) ((schema_at t k).next_model + 1) rest (omega (arith, number)) rise)
  created-first k (delete_model m) here rest rise = rise
  created-first k (add_static n) here rest rise = rise
  created-first k (remove_static n) here rest rise = rise
  created-first k (add_principal m) here rest rise = rise
  created-first k (add_field m f init) here rest rise = rise
  created-first k (remove_field m f) here rest rise = rise
  created-first k (update_field m f read write) here rest rise = rise
  created-first k (weaken_field m f read write reason) here rest rise = rise
  created-first k (update_model m create delete) here rest rise = rise
  created-first k (weaken_model m create delete reason) here rest rise = rise

  -- by how many commands are left
  created-rise : (n k : ℕ) → k + n ≡ count t → Rise (schema_at t k).next_model (created (drop k t.commands))
  created-rise zero k left = subst (λ (cs : List Command). Rise (schema_at t k).next_model (created cs)) (sym (cut-past t.commands k (omega (arith, left)))) tt
  created-rise (suc n) k left =
      let c = command-there t is k (omega (arith, left)) in
      let later : Rise (schema_after (schema_at t k) c.0).next_model (created (drop (suc k) t.commands))
      = subst (λ (s : Schema). Rise s.next_model (created (drop (suc k) t.commands))) (is.steps k c.0 c.1) (created-rise n (suc k) (omega (arith, left))) in
      subst (λ (cs : List Command). Rise (schema_at t k).next_model (created cs)) (sym (cut-at t.commands k c.0 c.1))
      (created-first k c.0 c.1 (created (drop (suc k) t.commands)) later)

  all-rise : Rise (schema_at t 0).next_model (created t.commands)
  all-rise = subst (λ (cs : List Command). Rise (schema_at t 0).next_model (created cs)) (cut-none t.commands) (created-rise (count t) 0 (omega arith))

  module _ (d : Database) (over : IsDatabase (schema_at t 0) d) (only : HasNoFurtherTables (schema_at t 0) d) where
    abbrev next : ℕ
    next = (schema_at t 0).next_model

    abbrev more : List ModelInfo
    more = created t.commands

    below : AllByRecursion (λ (u : Table). u.model < next) d
    below =
        let proper = is.proper 0 (omega arith) in
        all-of (λ (u : Table). HasModel (schema_at t 0) u.model) (λ (u : Table). u.model < next) (λ u has. early (schema_at t 0) u.model proper has) d only

    stays : (n : ℕ) → Stays d (widened t d) n
    stays n id h =
        elim (table_of d n) as (λ (o : Option Table). table_of d n ≡ o → list_any (λ i. i == id) (map (λ (r : Record). r.id) (option_map_or (λ (u : Table). u.records) o [])) ≡ true
        → has_record (widened t d) n id ≡ true) [
          | None ↦ λ here e. cc
          | Some u ↦ λ here e.
              ap (λ o. list_any (λ i. i == id) (map (λ (r : Record). r.id) (option_map_or (λ (w : Table). w.records) o [])))
              (find-front (λ (w : Table). w.model == n) d (map empty more) u here) ∙ e
        ] refl h

    old-tables : AllByRecursion (HasTable (widened t d)) (schema_at t 0).models
    old-tables =
        all-of (HasTable d) (HasTable (widened t d))
        (λ i has. table-carried d (widened t d) i (λ u here. find-front (λ (w : Table). w.model == i.number) d (map empty more) u here) (all-stay d (widened t d) stays i.fields) has)
        (schema_at t 0).models over.tables

    empty-table : (i : ModelInfo) → next ≤ i.number → table_of (map empty more) i.number ≡ Some (empty i) → HasTable (widened t d) i
    empty-table i late here = (
      empty i,
      behind next i.number d (map empty more) below late ∙ here,
      record { first = omega arith; last = omega arith; rising = λ k within. absurd (omega arith); records = tt },
    )

    new-tables : (ms : List ModelInfo) → AllByRecursion (λ (i : ModelInfo). next ≤ i.number) ms → AllByRecursion (λ (i : ModelInfo). table_of (map empty more) i.number ≡ Some (empty i)) ms
        → AllByRecursion (HasTable (widened t d)) ms
    new-tables [] late here = tt
    new-tables (i ∷ ms) late here = (empty-table i late.0 here.0, new-tables ms late.1 here.1)

    start-over : IsDatabase (start_of t) (widened t d)
    start-over = record {
      apart = differ-behind next d more over.apart below all-rise;
      tables = all-append (HasTable (widened t d)) (schema_at t 0).models more old-tables
          (new-tables more (above next next more (omega arith) all-rise) (each-empty next more all-rise));
    }

    new-only : (ms : List ModelInfo) → AllByRecursion (λ (i : ModelInfo). is_some (model_in more i.number) ≡ true) ms
        → AllByRecursion (λ (u : Table). HasModel (start_of t) u.model) (map empty ms)
    new-only [] all = tt
    new-only (i ∷ ms) all = (some-behind (λ (u : ModelInfo). u.number == i.number) (schema_at t 0).models more all.0, new-only ms all.1)

    start-only : HasNoFurtherTables (start_of t) (widened t d)
    start-only =
        all-append (λ (u : Table). HasModel (start_of t) u.model) d (map empty more)
        (all-of (λ (u : Table). HasModel (schema_at t 0) u.model) (λ (u : Table). HasModel (start_of t) u.model)
        (λ u has. some-front (λ (i : ModelInfo). i.number == u.model) (schema_at t 0).models more has) d only)
        (new-only more (each-there more))

pub starts : WidenedStarts
starts t is d over only = record {
  over = subst (λ (s : Schema). IsDatabase s (widened t d)) (sym is.start) (start-over t is d over only);
  only = subst (λ (s : Schema). HasNoFurtherTables s (widened t d)) (sym is.start) (start-only t is d over only);
}
