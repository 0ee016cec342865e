-- Which tables there are after commands of a script.
use Rattle.std.proofs.Common.{◌≡◌, ℕ, zero, suc, ◌<◌, ◌≤◌, Bool, true, false, not, ◌||◌, List, [], ◌∷◌, ◌++◌, refl, ap, sym, ◌∙◌, subst, arith, cond, length, map, drop}
use Rattle.std.specs.Prelude.{Some, filter, ◌==◌, nat_eq, is_some, slice_get, if◌then◌else◌}
use Rattle.std.specs.List.{AllByRecursion, IsDistinct, list_any}
use Rattle.std.proofs.lemmas.Bool.{eq-eqb, eqb-false, eqb-true, ne_eqb}
use Rattle.std.proofs.lemmas.List.{append-nil, append_assoc, map-append}
use Rattle.std.proofs.lemmas.List.Elements.{filter-append}
use Rattle.type_schema.specs.Schema.{ModelInfo, Schema, model_in}
use Rattle.type_schema.specs.Typing.{HasModel}
use Rattle.type_schema.specs.Commands.{Command, create_model, delete_model, add_static, remove_static, add_principal, add_field, remove_field, update_field, weaken_field, update_model, weaken_model, change_model, schema_after}
use Rattle.type_schema.specs.Script.{Script, schema_at, command_at, count, created_by, created, start_of, IsScript}
use Rattle.data_meaning.specs.Database.{Slot, Record, Table, Database, IsDatabase, HasNoFurtherTables, IsInOrder}
use Rattle.data_meaning.specs.Run.{change_slots, after_command, after_if_any, run_to, widened}
use Rattle.data_meaning.specs.Gain.{IsStart}
use Rattle.data_meaning.proofs.Carried.{all-both, all-filtered, all-of, all-passed}
use Rattle.data_meaning.proofs.Runs.{keeps}
use Rattle.data_meaning.proofs.Tests.{not-true}
use Rattle.data_meaning.proofs.Widened.{starts}
use Rattle.data_records.proofs.Moves.{filter-seen}

abbrev numbers : List ModelInfo → List ℕ
numbers models = map (λ (i : ModelInfo). i.number) models

abbrev tables : Database → List ℕ
tables d = map (λ (t : Table). t.model) d

abbrev is_in : ℕ → List ℕ → Bool
is_in n ns = list_any (λ j. j == n) ns

abbrev not_of : ℕ → ℕ → Bool
not_of m n = not (n == m)

-- ---- models that commands leave

numbers-changed : (m : ℕ) (change : ModelInfo → ModelInfo) → ((i : ModelInfo) → (change i).number ≡ i.number) → (models : List ModelInfo)
    → numbers (change_model m change models) ≡ numbers models
numbers-changed m change stays [] = refl
numbers-changed m change stays (i ∷ models) =
    ap (λ n. n ∷ numbers (change_model m change models))
    (elim (i.number == m) as (λ (b : Bool). (let u : ModelInfo = if b then change i else i in u.number) ≡ i.number) [ true ↦ stays i | false ↦ refl ])
    ∙ ap (λ ns. i.number ∷ ns) (numbers-changed m change stays models)

tables-changed : (m : ℕ) (change : Record → List Slot) (d : Database) → tables (change_slots m change d) ≡ tables d
tables-changed m change [] = refl
tables-changed m change (t ∷ d) =
    ap (λ n. n ∷ tables (change_slots m change d))
    (elim (t.model == m) as (λ (b : Bool).
    (let u : Table = if b then record t { records = map (λ (r : Record). record r { slots = change r }) t.records } else t in u.model) ≡ t.model) [ true ↦ refl | false ↦ refl ])
    ∙ ap (λ ns. t.model ∷ ns) (tables-changed m change d)

-- the models that are there after the command, and those of later ones: as before, but for a model that is deleted
data Follows (s : Schema) (c : Command) (rest : List ModelInfo) (d : Database) : Type 0 where
  stay : numbers (schema_after s c).models ++ numbers rest ≡ numbers s.models ++ numbers (created_by c ++ rest) → tables (after_command c d) ≡ tables d → Follows s c rest d
  go : (m : ℕ) → c ≡ delete_model m → Follows s c rest d

follows : (s : Schema) (c : Command) (rest : List ModelInfo) (d : Database) → Follows s c rest d
follows s (create_model i) rest d =
    stay (ap (λ ns. ns ++ numbers rest) (map-append (λ (u : ModelInfo). u.number) s.models (i ∷ [])) ∙ append_assoc (numbers s.models) (i.number ∷ []) (numbers rest)) refl
follows s (delete_model m) rest d = go m refl
follows s (add_static n) rest d = stay refl refl
follows s (remove_static n) rest d = stay refl refl
follows s (add_principal m) rest d = stay (ap (λ ns. ns ++ numbers rest) (numbers-changed m _ (λ i. refl) s.models)) refl
follows s (add_field m f init) rest d = stay (ap (λ ns. ns ++ numbers rest) (numbers-changed m _ (λ i. refl) s.models)) (tables-changed m _ d)
follows s (remove_field m f) rest d = stay (ap (λ ns. ns ++ numbers rest) (numbers-changed m _ (λ i. refl) s.models)) (tables-changed m _ d)
follows s (update_field m f read write) rest d = stay (ap (λ ns. ns ++ numbers rest) (numbers-changed m _ (λ i. refl) s.models)) refl
follows s (weaken_field m f read write reason) rest d = stay (ap (λ ns. ns ++ numbers rest) (numbers-changed m _ (λ i. refl) s.models)) refl
follows s (update_model m create delete) rest d = stay (ap (λ ns. ns ++ numbers rest) (numbers-changed m _ (λ i. refl) s.models)) refl
follows s (weaken_model m create delete reason) rest d = stay (ap (λ ns. ns ++ numbers rest) (numbers-changed m _ (λ i. refl) s.models)) refl

-- ---- numbers in lists

found-in : (n : ℕ) (models : List ModelInfo) → is_some (model_in models n) ≡ is_in n (numbers models)
found-in n [] = refl
found-in n (i ∷ models) =
    elim (i.number == n) as (λ (b : Bool). is_some (cond b (Some i) (model_in models n)) ≡ (b || is_in n (numbers models))) [ true ↦ refl | false ↦ found-in n models ]

still-in : (m n : ℕ) (xs ys : List ℕ) → (n == m) ≡ false → is_in n (xs ++ ys) ≡ true → is_in n (filter (not_of m) xs ++ ys) ≡ true
still-in m n [] ys differs h = h
still-in m n (x ∷ xs) ys differs h =
    elim (x == n) as (λ (b : Bool). (x == n) ≡ b → (b || is_in n (xs ++ ys)) ≡ true → is_in n (cond (not_of m x) (x ∷ filter (not_of m) xs) (filter (not_of m) xs) ++ ys) ≡ true) [
      | true ↦ λ here e.
          let same : x ≡ n = eqb-true x n here in
          let stays : not_of m x ≡ true = ap (not_of m) same ∙ ap not differs in
          ap (λ (k : Bool). is_in n (cond k (x ∷ filter (not_of m) xs) (filter (not_of m) xs) ++ ys)) stays
          ∙ ap (λ (k : Bool). k || is_in n (filter (not_of m) xs ++ ys)) here
      | false ↦ λ here e.
          let later = still-in m n xs ys differs e in
          elim (not_of m x) as (λ (k : Bool). is_in n (cond k (x ∷ filter (not_of m) xs) (filter (not_of m) xs) ++ ys) ≡ true) [
            | true ↦ ap (λ (k : Bool). k || is_in n (filter (not_of m) xs ++ ys)) here ∙ later
            | false ↦ later
          ]
    ] refl h

-- the number is in front, and so not behind
not-behind : (m : ℕ) (xs ys : List ℕ) → IsDistinct nat_eq (xs ++ ys) → is_in m xs ≡ true → filter (not_of m) ys ≡ ys
unfolding IsDistinct
not-behind m [] ys apart has = cc
not-behind m (x ∷ xs) ys apart has =
    elim (x == m) as (λ (b : Bool). (x == m) ≡ b → (b || is_in m xs) ≡ true → filter (not_of m) ys ≡ ys) [
      | true ↦ λ here e. let same : x ≡ m = eqb-true x m here in all-stay xs ys (subst (λ k. AllByRecursion (λ j. nat_eq k j ≡ false) (xs ++ ys)) same apart.0)
      | false ↦ λ here e. not-behind m xs ys apart.1 e
    ] refl has
  where
    stay-all : (ys : List ℕ) → AllByRecursion (λ j. nat_eq m j ≡ false) ys → filter (not_of m) ys ≡ ys
    stay-all [] all = refl
    stay-all (y ∷ ys) all =
        let differs : not_of m y ≡ true = ap not (ne_eqb y m (λ same. eqb-false m y all.0 (sym same))) in
        ap (λ (k : Bool). cond k (y ∷ filter (not_of m) ys) (filter (not_of m) ys)) differs ∙ ap (λ zs. y ∷ zs) (stay-all ys all.1)

    all-stay : (xs ys : List ℕ) → AllByRecursion (λ j. nat_eq m j ≡ false) (xs ++ ys) → filter (not_of m) ys ≡ ys
    all-stay [] ys all = stay-all ys all
    all-stay (x ∷ xs) ys all = all-stay xs ys all.1

either : (a b : Bool) → b ≡ true → (a || b) ≡ true
either true b h = refl
either false b h = h

each-in : (ns : List ℕ) → AllByRecursion (λ n. is_in n ns ≡ true) ns
each-in [] = tt
each-in (m ∷ ns) = (
  ap (λ (b : Bool). b || is_in m ns) (eq-eqb m m refl),
  all-of (λ n. is_in n ns ≡ true) (λ n. is_in n (m ∷ ns) ≡ true) (λ n h. either (m == n) (is_in n ns) h) ns (each-in ns),
)

-- tables that are those of the models are of models that are there
pub ordered-only : (s : Schema) (d : Database) → IsInOrder s d → HasNoFurtherTables s d
ordered-only s d order = each d (subst (AllByRecursion (λ n. is_in n (numbers s.models) ≡ true)) (sym order) (each-in (numbers s.models)))
  where
    each : (ts : Database) → AllByRecursion (λ n. is_in n (numbers s.models) ≡ true) (tables ts) → HasNoFurtherTables s ts
    each [] all = tt
    each (t ∷ ts) all = (found-in t.model s.models ∙ all.0, each ts all.1)

-- ---- along a script

command-there : (cs : List Command) (k : ℕ) → k < length cs → (c : Command) × (slice_get cs k ≡ Some c)
command-there [] k within = absurd (omega arith)
command-there (c ∷ cs) zero within = (c, refl)
command-there (c ∷ cs) (suc k) within = command-there cs k (omega arith)

cut-at : (cs : List Command) (k : ℕ) (c : Command) → slice_get cs k ≡ Some c → drop k cs ≡ c ∷ drop (suc k) cs
cut-at [] k c here = cc
cut-at (c ∷ []) zero e here = let same : c ≡ e = cc in ap (λ u. u ∷ []) same
cut-at (c ∷ (b ∷ cs)) zero e here = let same : c ≡ e = cc in ap (λ u. u ∷ (b ∷ cs)) same
cut-at (c ∷ cs) (suc k) e here = cut-at cs k e here

cut-past : (cs : List Command) (k : ℕ) → length cs ≤ k → drop k cs ≡ []
cut-past [] zero past = refl
cut-past [] (suc k) past = refl
cut-past (c ∷ cs) zero past = absurd (omega arith)
cut-past (c ∷ cs) (suc k) past = cut-past cs k (omega arith)

cut-none : (cs : List Command) → drop 0 cs ≡ cs
cut-none [] = refl
cut-none (c ∷ cs) = refl

-- the models that are there after k commands, and those that later ones create
abbrev coming : Script → ℕ → List ℕ
coming t k = numbers (schema_at t k).models ++ numbers (created (drop k t.commands))

module _ (t : Script) (is : IsScript t) (d : Database) (over : IsDatabase (schema_at t 0) d) (only : HasNoFurtherTables (schema_at t 0) d) where
  abbrev run : ℕ → Database
  run k = run_to t k (widened t d)

  start : IsStart t (widened t d)
  start = starts t is d over only

  -- what a command does to them
  record Turn (k : ℕ) : Type 0 where
    c : Command
    here : command_at t k ≡ Some c
    next : run (suc k) ≡ after_command c (run k)
    was : coming t k ≡ numbers (schema_at t k).models ++ numbers (created_by c ++ created (drop (suc k) t.commands))
    will : coming t (suc k) ≡ numbers (schema_after (schema_at t k) c).models ++ numbers (created (drop (suc k) t.commands))

  turn : (k : ℕ) → k < count t → Turn k
  turn k within =
      let there = command-there t.commands k within in
      record {
        c = there.0;
        here = there.1;
        next = ap (λ o. after_if_any o (run k)) there.1;
        was = ap (λ cs. numbers (schema_at t k).models ++ numbers (created cs)) (cut-at t.commands k there.0 there.1);
        will = ap (λ (s : Schema). numbers s.models ++ numbers (created (drop (suc k) t.commands))) (is.steps k there.0 there.1);
      }

  last-models : coming t (count t) ≡ numbers (schema_at t (count t)).models
  last-models =
      ap (λ cs. numbers (schema_at t (count t)).models ++ numbers (created cs)) (cut-past t.commands (count t) (omega arith)) ∙ append-nil _

  -- ---- each table is one of these

  abbrev Known : ℕ → List ℕ → Type 0
  Known k ns = AllByRecursion (λ n. is_in n (coming t k) ≡ true) ns

  first-known : (ts : Database) → AllByRecursion (λ (u : Table). HasModel t.start u.model) ts → Known 0 (tables ts)
  first-known [] all = tt
  first-known (u ∷ ts) all = (
    (let same : coming t 0 ≡ numbers ((schema_at t 0).models ++ created t.commands)
        = ap (λ cs. numbers (schema_at t 0).models ++ numbers (created cs)) (cut-none t.commands) ∙ sym (map-append (λ (i : ModelInfo). i.number) (schema_at t 0).models (created t.commands)) in
        let has : HasModel (start_of t) u.model = subst (λ (s : Schema). HasModel s u.model) is.start all.0 in
        ap (is_in u.model) same ∙ sym (found-in u.model ((schema_at t 0).models ++ created t.commands)) ∙ has),
    first-known ts all.1,
  )

  more-known : (k : ℕ) → (on : Turn k) → Known k (tables (run k)) → Known (suc k) (tables (run (suc k)))
  more-known k on known =
      let rest = created (drop (suc k) t.commands) in
      elim (follows (schema_at t k) on.c rest (run k)) [
        | stay models ts ↦
            subst (λ ns. AllByRecursion (λ n. is_in n ns ≡ true) (tables (run (suc k)))) (on.was ∙ sym models ∙ sym on.will)
            (subst (Known k) (sym (ap tables on.next ∙ ts)) known)
        | go m deletes ↦
            let left : tables (run (suc k)) ≡ filter (not_of m) (tables (run k))
            = ap tables (on.next ∙ ap (λ c. after_command c (run k)) deletes) ∙ filter-seen (λ (u : Table). u.model) (not_of m) (run k) in
            let front : numbers (schema_after (schema_at t k) on.c).models ≡ filter (not_of m) (numbers (schema_at t k).models)
            = ap (λ c. numbers (schema_after (schema_at t k) c).models) deletes ∙ filter-seen (λ (i : ModelInfo). i.number) (not_of m) (schema_at t k).models in
            let was : coming t k ≡ numbers (schema_at t k).models ++ numbers rest
            = on.was ∙ ap (λ c. numbers (schema_at t k).models ++ numbers (created_by c ++ rest)) deletes in
            let will : coming t (suc k) ≡ filter (not_of m) (numbers (schema_at t k).models) ++ numbers rest
            = on.will ∙ ap (λ ns. ns ++ numbers rest) front in
            subst (Known (suc k)) (sym left)
            (all-both (λ n. not_of m n ≡ true) (λ n. is_in n (coming t k) ≡ true) (λ n. is_in n (coming t (suc k)) ≡ true)
            (λ n differs has. ap (is_in n) will ∙ still-in m n (numbers (schema_at t k).models) (numbers rest) (not-true (n == m) differs) (sym (ap (is_in n) was) ∙ has))
            (filter (not_of m) (tables (run k))) (all-passed (not_of m) (tables (run k))) (all-filtered (λ n. is_in n (coming t k) ≡ true) (not_of m) (tables (run k)) known))
      ]

  all-known : (k : ℕ) → k ≤ count t → Known k (tables (run k))
  all-known zero within = first-known (widened t d) start.only
  all-known (suc k) within = more-known k (turn k (omega arith)) (all-known k (omega arith))

  pub no-further : HasNoFurtherTables (schema_at t (count t)) (run (count t))
  no-further = each (run (count t)) (all-known (count t) (omega arith))
    where
      each : (ts : Database) → Known (count t) (tables ts) → HasNoFurtherTables (schema_at t (count t)) ts
      each [] all = tt
      each (u ∷ ts) all = (found-in u.model (schema_at t (count t)).models ∙ sym (ap (is_in u.model) last-models) ∙ all.0, each ts all.1)

  -- ---- tables in the order of the models

  more-ordered : (k : ℕ) → k < count t → (on : Turn k) → tables (run k) ≡ coming t k → tables (run (suc k)) ≡ coming t (suc k)
  more-ordered k within on order =
      let rest = created (drop (suc k) t.commands) in
      elim (follows (schema_at t k) on.c rest (run k)) [
        | stay models ts ↦ ap tables on.next ∙ ts ∙ order ∙ on.was ∙ sym models ∙ sym on.will
        | go m deletes ↦
            let left : tables (run (suc k)) ≡ filter (not_of m) (tables (run k))
            = ap tables (on.next ∙ ap (λ c. after_command c (run k)) deletes) ∙ filter-seen (λ (u : Table). u.model) (not_of m) (run k) in
            let front : numbers (schema_after (schema_at t k) on.c).models ≡ filter (not_of m) (numbers (schema_at t k).models)
            = ap (λ c. numbers (schema_after (schema_at t k) c).models) deletes ∙ filter-seen (λ (i : ModelInfo). i.number) (not_of m) (schema_at t k).models in
            let was : tables (run k) ≡ numbers (schema_at t k).models ++ numbers rest
            = order ∙ on.was ∙ ap (λ c. numbers (schema_at t k).models ++ numbers (created_by c ++ rest)) deletes in
            let has : HasModel (schema_at t k) m = is.commands k (delete_model m) (on.here ∙ ap (λ c. Some c) deletes) in
            let apart : IsDistinct nat_eq (numbers (schema_at t k).models ++ numbers rest)
            = subst (IsDistinct nat_eq) was (keeps t is (widened t d) start k (omega (arith, within))).apart in
            let behind : filter (not_of m) (numbers rest) ≡ numbers rest
            = not-behind m (numbers (schema_at t k).models) (numbers rest) apart (sym (found-in m (schema_at t k).models) ∙ has) in
            left ∙ ap (filter (not_of m)) was ∙ filter-append (not_of m) (numbers (schema_at t k).models) (numbers rest)
            ∙ ap (λ ns. filter (not_of m) (numbers (schema_at t k).models) ++ ns) behind
            ∙ sym (on.will ∙ ap (λ ns. ns ++ numbers rest) front)
      ]

  abbrev new : List ModelInfo → Database
  new models = map (λ (i : ModelInfo). record { model = i.number; next = 1; records = [] }) models

  new-numbers : (models : List ModelInfo) → tables (new models) ≡ numbers models
  new-numbers [] = refl
  new-numbers (i ∷ models) = ap (λ ns. i.number ∷ ns) (new-numbers models)

  all-ordered : IsInOrder (schema_at t 0) d → (k : ℕ) → k ≤ count t → tables (run k) ≡ coming t k
  all-ordered order zero within =
      map-append (λ (u : Table). u.model) d _ ∙ ap (λ ns. ns ++ tables (new (created t.commands))) order
      ∙ ap (λ ns. numbers (schema_at t 0).models ++ ns) (new-numbers (created t.commands))
      ∙ sym (ap (λ cs. numbers (schema_at t 0).models ++ numbers (created cs)) (cut-none t.commands))
  all-ordered order (suc k) within = more-ordered k (omega arith) (turn k (omega arith)) (all-ordered order k (omega arith))

  pub in-order : IsInOrder (schema_at t 0) d → IsInOrder (schema_at t (count t)) (run (count t))
  in-order order = all-ordered order (count t) (omega arith) ∙ last-models
