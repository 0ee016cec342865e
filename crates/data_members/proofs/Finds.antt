-- Records that rise are found where they stand, so those that pass the tests of filters are those that are in the set.
use Rattle.std.proofs.Common.{◌≡◌, ℕ, Bor, Bool, true, false, ◌&&◌, ◌||◌, cond, List, [], ◌∷◌, ◌++◌, refl, ap, sym, ◌∙◌, subst, arith, map}
use Rattle.std.specs.Prelude.{filter, ◌==◌, Option, Some, None, is_some, option_copied, option_map, IfSome, IfNone, Result, Ok, Err, IfOk}
use Rattle.std.specs.List.{find, list_all, list_any, AllByRecursion}
use Rattle.std.specs.List.Sorted.{IsStrictlyIncreasing}
use Rattle.std.specs.Option.{option_map_or}
use Rattle.std.proofs.lemmas.Bool.{eq-eqb}
use Rattle.std.proofs.lemmas.Map.Keys.{sorted_from_strictly_increasing}
use Rattle.type_schema.specs.declared.trees.TSet.{TSet}
use Rattle.type_schema.specs.declared.trees.TSet.TheVariants as s
use Rattle.type_schema.specs.declared.trees.TFilter.{TFilter}
use Rattle.type_schema.specs.declared.trees.TExpr.TheOpen.{TFilter-F}
use Rattle.type_schema.specs.declared.trees.TExpr.TheFolds.{fold_out-TFilter}
use Rattle.type_schema.specs.Trees as trees
use Rattle.type_schema.specs.Trees.{Expr, SetExpr, Filters, no_filters, filter_and}
use Rattle.type_schema.specs.Views.{ItemsMore, FiltersMore, expr_step, item_step, filter_step, set_step, set_of, filter_of, filters_of}
use Rattle.data_meaning.specs.declared.principals.Principal.{Principal}
use Rattle.data_meaning.specs.declared.principals.Principal.TheVariants.{Rec}
use Rattle.data_meaning.specs.Database.{Slot, Record, Database, records_of, ids_of, slots_of, field_at}
use Rattle.data_records.specs.declared.record.Record as code_record
use Rattle.data_records.specs.Views.{record_data, slot_data, value_data}
use Rattle.data_records.proofs.Holding.{each-found, filtered-ids}
use Rattle.data_records.proofs.Searches.{find-seen}
use Rattle.data_records.proofs.Tables.{any-found}
use Rattle.data_meaning.specs.Meaning.{Env, value_of, member, meets, passes, is_among, id_of_record}
use Rattle.data_members.specs.declared.finding.Test.{Test}
use Rattle.data_members.specs.Tests.{first_op, passes_in}
use Rattle.data_members.specs.Variables.{first_field, first_value}
use Rattle.data_members.proofs.Levels.{Find_is}
use Rattle.data_members.proofs.Loops.{ids-seen}

-- ---- one more test

and-over : (a b c : Bool) → a && (b && c) ≡ (a && b) && c
and-over true b c = refl
and-over false b c = refl

and-true : (a : Bool) → a && true ≡ a
and-true true = refl
and-true false = refl

pub all-more : {A : Type 0} (p : A → Bool) (xs : List A) (x : A) (rest : Bool) → list_all p xs && (p x && rest) ≡ list_all p (xs ++ x ∷ []) && rest
all-more p [] x rest = ap (λ b. b && rest) (sym (and-true (p x)))
all-more p (y ∷ xs) x rest = sym (and-over (p y) (list_all p xs) (p x && rest)) ∙ ap (λ b. p y && b) (all-more p xs x rest) ∙ and-over (p y) (list_all p (xs ++ x ∷ [])) rest

-- ---- records that rise

abbrev id_is : ℕ → code_record.Record → Bool
id_is id r = r.id == id

abbrev ids_by : List code_record.Record → List ℕ
ids_by rs = map (λ (r : code_record.Record). r.id) rs

-- ---- what a search finds

-- the record that is found by its id
pub found-there : (d : Database) (m id : ℕ) (r : Record) → find (λ (u : Record). u.id == id) (records_of d m) ≡ Some r → list_any (λ i. i == id) (ids_of d m) ≡ true
found-there d m id r is = any-found id (records_of d m) ∙ ap is_some is

pub found-slots : (d : Database) (m id : ℕ) (r : Record) → find (λ (u : Record). u.id == id) (records_of d m) ≡ Some r → slots_of d m id ≡ r.slots
found-slots d m id r is = ap (λ o. option_map_or (λ (u : Record). u.slots) o []) is

-- the record that a principal is, if it is there
module _ (d : Database) (m n id : ℕ) (who : Principal) (is : who ≡ Rec n id) (same : n ≡ m) where
  pub record-there : (o : Option (Bor code_record.Record)) → option_map record_data (option_copied o) ≡ find (λ (u : Record). u.id == id) (records_of d m)
      → IfSome (option_copied o) (λ r. (is_among m (ids_of d m) who ≡ true) × (slots_of d m (id_of_record who) ≡ map slot_data r.slots))
  record-there None found = tt
  record-there (Some r) found =
      let P : Principal → Type 0 = λ q. (is_among m (ids_of d m) q ≡ true) × (slots_of d m (id_of_record q) ≡ map slot_data r.now.slots) in
      subst P (sym is) (
        ap (λ b. b && list_any (λ i. i == id) (ids_of d m)) (eq-eqb n m same) ∙ found-there d m id (record_data r.now) (sym found),
        found-slots d m id (record_data r.now) (sym found),
      )

  pub record-missing : (o : Option (Bor code_record.Record)) → option_map record_data (option_copied o) ≡ find (λ (u : Record). u.id == id) (records_of d m)
      → IfNone o (is_among m (ids_of d m) who ≡ false)
  record-missing None found =
      ap (is_among m (ids_of d m)) is ∙ ap (λ b. b && list_any (λ i. i == id) (ids_of d m)) (eq-eqb n m same) ∙ any-found id (records_of d m) ∙ ap is_some (sym found)
  record-missing (Some r) found = tt

-- ---- those of the ids that pass

each-there : (xs all : List ℕ) → ((y : ℕ) → list_any (λ i. i == y) xs ≡ true → list_any (λ i. i == y) all ≡ true) → AllByRecursion (λ y. list_any (λ i. i == y) all ≡ true) xs
each-there [] all more = tt
each-there (x ∷ xs) all more = (
  more x (ap (λ b. b || list_any (λ i. i == x) xs) (eq-eqb x x refl)),
  each-there xs all (λ y there. more y (or-right (x == y) (list_any (λ i. i == y) xs) there)),
)
  where
    or-right : (a b : Bool) → b ≡ true → (a || b) ≡ true
    or-right true b h = refl
    or-right false b h = h

filters-agree : (p q : ℕ → Bool) (xs : List ℕ) → AllByRecursion (λ y. p y ≡ q y) xs → filter p xs ≡ filter q xs
filters-agree p q [] same = refl
filters-agree p q (x ∷ xs) same = ap (λ b. cond b (x ∷ filter p xs) (filter p xs)) same.0 ∙ ap (λ ys. cond (q x) (x ∷ ys) ys) (filters-agree p q xs same.1)

-- a filter of those that another keeps, where it keeps fewer
narrowed : (p q : ℕ → Bool) → ((y : ℕ) → p y ≡ true → q y ≡ true) → (xs : List ℕ) → filter p (filter q xs) ≡ filter p xs
narrowed p q fewer [] = refl
narrowed p q fewer (x ∷ xs) =
    elim (q x) as (λ (b : Bool). q x ≡ b → filter p (cond b (x ∷ filter q xs) (filter q xs)) ≡ cond (p x) (x ∷ filter p xs) (filter p xs)) [
      | true ↦ λ is. ap (λ ys. cond (p x) (x ∷ ys) ys) (narrowed p q fewer xs)
      | false ↦ λ is.
          elim (p x) as (λ (b : Bool). p x ≡ b → filter p (filter q xs) ≡ cond b (x ∷ filter p xs) (filter p xs)) [
            | true ↦ λ passes. let h = fewer x passes in cc
            | false ↦ λ passes. narrowed p q fewer xs
          ] refl
    ] refl

module _ (d : Database) (m : ℕ) (tests : List Test) where
  abbrev passes_by : ℕ → Bool
  passes_by y = list_all (passes_in (slots_of d m y)) tests

  abbrev passes_where : code_record.Record → Bool
  passes_where r = list_all (passes_in (map slot_data r.slots)) tests

  slots-agree : (all rs : List code_record.Record) → map record_data all ≡ records_of d m → AllByRecursion (λ (r : code_record.Record). find (id_is r.id) all ≡ Some r) rs
      → AllByRecursion (λ (r : code_record.Record). passes_by r.id ≡ passes_where r) rs
  slots-agree all [] same found = tt
  slots-agree all (r ∷ rs) same found =
      let here : find (λ (u : Record). u.id == r.id) (records_of d m) ≡ Some (record_data r)
      = ap (find (λ (u : Record). u.id == r.id)) (sym same) ∙ find-seen (λ (u : Record). u.id == r.id) record_data all ∙ ap (option_map record_data) found.0 in
      (ap (λ slots. list_all (passes_in slots) tests) (found-slots d m r.id (record_data r) here), slots-agree all rs same found.1)

  -- the ids of the records that pass are the ids whose records pass
  pub passing-ids : {T E : Type 0} (items : T → List ℕ) (rs : List code_record.Record) (r : Result T E) → map record_data rs ≡ records_of d m → IsStrictlyIncreasing (ids_by rs)
      → IfOk r (λ t. items t ≡ map (λ (u : code_record.Record). u.id) (filter passes_where rs)) → IfOk r (λ t. items t ≡ filter passes_by (ids_of d m))
  passing-ids items rs (Ok t) same up h =
      let ids : map (λ (r : code_record.Record). r.id) rs ≡ ids_of d m = sym (ids-seen rs) ∙ ap (map (λ (r : Record). r.id)) same in
      h ∙ filtered-ids passes_where passes_by rs (slots-agree rs rs same (each-found rs (sorted_from_strictly_increasing (ids_by rs) up))) ∙ ap (filter passes_by) ids
  passing-ids items rs (Err e) same up h = tt

  -- those that pass, among ids of records that hold an id which the tests ask for
  pub passing-among : {T E : Type 0} (items : T → List ℕ) (q : ℕ → Bool) (among : List ℕ) (r : Result T E) → ((y : ℕ) → passes_by y ≡ true → q y ≡ true)
      → among ≡ filter q (ids_of d m) → IfOk r (λ t. items t ≡ filter passes_by among) → IfOk r (λ t. items t ≡ filter passes_by (ids_of d m))
  passing-among items q among (Ok t) asked is h = h ∙ ap (filter passes_by) is ∙ narrowed passes_by q asked (ids_of d m)
  passing-among items q among (Err e) asked is h = tt

module _ (d : Database) (env : Env) (m : ℕ) (tests : List Test) (filters : Filters)
    (told : (k id : ℕ) → meets d env k filters id ≡ list_all (passes_in (slots_of d k id)) tests) where
  agrees : (xs : List ℕ) → AllByRecursion (λ y. list_any (λ i. i == y) (ids_of d m) ≡ true) xs
      → AllByRecursion (λ y. passes_by d m tests y ≡ member d env (trees.find m filters) (Rec m y)) xs
  agrees [] there = tt
  agrees (y ∷ xs) there = (
    sym (
        ap (λ b. (b && list_any (λ i. i == y) (ids_of d m)) && meets d env m filters y) (eq-eqb m m refl)
        ∙ ap (λ b. b && meets d env m filters y) there.0
        ∙ told m y
        ),
    agrees xs there.1,
  )

  pub within-found : (set : TSet) (found : List ℕ) → set_of set ≡ trees.find m filters → found ≡ filter (passes_by d m tests) (ids_of d m)
      → found ≡ filter (λ y. member d env (set_of set) (Rec m y)) (ids_of d m)
  within-found set found is h =
      h ∙ filters-agree (passes_by d m tests) (λ y. member d env (trees.find m filters) (Rec m y)) (ids_of d m) (agrees (ids_of d m) (each-there (ids_of d m) (ids_of d m) (λ y there. there)))
      ∙ ap (λ u. filter (λ y. member d env u (Rec m y)) (ids_of d m)) (sym is)

  -- the principal is a record that is there
  pub holds-found : (set : TSet) (who : Principal) (b : Bool) (slots : List Slot) → set_of set ≡ trees.find m filters → is_among m (ids_of d m) who ≡ true
      → slots_of d m (id_of_record who) ≡ slots → b ≡ list_all (passes_in slots) tests → b ≡ member d env (set_of set) who
  holds-found set who b slots is there same h =
      h ∙ ap (λ us. list_all (passes_in us) tests) (sym same) ∙ sym (told m (id_of_record who)) ∙ ap (λ t. t && meets d env m filters (id_of_record who)) (sym there)
      ∙ ap (λ u. member d env u who) (sym is)

-- the ids of the records that pass the tests of a search
pub searched : {T E : Type 0} (items : T → List ℕ) (d : Database) (env : Env) (m n : ℕ) (set : TSet) (filters these : List TFilter) (tests those : List Test) (r : Result T E)
    → set ≡ s.Find n filters → n ≡ m → these ≡ filters → those ≡ tests
    → ((k id : ℕ) → meets d env k (filters_of (map filter_of these)) id ≡ list_all (passes_in (slots_of d k id)) tests)
    → IfOk r (λ t. items t ≡ filter (λ y. list_all (passes_in (slots_of d m y)) those) (ids_of d m))
    → IfOk r (λ t. items t ≡ filter (λ y. member d env (set_of set) (Rec m y)) (ids_of d m))
searched items d env m n set filters these tests those (Ok t) is same same_filters same_tests told h =
    let found : set_of set ≡ trees.find m (filters_of (map filter_of these))
    = ap set_of is ∙ Find_is n filters ∙ ap (λ k. trees.find k (filters_of (map filter_of filters))) same
    ∙ ap (λ fs. trees.find m (filters_of (map filter_of fs))) (sym same_filters) in
    within-found d env m tests (filters_of (map filter_of these)) told set (items t) found
    (h ∙ ap (λ ts. filter (λ y. list_all (passes_in (slots_of d m y)) ts) (ids_of d m)) same_tests)
searched items d env m n set filters these tests those (Err e) is same same_filters same_tests told h = tt

-- a filter of the code in front of others, by its parts
abbrev HasParts : FiltersMore → Type 0
HasParts more = more ≡ filter_and (first_field (more no_filters)) (first_op (more no_filters)) (first_value (more no_filters))

level-parts : (level : TFilter-F Expr FiltersMore ItemsMore SetExpr) → HasParts (filter_step level)
level-parts (TFilter-F.Test f op e) = refl

filter-parts : (filter : TFilter) → HasParts (filter_of filter)
filter-parts filter = subst HasParts (sym (fold_out-TFilter Expr FiltersMore ItemsMore SetExpr expr_step filter_step item_step set_step filter)) (level-parts _)

-- one more test, for the filter that comes next
pub test-more : (d : Database) (env : Env) (filters : Filters) (tests : List Test) (left : List TFilter) (filter : TFilter) (rest : List TFilter) (test : Test)
    → ((m id : ℕ) → meets d env m filters id ≡ list_all (passes_in (slots_of d m id)) tests && meets d env m (filters_of (map filter_of left)) id)
    → left ≡ filter ∷ rest → test.field ≡ first_field (filter_of filter no_filters) → test.op ≡ first_op (filter_of filter no_filters)
    → value_data test.with ≡ value_of d env (first_value (filter_of filter no_filters))
    → (m id : ℕ) → meets d env m filters id
    ≡ list_all (passes_in (slots_of d m id)) (tests ++ test ∷ []) && meets d env m (filters_of (map filter_of rest)) id
test-more d env filters tests left filter rest test so_far next field op with m id =
    let more = filters_of (map filter_of rest) in
    let all = list_all (passes_in (slots_of d m id)) in
    let one : meets d env m (filter_of filter more) id ≡ passes_in (slots_of d m id) test && meets d env m more id
    = ap (λ (f : FiltersMore). meets d env m (f more) id) (filter-parts filter)
    ∙ ap (λ u. passes (first_op (filter_of filter no_filters)) (field_at d m id (first_field (filter_of filter no_filters))) u && meets d env m more id) (sym with)
    ∙ ap (λ f. passes (first_op (filter_of filter no_filters)) (field_at d m id f) (value_data test.with) && meets d env m more id) (sym field)
    ∙ ap (λ o. passes o (field_at d m id test.field) (value_data test.with) && meets d env m more id) (sym op) in
    so_far m id ∙ ap (λ fs. all tests && meets d env m (filters_of (map filter_of fs)) id) next ∙ ap (λ b. all tests && b) one
    ∙ all-more (passes_in (slots_of d m id)) tests test (meets d env m more id)
