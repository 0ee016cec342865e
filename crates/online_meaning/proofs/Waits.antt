-- The slow records of a database, and queues of them.
use Rattle.std.proofs.Common.{◌≡◌, ℕ, zero, suc, ◌<◌, Bool, true, false, not, ◌&&◌, ◌||◌, List, [], ◌∷◌, ◌++◌, refl, ap, sym, ◌∙◌, subst, arith, cond, map, drop, nat_eq}
use Rattle.std.specs.Prelude.{Some, is_some, ◌==◌, filter, if◌then◌else◌}
use Rattle.std.specs.List.{find, list_any, flat_map, AllByRecursion, IsDistinct}
use Rattle.std.specs.List.Sorted.{IsStrictlyIncreasing, IsStrictlySortedBy}
use Rattle.std.specs.Ordering.{nat_cmp}
use Rattle.std.specs.declared.cmp.Ordering.TheVariants.{Less}
use Rattle.std.proofs.lemmas.Bool.{eqb-true, eq-eqb, ne_eqb, false≢true, false_from_ne_true}
use Rattle.std.proofs.lemmas.Bool.Decides.{nat_tests}
use Rattle.std.proofs.lemmas.Map.Keys.{sorted_from_strictly_increasing}
use Rattle.type_schema.specs.Schema.{ModelInfo, Schema}
use Rattle.type_schema.specs.Typing.{HasModel}
use Rattle.type_schema.specs.Proper.{IsProper, model_numbers}
use Rattle.type_schema.specs.Script.{Script, schema_at, IsScript}
use Rattle.data_meaning.specs.Database.{Database, ids_of, has_record, IsDatabase}
use Rattle.data_meaning.proofs.Carried.{all-of, all-append}
use Rattle.data_meaning.proofs.Tests.{and-left, and-right}
use Rattle.online_meaning.specs.Marks.{RecordId, same_record, is_among, is_slow, slow_records, marked}
use Rattle.online_meaning.proofs.Queues.{any-append}
use Rattle.online_meaning.proofs.Ranges.{every, flat-same, none-passes}
use Rattle.online_meaning.proofs.Settled.{ids-rise}

-- ---- lists

pub all-filter : {A : Type 0} (P : A → Type 0) (keep : A → Bool) (xs : List A) → AllByRecursion P xs → AllByRecursion P (filter keep xs)
all-filter P keep [] all = tt
all-filter P keep (x ∷ xs) all =
    elim (keep x) as (λ (b : Bool). AllByRecursion P (cond b (x ∷ filter keep xs) (filter keep xs))) [ true ↦ (all.0, all-filter P keep xs all.1) | false ↦ all-filter P keep xs all.1 ]

-- what is kept passes
pub all-kept : {A : Type 0} (P : A → Type 0) (keep : A → Bool) (xs : List A) → ((x : A) → keep x ≡ true → P x) → AllByRecursion P (filter keep xs)
all-kept P keep [] good = tt
all-kept P keep (x ∷ xs) good =
    elim (keep x) as (λ (b : Bool). keep x ≡ b → AllByRecursion P (cond b (x ∷ filter keep xs) (filter keep xs))) [
      | true ↦ λ kept. (good x kept, all-kept P keep xs good)
      | false ↦ λ left. all-kept P keep xs good
    ] refl

pub all-drop : {A : Type 0} (P : A → Type 0) (n : ℕ) (xs : List A) → AllByRecursion P xs → AllByRecursion P (drop n xs)
all-drop P zero [] all = tt
all-drop P (suc n) [] all = tt
all-drop P zero (x ∷ xs) all = all
all-drop P (suc n) (x ∷ xs) all = all-drop P n xs all.1

pub both-pass : {A : Type 0} (P Q : A → Type 0) (xs : List A) → AllByRecursion P xs → AllByRecursion Q xs → AllByRecursion (λ x. P x × Q x) xs
both-pass P Q [] p q = tt
both-pass P Q (x ∷ xs) p q = ((p.0, q.0), both-pass P Q xs p.1 q.1)

pub same-self : (r : RecordId) → same_record r r ≡ true
same-self r = ap (λ b. b && (r.id == r.id)) (eq-eqb r.model r.model refl) ∙ eq-eqb r.id r.id refl

or-last : (a b : Bool) → b ≡ true → (a || b) ≡ true
or-last true b h = refl
or-last false b h = h

-- each of a list is among it
pub all-among : (xs : List RecordId) → AllByRecursion (λ q. is_among q xs ≡ true) xs
all-among [] = tt
all-among (x ∷ xs) =
    (ap (λ b. b || is_among x xs) (same-self x), all-of (λ q. is_among q xs ≡ true) (λ q. is_among q (x ∷ xs) ≡ true) (λ q h. or-last (same_record q x) (is_among q xs) h) xs (all-among xs))

-- ---- no record twice

pub once-filter : (keep : RecordId → Bool) (xs : List RecordId) → IsDistinct same_record xs → IsDistinct same_record (filter keep xs)
unfolding IsDistinct
once-filter keep [] once = once
once-filter keep (x ∷ xs) once =
    elim (keep x) as (λ (b : Bool). IsDistinct same_record (cond b (x ∷ filter keep xs) (filter keep xs))) [
      | true ↦ (all-filter (λ y. same_record x y ≡ false) keep xs once.0, once-filter keep xs once.1)
      | false ↦ once-filter keep xs once.1
    ]

pub once-drop : (n : ℕ) (xs : List RecordId) → IsDistinct same_record xs → IsDistinct same_record (drop n xs)
unfolding IsDistinct
once-drop zero [] once = once
once-drop (suc n) [] once = once
once-drop zero (x ∷ xs) once = once
once-drop (suc n) (x ∷ xs) once = once-drop n xs once.1

pub once-append : (xs ys : List RecordId) → IsDistinct same_record xs → IsDistinct same_record ys → AllByRecursion (λ x. is_among x ys ≡ false) xs → IsDistinct same_record (xs ++ ys)
unfolding IsDistinct
once-append [] ys once once' apart = once'
once-append (x ∷ xs) ys once once' apart =
    (all-append (λ y. same_record x y ≡ false) xs ys once.0 (none-passes (same_record x) ys apart.0), once-append xs ys once.1 once' apart.1)

-- the queue once records are marked
pub once-marked : (records queue : List RecordId) → IsDistinct same_record records → IsDistinct same_record queue → IsDistinct same_record (marked records queue)
once-marked records queue once once' =
    once-append (filter (λ q. not (is_among q records)) queue) records (once-filter (λ q. not (is_among q records)) queue once') once
    (all-kept (λ x. is_among x records ≡ false) (λ q. not (is_among q records)) queue (λ x kept. turned (is_among x records) kept))
  where
    turned : (b : Bool) → not b ≡ true → b ≡ false
    turned true h = absurd (false≢true h)
    turned false h = refl

-- ---- rising ids

is-less : (a b : ℕ) → nat_cmp a b ≡ Less → a < b
is-less a b less = grind (arith, nat_tests)

differs : (a b : ℕ) → nat_cmp a b ≡ Less → nat_eq a b ≡ false
differs a b less = ne_eqb a b (λ same. let l : a < b = is-less a b less in absurd (omega arith))

once-sorted : (xs : List ℕ) → IsStrictlySortedBy nat_cmp xs → IsDistinct nat_eq xs
unfolding IsDistinct IsStrictlySortedBy
once-sorted [] up = tt
once-sorted (x ∷ xs) up = (all-of (λ y. nat_cmp x y ≡ Less) (λ y. nat_eq x y ≡ false) (λ y less. differs x y less) xs up.0, once-sorted xs up.1)

pub rising-once : (ids : List ℕ) → IsStrictlyIncreasing ids → IsDistinct nat_eq ids
rising-once ids up = once-sorted ids (sorted_from_strictly_increasing ids up)

once-nil : IsDistinct same_record []
unfolding IsDistinct
once-nil = tt

last-false : (a b : Bool) → b ≡ false → (a && b) ≡ false
last-false true b h = h
last-false false b h = refl

none-of : (n : ℕ) (ms : List ℕ) → AllByRecursion (λ m. nat_eq n m ≡ false) ms → list_any (λ (m : ℕ). n == m) ms ≡ false
none-of n [] all = refl
none-of n (m ∷ ms) all = ap (λ b. b || list_any (λ (k : ℕ). n == k) ms) all.0 ∙ none-of n ms all.1

-- ---- slow records

abbrev pub named : ℕ → ℕ → RecordId
named m i = record { model = m; id = i }

ids-among : (r : RecordId) (m : ℕ) (ids : List ℕ) → is_among r (map (named m) ids) ≡ true → (r.model ≡ m) × (list_any (λ i. i == r.id) ids ≡ true)
ids-among r m [] h = absurd (false≢true h)
ids-among r m (i ∷ ids) h =
    elim (same_record r (named m i)) as (λ (b : Bool). same_record r (named m i) ≡ b → (b || is_among r (map (named m) ids)) ≡ true → (r.model ≡ m) × (((i == r.id) || list_any (λ j. j == r.id) ids) ≡ true)) [
      | true ↦ λ same k.
          (eqb-true r.model m (and-left _ _ same), ap (λ b. b || list_any (λ j. j == r.id) ids) (eq-eqb i r.id (sym (eqb-true r.id i (and-right (r.model == m) _ same)))))
      | false ↦ λ other k. let rest = ids-among r m ids k in (rest.0, or-last (i == r.id) (list_any (λ j. j == r.id) ids) rest.1)
    ] refl h

module _ (t : Script) (d : Database) where
  abbrev pub of-model : ModelInfo → List RecordId
  of-model info = if is_slow t info.number then map (named info.number) (ids_of d info.number) else []

  one-model : (r : RecordId) (info : ModelInfo) → is_among r (of-model info) ≡ true → (r.model ≡ info.number) × (is_slow t r.model ≡ true) × (has_record d r.model r.id ≡ true)
  one-model r info h =
      elim (is_slow t info.number) as (λ (b : Bool). is_slow t info.number ≡ b → is_among r (if b then map (named info.number) (ids_of d info.number) else []) ≡ true
      → (r.model ≡ info.number) × (is_slow t r.model ≡ true) × (has_record d r.model r.id ≡ true)) [
        | true ↦ λ slow k.
            let both = ids-among r info.number (ids_of d info.number) k in
            (both.0, ap (is_slow t) both.0 ∙ slow, subst (λ (m : ℕ). has_record d m r.id ≡ true) (sym both.0) both.1)
        | false ↦ λ fast k. absurd (false≢true k)
      ] refl h

  in-models : (r : RecordId) (infos : List ModelInfo) → is_among r (flat_map of-model infos) ≡ true
      → (list_any (λ (m : ℕ). r.model == m) (model_numbers infos) ≡ true) × (is_slow t r.model ≡ true) × (has_record d r.model r.id ≡ true)
  in-models r [] h = absurd (false≢true h)
  in-models r (info ∷ infos) h =
      elim (is_among r (of-model info)) as (λ (b : Bool). is_among r (of-model info) ≡ b → (b || is_among r (flat_map of-model infos)) ≡ true
      → (((r.model == info.number) || list_any (λ (m : ℕ). r.model == m) (model_numbers infos)) ≡ true) × (is_slow t r.model ≡ true) × (has_record d r.model r.id ≡ true)) [
        | true ↦ λ here k. let it = one-model r info here in (ap (λ b. b || list_any (λ (m : ℕ). r.model == m) (model_numbers infos)) (eq-eqb r.model info.number it.0), it.1, it.2)
        | false ↦ λ other k. let it = in-models r infos k in (or-last (r.model == info.number) _ it.0, it.1, it.2)
      ] refl (sym (any-append (same_record r) (of-model info) (flat_map of-model infos)) ∙ h)

  -- what a slow record is
  pub slow-is : (r : RecordId) → is_among r (slow_records t d) ≡ true → (is_slow t r.model ≡ true) × (has_record d r.model r.id ≡ true)
  slow-is r h = let it = in-models r (schema_at t 0).models h in (it.1, it.2)

  -- each once
  once-ids : (m : ℕ) (ids : List ℕ) → IsDistinct nat_eq ids → IsDistinct same_record (map (named m) ids)
  unfolding IsDistinct
  once-ids m [] once = tt
  once-ids m (i ∷ ids) once = (differ ids once.0, once-ids m ids once.1)
    where
      differ : (js : List ℕ) → AllByRecursion (λ j. nat_eq i j ≡ false) js → AllByRecursion (λ y. same_record (named m i) y ≡ false) (map (named m) js)
      differ [] all = tt
      differ (j ∷ js) all = (last-false (m == m) (i == j) all.0, differ js all.1)

  once-model : (s : Schema) → IsDatabase s d → (info : ModelInfo) → HasModel s info.number → IsDistinct same_record (of-model info)
  once-model s over info has =
      elim (is_slow t info.number) as (λ (b : Bool). IsDistinct same_record (if b then map (named info.number) (ids_of d info.number) else [])) [
        | true ↦ once-ids info.number (ids_of d info.number) (rising-once (ids_of d info.number) (ids-rise s d over info.number has))
        | false ↦ once-nil
      ]

  once-models : (s : Schema) → IsDatabase s d → (infos : List ModelInfo) → AllByRecursion (λ (info : ModelInfo). HasModel s info.number) infos → IsDistinct nat_eq (model_numbers infos)
      → IsDistinct same_record (flat_map of-model infos)
  unfolding IsDistinct
  once-models s over [] all once = tt
  once-models s over (info ∷ infos) all once =
      once-append (of-model info) (flat_map of-model infos) (once-model s over info all.0) (once-models s over infos all.1 once.1)
      (all-of (λ x. is_among x (of-model info) ≡ true) (λ x. is_among x (flat_map of-model infos) ≡ false) (λ x here. apart x here) (of-model info) (all-among (of-model info)))
    where
      apart : (x : RecordId) → is_among x (of-model info) ≡ true → is_among x (flat_map of-model infos) ≡ false
      apart x here =
          let it = one-model x info here in
          false_from_ne_true (is_among x (flat_map of-model infos)) (λ there.
          let again = in-models x infos there in
          false≢true (sym (none-of info.number (model_numbers infos) once.0) ∙ (ap (λ (n : ℕ). list_any (λ (m : ℕ). n == m) (model_numbers infos)) (sym it.0) ∙ again.0)))

found : {A : Type 0} (p : A → Bool) (xs : List A) → list_any p xs ≡ true → is_some (find p xs) ≡ true
found p [] h = h
found p (x ∷ xs) h =
    elim (p x) as (λ (b : Bool). (b || list_any p xs) ≡ true → is_some (cond b (Some x) (find p xs)) ≡ true) [ true ↦ λ k. refl | false ↦ λ k. found p xs k ] h

-- each model of a schema is one
pub all-models : (s : Schema) → AllByRecursion (λ (info : ModelInfo). HasModel s info.number) s.models
all-models s = each s.models (λ info there. found (λ (i : ModelInfo). i.number == info.number) s.models there)
  where
    each : (infos : List ModelInfo) → ((info : ModelInfo) → list_any (λ (i : ModelInfo). i.number == info.number) infos ≡ true → HasModel s info.number)
        → AllByRecursion (λ (info : ModelInfo). HasModel s info.number) infos
    each [] has = tt
    each (x ∷ xs) has = (
      has x (ap (λ b. b || list_any (λ (i : ModelInfo). i.number == x.number) xs) (eq-eqb x.number x.number refl)),
      each xs (λ info there. has info (or-last (x.number == info.number) (list_any (λ (i : ModelInfo). i.number == info.number) xs) there)),
    )

pub slow-once : (t : Script) → IsScript t → (d : Database) → IsDatabase (schema_at t 0) d → IsDistinct same_record (slow_records t d)
slow-once t is d over =
    let proper : IsProper (schema_at t 0) = is.proper 0 (omega arith) in
    once-models t d (schema_at t 0) over (schema_at t 0).models (all-models (schema_at t 0)) proper.models.distinct

-- databases with the same ids have the same slow records
pub slow-same : (t : Script) (d e : Database) → ((n : ℕ) → ids_of d n ≡ ids_of e n) → slow_records t d ≡ slow_records t e
slow-same t d e same =
    flat-same (of-model t d) (of-model t e) (schema_at t 0).models
    (every (λ (info : ModelInfo). of-model t d info ≡ of-model t e info) (λ info. ap (λ (ids : List ℕ). if is_slow t info.number then map (named info.number) ids else []) (same info.number)) (schema_at t 0).models)
