-- How often a switch evaluates an initialiser.
use Rattle.std.proofs.Common.{◌≡◌, ℕ, zero, suc, ◌+◌, Bool, true, false, ◌&&◌, ◌||◌, List, [], ◌∷◌, ◌++◌, refl, ap, sym, ◌∙◌, subst, arith, cond, map, take, length, nat_eq, add-zero}
use Rattle.std.specs.Prelude.{Option, None, Some, ◌==◌, filter, slice_get, count_by, option_and_then, if◌then◌else◌}
use Rattle.std.specs.List.{list_any, AllByRecursion, IsDistinct}
use Rattle.std.specs.Option.{option_map_or}
use Rattle.std.specs.Cmp.{nat_eq_equiv}
use Rattle.std.proofs.lemmas.Bool.{eqb-true, eq-eqb, ne_eqb, false≢true}
use Rattle.std.proofs.lemmas.List.Sums.{length-filter, sum_by-cons, sum_by_push}
use Rattle.std.proofs.lemmas.Map.Made.{length-from_same_keys}
use Rattle.type_schema.specs.Schema.{Added}
use Rattle.type_schema.specs.Commands.{Command, add_field}
use Rattle.type_schema.specs.Script.{Script, count, schema_at, command_at, IsScript}
use Rattle.data_meaning.specs.Database.{Database, ids_of, has_record}
use Rattle.data_meaning.specs.Run.{run_to, widened}
use Rattle.data_meaning.proofs.Tests.{and-left, and-right}
use Rattle.online_meaning.specs.Deep.{added_by, added_at}
use Rattle.online_meaning.specs.Marks.{RecordId, same_record, is_among, slow_records}
use Rattle.online_meaning.specs.Rollouts.{Rollout, is_marked, switched, added_count, evaluations, evaluated, IsRight, SwitchesEvaluateMarked}
use Rattle.online_meaning.proofs.Changed.{model-there}
use Rattle.online_meaning.proofs.Plain.{run-same-ids}
use Rattle.online_meaning.proofs.Settled.{ids-rise}
use Rattle.online_meaning.proofs.Switches.{adding, switch-is}
use Rattle.online_meaning.proofs.Waits.{rising-once, slow-is}

-- ---- numbers in lists

either-way : (a b : Bool) → (a ≡ true → b ≡ true) → (b ≡ true → a ≡ true) → a ≡ b
either-way true b to from = sym (to refl)
either-way false true to from = from refl
either-way false false to from = refl

or-last : (a b : Bool) → b ≡ true → (a || b) ≡ true
or-last true b h = refl
or-last false b h = h

kept-in : (p : ℕ → Bool) (i : ℕ) (xs : List ℕ) → list_any (nat_eq i) xs ≡ true → p i ≡ true → list_any (nat_eq i) (filter p xs) ≡ true
kept-in p i [] there passes = there
kept-in p i (x ∷ xs) there passes =
    elim (nat_eq i x) as (λ (b : Bool). nat_eq i x ≡ b → (b || list_any (nat_eq i) xs) ≡ true → list_any (nat_eq i) (cond (p x) (x ∷ filter p xs) (filter p xs)) ≡ true) [
      | true ↦ λ is h.
          ap (λ b. list_any (nat_eq i) (cond b (x ∷ filter p xs) (filter p xs))) (ap p (sym (eqb-true i x is)) ∙ passes) ∙ ap (λ b. b || list_any (nat_eq i) (filter p xs)) is
      | false ↦ λ other h.
          elim (p x) as (λ (b : Bool). list_any (nat_eq i) (cond b (x ∷ filter p xs) (filter p xs)) ≡ true) [
            | true ↦ or-last (nat_eq i x) (list_any (nat_eq i) (filter p xs)) (kept-in p i xs h passes)
            | false ↦ kept-in p i xs h passes
          ]
    ] refl there

passes-in : (p : ℕ → Bool) (i : ℕ) (xs : List ℕ) → list_any (nat_eq i) (filter p xs) ≡ true → p i ≡ true
passes-in p i [] there = absurd (false≢true there)
passes-in p i (x ∷ xs) there =
    elim (p x) as (λ (b : Bool). p x ≡ b → list_any (nat_eq i) (cond b (x ∷ filter p xs) (filter p xs)) ≡ true → p i ≡ true) [
      | true ↦ λ yes h.
          elim (nat_eq i x) as (λ (b : Bool). nat_eq i x ≡ b → (b || list_any (nat_eq i) (filter p xs)) ≡ true → p i ≡ true) [
            | true ↦ λ is k. ap p (eqb-true i x is) ∙ yes
            | false ↦ λ other k. passes-in p i xs k
          ] refl h
      | false ↦ λ no h. passes-in p i xs h
    ] refl there

once-kept : (p : ℕ → Bool) (xs : List ℕ) → IsDistinct nat_eq xs → IsDistinct nat_eq (filter p xs)
unfolding IsDistinct
once-kept p [] once = once
once-kept p (x ∷ xs) once =
    elim (p x) as (λ (b : Bool). IsDistinct nat_eq (cond b (x ∷ filter p xs) (filter p xs))) [
      | true ↦ (all-filter (λ y. nat_eq x y ≡ false) p xs once.0, once-kept p xs once.1)
      | false ↦ once-kept p xs once.1
    ]
  where
    all-filter : (P : ℕ → Type 0) (keep : ℕ → Bool) (ys : List ℕ) → AllByRecursion P ys → AllByRecursion P (filter keep ys)
    all-filter P keep [] all = tt
    all-filter P keep (y ∷ ys) all =
        elim (keep y) as (λ (b : Bool). AllByRecursion P (cond b (y ∷ filter keep ys) (filter keep ys))) [ true ↦ (all.0, all-filter P keep ys all.1) | false ↦ all-filter P keep ys all.1 ]

-- ---- the marked records of a model

abbrev of : ℕ → RecordId → Bool
of n q = q.model == n

abbrev ids-of-model : ℕ → List RecordId → List ℕ
ids-of-model n queue = map (λ (q : RecordId). q.id) (filter (of n) queue)

in-ids : (n i : ℕ) (queue : List RecordId) → is_among (record { model = n; id = i }) queue ≡ list_any (nat_eq i) (ids-of-model n queue)
in-ids n i [] = refl
in-ids n i (q ∷ queue) =
    elim (q.model == n) as (λ (b : Bool). (q.model == n) ≡ b → (((n == q.model) && (i == q.id)) || is_among (record { model = n; id = i }) queue)
    ≡ list_any (nat_eq i) (map (λ (u : RecordId). u.id) (cond b (q ∷ filter (of n) queue) (filter (of n) queue)))) [
      | true ↦ λ own.
          ap (λ b. (b && (i == q.id)) || is_among (record { model = n; id = i }) queue) (eq-eqb n q.model (sym (eqb-true q.model n own)))
          ∙ ap (λ b. (i == q.id) || b) (in-ids n i queue)
      | false ↦ λ other.
          ap (λ b. (b && (i == q.id)) || is_among (record { model = n; id = i }) queue) (ne_eqb n q.model (λ e. false≢true (sym other ∙ eq-eqb q.model n (sym e))))
          ∙ in-ids n i queue
    ] refl

once-ids : (n : ℕ) (queue : List RecordId) → IsDistinct same_record queue → IsDistinct nat_eq (ids-of-model n queue)
unfolding IsDistinct
once-ids n [] once = tt
once-ids n (q ∷ queue) once =
    elim (q.model == n) as (λ (b : Bool). (q.model == n) ≡ b → IsDistinct nat_eq (map (λ (u : RecordId). u.id) (cond b (q ∷ filter (of n) queue) (filter (of n) queue)))) [
      | true ↦ λ own. (differ own queue once.0, once-ids n queue once.1)
      | false ↦ λ other. once-ids n queue once.1
    ] refl
  where
    differ : (q.model == n) ≡ true → (us : List RecordId) → AllByRecursion (λ u. same_record q u ≡ false) us → AllByRecursion (λ i. nat_eq q.id i ≡ false) (ids-of-model n us)
    differ own [] all = tt
    differ own (u ∷ us) all =
        elim (u.model == n) as (λ (b : Bool). (u.model == n) ≡ b → AllByRecursion (λ i. nat_eq q.id i ≡ false) (map (λ (w : RecordId). w.id) (cond b (u ∷ filter (of n) us) (filter (of n) us)))) [
          | true ↦ λ its.
              let same : (q.model == u.model) ≡ true = eq-eqb q.model u.model (eqb-true q.model n own ∙ sym (eqb-true u.model n its)) in
              (sym (ap (λ b. b && (q.id == u.id)) same) ∙ all.0, differ own us all.1)
          | false ↦ λ other. differ own us all.1
        ] refl

map-length : (qs : List RecordId) → length (map (λ (q : RecordId). q.id) qs) ≡ length qs
map-length [] = refl
map-length (q ∷ qs) = ap suc (map-length qs)

once-none : IsDistinct nat_eq []
unfolding IsDistinct
once-none = tt

turn : (a b : ℕ) → nat_eq a b ≡ nat_eq b a
turn a b = either-way (nat_eq a b) (nat_eq b a) (λ h. eq-eqb b a (sym (eqb-true a b h))) (λ h. eq-eqb a b (sym (eqb-true b a h)))

-- ---- by commands, and by records

take-full : {A : Type 0} (xs : List A) → take (length xs) xs ≡ xs
take-full [] = refl
take-full (x ∷ xs) = ap (λ ys. x ∷ ys) (take-full xs)

take-next : {A : Type 0} (xs : List A) (i : ℕ) (x : A) → slice_get xs i ≡ Some x → take (suc i) xs ≡ take i xs ++ x ∷ []
take-next [] i x at = cc
take-next (y ∷ ys) zero x at = let same : y ≡ x = cc in ap (λ z. z ∷ []) same
take-next (y ∷ ys) (suc i) x at = ap (λ zs. y ∷ zs) (take-next ys i x at)

take-none : {A : Type 0} (xs : List A) (i : ℕ) → slice_get xs i ≡ None → take (suc i) xs ≡ take i xs
take-none [] zero at = refl
take-none [] (suc i) at = refl
take-none (y ∷ ys) zero at = cc
take-none (y ∷ ys) (suc i) at = ap (λ zs. y ∷ zs) (take-none ys i at)

abbrev counted : Option Added → List RecordId → ℕ
counted o queue = option_map_or (λ (a : Added). count_by (of a.model) queue) o 0

abbrev adds : ℕ → Command → Bool
adds m c = option_map_or (λ (a : Added). a.model == m) (added_by c) false

abbrev one-if : ℕ → Option Added → ℕ
one-if m o = option_map_or (λ (a : Added). cond (a.model == m) 1 0) o 0

module _ (t : Script) where
  abbrev each : ℕ → List RecordId → ℕ
  each zero queue = 0
  each (suc k) queue = each k queue + counted (added_at t k) queue

  abbrev fields : ℕ → ℕ → ℕ
  fields zero m = 0
  fields (suc k) m = fields k m + one-if m (added_at t k)

  none-each : (k : ℕ) → each k [] ≡ 0
  none-each zero = refl
  none-each (suc k) = let before = none-each k in let now = none-counted (added_at t k) in omega (arith, before, now)
    where
      none-counted : (o : Option Added) → counted o [] ≡ 0
      none-counted None = refl
      none-counted (Some a) = refl

  one-each : (k : ℕ) (q : RecordId) (queue : List RecordId) → each k (q ∷ queue) ≡ fields k q.model + each k queue
  one-each zero q queue = refl
  one-each (suc k) q queue = let before = one-each k q queue in let now = one-counted (added_at t k) in omega (arith, before, now)
    where
      one-counted : (o : Option Added) → counted o (q ∷ queue) ≡ one-if q.model o + counted o queue
      one-counted None = refl
      one-counted (Some a) =
          sum_by-cons (λ (u : RecordId). cond (u.model == a.model) 1 0) q queue ∙ ap (λ b. cond b 1 0 + count_by (of a.model) queue) (turn q.model a.model)

  fields-first : (m k : ℕ) → fields k m ≡ count_by (adds m) (take k t.commands)
  fields-first m zero = sym (none-taken t.commands)
    where
      none-taken : (cs : List Command) → count_by (adds m) (take 0 cs) ≡ 0
      none-taken [] = refl
      none-taken (c ∷ cs) = refl
  fields-first m (suc k) = next (command_at t k) refl (fields-first m k)
    where
      one : (o : Option Added) → one-if m o ≡ cond (option_map_or (λ (a : Added). a.model == m) o false) 1 0
      one None = refl
      one (Some a) = refl

      next : (o : Option Command) → command_at t k ≡ o → fields k m ≡ count_by (adds m) (take k t.commands)
          → fields k m + one-if m (option_and_then added_by o) ≡ count_by (adds m) (take (suc k) t.commands)
      next None here before = add-zero (fields k m) ∙ (before ∙ ap (count_by (adds m)) (sym (take-none t.commands k here)))
      next (Some c) here before =
          ap (λ n. n + one-if m (added_by c)) before ∙ (ap (λ n. count_by (adds m) (take k t.commands) + n) (one (added_by c))
          ∙ (sym (sum_by_push (λ (u : Command). cond (adds m u) 1 0) (take k t.commands) c) ∙ ap (count_by (adds m)) (sym (take-next t.commands k c here))))

  all-fields : (m : ℕ) → fields (count t) m ≡ added_count t m
  all-fields m = fields-first m (count t) ∙ ap (count_by (adds m)) (take-full t.commands)

  in-all : (queue : List RecordId) → each (count t) queue ≡ evaluations t queue
  in-all [] = none-each (count t)
  in-all (q ∷ queue) =
      one-each (count t) q queue ∙ (ap (λ n. n + each (count t) queue) (all-fields q.model) ∙ (ap (λ n. added_count t q.model + n) (in-all queue)
      ∙ sym (sum_by-cons (λ (u : RecordId). added_count t u.model) q queue)))

module _ (t : Script) (is : IsScript t) (r : Rollout) (right : IsRight t r) where
  abbrev d : Database
  d = r.database

  -- a marked record of the model is one of its records
  is-there : (n i : ℕ) → (queue : List RecordId) → AllByRecursion (λ q. is_among q (slow_records t d) ≡ true) queue → is_among (record { model = n; id = i }) queue ≡ true → has_record d n i ≡ true
  is-there n i [] all there = absurd (false≢true there)
  is-there n i (q ∷ queue) all there =
      elim ((n == q.model) && (i == q.id)) as (λ (b : Bool). ((n == q.model) && (i == q.id)) ≡ b → (b || is_among (record { model = n; id = i }) queue) ≡ true → has_record d n i ≡ true) [
        | true ↦ λ same h.
            let it = (slow-is t d q all.0).1 in
            ap (λ (m : ℕ). has_record d m i) (eqb-true n q.model (and-left _ _ same)) ∙ (ap (λ (j : ℕ). has_record d q.model j) (eqb-true i q.id (and-right (n == q.model) _ same)) ∙ it)
        | false ↦ λ other h. is-there n i queue all.1 h
      ] refl there

  other-way : (i : ℕ) (xs : List ℕ) → list_any (λ j. j == i) xs ≡ list_any (nat_eq i) xs
  other-way i [] = refl
  other-way i (x ∷ xs) = ap (λ b. b || list_any (λ j. j == i) xs) (turn x i) ∙ ap (λ b. nat_eq i x || b) (other-way i xs)

  once-all : (n : ℕ) → IsDistinct nat_eq (ids_of d n)
  once-all n = of-list (ids_of d n) refl
    where
      of-list : (ids : List ℕ) → ids_of d n ≡ ids → IsDistinct nat_eq (ids_of d n)
      of-list [] e = subst (λ (xs : List ℕ). IsDistinct nat_eq xs) (sym e) once-none
      of-list (i ∷ ids) e =
          let there : has_record d n i ≡ true = ap (λ (xs : List ℕ). list_any (λ j. j == i) xs) e ∙ ap (λ b. b || list_any (λ j. j == i) ids) (eq-eqb i i refl) in
          rising-once (ids_of d n) (ids-rise (schema_at t 0) d right.over n (model-there (schema_at t 0) d right.only n i there))

  -- as many of its records are marked as marked records are of it
  same-count : (n : ℕ) → length (filter (λ id. is_marked r n id) (ids_of d n)) ≡ length (ids-of-model n r.queue)
  same-count n =
      length-from_same_keys nat_eq_equiv (filter (λ id. is_marked r n id) (ids_of d n)) (ids-of-model n r.queue) (once-kept (λ id. is_marked r n id) (ids_of d n) (once-all n))
      (once-ids n r.queue right.once)
      (λ i.
      either-way (list_any (nat_eq i) (filter (λ id. is_marked r n id) (ids_of d n))) (list_any (nat_eq i) (ids-of-model n r.queue))
      (λ h. sym (in-ids n i r.queue) ∙ passes-in (λ id. is_marked r n id) i (ids_of d n) h)
      (λ h.
      let marked : is_marked r n i ≡ true = in-ids n i r.queue ∙ h in
      kept-in (λ id. is_marked r n id) i (ids_of d n) (sym (other-way i (ids_of d n)) ∙ is-there n i r.queue right.slow marked) marked))

  of-model : (k : ℕ) (a : Added) → added_at t k ≡ Some a → count_by (λ id. is_marked r a.model id) (ids_of (switched t r k) a.model) ≡ count_by (of a.model) r.queue
  of-model k a here =
      let add = adding t k a here in
      let asked = is.commands k (add_field a.model add.field a.init) add.here in
      let run : switched t r k ≡ run_to t k (widened t d) = switch-is t is r right k (omega (arith, add.within)) in
      let ids : ids_of (switched t r k) a.model ≡ ids_of d a.model
      = ap (λ (u : Database). ids_of u a.model) run ∙ run-same-ids t is d right.over right.only k (omega (arith, add.within)) a.model asked.0 in
      let n = a.model in
      let p : ℕ → Bool = λ id. is_marked r n id in
      ap (count_by p) ids
      ∙ (sym (length-filter p (ids_of d n)) ∙ (same-count n ∙ (map-length (filter (of n) r.queue) ∙ length-filter (of n) r.queue)))

  by-model : (k : ℕ) → evaluated t r k ≡ each t k r.queue
  by-model zero = refl
  by-model (suc k) =
      ap (λ n. n + option_map_or (λ (a : Added). count_by (λ id. is_marked r a.model id) (ids_of (switched t r k) a.model)) (added_at t k) 0) (by-model k)
      ∙ ap (λ n. each t k r.queue + n) (last (added_at t k) refl)
    where
      last : (o : Option Added) → added_at t k ≡ o → option_map_or (λ (a : Added). count_by (λ id. is_marked r a.model id) (ids_of (switched t r k) a.model)) o 0 ≡ counted o r.queue
      last None here = refl
      last (Some a) here = of-model k a here

pub switches_evaluate_marked : SwitchesEvaluateMarked
switches_evaluate_marked t is r right = by-model t is r right (count t) ∙ in-all t r.queue
