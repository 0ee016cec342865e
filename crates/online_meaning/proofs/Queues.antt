-- Records in queues.
use Rattle.std.proofs.Common.{◌≡◌, ℕ, zero, suc, ◌<◌, Bool, true, false, not, ◌&&◌, ◌||◌, List, [], ◌∷◌, ◌++◌, refl, ap, sym, ◌∙◌, arith, cond, map, take, drop, inl, inr}
use Rattle.std.specs.Prelude.{Option, None, Some, is_some, ◌==◌, ◌⊎◌, filter, if◌then◌else◌}
use Rattle.std.specs.List.{find, list_any, flat_map}
use Rattle.std.specs.Option.{option_map_or}
use Rattle.std.proofs.lemmas.Bool.{eqb-true, eq-eqb}
use Rattle.type_schema.specs.Schema.{Added, ModelInfo, model_of}
use Rattle.type_schema.specs.Typing.{HasModel}
use Rattle.type_schema.specs.Script.{Script, count, schema_at}
use Rattle.data_meaning.specs.Database.{Database, ids_of, has_record}
use Rattle.data_meaning.proofs.Agreement.{ap2}
use Rattle.data_meaning.proofs.Tests.{and-left, and-right, and-last, or-left, or-right}
use Rattle.online_meaning.specs.Deep.{added_at}
use Rattle.online_meaning.specs.Marks.{RecordId, same_record, is_among, any_added, is_slow, slow_records, marked}

-- ---- tests of lists

pub any-append : {A : Type 0} (p : A → Bool) (xs ys : List A) → list_any p (xs ++ ys) ≡ (list_any p xs || list_any p ys)
any-append p [] ys = refl
any-append p (x ∷ xs) ys = elim (p x) as (λ (b : Bool). (b || list_any p (xs ++ ys)) ≡ ((b || list_any p xs) || list_any p ys)) [ true ↦ refl | false ↦ any-append p xs ys ]

pub any-cut : {A : Type 0} (p : A → Bool) (n : ℕ) (xs : List A) → list_any p xs ≡ (list_any p (take n xs) || list_any p (drop n xs))
any-cut p zero [] = refl
any-cut p zero (x ∷ xs) = refl
any-cut p (suc n) [] = refl
any-cut p (suc n) (x ∷ xs) =
    elim (p x) as (λ (b : Bool). (b || list_any p xs) ≡ ((b || list_any p (take n xs)) || list_any p (drop n xs))) [ true ↦ refl | false ↦ any-cut p n xs ]

-- ---- records

pub record-is : (r q : RecordId) → same_record r q ≡ true → r ≡ q
record-is r q same =
    ap2 (λ (m i : ℕ). record { model = m; id = i }) (eqb-true r.model q.model (and-left _ _ same)) (eqb-true r.id q.id (and-right (r.model == q.model) _ same))

-- a record that is kept
pub among-kept : (keep : RecordId → Bool) (r : RecordId) (xs : List RecordId) → keep r ≡ true → is_among r xs ≡ true → is_among r (filter keep xs) ≡ true
among-kept keep r [] keeps there = cc
among-kept keep r (x ∷ xs) keeps there =
    elim (same_record r x) as (λ (b : Bool). same_record r x ≡ b → (b || is_among r xs) ≡ true → is_among r (cond (keep x) (x ∷ filter keep xs) (filter keep xs)) ≡ true) [
      | true ↦ λ is h.
          ap (λ b. is_among r (cond b (x ∷ filter keep xs) (filter keep xs))) (ap keep (sym (record-is r x is)) ∙ keeps)
          ∙ ap (λ b. b || is_among r (filter keep xs)) is
      | false ↦ λ other h.
          elim (keep x) as (λ (b : Bool). is_among r (cond b (x ∷ filter keep xs) (filter keep xs)) ≡ true) [
            | true ↦ ap (λ b. b || is_among r (filter keep xs)) other ∙ among-kept keep r xs keeps h
            | false ↦ among-kept keep r xs keeps h
          ]
    ] refl there

-- one that is not kept does not pass
pub not-kept : (keep : RecordId → Bool) (r : RecordId) (xs : List RecordId) → is_among r xs ≡ true → is_among r (filter keep xs) ≡ false → keep r ≡ false
not-kept keep r xs there gone =
    elim (keep r) as (λ (b : Bool). keep r ≡ b → b ≡ false) [
      | true ↦ λ keeps. let never : true ≡ false = sym (among-kept keep r xs keeps there) ∙ gone in never
      | false ↦ λ fails. refl
    ] refl

-- a record that is in no queue, where the queue keeps it, was in none
pub was-none : (keep : RecordId → Bool) (r : RecordId) (xs : List RecordId) → keep r ≡ true → is_among r (filter keep xs) ≡ false → is_among r xs ≡ false
was-none keep r xs keeps gone =
    elim (is_among r xs) as (λ (b : Bool). is_among r xs ≡ b → b ≡ false) [
      | true ↦ λ there. let never : true ≡ false = sym (among-kept keep r xs keeps there) ∙ gone in never
      | false ↦ λ none. refl
    ] refl

-- a record that is not marked then
pub not-marked : (r : RecordId) (records queue : List RecordId) → is_among r (marked records queue) ≡ false → (is_among r records ≡ false) × (is_among r queue ≡ false)
not-marked r records queue none =
    let both = sym (any-append (same_record r) (filter (λ q. not (is_among q records)) queue) records) ∙ none in
    let new = or-right (is_among r (filter (λ q. not (is_among q records)) queue)) (is_among r records) both in
    let old = or-left (is_among r (filter (λ q. not (is_among q records)) queue)) (is_among r records) both in
    (new, was-none (λ q. not (is_among q records)) r queue (ap not new) old)

-- ---- slow records

module _ (t : Script) where
  last-or-before : (k n : ℕ) → k < suc n → (k ≡ n) ⊎ (k < n)
  last-or-before k n below = grind (arith, below)

  -- where no command that adds a field to the model passes the test
  pub none-added : (test : ℕ → Added → Bool) (m n : ℕ) → any_added t test m n ≡ false → (k : ℕ) → k < n → (a : Added) → added_at t k ≡ Some a → a.model ≡ m → test k a ≡ false
  none-added test m zero none k below a here model = absurd (omega (arith, below))
  none-added test m (suc n) none k below a here model =
      elim (last-or-before k n below) [
        | inl last ↦
            let it : added_at t n ≡ Some a = ap (added_at t) (sym last) ∙ here in
            let fails : ((a.model == m) && test n a) ≡ false
            = sym (ap (λ o. option_map_or (λ (u : Added). (u.model == m) && test n u) o false) it)
            ∙ or-right (any_added t test m n) (option_map_or (λ (u : Added). (u.model == m) && test n u) (added_at t n) false) none in
            ap (λ i. test i a) last ∙ and-last (a.model == m) (test n a) (eq-eqb a.model m model) fails
        | inr before ↦ none-added test m n (or-left (any_added t test m n) (option_map_or (λ (u : Added). (u.model == m) && test n u) (added_at t n) false) none) k before a here model
      ]

  pub slow-model : (k : ℕ) → k < count t → (a : Added) → added_at t k ≡ Some a → is_slow t a.model ≡ true
  slow-model k below a here =
      elim (is_slow t a.model) as (λ (b : Bool). is_slow t a.model ≡ b → b ≡ true) [
        | true ↦ λ is. refl
        | false ↦ λ none. sym (none-added (λ i u. true) a.model (count t) none k below a here refl)
      ] refl

  among-ids : (m id : ℕ) (ids : List ℕ) → list_any (λ i. i == id) ids ≡ true → is_among (record { model = m; id = id }) (map (λ i. record { model = m; id = i }) ids) ≡ true
  among-ids m id [] there = cc
  among-ids m id (i ∷ ids) there =
      elim (i == id) as (λ (b : Bool). (i == id) ≡ b → (b || list_any (λ j. j == id) ids) ≡ true
      → (((m == m) && (id == i)) || is_among (record { model = m; id = id }) (map (λ j. record { model = m; id = j }) ids)) ≡ true) [
        | true ↦ λ is h.
            ap2 (λ a b. (a && b) || is_among (record { model = m; id = id }) (map (λ j. record { model = m; id = j }) ids)) (eq-eqb m m refl) (eq-eqb id i (sym (eqb-true i id is)))
        | false ↦ λ other h. or-last ((m == m) && (id == i)) _ (among-ids m id ids h)
      ] refl there
    where
      or-last : (a b : Bool) → b ≡ true → (a || b) ≡ true
      or-last true b h = refl
      or-last false b h = h

  abbrev slow-of : Database → ModelInfo → List RecordId
  slow-of d info = if is_slow t info.number then map (λ id. record { model = info.number; id = id }) (ids_of d info.number) else []

  among-models : (d : Database) (m id : ℕ) → is_slow t m ≡ true → has_record d m id ≡ true → (infos : List ModelInfo) (info : ModelInfo)
      → find (λ (i : ModelInfo). i.number == m) infos ≡ Some info → is_among (record { model = m; id = id }) (flat_map (slow-of d) infos) ≡ true
  among-models d m id slow there [] info found = cc
  among-models d m id slow there (i ∷ infos) info found =
      let r : RecordId = record { model = m; id = id } in
      let joined = any-append (same_record r) (slow-of d i) (flat_map (slow-of d) infos) in
      elim (i.number == m) as (λ (b : Bool). (i.number == m) ≡ b → cond b (Some i) (find (λ (u : ModelInfo). u.number == m) infos) ≡ Some info
      → is_among r (slow-of d i ++ flat_map (slow-of d) infos) ≡ true) [
        | true ↦ λ is h.
            let model : i.number ≡ m = eqb-true i.number m is in
            let here : is_among r (slow-of d i) ≡ true
            = ap (λ (n : ℕ). is_among r (if is_slow t n then map (λ j. record { model = n; id = j }) (ids_of d n) else [])) model
            ∙ ap (λ b. is_among r (if b then map (λ j. record { model = m; id = j }) (ids_of d m) else [])) slow
            ∙ among-ids m id (ids_of d m) there in
            joined ∙ ap (λ b. b || is_among r (flat_map (slow-of d) infos)) here
        | false ↦ λ other h. joined ∙ or-last (is_among r (slow-of d i)) _ (among-models d m id slow there infos info h)
      ] refl found
    where
      or-last : (a b : Bool) → b ≡ true → (a || b) ≡ true
      or-last true b h = refl
      or-last false b h = h

  pub among-slow : (d : Database) (m id : ℕ) → is_slow t m ≡ true → has_record d m id ≡ true → HasModel (schema_at t 0) m → is_among (record { model = m; id = id }) (slow_records t d) ≡ true
  among-slow d m id slow there has = in-schema (model_of (schema_at t 0) m) refl has
    where
      in-schema : (o : Option ModelInfo) → model_of (schema_at t 0) m ≡ o → is_some o ≡ true → is_among (record { model = m; id = id }) (slow_records t d) ≡ true
      in-schema None here e = cc
      in-schema (Some info) here e = among-models d m id slow there (schema_at t 0).models info here
