-- The slow records after an event.
use Rattle.std.proofs.Common.{◌≡◌, ℕ, zero, suc, ◌+◌, Bool, true, false, not, ◌&&◌, ◌||◌, List, [], ◌∷◌, ◌++◌, refl, ap, sym, ◌∙◌, subst, arith, cond, map, take, drop, length, nat_eq, append_assoc}
use Rattle.std.specs.Prelude.{Some, ◌==◌, if◌then◌else◌}
use Rattle.std.specs.List.{find, list_any, flat_map, AllByRecursion, IsDistinct}
use Rattle.std.proofs.lemmas.Bool.{eqb-true, eq-eqb, ne_eqb, false≢true}
use Rattle.std.proofs.lemmas.List.{map-append, append-nil}
use Rattle.std.proofs.lemmas.List.Elements.{filter-append}
use Rattle.type_schema.specs.Schema.{ModelInfo, Schema, model_of}
use Rattle.type_schema.specs.Typing.{HasModel}
use Rattle.type_schema.specs.Proper.{IsProper, model_numbers}
use Rattle.type_schema.specs.Script.{Script, schema_at}
use Rattle.data_meaning.specs.Database.{Record, Database, records_of, ids_of, IsDatabase}
use Rattle.data_records.specs.Changed.{with_field}
use Rattle.data_records.specs.Inserted.{next_of, with_row}
use Rattle.data_records.specs.Removed.{without_first, without_record}
use Rattle.data_records.proofs.Changes.{id_is}
use Rattle.online_meaning.specs.Marks.{RecordId, same_record, is_slow, slow_records, without}
use Rattle.online_meaning.specs.Events.{batch, put, make, erase, switch, changed_by}
use Rattle.online_meaning.specs.Known.{places_to, SlowRecordsGo}
use Rattle.online_meaning.proofs.Changed.{put-ids, make-rows, make-ids, erase-rows, erase-ids}
use Rattle.online_meaning.proofs.Settled.{ids-rise}
use Rattle.online_meaning.proofs.Unmarked.{is-row, number, its-table, new-row}
use Rattle.online_meaning.proofs.Waits.{named, of-model, rising-once, all-models, slow-same}

-- ---- lists

take-at : {A : Type 0} (xs ys : List A) (k n : ℕ) → k ≡ length xs + n → take k (xs ++ ys) ≡ xs ++ take n ys
take-at [] ys k n e = let same : k ≡ n = omega arith in ap (λ i. take i ys) same
take-at (x ∷ xs) ys zero n e = absurd (omega arith)
take-at (x ∷ xs) ys (suc k) n e = ap (λ zs. x ∷ zs) (take-at xs ys k n (omega arith))

drop-at : {A : Type 0} (xs ys : List A) (k n : ℕ) → k ≡ length xs + n → drop k (xs ++ ys) ≡ drop n ys
drop-at [] ys k n e = let same : k ≡ n = omega arith in ap (λ i. drop i ys) same
drop-at (x ∷ xs) ys zero n e = absurd (omega arith)
drop-at (x ∷ xs) ys (suc k) n e = drop-at xs ys k n (omega arith)

-- ---- a record erased

ids-left : (id : ℕ) (rs : List Record) → map (λ (r : Record). r.id) (without_first (id_is id) rs) ≡ without_first (λ (i : ℕ). i == id) (map (λ (r : Record). r.id) rs)
ids-left id [] = refl
ids-left id (r ∷ rs) =
    elim (r.id == id) as (λ (b : Bool). map (λ (u : Record). u.id) (if b then rs else r ∷ without_first (id_is id) rs)
    ≡ (if b then map (λ (u : Record). u.id) rs else r.id ∷ without_first (λ (i : ℕ). i == id) (map (λ (u : Record). u.id) rs))) [
      | true ↦ refl
      | false ↦ ap (λ (is : List ℕ). r.id ∷ is) (ids-left id rs)
    ]

same-test : (m i id : ℕ) → same_record (named m id) (named m i) ≡ (id == i)
same-test m i id = ap (λ b. b && (id == i)) (eq-eqb m m refl)

others-stay : (m id : ℕ) (ids : List ℕ) → AllByRecursion (λ j. nat_eq id j ≡ false) ids → without (named m id) (map (named m) ids) ≡ map (named m) ids
others-stay m id [] all = refl
others-stay m id (i ∷ ids) all =
    ap (λ b. cond (not b) (named m i ∷ without (named m id) (map (named m) ids)) (without (named m id) (map (named m) ids))) (same-test m i id ∙ all.0)
    ∙ ap (λ rs. named m i ∷ rs) (others-stay m id ids all.1)

ids-without : (m id : ℕ) (ids : List ℕ) → IsDistinct nat_eq ids → map (named m) (without_first (λ (i : ℕ). i == id) ids) ≡ without (named m id) (map (named m) ids)
unfolding IsDistinct
ids-without m id [] once = refl
ids-without m id (i ∷ ids) once =
    elim (i == id) as (λ (b : Bool). (i == id) ≡ b → map (named m) (if b then ids else i ∷ without_first (λ (j : ℕ). j == id) ids)
    ≡ cond (not (same_record (named m id) (named m i))) (named m i ∷ without (named m id) (map (named m) ids)) (without (named m id) (map (named m) ids))) [
      | true ↦ λ same.
          let is : i ≡ id = eqb-true i id same in
          let own : same_record (named m id) (named m i) ≡ true = same-test m i id ∙ eq-eqb id i (sym is) in
          sym (others-stay m id ids (subst (λ (n : ℕ). AllByRecursion (λ j. nat_eq n j ≡ false) ids) is once.0))
          ∙ sym (ap (λ b. cond (not b) (named m i ∷ without (named m id) (map (named m) ids)) (without (named m id) (map (named m) ids))) own)
      | false ↦ λ other.
          let differs : same_record (named m id) (named m i) ≡ false = same-test m i id ∙ ne_eqb id i (λ e. false≢true (sym other ∙ eq-eqb i id (sym e))) in
          ap (λ rs. named m i ∷ rs) (ids-without m id ids once.1)
          ∙ sym (ap (λ b. cond (not b) (named m i ∷ without (named m id) (map (named m) ids)) (without (named m id) (map (named m) ids))) differs)
    ] refl

other-model : (m id n : ℕ) (ids : List ℕ) → (m == n) ≡ false → without (named m id) (map (named n) ids) ≡ map (named n) ids
other-model m id n [] other = refl
other-model m id n (i ∷ ids) other =
    ap (λ b. cond (not (b && (id == i))) (named n i ∷ without (named m id) (map (named n) ids)) (without (named m id) (map (named n) ids))) other
    ∙ ap (λ rs. named n i ∷ rs) (other-model m id n ids other)

module _ (t : Script) (s : Schema) (d : Database) (over : IsDatabase s d) (m id : ℕ) where
  left-model : (info : ModelInfo) → HasModel s info.number → of-model t (without_record m id d) info ≡ without (named m id) (of-model t d info)
  left-model info has =
      elim (is_slow t info.number) as (λ (b : Bool). (if b then map (named info.number) (ids_of (without_record m id d) info.number) else [])
      ≡ without (named m id) (if b then map (named info.number) (ids_of d info.number) else [])) [
        | false ↦ refl
        | true ↦
            elim (info.number == m) as (λ (b : Bool). (info.number == m) ≡ b → map (named info.number) (ids_of (without_record m id d) info.number)
            ≡ without (named m id) (map (named info.number) (ids_of d info.number))) [
              | true ↦ λ own.
                  let same : m ≡ info.number = sym (eqb-true info.number m own) in
                  let ids : ids_of (without_record m id d) m ≡ without_first (λ (i : ℕ). i == id) (ids_of d m)
                  = ap (map (λ (r : Record). r.id)) (erase-rows d m id) ∙ ids-left id (records_of d m) in
                  subst (λ (n : ℕ). map (named n) (ids_of (without_record m id d) n) ≡ without (named m id) (map (named n) (ids_of d n))) same
                  (ap (map (named m)) ids ∙ ids-without m id (ids_of d m) (rising-once (ids_of d m) (ids-rise s d over m (subst (HasModel s) (sym same) has))))
              | false ↦ λ other.
                  ap (map (named info.number)) (erase-ids d m id info.number other)
                  ∙ sym (other-model m id info.number (ids_of d info.number) (ne_eqb m info.number (λ e. false≢true (sym other ∙ eq-eqb info.number m (sym e)))))
            ] refl
      ]

  left-models : (infos : List ModelInfo) → AllByRecursion (λ (info : ModelInfo). HasModel s info.number) infos
      → flat_map (of-model t (without_record m id d)) infos ≡ without (named m id) (flat_map (of-model t d) infos)
  left-models [] all = refl
  left-models (info ∷ infos) all =
      ap (λ rs. rs ++ flat_map (of-model t (without_record m id d)) infos) (left-model info all.0)
      ∙ (ap (λ rs. without (named m id) (of-model t d info) ++ rs) (left-models infos all.1)
      ∙ sym (filter-append (λ q. not (same_record (named m id) q)) (of-model t d info) (flat_map (of-model t d) infos)))

-- ---- a record made

module _ (t : Script) (d e : Database) (m next : ℕ) (own : ids_of e m ≡ ids_of d m ++ next ∷ []) (others : (n : ℕ) → (n == m) ≡ false → ids_of e n ≡ ids_of d n) where
  same-model : (info : ModelInfo) → (info.number == m) ≡ false → of-model t e info ≡ of-model t d info
  same-model info other = ap (λ (ids : List ℕ). if is_slow t info.number then map (named info.number) ids else []) (others info.number other)

  same-rest : (infos : List ModelInfo) → AllByRecursion (λ n. nat_eq m n ≡ false) (model_numbers infos) → flat_map (of-model t e) infos ≡ flat_map (of-model t d) infos
  same-rest [] all = refl
  same-rest (info ∷ infos) all =
      ap (λ rs. rs ++ flat_map (of-model t e) infos) (same-model info (ne_eqb info.number m (λ same. false≢true (sym all.0 ∙ eq-eqb m info.number (sym same)))))
      ∙ ap (λ rs. of-model t d info ++ rs) (same-rest infos all.1)

  -- where the model is not slow
  fast-models : is_slow t m ≡ false → (infos : List ModelInfo) → flat_map (of-model t e) infos ≡ flat_map (of-model t d) infos
  fast-models fast [] = refl
  fast-models fast (info ∷ infos) =
      ap (λ rs. rs ++ flat_map (of-model t e) infos) (fast-model info) ∙ ap (λ rs. of-model t d info ++ rs) (fast-models fast infos)
    where
      fast-model : (i : ModelInfo) → of-model t e i ≡ of-model t d i
      fast-model i =
          elim (i.number == m) as (λ (b : Bool). (i.number == m) ≡ b → of-model t e i ≡ of-model t d i) [
            | true ↦ λ same.
                let none : is_slow t i.number ≡ false = ap (is_slow t) (eqb-true i.number m same) ∙ fast in
                ap (λ b. if b then map (named i.number) (ids_of e i.number) else []) none ∙ sym (ap (λ b. if b then map (named i.number) (ids_of d i.number) else []) none)
            | false ↦ λ other. same-model i other
          ] refl

  module _ (slow : is_slow t m ≡ true) where
    long : (info : ModelInfo) → length (of-model t d info) ≡ (if is_slow t info.number then length (ids_of d info.number) else 0)
    long info =
        elim (is_slow t info.number) as (λ (b : Bool). length (if b then map (named info.number) (ids_of d info.number) else []) ≡ (if b then length (ids_of d info.number) else 0)) [
          | true ↦ map-length (ids_of d info.number)
          | false ↦ refl
        ]
      where
        map-length : (ids : List ℕ) → length (map (named info.number) ids) ≡ length ids
        map-length [] = refl
        map-length (i ∷ ids) = ap suc (map-length ids)

    made-model : (info : ModelInfo) → (info.number == m) ≡ true → of-model t e info ≡ of-model t d info ++ named m next ∷ []
    made-model info same =
        let it : m ≡ info.number = sym (eqb-true info.number m same) in
        let there : map (named m) (ids_of e m) ≡ map (named m) (ids_of d m) ++ named m next ∷ []
        = ap (map (named m)) own ∙ map-append (named m) (ids_of d m) (next ∷ []) in
        let at-m : (if is_slow t m then map (named m) (ids_of e m) else []) ≡ (if is_slow t m then map (named m) (ids_of d m) else []) ++ named m next ∷ []
        = ap (λ b. if b then map (named m) (ids_of e m) else []) slow ∙ (there ∙ sym (ap (λ b. (if b then map (named m) (ids_of d m) else []) ++ named m next ∷ []) slow)) in
        subst (λ (n : ℕ). (if is_slow t n then map (named n) (ids_of e n) else []) ≡ (if is_slow t n then map (named n) (ids_of d n) else []) ++ named m next ∷ []) it at-m

    abbrev place : List ModelInfo → ℕ
    place infos = places_to t d m infos

    made-models : (infos : List ModelInfo) → IsDistinct nat_eq (model_numbers infos) → list_any (λ (i : ModelInfo). i.number == m) infos ≡ true
        → flat_map (of-model t e) infos ≡ take (place infos) (flat_map (of-model t d) infos) ++ named m next ∷ drop (place infos) (flat_map (of-model t d) infos)
    unfolding IsDistinct
    made-models [] once there = absurd (false≢true there)
    made-models (info ∷ infos) once there =
        let A = of-model t d info in
        let G = flat_map (of-model t d) infos in
        let size = long info in
        elim (info.number == m) as (λ (b : Bool). (info.number == m) ≡ b → (b || list_any (λ (i : ModelInfo). i.number == m) infos) ≡ true
        → of-model t e info ++ flat_map (of-model t e) infos
        ≡ take ((if is_slow t info.number then length (ids_of d info.number) else 0) + (if b then 0 else place infos)) (A ++ G)
        ++ named m next ∷ drop ((if is_slow t info.number then length (ids_of d info.number) else 0) + (if b then 0 else place infos)) (A ++ G)) [
          | true ↦ λ same here.
              let at = (if is_slow t info.number then length (ids_of d info.number) else 0) + 0 in
              let it : at ≡ length A + 0 = ap (λ n. n + 0) (sym size) in
              let rest : flat_map (of-model t e) infos ≡ G = same-rest infos (subst (λ (n : ℕ). AllByRecursion (λ k. nat_eq n k ≡ false) (model_numbers infos)) (eqb-true info.number m same) once.0) in
              let front : take at (A ++ G) ≡ A ++ take 0 G = take-at A G at 0 it in
              let behind : drop at (A ++ G) ≡ drop 0 G = drop-at A G at 0 it in
              ap (λ rs. rs ++ flat_map (of-model t e) infos) (made-model info same) ∙ (ap (λ rs. (A ++ named m next ∷ []) ++ rs) rest
              ∙ (append_assoc A (named m next ∷ []) G ∙ sym (ap (λ rs. rs ++ named m next ∷ drop at (A ++ G)) (front ∙ none-taken A G) ∙ ap (λ rs. A ++ named m next ∷ rs) (behind ∙ all-left G))))
          | false ↦ λ other later.
              let p = place infos in
              let at = (if is_slow t info.number then length (ids_of d info.number) else 0) + p in
              let it : at ≡ length A + p = ap (λ n. n + p) (sym size) in
              let rest = made-models infos once.1 later in
              let front : take at (A ++ G) ≡ A ++ take p G = take-at A G at p it in
              let behind : drop at (A ++ G) ≡ drop p G = drop-at A G at p it in
              ap (λ rs. rs ++ flat_map (of-model t e) infos) (same-model info other) ∙ (ap (λ rs. A ++ rs) rest
              ∙ (sym (append_assoc A (take p G) (named m next ∷ drop p G)) ∙ sym (ap (λ rs. rs ++ named m next ∷ drop at (A ++ G)) front ∙ ap (λ rs. (A ++ take p G) ++ named m next ∷ rs) behind)))
        ] refl there
      where
        none-taken : (xs ys : List RecordId) → xs ++ take 0 ys ≡ xs
        none-taken xs [] = append-nil xs
        none-taken xs (y ∷ ys) = append-nil xs

        all-left : (ys : List RecordId) → drop 0 ys ≡ ys
        all-left [] = refl
        all-left (y ∷ ys) = refl

there-model : (s : Schema) (m : ℕ) (info : ModelInfo) → model_of s m ≡ Some info → list_any (λ (i : ModelInfo). i.number == m) s.models ≡ true
there-model s m info found = in-list s.models found
  where
    in-list : (infos : List ModelInfo) → find (λ (i : ModelInfo). i.number == m) infos ≡ Some info → list_any (λ (i : ModelInfo). i.number == m) infos ≡ true
    in-list [] at = cc
    in-list (i ∷ infos) at =
        elim (i.number == m) as (λ (b : Bool). cond b (Some i) (find (λ (u : ModelInfo). u.number == m) infos) ≡ Some info → (b || list_any (λ (u : ModelInfo). u.number == m) infos) ≡ true) [
          | true ↦ λ e. refl
          | false ↦ λ e. in-list infos e
        ] at

pub slow_records_go : SlowRecordsGo
slow_records_go t is d over only (batch size) ok = refl
slow_records_go t is d over only (put m id f v) ok = slow-same t (with_field m id f v d) d (put-ids d m id f v)
slow_records_go t is d over only (make m row) ok =
    let s = schema_at t 0 in
    let e = changed_by s (make m row) d in
    let proper : IsProper s = is.proper 0 (omega arith) in
    let info = ok.0 in
    let same = number t is d over only m row info ok.1 ok.2 in
    let table = its-table t is d over only m row info ok.1 ok.2 in
    let row-is = is-row t is d over only m row info ok.1 ok.2 in
    let made = new-row t is d over only m row info ok.1 ok.2 in
    let own : ids_of e m ≡ ids_of d m ++ next_of d m ∷ []
    = ap (λ (u : Database). ids_of u m) row-is
    ∙ subst (λ (n : ℕ). ids_of (with_row info row d) n ≡ ids_of d n ++ next_of d n ∷ []) same
    (ap (map (λ (r : Record). r.id)) (make-rows d info.number made table.0 table.1) ∙ map-append (λ (r : Record). r.id) (records_of d info.number) (made ∷ [])) in
    let others : (n : ℕ) → (n == m) ≡ false → ids_of e n ≡ ids_of d n
    = λ n other. ap (λ (u : Database). ids_of u n) row-is ∙ make-ids d info.number made table.0 table.1 n (ap (λ (k : ℕ). n == k) same ∙ other) in
    elim (is_slow t m) as (λ (b : Bool). is_slow t m ≡ b → slow_records t e
    ≡ (if b then take (places_to t d m s.models) (slow_records t d) ++ named m (next_of d m) ∷ drop (places_to t d m s.models) (slow_records t d) else slow_records t d)) [
      | true ↦ λ slow. made-models t d e m (next_of d m) own others slow s.models proper.models.distinct (there-model s m info ok.1)
      | false ↦ λ fast. fast-models t d e m (next_of d m) own others fast s.models
    ] refl
slow_records_go t is d over only (erase m id) ok = left-models t (schema_at t 0) d over m id (schema_at t 0).models (all-models (schema_at t 0))
slow_records_go t is d over only switch ok = refl
