-- The places of the records of a database.
use Rattle.std.proofs.Common.{◌≡◌, ℕ, suc, ◌<◌, ◌≤◌, ◌+◌, ◌-◌, Bool, true, false, ◌||◌, List, [], ◌∷◌, ◌++◌, refl, ap, sym, ◌∙◌, subst, arith, cond, get_or, length, map, reverse, take, Contains, append_assoc}
use Rattle.std.specs.Prelude.{Some, ◌==◌, is_some}
use Rattle.std.specs.List.{find, list_any}
use Rattle.std.proofs.lemmas.Bool.{eqb-true}
use Rattle.std.proofs.lemmas.List.{append-nil, get_or-reverse, length-reverse, map-append, take_all, take_more}
use Rattle.std.proofs.lemmas.List.Elements.{Contains-append_left, Contains-append_right}
use Rattle.type_schema.specs.declared.schemas.ModelInfo as code_model
use Rattle.type_schema.specs.Schema.{ModelInfo, Schema}
use Rattle.type_schema.specs.SchemaViews.{model_info_of}
use Rattle.type_schema.specs.Typing.{HasModel}
use Rattle.data_meaning.specs.Database.{Record, Table, Database, has_record, ids_of, records_of, HasNoFurtherTables}
use Rattle.data_records.specs.declared.record.Record as code_record
use Rattle.data_records.specs.Views.{record_data}
use Rattle.data_records.proofs.Changes.{located, model_is}
use Rattle.data_records.proofs.Firsts.{found-among, found-passes}
use Rattle.data_records.proofs.Tables.{ids-seen}
use Rattle.impact_shrink.specs.declared.places.Place.{Place}
use Rattle.impact_shrink.specs.Dropped.{places_in, places_of, HasAll}

abbrev place : ℕ → ℕ → Place
place m id = record { model = m; id = id }

in-ids : (m id : ℕ) (ids : List ℕ) → list_any (λ i. i == id) ids ≡ true → Contains (places_in m ids) (place m id)
in-ids m id [] h = absurd cc
in-ids m id (i ∷ ids) h =
    elim (i == id) as (λ (b : Bool). (i == id) ≡ b → (b || list_any (λ j. j == id) ids) ≡ true → Contains (places_in m (i ∷ ids)) (place m id)) [
      | true ↦ λ is k. (0, omega arith, ap (place m) (eqb-true _ _ is))
      | false ↦ λ is k. let (at, below, here) = in-ids m id ids k in (suc at, omega (arith, below), here)
    ] refl h

in-models : (d : Database) (m id : ℕ) → has_record d m id ≡ true → (infos : List ModelInfo) → is_some (find (λ (u : ModelInfo). u.number == m) infos) ≡ true
    → Contains (places_of d (map (λ (u : ModelInfo). u.number) infos)) (place m id)
in-models d m id there [] found = absurd cc
in-models d m id there (info ∷ infos) found =
    elim (info.number == m) as (λ (b : Bool). (info.number == m) ≡ b → is_some (cond b (Some info) (find (λ (u : ModelInfo). u.number == m) infos)) ≡ true
    → Contains (places_in info.number (ids_of d info.number) ++ places_of d (map (λ (u : ModelInfo). u.number) infos)) (place m id)) [
      | true ↦ λ is k.
          Contains-append_left (places_in info.number (ids_of d info.number)) (places_of d (map (λ (u : ModelInfo). u.number) infos)) (place m id)
          (subst (λ n. Contains (places_in n (ids_of d n)) (place m id)) (sym (eqb-true _ _ is)) (in-ids m id (ids_of d m) there))
      | false ↦ λ is k.
          Contains-append_right (places_in info.number (ids_of d info.number)) (places_of d (map (λ (u : ModelInfo). u.number) infos)) (place m id)
          (in-models d m id there infos k)
    ] refl found

numbers-seen : (infos : List code_model.ModelInfo) → map (λ (u : ModelInfo). u.number) (map model_info_of infos) ≡ map (λ (u : code_model.ModelInfo). u.number) infos
numbers-seen [] = refl
numbers-seen (u ∷ infos) = ap (λ ns. u.number ∷ ns) (numbers-seen infos)

-- the records of a model, as the code has them
pub places-seen : (d : Database) (m : ℕ) (rs : List code_record.Record) → map record_data rs ≡ records_of d m → map (λ (r : code_record.Record). place m r.id) rs ≡ places_in m (ids_of d m)
places-seen d m rs same = each rs ∙ ap (places_in m) (sym (ids-seen rs)) ∙ ap (λ (all : List Record). places_in m (map (λ (r : Record). r.id) all)) same
  where
    each : (rs : List code_record.Record) → map (λ (r : code_record.Record). place m r.id) rs ≡ places_in m (map (λ (r : code_record.Record). r.id) rs)
    each [] = refl
    each (r ∷ rs) = ap (λ ps. place m r.id ∷ ps) (each rs)

reversed : {A : Type 0} (xs : List A) (x : A) → Contains xs x → Contains (reverse xs) x
reversed xs x (at, below, here) =
    let length_is : length (reverse xs) ≡ length xs = length-reverse xs in
    let back : length xs - 1 - (length xs - 1 - at) ≡ at = omega (arith, below) in (
      length xs - 1 - at,
      omega (arith, below, length_is),
      get_or-reverse xs (length xs - 1 - at) x (omega (arith, below)) ∙ ap (λ k. get_or xs k x) back ∙ here,
    )

-- the places of all models, the last first, have each record
pub all-places : (s : Schema) (infos : List code_model.ModelInfo) (d : Database) → s.models ≡ map model_info_of infos → HasNoFurtherTables s d → (places : List Place)
    → places ≡ reverse (places_of d (map (λ (u : code_model.ModelInfo). u.number) infos)) → HasAll d places
all-places s infos d models only places is m id there =
    let at = located d m id there in
    let has : HasModel s m = subst (λ n. HasModel s n) (eqb-true _ _ (found-passes (model_is m) d at.table at.table_is))
    (found-among (λ (t : Table). HasModel s t.model) (model_is m) d at.table only at.table_is) in
    let listed = in-models d m id there s.models has in
    let same : map (λ (u : ModelInfo). u.number) s.models ≡ map (λ (u : code_model.ModelInfo). u.number) infos
    = ap (map (λ (u : ModelInfo). u.number)) models ∙ numbers-seen infos in
    subst (λ (ps : List Place). Contains ps (place m id)) (sym is)
    (reversed (places_of d (map (λ (u : code_model.ModelInfo). u.number) infos)) (place m id) (subst (λ ns. Contains (places_of d ns) (place m id)) same listed))

-- ---- as they are listed

-- the records of one model
pub places-done : (d : Database) (m : ℕ) (old found : List Place) (rs : List code_record.Record) (i : ℕ)
    → found ≡ old ++ map (λ (r : code_record.Record). place m r.id) (take i rs) → length rs ≤ i → map record_data rs ≡ records_of d m
    → found ≡ old ++ places_in m (ids_of d m)
places-done d m old found rs i so_far all same =
    so_far ∙ ap (λ us. old ++ map (λ (r : code_record.Record). place m r.id) us) (take_all i rs all) ∙ ap (λ ps. old ++ ps) (places-seen d m rs same)

places-append : (d : Database) (ms ns : List ℕ) → places_of d (ms ++ ns) ≡ places_of d ms ++ places_of d ns
places-append d [] ns = refl
places-append d (m ∷ ms) ns = ap (λ ps. places_in m (ids_of d m) ++ ps) (places-append d ms ns) ∙ sym (append_assoc (places_in m (ids_of d m)) (places_of d ms) (places_of d ns))

abbrev numbers : List code_model.ModelInfo → List ℕ
numbers infos = map (λ (u : code_model.ModelInfo). u.number) infos

-- those of one model more
pub places-more : (d : Database) (infos : List code_model.ModelInfo) (i : ℕ) (one : code_model.ModelInfo) → i < length infos → one ≡ get_or infos i one → (start before after : List Place)
    → before ≡ start ++ places_of d (numbers (take i infos)) → after ≡ before ++ places_in one.number (ids_of d one.number) → after ≡ start ++ places_of d (numbers (take (i + 1) infos))
places-more d infos i one below at start before after was is =
    let front = numbers (take i infos) in
    let all : numbers (take (i + 1) infos) ≡ front ++ one.number ∷ []
    = ap numbers (take_more infos i one below) ∙ map-append (λ (u : code_model.ModelInfo). u.number) (take i infos) (get_or infos i one ∷ [])
    ∙ ap (λ (u : code_model.ModelInfo). front ++ u.number ∷ []) (sym at) in
    let here = places_in one.number (ids_of d one.number) in
    is ∙ ap (λ ps. ps ++ here) was ∙ append_assoc start (places_of d front) here
    ∙ ap (λ ps. start ++ (places_of d front ++ ps)) (sym (append-nil here)) ∙ ap (λ ps. start ++ ps) (sym (places-append d front (one.number ∷ [])))
    ∙ ap (λ ns. start ++ places_of d ns) (sym all)
