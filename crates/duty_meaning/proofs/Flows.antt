-- The formula of an obligation against flow leaks is true where a use leaks to somebody.
use Rattle.std.proofs.Common.{◌≡◌, ℕ, suc, ◌+◌, ◌-◌, ◌<◌, ◌≤◌, Bool, true, false, not, ◌&&◌, List, [], ◌∷◌, ◌++◌, length, refl, ap, sym, ◌∙◌, subst, arith, cond, length-append}
use Rattle.std.specs.Prelude.{Option, Some, None, ◌==◌, map, is_some, slice_get, slice_index_or, option_and_then, Contains, if◌then◌else◌}
use Rattle.std.specs.List.{find, list_any}
use Rattle.std.specs.Option.{option_map, option_map_or}
use Rattle.std.proofs.lemmas.Bool.{eqb-true, eq-eqb}
use Rattle.std.proofs.lemmas.Option.{slice_get_within, get_or_from_slice_get}
use Rattle.std.proofs.lemmas.List.Folds.{list_any_at}
use Rattle.type_schema.specs.declared.types.TBase.TheVariants as base
use Rattle.type_schema.specs.declared.types.TTy.{TTy}
use Rattle.type_schema.specs.declared.rights.Kind.{Kind}
use Rattle.type_schema.specs.declared.rights.Kind.TheVariants as kind
use Rattle.type_schema.specs.declared.rights.Right.TheVariants.{Read}
use Rattle.type_schema.specs.declared.rights.Target.{Target}
use Rattle.type_schema.specs.declared.rights.Target.TheVariants as on
use Rattle.type_schema.specs.Trees.{Init}
use Rattle.type_schema.specs.Schema.{FieldInfo, ModelInfo, Schema, model_in, field_in, model_of, type_of, model_of_target}
use Rattle.type_schema.specs.Typing.{HasModel, IsInit}
use Rattle.type_schema.specs.Commands.{add_field, with_field, schema_after}
use Rattle.type_schema.specs.Proper.{model_numbers}
use Rattle.type_schema.specs.Uses.{Use}
use Rattle.type_schema.specs.Script.{Script, schema_at, count, IsScript}
use Rattle.type_schema.specs.Kinds.{has_kind, is_kind_at}
use Rattle.data_meaning.specs.declared.principals.Principal.{Principal}
use Rattle.data_meaning.specs.declared.principals.Principal.TheVariants as who
use Rattle.data_meaning.specs.Values.{Id}
use Rattle.data_meaning.specs.Database.{Record, Table, Database, table_of, ids_of, has_record}
use Rattle.data_meaning.proofs.Finds.{find-holds, find-among, find-map}
use Rattle.data_meaning.specs.declared.cells.Cell.{Cell}
use Rattle.data_meaning.specs.Touched.{init_touched}
use Rattle.data_meaning.specs.Run.{run_to}
use Rattle.data_meaning.specs.Gain.{IsStart, kind_of, is_principal_at, has_right_at, FlowAt}
use Rattle.data_meaning.proofs.Agreement.{ap2}
use Rattle.data_meaning.proofs.Kept.{found-field}
use Rattle.data_meaning.proofs.Tests.{and-left, and-right, and-both, not-true}
use Rattle.form_formula.specs.declared.structure.Structure.{Structure}
use Rattle.form_formula.specs.Trees.{Term, Formula, bound, no, both}
use Rattle.form_formula.specs.Truth.{truth, size_of}
use Rattle.duty_meaning.specs.declared.duty.Duty.{Duty}
use Rattle.duty_meaning.specs.Structures.{before, sort_of, element_of, structure_of}
use Rattle.duty_meaning.specs.Formulas.{Who, static, record_at, nothing_written}
use Rattle.duty_meaning.specs.Duties.{written_at, has_right, for_some, for_some_principal, leak_formula, added_formula, flow_formula_of}
use Rattle.duty_meaning.specs.Reach.{init_reach}
use Rattle.duty_meaning.specs.Reads.{init_read_by}
use Rattle.duty_meaning.specs.Flows.{cell_of, IsFlowDuty, LeaksToSomebody, FlowFormulasAreTrue}
use Rattle.duty_meaning.proofs.Signed.{exists-truth}
use Rattle.duty_meaning.proofs.Means.{IsPrefix, prefix-more, IsTermOf, IsWho, term-more, who-more}
use Rattle.duty_meaning.proofs.Meanings.{Shows, got-there, next-is}
use Rattle.duty_meaning.proofs.Starting.{find-front}
use Rattle.duty_meaning.proofs.Shown.{has-field, some-passes, shows-all, shown-field, shown-model}
use Rattle.duty_meaning.proofs.Created.{model-of-start, kind-model}
use Rattle.duty_meaning.proofs.Running.{first-shown, shown-at}
use Rattle.duty_meaning.proofs.Gains.{some-id, id-passes, kind-ids, right-true}
use Rattle.duty_meaning.proofs.ReadCells.{init-touches}
use Rattle.duty_meaning.proofs.Reached.{is_at, init-reached}
use Rattle.duty_meaning.proofs.Sources.{init-there}
use Rattle.duty_meaning.proofs.Truths.{first-is}

-- ---- one more field

same-test : (m0 m : ℕ) (g : FieldInfo) (i : ModelInfo) → ((let u : ModelInfo = if i.number == m0 then with_field g i else i in u.number) == m) ≡ (i.number == m)
same-test m0 m g i =
    elim (i.number == m0) as (λ (b : Bool). ((let u : ModelInfo = if b then with_field g i else i in u.number) == m) ≡ (i.number == m)) [ true ↦ refl | false ↦ refl ]

pub type-stays : (s : Schema) (m0 : ℕ) (g : FieldInfo) (init : Init) (m f : ℕ) (ty : TTy) → type_of s m f ≡ Some ty → type_of (schema_after s (add_field m0 g init)) m f ≡ Some ty
type-stays s m0 g init m f ty h =
    let there = has-field s m f ty h in
    let found = found-field s m f there.0 there.1 in
    let new : ModelInfo → ModelInfo = λ i. if i.number == m0 then with_field g i else i in
    let of : Option ModelInfo → Option TTy = λ o. option_map (λ (x : FieldInfo). x.ty) (option_and_then (λ (i : ModelInfo). field_in i.fields f) o) in
    let same : of (model_of s m) ≡ Some there.0.ty = ap of found.found ∙ ap (option_map (λ (x : FieldInfo). x.ty)) found.field in
    ap of (find-map (λ (i : ModelInfo). i.number == m) new s.models (same-test m0 m g))
    ∙ ap (λ o. of (option_map new o)) found.found
    ∙ (elim (found.model.number == m0) as (λ (b : Bool). option_map (λ (x : FieldInfo). x.ty) (field_in (let u : ModelInfo = if b then with_field g found.model else found.model in u.fields) f) ≡ Some there.0.ty) [
      | true ↦ ap (option_map (λ (x : FieldInfo). x.ty)) (find-front (λ (x : FieldInfo). x.number == f) found.model.fields (g ∷ []) there.0 found.field)
      | false ↦ ap (option_map (λ (x : FieldInfo). x.ty)) found.field
    ])
    ∙ sym same ∙ h

pub model-stays : (s : Schema) (m0 : ℕ) (g : FieldInfo) (init : Init) (m : ℕ) → HasModel s m → HasModel (schema_after s (add_field m0 g init)) m
model-stays s m0 g init m h =
    let new : ModelInfo → ModelInfo = λ i. if i.number == m0 then with_field g i else i in
    ap is_some (find-map (λ (i : ModelInfo). i.number == m) new s.models (same-test m0 m g))
    ∙ ((elim (model_of s m) as (λ (o : Option ModelInfo). is_some o ≡ true → is_some (option_map new o) ≡ true) [
      | None ↦ λ e. e
      | Some i ↦ λ e. refl
    ]) h)

-- ---- models that are not there

missing-index : {A B : Type 0} (p : A → Bool) (h : A → B) (xs : List A) (z : B) → find p xs ≡ None → slice_index_or (map h xs) (before p xs) z ≡ z
missing-index p h [] z e = refl
missing-index {A} {B} p h (x ∷ xs) z e =
    elim (p x) as (λ (t : Bool). cond t (Some x) (find p xs) ≡ None → slice_index_or (h x ∷ map h xs) (cond t 0 (suc (before p xs))) z ≡ z) [
      | true ↦ λ e. cc
      | false ↦ λ e. missing-index p h xs z e
    ] e

number-missing : (models : List ModelInfo) (m : ℕ) → model_in models m ≡ None → find (λ n. n == m) (model_numbers models) ≡ None
number-missing [] m e = refl
number-missing (x ∷ models) m e =
    elim (x.number == m) as (λ (t : Bool). cond t (Some x) (model_in models m) ≡ None → cond t (Some x.number) (find (λ n. n == m) (model_numbers models)) ≡ None) [
      | true ↦ λ e. cc
      | false ↦ λ e. number-missing models m e
    ] e

-- ---- cells

pub at-cell : (at : Use) (y : ℕ) (cells : List Cell) → list_any (is_at at y) cells ≡ true → Contains cells (cell_of at y)
at-cell at y cells h =
    let one = some-passes (is_at at y) cells h in
    let c : Cell = one.1 in
    let model : at.model ≡ c.model = eqb-true _ _ (and-left (at.model == c.model) _ one.3) in
    let rest = and-right (at.model == c.model) _ one.3 in
    let field : at.field ≡ c.field = eqb-true _ _ (and-left (at.field == c.field) _ rest) in
    let id : y ≡ c.id = eqb-true _ _ (and-right (at.field == c.field) _ rest) in
    let same : c ≡ cell_of at y
    = sym (ap (λ i. record { model = i; id = y; field = at.field }) model
    ∙ ap (λ i. record { model = c.model; id = y; field = i }) field
    ∙ ap (λ i. record { model = c.model; id = i; field = c.field }) id) in
    let got : slice_get cells one.0 ≡ Some (cell_of at y) = one.2 ∙ ap (λ x. Some x) same in
    (one.0, slice_get_within cells one.0 (cell_of at y) got, get_or_from_slice_get cells one.0 (cell_of at y) (cell_of at y) got)

pub cell-at : (at : Use) (y : ℕ) (cells : List Cell) → Contains cells (cell_of at y) → list_any (is_at at y) cells ≡ true
cell-at at y cells h =
    let own : is_at at y (cell_of at y) ≡ true = and-both _ _ (eq-eqb at.model at.model refl) (and-both _ _ (eq-eqb at.field at.field refl) (eq-eqb y y refl)) in
    list_any_at (is_at at y) cells h.0 (cell_of at y) h.1 (ap (is_at at y) h.2 ∙ own)

module _ (t : Script) (is : IsScript t) (duty : Duty) (spot m : ℕ) (f : FieldInfo) (init : Init) (at : Use) (of : IsFlowDuty t duty spot m f init at)
    (d : Database) (start : IsStart t d) where
  abbrev st : Structure
  st = structure_of t.start d

  abbrev k : ℕ
  k = duty.command

  abbrev now : Database
  now = run_to t k d

  abbrev mt : ℕ
  mt = model_of_target duty.target

  all-shown : Shows t.start t.start nothing_written st d d
  all-shown = first-shown t is d start

  below : k - 1 < count t
  below = slice_get_within t.commands (k - 1) (add_field m f init) of.adds.command

  within : k ≤ count t
  within = omega (arith, below, of.adds.counted)

  added : schema_at t k ≡ schema_after (schema_at t (k - 1)) (add_field m f init)
  added =
      let number : suc (k - 1) ≡ k = omega (arith, of.adds.counted) in
      ap (schema_at t) (sym number) ∙ is.steps (k - 1) (add_field m f init) of.adds.command

  asks : HasModel (schema_at t (k - 1)) m × (f.number ≡ (schema_at t (k - 1)).next_field) × IsInit (schema_at t (k - 1)) m f.ty init
  asks = is.commands (k - 1) (add_field m f init) of.adds.command

  now-shown : Shows t.start (schema_at t k) (written_at t k) st d now
  now-shown = shown-at t is d start k within

  -- what the schema before the command says
  earlier-shown : Shows t.start (schema_at t (k - 1)) (written_at t k) st d now
  earlier-shown =
      shows-all t.start st d (schema_at t (k - 1)) (written_at t k) now
      (λ n g ty h. shown-field t.start st d (schema_at t k) (written_at t k) now now-shown n g ty
      (ap (λ (s : Schema). type_of s n g) added ∙ type-stays (schema_at t (k - 1)) m f init n g ty h))
      (λ n h. shown-model t.start st d (schema_at t k) (written_at t k) now now-shown n
      (ap (λ (s : Schema). is_some (model_of s n)) added ∙ model-stays (schema_at t (k - 1)) m f init n h))

  same-model : mt ≡ m
  same-model = ap model_of_target of.target

  start-there : HasModel t.start mt
  start-there = subst (λ (n : ℕ). HasModel t.start n) (sym same-model) (model-of-start t is (k - 1) (omega (arith, below)) m asks.0)

  now-ids : ids_of now mt ≡ ids_of d mt
  now-ids = subst (λ (n : ℕ). ids_of now n ≡ ids_of d n) (sym same-model) (earlier-shown.ids m asks.0)

  -- ---- a model that the schema of start databases need not have

  no-ids : (n : ℕ) → model_of t.start n ≡ None → ids_of d n ≡ []
  no-ids n missing =
      elim (table_of d n) as (λ (o : Option Table). table_of d n ≡ o → map (λ (r : Record). r.id) (option_map_or (λ (x : Table). x.records) o []) ≡ []) [
        | None ↦ λ here. refl
        | Some x ↦ λ here.
            let there = find-among (λ (x : Table). HasModel t.start x.model) (λ (x : Table). x.model == n) d x start.only here in
            let number : x.model ≡ n = eqb-true _ _ (find-holds (λ (x : Table). x.model == n) d x here) in
            let never : false ≡ true = ap is_some (sym missing) ∙ subst (λ (i : ℕ). HasModel t.start i) number there in
            cc
      ] refl

  any-size : (n : ℕ) → size_of st (sort_of t.start n) ≡ length (ids_of d n)
  any-size n =
      elim (model_of t.start n) as (λ (o : Option ModelInfo). model_of t.start n ≡ o → size_of st (sort_of t.start n) ≡ length (ids_of d n)) [
        | None ↦ λ here.
            missing-index (λ i. i == n) (λ i. length (ids_of d i)) (model_numbers t.start.models) 0 (number-missing t.start.models n here)
            ∙ ap length (sym (no-ids n here))
        | Some i ↦ λ here. all-shown.sizes n (ap is_some here)
      ] refl

  got-model : (n z id : ℕ) → slice_get (ids_of d n) z ≡ Some id → HasModel t.start n
  got-model n z id got =
      elim (model_of t.start n) as (λ (o : Option ModelInfo). model_of t.start n ≡ o → is_some o ≡ true) [
        | None ↦ λ here. let never : None ≡ Some id = ap (λ l. slice_get l z) (sym (no-ids n here)) ∙ got in cc
        | Some i ↦ λ here. refl
      ] refl

  -- ---- the formula

  abbrev reads_at : ℕ → List Cell
  reads_at id = init_read_by now init id (spot - 1)

  -- the use leaks a cell of the record y to the principal
  abbrev leaks : ℕ → Principal → ℕ → Bool
  leaks id q y =
      has_right_at t k duty.target Read d id q
      && (list_any (is_at at y) (reads_at id) && not (has_right_at t k (on.Field at.model at.field) Read d y q))

  abbrev body : Who → Term → ℕ → Formula
  body w y above =
      both (has_right t k duty.target Read (bound (sort_of t.start mt) 0) w true above)
      (both (init_reach t.start (written_at t k) y init (bound (sort_of t.start mt) 0) (spot - 1) above)
      (has_right t k (on.Field at.model at.field) Read y w false above))

  body-true : (xs : List ℕ) (id : ℕ) → IsTermOf t.start st d xs (base.Id mt) (Id id) (bound (sort_of t.start mt) 0)
      → (q : Principal) (w : Who) → IsWho t.start st d xs q w → (other : ℕ) (y : Term) → IsTermOf t.start st d xs (base.Id at.model) (Id other) y
      → truth st xs (body w y (length xs)) ≡ leaks id q other
  body-true xs id it q w is_who other y at_y =
      let r : Term = bound (sort_of t.start mt) 0 in
      let row : IsTermOf t.start st d xs (base.Id m) (Id id) r = subst (λ (n : ℕ). IsTermOf t.start st d xs (base.Id n) (Id id) r) same-model it in
      ap2 (λ a b. a && b) (right-true t is d start k within duty.target Read xs id r it q w is_who true)
      (ap2 (λ a b. a && b)
      (init-reached t.start (schema_at t (k - 1)) (written_at t k) st d now earlier-shown at other y m f.ty init asks.2 xs id r row at_y (spot - 1) of.used)
      (right-true t is d start k within (on.Field at.model at.field) Read xs other y at_y q w is_who false))

  abbrev to_some : ℕ → Principal → Bool
  to_some id q = list_any (λ y. leaks id q y) (ids_of d at.model)

  -- some record that is read
  source-true : (xs : List ℕ) (id : ℕ) → IsTermOf t.start st d xs (base.Id mt) (Id id) (bound (sort_of t.start mt) 0)
      → (q : Principal) (w : Who) → IsWho t.start st d xs q w → (above : ℕ) → above ≡ length xs
      → truth st xs (for_some t at.model above (λ y. body w y (above + 1))) ≡ to_some id q
  source-true xs id it q w is_who above same =
      let v : Term = bound (sort_of t.start at.model) above in
      exists-truth st xs true (sort_of t.start at.model) (body w v (above + 1)) (ids_of d at.model) (λ y. leaks id q y) (any-size at.model)
      (λ z other got.
      let zs : List ℕ = xs ++ z ∷ [] in
      let more : IsPrefix xs zs = prefix-more xs z in
      let longer : above + 1 ≡ length zs = omega (arith, same, length-append xs (z ∷ [])) in
      let next = next-is t.start t.start nothing_written st d d all-shown at.model (got-model at.model z other got) xs z other got in
      let next' : IsTermOf t.start st d zs (base.Id at.model) (Id other) v
      = subst (λ (n : ℕ). IsTermOf t.start st d zs (base.Id at.model) (Id other) (bound (sort_of t.start at.model) n)) (sym same) next in
      ap (λ n. truth st zs (body w v n)) longer
      ∙ body-true zs id (term-more t.start st d xs zs (base.Id mt) (Id id) (bound (sort_of t.start mt) 0) more it) q w (who-more t.start st d xs zs q w more is_who) other v next')

  abbrev some_leaks : Kind → ℕ → Bool
  some_leaks (kind.Static n) id = to_some id (who.Static n)
  some_leaks (kind.Model n) id = list_any (λ z. to_some id (who.Rec n z)) (ids_of d n)

  kind-true : (a : Kind) → is_kind_at t k a ≡ true → (x id : ℕ) → slice_get (ids_of d mt) x ≡ Some id
      → truth st (x ∷ []) (for_some_principal t a 1 (λ w above. for_some t at.model above (λ y. body w y (above + 1)))) ≡ some_leaks a id
  kind-true (kind.Static n) h x id got =
      source-true (x ∷ []) id (next-is t.start t.start nothing_written st d d all-shown mt start-there [] x id got) (who.Static n) (static n) refl 1 refl
  kind-true (kind.Model n) h x id got =
      let model = kind-model t is n k h in
      let first = next-is t.start t.start nothing_written st d d all-shown mt start-there [] x id got in
      exists-truth st (x ∷ []) true (sort_of t.start n)
      (for_some t at.model 2 (λ y. body (record_at n (bound (sort_of t.start n) 1)) y 3))
      (ids_of d n) (λ z. to_some id (who.Rec n z)) (all-shown.sizes n model)
      (λ z other there.
      source-true (x ∷ z ∷ []) id
      (term-more t.start st d (x ∷ []) (x ∷ z ∷ []) (base.Id mt) (Id id) (bound (sort_of t.start mt) 0) (prefix-more (x ∷ []) z) first)
      (who.Rec n other) (record_at n (bound (sort_of t.start n) 1))
      (refl, next-is t.start t.start nothing_written st d d all-shown n model (x ∷ []) z other there) 2 refl)

  pub the-formula : flow_formula_of t duty spot ≡ leak_formula t duty init (spot - 1) at
  the-formula =
      ap (λ o. option_map_or (added_formula t duty spot) o no) of.adds.command
      ∙ ap (λ o. option_map_or (leak_formula t duty init (spot - 1)) o no) of.used

  formula-true : truth st [] (flow_formula_of t duty spot) ≡ list_any (some_leaks duty.kind) (ids_of d mt)
  formula-true =
      ap (truth st []) the-formula
      ∙ exists-truth st [] true (sort_of t.start mt)
      (for_some_principal t duty.kind 1 (λ w above. for_some t at.model above (λ y. body w y (above + 1))))
      (ids_of d mt) (some_leaks duty.kind) (all-shown.sizes mt start-there) (λ x id got. kind-true duty.kind of.kind x id got)

  kind-kept : (n : ℕ) → is_kind_at t k (kind.Model n) ≡ true → ids_of now n ≡ ids_of d n
  kind-kept n h = kind-ids t is d start n k k within (omega arith) (not-true _ (and-right (list_any (λ s. has_kind s (kind.Model n)) t.schemas) _ h))

  -- ---- leaks

  reads-of : (id : ℕ) (q : Principal) (y : ℕ) → leaks id q y ≡ true → list_any (is_at at y) (reads_at id) ≡ true
  reads-of id q y h = and-left _ _ (and-right (has_right_at t k duty.target Read d id q) _ h)

  leaked : (id : ℕ) (q : Principal) (y : ℕ) → list_any (λ i. i == id) (ids_of d mt) ≡ true → is_principal_at t k now q ≡ true → leaks id q y ≡ true
      → FlowAt t k d id q (cell_of at y)
  leaked id q y there principal h = record {
    start = start;
    model = m;
    field = f;
    init = init;
    adds = of.adds;
    record_there = subst (λ (n : ℕ). has_record now n id ≡ true) same-model (ap (list_any (λ i. i == id)) now-ids ∙ there);
    principal = principal;
    reads = subst (λ (x : Target). has_right_at t k x Read d id q ≡ true) of.target (and-left _ _ h);
    touches = at-cell at y (init_touched now init id) (init-touches (is_at at y) now init id (spot - 1) (reads-of id q y h));
    denied = not-true _ (and-right (list_any (is_at at y) (reads_at id)) _ (and-right (has_right_at t k duty.target Read d id q) _ h));
  }

  record Leak (a : Kind) (id : ℕ) : Type 0 where
    who : Principal
    source : ℕ
    kind : kind_of who ≡ a
    flow : FlowAt t k d id who (cell_of at source)
    reads : Contains (reads_at id) (cell_of at source)

  leak-to : (id : ℕ) (q : Principal) → list_any (λ i. i == id) (ids_of d mt) ≡ true → is_principal_at t k now q ≡ true → to_some id q ≡ true → Leak (kind_of q) id
  leak-to id q there principal h =
      let one = some-id (λ y. leaks id q y) (ids_of d at.model) h in
      record {
        who = q;
        source = one.0;
        kind = refl;
        flow = leaked id q one.0 there principal one.1;
        reads = at-cell at one.0 (reads_at id) (reads-of id q one.0 one.1);
      }

  found : (a : Kind) → is_kind_at t k a ≡ true → (id : ℕ) → list_any (λ i. i == id) (ids_of d mt) ≡ true → some_leaks a id ≡ true → Leak a id
  found (kind.Static n) h id there e = leak-to id (who.Static n) there (and-both _ _ h refl) e
  found (kind.Model n) h id there e =
      let one = some-id (λ z. to_some id (who.Rec n z)) (ids_of d n) e in
      leak-to id (who.Rec n one.0) there (and-both _ _ h (ap (list_any (λ i. i == one.0)) (kind-kept n h) ∙ one.2)) one.1

  -- ---- the elements at which the formula is true are those of a record, of who may read the field on it, and of what leaks to them

  pub cell-leaks : (id : ℕ) (q : Principal) (other : ℕ) → leaks id q other ≡ true → Contains (init_read_by now init id (spot - 1)) (cell_of at other)
  cell-leaks id q other h = at-cell at other (reads_at id) (reads-of id q other h)

  pub static-leaks : (n : ℕ) → is_kind_at t k (kind.Static n) ≡ true → (x id : ℕ) → slice_get (ids_of d mt) x ≡ Some id
      → (z other : ℕ) → slice_get (ids_of d at.model) z ≡ Some other
      → truth st (x ∷ z ∷ []) (body (static n) (bound (sort_of t.start at.model) 1) 2) ≡ true
      → FlowAt t k d id (who.Static n) (cell_of at other) × Contains (init_read_by now init id (spot - 1)) (cell_of at other)
  static-leaks n h x id got z other there e =
      let xs : List ℕ = x ∷ z ∷ [] in
      let first = next-is t.start t.start nothing_written st d d all-shown mt start-there [] x id got in
      let row = term-more t.start st d (x ∷ []) xs (base.Id mt) (Id id) (bound (sort_of t.start mt) 0) (prefix-more (x ∷ []) z) first in
      let cell = next-is t.start t.start nothing_written st d d all-shown at.model (got-model at.model z other there) (x ∷ []) z other there in
      let leaks_so = sym (body-true xs id row (who.Static n) (static n) refl other (bound (sort_of t.start at.model) 1) cell) ∙ e in
      (leaked id (who.Static n) other (got-there (ids_of d mt) x id got) (and-both _ _ h refl) leaks_so, cell-leaks id (who.Static n) other leaks_so)

  pub record-leaks : (n : ℕ) → is_kind_at t k (kind.Model n) ≡ true → (x id : ℕ) → slice_get (ids_of d mt) x ≡ Some id
      → (y one : ℕ) → slice_get (ids_of d n) y ≡ Some one → (z other : ℕ) → slice_get (ids_of d at.model) z ≡ Some other
      → truth st (x ∷ y ∷ z ∷ []) (body (record_at n (bound (sort_of t.start n) 1)) (bound (sort_of t.start at.model) 2) 3) ≡ true
      → FlowAt t k d id (who.Rec n one) (cell_of at other) × Contains (init_read_by now init id (spot - 1)) (cell_of at other)
  record-leaks n h x id got y one is_one z other there e =
      let xs : List ℕ = x ∷ y ∷ z ∷ [] in
      let first = next-is t.start t.start nothing_written st d d all-shown mt start-there [] x id got in
      let row = term-more t.start st d (x ∷ []) xs (base.Id mt) (Id id) (bound (sort_of t.start mt) 0) (y ∷ z ∷ [], refl) first in
      let second = next-is t.start t.start nothing_written st d d all-shown n (kind-model t is n k h) (x ∷ []) y one is_one in
      let second-is = who-more t.start st d (x ∷ y ∷ []) xs (who.Rec n one) (record_at n (bound (sort_of t.start n) 1)) (prefix-more (x ∷ y ∷ []) z) (refl, second) in
      let cell = next-is t.start t.start nothing_written st d d all-shown at.model (got-model at.model z other there) (x ∷ y ∷ []) z other there in
      let leaks_so = sym (body-true xs id row (who.Rec n one) (record_at n (bound (sort_of t.start n) 1)) second-is other (bound (sort_of t.start at.model) 2) cell) ∙ e in (
        leaked id (who.Rec n one) other (got-there (ids_of d mt) x id got)
            (and-both _ _ h (ap (list_any (λ i. i == one)) (kind-kept n h) ∙ got-there (ids_of d n) y one is_one)) leaks_so,
        cell-leaks id (who.Rec n one) other leaks_so,
      )

  leaks-true : (id : ℕ) (q : Principal) (y : ℕ) → FlowAt t k d id q (cell_of at y) → Contains (reads_at id) (cell_of at y) → leaks id q y ≡ true
  leaks-true id q y g reads =
      let one : Some (add_field m f init) ≡ Some (add_field g.model g.field g.init) = sym of.adds.command ∙ g.adds.command in
      let model : g.model ≡ m = cc in
      let field : g.field ≡ f = cc in
      let target : on.Field g.model g.field.number ≡ duty.target
      = ap (λ i. on.Field i g.field.number) model ∙ ap (λ (x : FieldInfo). on.Field m x.number) field ∙ sym of.target in
      and-both _ _ (subst (λ (x : Target). has_right_at t k x Read d id q ≡ true) target g.reads)
      (and-both _ _ (cell-at at y (reads_at id) reads) (ap not g.denied))

  row-there : (id : ℕ) (q : Principal) (cell : Cell) → FlowAt t k d id q cell → list_any (λ i. i == id) (ids_of d mt) ≡ true
  row-there id q cell g =
      let one : Some (add_field m f init) ≡ Some (add_field g.model g.field g.init) = sym of.adds.command ∙ g.adds.command in
      let model : g.model ≡ m = cc in
      ap (list_any (λ i. i == id)) (sym now-ids) ∙ subst (λ (n : ℕ). has_record now n id ≡ true) (model ∙ sym same-model) g.record_there

  some-leaks : (a : Kind) → is_kind_at t k a ≡ true → (id : ℕ) (q : Principal) → kind_of q ≡ a → is_principal_at t k now q ≡ true → to_some id q ≡ true → some_leaks a id ≡ true
  some-leaks (kind.Static n) h id (who.Static i) e there k = let same : i ≡ n = cc in subst (λ (j : ℕ). to_some id (who.Static j) ≡ true) same k
  some-leaks (kind.Static n) h id (who.Rec i z) e there k = cc
  some-leaks (kind.Model n) h id (who.Static i) e there k = cc
  some-leaks (kind.Model n) h id (who.Rec i z) e there k =
      let same : i ≡ n = cc in
      let record_there : has_record now i z ≡ true = and-right (is_kind_at t duty.command (kind.Model i)) _ there in
      let here : list_any (λ j. j == z) (ids_of d n) ≡ true
      = ap (list_any (λ j. j == z)) (sym (kind-kept n h)) ∙ subst (λ (j : ℕ). has_record now j z ≡ true) same record_there in
      id-passes (λ z. to_some id (who.Rec n z)) (ids_of d n) z here (subst (λ (j : ℕ). to_some id (who.Rec j z) ≡ true) same k)

  fails : truth st [] (flow_formula_of t duty spot) ≡ true → LeaksToSomebody t duty spot init at d
  fails h =
      let one = some-id (some_leaks duty.kind) (ids_of d mt) (sym formula-true ∙ h) in
      let leak = found duty.kind of.kind one.0 one.2 one.1 in
      record { id = one.0; who = leak.who; source = leak.source; kind = leak.kind; flow = leak.flow; reads = leak.reads }

  source-there : (g : LeaksToSomebody t duty spot init at d) → has_record d at.model g.source ≡ true
  source-there g =
      let row : has_record d m g.id ≡ true = subst (λ (n : ℕ). has_record d n g.id ≡ true) same-model (row-there g.id g.who (cell_of at g.source) g.flow) in
      init-there t.start (schema_at t (k - 1)) (written_at t k) st d now earlier-shown at g.source m f.ty init asks.2
      (element_of d m g.id ∷ []) g.id (bound (sort_of t.start m) 0) (first-is t.start st d m g.id (sort_of t.start m) [] row)
      (spot - 1) (cell-at at g.source (reads_at g.id) g.reads)

  holds : LeaksToSomebody t duty spot init at d → truth st [] (flow_formula_of t duty spot) ≡ true
  holds g =
      formula-true
      ∙ id-passes (some_leaks duty.kind) (ids_of d mt) g.id (row-there g.id g.who (cell_of at g.source) g.flow)
      (some-leaks duty.kind of.kind g.id g.who g.kind g.flow.principal
      (id-passes (λ y. leaks g.id g.who y) (ids_of d at.model) g.source (source-there g) (leaks-true g.id g.who g.source g.flow g.reads)))

pub true_flows : FlowFormulasAreTrue
true_flows t is duty spot m f init at of d start = (fails t is duty spot m f init at of d start, holds t is duty spot m f init at of d start)
