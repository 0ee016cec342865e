-- A script none of whose obligations fails is secure at each step.
use Rattle.std.proofs.Common.{◌≡◌, ℕ, zero, suc, ◌+◌, ◌-◌, ◌<◌, ◌≤◌, Bool, true, false, ◌&&◌, List, [], ◌∷◌, ◌++◌, length, refl, ap, sym, ◌∙◌, subst, arith, cond, Contains}
use Rattle.std.specs.Prelude.{Option, Some, None, ◌==◌, map, filter, flat_map, is_some, slice_get}
use Rattle.std.specs.List.{range_with_len}
use Rattle.std.specs.Option.{option_map_or}
use Rattle.std.proofs.lemmas.Bool.{eqb-true}
use Rattle.std.proofs.lemmas.Option.{slice_get_within, get_or_from_slice_get}
use Rattle.std.proofs.lemmas.List.Elements.{Contains-append_left, Contains-append_right}
use Rattle.std.proofs.lemmas.List.FromFn.{length-range_with_len, get_or-range_with_len}
use Rattle.type_schema.specs.declared.rights.Kind.{Kind}
use Rattle.type_schema.specs.declared.rights.Kind.TheVariants as kind
use Rattle.type_schema.specs.declared.rights.Right.{Right}
use Rattle.type_schema.specs.declared.rights.Right.TheVariants.{Read, Write, Create, Delete}
use Rattle.type_schema.specs.declared.rights.Target.{Target}
use Rattle.type_schema.specs.declared.rights.Target.TheVariants as on
use Rattle.type_schema.specs.Trees.{Policy, Init}
use Rattle.type_schema.specs.Schema.{StaticInfo, ModelInfo, Schema, model_of, static_of}
use Rattle.type_schema.specs.Typing.{HasModel}
use Rattle.type_schema.specs.Commands.{Command, create_model, delete_model, add_static, remove_static, add_principal, add_field, remove_field, update_field, weaken_field, update_model, weaken_model, schema_after}
use Rattle.type_schema.specs.Uses.{Use, init_uses_of}
use Rattle.type_schema.specs.Script.{Script, schema_at, command_at, count, IsScript}
use Rattle.type_schema.specs.Kinds.{has_kind, is_kind_at, kinds_at, numbers_below}
use Rattle.data_meaning.specs.declared.principals.Principal.{Principal}
use Rattle.data_meaning.specs.Database.{Database}
use Rattle.data_meaning.proofs.Finds.{find-holds, find-among}
use Rattle.data_meaning.specs.declared.cells.Cell.{Cell}
use Rattle.data_meaning.specs.Run.{run_to}
use Rattle.data_meaning.specs.Gain.{kind_of, gives_field, gives_model, updates, GainAt, FlowAt}
use Rattle.data_meaning.specs.Secure.{IsStepSecure}
use Rattle.data_meaning.proofs.Tests.{and-left, and-right}
use Rattle.form_formula.specs.Truth.{truth}
use Rattle.duty_meaning.specs.declared.duty.Duty.{Duty}
use Rattle.duty_meaning.specs.Structures.{structure_of}
use Rattle.duty_meaning.specs.Duties.{gains_at, flows_at, obligations_at, obligations_of, gain_formula_of, flow_formula_of}
use Rattle.duty_meaning.specs.Reads.{init_read_by}
use Rattle.duty_meaning.specs.Gains.{IsGainDuty}
use Rattle.duty_meaning.specs.Flows.{cell_of, IsFlowDuty}
use Rattle.duty_meaning.specs.Failing.{NoneFails}
use Rattle.duty_meaning.proofs.Shown.{some-passes}
use Rattle.duty_meaning.proofs.Created.{all-mapped, command-there, next-rises, model-early}
use Rattle.duty_meaning.proofs.Gains.{true_gains}
use Rattle.duty_meaning.proofs.Flows.{true_flows}
use Rattle.duty_meaning.proofs.UsedCells.{uses-read}

-- ---- lists

pub no-element : {X : Type 0} {A : Type 0} (x : X) → Contains [] x → A
no-element x h = absurd (omega (arith, h.1))

pub in-tail : {X : Type 0} (y : X) (xs : List X) (x : X) → Contains xs x → Contains (y ∷ xs) x
in-tail y xs x h = (suc h.0, omega (arith, h.1), h.2)

in-mapped : {X Y : Type 0} (f : X → Y) (xs : List X) (x : X) → Contains xs x → Contains (map f xs) (f x)
in-mapped f [] x h = no-element x h
in-mapped f (y ∷ xs) x (zero, less, e) = (0, omega arith, ap f e)
in-mapped f (y ∷ xs) x (suc k, less, e) = in-tail (f y) (map f xs) (f x) (in-mapped f xs x (k, omega (arith, less), e))

in-filtered : {X : Type 0} (p : X → Bool) (xs : List X) (x : X) → Contains xs x → p x ≡ true → Contains (filter p xs) x
in-filtered p [] x h k = no-element x h
in-filtered {X} p (y ∷ xs) x (zero, less, e) k =
    let passes : p y ≡ true = ap p e ∙ k in
    subst (λ (b : Bool). Contains (cond b (y ∷ filter p xs) (filter p xs)) x) (sym passes) (0, omega arith, e)
in-filtered {X} p (y ∷ xs) x (suc i, less, e) k =
    let later = in-filtered p xs x (i, omega (arith, less), e) k in
    elim (p y) as (λ (b : Bool). Contains (cond b (y ∷ filter p xs) (filter p xs)) x) [
      | true ↦ in-tail y (filter p xs) x later
      | false ↦ later
    ]

in-flat : {X Y : Type 0} (f : X → List Y) (xs : List X) (x : X) (y : Y) → Contains xs x → Contains (f x) y → Contains (flat_map f xs) y
in-flat f [] x y h k = no-element x h
in-flat {X} {Y} f (z ∷ xs) x y (zero, less, e) k =
    Contains-append_left (f z) (flat_map f xs) y (subst (λ (u : X). Contains (f u) y) (sym e) k)
in-flat {X} {Y} f (z ∷ xs) x y (suc i, less, e) k =
    Contains-append_right (f z) (flat_map f xs) y (in-flat f xs x y (i, omega (arith, less), e) k)

in-range : (first n x : ℕ) → first ≤ x → x < first + n → Contains (range_with_len first n) x
in-range first n x low high =
    let within : x - first < n = omega (arith, low, high) in
    let place : first + (x - first) ≡ x = omega (arith, low) in
    (x - first, subst (λ (l : ℕ). x - first < l) (sym (length-range_with_len first n)) within, get_or-range_with_len first n (x - first) x within ∙ place)

-- ---- obligations of a command

in-given : (k : ℕ) (kinds : List Kind) (target : Target) (right : Right) (policy : Option Policy) (a : Kind) → is_some policy ≡ true → Contains kinds a
    → Contains (gains_at k kinds target right policy) (record { command = k; target = target; right = right; spot = None; kind = a })
in-given k kinds target right None a h there = cc
in-given k kinds target right (Some p) a h there =
    in-mapped (λ a. record { command = k; target = target; right = right; spot = None; kind = a }) kinds a there

of-field : (k : ℕ) (kinds : List Kind) (n f : ℕ) (read write : Option Policy) (a : Kind) → Contains kinds a → (right : Right) → gives_field right read write ≡ true
    → Contains (gains_at k kinds (on.Field n f) Read read ++ gains_at k kinds (on.Field n f) Write write)
    (record { command = k; target = on.Field n f; right = right; spot = None; kind = a })
of-field k kinds n f read write a there Read h =
    Contains-append_left (gains_at k kinds (on.Field n f) Read read) (gains_at k kinds (on.Field n f) Write write) _ (in-given k kinds (on.Field n f) Read read a h there)
of-field k kinds n f read write a there Write h =
    Contains-append_right (gains_at k kinds (on.Field n f) Read read) (gains_at k kinds (on.Field n f) Write write) _ (in-given k kinds (on.Field n f) Write write a h there)
of-field k kinds n f read write a there Create h = cc
of-field k kinds n f read write a there Delete h = cc

of-model : (k : ℕ) (kinds : List Kind) (n : ℕ) (create delete : Option Policy) (a : Kind) → Contains kinds a → (right : Right) → gives_model right create delete ≡ true
    → Contains (gains_at k kinds (on.Model n) Create create ++ gains_at k kinds (on.Model n) Delete delete)
    (record { command = k; target = on.Model n; right = right; spot = None; kind = a })
of-model k kinds n create delete a there Read h = cc
of-model k kinds n create delete a there Write h = cc
of-model k kinds n create delete a there Create h =
    Contains-append_left (gains_at k kinds (on.Model n) Create create) (gains_at k kinds (on.Model n) Delete delete) _ (in-given k kinds (on.Model n) Create create a h there)
of-model k kinds n create delete a there Delete h =
    Contains-append_right (gains_at k kinds (on.Model n) Create create) (gains_at k kinds (on.Model n) Delete delete) _ (in-given k kinds (on.Model n) Delete delete a h there)

pub of-updated : (k : ℕ) (kinds : List Kind) (target : Target) (right : Right) (c : Command) (a : Kind) → updates target right c ≡ true → Contains kinds a
    → Contains (obligations_at k kinds c) (record { command = k; target = target; right = right; spot = None; kind = a })
of-updated k kinds target right (create_model info) a h there = cc
of-updated k kinds target right (delete_model n) a h there = cc
of-updated k kinds target right (add_static info) a h there = cc
of-updated k kinds target right (remove_static n) a h there = cc
of-updated k kinds target right (add_principal n) a h there = cc
of-updated k kinds target right (add_field n f init) a h there = cc
of-updated k kinds target right (remove_field n f) a h there = cc
of-updated k kinds (on.Field m g) right (update_field n f read write) a h there =
    let same = and-left ((m == n) && (g == f)) _ h in
    let model : n ≡ m = sym (eqb-true m n (and-left (m == n) (g == f) same)) in
    let field : f ≡ g = sym (eqb-true g f (and-right (m == n) (g == f) same)) in
    subst (λ (i : ℕ). Contains (obligations_at k kinds (update_field n f read write)) (record { command = k; target = on.Field i g; right = right; spot = None; kind = a })) model
    (subst (λ (j : ℕ). Contains (obligations_at k kinds (update_field n f read write)) (record { command = k; target = on.Field n j; right = right; spot = None; kind = a })) field
    (of-field k kinds n f read write a there right (and-right ((m == n) && (g == f)) _ h)))
of-updated k kinds (on.Model m) right (update_field n f read write) a h there = cc
of-updated k kinds target right (weaken_field n f read write reason) a h there = cc
of-updated k kinds (on.Field m g) right (update_model n create delete) a h there = cc
of-updated k kinds (on.Model m) right (update_model n create delete) a h there =
    let model : n ≡ m = sym (eqb-true m n (and-left (m == n) _ h)) in
    subst (λ (i : ℕ). Contains (obligations_at k kinds (update_model n create delete)) (record { command = k; target = on.Model i; right = right; spot = None; kind = a })) model
    (of-model k kinds n create delete a there right (and-right (m == n) _ h))
of-updated k kinds target right (weaken_model n create delete reason) a h there = cc

pub of-added : (k : ℕ) (kinds : List Kind) (target : Target) (init : Init) (spot : ℕ) (a : Kind) → 1 ≤ spot → spot ≤ length (init_uses_of init) → Contains kinds a
    → Contains (flows_at k kinds target init) (record { command = k; target = target; right = Read; spot = Some spot; kind = a })
of-added k kinds target init spot a low high there =
    in-flat (λ n. map (λ a. record { command = k; target = target; right = Read; spot = Some n; kind = a }) kinds) (range_with_len 1 (length (init_uses_of init))) spot
    (record { command = k; target = target; right = Read; spot = Some spot; kind = a })
    (in-range 1 (length (init_uses_of init)) spot low (omega (arith, high)))
    (in-mapped (λ a. record { command = k; target = target; right = Read; spot = Some spot; kind = a }) kinds a there)

marked : (s : Schema) (n : ℕ) → has_kind s (kind.Model n) ≡ true → HasModel s n
marked s n h =
    elim (model_of s n) as (λ (o : Option ModelInfo). option_map_or (λ (i : ModelInfo). i.principal) o false ≡ true → is_some o ≡ true) [
      | None ↦ λ e. cc
      | Some i ↦ λ e. refl
    ] h

module _ (t : Script) (is : IsScript t) where
  pub of-command : (k : ℕ) (c : Command) (duty : Duty) → 1 ≤ k → command_at t (k - 1) ≡ Some c → Contains (obligations_at k (kinds_at t k) c) duty → Contains (obligations_of t) duty
  of-command k c duty low here h =
      let below = slice_get_within t.commands (k - 1) c here in
      in-flat (λ k. option_map_or (obligations_at k (kinds_at t k)) (command_at t (k - 1)) []) (range_with_len 1 (count t)) k duty
      (in-range 1 (count t) k low (omega (arith, below, low)))
      (subst (λ (o : Option Command). Contains (option_map_or (obligations_at k (kinds_at t k)) o []) duty) (sym here) h)

  -- ---- kinds

  static-after : (s : Schema) (c : Command) → s.next_static ≤ (let u : Schema = schema_after s c in u.next_static)
  static-after s (create_model info) = omega arith
  static-after s (delete_model n) = omega arith
  static-after s (add_static info) = omega arith
  static-after s (remove_static n) = omega arith
  static-after s (add_principal n) = omega arith
  static-after s (add_field n f init) = omega arith
  static-after s (remove_field n f) = omega arith
  static-after s (update_field n f read write) = omega arith
  static-after s (weaken_field n f read write reason) = omega arith
  static-after s (update_model n create delete) = omega arith
  static-after s (weaken_model n create delete reason) = omega arith

  statics-rise : (j n : ℕ) → j + n ≤ count t → (schema_at t j).next_static ≤ (schema_at t (j + n)).next_static
  statics-rise j zero within = let same : j + 0 ≡ j = omega arith in subst (λ (k : ℕ). (schema_at t j).next_static ≤ (schema_at t k).next_static) (sym same) (omega arith)
  statics-rise j (suc n) within =
      let step : j + suc n ≡ suc (j + n) = omega arith in
      let below : j + n < count t = omega (arith, within) in
      let c = command-there t is (j + n) below in
      let before = statics-rise j n (omega (arith, within)) in
      let after = static-after (schema_at t (j + n)) c.0 in
      let up : (schema_at t j).next_static ≤ (schema_after (schema_at t (j + n)) c.0).next_static = omega (arith, before, after) in
      subst (λ (k : ℕ). (schema_at t j).next_static ≤ (schema_at t k).next_static) (sym step)
      (subst (λ (s : Schema). (schema_at t j).next_static ≤ s.next_static) (sym (is.steps (j + n) c.0 c.1)) up)

  static-early : (j n : ℕ) → j ≤ count t → is_some (static_of (schema_at t j) n) ≡ true → n < (schema_at t (count t)).next_static
  static-early j n within h =
      let gap : j + (count t - j) ≡ count t = omega (arith, within) in
      let up = statics-rise j (count t - j) (omega (arith, within)) in
      let rises : (schema_at t j).next_static ≤ (schema_at t (count t)).next_static
      = subst (λ (i : ℕ). (schema_at t j).next_static ≤ (schema_at t i).next_static) gap up in
      elim (static_of (schema_at t j) n) as (λ (o : Option StaticInfo). static_of (schema_at t j) n ≡ o → is_some o ≡ true → n < (schema_at t (count t)).next_static) [
        | None ↦ λ here e. cc
        | Some i ↦ λ here e.
            let numbers = is.proper j within in
            let below = find-among (λ (u : StaticInfo). u.number < (schema_at t j).next_static) (λ (u : StaticInfo). u.number == n) (schema_at t j).statics i
            (all-mapped (λ n. n < (schema_at t j).next_static) (λ (u : StaticInfo). u.number) (schema_at t j).statics numbers.statics.below) here in
            let number : i.number ≡ n = eqb-true _ _ (find-holds (λ (u : StaticInfo). u.number == n) (schema_at t j).statics i here) in
            omega (arith, below, number, rises)
      ] refl h

  model-last : (j n : ℕ) → j ≤ count t → HasModel (schema_at t j) n → n < (schema_at t (count t)).next_model
  model-last j n within h =
      let gap : j + (count t - j) ≡ count t = omega (arith, within) in
      let up = next-rises t is j (count t - j) (omega (arith, within)) in
      let rises : (schema_at t j).next_model ≤ (schema_at t (count t)).next_model
      = subst (λ (i : ℕ). (schema_at t j).next_model ≤ (schema_at t i).next_model) gap up in
      let below = model-early t is j n within h in
      omega (arith, below, rises)

  pub kind-listed : (k : ℕ) (a : Kind) → is_kind_at t k a ≡ true → Contains (kinds_at t k) a
  kind-listed k a h =
      in-filtered (is_kind_at t k)
      (map (λ n. kind.Static n) (numbers_below (schema_at t (count t)).next_static) ++ map (λ m. kind.Model m) (numbers_below (schema_at t (count t)).next_model)) a (of-number a h) h
    where
      of-number : (a : Kind) → is_kind_at t k a ≡ true → Contains (map (λ n. kind.Static n) (numbers_below (schema_at t (count t)).next_static) ++ map (λ m. kind.Model m) (numbers_below (schema_at t (count t)).next_model)) a
      of-number (kind.Static n) h =
          let one = some-passes (λ s. has_kind s (kind.Static n)) t.schemas (and-left _ _ h) in
          let same : schema_at t one.0 ≡ one.1 = get_or_from_slice_get t.schemas one.0 one.1 t.start one.2 in
          let number = slice_get_within t.schemas one.0 one.1 one.2 in
          let within : one.0 ≤ count t = omega (arith, number, is.schemas) in
          let below = static-early one.0 n within (ap (λ (s : Schema). is_some (static_of s n)) same ∙ one.3) in
          Contains-append_left (map (λ n. kind.Static n) (numbers_below (schema_at t (count t)).next_static)) (map (λ m. kind.Model m) (numbers_below (schema_at t (count t)).next_model)) (kind.Static n)
          (in-mapped (λ n. kind.Static n) (numbers_below (schema_at t (count t)).next_static) n (in-range 0 (schema_at t (count t)).next_static n (omega arith) (omega (arith, below))))
      of-number (kind.Model n) h =
          let one = some-passes (λ s. has_kind s (kind.Model n)) t.schemas (and-left _ _ h) in
          let same : schema_at t one.0 ≡ one.1 = get_or_from_slice_get t.schemas one.0 one.1 t.start one.2 in
          let number = slice_get_within t.schemas one.0 one.1 one.2 in
          let within : one.0 ≤ count t = omega (arith, number, is.schemas) in
          let there : HasModel (schema_at t one.0) n = ap (λ (s : Schema). is_some (model_of s n)) same ∙ marked one.1 n one.3 in
          let below = model-last one.0 n within there in
          Contains-append_right (map (λ n. kind.Static n) (numbers_below (schema_at t (count t)).next_static)) (map (λ m. kind.Model m) (numbers_below (schema_at t (count t)).next_model)) (kind.Model n)
          (in-mapped (λ m. kind.Model m) (numbers_below (schema_at t (count t)).next_model) n (in-range 0 (schema_at t (count t)).next_model n (omega arith) (omega (arith, below))))

  module _ (none : NoneFails t) where
    no-gain : (k : ℕ) (target : Target) (right : Right) (d : Database) (id : ℕ) (q : Principal) → GainAt t k target right d id q → ⊥
    no-gain k target right d id q g =
        let duty : Duty = record { command = k; target = target; right = right; spot = None; kind = kind_of q } in
        let a_kind : is_kind_at t k (kind_of q) ≡ true = and-left _ _ g.principal in
        let of : IsGainDuty t duty = record { counted = g.counted; updated = g.updated; kind = a_kind } in
        let listed : Contains (obligations_of t) duty
        = elim (command_at t (k - 1)) as (λ (o : Option Command). command_at t (k - 1) ≡ o → option_map_or (updates target right) o false ≡ true → Contains (obligations_of t) duty) [
          | None ↦ λ here e. cc
          | Some c ↦ λ here e. of-command k c duty g.counted here (of-updated k (kinds_at t k) target right c (kind_of q) e (kind-listed k (kind_of q) a_kind))
        ] refl g.updated in
        let true_there : truth (structure_of t.start d) [] (gain_formula_of t duty) ≡ true
        = (true_gains t is duty of d g.start).1 (record { id = id; who = q; kind = refl; gain = g }) in
        let never : true ≡ false = sym true_there ∙ none duty listed d g.start in
        cc

    no-flow : (k : ℕ) (d : Database) (id : ℕ) (q : Principal) (cell : Cell) → FlowAt t k d id q cell → ⊥
    no-flow k d id q cell g =
        let now : Database = run_to t k d in
        let use_of = (uses-read now g.init id cell).0 g.touches in
        let n : ℕ = use_of.number in
        let at : Use = use_of.used in
        let same : cell ≡ cell_of at cell.id
        = ap (λ i. record { model = i; id = cell.id; field = cell.field }) (sym use_of.model) ∙ ap (λ i. record { model = at.model; id = cell.id; field = i }) (sym use_of.field) in
        let target : Target = on.Field g.model g.field.number in
        let duty : Duty = record { command = k; target = target; right = Read; spot = Some (suc n); kind = kind_of q } in
        let a_kind : is_kind_at t k (kind_of q) ≡ true = and-left _ _ g.principal in
        let number : suc n - 1 ≡ n = omega arith in
        let within = slice_get_within (init_uses_of g.init) n at use_of.at in
        let of : IsFlowDuty t duty (suc n) g.model g.field g.init at = record {
          adds = g.adds;
          target = refl;
          numbered = omega arith;
          used = ap (slice_get (init_uses_of g.init)) number ∙ use_of.at;
          kind = a_kind;
        } in
        let listed : Contains (obligations_of t) duty
        = of-command k (add_field g.model g.field g.init) duty g.adds.counted g.adds.command
        (of-added k (kinds_at t k) target g.init (suc n) (kind_of q) (omega arith) (omega (arith, within)) (kind-listed k (kind_of q) a_kind)) in
        let true_there : truth (structure_of t.start d) [] (flow_formula_of t duty (suc n)) ≡ true
        = (true_flows t is duty (suc n) g.model g.field g.init at of d g.start).1 (record {
          id = id;
          who = q;
          source = cell.id;
          kind = refl;
          flow = subst (λ (c : Cell). FlowAt t k d id q c) same g;
          reads = subst (λ (c : Cell). Contains (init_read_by now g.init id (suc n - 1)) c) same (subst (λ (i : ℕ). Contains (init_read_by now g.init id i) cell) (sym number) use_of.reads);
        }) in
        let never : true ≡ false = sym true_there ∙ none duty listed d g.start in
        cc

pub secure_where_false : (t : Script) → IsScript t → NoneFails t → IsStepSecure t
secure_where_false t is none = record { no_gain = no-gain t is none; no_flow = no-flow t is none }
