-- The schema of a script's start databases: numbers of models, and of the fields of one, differ.
use Rattle.std.proofs.Common.{◌≡◌, ℕ, suc, ◌+◌, ◌<◌, ◌≤◌, false, List, [], ◌∷◌, ◌++◌, refl, ap, sym, ◌∙◌, subst, arith}
use Rattle.std.specs.Prelude.{Some, nat_eq, slice_get}
use Rattle.std.specs.List.{AllByRecursion, IsDistinct}
use Rattle.std.proofs.lemmas.Bool.{eqb-true, false_from_ne_true}
use Rattle.type_schema.specs.Schema.{FieldInfo, ModelInfo, Schema}
use Rattle.type_schema.specs.Commands.{Command, create_model, delete_model, add_static, remove_static, add_principal, add_field, remove_field, update_field, weaken_field, update_model, weaken_model, AreNumberedFrom, schema_after}
use Rattle.type_schema.specs.Script.{Script, schema_at, command_at, closed_field, closed_model, created_by, created, IsScript}
use Rattle.type_schema.specs.Proper.{field_numbers, model_numbers, AreProperFields}
use Rattle.duty_meaning.proofs.Created.{next-after, created-number}
use Rattle.check_witness.specs.Back.{ScriptsAreBuildable}
use Rattle.check_witness.proofs.Lists.{all-implied, all-append, map-twice, Rises}

rises-distinct : (ns : List ℕ) → Rises ns → IsDistinct nat_eq ns
unfolding IsDistinct
rises-distinct [] up = tt
rises-distinct (n ∷ ns) up = (
  all-implied (λ m. n < m) (λ m. nat_eq n m ≡ false)
      (λ m less. false_from_ne_true _ (λ h. let same : n ≡ m = eqb-true n m h in absurd (omega (arith, less, same)))) ns up.0,
  rises-distinct ns up.1,
)

append-distinct : (ns ms : List ℕ) (next : ℕ) → IsDistinct nat_eq ns → IsDistinct nat_eq ms → AllByRecursion (λ n. n < next) ns → AllByRecursion (λ m. next ≤ m) ms
    → IsDistinct nat_eq (ns ++ ms)
unfolding IsDistinct
append-distinct [] ms next d e below above = e
append-distinct (n ∷ ns) ms next d e below above = (
  all-append (λ m. nat_eq n m ≡ false) ns ms d.0
      (all-implied (λ m. next ≤ m) (λ m. nat_eq n m ≡ false)
      (λ m high. let low = below.0 in false_from_ne_true _ (λ h. let same : n ≡ m = eqb-true n m h in absurd (omega (arith, low, high, same)))) ms above),
  append-distinct ns ms next d.1 e below.1 above,
)

numbers-append : (xs ys : List ModelInfo) → model_numbers (xs ++ ys) ≡ model_numbers xs ++ model_numbers ys
numbers-append [] ys = refl
numbers-append (x ∷ xs) ys = ap (λ ns. x.number ∷ ns) (numbers-append xs ys)

-- fields that are numbered one after another
numbered-above : (n k : ℕ) (fields : List FieldInfo) → AreNumberedFrom n fields → k ≤ n → AllByRecursion (λ m. k ≤ m) (field_numbers fields)
numbered-above n k [] is low = tt
numbered-above n k (f ∷ fields) is low =
    let here = is.0 in
    (omega (arith, here, low), numbered-above (n + 1) k fields is.1 (omega (arith, low)))

numbered-rise : (n : ℕ) (fields : List FieldInfo) → AreNumberedFrom n fields → Rises (field_numbers fields)
numbered-rise n [] is = tt
numbered-rise n (f ∷ fields) is =
    let here = is.0 in (
      all-implied (λ m. n + 1 ≤ m) (λ m. f.number < m) (λ m above. omega (arith, here, above)) (field_numbers fields) (numbered-above (n + 1) (n + 1) fields is.1 (omega arith)),
      numbered-rise (n + 1) fields is.1,
    )

abbrev pub HasFields : ModelInfo → Type 0
HasFields m = IsDistinct nat_eq (field_numbers m.fields)

module _ (t : Script) (is : IsScript t) where
  -- the commands behind the first k
  abbrev AreBehind : ℕ → List Command → Type 0
  AreBehind k commands = (j : ℕ) (c : Command) → slice_get commands j ≡ Some c → command_at t (k + j) ≡ Some c

  first-behind : (k : ℕ) (c : Command) (commands : List Command) → AreBehind k (c ∷ commands) → command_at t k ≡ Some c
  first-behind k c commands behind = let same : k ≡ k + 0 = omega arith in ap (command_at t) same ∙ behind 0 c refl

  rest-behind : (k : ℕ) (c : Command) (commands : List Command) → AreBehind k (c ∷ commands) → AreBehind (suc k) commands
  rest-behind k c commands behind j x e = let same : suc k + j ≡ k + suc j = omega arith in ap (command_at t) same ∙ behind (suc j) x e

  abbrev RiseFrom : ℕ → List ModelInfo → Type 0
  RiseFrom next models = AllByRecursion (λ n. next ≤ n) (model_numbers models) × Rises (model_numbers models)

  -- what rises behind a command rises before it
  from-before : (k : ℕ) (c : Command) → command_at t k ≡ Some c → (models : List ModelInfo) → RiseFrom (schema_at t (suc k)).next_model models
      → RiseFrom (schema_at t k).next_model models
  from-before k c here models up =
      let after = next-after t is (schema_at t k) c in
      let step : (schema_at t (suc k)).next_model ≡ (schema_after (schema_at t k) c).next_model = ap (λ (s : Schema). s.next_model) (is.steps k c here) in
      (all-implied (λ n. (schema_at t (suc k)).next_model ≤ n) (λ n. (schema_at t k).next_model ≤ n) (λ n high. omega (arith, after, step, high)) (model_numbers models) up.0, up.1)

  one-more : (k : ℕ) (info : ModelInfo) → command_at t k ≡ Some (create_model info) → (models : List ModelInfo) → RiseFrom (schema_at t (suc k)).next_model models
      → RiseFrom (schema_at t k).next_model (closed_model info ∷ models)
  one-more k info here models up =
      let number = created-number t is k info here in
      let step : (schema_at t (suc k)).next_model ≡ (schema_at t k).next_model + 1 = ap (λ (s : Schema). s.next_model) (is.steps k (create_model info) here) in
      let above = all-implied (λ n. (schema_at t (suc k)).next_model ≤ n) (λ n. info.number < n) (λ n high. omega (arith, number, step, high)) (model_numbers models) up.0 in
      ((omega (arith, number), (from-before k (create_model info) here models up).0), (above, up.1))

  created-rise : (commands : List Command) (k : ℕ) → AreBehind k commands → RiseFrom (schema_at t k).next_model (created commands)
  created-rise [] k behind = (tt, tt)
  created-rise (c ∷ commands) k behind = with-command c (first-behind k c commands behind) (created-rise commands (suc k) (rest-behind k c commands behind))
    where
      with-command : (c : Command) → command_at t k ≡ Some c → RiseFrom (schema_at t (suc k)).next_model (created commands)
          → RiseFrom (schema_at t k).next_model (created_by c ++ created commands)
      with-command (create_model info) here up = one-more k info here (created commands) up
      with-command (delete_model n) here up = from-before k (delete_model n) here (created commands) up
      with-command (add_static info) here up = from-before k (add_static info) here (created commands) up
      with-command (remove_static n) here up = from-before k (remove_static n) here (created commands) up
      with-command (add_principal n) here up = from-before k (add_principal n) here (created commands) up
      with-command (add_field n f init) here up = from-before k (add_field n f init) here (created commands) up
      with-command (remove_field n f) here up = from-before k (remove_field n f) here (created commands) up
      with-command (update_field n f read write) here up = from-before k (update_field n f read write) here (created commands) up
      with-command (weaken_field n f read write reason) here up = from-before k (weaken_field n f read write reason) here (created commands) up
      with-command (update_model n create delete) here up = from-before k (update_model n create delete) here (created commands) up
      with-command (weaken_model n create delete reason) here up = from-before k (weaken_model n create delete reason) here (created commands) up

  created-fields : (commands : List Command) (k : ℕ) → AreBehind k commands → AllByRecursion HasFields (created commands)
  created-fields [] k behind = tt
  created-fields (c ∷ commands) k behind =
      all-append HasFields (created_by c) (created commands) (by-command c (first-behind k c commands behind))
      (created-fields commands (suc k) (rest-behind k c commands behind))
    where
      by-command : (c : Command) → command_at t k ≡ Some c → AllByRecursion HasFields (created_by c)
      by-command (create_model info) here = (
        subst (IsDistinct nat_eq) (sym (map-twice (λ (f : FieldInfo). f.number) closed_field info.fields))
            (rises-distinct (field_numbers info.fields) (numbered-rise (schema_at t k).next_field info.fields (is.commands k (create_model info) here).1)),
        tt,
      )
      by-command (delete_model n) here = tt
      by-command (add_static info) here = tt
      by-command (remove_static n) here = tt
      by-command (add_principal n) here = tt
      by-command (add_field n f init) here = tt
      by-command (remove_field n f) here = tt
      by-command (update_field n f read write) here = tt
      by-command (weaken_field n f read write reason) here = tt
      by-command (update_model n create delete) here = tt
      by-command (weaken_model n create delete reason) here = tt

  all-behind : AreBehind 0 t.commands
  all-behind j c e = let same : 0 + j ≡ j = omega arith in ap (command_at t) same ∙ e

  pub start-models : IsDistinct nat_eq (model_numbers t.start.models)
  start-models =
      let proper = is.proper 0 (omega arith) in
      let later = created-rise t.commands 0 all-behind in
      subst (λ (s : Schema). IsDistinct nat_eq (model_numbers s.models)) (sym is.start)
      (subst (IsDistinct nat_eq) (sym (numbers-append (schema_at t 0).models (created t.commands)))
      (append-distinct (model_numbers (schema_at t 0).models) (model_numbers (created t.commands)) (schema_at t 0).next_model proper.models.distinct
      (rises-distinct (model_numbers (created t.commands)) later.1) proper.models.below later.0))

  pub start-fields : AllByRecursion HasFields t.start.models
  start-fields =
      let proper = is.proper 0 (omega arith) in
      subst (λ (s : Schema). AllByRecursion HasFields s.models) (sym is.start)
      (all-append HasFields (schema_at t 0).models (created t.commands)
      (all-implied (AreProperFields (schema_at t 0).next_field) HasFields (λ m h. h.numbers.distinct) (schema_at t 0).models proper.fields)
      (created-fields t.commands 0 all-behind))

pub buildable : ScriptsAreBuildable
buildable t is g signature st structure =
    record { models = start-models t is; fields = start-fields t is; signature = signature; structure = structure }
