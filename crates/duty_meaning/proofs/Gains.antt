-- The formula of an obligation against gains is true where somebody gains.
use Rattle.std.proofs.Common.{◌≡◌, ℕ, zero, suc, ◌-◌, ◌<◌, ◌≤◌, Bool, true, false, not, ◌&&◌, ◌||◌, List, [], ◌∷◌, length, take, refl, ap, sym, ◌∙◌, subst, arith, inl, inr}
use Rattle.std.specs.Prelude.{Option, Some, None, ◌==◌, map, slice_get}
use Rattle.std.specs.List.{list_any}
use Rattle.std.specs.Option.{option_map_or}
use Rattle.std.proofs.lemmas.Bool.{eqb-true, eq-eqb}
use Rattle.std.proofs.lemmas.Option.{slice_get_within}
use Rattle.type_schema.specs.declared.types.TBase.TheVariants as base
use Rattle.type_schema.specs.declared.rights.Kind.{Kind}
use Rattle.type_schema.specs.declared.rights.Kind.TheVariants as kind
use Rattle.type_schema.specs.declared.rights.Right.{Right}
use Rattle.type_schema.specs.declared.rights.Target.{Target}
use Rattle.type_schema.specs.declared.rights.Target.TheVariants as on
use Rattle.type_schema.specs.Trees.{Policy}
use Rattle.type_schema.specs.Schema.{Schema, model_of_target}
use Rattle.type_schema.specs.Typing.{HasModel}
use Rattle.type_schema.specs.Commands.{Command, create_model, delete_model, add_static, remove_static, add_principal, add_field, remove_field, update_field, weaken_field, update_model, weaken_model, IsCommand}
use Rattle.type_schema.specs.Script.{Script, schema_at, command_at, count, IsScript}
use Rattle.type_schema.specs.Kinds.{has_kind, same_kind, dropped_by, is_dropped, is_kind_at}
use Rattle.data_meaning.specs.declared.principals.Principal.{Principal}
use Rattle.data_meaning.specs.declared.principals.Principal.TheVariants as who
use Rattle.data_meaning.specs.Values.{Id}
use Rattle.data_meaning.specs.Database.{Record, Table, Database, ids_of, has_record}
use Rattle.data_meaning.specs.Meaning.{allows, same_truth}
use Rattle.data_meaning.specs.Run.{after_command, run_to}
use Rattle.data_meaning.specs.Gain.{IsStart, kind_of, is_principal_at, policy_at, has_right_at, updates, GainAt}
use Rattle.data_meaning.proofs.Agreement.{ap2}
use Rattle.data_meaning.proofs.Changes.{ids-changed, table-kept}
use Rattle.data_meaning.proofs.Kept.{policy-typed}
use Rattle.data_meaning.proofs.Tests.{and-left, and-right, and-both, or-left, or-right, or-true, not-true}
use Rattle.form_formula.specs.declared.structure.Structure.{Structure}
use Rattle.form_formula.specs.Trees.{Term, bound, both}
use Rattle.form_formula.specs.Truth.{truth}
use Rattle.duty_meaning.specs.declared.duty.Duty.{Duty}
use Rattle.duty_meaning.specs.Structures.{sort_of, structure_of}
use Rattle.duty_meaning.specs.Cases.{constant}
use Rattle.duty_meaning.specs.Formulas.{Who, static, record_at, nothing_written, is_allowed}
use Rattle.duty_meaning.specs.Duties.{written_at, has_right, for_some_principal, gain_formula_of}
use Rattle.duty_meaning.specs.Gains.{IsGainDuty, GainsSomebody, GainFormulasAreTrue}
use Rattle.duty_meaning.proofs.Signed.{same-unsign, constant-truth, exists-truth}
use Rattle.duty_meaning.proofs.Means.{prefix-more, IsTermOf, IsWho, term-more}
use Rattle.duty_meaning.proofs.Meanings.{Shows, got-there, next-is, allowed-means}
use Rattle.duty_meaning.proofs.Shown.{model-of-field}
use Rattle.duty_meaning.proofs.Created.{command-there, run-after, model-of-start, kind-model}
use Rattle.duty_meaning.proofs.Running.{first-shown, shown-at}

-- ---- searches

-- an id that passes
pub some-id : (p : ℕ → Bool) (ids : List ℕ) → list_any p ids ≡ true → (id : ℕ) × (p id ≡ true) × (list_any (λ i. i == id) ids ≡ true)
some-id p [] h = cc
some-id p (y ∷ ids) h =
    elim (or-true (p y) _ h) [
      | inl here ↦ (y, here, ap (λ b. b || list_any (λ i. i == y) ids) (eq-eqb y y refl))
      | inr later ↦
          let x = some-id p ids later in
          (x.0, x.1, (elim (y == x.0) as (λ (b : Bool). (b || list_any (λ i. i == x.0) ids) ≡ true) [ true ↦ refl | false ↦ x.2 ]))
    ]

pub id-passes : (p : ℕ → Bool) (ids : List ℕ) (id : ℕ) → list_any (λ i. i == id) ids ≡ true → p id ≡ true → list_any p ids ≡ true
id-passes p [] id h k = cc
id-passes p (y ∷ ids) id h k =
    elim (y == id) as (λ (b : Bool). (y == id) ≡ b → (b || list_any (λ i. i == id) ids) ≡ true → (p y || list_any p ids) ≡ true) [
      | true ↦ λ is e. ap (λ b. b || list_any p ids) (ap p (eqb-true y id is) ∙ k)
      | false ↦ λ is e. (elim (p y) as (λ (b : Bool). (b || list_any p ids) ≡ true) [ true ↦ refl | false ↦ id-passes p ids id e k ])
    ] refl h

-- none of the first elements passes
none-taken : {A : Type 0} (p : A → Bool) (xs : List A) (k j : ℕ) (x : A) → list_any p (take k xs) ≡ false → slice_get xs j ≡ Some x → j < k → p x ≡ false
none-taken p [] k j x none e less = cc
none-taken p (y ∷ xs) zero j x none e less = absurd (omega (arith, less))
none-taken p (y ∷ xs) (suc k) zero x none e less = let same : y ≡ x = cc in ap p (sym same) ∙ or-left (p y) _ none
none-taken p (y ∷ xs) (suc k) (suc j) x none e less = none-taken p xs k j x (or-right (p y) _ none) e (omega (arith, less))

same-number : (m n : ℕ) → (m == n) ≡ true → m ≡ n
same-number m n h = eqb-true m n h

-- ---- the command

-- a command that updates a right is on a model that is there, and leaves the database as it is
pub updated-there : (s : Schema) (target : Target) (right : Right) (c : Command) → updates target right c ≡ true → IsCommand s c
    → HasModel s (model_of_target target) × ((now : Database) → after_command c now ≡ now)
updated-there s target right (create_model info) h e = cc
updated-there s target right (delete_model n) h e = cc
updated-there s target right (add_static info) h e = cc
updated-there s target right (remove_static n) h e = cc
updated-there s target right (add_principal n) h e = cc
updated-there s target right (add_field n f init) h e = cc
updated-there s target right (remove_field n f) h e = cc
updated-there s (on.Field m g) right (update_field n f read write) h e =
    let same : m ≡ n = eqb-true m n (and-left (m == n) (g == f) (and-left ((m == n) && (g == f)) _ h)) in
    (subst (λ (i : ℕ). HasModel s i) (sym same) (model-of-field s n f e.0), λ now. refl)
updated-there s (on.Model m) right (update_field n f read write) h e = cc
updated-there s target right (weaken_field n f read write reason) h e = cc
updated-there s (on.Field m g) right (update_model n create delete) h e = cc
updated-there s (on.Model m) right (update_model n create delete) h e =
    let same : m ≡ n = eqb-true m n (and-left (m == n) _ h) in
    (subst (λ (i : ℕ). HasModel s i) (sym same) e.0, λ now. refl)
updated-there s target right (weaken_model n create delete reason) h e = cc

-- ---- kinds

module _ (t : Script) (is : IsScript t) (d : Database) (start : IsStart t d) where
  -- a model that is a kind at a command keeps its records up to then
  ids-after : (n : ℕ) (now : Database) (c : Command) → option_map_or (same_kind (kind.Model n)) (dropped_by c) false ≡ false → ids_of (after_command c now) n ≡ ids_of now n
  ids-after n now (create_model info) h = refl
  ids-after n now (delete_model m) h =
      ap (λ o. map (λ (r : Record). r.id) (option_map_or (λ (t : Table). t.records) o []))
      (table-kept now m n (λ same. let never : true ≡ false = sym (eq-eqb n m same) ∙ h in cc))
  ids-after n now (add_static info) h = refl
  ids-after n now (remove_static m) h = refl
  ids-after n now (add_principal m) h = refl
  ids-after n now (add_field m f init) h = ids-changed m _ now n
  ids-after n now (remove_field m f) h = ids-changed m _ now n
  ids-after n now (update_field m f read write) h = refl
  ids-after n now (weaken_field m f read write reason) h = refl
  ids-after n now (update_model m create delete) h = refl
  ids-after n now (weaken_model m create delete reason) h = refl

  pub kind-ids : (n k j : ℕ) → k ≤ count t → j ≤ k → is_dropped (kind.Model n) (take k t.commands) ≡ false → ids_of (run_to t j d) n ≡ ids_of d n
  kind-ids n k zero within less none = refl
  kind-ids n k (suc j) within less none =
      let c = command-there t is j (omega (arith, within, less)) in
      ap (λ (e : Database). ids_of e n) (run-after t is d j c.0 c.1)
      ∙ ids-after n (run_to t j d) c.0 (none-taken (λ x. option_map_or (same_kind (kind.Model n)) (dropped_by x) false) t.commands k j c.0 none c.1 (omega (arith, less)))
      ∙ kind-ids n k j within (omega (arith, less)) none

  -- ---- rights

  module _ (k : ℕ) (within : k ≤ count t) (target : Target) (right : Right) where
    abbrev db : Structure
    db = structure_of t.start d

    pub right-true : (xs : List ℕ) (id : ℕ) (r : Term) → IsTermOf t.start db d xs (base.Id (model_of_target target)) (Id id) r
        → (q : Principal) (w : Who) → IsWho t.start db d xs q w → (sign : Bool)
        → truth db xs (has_right t k target right r w sign (length xs)) ≡ same_truth sign (has_right_at t k target right d id q)
    right-true xs id r it q w is_who sign =
        let shows : Shows t.start (schema_at t k) (written_at t k) db d (run_to t k d) = shown-at t is d start k within in
        elim (policy_at t k target right) as (λ (o : Option Policy). policy_at t k target right ≡ o
        → truth db xs (option_map_or (λ policy. is_allowed t.start (written_at t k) policy r w sign (length xs)) o (constant (not sign)))
        ≡ same_truth sign (option_map_or (λ policy. allows (run_to t k d) policy id q) o false)) [
          | None ↦ λ here. constant-truth db xs (not sign) ∙ same-unsign sign
          | Some p ↦ λ here.
              allowed-means t.start (schema_at t k) (written_at t k) db d (run_to t k d) shows (model_of_target target) p
              (policy-typed (schema_at t k) p (is.proper k within).typed target right here) xs id r it q w is_who sign
        ] refl

module _ (t : Script) (is : IsScript t) (duty : Duty) (of : IsGainDuty t duty) (d : Database) (start : IsStart t d) where
  abbrev st : Structure
  st = structure_of t.start d

  abbrev k : ℕ
  k = duty.command

  abbrev m : ℕ
  m = model_of_target duty.target

  -- whether the principal gains the right on the record
  abbrev gains : ℕ → Principal → Bool
  gains id q = has_right_at t k duty.target duty.right d id q && not (has_right_at t (k - 1) duty.target duty.right d id q)

  within : k ≤ count t
  within =
      elim (command_at t (k - 1)) as (λ (o : Option Command). command_at t (k - 1) ≡ o → option_map_or (updates duty.target duty.right) o false ≡ true → k ≤ count t) [
        | None ↦ λ here e. cc
        | Some c ↦ λ here e. let below = slice_get_within t.commands (k - 1) c here in omega (arith, below, of.counted)
      ] refl of.updated

  record OfCommand : Type 0 where
    there : HasModel (schema_at t (k - 1)) m
    same : run_to t k d ≡ run_to t (k - 1) d

  of-command : OfCommand
  of-command =
      elim (command_at t (k - 1)) as (λ (o : Option Command). command_at t (k - 1) ≡ o → option_map_or (updates duty.target duty.right) o false ≡ true → OfCommand) [
        | None ↦ λ here e. cc
        | Some c ↦ λ here e.
            let one = updated-there (schema_at t (k - 1)) duty.target duty.right c e (is.commands (k - 1) c here) in
            let number : suc (k - 1) ≡ k = omega (arith, of.counted) in
            record {
              there = one.0;
              same = ap (λ n. run_to t n d) (sym number) ∙ run-after t is d (k - 1) c here ∙ one.1 (run_to t (k - 1) d);
            }
      ] refl of.updated

  before-shows : Shows t.start (schema_at t (k - 1)) (written_at t (k - 1)) st d (run_to t (k - 1) d)
  before-shows = shown-at t is d start (k - 1) (omega (arith, within))

  all-shown : Shows t.start t.start nothing_written st d d
  all-shown = first-shown t is d start

  now-ids : ids_of (run_to t k d) m ≡ ids_of d m
  now-ids = ap (λ (e : Database). ids_of e m) of-command.same ∙ before-shows.ids m of-command.there

  start-there : HasModel t.start m
  start-there = model-of-start t is (k - 1) (omega (arith, within)) m of-command.there

  -- at a record and a principal
  pair-true : (xs : List ℕ) (id : ℕ) (r : Term) → IsTermOf t.start st d xs (base.Id m) (Id id) r → (q : Principal) (w : Who) → IsWho t.start st d xs q w
      → truth st xs (both (has_right t k duty.target duty.right r w true (length xs)) (has_right t (k - 1) duty.target duty.right r w false (length xs))) ≡ gains id q
  pair-true xs id r it q w is_who =
      ap2 (λ a b. a && b) (right-true t is d start k within duty.target duty.right xs id r it q w is_who true)
      (right-true t is d start (k - 1) (omega (arith, within)) duty.target duty.right xs id r it q w is_who false)

  -- whether some principal of the kind gains it
  abbrev some_gains : Kind → ℕ → Bool
  some_gains (kind.Static n) id = gains id (who.Static n)
  some_gains (kind.Model n) id = list_any (λ y. gains id (who.Rec n y)) (ids_of d n)

  record-pair : (n : ℕ) → is_kind_at t k (kind.Model n) ≡ true → (x id : ℕ) → slice_get (ids_of d m) x ≡ Some id
      → (y other : ℕ) → slice_get (ids_of d n) y ≡ Some other
      → truth st (x ∷ y ∷ [])
      (both (has_right t k duty.target duty.right (bound (sort_of t.start m) 0) (record_at n (bound (sort_of t.start n) 1)) true 2)
      (has_right t (k - 1) duty.target duty.right (bound (sort_of t.start m) 0) (record_at n (bound (sort_of t.start n) 1)) false 2))
      ≡ gains id (who.Rec n other)
  record-pair n h x id got y other there =
      let first = next-is t.start t.start nothing_written st d d all-shown m start-there [] x id got in
      pair-true (x ∷ y ∷ []) id (bound (sort_of t.start m) 0)
      (term-more t.start st d (x ∷ []) (x ∷ y ∷ []) (base.Id m) (Id id) (bound (sort_of t.start m) 0) (prefix-more (x ∷ []) y) first)
      (who.Rec n other) (record_at n (bound (sort_of t.start n) 1))
      (refl, next-is t.start t.start nothing_written st d d all-shown n (kind-model t is n k h) (x ∷ []) y other there)

  kind-true : (a : Kind) → is_kind_at t k a ≡ true → (x id : ℕ) → slice_get (ids_of d m) x ≡ Some id
      → truth st (x ∷ [])
      (for_some_principal t a 1 (λ w above. both (has_right t k duty.target duty.right (bound (sort_of t.start m) 0) w true above)
      (has_right t (k - 1) duty.target duty.right (bound (sort_of t.start m) 0) w false above)))
      ≡ some_gains a id
  kind-true (kind.Static n) h x id got =
      pair-true (x ∷ []) id (bound (sort_of t.start m) 0) (next-is t.start t.start nothing_written st d d all-shown m start-there [] x id got) (who.Static n) (static n) refl
  kind-true (kind.Model n) h x id got =
      exists-truth st (x ∷ []) true (sort_of t.start n)
      (both (has_right t k duty.target duty.right (bound (sort_of t.start m) 0) (record_at n (bound (sort_of t.start n) 1)) true 2)
      (has_right t (k - 1) duty.target duty.right (bound (sort_of t.start m) 0) (record_at n (bound (sort_of t.start n) 1)) false 2))
      (ids_of d n) (λ y. gains id (who.Rec n y)) (all-shown.sizes n (kind-model t is n k h))
      (λ y other there. record-pair n h x id got y other there)

  formula-true : truth st [] (gain_formula_of t duty) ≡ list_any (some_gains duty.kind) (ids_of d m)
  formula-true =
      exists-truth st [] true (sort_of t.start m)
      (for_some_principal t duty.kind 1 (λ w above. both (has_right t k duty.target duty.right (bound (sort_of t.start m) 0) w true above)
      (has_right t (k - 1) duty.target duty.right (bound (sort_of t.start m) 0) w false above)))
      (ids_of d m) (some_gains duty.kind) (all-shown.sizes m start-there) (λ x id got. kind-true duty.kind of.kind x id got)

  kind-kept : (n : ℕ) → is_kind_at t k (kind.Model n) ≡ true → ids_of (run_to t k d) n ≡ ids_of d n
  kind-kept n h = kind-ids t is d start n k k within (omega arith) (not-true _ (and-right (list_any (λ s. has_kind s (kind.Model n)) t.schemas) _ h))

  gained : (id : ℕ) (q : Principal) → list_any (λ i. i == id) (ids_of d m) ≡ true → is_principal_at t k (run_to t k d) q ≡ true → gains id q ≡ true
      → GainAt t k duty.target duty.right d id q
  gained id q there principal h = record {
    start = start;
    counted = of.counted;
    updated = of.updated;
    record_there = ap (list_any (λ i. i == id)) now-ids ∙ there;
    principal = principal;
    after = and-left _ _ h;
    before = not-true _ (and-right (has_right_at t k duty.target duty.right d id q) _ h);
  }

  found : (a : Kind) → is_kind_at t k a ≡ true → (id : ℕ) → list_any (λ i. i == id) (ids_of d m) ≡ true → some_gains a id ≡ true
      → (q : Principal) × (kind_of q ≡ a) × GainAt t k duty.target duty.right d id q
  found (kind.Static n) h id there e = (who.Static n, refl, gained id (who.Static n) there (and-both _ _ h refl) e)
  found (kind.Model n) h id there e =
      let one = some-id (λ y. gains id (who.Rec n y)) (ids_of d n) e in
      (who.Rec n one.0, refl, gained id (who.Rec n one.0) there (and-both _ _ h (ap (list_any (λ i. i == one.0)) (kind-kept n h) ∙ one.2)) one.1)

  -- ---- the elements at which the formula is true are those of a record and a principal who gains the right on it

  pub static-gains : (n : ℕ) → is_kind_at t k (kind.Static n) ≡ true → (x id : ℕ) → slice_get (ids_of d m) x ≡ Some id
      → truth st (x ∷ [])
      (both (has_right t k duty.target duty.right (bound (sort_of t.start m) 0) (static n) true 1)
      (has_right t (k - 1) duty.target duty.right (bound (sort_of t.start m) 0) (static n) false 1)) ≡ true
      → GainAt t k duty.target duty.right d id (who.Static n)
  static-gains n h x id got e =
      gained id (who.Static n) (got-there (ids_of d m) x id got) (and-both _ _ h refl) (sym (kind-true (kind.Static n) h x id got) ∙ e)

  pub record-gains : (n : ℕ) → is_kind_at t k (kind.Model n) ≡ true → (x id : ℕ) → slice_get (ids_of d m) x ≡ Some id
      → (y other : ℕ) → slice_get (ids_of d n) y ≡ Some other
      → truth st (x ∷ y ∷ [])
      (both (has_right t k duty.target duty.right (bound (sort_of t.start m) 0) (record_at n (bound (sort_of t.start n) 1)) true 2)
      (has_right t (k - 1) duty.target duty.right (bound (sort_of t.start m) 0) (record_at n (bound (sort_of t.start n) 1)) false 2)) ≡ true
      → GainAt t k duty.target duty.right d id (who.Rec n other)
  record-gains n h x id got y other there e =
      gained id (who.Rec n other) (got-there (ids_of d m) x id got)
      (and-both _ _ h (ap (list_any (λ i. i == other)) (kind-kept n h) ∙ got-there (ids_of d n) y other there))
      (sym (record-pair n h x id got y other there) ∙ e)

  gains-true : (id : ℕ) (q : Principal) → GainAt t k duty.target duty.right d id q → gains id q ≡ true
  gains-true id q g = and-both _ _ g.after (ap not g.before)

  some-gains : (a : Kind) → is_kind_at t k a ≡ true → (id : ℕ) (q : Principal) → kind_of q ≡ a → GainAt t k duty.target duty.right d id q → some_gains a id ≡ true
  some-gains (kind.Static n) h id (who.Static i) e g =
      let same : i ≡ n = cc in
      subst (λ (j : ℕ). gains id (who.Static j) ≡ true) same (gains-true id (who.Static i) g)
  some-gains (kind.Static n) h id (who.Rec i y) e g = cc
  some-gains (kind.Model n) h id (who.Static i) e g = cc
  some-gains (kind.Model n) h id (who.Rec i y) e g =
      let same : i ≡ n = cc in
      let there : has_record (run_to t k d) i y ≡ true = and-right (is_kind_at t k (kind.Model i)) _ g.principal in
      let here : list_any (λ j. j == y) (ids_of d n) ≡ true
      = ap (list_any (λ j. j == y)) (sym (kind-kept n h)) ∙ subst (λ (j : ℕ). has_record (run_to t k d) j y ≡ true) same there in
      id-passes (λ y. gains id (who.Rec n y)) (ids_of d n) y here (subst (λ (j : ℕ). gains id (who.Rec j y) ≡ true) same (gains-true id (who.Rec i y) g))

  fails : truth st [] (gain_formula_of t duty) ≡ true → GainsSomebody t duty d
  fails h =
      let one = some-id (some_gains duty.kind) (ids_of d m) (sym formula-true ∙ h) in
      let q = found duty.kind of.kind one.0 one.2 one.1 in
      record { id = one.0; who = q.0; kind = q.1; gain = q.2 }

  holds : GainsSomebody t duty d → truth st [] (gain_formula_of t duty) ≡ true
  holds g =
      formula-true
      ∙ id-passes (some_gains duty.kind) (ids_of d m) g.id (ap (list_any (λ i. i == g.id)) (sym now-ids) ∙ g.gain.record_there)
      (some-gains duty.kind of.kind g.id g.who g.kind g.gain)

pub true_gains : GainFormulasAreTrue
true_gains t is duty of d start = (fails t is duty of d start, holds t is duty of d start)
