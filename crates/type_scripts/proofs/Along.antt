-- What stands for the fields that a script added, over the schema of start databases and over the schema after a command.
use Rattle.std.proofs.Common.{◌≡◌, ℕ, zero, suc, ◌+◌, ◌<◌, ◌≤◌, ◌⊎◌, Bool, true, false, ◌&&◌, List, [], ◌∷◌, ◌++◌, refl, ap, sym, ◌∙◌, subst, arith, inl, inr, Contains}
use Rattle.std.specs.Prelude.{Option, Some, None, map, fold, ◌==◌, is_some, if◌then◌else◌}
use Rattle.std.specs.List.{AllByRecursion}
use Rattle.std.specs.Option.{option_map_or, option_or}
use Rattle.std.proofs.lemmas.Bool.{eq-eqb}
use Rattle.std.proofs.lemmas.List.Elements.{Contains-append_left, Contains-append_right}
use Rattle.type_schema.specs.declared.types.TBase.TheVariants as base
use Rattle.type_schema.specs.declared.types.TTy.{TTy}
use Rattle.type_schema.specs.declared.types.TTy.TheVariants.{Plain, Set, Opt}
use Rattle.type_schema.specs.Trees.{Init}
use Rattle.type_schema.specs.Schema.{FieldInfo, Added, Schema, type_of, removed_type, known_type}
use Rattle.type_schema.specs.Commands.{Command, create_model, delete_model, add_static, remove_static, add_principal, add_field, remove_field, update_field, weaken_field, update_model, weaken_model, schema_after}
use Rattle.type_schema.specs.Uses.{Use, init_uses_of}
use Rattle.type_schema.specs.Proper.{use_of, AreInOrder, IsProper}
use Rattle.type_schema.specs.Script.{Script, schema_at, command_at, count, IsScript}
use Rattle.form_formula.specs.Trees.{Term}
use Rattle.duty_meaning.specs.Cases.{Cases, held, is_truth_type, holds_truth}
use Rattle.duty_meaning.specs.Formulas.{Written, nothing_written, written_out, with_added, field_cases}
use Rattle.duty_meaning.specs.Sizes.{term_size}
use Rattle.duty_meaning.proofs.Adding.{written-more, written-kept, added-split}
use Rattle.duty_meaning.proofs.Created.{command-there, created-type, first-type, type-split}
use Rattle.duty_meaning.proofs.Failing.{no-element}
use Rattle.duty_meaning.proofs.Shown.{AddsNothing, field-there}
use Rattle.type_proper.specs.Steady.{ReadsBelow}
use Rattle.type_proper.proofs.After.{read-weaken}
use Rattle.type_proper.proofs.Lists.{all-append, all-both, all-weaken}
use Rattle.type_scripts.proofs.Within.{Within, fields}
use Rattle.type_scripts.proofs.WithinSets.{FieldWithin, UseWithin}
use Rattle.type_scripts.proofs.SmallCounted.{added-within}
use Rattle.type_scripts.proofs.Staying.{takes, type-stays, removed-after}
use Rattle.type_scripts.proofs.Typed.{field_use, IsThere, init-there, there-below}

-- a field that the script added
abbrev pub IsAdded : List Added → Use → Type 0
IsAdded added u = Contains (map use_of added) u

mapped-last : (added : List Added) (a : Added) → map use_of (added ++ a ∷ []) ≡ map use_of added ++ use_of a ∷ []
mapped-last [] a = refl
mapped-last (x ∷ added) a = ap (λ uses. use_of x ∷ uses) (mapped-last added a)

added-more : (added : List Added) (a : Added) (u : Use) → IsAdded added u → IsAdded (added ++ a ∷ []) u
added-more added a u h = subst (λ uses. Contains uses u) (sym (mapped-last added a)) (Contains-append_left (map use_of added) (use_of a ∷ []) u h)

added-last : (added : List Added) (a : Added) → IsAdded (added ++ a ∷ []) (use_of a)
added-last added a =
    subst (λ uses. Contains uses (use_of a)) (sym (mapped-last added a)) (Contains-append_right (map use_of added) (use_of a ∷ []) (use_of a) (0, omega arith, refl))

-- ---- a list of added fields, written out over two schemas

module _ (s b : Schema) (Q : Use → Type 0) where
  pub out-within : (rest : List Added) (w o : Written) → AreInOrder rest → AllByRecursion (λ (a : Added). AllByRecursion Q (init_uses_of a.init)) rest
      → ((m f : ℕ) → Q (field_use m f) → (IsAdded rest (field_use m f) → ⊥) → FieldWithin s b w o m f)
      → (m f : ℕ) → Q (field_use m f) → FieldWithin s b (fold (with_added s) w rest) (fold (with_added b) o rest) m f
  out-within [] w o order reads kept m f q = kept m f q (λ h. no-element (field_use m f) h)
  out-within (a ∷ rest) w o order reads kept m f q =
      out-within rest (with_added s w a) (with_added b o a) order.1 reads.1
      (λ m f q other. added-within s b w o a m f
      (all-both (λ (u : Use). IsAdded (a ∷ rest) u → ⊥) Q (UseWithin s b w o) (λ u new q. kept u.model u.field q new) (init_uses_of a.init) order.0 reads.0)
      (λ differs. kept m f q (λ h. apart m f differs other h))) m f q
    where
      apart : (m f : ℕ) → ((a.model == m) && (a.field == f)) ≡ false → (IsAdded rest (field_use m f) → ⊥) → IsAdded (a ∷ rest) (field_use m f) → ⊥
      apart m f differs other (zero, less, e) =
          let one : a.model ≡ m = ap (λ (u : Use). u.model) e in
          let two : a.field ≡ f = ap (λ (u : Use). u.field) e in
          let same : ((a.model == m) && (a.field == f)) ≡ true = ap (λ z. z && (a.field == f)) (eq-eqb a.model m one) ∙ eq-eqb a.field f two in
          let never : true ≡ false = sym same ∙ differs in cc
      apart m f differs other (suc k, less, e) = other (k, omega (arith, less), e)

-- ---- along a script

next-field-after : (s : Schema) (c : Command) → s.next_field ≤ (schema_after s c).next_field
next-field-after s (create_model info) = omega arith
next-field-after s (delete_model n) = omega arith
next-field-after s (add_static info) = omega arith
next-field-after s (remove_static n) = omega arith
next-field-after s (add_principal n) = omega arith
next-field-after s (add_field n f init) = omega arith
next-field-after s (remove_field n f) = omega arith
next-field-after s (update_field n f read write) = omega arith
next-field-after s (weaken_field n f read write reason) = omega arith
next-field-after s (update_model n create delete) = omega arith
next-field-after s (weaken_model n create delete reason) = omega arith

-- the field that a command adds is the last of those that are added after it; no other command changes the list
pub added-step : (P : List Added → Type 0) (s : Schema) (c : Command) → P s.added
    → ((m : ℕ) (f : FieldInfo) (init : Init) → c ≡ add_field m f init → P (s.added ++ (record { model = m; field = f.number; init = init }) ∷ [])) → P (schema_after s c).added
added-step P s (create_model info) h more = h
added-step P s (delete_model n) h more = h
added-step P s (add_static info) h more = h
added-step P s (remove_static n) h more = h
added-step P s (add_principal n) h more = h
added-step P s (add_field n f init) h more = more n f init refl
added-step P s (remove_field n f) h more = h
added-step P s (update_field n f read write) h more = h
added-step P s (weaken_field n f read write reason) h more = h
added-step P s (update_model n create delete) h more = h
added-step P s (weaken_model n create delete reason) h more = h

module _ (t : Script) (is : IsScript t) where
  -- ---- numbers

  pub field-rises : (j n : ℕ) → j + n ≤ count t → (schema_at t j).next_field ≤ (schema_at t (j + n)).next_field
  field-rises j zero within = let same : j + 0 ≡ j = omega arith in subst (λ (k : ℕ). (schema_at t j).next_field ≤ (schema_at t k).next_field) (sym same) (omega arith)
  field-rises j (suc n) within =
      let step : j + suc n ≡ suc (j + n) = omega arith in
      let c = command-there t is (j + n) (omega (arith, within)) in
      let before = field-rises j n (omega (arith, within)) in
      let after = next-field-after (schema_at t (j + n)) c.0 in
      let up : (schema_at t j).next_field ≤ (schema_after (schema_at t (j + n)) c.0).next_field = omega (arith, before, after) in
      subst (λ (k : ℕ). (schema_at t j).next_field ≤ (schema_at t k).next_field) (sym step)
      (subst (λ (s : Schema). (schema_at t j).next_field ≤ s.next_field) (sym (is.steps (j + n) c.0 c.1)) up)

  -- initialisers of added fields read fields whose numbers are taken
  pub reads-below : (k : ℕ) → k ≤ count t → AllByRecursion (ReadsBelow (schema_at t k).next_field) (schema_at t k).added
  reads-below zero within = subst (AllByRecursion (ReadsBelow (schema_at t 0).next_field)) (sym is.nothing_added) tt
  reads-below (suc k) within =
      let s : Schema = schema_at t k in
      let c = command-there t is k (omega (arith, within)) in
      let next : ℕ = (schema_after s c.0).next_field in
      let up = next-field-after s c.0 in
      let before = read-weaken s.next_field next s.added up (reads-below k (omega (arith, within))) in
      subst (λ (u : Schema). AllByRecursion (ReadsBelow u.next_field) u.added) (sym (is.steps k c.0 c.1))
      (added-step (AllByRecursion (ReadsBelow next)) s c.0 before
      (λ m f init same.
      let here : command_at t k ≡ Some (add_field m f init) = c.1 ∙ ap (λ (x : Command). Some x) same in
      let uses = init-there s m f.ty init (is.commands k (add_field m f init) here).2 in
      all-append (ReadsBelow next) s.added ((record { model = m; field = f.number; init = init }) ∷ []) before (
        all-weaken (IsThere s) (λ (u : Use). u.field < next)
            (λ u own. let less = there-below s (is.proper k (omega (arith, within))) u own in omega (arith, less, up)) (init_uses_of init) uses,
        tt,
      )))

  -- ---- what is added later stands for none of the fields that were there

  pub written-since : (j n m f : ℕ) → j + n ≤ count t → f < (schema_at t j).next_field
      → written_out t.start (schema_at t (j + n)).added m f ≡ written_out t.start (schema_at t j).added m f
  written-since j zero m f within old = let same : j + 0 ≡ j = omega arith in ap (λ (k : ℕ). written_out t.start (schema_at t k).added m f) same
  written-since j (suc n) m f within old =
      let step : j + suc n ≡ suc (j + n) = omega arith in
      let s : Schema = schema_at t (j + n) in
      let c = command-there t is (j + n) (omega (arith, within)) in
      let before = written-since j n m f (omega (arith, within)) old in
      let rises = field-rises j n (omega (arith, within)) in
      let one : written_out t.start (schema_after s c.0).added m f ≡ written_out t.start (schema_at t j).added m f
      = added-step (λ added. written_out t.start added m f ≡ written_out t.start (schema_at t j).added m f) s c.0 before
      (λ i g init same.
      let here : command_at t (j + n) ≡ Some (add_field i g init) = c.1 ∙ ap (λ (x : Command). Some x) same in
      let number : g.number ≡ s.next_field = (is.commands (j + n) (add_field i g init) here).1 in
      ap (λ (w : Written). w m f) (written-more t.start s.added (record { model = i; field = g.number; init = init }))
      ∙ written-kept t.start (written_out t.start s.added) (record { model = i; field = g.number; init = init }) m f (λ e. absurd (omega (arith, e, number, rises, old))) ∙ before) in
      ap (λ (k : ℕ). written_out t.start (schema_at t k).added m f) step ∙ ap (λ (u : Schema). written_out t.start u.added m f) (is.steps (j + n) c.0 c.1) ∙ one

  -- ---- types

  -- a field of one of the schemas is one of the schema of start databases with its type, or was added
  pub type-of-start : (k : ℕ) → k ≤ count t → (m f : ℕ) (ty : TTy) → type_of (schema_at t k) m f ≡ Some ty
      → (type_of t.start m f ≡ Some ty) ⊎ IsAdded (schema_at t k).added (field_use m f)
  type-of-start zero within m f ty h = inl (first-type t is m f ty h)
  type-of-start (suc k) within m f ty h =
      let s : Schema = schema_at t k in
      let below : k < count t = omega (arith, within) in
      let c = command-there t is k below in
      subst (λ (u : Schema). (type_of t.start m f ≡ Some ty) ⊎ IsAdded u.added (field_use m f)) (sym (is.steps k c.0 c.1))
      (step c.0 c.1 (subst (λ (u : Schema). type_of u m f ≡ Some ty) (is.steps k c.0 c.1) h) (type-of-start k (omega (arith, below)) m f ty))
    where
      quiet : (c : Command) → command_at t k ≡ Some c → AddsNothing c → type_of (schema_after (schema_at t k) c) m f ≡ Some ty → type_of (schema_at t k) m f ≡ Some ty
      quiet c here nothing e =
          field-there (schema_at t k) c nothing (is.commands k c here) (subst IsProper (is.steps k c here) (is.proper (suc k) within)) m f ty e

      step : (c : Command) → command_at t k ≡ Some c → type_of (schema_after (schema_at t k) c) m f ≡ Some ty
          → (type_of (schema_at t k) m f ≡ Some ty → (type_of t.start m f ≡ Some ty) ⊎ IsAdded (schema_at t k).added (field_use m f))
          → (type_of t.start m f ≡ Some ty) ⊎ IsAdded (schema_after (schema_at t k) c).added (field_use m f)
      step (create_model info) here e before =
          elim (type-split (schema_at t k) info m f ty e) [
            | inl old ↦ before old
            | inr new ↦ inl (subst (λ (n : ℕ). type_of t.start n f ≡ Some ty) new.0 (created-type t is k info (omega (arith, within)) here f ty new.1))
          ]
      step (delete_model n) here e before = before (quiet (delete_model n) here tt e)
      step (add_static info) here e before = before e
      step (remove_static n) here e before = before e
      step (add_principal n) here e before = before (quiet (add_principal n) here tt e)
      step (add_field n g init) here e before =
          let a : Added = record { model = n; field = g.number; init = init } in
          elim (added-split (schema_at t k) n g init m f ty e) [
            | inl old ↦
                elim (before old) [
                  | inl one ↦ inl one
                  | inr two ↦ inr (added-more (schema_at t k).added a (field_use m f) two)
                ]
            | inr new ↦
                let same : use_of a ≡ field_use m f = ap (λ (x : ℕ). field_use x g.number) new.0 ∙ ap (λ (x : ℕ). field_use m x) new.1 in
                inr (subst (λ (u : Use). IsAdded ((schema_at t k).added ++ a ∷ []) u) same (added-last (schema_at t k).added a))
          ]
      step (remove_field n g) here e before = before (quiet (remove_field n g) here tt e)
      step (update_field n g read write) here e before = before (quiet (update_field n g read write) here tt e)
      step (weaken_field n g read write reason) here e before = before (quiet (weaken_field n g read write reason) here tt e)
      step (update_model n create delete) here e before = before (quiet (update_model n create delete) here tt e)
      step (weaken_model n create delete reason) here e before = before (quiet (weaken_model n create delete reason) here tt e)

-- ---- truth values

truth-types : (s b : Schema) (ty : TTy) → is_truth_type s ty ≡ is_truth_type b ty
truth-types s b (Plain base.Bool) = refl
truth-types s b (Plain base.Int) = refl
truth-types s b (Plain base.Text) = refl
truth-types s b (Plain (base.Id m)) = refl
truth-types s b (Set m) = refl
truth-types s b (Opt base.Bool) = refl
truth-types s b (Opt base.Int) = refl
truth-types s b (Opt base.Text) = refl
truth-types s b (Opt (base.Id m)) = refl

-- where both schemas know the field with its type
same-truth : (s b : Schema) (m f : ℕ) (ty : TTy) → known_type s m f ≡ Some ty → known_type b m f ≡ Some ty → holds_truth s m f ≡ holds_truth b m f
same-truth s b m f ty h k =
    ap (λ o. option_map_or (is_truth_type s) o false) h ∙ truth-types s b ty ∙ sym (ap (λ o. option_map_or (is_truth_type b) o false) k)

known-there : (s : Schema) (m f : ℕ) (ty : TTy) → type_of s m f ≡ Some ty → known_type s m f ≡ Some ty
known-there s m f ty h = ap (λ o. option_or o (removed_type s m f)) h

-- the schema knows the type that the field has in start databases
abbrev pub Knows : Script → Schema → Use → Type 0
Knows t s u = (ty : TTy) × (type_of t.start u.model u.field ≡ Some ty) × (known_type s u.model u.field ≡ Some ty)

-- if it was not added
abbrev pub Stays : Script → Schema → Use → Type 0
Stays t s u = (IsAdded s.added u → ⊥) → Knows t s u

still-added : (s : Schema) (c : Command) (u : Use) → IsAdded s.added u → IsAdded (schema_after s c).added u
still-added s c u h = added-step (λ added. IsAdded added u) s c h (λ m f init same. added-more s.added (record { model = m; field = f.number; init = init }) u h)

module _ (t : Script) (is : IsScript t) (k : ℕ) where
  pub there-stays : k ≤ count t → (u : Use) → IsThere (schema_at t k) u → Stays t (schema_at t k) u
  there-stays within u own other =
      elim (type_of (schema_at t k) u.model u.field) as (λ (o : Option TTy). type_of (schema_at t k) u.model u.field ≡ o → is_some o ≡ true → Knows t (schema_at t k) u) [
        | None ↦ λ here none. cc
        | Some ty ↦ λ here some.
            elim (type-of-start t is k within u.model u.field ty here) [
              | inl first ↦ (ty, first, known-there (schema_at t k) u.model u.field ty here)
              | inr added ↦ absurd (other added)
            ]
      ] refl own

  -- a schema knows after a command what it knew before
  stays-after : k < count t → (c : Command) → command_at t k ≡ Some c → (u : Use) → Stays t (schema_at t k) u → Stays t (schema_after (schema_at t k) c) u
  stays-after within c here u stays other =
      let s : Schema = schema_at t k in
      let after : Schema = schema_after s c in
      let m : ℕ = u.model in
      let f : ℕ = u.field in
      let knows : Knows t s u = stays (λ added. other (still-added s c u added)) in
      let ty : TTy = knows.0 in (
        ty,
        knows.1,
        elim (type_of after m f) as (λ (o : Option TTy). type_of after m f ≡ o → option_or o (removed_type after m f) ≡ Some ty) [
          | None ↦ λ gone.
              removed-after m f s c
              ∙ elim (takes c m f) as (λ (b : Bool). takes c m f ≡ b → (if b then known_type s m f else removed_type s m f) ≡ Some ty) [
                | true ↦ λ taken. knows.2
                | false ↦ λ kept.
                    elim (type_of s m f) as (λ (o : Option TTy). type_of s m f ≡ o → option_or o (removed_type s m f) ≡ Some ty → removed_type s m f ≡ Some ty) [
                      | None ↦ λ none known. known
                      | Some y ↦ λ there known. let never : None ≡ Some y = sym gone ∙ type-stays s m f y c there kept in cc
                    ] refl knows.2
              ] refl
          | Some y ↦ λ there.
              let next : schema_at t (suc k) ≡ after = is.steps k c here in
              elim (type-of-start t is (suc k) (omega (arith, within)) m f y (subst (λ (v : Schema). type_of v m f ≡ Some y) (sym next) there)) [
                | inl first ↦ sym first ∙ knows.1
                | inr added ↦ absurd (other (subst (λ (v : Schema). IsAdded v.added u) next added))
              ]
        ] refl,
      )

-- an added field, of which the schema knows what its initialiser reads
abbrev pub ReadsStay : Script → Schema → Added → Type 0
ReadsStay t s a = AllByRecursion (Stays t s) (init_uses_of a.init)

pub reads-stay : (t : Script) → IsScript t → (k : ℕ) → k ≤ count t → AllByRecursion (ReadsStay t (schema_at t k)) (schema_at t k).added
reads-stay t is zero within = subst (AllByRecursion (ReadsStay t (schema_at t 0))) (sym is.nothing_added) tt
reads-stay t is (suc k) within =
    let s : Schema = schema_at t k in
    let early : k ≤ count t = omega (arith, within) in
    let below : k < count t = omega (arith, within) in
    let c = command-there t is k below in
    let after : Schema = schema_after s c.0 in
    let step : (uses : List Use) → AllByRecursion (Stays t s) uses → AllByRecursion (Stays t after) uses = λ uses stay. all-weaken (Stays t s) (Stays t after) (stays-after t is k below c.0 c.1) uses stay in
    let before : AllByRecursion (ReadsStay t after) s.added
    = all-weaken (ReadsStay t s) (ReadsStay t after) (λ a stay. step (init_uses_of a.init) stay) s.added (reads-stay t is k early) in
    subst (λ (u : Schema). AllByRecursion (ReadsStay t u) u.added) (sym (is.steps k c.0 c.1))
    (added-step (AllByRecursion (ReadsStay t after)) s c.0 before
    (λ m f init same.
    let here : command_at t k ≡ Some (add_field m f init) = c.1 ∙ ap (λ (x : Command). Some x) same in
    let own : AllByRecursion (Stays t s) (init_uses_of init)
    = all-weaken (IsThere s) (Stays t s) (there-stays t is k early) (init_uses_of init) (init-there s m f.ty init (is.commands k (add_field m f init) here).2) in
    all-append (ReadsStay t after) s.added ((record { model = m; field = f.number; init = init }) ∷ []) before (step (init_uses_of init) own, tt)))

module _ (t : Script) (is : IsScript t) (j : ℕ) (within : j ≤ count t) where
  -- the schema after j commands
  abbrev pub now : Schema
  now = schema_at t j

  -- a field that was there, and whose type is known unless it was added
  abbrev pub IsGood : Use → Type 0
  IsGood u = (u.field < now.next_field) × Stays t now u

  agree : (m f : ℕ) → (IsAdded now.added (field_use m f) → ⊥) → Stays t now (field_use m f) → holds_truth t.start m f ≡ holds_truth now m f
  agree m f other stays = let knows = stays other in same-truth t.start now m f knows.0 (known-there t.start m f knows.0 knows.1) knows.2

  pub good-reads : AllByRecursion (λ (a : Added). AllByRecursion IsGood (init_uses_of a.init)) now.added
  good-reads =
      all-both (ReadsBelow now.next_field) (ReadsStay t now) (λ (a : Added). AllByRecursion IsGood (init_uses_of a.init))
      (λ a below stay. all-both (λ (u : Use). u.field < now.next_field) (Stays t now) IsGood (λ u less own. (less, own)) (init_uses_of a.init) below stay) now.added
      (reads-below t is j within) (reads-stay t is j within)

  pub good-there : (uses : List Use) → AllByRecursion (IsThere now) uses → AllByRecursion IsGood uses
  good-there uses h = all-weaken (IsThere now) IsGood (λ u own. (there-below now (is.proper j within) u own, there-stays t is j within u own)) uses h

  -- what stands for a field after n more commands, over the schema of start databases
  pub field-within : (n : ℕ) → j + n ≤ count t → (m f : ℕ) → IsGood (field_use m f)
      → FieldWithin t.start now (written_out t.start (schema_at t (j + n)).added) (written_out now now.added) m f
  field-within n more m f good =
      subst (λ (o : Option (Term → Cases)). (x u : Term) → term_size x ≤ term_size u
      → Within t.start now (option_map_or (λ (at : Term → Cases). at x) o (held m f x)) (field_cases now (written_out now now.added) m f u))
      (sym (written-since t is j n m f more good.0))
      (out-within t.start now IsGood now.added nothing_written nothing_written (is.proper j within).order good-reads
      (λ m f own other x u e. fields m f x u (agree m f other own.1) e) m f good)

  pub uses-within : (n : ℕ) → j + n ≤ count t → (uses : List Use) → AllByRecursion IsGood uses
      → AllByRecursion (UseWithin t.start now (written_out t.start (schema_at t (j + n)).added) (written_out now now.added)) uses
  uses-within n more uses h =
      all-weaken IsGood (UseWithin t.start now (written_out t.start (schema_at t (j + n)).added) (written_out now now.added)) (λ u good. field-within n more u.model u.field good) uses h
