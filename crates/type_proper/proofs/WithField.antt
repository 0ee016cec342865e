-- The schema after a command that adds a field is proper, and stays so.
use Rattle.std.proofs.Common.{◌≡◌, ℕ, ◌+◌, ◌<◌, ◌≤◌, zero, suc, false, List, [], length, ◌∷◌, ◌++◌, map, refl, sym, ◌∙◌, ap, subst, arith}
use Rattle.std.specs.Prelude.{◌==◌, slice_index_or, Option, Some, None, option_and_then, Contains}
use Rattle.std.specs.List.{AllByRecursion, IsDistinct}
use Rattle.std.specs.Option.{option_map}
use Rattle.std.specs.Str.{bytes_eq}
use Rattle.std.proofs.lemmas.Bool.{eqb-true}
use Rattle.std.proofs.lemmas.List.{map-append}
use Rattle.type_schema.specs.declared.types.TTy.{TTy}
use Rattle.type_schema.specs.declared.types.TTy.TheVariants.{Plain, Set, Opt}
use Rattle.type_schema.specs.declared.types.TBase.TheVariants as base
use Rattle.type_schema.specs.Trees.{Expr, flag, num, str, var, nothing, just, get, equal, iff, less, within, negation, both, either, if_expr, match_expr, SetExpr, everyone, nobody, listed, union, minus, find, path, mapped, flat_mapped, if_set, match_set, Items, no_items, static_item, record_item, Filters, no_filters, filter_and, Init, plain, of_set}
use Rattle.type_schema.specs.Schema.{FieldInfo, ModelInfo, Added, Schema, field_in, model_of, type_of}
use Rattle.type_schema.specs.Typing.{Scope, Content, records, IsField, IsInit, IsExpr, IsSet, AreItems, AreFilters}
use Rattle.type_schema.specs.Commands.{add_field, schema_after, with_field}
use Rattle.type_schema.specs.Proper.{AreInOrder, AreNumbers, AreProperFields, field_numbers, use_of}
use Rattle.type_schema.specs.Uses.{Use, in_order_of_text, uses_of, set_uses_of, item_uses_of, filter_uses_of, init_uses_of}
use Rattle.text_tree.specs.declared.exprs.CmpOp.{CmpOp}
use Rattle.text_tree.specs.declared.exprs.CmpOp.TheVariants.{Eq, Ne, Lt, Le, Gt, Ge}
use Rattle.type_proper.specs.Steady.{FieldIsShown, IsSteady, ReadsBelow}
use Rattle.type_proper.proofs.Lists.{all-append, all-both, all-unmap, all-weaken, distinct-append, distinct-one, found-is, numbers-next, numbers-weaken}
use Rattle.type_proper.proofs.Lookups.{static-free}
use Rattle.type_proper.proofs.Grown.{fields-more}
use Rattle.type_proper.proofs.After.{changed, changed-steady, read-weaken}

-- ---- what is read is there, so its number is not free

-- each use has a number below
abbrev Below : ℕ → List Use → Type 0
Below next uses = AllByRecursion (λ (u : Use). u.field < next) uses

below-found : (next f : ℕ) (gs : List FieldInfo) → AllByRecursion (λ n. n < next) (field_numbers gs) → (g : FieldInfo) → field_in gs f ≡ Some g → f < next
below-found next f gs below g is =
    let found = found-is (λ (h : FieldInfo). h.number < next) (λ (h : FieldInfo). h.number == f) gs g (all-unmap (λ n. n < next) (λ (h : FieldInfo). h.number) gs below) is in
    let same : g.number ≡ f = eqb-true g.number f found.1 in
    omega (arith, found.0)

typed-found : (next f : ℕ) (t : TTy) (gs : List FieldInfo) → AllByRecursion (λ n. n < next) (field_numbers gs) → (o : Option FieldInfo) → field_in gs f ≡ o → option_map (λ (g : FieldInfo). g.ty) o ≡ Some t → f < next
typed-found next f t gs below None e h = absurd (cc h)
typed-found next f t gs below (Some g) e h = below-found next f gs below g e

module _ (s : Schema) (fields : AllByRecursion (AreProperFields s.next_field) s.models) where
  in-model : (m f : ℕ) (t : TTy) (o : Option ModelInfo) → model_of s m ≡ o → option_map (λ (g : FieldInfo). g.ty) (option_and_then (λ (info : ModelInfo). field_in info.fields f) o) ≡ Some t → f < s.next_field
  in-model m f t None e h = absurd (cc h)
  in-model m f t (Some info) e h =
      let found = found-is (AreProperFields s.next_field) (λ (i : ModelInfo). i.number == m) s.models info fields e in
      typed-found s.next_field f t info.fields found.0.numbers.below (field_in info.fields f) refl h

  number-below : (m f : ℕ) (t : TTy) → type_of s m f ≡ Some t → f < s.next_field
  number-below m f t is = in-model m f t (model_of s m) refl is

  either-order : (op : CmpOp) (a b : List Use) → Below s.next_field a → Below s.next_field b → Below s.next_field (in_order_of_text op a b)
  either-order Eq a b one other = all-append (λ (u : Use). u.field < s.next_field) a b one other
  either-order Ne a b one other = all-append (λ (u : Use). u.field < s.next_field) a b one other
  either-order Lt a b one other = all-append (λ (u : Use). u.field < s.next_field) a b one other
  either-order Le a b one other = all-append (λ (u : Use). u.field < s.next_field) b a other one
  either-order Gt a b one other = all-append (λ (u : Use). u.field < s.next_field) b a other one
  either-order Ge a b one other = all-append (λ (u : Use). u.field < s.next_field) a b one other

  two : (a b : List Use) → Below s.next_field a → Below s.next_field b → Below s.next_field (a ++ b)
  two a b one other = all-append (λ (u : Use). u.field < s.next_field) a b one other

  mutual
    expr-below : (scope : Scope) (t : TTy) (e : Expr) → IsExpr s scope t e → Below s.next_field (uses_of e)
    expr-below scope t (flag b) typed = tt
    expr-below scope t (num n) typed = tt
    expr-below scope t (str bytes) typed = tt
    expr-below scope t (var depth name) typed = tt
    expr-below scope t nothing typed = tt
    expr-below scope t (just e) typed = expr-below scope (Plain typed.0) e typed.2
    expr-below scope t (get e m f) typed = two (uses_of e) _ (expr-below scope (Plain (base.Id m)) e typed.1) (number-below m f t typed.0, tt)
    expr-below scope t (equal a b op) typed =
        two (uses_of a) (uses_of b) (expr-below scope (Plain typed.1.0) a typed.1.2) (expr-below scope (Plain typed.1.0) b typed.1.3)
    expr-below scope t (iff a b op) typed = two (uses_of a) (uses_of b) (expr-below scope (Plain base.Bool) a typed.1) (expr-below scope (Plain base.Bool) b typed.2)
    expr-below scope t (less a b op) typed = either-order op (uses_of a) (uses_of b) (expr-below scope (Plain base.Int) a typed.1) (expr-below scope (Plain base.Int) b typed.2)
    expr-below scope t (within e m set) typed = two (uses_of e) (set_uses_of set) (expr-below scope (Plain (base.Id m)) e typed.1) (set-below scope (records m) set typed.2)
    expr-below scope t (negation e) typed = expr-below scope (Plain base.Bool) e typed.1
    expr-below scope t (both a b) typed = two (uses_of a) (uses_of b) (expr-below scope (Plain base.Bool) a typed.1) (expr-below scope (Plain base.Bool) b typed.2)
    expr-below scope t (either a b) typed = two (uses_of a) (uses_of b) (expr-below scope (Plain base.Bool) a typed.1) (expr-below scope (Plain base.Bool) b typed.2)
    expr-below scope t (if_expr c a b) typed =
        two (uses_of c ++ uses_of a) (uses_of b) (two (uses_of c) (uses_of a) (expr-below scope (Plain base.Bool) c typed.0) (expr-below scope t a typed.1)) (expr-below scope t b typed.2)
    expr-below scope t (match_expr e a name c) typed =
        two (uses_of e ++ uses_of a) (uses_of c) (two (uses_of e) (uses_of a) (expr-below scope (Opt typed.0) e typed.1) (expr-below scope t a typed.2))
        (expr-below (scope ++ Plain typed.0 ∷ []) t c typed.3)

    set-below : (scope : Scope) (w : Content) (set : SetExpr) → IsSet s scope w set → Below s.next_field (set_uses_of set)
    set-below scope w everyone typed = tt
    set-below scope w nobody typed = tt
    set-below scope w (listed items) typed = items-below scope w items typed
    set-below scope w (union a b) typed = two (set_uses_of a) (set_uses_of b) (set-below scope w a typed.0) (set-below scope w b typed.1)
    set-below scope w (minus a b) typed = two (set_uses_of a) (set_uses_of b) (set-below scope w a typed.0) (set-below scope w b typed.1)
    set-below scope w (find m tests) typed = filters-below scope m tests typed.2
    set-below scope w (path m e) typed = expr-below scope (Set m) e typed.1
    set-below scope w (mapped set n name m e) typed =
        two (set_uses_of set) (uses_of e) (set-below scope (records n) set typed.2) (expr-below (scope ++ Plain (base.Id n) ∷ []) (Plain (base.Id m)) e typed.3)
    set-below scope w (flat_mapped set n name body) typed =
        two (set_uses_of set) (set_uses_of body) (set-below scope (records n) set typed.1) (set-below (scope ++ Plain (base.Id n) ∷ []) w body typed.2)
    set-below scope w (if_set c a b) typed =
        two (uses_of c ++ set_uses_of a) (set_uses_of b) (two (uses_of c) (set_uses_of a) (expr-below scope (Plain base.Bool) c typed.0) (set-below scope w a typed.1)) (set-below scope w b typed.2)
    set-below scope w (match_set e a name c) typed =
        two (uses_of e ++ set_uses_of a) (set_uses_of c) (two (uses_of e) (set_uses_of a) (expr-below scope (Opt typed.0) e typed.1) (set-below scope w a typed.2))
        (set-below (scope ++ Plain typed.0 ∷ []) w c typed.3)

    items-below : (scope : Scope) (w : Content) (items : Items) → AreItems s scope w items → Below s.next_field (item_uses_of items)
    items-below scope w no_items typed = tt
    items-below scope w (static_item n items) typed = items-below scope w items typed.2
    items-below scope w (record_item m e items) typed = two (uses_of e) (item_uses_of items) (expr-below scope (Plain (base.Id m)) e typed.1) (items-below scope w items typed.2)

    filters-below : (scope : Scope) (m : ℕ) (tests : Filters) → AreFilters s scope m tests → Below s.next_field (filter_uses_of m tests)
    filters-below scope m no_filters typed = tt
    filters-below scope m (filter_and f op e tests) typed =
        two (uses_of e) _ (expr-below scope typed.0.1 e typed.0.4) (number-below m f typed.0.0 typed.0.2, filters-below scope m tests typed.1)

  pub init-below : (m : ℕ) (t : TTy) (init : Init) → IsInit s m t init → Below s.next_field (init_uses_of init)
  init-below m t (plain e) typed = expr-below (Plain (base.Id m) ∷ []) t e typed.1
  init-below m t (of_set n set) typed = set-below (Plain (base.Id m) ∷ []) (records n) set typed.1

-- ---- the order of initialisers

not-there : (next : ℕ) (u : Use) (xs : List Use) → u.field < next → AllByRecursion (λ (v : Use). next ≤ v.field) xs → Contains xs u → ⊥
not-there next u [] below above has = absurd (omega (arith, has.1))
not-there next u (v ∷ xs) below above has = at (λ has. not-there next u xs below above.1 has) has.0 has.1 has.2
  where
    at : (Contains xs u → ⊥) → (k : ℕ) → k < length (v ∷ xs) → slice_index_or (v ∷ xs) k u ≡ u → ⊥
    at rest zero inside is = let n : v.field ≡ u.field = ap (λ (w : Use). w.field) is in absurd (omega (arith, above.0))
    at rest (suc k) inside is = rest (k, omega arith, is)

one-more : (u : Use) (xs : List Use) (v : Use) → (Contains xs u → ⊥) → (v ≡ u → ⊥) → Contains (xs ++ v ∷ []) u → ⊥
one-more u [] v none other has = at has.0 has.1 has.2
  where
    at : (k : ℕ) → k < 1 → slice_index_or (v ∷ []) k u ≡ u → ⊥
    at zero inside is = other is
    at (suc k) inside is = absurd (omega arith)
one-more u (x ∷ xs) v none other has = at (λ none has. one-more u xs v none other has) has.0 has.1 has.2
  where
    later : Contains xs u → ⊥
    later has = none (suc has.0, omega (arith, has.1), has.2)

    at : ((Contains xs u → ⊥) → Contains (xs ++ v ∷ []) u → ⊥) → (k : ℕ) → k < length (x ∷ (xs ++ v ∷ [])) → slice_index_or (x ∷ (xs ++ v ∷ [])) k u ≡ u → ⊥
    at rest zero inside is = none (zero, omega arith, is)
    at rest (suc k) inside is = rest later (k, omega arith, is)

-- one more behind the others, which do not read it
in-order-more : (next : ℕ) (added : List Added) (a : Added) → a.field ≡ next → AllByRecursion (ReadsBelow next) added → ReadsBelow next a → AreInOrder added → AreInOrder (added ++ a ∷ [])
in-order-more next [] a is read here order = (
  all-weaken (λ (u : Use). u.field < next) (λ (u : Use). Contains (use_of a ∷ []) u → ⊥)
      (λ u below has. not-there next u (use_of a ∷ []) below (omega (arith, is), tt) has) (init_uses_of a.init) here,
  tt,
)
in-order-more next (b ∷ added) a is read here order =
    let more : map use_of (b ∷ (added ++ a ∷ [])) ≡ map use_of (b ∷ added) ++ use_of a ∷ [] = map-append use_of (b ∷ added) (a ∷ []) in (
      all-both (λ (u : Use). u.field < next) (λ (u : Use). Contains (map use_of (b ∷ added)) u → ⊥) (λ (u : Use). Contains (map use_of (b ∷ (added ++ a ∷ []))) u → ⊥)
          (λ u below none has.
          one-more u (map use_of (b ∷ added)) (use_of a) none (λ same. let n : a.field ≡ u.field = ap (λ (w : Use). w.field) same in absurd (omega (arith, is, below)))
          (subst (λ (xs : List Use). Contains xs u) more has)) (init_uses_of b.init) read.0 order.0,
      in-order-more next added a is read.1 here order.1,
    )

-- ---- the command

module _ (s : Schema) (steady : IsSteady s) where
  -- The model has one more field. So it is for each choice of the fields that the script added.
  pub with_field-steady : (m : ℕ) (f : FieldInfo) (added : List Added) → f.number ≡ s.next_field
      → ((info : ModelInfo) → model_of s m ≡ Some info → AllByRecursion (λ n. bytes_eq n f.name ≡ false) (map (λ (g : FieldInfo). g.name) info.fields))
      → IsField (changed s steady m (with_field f) (s.next_field + 1) added) m f → FieldIsShown f → AreNumbers (s.next_field + 1) (map (λ (a : Added). a.field) added) → AreInOrder added
      → AllByRecursion (ReadsBelow (s.next_field + 1)) added → IsSteady (changed s steady m (with_field f) (s.next_field + 1) added)
  with_field-steady m f added number new typed shown numbers order read =
      let next : ℕ = s.next_field + 1 in
      let after : Schema = changed s steady m (with_field f) next added in
      let le : s.next_field ≤ next = omega arith in
      changed-steady s steady m next added (with_field f) (λ info. refl) (λ info. refl)
      (λ n info. record { principal = λ h. h; field = λ g t other is. (fields-more info.fields f g t is, static-free s.next_static t) }) le
      (λ info is h. record {
        create = h.create;
        delete = h.delete;
        fields = all-append (IsField after info.number) info.fields (f ∷ []) h.fields (subst (λ n. IsField after n f) (sym is) typed, tt);
      }) (λ info is h. (h.0, h.1, all-append FieldIsShown info.fields (f ∷ []) h.2 (shown, tt)))
      (λ info is there are.
      let fields : field_numbers (info.fields ++ f ∷ []) ≡ field_numbers info.fields ++ s.next_field ∷ [] =
      map-append (λ (g : FieldInfo). g.number) info.fields (f ∷ []) ∙ ap (λ n. field_numbers info.fields ++ n ∷ []) number in
      record {
        numbers = subst (AreNumbers next) (sym fields) (numbers-next s.next_field (field_numbers info.fields) are.numbers);
        names =
            subst (IsDistinct bytes_eq) (sym (map-append (λ (g : FieldInfo). g.name) info.fields (f ∷ [])))
            (distinct-append bytes_eq (map (λ (g : FieldInfo). g.name) info.fields) (f.name ∷ []) are.names (distinct-one bytes_eq f.name)
            (all-weaken (λ n. bytes_eq n f.name ≡ false) (λ n. AllByRecursion (λ y. bytes_eq n y ≡ false) (f.name ∷ [])) (λ n h. (h, tt)) (map (λ (g : FieldInfo). g.name) info.fields) (new info there)));
      })
      numbers order read

  pub added_field-steady : (m : ℕ) (f : FieldInfo) (init : Init) → f.number ≡ s.next_field
      → ((info : ModelInfo) → model_of s m ≡ Some info → AllByRecursion (λ n. bytes_eq n f.name ≡ false) (map (λ (g : FieldInfo). g.name) info.fields))
      → IsField (schema_after s (add_field m f init)) m f → FieldIsShown f → IsInit s m f.ty init → IsSteady (schema_after s (add_field m f init))
  added_field-steady m f init number new typed shown typed-init =
      let next : ℕ = s.next_field + 1 in
      let a : Added = record { model = m; field = f.number; init = init } in
      let here : ReadsBelow s.next_field a = init-below s steady.proper.fields m f.ty init typed-init in
      let le : s.next_field ≤ next = omega arith in
      let numbers : map (λ (a : Added). a.field) (s.added ++ a ∷ []) ≡ map (λ (a : Added). a.field) s.added ++ s.next_field ∷ [] =
      map-append (λ (a : Added). a.field) s.added (a ∷ []) ∙ ap (λ n. map (λ (a : Added). a.field) s.added ++ n ∷ []) number in
      with_field-steady m f (s.added ++ a ∷ []) number new typed shown
      (subst (AreNumbers next) (sym numbers) (numbers-next s.next_field (map (λ (a : Added). a.field) s.added) steady.proper.added))
      (in-order-more s.next_field s.added a number steady.read here steady.proper.order)
      (all-append (ReadsBelow next) s.added (a ∷ []) (read-weaken s.next_field next s.added le steady.read)
      (all-weaken (λ (u : Use). u.field < s.next_field) (λ (u : Use). u.field < next) (λ u below. omega (arith, below)) (init_uses_of init) here, tt))

  -- the model has one more field, of which no initialiser is known
  pub closed_field-steady : (m : ℕ) (f : FieldInfo) → f.number ≡ s.next_field
      → ((info : ModelInfo) → model_of s m ≡ Some info → AllByRecursion (λ n. bytes_eq n f.name ≡ false) (map (λ (g : FieldInfo). g.name) info.fields))
      → IsField (changed s steady m (with_field f) (s.next_field + 1) s.added) m f → FieldIsShown f → IsSteady (changed s steady m (with_field f) (s.next_field + 1) s.added)
  closed_field-steady m f number new typed shown =
      let next : ℕ = s.next_field + 1 in
      let le : s.next_field ≤ next = omega arith in
      with_field-steady m f s.added number new typed shown (numbers-weaken s.next_field next (map (λ (a : Added). a.field) s.added) le steady.proper.added) steady.proper.order
      (read-weaken s.next_field next s.added le steady.read)
