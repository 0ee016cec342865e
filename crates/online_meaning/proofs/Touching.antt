-- The cells that are touched are those of records that are there, and of fields that are used.
use Rattle.std.proofs.Common.{◌≡◌, ℕ, Bool, true, false, List, [], ◌∷◌, ◌++◌, refl, sym, subst, map}
use Rattle.std.specs.Prelude.{if◌then◌else◌}
use Rattle.std.specs.List.{flat_map, AllByRecursion}
use Rattle.text_tree.specs.declared.exprs.CmpOp.{CmpOp}
use Rattle.text_tree.specs.declared.exprs.CmpOp.TheVariants.{Eq, Ne, Lt, Le, Gt, Ge}
use Rattle.type_schema.specs.declared.types.TBase.{TBase}
use Rattle.type_schema.specs.declared.types.TBase.TheVariants as base
use Rattle.type_schema.specs.declared.types.TTy.{TTy}
use Rattle.type_schema.specs.declared.types.TTy.TheVariants as ty
use Rattle.type_schema.specs.Trees.{Expr, flag, num, str, var, nothing, just, get, equal, iff, less, within, negation, both, either, if_expr, match_expr, SetExpr, everyone, nobody, listed, union, minus, find, path, mapped, flat_mapped, if_set, match_set, Items, no_items, static_item, record_item, Filters, no_filters, filter_and, Init, plain, of_set}
use Rattle.type_schema.specs.Schema.{Schema}
use Rattle.type_schema.specs.Typing.{HasModel, Scope, Content, records, IsExpr, IsSet, AreItems, AreFilters, IsInit}
use Rattle.type_schema.specs.Uses.{Use, in_order_of_text, uses_of, set_uses_of, item_uses_of, filter_uses_of, init_uses_of}
use Rattle.data_meaning.specs.declared.principals.Principal.TheVariants.{Rec}
use Rattle.data_meaning.specs.Values.{Value, Flag, Num, Str, Id, Ids, Nothing, Just, ids_in}
use Rattle.data_meaning.specs.Database.{Database, ids_of, has_record, AreThere, IsDatabase}
use Rattle.data_meaning.specs.declared.cells.Cell.{Cell}
use Rattle.data_meaning.specs.Meaning.{Env, truth_of, id_of, taken_apart, value_of, member}
use Rattle.data_meaning.specs.Touched.{touched, set_touched, items_touched, filters_touched, init_touched}
use Rattle.data_meaning.specs.Sound.{IsHeld, AreHeld}
use Rattle.data_meaning.proofs.Carried.{all-front, all-behind, all-append}
use Rattle.data_meaning.proofs.Members.{members-there, id-held, all-there}
use Rattle.data_meaning.proofs.Soundness.{held, held-more}
use Rattle.online_meaning.proofs.Settled.{in-option}

-- ---- lists

-- the two sides of an operator
pub sides : (P : Use → Type 0) (op : CmpOp) (xs ys : List Use) → AllByRecursion P (in_order_of_text op xs ys) → AllByRecursion P xs × AllByRecursion P ys
sides P Eq xs ys all = (all-front P xs ys all, all-behind P xs ys all)
sides P Ne xs ys all = (all-front P xs ys all, all-behind P xs ys all)
sides P Lt xs ys all = (all-front P xs ys all, all-behind P xs ys all)
sides P Le xs ys all = (all-behind P ys xs all, all-front P ys xs all)
sides P Gt xs ys all = (all-behind P ys xs all, all-front P ys xs all)
sides P Ge xs ys all = (all-front P xs ys all, all-behind P xs ys all)

-- a branch
all-chosen : (P : Cell → Type 0) (b : Bool) (xs ys : List Cell) → AllByRecursion P xs → AllByRecursion P ys → AllByRecursion P (if b then xs else ys)
all-chosen P true xs ys one other = one
all-chosen P false xs ys one other = other

all-taken : (P : Cell → Type 0) (d : Database) (b : TBase) (u : Value) (xs : List Cell) (ys : Value → List Cell) → IsHeld d (ty.Opt b) u → AllByRecursion P xs
    → ((x : Value) → IsHeld d (ty.Plain b) x → AllByRecursion P (ys x)) → AllByRecursion P (taken_apart u xs ys)
all-taken P d b (Flag c) xs ys in-d none some = none
all-taken P d b (Num n) xs ys in-d none some = none
all-taken P d b (Str bytes) xs ys in-d none some = none
all-taken P d b (Id id) xs ys in-d none some = none
all-taken P d b (Ids ids) xs ys in-d none some = none
all-taken P d b Nothing xs ys in-d none some = none
all-taken P d b (Just x) xs ys in-d none some = some x (in-option d b x in-d)

-- the body of `map`, at each record of the source
all-flat : (P : Cell → Type 0) (source : ℕ → Bool) (cells : ℕ → List Cell) (ids : List ℕ) → ((y : ℕ) → source y ≡ true → AllByRecursion P (cells y))
    → AllByRecursion P (flat_map (λ y. if source y then cells y else []) ids)
all-flat P source cells [] each = tt
all-flat P source cells (y ∷ ids) each =
    all-append P (if source y then cells y else []) (flat_map (λ z. if source z then cells z else []) ids)
    (elim (source y) as (λ (b : Bool). source y ≡ b → AllByRecursion P (if b then cells y else [])) [ true ↦ λ is. each y is | false ↦ λ is. tt ] refl)
    (all-flat P source cells ids each)

module _ (s : Schema) (d : Database) (is : IsDatabase s d) (U : Use → Type 0) where
  -- a cell of a record that is there, and of such a field
  abbrev pub Fits : Cell → Type 0
  Fits cell = (has_record d cell.model cell.id ≡ true) × U (record { model = cell.model; field = cell.field })

  all-cells : (m f : ℕ) → U (record { model = m; field = f }) → (ids : List ℕ) → AreThere d m ids
      → AllByRecursion Fits (map (λ id. record { model = m; id = id; field = f }) ids)
  all-cells m f used [] there = tt
  all-cells m f used (id ∷ ids) there = ((there.0, used), all-cells m f used ids there.1)

  mutual
    expr-fits : (x : Expr) (scope : Scope) (env : Env) → AreHeld d scope env → (t : TTy) → IsExpr s scope t x → AllByRecursion U (uses_of x)
        → AllByRecursion Fits (touched d env x)
    expr-fits (flag b) scope env h t typed u = tt
    expr-fits (num n) scope env h t typed u = tt
    expr-fits (str bytes) scope env h t typed u = tt
    expr-fits (var depth name) scope env h t typed u = tt
    expr-fits nothing scope env h t typed u = tt
    expr-fits (just x) scope env h t typed u = expr-fits x scope env h (ty.Plain typed.0) typed.2 u
    expr-fits (get x m f) scope env h t typed u =
        let one = held s d is x scope env h (ty.Plain (base.Id m)) typed.1 in
        let value : value_of d env x ≡ Id one.0.0 = one.0.1 in
        let there : AreThere d m (one.0.0 ∷ []) = subst (λ (v : Value). AreThere d m (ids_in v)) value one.1 in
        let here : has_record d m (id_of (value_of d env x)) ≡ true = subst (λ (v : Value). has_record d m (id_of v) ≡ true) (sym value) there.0 in
        all-append Fits (touched d env x) _ (expr-fits x scope env h (ty.Plain (base.Id m)) typed.1 (all-front U (uses_of x) _ u))
        ((here, (all-behind U (uses_of x) _ u).0), tt)
    expr-fits (equal x y op) scope env h t typed u =
        all-append Fits (touched d env x) (touched d env y) (expr-fits x scope env h (ty.Plain typed.1.0) typed.1.2 (all-front U (uses_of x) _ u))
        (expr-fits y scope env h (ty.Plain typed.1.0) typed.1.3 (all-behind U (uses_of x) _ u))
    expr-fits (iff x y op) scope env h t typed u =
        all-append Fits (touched d env x) (touched d env y) (expr-fits x scope env h (ty.Plain base.Bool) typed.1 (all-front U (uses_of x) _ u))
        (expr-fits y scope env h (ty.Plain base.Bool) typed.2 (all-behind U (uses_of x) _ u))
    expr-fits (less x y op) scope env h t typed u =
        let two = sides U op (uses_of x) (uses_of y) u in
        all-append Fits (touched d env x) (touched d env y) (expr-fits x scope env h (ty.Plain base.Int) typed.1 two.0) (expr-fits y scope env h (ty.Plain base.Int) typed.2 two.1)
    expr-fits (within x m set) scope env h t typed u =
        all-append Fits (touched d env x) (set_touched d env set) (expr-fits x scope env h (ty.Plain (base.Id m)) typed.1 (all-front U (uses_of x) _ u))
        (set-fits set scope env h (records m) typed.2 (all-behind U (uses_of x) _ u))
    expr-fits (negation x) scope env h t typed u = expr-fits x scope env h (ty.Plain base.Bool) typed.1 u
    expr-fits (both x y) scope env h t typed u =
        all-append Fits (touched d env x) (touched d env y) (expr-fits x scope env h (ty.Plain base.Bool) typed.1 (all-front U (uses_of x) _ u))
        (expr-fits y scope env h (ty.Plain base.Bool) typed.2 (all-behind U (uses_of x) _ u))
    expr-fits (either x y) scope env h t typed u =
        all-append Fits (touched d env x) (touched d env y) (expr-fits x scope env h (ty.Plain base.Bool) typed.1 (all-front U (uses_of x) _ u))
        (expr-fits y scope env h (ty.Plain base.Bool) typed.2 (all-behind U (uses_of x) _ u))
    expr-fits (if_expr c x y) scope env h t typed u =
        let first = all-front U (uses_of c ++ uses_of x) (uses_of y) u in
        all-append Fits (touched d env c) _ (expr-fits c scope env h (ty.Plain base.Bool) typed.0 (all-front U (uses_of c) (uses_of x) first))
        (all-chosen Fits (truth_of (value_of d env c)) (touched d env x) (touched d env y)
        (expr-fits x scope env h t typed.1 (all-behind U (uses_of c) (uses_of x) first))
        (expr-fits y scope env h t typed.2 (all-behind U (uses_of c ++ uses_of x) (uses_of y) u)))
    expr-fits (match_expr x y name z) scope env h t typed u =
        let b = typed.0 in
        let first = all-front U (uses_of x ++ uses_of y) (uses_of z) u in
        all-append Fits (touched d env x) _ (expr-fits x scope env h (ty.Opt b) typed.1 (all-front U (uses_of x) (uses_of y) first))
        (all-taken Fits d b (value_of d env x) (touched d env y) (λ v. touched d (env ++ v ∷ []) z) (held s d is x scope env h (ty.Opt b) typed.1)
        (expr-fits y scope env h t typed.2 (all-behind U (uses_of x) (uses_of y) first))
        (λ v k.
        expr-fits z (scope ++ ty.Plain b ∷ []) (env ++ v ∷ []) (held-more d scope env (ty.Plain b) v h k) t typed.3 (all-behind U (uses_of x ++ uses_of y) (uses_of z) u)))

    set-fits : (x : SetExpr) (scope : Scope) (env : Env) → AreHeld d scope env → (w : Content) → IsSet s scope w x → AllByRecursion U (set_uses_of x)
        → AllByRecursion Fits (set_touched d env x)
    set-fits everyone scope env h w typed u = tt
    set-fits nobody scope env h w typed u = tt
    set-fits (listed items) scope env h w typed u = items-fit items scope env h w typed u
    set-fits (union x y) scope env h w typed u =
        all-append Fits (set_touched d env x) (set_touched d env y) (set-fits x scope env h w typed.0 (all-front U (set_uses_of x) _ u))
        (set-fits y scope env h w typed.1 (all-behind U (set_uses_of x) _ u))
    set-fits (minus x y) scope env h w typed u =
        all-append Fits (set_touched d env x) (set_touched d env y) (set-fits x scope env h w typed.0 (all-front U (set_uses_of x) _ u))
        (set-fits y scope env h w typed.1 (all-behind U (set_uses_of x) _ u))
    set-fits (find m filters) scope env h w typed u = filters-fit filters m scope env h typed.2 u
    set-fits (path m x) scope env h w typed u = expr-fits x scope env h (ty.Set m) typed.1 u
    set-fits (mapped set n name m x) scope env h w typed u =
        all-append Fits (set_touched d env set) _ (set-fits set scope env h (records n) typed.2 (all-front U (set_uses_of set) _ u))
        (all-flat Fits (λ y. member d env set (Rec n y)) (λ y. touched d (env ++ Id y ∷ []) x) (ids_of d n)
        (λ y inside.
        let there = (members-there s d is scope env h n set typed.2 (Rec n y) inside).1 in
        expr-fits x (scope ++ ty.Plain (base.Id n) ∷ []) (env ++ Id y ∷ []) (held-more d scope env (ty.Plain (base.Id n)) (Id y) h (id-held s d is n y typed.1 there))
        (ty.Plain (base.Id m)) typed.3 (all-behind U (set_uses_of set) _ u)))
    set-fits (flat_mapped set n name body) scope env h w typed u =
        all-append Fits (set_touched d env set) _ (set-fits set scope env h (records n) typed.1 (all-front U (set_uses_of set) _ u))
        (all-flat Fits (λ y. member d env set (Rec n y)) (λ y. set_touched d (env ++ Id y ∷ []) body) (ids_of d n)
        (λ y inside.
        let there = (members-there s d is scope env h n set typed.1 (Rec n y) inside).1 in
        set-fits body (scope ++ ty.Plain (base.Id n) ∷ []) (env ++ Id y ∷ []) (held-more d scope env (ty.Plain (base.Id n)) (Id y) h (id-held s d is n y typed.0 there))
        w typed.2 (all-behind U (set_uses_of set) _ u)))
    set-fits (if_set c x y) scope env h w typed u =
        let first = all-front U (uses_of c ++ set_uses_of x) (set_uses_of y) u in
        all-append Fits (touched d env c) _ (expr-fits c scope env h (ty.Plain base.Bool) typed.0 (all-front U (uses_of c) (set_uses_of x) first))
        (all-chosen Fits (truth_of (value_of d env c)) (set_touched d env x) (set_touched d env y)
        (set-fits x scope env h w typed.1 (all-behind U (uses_of c) (set_uses_of x) first))
        (set-fits y scope env h w typed.2 (all-behind U (uses_of c ++ set_uses_of x) (set_uses_of y) u)))
    set-fits (match_set x y name z) scope env h w typed u =
        let b = typed.0 in
        let first = all-front U (uses_of x ++ set_uses_of y) (set_uses_of z) u in
        all-append Fits (touched d env x) _ (expr-fits x scope env h (ty.Opt b) typed.1 (all-front U (uses_of x) (set_uses_of y) first))
        (all-taken Fits d b (value_of d env x) (set_touched d env y) (λ v. set_touched d (env ++ v ∷ []) z) (held s d is x scope env h (ty.Opt b) typed.1)
        (set-fits y scope env h w typed.2 (all-behind U (uses_of x) (set_uses_of y) first))
        (λ v k.
        set-fits z (scope ++ ty.Plain b ∷ []) (env ++ v ∷ []) (held-more d scope env (ty.Plain b) v h k) w typed.3
        (all-behind U (uses_of x ++ set_uses_of y) (set_uses_of z) u)))

    items-fit : (x : Items) (scope : Scope) (env : Env) → AreHeld d scope env → (w : Content) → AreItems s scope w x → AllByRecursion U (item_uses_of x)
        → AllByRecursion Fits (items_touched d env x)
    items-fit no_items scope env h w typed u = tt
    items-fit (static_item n items) scope env h w typed u = items-fit items scope env h w typed.2 u
    items-fit (record_item m x items) scope env h w typed u =
        all-append Fits (touched d env x) (items_touched d env items) (expr-fits x scope env h (ty.Plain (base.Id m)) typed.1 (all-front U (uses_of x) _ u))
        (items-fit items scope env h w typed.2 (all-behind U (uses_of x) _ u))

    filters-fit : (x : Filters) (m : ℕ) (scope : Scope) (env : Env) → AreHeld d scope env → AreFilters s scope m x → AllByRecursion U (filter_uses_of m x)
        → AllByRecursion Fits (filters_touched d env m x)
    filters-fit no_filters m scope env h typed u = tt
    filters-fit (filter_and f op x filters) m scope env h typed u =
        let later = all-behind U (uses_of x) _ u in
        all-append Fits (touched d env x ++ map (λ id. record { model = m; id = id; field = f }) (ids_of d m)) (filters_touched d env m filters)
        (all-append Fits (touched d env x) _ (expr-fits x scope env h typed.0.1 typed.0.4 (all-front U (uses_of x) _ u))
        (all-cells m f later.0 (ids_of d m) (all-there d m (ids_of d m) (λ id k. k))))
        (filters-fit filters m scope env h typed.1 later.1)

  pub init-fits : (m id : ℕ) → HasModel s m → has_record d m id ≡ true → (t : TTy) (init : Init) → IsInit s m t init → AllByRecursion U (init_uses_of init)
      → AllByRecursion Fits (init_touched d init id)
  init-fits m id has there t (plain x) typed u =
      expr-fits x (ty.Plain (base.Id m) ∷ []) (Id id ∷ []) (id-held s d is m id has there, tt) t typed.1 u
  init-fits m id has there t (of_set n set) typed u =
      set-fits set (ty.Plain (base.Id m) ∷ []) (Id id ∷ []) (id-held s d is m id has there, tt) (records n) typed.1 u
