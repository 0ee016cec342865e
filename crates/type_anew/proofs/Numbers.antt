-- Expressions, sets and policies with other numbers. With new numbers those of type_anew are such, and with the numbers that they have they stay as they are.
use Rattle.std.proofs.Common.{◌≡◌, ℕ, refl, ap, ◌∙◌}
use Rattle.type_schema.specs.Trees.{Expr, flag, num, str, var, nothing, just, get, equal, iff, less, within, negation, both, either, if_expr, match_expr, SetExpr, everyone, nobody, listed, union, minus, find, path, mapped, flat_mapped, if_set, match_set, Items, no_items, static_item, record_item, Filters, no_filters, filter_and, Policy, to_all, to_none, by_record}

-- the numbers of models, of fields of a model, and of statics
module _ (model : ℕ → ℕ) (field : ℕ → ℕ → ℕ) (static : ℕ → ℕ) where
  abbrev mutual
    pub expr_by : Expr → Expr
    expr_by (flag b) = flag b
    expr_by (num n) = num n
    expr_by (str bytes) = str bytes
    expr_by (var depth name) = var depth name
    expr_by nothing = nothing
    expr_by (just e) = just (expr_by e)
    expr_by (get e m f) = get (expr_by e) (model m) (field m f)
    expr_by (equal a b op) = equal (expr_by a) (expr_by b) op
    expr_by (iff a b op) = iff (expr_by a) (expr_by b) op
    expr_by (less a b op) = less (expr_by a) (expr_by b) op
    expr_by (within e m set) = within (expr_by e) (model m) (set_by set)
    expr_by (negation e) = negation (expr_by e)
    expr_by (both a b) = both (expr_by a) (expr_by b)
    expr_by (either a b) = either (expr_by a) (expr_by b)
    expr_by (if_expr c a b) = if_expr (expr_by c) (expr_by a) (expr_by b)
    expr_by (match_expr e a name c) = match_expr (expr_by e) (expr_by a) name (expr_by c)

    pub set_by : SetExpr → SetExpr
    set_by everyone = everyone
    set_by nobody = nobody
    set_by (listed items) = listed (items_by items)
    set_by (union a b) = union (set_by a) (set_by b)
    set_by (minus a b) = minus (set_by a) (set_by b)
    set_by (find m filters) = find (model m) (filters_by m filters)
    set_by (path m e) = path (model m) (expr_by e)
    set_by (mapped set n name m e) = mapped (set_by set) (model n) name (model m) (expr_by e)
    set_by (flat_mapped set n name body) = flat_mapped (set_by set) (model n) name (set_by body)
    set_by (if_set c a b) = if_set (expr_by c) (set_by a) (set_by b)
    set_by (match_set e a name c) = match_set (expr_by e) (set_by a) name (set_by c)

    pub items_by : Items → Items
    items_by no_items = no_items
    items_by (static_item n items) = static_item (static n) (items_by items)
    items_by (record_item m e items) = record_item (model m) (expr_by e) (items_by items)

    -- on records of the model
    pub filters_by : (model : ℕ) → Filters → Filters
    filters_by m no_filters = no_filters
    filters_by m (filter_and f op e filters) = filter_and (field m f) op (expr_by e) (filters_by m filters)

  abbrev pub policy_by : Policy → Policy
  policy_by to_all = to_all
  policy_by to_none = to_none
  policy_by (by_record name set) = by_record name (set_by set)

-- ---- the numbers that they have

abbrev pub itself : ℕ → ℕ
itself n = n

abbrev pub field_itself : ℕ → ℕ → ℕ
field_itself m f = f

two : {A B C : Type 0} (f : A → B → C) (a a' : A) (b b' : B) → a ≡ a' → b ≡ b' → f a b ≡ f a' b'
two f a a' b b' p q = ap (λ x. f x b) p ∙ ap (f a') q

three : {A B C D : Type 0} (f : A → B → C → D) (a a' : A) (b b' : B) (c c' : C) → a ≡ a' → b ≡ b' → c ≡ c' → f a b c ≡ f a' b' c'
three f a a' b b' c c' p q r = ap (λ x. f x b c) p ∙ two (f a') b b' c c' q r

abbrev old_expr : Expr → Expr
old_expr x = expr_by itself field_itself itself x

abbrev old_set : SetExpr → SetExpr
old_set x = set_by itself field_itself itself x

mutual
  expr-itself : (x : Expr) → old_expr x ≡ x
  expr-itself (flag b) = refl
  expr-itself (num n) = refl
  expr-itself (str bytes) = refl
  expr-itself (var depth name) = refl
  expr-itself nothing = refl
  expr-itself (just e) = ap just (expr-itself e)
  expr-itself (get e m f) = ap (λ x. get x m f) (expr-itself e)
  expr-itself (equal a b op) = two (λ x y. equal x y op) (old_expr a) a (old_expr b) b (expr-itself a) (expr-itself b)
  expr-itself (iff a b op) = two (λ x y. iff x y op) (old_expr a) a (old_expr b) b (expr-itself a) (expr-itself b)
  expr-itself (less a b op) = two (λ x y. less x y op) (old_expr a) a (old_expr b) b (expr-itself a) (expr-itself b)
  expr-itself (within e m set) = two (λ x y. within x m y) (old_expr e) e (old_set set) set (expr-itself e) (set-itself set)
  expr-itself (negation e) = ap negation (expr-itself e)
  expr-itself (both a b) = two both (old_expr a) a (old_expr b) b (expr-itself a) (expr-itself b)
  expr-itself (either a b) = two either (old_expr a) a (old_expr b) b (expr-itself a) (expr-itself b)
  expr-itself (if_expr c a b) = three if_expr (old_expr c) c (old_expr a) a (old_expr b) b (expr-itself c) (expr-itself a) (expr-itself b)
  expr-itself (match_expr e a name c) = three (λ x y z. match_expr x y name z) (old_expr e) e (old_expr a) a (old_expr c) c (expr-itself e) (expr-itself a) (expr-itself c)

  set-itself : (x : SetExpr) → old_set x ≡ x
  set-itself everyone = refl
  set-itself nobody = refl
  set-itself (listed items) = ap listed (items-itself items)
  set-itself (union a b) = two union (old_set a) a (old_set b) b (set-itself a) (set-itself b)
  set-itself (minus a b) = two minus (old_set a) a (old_set b) b (set-itself a) (set-itself b)
  set-itself (find m filters) = ap (find m) (filters-itself m filters)
  set-itself (path m e) = ap (path m) (expr-itself e)
  set-itself (mapped set n name m e) = two (λ x y. mapped x n name m y) (old_set set) set (old_expr e) e (set-itself set) (expr-itself e)
  set-itself (flat_mapped set n name body) = two (λ x y. flat_mapped x n name y) (old_set set) set (old_set body) body (set-itself set) (set-itself body)
  set-itself (if_set c a b) = three if_set (old_expr c) c (old_set a) a (old_set b) b (expr-itself c) (set-itself a) (set-itself b)
  set-itself (match_set e a name c) = three (λ x y z. match_set x y name z) (old_expr e) e (old_set a) a (old_set c) c (expr-itself e) (set-itself a) (set-itself c)

  items-itself : (x : Items) → items_by itself field_itself itself x ≡ x
  items-itself no_items = refl
  items-itself (static_item n items) = ap (static_item n) (items-itself items)
  items-itself (record_item m e items) = two (record_item m) (old_expr e) e (items_by itself field_itself itself items) items (expr-itself e) (items-itself items)

  filters-itself : (m : ℕ) (x : Filters) → filters_by itself field_itself itself m x ≡ x
  filters-itself m no_filters = refl
  filters-itself m (filter_and f op e filters) = two (filter_and f op) (old_expr e) e (filters_by itself field_itself itself m filters) filters (expr-itself e) (filters-itself m filters)

pub policy-itself : (p : Policy) → policy_by itself field_itself itself p ≡ p
policy-itself to_all = refl
policy-itself to_none = refl
policy-itself (by_record name set) = ap (by_record name) (set-itself set)
