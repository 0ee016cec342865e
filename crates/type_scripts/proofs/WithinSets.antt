-- Formulas of expressions, sets, policies and initialisers that are no larger than others.
use Rattle.std.proofs.Common.{ℕ, suc, ◌-◌, ◌≤◌, Bool, true, false, not, List, [], ◌∷◌, ◌++◌, length, arith}
use Rattle.std.specs.Prelude.{nat_lt}
use Rattle.std.specs.List.{AllByRecursion}
use Rattle.text_tree.specs.declared.exprs.CmpOp.{CmpOp}
use Rattle.text_tree.specs.declared.exprs.CmpOp.TheVariants.{Eq, Ne, Lt, Le, Gt, Ge}
use Rattle.text_tree.specs.declared.exprs.FilterOp.{FilterOp}
use Rattle.text_tree.specs.declared.exprs.FilterOp.TheVariants.{Cmp, Has}
use Rattle.type_schema.specs.Trees.{Expr, flag, num, str, var, nothing, just, get, equal, iff, less, within, negation, both, either, if_expr, match_expr, SetExpr, everyone, nobody, listed, union, minus, find, path, mapped, flat_mapped, if_set, match_set, Items, no_items, static_item, record_item, Filters, no_filters, filter_and, Policy, to_all, to_none, by_record, Init, plain, of_set}
use Rattle.type_schema.specs.Schema.{Schema}
use Rattle.type_schema.specs.Uses.{Use, in_order_of_text, uses_of, set_uses_of, item_uses_of, filter_uses_of, init_uses_of}
use Rattle.data_meaning.specs.Meaning.{same_truth}
use Rattle.form_formula.specs.Trees.{Term, Formula}
use Rattle.form_formula.specs.Trees as formula
use Rattle.duty_meaning.specs.Structures.{sort_of, function_of}
use Rattle.duty_meaning.specs.Cases.{Condition, constant, atom, and_if, all_if, chosen, same_condition, Cases, at_term, held, none, choice, at_ends, of_term, at_terms, of_option, condition_of, has_term, same_term, less_term}
use Rattle.duty_meaning.specs.Formulas.{Scene, Who, record_at, of_model, is_static, Written, field_cases, passes, next_variable, cases_of, is_in, items_in, filters_at, is_allowed, init_cases}
use Rattle.duty_meaning.specs.Reach.{in_parts, sides, end_is_none, end_is_some, reach, set_reach, items_reach, filters_reach, init_reach}
use Rattle.duty_meaning.specs.Sizes.{term_size, size}
use Rattle.type_proper.proofs.Lists.{all-front, all-back}
use Rattle.type_scripts.specs.Asked.{policy_uses_of}
use Rattle.type_scripts.proofs.Within.{constant-less, atom-less, and-less, exists-less, test-less, LessAll, all-less, any-less, LessCondition, same-less, LessWho, same_model, of_model-less, Within, terms, fields, truths, sets, nones, somes, choices, ends-less, continued-within, at_terms-less, term-within, option-within, option-less, condition-less, has-less, same_term-less, less_term-less, some-within, compared-less, LessScene, scene-and, scene-at}

-- ---- uses

pub sides-of : (P : Use → Type 0) (op : CmpOp) (xs ys : List Use) → AllByRecursion P (in_order_of_text op xs ys) → AllByRecursion P xs × AllByRecursion P ys
sides-of P Eq xs ys h = (all-front P xs ys h, all-back P xs ys h)
sides-of P Ne xs ys h = (all-front P xs ys h, all-back P xs ys h)
sides-of P Lt xs ys h = (all-front P xs ys h, all-back P xs ys h)
sides-of P Le xs ys h = (all-back P ys xs h, all-front P ys xs h)
sides-of P Gt xs ys h = (all-back P ys xs h, all-front P ys xs h)
sides-of P Ge xs ys h = (all-front P xs ys h, all-back P xs ys h)

-- of three parts
pub first : (P : Use → Type 0) (xs ys zs : List Use) → AllByRecursion P (xs ++ ys ++ zs) → AllByRecursion P xs
first P xs ys zs h = all-front P xs ys (all-front P (xs ++ ys) zs h)

pub second : (P : Use → Type 0) (xs ys zs : List Use) → AllByRecursion P (xs ++ ys ++ zs) → AllByRecursion P ys
second P xs ys zs h = all-back P xs ys (all-front P (xs ++ ys) zs h)

pub third : (P : Use → Type 0) (xs ys zs : List Use) → AllByRecursion P (xs ++ ys ++ zs) → AllByRecursion P zs
third P xs ys zs h = all-back P (xs ++ ys) zs h

-- ---- parts of a list of uses

parts-less : (count : ℕ) (F G H I : ℕ → Formula) → ((n : ℕ) → size (F n) ≤ size (H n)) → ((n : ℕ) → size (G n) ≤ size (I n)) → (n : ℕ)
    → size (in_parts count F G n) ≤ size (in_parts count H I n)
parts-less count F G H I h k n = test-less (nat_lt n count) (F n) (G (n - count)) (H n) (I (n - count)) (h n) (k (n - count))

sides-less : (op : CmpOp) (left right : ℕ) (F G H I : ℕ → Formula) → ((n : ℕ) → size (F n) ≤ size (H n)) → ((n : ℕ) → size (G n) ≤ size (I n)) → (n : ℕ)
    → size (sides op left right F G n) ≤ size (sides op left right H I n)
sides-less Eq left right F G H I h k n = parts-less left F G H I h k n
sides-less Ne left right F G H I h k n = parts-less left F G H I h k n
sides-less Lt left right F G H I h k n = parts-less left F G H I h k n
sides-less Le left right F G H I h k n = parts-less right G F I H k h n
sides-less Gt left right F G H I h k n = parts-less right G F I H k h n
sides-less Ge left right F G H I h k n = parts-less left F G H I h k n

equal-less : (m : ℕ) (q p : Who) → LessWho q p → (t u : Term) → term_size t ≤ term_size u
    → LessCondition (of_model m q (λ x sign above. atom sign (formula.equal x t))) (of_model m p (λ x sign above. atom sign (formula.equal x u)))
equal-less m q p k t u e =
    of_model-less m (λ x sign above. atom sign (formula.equal x t)) (λ x sign above. atom sign (formula.equal x u))
    (λ x y i sign a sign' a'. atom-less sign sign' (formula.equal x t) (formula.equal y u) (omega (arith, i, e))) q p k

module _ (s b : Schema) (w o : Written) where
  -- what the field holds of one schema is within what it holds of the other
  abbrev pub FieldWithin : ℕ → ℕ → Type 0
  FieldWithin m f = (t u : Term) → term_size t ≤ term_size u → Within s b (field_cases s w m f t) (field_cases b o m f u)

  abbrev pub UseWithin : Use → Type 0
  UseWithin u = FieldWithin u.model u.field

  passes-less : (op : FilterOp) (c d v x : Cases) → Within s b c d → Within s b v x → LessCondition (passes s w op c v) (passes b o op d x)
  passes-less (Cmp op) c d v x h k sign a sign' a' = compared-less s b op c d v x h k sign a sign' a'
  passes-less Has c d v x h k sign a sign' a' =
      at_terms-less s b a a' (λ t. has_term s c t sign a) (λ t. has_term b d t sign' a') (λ t u e. has-less s b c d h t u e sign a sign' a') v x k

  mutual
    pub cases-within : (e : Expr) (xs ys : Scene) → LessScene s b xs ys → AllByRecursion UseWithin (uses_of e) → Within s b (cases_of s w xs e) (cases_of b o ys e)
    cases-within (flag z) xs ys h r =
        truths (λ sign above. constant (same_truth sign z)) (λ sign above. constant (same_truth sign z)) (λ sign a sign' a'. constant-less (same_truth sign z) (constant (same_truth sign' z)))
    cases-within (num n) xs ys h r = terms (formula.num n) (formula.num n) (omega arith)
    cases-within (str bytes) xs ys h r = terms (formula.str bytes) (formula.str bytes) (omega arith)
    cases-within (var depth name) xs ys h r = scene-at s b xs ys h depth
    cases-within nothing xs ys h r = nones
    cases-within (just e) xs ys h r = some-within s b (cases_of s w xs e) (cases_of b o ys e) (cases-within e xs ys h r)
    cases-within (get e m f) xs ys h r =
        continued-within s b (of_term s none (field_cases s w m f)) (of_term b none (field_cases b o m f))
        (term-within s b (field_cases s w m f) (field_cases b o m f) (all-back UseWithin (uses_of e) ((record { model = m; field = f }) ∷ []) r).0)
        (cases_of s w xs e) (cases_of b o ys e) (cases-within e xs ys h (all-front UseWithin (uses_of e) ((record { model = m; field = f }) ∷ []) r))
    cases-within (equal c d op) xs ys h r =
        truths (same_term s (cases_of s w xs c) (cases_of s w xs d)) (same_term b (cases_of b o ys c) (cases_of b o ys d))
        (same_term-less s b (cases_of s w xs c) (cases_of b o ys c) (cases_of s w xs d) (cases_of b o ys d)
        (cases-within c xs ys h (all-front UseWithin (uses_of c) (uses_of d) r)) (cases-within d xs ys h (all-back UseWithin (uses_of c) (uses_of d) r)))
    cases-within (iff c d op) xs ys h r =
        let one = condition-less s b (cases_of s w xs c) (cases_of b o ys c) (cases-within c xs ys h (all-front UseWithin (uses_of c) (uses_of d) r)) in
        let two = condition-less s b (cases_of s w xs d) (cases_of b o ys d) (cases-within d xs ys h (all-back UseWithin (uses_of c) (uses_of d) r)) in
        truths (same_condition (condition_of s (cases_of s w xs c)) (condition_of s (cases_of s w xs d)))
        (same_condition (condition_of b (cases_of b o ys c)) (condition_of b (cases_of b o ys d)))
        (same-less (condition_of s (cases_of s w xs c)) (condition_of b (cases_of b o ys c)) (condition_of s (cases_of s w xs d)) (condition_of b (cases_of b o ys d)) one two)
    cases-within (less c d op) xs ys h r =
        let both = sides-of UseWithin op (uses_of c) (uses_of d) r in
        truths (less_term s (cases_of s w xs c) (cases_of s w xs d)) (less_term b (cases_of b o ys c) (cases_of b o ys d))
        (less_term-less s b (cases_of s w xs c) (cases_of b o ys c) (cases_of s w xs d) (cases_of b o ys d) (cases-within c xs ys h both.0) (cases-within d xs ys h both.1))
    cases-within (within e m set) xs ys h r =
        let inner = cases-within e xs ys h (all-front UseWithin (uses_of e) (set_uses_of set) r) in
        let uses = all-back UseWithin (uses_of e) (set_uses_of set) r in
        truths (λ sign above. at_terms s above (λ t. is_in s w xs set (record_at m t) sign above) (cases_of s w xs e))
        (λ sign above. at_terms b above (λ t. is_in b o ys set (record_at m t) sign above) (cases_of b o ys e))
        (λ sign a sign' a'.
        at_terms-less s b a a' (λ t. is_in s w xs set (record_at m t) sign a) (λ t. is_in b o ys set (record_at m t) sign' a')
        (λ t u e. in-less set xs ys h uses (record_at m t) (record_at m u) (same_model m t u e) sign a sign' a') (cases_of s w xs e) (cases_of b o ys e) inner)
    cases-within (negation e) xs ys h r =
        let inner = condition-less s b (cases_of s w xs e) (cases_of b o ys e) (cases-within e xs ys h r) in
        truths (λ sign above. condition_of s (cases_of s w xs e) (not sign) above) (λ sign above. condition_of b (cases_of b o ys e) (not sign) above)
        (λ sign a sign' a'. inner (not sign) a (not sign') a')
    cases-within (both c d) xs ys h r =
        let one = condition-less s b (cases_of s w xs c) (cases_of b o ys c) (cases-within c xs ys h (all-front UseWithin (uses_of c) (uses_of d) r)) in
        let two = condition-less s b (cases_of s w xs d) (cases_of b o ys d) (cases-within d xs ys h (all-back UseWithin (uses_of c) (uses_of d) r)) in
        truths (λ sign above. and_if sign (condition_of s (cases_of s w xs c) sign above) (condition_of s (cases_of s w xs d) sign above))
        (λ sign above. and_if sign (condition_of b (cases_of b o ys c) sign above) (condition_of b (cases_of b o ys d) sign above))
        (λ sign a sign' a'. and-less sign sign' _ _ _ _ (one sign a sign' a') (two sign a sign' a'))
    cases-within (either c d) xs ys h r =
        let one = condition-less s b (cases_of s w xs c) (cases_of b o ys c) (cases-within c xs ys h (all-front UseWithin (uses_of c) (uses_of d) r)) in
        let two = condition-less s b (cases_of s w xs d) (cases_of b o ys d) (cases-within d xs ys h (all-back UseWithin (uses_of c) (uses_of d) r)) in
        truths (λ sign above. and_if (not sign) (condition_of s (cases_of s w xs c) sign above) (condition_of s (cases_of s w xs d) sign above))
        (λ sign above. and_if (not sign) (condition_of b (cases_of b o ys c) sign above) (condition_of b (cases_of b o ys d) sign above))
        (λ sign a sign' a'. and-less (not sign) (not sign') _ _ _ _ (one sign a sign' a') (two sign a sign' a'))
    cases-within (if_expr c d e) xs ys h r =
        choices (condition_of s (cases_of s w xs c)) (condition_of b (cases_of b o ys c)) (cases_of s w xs d) (cases_of b o ys d) (cases_of s w xs e) (cases_of b o ys e)
        (condition-less s b (cases_of s w xs c) (cases_of b o ys c) (cases-within c xs ys h (first UseWithin (uses_of c) (uses_of d) (uses_of e) r)))
        (cases-within d xs ys h (second UseWithin (uses_of c) (uses_of d) (uses_of e) r)) (cases-within e xs ys h (third UseWithin (uses_of c) (uses_of d) (uses_of e) r))
    cases-within (match_expr e c name d) xs ys h r =
        let uses = third UseWithin (uses_of e) (uses_of c) (uses_of d) r in
        continued-within s b (of_option s choice (cases_of s w xs c) (λ v. cases_of s w (xs ++ v ∷ []) d)) (of_option b choice (cases_of b o ys c) (λ v. cases_of b o (ys ++ v ∷ []) d))
        (option-within s b (cases_of s w xs c) (cases_of b o ys c) (cases-within c xs ys h (second UseWithin (uses_of e) (uses_of c) (uses_of d) r))
        (λ v. cases_of s w (xs ++ v ∷ []) d) (λ v. cases_of b o (ys ++ v ∷ []) d) (λ v x k. cases-within d (xs ++ v ∷ []) (ys ++ x ∷ []) (scene-and s b xs ys v x h k) uses))
        (cases_of s w xs e) (cases_of b o ys e) (cases-within e xs ys h (first UseWithin (uses_of e) (uses_of c) (uses_of d) r))

    pub in-less : (set : SetExpr) (xs ys : Scene) → LessScene s b xs ys → AllByRecursion UseWithin (set_uses_of set) → (q p : Who) → LessWho q p
        → LessCondition (is_in s w xs set q) (is_in b o ys set p)
    in-less everyone xs ys h r q p k sign a sign' a' = constant-less sign (constant sign')
    in-less nobody xs ys h r q p k sign a sign' a' = constant-less (not sign) (constant (not sign'))
    in-less (listed items) xs ys h r q p k sign a sign' a' =
        any-less sign sign' (items_in s w xs items q sign a) (items_in b o ys items p sign' a') (items-less items xs ys h r q p k sign a sign' a')
    in-less (union c d) xs ys h r q p k sign a sign' a' =
        and-less (not sign) (not sign') _ _ _ _ (in-less c xs ys h (all-front UseWithin (set_uses_of c) (set_uses_of d) r) q p k sign a sign' a')
        (in-less d xs ys h (all-back UseWithin (set_uses_of c) (set_uses_of d) r) q p k sign a sign' a')
    in-less (minus c d) xs ys h r q p k sign a sign' a' =
        and-less sign sign' _ _ _ _ (in-less c xs ys h (all-front UseWithin (set_uses_of c) (set_uses_of d) r) q p k sign a sign' a')
        (in-less d xs ys h (all-back UseWithin (set_uses_of c) (set_uses_of d) r) q p k (not sign) a (not sign') a')
    in-less (find m filters) xs ys h r q p k sign a sign' a' =
        of_model-less m (λ t sign above. all_if sign (filters_at s w xs m filters t sign above)) (λ t sign above. all_if sign (filters_at b o ys m filters t sign above))
        (λ t u e sign a sign' a'. all-less sign sign' (filters_at s w xs m filters t sign a) (filters_at b o ys m filters u sign' a') (filters-less filters xs ys h m r t u e sign a sign' a'))
        q p k sign a sign' a'
    in-less (path m e) xs ys h r q p k sign a sign' a' =
        of_model-less m (has_term s (cases_of s w xs e)) (has_term b (cases_of b o ys e)) (has-less s b (cases_of s w xs e) (cases_of b o ys e) (cases-within e xs ys h r)) q p k sign a sign' a'
    in-less (mapped set n name m e) xs ys h r q p k sign a sign' a' =
        let x = next_variable s w n a in
        let y = next_variable b o n a' in
        let inner = scene-and s b xs ys (at_term x) (at_term y) h (terms x y (omega arith)) in
        exists-less sign sign' (sort_of s n) (sort_of b n) _ _
        (and-less sign sign' _ _ _ _
        (in-less set xs ys h (all-front UseWithin (set_uses_of set) (uses_of e) r) (record_at n x) (record_at n y) (same_model n x y (omega arith)) sign (suc a) sign' (suc a'))
        (at_terms-less s b (suc a) (suc a') (λ t. of_model m q (λ u sign above. atom sign (formula.equal u t)) sign (suc a))
        (λ t. of_model m p (λ u sign above. atom sign (formula.equal u t)) sign' (suc a')) (λ t u e. equal-less m q p k t u e sign (suc a) sign' (suc a'))
        (cases_of s w (xs ++ at_term x ∷ []) e) (cases_of b o (ys ++ at_term y ∷ []) e)
        (cases-within e (xs ++ at_term x ∷ []) (ys ++ at_term y ∷ []) inner (all-back UseWithin (set_uses_of set) (uses_of e) r))))
    in-less (flat_mapped set n name body) xs ys h r q p k sign a sign' a' =
        let x = next_variable s w n a in
        let y = next_variable b o n a' in
        let inner = scene-and s b xs ys (at_term x) (at_term y) h (terms x y (omega arith)) in
        exists-less sign sign' (sort_of s n) (sort_of b n) _ _
        (and-less sign sign' _ _ _ _
        (in-less set xs ys h (all-front UseWithin (set_uses_of set) (set_uses_of body) r) (record_at n x) (record_at n y) (same_model n x y (omega arith)) sign (suc a) sign' (suc a'))
        (in-less body (xs ++ at_term x ∷ []) (ys ++ at_term y ∷ []) inner (all-back UseWithin (set_uses_of set) (set_uses_of body) r) q p k sign (suc a) sign' (suc a')))
    in-less (if_set c d e) xs ys h r q p k sign a sign' a' =
        let test = condition-less s b (cases_of s w xs c) (cases_of b o ys c) (cases-within c xs ys h (first UseWithin (uses_of c) (set_uses_of d) (set_uses_of e) r)) in
        let one = test true a true a' in
        let two = test false a false a' in
        let three = in-less d xs ys h (second UseWithin (uses_of c) (set_uses_of d) (set_uses_of e) r) q p k sign a sign' a' in
        let four = in-less e xs ys h (third UseWithin (uses_of c) (set_uses_of d) (set_uses_of e) r) q p k sign a sign' a' in
        omega (arith, one, two, three, four)
    in-less (match_set e c name d) xs ys h r q p k sign a sign' a' =
        let uses = third UseWithin (uses_of e) (set_uses_of c) (set_uses_of d) r in
        ends-less s b a a' (of_option s (chosen a) (is_in s w xs c q sign a) (λ v. is_in s w (xs ++ v ∷ []) d q sign a))
        (of_option b (chosen a') (is_in b o ys c p sign' a') (λ v. is_in b o (ys ++ v ∷ []) d p sign' a'))
        (option-less s b a a' (is_in s w xs c q sign a) (is_in b o ys c p sign' a') (in-less c xs ys h (second UseWithin (uses_of e) (set_uses_of c) (set_uses_of d) r) q p k sign a sign' a')
        (λ v. is_in s w (xs ++ v ∷ []) d q sign a) (λ v. is_in b o (ys ++ v ∷ []) d p sign' a')
        (λ v x i. in-less d (xs ++ v ∷ []) (ys ++ x ∷ []) (scene-and s b xs ys v x h i) uses q p k sign a sign' a'))
        (cases_of s w xs e) (cases_of b o ys e) (cases-within e xs ys h (first UseWithin (uses_of e) (set_uses_of c) (set_uses_of d) r))

    items-less : (items : Items) (xs ys : Scene) → LessScene s b xs ys → AllByRecursion UseWithin (item_uses_of items) → (q p : Who) → LessWho q p
        → (sign : Bool) (a : ℕ) (sign' : Bool) (a' : ℕ) → LessAll (items_in s w xs items q sign a) (items_in b o ys items p sign' a')
    items-less no_items xs ys h r q p k sign a sign' a' = tt
    items-less (static_item n items) xs ys h r q p k sign a sign' a' =
        (constant-less (same_truth sign (is_static n q)) (constant (same_truth sign' (is_static n p))), items-less items xs ys h r q p k sign a sign' a')
    items-less (record_item m e items) xs ys h r q p k sign a sign' a' = (
      at_terms-less s b a a' (λ t. of_model m q (λ u sign above. atom sign (formula.equal u t)) sign a) (λ t. of_model m p (λ u sign above. atom sign (formula.equal u t)) sign' a')
          (λ t u e. equal-less m q p k t u e sign a sign' a') (cases_of s w xs e) (cases_of b o ys e) (cases-within e xs ys h (all-front UseWithin (uses_of e) (item_uses_of items) r)),
      items-less items xs ys h (all-back UseWithin (uses_of e) (item_uses_of items) r) q p k sign a sign' a',
    )

    filters-less : (filters : Filters) (xs ys : Scene) → LessScene s b xs ys → (m : ℕ) → AllByRecursion UseWithin (filter_uses_of m filters) → (t u : Term) → term_size t ≤ term_size u
        → (sign : Bool) (a : ℕ) (sign' : Bool) (a' : ℕ) → LessAll (filters_at s w xs m filters t sign a) (filters_at b o ys m filters u sign' a')
    filters-less no_filters xs ys h m r t u e sign a sign' a' = tt
    filters-less (filter_and f op v filters) xs ys h m r t u e sign a sign' a' =
        let own = all-back UseWithin (uses_of v) ((record { model = m; field = f }) ∷ filter_uses_of m filters) r in (
          passes-less op (field_cases s w m f t) (field_cases b o m f u) (cases_of s w xs v) (cases_of b o ys v) (own.0 t u e)
              (cases-within v xs ys h (all-front UseWithin (uses_of v) ((record { model = m; field = f }) ∷ filter_uses_of m filters) r)) sign a sign' a',
          filters-less filters xs ys h m own.1 t u e sign a sign' a',
        )

  -- ---- policies and initialisers

  pub allowed-less : (p : Policy) → AllByRecursion UseWithin (policy_uses_of p) → (t u : Term) → term_size t ≤ term_size u → (q z : Who) → LessWho q z
      → LessCondition (is_allowed s w p t q) (is_allowed b o p u z)
  allowed-less to_all r t u e q z k sign a sign' a' = constant-less sign (constant sign')
  allowed-less to_none r t u e q z k sign a sign' a' = constant-less (not sign) (constant (not sign'))
  allowed-less (by_record name set) r t u e q z k sign a sign' a' = in-less set (at_term t ∷ []) (at_term u ∷ []) (terms t u e, tt) r q z k sign a sign' a'

  pub init-within : (init : Init) → AllByRecursion UseWithin (init_uses_of init) → (t u : Term) → term_size t ≤ term_size u → Within s b (init_cases s w init t) (init_cases b o init u)
  init-within (plain x) r t u e = cases-within x (at_term t ∷ []) (at_term u ∷ []) (terms t u e, tt) r
  init-within (of_set m set) r t u e =
      sets (λ x. is_in s w (at_term t ∷ []) set (record_at m x)) (λ x. is_in b o (at_term u ∷ []) set (record_at m x))
      (λ x y i. in-less set (at_term t ∷ []) (at_term u ∷ []) (terms t u e, tt) r (record_at m x) (record_at m y) (same_model m x y i))

  -- ---- what a use reads

  module _ (g i : Term) (near : term_size g ≤ term_size i) where
    none-less : (x z : Formula) → size x ≤ size z → (v c : Cases) → Within s b v c → size (end_is_none s x v) ≤ size (end_is_none b z c)
    none-less x z h _ _ (terms t u e) = h
    none-less x z h _ _ (fields m f t u p e) =
        let one = atom-less false false (formula.present (function_of s m f) t) (formula.present (function_of b m f) u) (omega (arith, e)) in
        omega (arith, e, h)
    none-less x z h _ _ (truths c d p) = h
    none-less x z h _ _ (sets p q j) = h
    none-less x z h _ _ nones = h
    none-less x z h _ _ (somes v c j) = omega arith
    none-less x z h _ _ (choices c d v e y l j p q) = h

    some-less : (k l : Cases → Formula) → ((v c : Cases) → Within s b v c → size (k v) ≤ size (l c)) → (v c : Cases) → Within s b v c → size (end_is_some s k v) ≤ size (end_is_some b l c)
    some-less k l each _ _ (terms t u e) = omega arith
    some-less k l each _ _ (fields m f t u p e) = let one = each (held m f t) (held m f u) (fields m f t u p e) in omega (arith, e, one)
    some-less k l each _ _ (truths c d p) = omega arith
    some-less k l each _ _ (sets p q j) = omega arith
    some-less k l each _ _ nones = omega arith
    some-less k l each _ _ (somes v c j) = each v c j
    some-less k l each _ _ (choices c d v e y z j p q) = omega arith

    choice-less : (first second : ℕ) (c d : Condition) → LessCondition c d → (a a' : ℕ) (F G : ℕ → Formula) → ((n : ℕ) → size (F n) ≤ size (G n))
        → (H I : ℕ → Formula) → ((n : ℕ) → size (H n) ≤ size (I n)) → (J K : ℕ → Formula) → ((n : ℕ) → size (J n) ≤ size (K n)) → (n : ℕ)
        → size (in_parts first F (in_parts second (λ n. formula.both (c true a) (H n)) (λ n. formula.both (c false a) (J n))) n)
        ≤ size (in_parts first G (in_parts second (λ n. formula.both (d true a') (I n)) (λ n. formula.both (d false a') (K n))) n)
    choice-less first second c d test a a' F G f H I h J K j n =
        let one = test true a true a' in
        let two = test false a false a' in
        parts-less first F (in_parts second (λ n. formula.both (c true a) (H n)) (λ n. formula.both (c false a) (J n))) G
        (in_parts second (λ n. formula.both (d true a') (I n)) (λ n. formula.both (d false a') (K n))) f
        (λ n. parts-less second (λ n. formula.both (c true a) (H n)) (λ n. formula.both (c false a) (J n)) (λ n. formula.both (d true a') (I n)) (λ n. formula.both (d false a') (K n))
        (λ n. let three = h n in omega (arith, one, three)) (λ n. let four = j n in omega (arith, two, four)) n) n

    match-less : (first second : ℕ) (v x : Cases) → Within s b v x → (a a' : ℕ) (F G : ℕ → Formula) → ((n : ℕ) → size (F n) ≤ size (G n))
        → (H I : ℕ → Formula) → ((n : ℕ) → size (H n) ≤ size (I n)) → (J K : ℕ → Cases → Formula) → ((n : ℕ) (v x : Cases) → Within s b v x → size (J n v) ≤ size (K n x)) → (n : ℕ)
        → size (in_parts first F (in_parts second (λ n. at_ends a (end_is_none s (H n)) v) (λ n. at_ends a (end_is_some s (J n)) v)) n)
        ≤ size (in_parts first G (in_parts second (λ n. at_ends a' (end_is_none b (I n)) x) (λ n. at_ends a' (end_is_some b (K n)) x)) n)
    match-less first second v x p a a' F G f H I h J K j n =
        parts-less first F (in_parts second (λ n. at_ends a (end_is_none s (H n)) v) (λ n. at_ends a (end_is_some s (J n)) v)) G
        (in_parts second (λ n. at_ends a' (end_is_none b (I n)) x) (λ n. at_ends a' (end_is_some b (K n)) x)) f
        (λ n. parts-less second (λ n. at_ends a (end_is_none s (H n)) v) (λ n. at_ends a (end_is_some s (J n)) v) (λ n. at_ends a' (end_is_none b (I n)) x) (λ n. at_ends a' (end_is_some b (K n)) x)
        (λ n. ends-less s b a a' (end_is_none s (H n)) (end_is_none b (I n)) (none-less (H n) (I n) (h n)) v x p)
        (λ n. ends-less s b a a' (end_is_some s (J n)) (end_is_some b (K n)) (some-less (J n) (K n) (j n)) v x p) n) n

    mutual
      reach-less : (e : Expr) (xs ys : Scene) → LessScene s b xs ys → AllByRecursion UseWithin (uses_of e) → (n a a' : ℕ) → size (reach s w g xs e n a) ≤ size (reach b o i ys e n a')
      reach-less (flag z) xs ys h r n a a' = omega arith
      reach-less (num k) xs ys h r n a a' = omega arith
      reach-less (str bytes) xs ys h r n a a' = omega arith
      reach-less (var depth name) xs ys h r n a a' = omega arith
      reach-less nothing xs ys h r n a a' = omega arith
      reach-less (just e) xs ys h r n a a' = reach-less e xs ys h r n a a'
      reach-less (get e m f) xs ys h r n a a' =
          let uses = all-front UseWithin (uses_of e) ((record { model = m; field = f }) ∷ []) r in
          parts-less (length (uses_of e)) (λ n. reach s w g xs e n a) (λ n. at_terms s a (λ t. formula.equal g t) (cases_of s w xs e)) (λ n. reach b o i ys e n a')
          (λ n. at_terms b a' (λ t. formula.equal i t) (cases_of b o ys e)) (λ n. reach-less e xs ys h uses n a a')
          (λ n. at_terms-less s b a a' (λ t. formula.equal g t) (λ t. formula.equal i t) (λ t u e. omega (arith, near, e)) (cases_of s w xs e) (cases_of b o ys e) (cases-within e xs ys h uses)) n
      reach-less (equal c d op) xs ys h r n a a' =
          parts-less (length (uses_of c)) (λ n. reach s w g xs c n a) (λ n. reach s w g xs d n a) (λ n. reach b o i ys c n a') (λ n. reach b o i ys d n a')
          (λ n. reach-less c xs ys h (all-front UseWithin (uses_of c) (uses_of d) r) n a a') (λ n. reach-less d xs ys h (all-back UseWithin (uses_of c) (uses_of d) r) n a a') n
      reach-less (iff c d op) xs ys h r n a a' =
          parts-less (length (uses_of c)) (λ n. reach s w g xs c n a) (λ n. reach s w g xs d n a) (λ n. reach b o i ys c n a') (λ n. reach b o i ys d n a')
          (λ n. reach-less c xs ys h (all-front UseWithin (uses_of c) (uses_of d) r) n a a') (λ n. reach-less d xs ys h (all-back UseWithin (uses_of c) (uses_of d) r) n a a') n
      reach-less (less c d op) xs ys h r n a a' =
          let both = sides-of UseWithin op (uses_of c) (uses_of d) r in
          sides-less op (length (uses_of c)) (length (uses_of d)) (λ n. reach s w g xs c n a) (λ n. reach s w g xs d n a) (λ n. reach b o i ys c n a') (λ n. reach b o i ys d n a')
          (λ n. reach-less c xs ys h both.0 n a a') (λ n. reach-less d xs ys h both.1 n a a') n
      reach-less (within e m set) xs ys h r n a a' =
          parts-less (length (uses_of e)) (λ n. reach s w g xs e n a) (λ n. set_reach s w g xs set n a) (λ n. reach b o i ys e n a') (λ n. set_reach b o i ys set n a')
          (λ n. reach-less e xs ys h (all-front UseWithin (uses_of e) (set_uses_of set) r) n a a') (λ n. set-less set xs ys h (all-back UseWithin (uses_of e) (set_uses_of set) r) n a a') n
      reach-less (negation e) xs ys h r n a a' = reach-less e xs ys h r n a a'
      reach-less (both c d) xs ys h r n a a' =
          parts-less (length (uses_of c)) (λ n. reach s w g xs c n a) (λ n. reach s w g xs d n a) (λ n. reach b o i ys c n a') (λ n. reach b o i ys d n a')
          (λ n. reach-less c xs ys h (all-front UseWithin (uses_of c) (uses_of d) r) n a a') (λ n. reach-less d xs ys h (all-back UseWithin (uses_of c) (uses_of d) r) n a a') n
      reach-less (either c d) xs ys h r n a a' =
          parts-less (length (uses_of c)) (λ n. reach s w g xs c n a) (λ n. reach s w g xs d n a) (λ n. reach b o i ys c n a') (λ n. reach b o i ys d n a')
          (λ n. reach-less c xs ys h (all-front UseWithin (uses_of c) (uses_of d) r) n a a') (λ n. reach-less d xs ys h (all-back UseWithin (uses_of c) (uses_of d) r) n a a') n
      reach-less (if_expr c d e) xs ys h r n a a' =
          let uses = first UseWithin (uses_of c) (uses_of d) (uses_of e) r in
          let test = condition-less s b (cases_of s w xs c) (cases_of b o ys c) (cases-within c xs ys h uses) in
          choice-less (length (uses_of c)) (length (uses_of d)) (condition_of s (cases_of s w xs c)) (condition_of b (cases_of b o ys c)) test a a'
          (λ n. reach s w g xs c n a) (λ n. reach b o i ys c n a') (λ n. reach-less c xs ys h uses n a a')
          (λ n. reach s w g xs d n a) (λ n. reach b o i ys d n a') (λ n. reach-less d xs ys h (second UseWithin (uses_of c) (uses_of d) (uses_of e) r) n a a')
          (λ n. reach s w g xs e n a) (λ n. reach b o i ys e n a') (λ n. reach-less e xs ys h (third UseWithin (uses_of c) (uses_of d) (uses_of e) r) n a a') n
      reach-less (match_expr e c name d) xs ys h r n a a' =
          let uses = first UseWithin (uses_of e) (uses_of c) (uses_of d) r in
          let inner = third UseWithin (uses_of e) (uses_of c) (uses_of d) r in
          match-less (length (uses_of e)) (length (uses_of c)) (cases_of s w xs e) (cases_of b o ys e) (cases-within e xs ys h uses) a a'
          (λ n. reach s w g xs e n a) (λ n. reach b o i ys e n a') (λ n. reach-less e xs ys h uses n a a')
          (λ n. reach s w g xs c n a) (λ n. reach b o i ys c n a') (λ n. reach-less c xs ys h (second UseWithin (uses_of e) (uses_of c) (uses_of d) r) n a a')
          (λ n v. reach s w g (xs ++ v ∷ []) d n a) (λ n v. reach b o i (ys ++ v ∷ []) d n a')
          (λ n v x k. reach-less d (xs ++ v ∷ []) (ys ++ x ∷ []) (scene-and s b xs ys v x h k) inner n a a') n

      set-less : (e : SetExpr) (xs ys : Scene) → LessScene s b xs ys → AllByRecursion UseWithin (set_uses_of e) → (n a a' : ℕ) → size (set_reach s w g xs e n a) ≤ size (set_reach b o i ys e n a')
      set-less everyone xs ys h r n a a' = omega arith
      set-less nobody xs ys h r n a a' = omega arith
      set-less (listed items) xs ys h r n a a' = listed-less items xs ys h r n a a'
      set-less (union c d) xs ys h r n a a' =
          parts-less (length (set_uses_of c)) (λ n. set_reach s w g xs c n a) (λ n. set_reach s w g xs d n a) (λ n. set_reach b o i ys c n a') (λ n. set_reach b o i ys d n a')
          (λ n. set-less c xs ys h (all-front UseWithin (set_uses_of c) (set_uses_of d) r) n a a') (λ n. set-less d xs ys h (all-back UseWithin (set_uses_of c) (set_uses_of d) r) n a a') n
      set-less (minus c d) xs ys h r n a a' =
          parts-less (length (set_uses_of c)) (λ n. set_reach s w g xs c n a) (λ n. set_reach s w g xs d n a) (λ n. set_reach b o i ys c n a') (λ n. set_reach b o i ys d n a')
          (λ n. set-less c xs ys h (all-front UseWithin (set_uses_of c) (set_uses_of d) r) n a a') (λ n. set-less d xs ys h (all-back UseWithin (set_uses_of c) (set_uses_of d) r) n a a') n
      set-less (find m filters) xs ys h r n a a' = tested-less filters xs ys h m r n a a'
      set-less (path m e) xs ys h r n a a' = reach-less e xs ys h r n a a'
      set-less (mapped set k name m e) xs ys h r n a a' =
          let x = next_variable s w k a in
          let y = next_variable b o k a' in
          let sources = all-front UseWithin (set_uses_of set) (uses_of e) r in
          let inner = scene-and s b xs ys (at_term x) (at_term y) h (terms x y (omega arith)) in
          parts-less (length (set_uses_of set)) (λ n. set_reach s w g xs set n a)
          (λ n. formula.exists (sort_of s k) (formula.both (is_in s w xs set (record_at k x) true (suc a)) (reach s w g (xs ++ at_term x ∷ []) e n (suc a))))
          (λ n. set_reach b o i ys set n a')
          (λ n. formula.exists (sort_of b k) (formula.both (is_in b o ys set (record_at k y) true (suc a')) (reach b o i (ys ++ at_term y ∷ []) e n (suc a'))))
          (λ n. set-less set xs ys h sources n a a')
          (λ n.
          let one = in-less set xs ys h sources (record_at k x) (record_at k y) (same_model k x y (omega arith)) true (suc a) true (suc a') in
          let two = reach-less e (xs ++ at_term x ∷ []) (ys ++ at_term y ∷ []) inner (all-back UseWithin (set_uses_of set) (uses_of e) r) n (suc a) (suc a') in
          omega (arith, one, two)) n
      set-less (flat_mapped set k name e) xs ys h r n a a' =
          let x = next_variable s w k a in
          let y = next_variable b o k a' in
          let sources = all-front UseWithin (set_uses_of set) (set_uses_of e) r in
          let inner = scene-and s b xs ys (at_term x) (at_term y) h (terms x y (omega arith)) in
          parts-less (length (set_uses_of set)) (λ n. set_reach s w g xs set n a)
          (λ n. formula.exists (sort_of s k) (formula.both (is_in s w xs set (record_at k x) true (suc a)) (set_reach s w g (xs ++ at_term x ∷ []) e n (suc a))))
          (λ n. set_reach b o i ys set n a')
          (λ n. formula.exists (sort_of b k) (formula.both (is_in b o ys set (record_at k y) true (suc a')) (set_reach b o i (ys ++ at_term y ∷ []) e n (suc a'))))
          (λ n. set-less set xs ys h sources n a a')
          (λ n.
          let one = in-less set xs ys h sources (record_at k x) (record_at k y) (same_model k x y (omega arith)) true (suc a) true (suc a') in
          let two = set-less e (xs ++ at_term x ∷ []) (ys ++ at_term y ∷ []) inner (all-back UseWithin (set_uses_of set) (set_uses_of e) r) n (suc a) (suc a') in
          omega (arith, one, two)) n
      set-less (if_set c d e) xs ys h r n a a' =
          let uses = first UseWithin (uses_of c) (set_uses_of d) (set_uses_of e) r in
          let test = condition-less s b (cases_of s w xs c) (cases_of b o ys c) (cases-within c xs ys h uses) in
          choice-less (length (uses_of c)) (length (set_uses_of d)) (condition_of s (cases_of s w xs c)) (condition_of b (cases_of b o ys c)) test a a'
          (λ n. reach s w g xs c n a) (λ n. reach b o i ys c n a') (λ n. reach-less c xs ys h uses n a a')
          (λ n. set_reach s w g xs d n a) (λ n. set_reach b o i ys d n a') (λ n. set-less d xs ys h (second UseWithin (uses_of c) (set_uses_of d) (set_uses_of e) r) n a a')
          (λ n. set_reach s w g xs e n a) (λ n. set_reach b o i ys e n a') (λ n. set-less e xs ys h (third UseWithin (uses_of c) (set_uses_of d) (set_uses_of e) r) n a a') n
      set-less (match_set e c name d) xs ys h r n a a' =
          let uses = first UseWithin (uses_of e) (set_uses_of c) (set_uses_of d) r in
          let inner = third UseWithin (uses_of e) (set_uses_of c) (set_uses_of d) r in
          match-less (length (uses_of e)) (length (set_uses_of c)) (cases_of s w xs e) (cases_of b o ys e) (cases-within e xs ys h uses) a a'
          (λ n. reach s w g xs e n a) (λ n. reach b o i ys e n a') (λ n. reach-less e xs ys h uses n a a')
          (λ n. set_reach s w g xs c n a) (λ n. set_reach b o i ys c n a') (λ n. set-less c xs ys h (second UseWithin (uses_of e) (set_uses_of c) (set_uses_of d) r) n a a')
          (λ n v. set_reach s w g (xs ++ v ∷ []) d n a) (λ n v. set_reach b o i (ys ++ v ∷ []) d n a')
          (λ n v x k. set-less d (xs ++ v ∷ []) (ys ++ x ∷ []) (scene-and s b xs ys v x h k) inner n a a') n

      listed-less : (items : Items) (xs ys : Scene) → LessScene s b xs ys → AllByRecursion UseWithin (item_uses_of items) → (n a a' : ℕ)
          → size (items_reach s w g xs items n a) ≤ size (items_reach b o i ys items n a')
      listed-less no_items xs ys h r n a a' = omega arith
      listed-less (static_item k items) xs ys h r n a a' = listed-less items xs ys h r n a a'
      listed-less (record_item m e items) xs ys h r n a a' =
          parts-less (length (uses_of e)) (λ n. reach s w g xs e n a) (λ n. items_reach s w g xs items n a) (λ n. reach b o i ys e n a') (λ n. items_reach b o i ys items n a')
          (λ n. reach-less e xs ys h (all-front UseWithin (uses_of e) (item_uses_of items) r) n a a') (λ n. listed-less items xs ys h (all-back UseWithin (uses_of e) (item_uses_of items) r) n a a') n

      tested-less : (filters : Filters) (xs ys : Scene) → LessScene s b xs ys → (m : ℕ) → AllByRecursion UseWithin (filter_uses_of m filters) → (n a a' : ℕ)
          → size (filters_reach s w g xs m filters n a) ≤ size (filters_reach b o i ys m filters n a')
      tested-less no_filters xs ys h m r n a a' = omega arith
      tested-less (filter_and f op v filters) xs ys h m r n a a' =
          let own = all-back UseWithin (uses_of v) ((record { model = m; field = f }) ∷ filter_uses_of m filters) r in
          parts-less (length (uses_of v)) (λ n. reach s w g xs v n a) (in_parts 1 (λ n. formula.yes) (λ n. filters_reach s w g xs m filters n a)) (λ n. reach b o i ys v n a')
          (in_parts 1 (λ n. formula.yes) (λ n. filters_reach b o i ys m filters n a'))
          (λ n. reach-less v xs ys h (all-front UseWithin (uses_of v) ((record { model = m; field = f }) ∷ filter_uses_of m filters) r) n a a')
          (λ n. parts-less 1 (λ n. formula.yes) (λ n. filters_reach s w g xs m filters n a) (λ n. formula.yes) (λ n. filters_reach b o i ys m filters n a')
          (λ n. omega arith) (λ n. tested-less filters xs ys h m own.1 n a a') n) n

    pub init_reach-less : (init : Init) → AllByRecursion UseWithin (init_uses_of init) → (t u : Term) → term_size t ≤ term_size u → (n a a' : ℕ)
        → size (init_reach s w g init t n a) ≤ size (init_reach b o i init u n a')
    init_reach-less (plain e) r t u k n a a' = reach-less e (at_term t ∷ []) (at_term u ∷ []) (terms t u k, tt) r n a a'
    init_reach-less (of_set m set) r t u k n a a' = set-less set (at_term t ∷ []) (at_term u ∷ []) (terms t u k, tt) r n a a'
