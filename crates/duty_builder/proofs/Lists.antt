-- Formulas of lists, joined one by one; and quantified formulas.
use Rattle.std.proofs.Common.{◌≡◌, ℕ, suc, ◌+◌, ◌≤◌, Bool, false, not, refl, sym, ◌∙◌, List, [], ◌∷◌, ◌++◌, ap, subst, arith, length, take, drop, get_or, ◌-◌, ◌<◌}
use Rattle.std.proofs.lemmas.List.{take_rest}
use Rattle.std.specs.Prelude.{Result, fold, map}
use Rattle.text_tree.specs.declared.exprs.FilterOp.{FilterOp}
use Rattle.type_schema.specs.declared.trees.TExpr.{TExpr}
use Rattle.type_schema.specs.declared.trees.TItem.{TItem}
use Rattle.type_schema.specs.declared.trees.TItem.TheVariants as it
use Rattle.type_schema.specs.declared.trees.TFilter.{TFilter}
use Rattle.type_schema.specs.declared.trees.TFilter.TheVariants as fi
use Rattle.type_schema.specs.Trees.{Expr, SetExpr, Items, no_items, static_item, record_item, Filters, no_filters, filter_and}
use Rattle.type_schema.specs.Views.{ItemsMore, FiltersMore, expr_step, item_step, filter_step, set_step, expr_of, item_of, items_of, filter_of, filters_of}
use Rattle.type_schema.specs.declared.trees.TExpr.TheOpen.{TItem-F, TFilter-F}
use Rattle.type_schema.specs.declared.trees.TExpr.TheFolds.{fold_out-TItem, fold_out-TFilter}
use Rattle.data_meaning.specs.Meaning.{same_truth}
use Rattle.type_schema.specs.Schema.{Schema}
use Rattle.form_formula.specs.Trees.{Term, Formula, bound, no}
use Rattle.form_formula.specs.Trees as tree
use Rattle.form_formula.specs.Nodes.{formula_of, formula_part}
use Rattle.duty_meaning.specs.Sizes.{size}
use Rattle.duty_meaning.specs.Structures.{sort_of}
use Rattle.duty_meaning.specs.Cases.{Cases, at_term, continued, at_ends, of_term, at_terms, atom, constant, any_if, all_if, and_if, exists_if}
use Rattle.duty_meaning.specs.Formulas.{Who, record_at, Written, of_model, is_static, field_cases, passes, cases_of, is_in, items_in, filters_at}
use Rattle.duty_writer.specs.declared.make_err.MakeErr.{MakeErr}
use Rattle.duty_writer.specs.declared.writer.Mode.TheVariants.{Build}
use Rattle.duty_writer.specs.declared.writer.Writer.{Writer}
use Rattle.duty_writer.specs.Made.{IsMade, MakesFor, Makes, IsPart}
use Rattle.duty_writer.proofs.Joining.{made_as, made_later, size-exists_if}
use Rattle.duty_writer.proofs.Putting.{keeps_all}
use Rattle.duty_builder.specs.Values.{rest_cost, mapped_formula, flat_formula}
use Rattle.duty_builder.proofs.Walks.{ap2, ask_done}
use Rattle.duty_builder.proofs.Asked.{size-rest}
use Rattle.duty_builder.proofs.Forms.{Static_item, One_item, Test_filter}

-- nothing more to join
pub none_more : (old : Writer) (id : ℕ) → IsPart old id → IsMade 0 old old (formula_of old.arena id) id
none_more old id part = record { left = omega arith; stands = λ build. (part build, refl); mode = refl; kept = keeps_all old.arena }

-- one more formula, and then the others
pub more_made : (old one two new : Writer) (n : ℕ) (f : Formula) (fs : List Formula) (go : Formula → Formula → Formula) (id a b : ℕ) (r : Result ℕ MakeErr)
    → IsPart old id → IsMade (size f) old one f a → IsMade 1 one two (go (formula_of one.arena id) (formula_of one.arena a)) b
    → MakesFor n two r new (fold go (formula_of two.arena b) fs)
    → MakesFor (size f + 1 + n) old r new (fold go (formula_of old.arena id) (f ∷ fs))
more_made old one two new n f fs go id a b r part first second last =
    let same : two.mode ≡ Build → fold go (formula_of two.arena b) fs ≡ fold go (go (formula_of old.arena id) f) fs = λ build.
    let mid : one.mode ≡ Build = sym second.mode ∙ build in
    let was : old.mode ≡ Build = sym first.mode ∙ mid in
    ap (λ x. fold go x fs) ((second.stands build).1 ∙ ap2 go (ap formula_part ((first.kept id false (part was)).1)) ((first.stands mid).1)) in
    made_as (size f + (1 + n)) (size f + 1 + n) old new (fold go (go (formula_of old.arena id) f) fs) (fold go (go (formula_of old.arena id) f) fs) r (λ build. refl) (omega arith)
    (made_later (size f) (1 + n) old one new (fold go (go (formula_of old.arena id) f) fs) f a r first
    (made_later 1 n one two new (fold go (go (formula_of old.arena id) f) fs) (go (formula_of one.arena id) (formula_of one.arena a)) b r second
    (made_as n n two new (fold go (formula_of two.arena b) fs) (fold go (go (formula_of old.arena id) f) fs) r same refl last)))

-- the first formula, and then the others
pub first_made : (old one new : Writer) (f : Formula) (fs : List Formula) (sign : Bool) (a : ℕ) (r : Result ℕ MakeErr)
    → IsMade (size f) old one f a → MakesFor (rest_cost fs) one r new (fold (and_if sign) (formula_of one.arena a) fs)
    → Makes old r new (fold (and_if sign) f fs)
first_made old one new f fs sign a r first last =
    let same : one.mode ≡ Build → fold (and_if sign) (formula_of one.arena a) fs ≡ fold (and_if sign) f fs = λ build. ap (λ x. fold (and_if sign) x fs) ((first.stands build).1) in
    made_as (size f + rest_cost fs) (size (fold (and_if sign) f fs)) old new (fold (and_if sign) f fs) (fold (and_if sign) f fs) r (λ build. refl) (sym (size-rest sign f fs))
    (made_later (size f) (rest_cost fs) old one new (fold (and_if sign) f fs) f a r first
    (made_as (rest_cost fs) (rest_cost fs) one new (fold (and_if sign) (formula_of one.arena a) fs) (fold (and_if sign) f fs) r same refl last))

pub first_le : (f : Formula) (fs : List Formula) (sign : Bool) → size f ≤ size (fold (and_if sign) f fs)
first_le f fs sign = omega (arith, size-rest sign f fs)

-- below a quantifier
module _ (s : Schema) (written : Written) (env : List Cases) (sign : Bool) (above : ℕ) where
  abbrev pub mapped_body : SetExpr → ℕ → ℕ → Expr → Who → ℕ → ℕ → Formula
  mapped_body set n m e q sort inner =
      and_if sign (is_in s written env set (record_at n (bound sort above)) sign inner)
      (at_ends inner (of_term s no (λ t. of_model m q (λ u sign above. atom sign (tree.equal u t)) sign inner)) (continued (λ x. x) (cases_of s written (env ++ at_term (bound sort above) ∷ []) e)))

  pub mapped_same : (set : SetExpr) (n m : ℕ) (e : Expr) (q : Who) (sort inner : ℕ) → sort ≡ sort_of s n → inner ≡ suc above
      → exists_if sign sort (mapped_body set n m e q sort inner) ≡ mapped_formula s written env set n m e q sign above
  mapped_same set n m e q sort inner is deeper =
      ap2 (λ k i. exists_if sign k (mapped_body set n m e q k i)) is deeper
      ∙ ap (λ x. exists_if sign (sort_of s n) (and_if sign (is_in s written env set (record_at n (bound (sort_of s n) above)) sign (suc above)) x))
      (ask_done (suc above) (of_term s no (λ t. of_model m q (λ u sign above. atom sign (tree.equal u t)) sign (suc above))) (cases_of s written (env ++ at_term (bound (sort_of s n) above) ∷ []) e))

  abbrev pub flat_body : SetExpr → ℕ → SetExpr → Who → ℕ → ℕ → Formula
  flat_body set n body q sort inner =
      and_if sign (is_in s written env set (record_at n (bound sort above)) sign inner) (is_in s written (env ++ at_term (bound sort above) ∷ []) body q sign inner)

  pub flat_same : (set : SetExpr) (n : ℕ) (body : SetExpr) (q : Who) (sort inner : ℕ) → sort ≡ sort_of s n → inner ≡ suc above
      → exists_if sign sort (flat_body set n body q sort inner) ≡ flat_formula s written env set n body q sign above
  flat_same set n body q sort inner is deeper = ap2 (λ k i. exists_if sign k (flat_body set n body q k i)) is deeper

-- a formula below a quantifier that is too large
pub below_le : (sign : Bool) (sort : ℕ) (f g : Formula) → exists_if sign sort f ≡ g → size f ≤ size g
below_le sign sort f g same = omega (arith, size-exists_if sign sort f, ap size same)

-- the formula of an item, and of a filter, by the formulas in front of which it stands
module _ (s : Schema) (written : Written) (env : List Cases) (q : Who) (sign : Bool) (above : ℕ) where
  pub static_head : (item : TItem) (n : ℕ) (f : Formula) → item ≡ it.Static n
      → ((rest : Items) → items_in s written env (item_of item rest) q sign above ≡ f ∷ items_in s written env rest q sign above) → constant (same_truth sign (is_static n q)) ≡ f
  static_head item n f is head =
      let e : items_in s written env (static_item n no_items) q sign above ≡ f ∷ [] = ap (λ g. items_in s written env (g no_items) q sign above) (sym (ap item_of is ∙ Static_item n)) ∙ head no_items in
      cc

  pub record_head : (item : TItem) (m : ℕ) (e : TExpr) (f : Formula) → item ≡ it.One m e
      → ((rest : Items) → items_in s written env (item_of item rest) q sign above ≡ f ∷ items_in s written env rest q sign above)
      → at_ends above (of_term s no (λ t. of_model m q (λ u sign above. atom sign (tree.equal u t)) sign above)) (continued (λ x. x) (cases_of s written env (expr_of e))) ≡ f
  record_head item m e f is head =
      let h : items_in s written env (record_item m (expr_of e) no_items) q sign above ≡ f ∷ [] = ap (λ g. items_in s written env (g no_items) q sign above) (sym (ap item_of is ∙ One_item m e)) ∙ head no_items in
      let first : at_terms s above (λ t. of_model m q (λ u sign above. atom sign (tree.equal u t)) sign above) (cases_of s written env (expr_of e)) ≡ f = cc in
      ask_done above (of_term s no (λ t. of_model m q (λ u sign above. atom sign (tree.equal u t)) sign above)) (cases_of s written env (expr_of e)) ∙ first

module _ (s : Schema) (written : Written) (env : List Cases) (m : ℕ) (t : Term) (sign : Bool) (above : ℕ) where
  pub filter_head : (filter : TFilter) (f : ℕ) (op : FilterOp) (e : TExpr) (g : Formula) → filter ≡ fi.Test f op e
      → ((rest : Filters) → filters_at s written env m (filter_of filter rest) t sign above ≡ g ∷ filters_at s written env m rest t sign above)
      → passes s written op (field_cases s written m f t) (cases_of s written env (expr_of e)) sign above ≡ g
  filter_head filter f op e g is head =
      let h : filters_at s written env m (filter_and f op (expr_of e) no_filters) t sign above ≡ g ∷ [] = ap (λ k. filters_at s written env m (k no_filters) t sign above) (sym (ap filter_of is ∙ Test_filter f op e)) ∙ head no_filters in
      cc

-- a list by its first element and the others
abbrev pub tail_of : {A : Type 0} → List A → List A
tail_of xs = take (length xs - 1) (drop 1 xs)

pub first_rest : {A : Type 0} (xs : List A) (x : A) → 1 ≤ length xs → x ≡ get_or xs 0 x → xs ≡ x ∷ tail_of xs
first_rest [] x some is = absurd (omega arith)
first_rest (y ∷ ys) x some is = ap (λ z. z ∷ ys) (sym is) ∙ ap (λ zs. x ∷ zs) (sym (take_rest (y ∷ ys) 1))

pub part_kept : (old new : Writer) (n : ℕ) (f : Formula) (id a : ℕ) → IsPart old id → IsMade n old new f a → IsPart new id
part_kept old new n f id a part made = λ build. (made.kept id false (part (sym made.mode ∙ build))).0

module _ (s : Schema) (written : Written) (env : List Cases) (q : Who) (sign : Bool) (above : ℕ) where
  abbrev pub HasHead : ItemsMore → Formula → Type 0
  HasHead g f = (rest : Items) → items_in s written env (g rest) q sign above ≡ f ∷ items_in s written env rest q sign above

  head_of_step : (g : ItemsMore) (y : TItem-F Expr FiltersMore ItemsMore SetExpr) → g ≡ item_step y → (f : Formula) × HasHead g f
  head_of_step g (TItem-F.Static n) is = (constant (same_truth sign (is_static n q)), λ rest. ap (λ k. items_in s written env (k rest) q sign above) is)
  head_of_step g (TItem-F.One m e) is =
      (at_terms s above (λ t. of_model m q (λ u sign above. atom sign (tree.equal u t)) sign above) (cases_of s written env e), λ rest. ap (λ k. items_in s written env (k rest) q sign above) is)

  pub item_head : (x : TItem) → (f : Formula) × HasHead (item_of x) f
  item_head x = head_of_step (item_of x) _ (fold_out-TItem Expr FiltersMore ItemsMore SetExpr expr_step filter_step item_step set_step x)

  abbrev pub items_formulas : List TItem → List Formula
  items_formulas xs = items_in s written env (items_of (map item_of xs)) q sign above

  pub items_split : (xs rest : List TItem) (x : TItem) → xs ≡ x ∷ rest → items_formulas xs ≡ (item_head x).0 ∷ items_formulas rest
  items_split xs rest x is = ap items_formulas is ∙ (item_head x).1 (items_of (map item_of rest))

module _ (s : Schema) (written : Written) (env : List Cases) (m : ℕ) (t : Term) (sign : Bool) (above : ℕ) where
  abbrev pub HasTest : FiltersMore → Formula → Type 0
  HasTest g f = (rest : Filters) → filters_at s written env m (g rest) t sign above ≡ f ∷ filters_at s written env m rest t sign above

  test_of_step : (g : FiltersMore) (y : TFilter-F Expr FiltersMore ItemsMore SetExpr) → g ≡ filter_step y → (f : Formula) × HasTest g f
  test_of_step g (TFilter-F.Test f op e) is =
      (passes s written op (field_cases s written m f t) (cases_of s written env e) sign above, λ rest. ap (λ k. filters_at s written env m (k rest) t sign above) is)

  pub filter_test : (x : TFilter) → (f : Formula) × HasTest (filter_of x) f
  filter_test x = test_of_step (filter_of x) _ (fold_out-TFilter Expr FiltersMore ItemsMore SetExpr expr_step filter_step item_step set_step x)

  abbrev pub filters_formulas : List TFilter → List Formula
  filters_formulas xs = filters_at s written env m (filters_of (map filter_of xs)) t sign above

  pub filters_split : (xs rest : List TFilter) (x : TFilter) → xs ≡ x ∷ rest → filters_formulas xs ≡ (filter_test x).0 ∷ filters_formulas rest
  filters_split xs rest x is = ap filters_formulas is ∙ (filter_test x).1 (filters_of (map filter_of rest))

pub none_of : {A : Type 0} (xs : List A) → length xs < 1 → xs ≡ []
none_of [] h = refl
none_of (x ∷ xs) h = absurd (omega arith)

-- a formula of a list that is too large
pub any_le : (sign : Bool) (fs rest : List Formula) (f : Formula) → fs ≡ f ∷ rest → size f ≤ size (any_if sign fs)
any_le sign fs rest f is = omega (arith, first_le f rest (not sign), ap (λ xs. size (any_if sign xs)) is)

pub all_le : (sign : Bool) (fs rest : List Formula) (f : Formula) → fs ≡ f ∷ rest → size f ≤ size (all_if sign fs)
all_le sign fs rest f is = omega (arith, first_le f rest sign, ap (λ xs. size (all_if sign xs)) is)

-- what is made for a list is made for its first formula and the others
pub made_split : (old new : Writer) (r : Result ℕ MakeErr) (go : Formula → Formula → Formula) (x : Formula) (fs rest : List Formula) (f : Formula) → fs ≡ f ∷ rest
    → MakesFor (rest_cost (f ∷ rest)) old r new (fold go x (f ∷ rest)) → MakesFor (rest_cost fs) old r new (fold go x fs)
made_split old new r go x fs rest f is h = let P : List Formula → Type 0 = λ xs. MakesFor (rest_cost xs) old r new (fold go x xs) in subst P (sym is) h

pub rest_le : (f : Formula) (rest : List Formula) → size f ≤ rest_cost (f ∷ rest)
rest_le f rest = omega arith

pub rest_one_le : (f : Formula) (rest : List Formula) → size f + 1 ≤ rest_cost (f ∷ rest)
rest_one_le f rest = omega arith
