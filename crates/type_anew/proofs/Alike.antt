-- Values over two schemas that are alike: their formulas have the same sizes, whatever the numbers of fields, models and sorts are.
use Rattle.std.proofs.Common.{◌≡◌, ℕ, zero, suc, Bool, true, false, not, ◌||◌, List, [], ◌∷◌, ◌++◌, refl, ap, sym, ◌∙◌, subst, arith}
use Rattle.std.specs.Prelude.{fold, slice_index_or, if◌then◌else◌}
use Rattle.text_tree.specs.declared.exprs.CmpOp.{CmpOp}
use Rattle.text_tree.specs.declared.exprs.CmpOp.TheVariants.{Eq, Ne, Lt, Le, Gt, Ge}
use Rattle.type_schema.specs.Schema.{Schema}
use Rattle.form_formula.specs.Trees.{Term, app, Formula, no, equal, less, has, flag, present}
use Rattle.duty_meaning.specs.Structures.{function_of, relation_of}
use Rattle.duty_meaning.specs.Cases.{Condition, constant, atom, and_if, exists_if, all_if, any_if, chosen, same_condition, Cases, at_term, held, truth, among, none, some, choice, continued, at_ends, of_term, at_terms, is_present, of_option, end_holds, condition_of, end_has, has_term, same_term, less_term, is_truth, some_of, are_equal, compared}
use Rattle.duty_meaning.specs.Formulas.{Scene}
use Rattle.duty_meaning.specs.Sizes.{term_size, size}

-- ---- formulas

abbrev pub HaveSameSize : Condition → Condition → Type 0
HaveSameSize p q = (sign : Bool) (above : ℕ) → size (p sign above) ≡ size (q sign above)

abbrev pub HaveSameSizes : List Formula → List Formula → Type 0
HaveSameSizes [] [] = Unit {0}
HaveSameSizes [] (g ∷ gs) = ⊥
HaveSameSizes (f ∷ fs) [] = ⊥
HaveSameSizes (f ∷ fs) (g ∷ gs) = (size f ≡ size g) × HaveSameSizes fs gs

pub constant-size : (x y : Bool) → size (constant x) ≡ size (constant y)
constant-size true true = refl
constant-size true false = refl
constant-size false true = refl
constant-size false false = refl

signed-size : (sign : Bool) (a : Formula) → size (atom sign a) ≡ size a
signed-size true a = refl
signed-size false a = refl

pub atom-size : (sign : Bool) (a b : Formula) → size a ≡ size b → size (atom sign a) ≡ size (atom sign b)
atom-size sign a b e = signed-size sign a ∙ e ∙ sym (signed-size sign b)

pub and-size : (sign : Bool) (a a' b b' : Formula) → size a ≡ size a' → size b ≡ size b' → size (and_if sign a b) ≡ size (and_if sign a' b')
and-size true a a' b b' e f = omega (arith, e, f)
and-size false a a' b b' e f = omega (arith, e, f)

pub exists-size : (sign : Bool) (sort sort' : ℕ) (a a' : Formula) → size a ≡ size a' → size (exists_if sign sort a) ≡ size (exists_if sign sort' a')
exists-size true sort sort' a a' e = omega (arith, e)
exists-size false sort sort' a a' e = omega (arith, e)

pub chosen-size : (above : ℕ) (p q : Condition) → HaveSameSize p q → (a a' b b' : Formula) → size a ≡ size a' → size b ≡ size b' → size (chosen above p a b) ≡ size (chosen above q a' b')
chosen-size above p q h a a' b b' e f = omega (arith, h true above, h false above, e, f)

fold-size : (sign : Bool) (f g : Formula) → size f ≡ size g → (fs gs : List Formula) → HaveSameSizes fs gs → size (fold (and_if sign) f fs) ≡ size (fold (and_if sign) g gs)
fold-size sign f g e [] [] all = e
fold-size sign f g e [] (b ∷ gs) all = absurd all
fold-size sign f g e (a ∷ fs) [] all = absurd all
fold-size sign f g e (a ∷ fs) (b ∷ gs) all = fold-size sign (and_if sign f a) (and_if sign g b) (and-size sign f g a b e all.0) fs gs all.1

pub all-size : (sign : Bool) (fs gs : List Formula) → HaveSameSizes fs gs → size (all_if sign fs) ≡ size (all_if sign gs)
all-size sign [] [] all = refl
all-size sign [] (g ∷ gs) all = absurd all
all-size sign (f ∷ fs) [] all = absurd all
all-size sign (f ∷ fs) (g ∷ gs) all = fold-size sign f g all.0 fs gs all.1

pub any-size : (sign : Bool) (fs gs : List Formula) → HaveSameSizes fs gs → size (any_if sign fs) ≡ size (any_if sign gs)
any-size sign [] [] all = refl
any-size sign [] (g ∷ gs) all = absurd all
any-size sign (f ∷ fs) [] all = absurd all
any-size sign (f ∷ fs) (g ∷ gs) all = fold-size (not sign) f g all.0 fs gs all.1

-- ---- cases

-- the cases over the one schema, and those over the other
module _ (b c : Schema) where
  -- No value is such a set as `among` gives: added fields are not written out.
  abbrev pub AreAlike : Cases → Cases → Type 0
  AreAlike (at_term t) w = (u : Term) × (w ≡ at_term u) × (term_size t ≡ term_size u)
  AreAlike (held m f t) w = (n : ℕ) × (g : ℕ) × (u : Term) × (w ≡ held n g u) × (is_truth b (held m f t) ≡ is_truth c (held n g u)) × (term_size t ≡ term_size u)
  AreAlike (truth p) w = (q : Condition) × (w ≡ truth q) × HaveSameSize p q
  AreAlike (among k) w = ⊥
  AreAlike none w = w ≡ none
  AreAlike (some v) w = (u : Cases) × (w ≡ some u) × AreAlike v u
  AreAlike (choice p x y) w = (q : Condition) × (v : Cases) × (z : Cases) × (w ≡ choice q v z) × HaveSameSize p q × AreAlike x v × AreAlike y z

  truth-alike : (v w : Cases) → AreAlike v w → is_truth b v ≡ is_truth c w
  truth-alike (at_term t) w h = sym (ap (is_truth c) h.1)
  truth-alike (held m f t) w h = h.4 ∙ sym (ap (is_truth c) h.3)
  truth-alike (truth p) w h = sym (ap (is_truth c) h.1)
  truth-alike (among k) w h = absurd h
  truth-alike none w h = sym (ap (is_truth c) h)
  truth-alike (some v) w h = sym (ap (is_truth c) h.1)
  truth-alike (choice p x y) w h = truth-alike x h.1 h.5 ∙ sym (ap (is_truth c) h.3)

  -- ---- ends

  pub ends-size : (above : ℕ) (K L : Cases → Formula) → ((v w : Cases) → AreAlike v w → size (K v) ≡ size (L w)) → (v w : Cases) → AreAlike v w
      → size (at_ends above K v) ≡ size (at_ends above L w)
  ends-size above K L k (at_term t) w h = k (at_term t) (at_term h.0) (h.0, refl, h.2) ∙ sym (ap (λ z. size (at_ends above L z)) h.1)
  ends-size above K L k (held m f t) w h = k (held m f t) (held h.0 h.1 h.2) (h.0, h.1, h.2, refl, h.4, h.5) ∙ sym (ap (λ z. size (at_ends above L z)) h.3)
  ends-size above K L k (truth p) w h = k (truth p) (truth h.0) (h.0, refl, h.2) ∙ sym (ap (λ z. size (at_ends above L z)) h.1)
  ends-size above K L k (among m) w h = absurd h
  ends-size above K L k none w h = k none none refl ∙ sym (ap (λ z. size (at_ends above L z)) h)
  ends-size above K L k (some v) w h = k (some v) (some h.0) (h.0, refl, h.2) ∙ sym (ap (λ z. size (at_ends above L z)) h.1)
  ends-size above K L k (choice p x y) w h =
      chosen-size above p h.0 h.4 (at_ends above K x) (at_ends above L h.1) (at_ends above K y) (at_ends above L h.2) (ends-size above K L k x h.1 h.5) (ends-size above K L k y h.2 h.6)
      ∙ sym (ap (λ z. size (at_ends above L z)) h.3)

  pub ends-alike : (K L : Cases → Cases) → ((v w : Cases) → AreAlike v w → AreAlike (K v) (L w)) → (v w : Cases) → AreAlike v w → AreAlike (continued K v) (continued L w)
  ends-alike K L k (at_term t) w h = subst (λ z. AreAlike (K (at_term t)) (continued L z)) (sym h.1) (k (at_term t) (at_term h.0) (h.0, refl, h.2))
  ends-alike K L k (held m f t) w h = subst (λ z. AreAlike (K (held m f t)) (continued L z)) (sym h.3) (k (held m f t) (held h.0 h.1 h.2) (h.0, h.1, h.2, refl, h.4, h.5))
  ends-alike K L k (truth p) w h = subst (λ z. AreAlike (K (truth p)) (continued L z)) (sym h.1) (k (truth p) (truth h.0) (h.0, refl, h.2))
  ends-alike K L k (among m) w h = absurd h
  ends-alike K L k none w h = subst (λ z. AreAlike (K none) (continued L z)) (sym h) (k none none refl)
  ends-alike K L k (some v) w h = subst (λ z. AreAlike (K (some v)) (continued L z)) (sym h.1) (k (some v) (some h.0) (h.0, refl, h.2))
  ends-alike K L k (choice p x y) w h = (h.0, continued L h.1, continued L h.2, ap (continued L) h.3, h.4, ends-alike K L k x h.1 h.5, ends-alike K L k y h.2 h.6)

  pub term-end : {A : Type 0} (R : A → A → Type 0) (other other' : A) (k l : Term → A) → R other other' → ((t u : Term) → term_size t ≡ term_size u → R (k t) (l u)) → (v w : Cases) → AreAlike v w
      → R (of_term b other k v) (of_term c other' l w)
  term-end R other other' k l o at (at_term t) w h = subst (λ z. R (k t) (of_term c other' l z)) (sym h.1) (at t h.0 h.2)
  term-end R other other' k l o at (held m f t) w h =
      subst (λ z. R (k (app (function_of b m f) t)) (of_term c other' l z)) (sym h.3) (at (app (function_of b m f) t) (app (function_of c h.0 h.1) h.2) (omega (arith, h.5)))
  term-end R other other' k l o at (truth p) w h = subst (λ z. R other (of_term c other' l z)) (sym h.1) o
  term-end R other other' k l o at (among m) w h = absurd h
  term-end R other other' k l o at none w h = subst (λ z. R other (of_term c other' l z)) (sym h) o
  term-end R other other' k l o at (some v) w h = subst (λ z. R other (of_term c other' l z)) (sym h.1) o
  term-end R other other' k l o at (choice p x y) w h = subst (λ z. R other (of_term c other' l z)) (sym h.3) o

  pub terms-size : (above : ℕ) (k l : Term → Formula) → ((t u : Term) → term_size t ≡ term_size u → size (k t) ≡ size (l u)) → (v w : Cases) → AreAlike v w
      → size (at_terms b above k v) ≡ size (at_terms c above l w)
  terms-size above k l at v w h =
      ends-size above (of_term b no k) (of_term c no l) (λ v w h. term-end (λ f g. size f ≡ size g) no no k l refl at v w h) v w h

  present-size : (m f n g : ℕ) (t u : Term) → term_size t ≡ term_size u → HaveSameSize (λ sign above. is_present b m f t (not sign) above) (λ sign above. is_present c n g u (not sign) above)
  present-size m f n g t u e = λ sign above. atom-size (not sign) (present (function_of b m f) t) (present (function_of c n g) u) (omega (arith, e))

  -- what stands for none, and for some value
  pub option-end : {A : Type 0} (R : A → A → Type 0) (choose choose' : Condition → A → A → A)
      → ((p q : Condition) → HaveSameSize p q → (x x' y y' : A) → R x x' → R y y' → R (choose p x y) (choose' q x' y')) → (a a' : A) → R a a' → (k l : Cases → A)
      → ((v w : Cases) → AreAlike v w → R (k v) (l w)) → (v w : Cases) → AreAlike v w → R (of_option b choose a k v) (of_option c choose' a' l w)
  option-end R choose choose' ok a a' o k l at (at_term t) w h = subst (λ z. R a (of_option c choose' a' l z)) (sym h.1) o
  option-end R choose choose' ok a a' o k l at (held m f t) w h =
      subst (λ z. R (of_option b choose a k (held m f t)) (of_option c choose' a' l z)) (sym h.3)
      (ok (λ sign above. is_present b m f t (not sign) above) (λ sign above. is_present c h.0 h.1 h.2 (not sign) above) (present-size m f h.0 h.1 t h.2 h.5) a a' (k (held m f t)) (l (held h.0 h.1 h.2)) o
      (at (held m f t) (held h.0 h.1 h.2) (h.0, h.1, h.2, refl, h.4, h.5)))
  option-end R choose choose' ok a a' o k l at (truth p) w h = subst (λ z. R a (of_option c choose' a' l z)) (sym h.1) o
  option-end R choose choose' ok a a' o k l at (among m) w h = absurd h
  option-end R choose choose' ok a a' o k l at none w h = subst (λ z. R a (of_option c choose' a' l z)) (sym h) o
  option-end R choose choose' ok a a' o k l at (some v) w h = subst (λ z. R (k v) (of_option c choose' a' l z)) (sym h.1) (at v h.0 h.2)
  option-end R choose choose' ok a a' o k l at (choice p x y) w h = subst (λ z. R a (of_option c choose' a' l z)) (sym h.3) o

  -- ---- conditions

  holds-end : (sign : Bool) (above : ℕ) (v w : Cases) → AreAlike v w → size (end_holds b sign above v) ≡ size (end_holds c sign above w)
  holds-end sign above (at_term t) w h = sym (ap (λ z. size (end_holds c sign above z)) h.1)
  holds-end sign above (held m f t) w h =
      atom-size sign (flag (function_of b m f) t) (flag (function_of c h.0 h.1) h.2) (omega (arith, h.5)) ∙ sym (ap (λ z. size (end_holds c sign above z)) h.3)
  holds-end sign above (truth p) w h = h.2 sign above ∙ sym (ap (λ z. size (end_holds c sign above z)) h.1)
  holds-end sign above (among k) w h = absurd h
  holds-end sign above none w h = sym (ap (λ z. size (end_holds c sign above z)) h)
  holds-end sign above (some v) w h = sym (ap (λ z. size (end_holds c sign above z)) h.1)
  holds-end sign above (choice p x y) w h = sym (ap (λ z. size (end_holds c sign above z)) h.3)

  pub condition-size : (v w : Cases) → AreAlike v w → HaveSameSize (condition_of b v) (condition_of c w)
  condition-size v w h = λ sign above. ends-size above (end_holds b sign above) (end_holds c sign above) (holds-end sign above) v w h

  has-end : (t u : Term) → term_size t ≡ term_size u → (sign : Bool) (above : ℕ) (v w : Cases) → AreAlike v w → size (end_has b t sign above v) ≡ size (end_has c u sign above w)
  has-end t u e sign above (at_term x) w h = sym (ap (λ z. size (end_has c u sign above z)) h.1)
  has-end t u e sign above (held m f x) w h =
      atom-size sign (has (relation_of b m f) x t) (has (relation_of c h.0 h.1) h.2 u) (omega (arith, e, h.5)) ∙ sym (ap (λ z. size (end_has c u sign above z)) h.3)
  has-end t u e sign above (truth p) w h = sym (ap (λ z. size (end_has c u sign above z)) h.1)
  has-end t u e sign above (among k) w h = absurd h
  has-end t u e sign above none w h = sym (ap (λ z. size (end_has c u sign above z)) h)
  has-end t u e sign above (some v) w h = sym (ap (λ z. size (end_has c u sign above z)) h.1)
  has-end t u e sign above (choice p x y) w h = sym (ap (λ z. size (end_has c u sign above z)) h.3)

  pub has-size : (v w : Cases) → AreAlike v w → (t u : Term) → term_size t ≡ term_size u → HaveSameSize (has_term b v t) (has_term c w u)
  has-size v w h t u e = λ sign above. ends-size above (end_has b t sign above) (end_has c u sign above) (has-end t u e sign above) v w h

  pub same-size : (p q r s : Condition) → HaveSameSize p q → HaveSameSize r s → HaveSameSize (same_condition p r) (same_condition q s)
  same-size p q r s h k = λ sign above. chosen-size above p q h (r sign above) (s sign above) (r (not sign) above) (s (not sign) above) (k sign above) (k (not sign) above)

  -- ---- comparisons

  pub equal-size : (v v' w w' : Cases) → AreAlike v v' → AreAlike w w' → HaveSameSize (same_term b v w) (same_term c v' w')
  equal-size v v' w w' h k = λ sign above.
      terms-size above (λ t. at_terms b above (λ u. atom sign (equal t u)) w) (λ t. at_terms c above (λ u. atom sign (equal t u)) w')
      (λ t t' e. terms-size above (λ u. atom sign (equal t u)) (λ u. atom sign (equal t' u)) (λ u u' f. atom-size sign (equal t u) (equal t' u') (omega (arith, e, f))) w w' k) v v' h

  pub less-size : (v v' w w' : Cases) → AreAlike v v' → AreAlike w w' → HaveSameSize (less_term b v w) (less_term c v' w')
  less-size v v' w w' h k = λ sign above.
      terms-size above (λ t. at_terms b above (λ u. atom sign (less t u)) w) (λ t. at_terms c above (λ u. atom sign (less t u)) w')
      (λ t t' e. terms-size above (λ u. atom sign (less t u)) (λ u. atom sign (less t' u)) (λ u u' f. atom-size sign (less t u) (less t' u') (omega (arith, e, f))) w w' k) v v' h

  pub some-alike : (v w : Cases) → AreAlike v w → AreAlike (some_of b v) (some_of c w)
  some-alike v w h =
      subst (λ y. AreAlike (some_of b v) (if y then some (truth (condition_of c w)) else continued some w)) (truth-alike v w h) (at (is_truth b v))
    where
      at : (x : Bool) → AreAlike (if x then some (truth (condition_of b v)) else continued some v) (if x then some (truth (condition_of c w)) else continued some w)
      at true = (truth (condition_of c w), refl, (condition_of c w, refl, condition-size v w h))
      at false = ends-alike some some (λ v w k. (w, refl, k)) v w h

  both-truths : (v v' w w' : Cases) → AreAlike v v' → AreAlike w w' → (is_truth b v || is_truth b w) ≡ (is_truth c v' || is_truth c w')
  both-truths v v' w w' h k = ap (λ x. x || is_truth b w) (truth-alike v v' h) ∙ ap (λ x. is_truth c v' || x) (truth-alike w w' k)

  are-equal-size : (v v' w w' : Cases) → AreAlike v v' → AreAlike w w' → HaveSameSize (are_equal b v w) (are_equal c v' w')
  are-equal-size v v' w w' h k =
      subst (λ y. HaveSameSize (are_equal b v w) (if y then same_condition (condition_of c v') (condition_of c w') else same_term c v' w')) (both-truths v v' w w' h k) (at (is_truth b v || is_truth b w))
    where
      at : (x : Bool) → HaveSameSize (if x then same_condition (condition_of b v) (condition_of b w) else same_term b v w)
          (if x then same_condition (condition_of c v') (condition_of c w') else same_term c v' w')
      at true = same-size (condition_of b v) (condition_of c v') (condition_of b w) (condition_of c w') (condition-size v v' h) (condition-size w w' k)
      at false = equal-size v v' w w' h k

  pub compared-size : (op : CmpOp) (v v' w w' : Cases) → AreAlike v v' → AreAlike w w' → HaveSameSize (compared b op v w) (compared c op v' w')
  compared-size Eq v v' w w' h k = λ sign above. are-equal-size v v' w w' h k sign above
  compared-size Ne v v' w w' h k = λ sign above. are-equal-size v v' w w' h k (not sign) above
  compared-size Lt v v' w w' h k = λ sign above. less-size v v' w w' h k sign above
  compared-size Le v v' w w' h k = λ sign above. less-size w w' v v' k h (not sign) above
  compared-size Gt v v' w w' h k = λ sign above. less-size w w' v v' k h sign above
  compared-size Ge v v' w w' h k = λ sign above. less-size v v' w w' h k (not sign) above

  -- ---- variables

  abbrev pub AreScenes : Scene → Scene → Type 0
  AreScenes [] [] = Unit {0}
  AreScenes [] (w ∷ ws) = ⊥
  AreScenes (v ∷ vs) [] = ⊥
  AreScenes (v ∷ vs) (w ∷ ws) = AreAlike v w × AreScenes vs ws

  pub scene-at : (vs ws : Scene) (depth : ℕ) → AreScenes vs ws → AreAlike (slice_index_or vs depth none) (slice_index_or ws depth none)
  scene-at [] [] depth h = refl
  scene-at [] (w ∷ ws) depth h = absurd h
  scene-at (v ∷ vs) [] depth h = absurd h
  scene-at (v ∷ vs) (w ∷ ws) zero h = h.0
  scene-at (v ∷ vs) (w ∷ ws) (suc depth) h = scene-at vs ws depth h.1

  pub scene-more : (vs ws : Scene) (v w : Cases) → AreScenes vs ws → AreAlike v w → AreScenes (vs ++ v ∷ []) (ws ++ w ∷ [])
  scene-more [] [] v w h k = (k, tt)
  scene-more [] (y ∷ ws) v w h k = absurd h
  scene-more (x ∷ vs) [] v w h k = absurd h
  scene-more (x ∷ vs) (y ∷ ws) v w h k = (h.0, scene-more vs ws v w h.1 k)
