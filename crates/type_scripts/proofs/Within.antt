-- Cases whose formulas are no larger than those of others.
use Rattle.std.proofs.Common.{◌≡◌, ℕ, zero, suc, ◌≤◌, Bool, true, false, not, ◌||◌, List, [], ◌∷◌, ◌++◌, refl, ap, ◌∙◌, subst, arith}
use Rattle.std.specs.Prelude.{fold, slice_index_or, ◌==◌, if◌then◌else◌}
use Rattle.text_tree.specs.declared.exprs.CmpOp.{CmpOp}
use Rattle.text_tree.specs.declared.exprs.CmpOp.TheVariants.{Eq, Ne, Lt, Le, Gt, Ge}
use Rattle.type_schema.specs.Schema.{Schema}
use Rattle.form_formula.specs.Trees.{Term, app, Formula, yes, no, equal, less, has, flag, present, negation, both, either, exists, forall}
use Rattle.duty_meaning.specs.Structures.{function_of, relation_of}
use Rattle.duty_meaning.specs.Cases.{Condition, constant, atom, and_if, exists_if, all_if, any_if, chosen, same_condition, Cases, at_term, held, truth, among, none, some, choice, continued, at_ends, of_term, at_terms, is_present, of_option, end_holds, condition_of, end_has, has_term, same_term, less_term, holds_truth, is_truth, some_of, are_equal, compared}
use Rattle.duty_meaning.specs.Formulas.{Scene, Who, static, record_at, of_each_kind, of_model}
use Rattle.duty_meaning.specs.Sizes.{term_size, size}

-- ---- formulas

pub some-size : (a : Formula) → 1 ≤ size a
some-size yes = omega arith
some-size no = omega arith
some-size (equal t u) = omega arith
some-size (less t u) = omega arith
some-size (has r t u) = omega arith
some-size (flag f t) = omega arith
some-size (present f t) = omega arith
some-size (negation a) = some-size a
some-size (both a b) = omega arith
some-size (either a b) = omega arith
some-size (exists sort a) = omega arith
some-size (forall sort a) = omega arith

pub constant-less : (sign : Bool) (a : Formula) → size (constant sign) ≤ size a
constant-less true a = some-size a
constant-less false a = some-size a

pub atom-less : (sign sign' : Bool) (a b : Formula) → size a ≤ size b → size (atom sign a) ≤ size (atom sign' b)
atom-less true true a b h = h
atom-less true false a b h = h
atom-less false true a b h = h
atom-less false false a b h = h

pub and-less : (sign sign' : Bool) (a b c d : Formula) → size a ≤ size c → size b ≤ size d → size (and_if sign a b) ≤ size (and_if sign' c d)
and-less true true a b c d h k = omega (arith, h, k)
and-less true false a b c d h k = omega (arith, h, k)
and-less false true a b c d h k = omega (arith, h, k)
and-less false false a b c d h k = omega (arith, h, k)

pub exists-less : (sign sign' : Bool) (sort sort' : ℕ) (a b : Formula) → size a ≤ size b → size (exists_if sign sort a) ≤ size (exists_if sign' sort' b)
exists-less true true sort sort' a b h = omega (arith, h)
exists-less true false sort sort' a b h = omega (arith, h)
exists-less false true sort sort' a b h = omega (arith, h)
exists-less false false sort sort' a b h = omega (arith, h)

pub test-less : (x : Bool) (a b c d : Formula) → size a ≤ size c → size b ≤ size d → size (if x then a else b) ≤ size (if x then c else d)
test-less true a b c d h k = h
test-less false a b c d h k = k

pub either-less : (x : Bool) (a b c : Formula) → size a ≤ size c → size b ≤ size c → size (if x then a else b) ≤ size c
either-less true a b c h k = h
either-less false a b c h k = k

-- as many formulas, each no larger
abbrev pub LessAll : List Formula → List Formula → Type 0
LessAll [] [] = Unit {0}
LessAll [] (b ∷ bs) = ⊥
LessAll (a ∷ as') [] = ⊥
LessAll (a ∷ as') (b ∷ bs) = (size a ≤ size b) × LessAll as' bs

fold-less : (sign sign' : Bool) (f g : Formula) → size f ≤ size g → (fs gs : List Formula) → LessAll fs gs → size (fold (and_if sign) f fs) ≤ size (fold (and_if sign') g gs)
fold-less sign sign' f g h [] [] all = h
fold-less sign sign' f g h [] (b ∷ bs) all = absurd all
fold-less sign sign' f g h (a ∷ fs) [] all = absurd all
fold-less sign sign' f g h (a ∷ fs) (b ∷ gs) all =
    fold-less sign sign' (and_if sign f a) (and_if sign' g b) (and-less sign sign' f a g b h all.0) fs gs all.1

pub all-less : (sign sign' : Bool) (fs gs : List Formula) → LessAll fs gs → size (all_if sign fs) ≤ size (all_if sign' gs)
all-less sign sign' [] [] all = constant-less sign (constant sign')
all-less sign sign' [] (b ∷ gs) all = absurd all
all-less sign sign' (a ∷ fs) [] all = absurd all
all-less sign sign' (a ∷ fs) (b ∷ gs) all = fold-less sign sign' a b all.0 fs gs all.1

pub any-less : (sign sign' : Bool) (fs gs : List Formula) → LessAll fs gs → size (any_if sign fs) ≤ size (any_if sign' gs)
any-less sign sign' [] [] all = constant-less (not sign) (constant (not sign'))
any-less sign sign' [] (b ∷ gs) all = absurd all
any-less sign sign' (a ∷ fs) [] all = absurd all
any-less sign sign' (a ∷ fs) (b ∷ gs) all = fold-less (not sign) (not sign') a b all.0 fs gs all.1

-- ---- conditions

-- whichever sign each has, and however many quantifiers stand above it
abbrev pub LessCondition : Condition → Condition → Type 0
LessCondition c d = (sign : Bool) (above : ℕ) (sign' : Bool) (above' : ℕ) → size (c sign above) ≤ size (d sign' above')

abbrev pub LessMembers : (Term → Condition) → (Term → Condition) → Type 0
LessMembers k l = (t u : Term) → term_size t ≤ term_size u → LessCondition (k t) (l u)

pub same-less : (c d e f : Condition) → LessCondition c d → LessCondition e f → LessCondition (same_condition c e) (same_condition d f)
same-less c d e f h k sign a sign' a' =
    let one = h true a true a' in
    let two = h false a false a' in
    let three = k sign a sign' a' in
    let four = k (not sign) a (not sign') a' in
    omega (arith, one, two, three, four)

-- whom a set is asked about: another may be counted in more places
pub data LessWho : Who → Who → Type 0 where
  is_static : (n : ℕ) (q : Who) → LessWho (static n) q
  same_model : (m : ℕ) (t u : Term) → term_size t ≤ term_size u → LessWho (record_at m t) (record_at m u)
  any_model : (m : ℕ) (t u : Term) → term_size t ≤ term_size u → LessWho (record_at m t) (of_each_kind u)
  each_model : (t u : Term) → term_size t ≤ term_size u → LessWho (of_each_kind t) (of_each_kind u)

pub of_model-less : (m : ℕ) (k l : Term → Condition) → LessMembers k l → (q p : Who) → LessWho q p → LessCondition (of_model m q k) (of_model m p l)
of_model-less m k l h _ _ (is_static n p) sign a sign' a' = constant-less (not sign) (of_model m p l sign' a')
of_model-less m k l h _ _ (same_model n t u e) sign a sign' a' =
    test-less (n == m) (k t sign a) (constant (not sign)) (l u sign' a') (constant (not sign')) (h t u e sign a sign' a') (constant-less (not sign) (constant (not sign')))
of_model-less m k l h _ _ (any_model n t u e) sign a sign' a' =
    either-less (n == m) (k t sign a) (constant (not sign)) (l u sign' a') (h t u e sign a sign' a') (constant-less (not sign) (l u sign' a'))
of_model-less m k l h _ _ (each_model t u e) sign a sign' a' = h t u e sign a sign' a'

-- ---- cases

module _ (s b : Schema) where
  -- Cases of one form, each of whose terms and conditions is no larger. Fields that are held are the same, and both schemas say whether they hold truth values.
  pub data Within : Cases → Cases → Type 0 where
    terms : (t u : Term) → term_size t ≤ term_size u → Within (at_term t) (at_term u)
    fields : (m f : ℕ) (t u : Term) → holds_truth s m f ≡ holds_truth b m f → term_size t ≤ term_size u → Within (held m f t) (held m f u)
    truths : (c d : Condition) → LessCondition c d → Within (truth c) (truth d)
    sets : (k l : Term → Condition) → LessMembers k l → Within (among k) (among l)
    nones : Within none none
    somes : (v w : Cases) → Within v w → Within (some v) (some w)
    choices : (c d : Condition) (v w x y : Cases) → LessCondition c d → Within v w → Within x y → Within (choice c v x) (choice d w y)

  pub ends-less : (a a' : ℕ) (k l : Cases → Formula) → ((v w : Cases) → Within v w → size (k v) ≤ size (l w)) → (v w : Cases) → Within v w
      → size (at_ends a k v) ≤ size (at_ends a' l w)
  ends-less a a' k l each _ _ (terms t u e) = each (at_term t) (at_term u) (terms t u e)
  ends-less a a' k l each _ _ (fields m f t u h e) = each (held m f t) (held m f u) (fields m f t u h e)
  ends-less a a' k l each _ _ (truths c d h) = each (truth c) (truth d) (truths c d h)
  ends-less a a' k l each _ _ (sets p q h) = each (among p) (among q) (sets p q h)
  ends-less a a' k l each _ _ nones = each none none nones
  ends-less a a' k l each _ _ (somes v w h) = each (some v) (some w) (somes v w h)
  ends-less a a' k l each _ _ (choices c d v w x y h p q) =
      let one = h true a true a' in
      let two = h false a false a' in
      let three = ends-less a a' k l each v w p in
      let four = ends-less a a' k l each x y q in
      omega (arith, one, two, three, four)

  pub continued-within : (k l : Cases → Cases) → ((v w : Cases) → Within v w → Within (k v) (l w)) → (v w : Cases) → Within v w → Within (continued k v) (continued l w)
  continued-within k l each _ _ (terms t u e) = each (at_term t) (at_term u) (terms t u e)
  continued-within k l each _ _ (fields m f t u h e) = each (held m f t) (held m f u) (fields m f t u h e)
  continued-within k l each _ _ (truths c d h) = each (truth c) (truth d) (truths c d h)
  continued-within k l each _ _ (sets p q h) = each (among p) (among q) (sets p q h)
  continued-within k l each _ _ nones = each none none nones
  continued-within k l each _ _ (somes v w h) = each (some v) (some w) (somes v w h)
  continued-within k l each _ _ (choices c d v w x y h p q) =
      choices c d (continued k v) (continued l w) (continued k x) (continued l y) h (continued-within k l each v w p) (continued-within k l each x y q)

  -- ---- terms

  term-less : (k l : Term → Formula) → ((t u : Term) → term_size t ≤ term_size u → size (k t) ≤ size (l u)) → (v w : Cases) → Within v w → size (of_term s no k v) ≤ size (of_term b no l w)
  term-less k l each _ _ (terms t u e) = each t u e
  term-less k l each _ _ (fields m f t u h e) = each (app (function_of s m f) t) (app (function_of b m f) u) (omega (arith, e))
  term-less k l each _ _ (truths c d h) = omega arith
  term-less k l each _ _ (sets p q h) = omega arith
  term-less k l each _ _ nones = omega arith
  term-less k l each _ _ (somes v w h) = omega arith
  term-less k l each _ _ (choices c d v w x y h p q) = omega arith

  pub at_terms-less : (a a' : ℕ) (k l : Term → Formula) → ((t u : Term) → term_size t ≤ term_size u → size (k t) ≤ size (l u)) → (v w : Cases) → Within v w
      → size (at_terms s a k v) ≤ size (at_terms b a' l w)
  at_terms-less a a' k l each v w h = ends-less a a' (of_term s no k) (of_term b no l) (term-less k l each) v w h

  pub term-within : (k l : Term → Cases) → ((t u : Term) → term_size t ≤ term_size u → Within (k t) (l u)) → (v w : Cases) → Within v w → Within (of_term s none k v) (of_term b none l w)
  term-within k l each _ _ (terms t u e) = each t u e
  term-within k l each _ _ (fields m f t u h e) = each (app (function_of s m f) t) (app (function_of b m f) u) (omega (arith, e))
  term-within k l each _ _ (truths c d h) = nones
  term-within k l each _ _ (sets p q h) = nones
  term-within k l each _ _ nones = nones
  term-within k l each _ _ (somes v w h) = nones
  term-within k l each _ _ (choices c d v w x y h p q) = nones

  -- ---- options

  present-less : (m f : ℕ) (t u : Term) → term_size t ≤ term_size u → LessCondition (λ sign above. is_present s m f t (not sign) above) (λ sign above. is_present b m f u (not sign) above)
  present-less m f t u e sign a sign' a' = atom-less (not sign) (not sign') (present (function_of s m f) t) (present (function_of b m f) u) (omega (arith, e))

  pub option-within : (x y : Cases) → Within x y → (k l : Cases → Cases) → ((v w : Cases) → Within v w → Within (k v) (l w)) → (v w : Cases) → Within v w
      → Within (of_option s choice x k v) (of_option b choice y l w)
  option-within x y h k l each _ _ (terms t u e) = h
  option-within x y h k l each _ _ (fields m f t u p e) =
      choices (λ sign above. is_present s m f t (not sign) above) (λ sign above. is_present b m f u (not sign) above) x y (k (held m f t)) (l (held m f u)) (present-less m f t u e) h
      (each (held m f t) (held m f u) (fields m f t u p e))
  option-within x y h k l each _ _ (truths c d p) = h
  option-within x y h k l each _ _ (sets p q i) = h
  option-within x y h k l each _ _ nones = h
  option-within x y h k l each _ _ (somes v w i) = each v w i
  option-within x y h k l each _ _ (choices c d v w z o i p q) = h

  pub option-less : (a a' : ℕ) (x y : Formula) → size x ≤ size y → (k l : Cases → Formula) → ((v w : Cases) → Within v w → size (k v) ≤ size (l w)) → (v w : Cases) → Within v w
      → size (of_option s (chosen a) x k v) ≤ size (of_option b (chosen a') y l w)
  option-less a a' x y h k l each _ _ (terms t u e) = h
  option-less a a' x y h k l each _ _ (fields m f t u p e) =
      let one = present-less m f t u e true a true a' in
      let two = present-less m f t u e false a false a' in
      let three = each (held m f t) (held m f u) (fields m f t u p e) in
      omega (arith, one, two, h, three)
  option-less a a' x y h k l each _ _ (truths c d p) = h
  option-less a a' x y h k l each _ _ (sets p q i) = h
  option-less a a' x y h k l each _ _ nones = h
  option-less a a' x y h k l each _ _ (somes v w i) = each v w i
  option-less a a' x y h k l each _ _ (choices c d v w z o i p q) = h

  -- ---- truth values and sets

  holds-less : (sign : Bool) (a : ℕ) (sign' : Bool) (a' : ℕ) (v w : Cases) → Within v w → size (end_holds s sign a v) ≤ size (end_holds b sign' a' w)
  holds-less sign a sign' a' _ _ (terms t u e) = omega arith
  holds-less sign a sign' a' _ _ (fields m f t u h e) =
      atom-less sign sign' (flag (function_of s m f) t) (flag (function_of b m f) u) (omega (arith, e))
  holds-less sign a sign' a' _ _ (truths c d h) = h sign a sign' a'
  holds-less sign a sign' a' _ _ (sets p q h) = omega arith
  holds-less sign a sign' a' _ _ nones = omega arith
  holds-less sign a sign' a' _ _ (somes v w h) = omega arith
  holds-less sign a sign' a' _ _ (choices c d v w x y h p q) = omega arith

  pub condition-less : (v w : Cases) → Within v w → LessCondition (condition_of s v) (condition_of b w)
  condition-less v w h sign a sign' a' = ends-less a a' (end_holds s sign a) (end_holds b sign' a') (holds-less sign a sign' a') v w h

  has-end : (t u : Term) → term_size t ≤ term_size u → (sign : Bool) (a : ℕ) (sign' : Bool) (a' : ℕ) (v w : Cases) → Within v w → size (end_has s t sign a v) ≤ size (end_has b u sign' a' w)
  has-end o z near sign a sign' a' _ _ (terms t u e) = omega arith
  has-end o z near sign a sign' a' _ _ (fields m f t u h e) =
      atom-less sign sign' (has (relation_of s m f) t o) (has (relation_of b m f) u z) (omega (arith, e, near))
  has-end o z near sign a sign' a' _ _ (truths c d h) = omega arith
  has-end o z near sign a sign' a' _ _ (sets p q h) = h o z near sign a sign' a'
  has-end o z near sign a sign' a' _ _ nones = omega arith
  has-end o z near sign a sign' a' _ _ (somes v w h) = omega arith
  has-end o z near sign a sign' a' _ _ (choices c d v w x y h p q) = omega arith

  pub has-less : (v w : Cases) → Within v w → LessMembers (has_term s v) (has_term b w)
  has-less v w h t u e sign a sign' a' = ends-less a a' (end_has s t sign a) (end_has b u sign' a') (has-end t u e sign a sign' a') v w h

  -- ---- comparisons

  pub same_term-less : (v w x y : Cases) → Within v w → Within x y → LessCondition (same_term s v x) (same_term b w y)
  same_term-less v w x y h k sign a sign' a' =
      at_terms-less a a' (λ t. at_terms s a (λ u. atom sign (equal t u)) x) (λ t. at_terms b a' (λ u. atom sign' (equal t u)) y)
      (λ t u e. at_terms-less a a' (λ o. atom sign (equal t o)) (λ o. atom sign' (equal u o))
      (λ o z i. atom-less sign sign' (equal t o) (equal u z) (omega (arith, e, i))) x y k) v w h

  pub less_term-less : (v w x y : Cases) → Within v w → Within x y → LessCondition (less_term s v x) (less_term b w y)
  less_term-less v w x y h k sign a sign' a' =
      at_terms-less a a' (λ t. at_terms s a (λ u. atom sign (less t u)) x) (λ t. at_terms b a' (λ u. atom sign' (less t u)) y)
      (λ t u e. at_terms-less a a' (λ o. atom sign (less t o)) (λ o. atom sign' (less u o))
      (λ o z i. atom-less sign sign' (less t o) (less u z) (omega (arith, e, i))) x y k) v w h

  truth-same : (v w : Cases) → Within v w → is_truth s v ≡ is_truth b w
  truth-same _ _ (terms t u e) = refl
  truth-same _ _ (fields m f t u h e) = h
  truth-same _ _ (truths c d h) = refl
  truth-same _ _ (sets p q h) = refl
  truth-same _ _ nones = refl
  truth-same _ _ (somes v w h) = refl
  truth-same _ _ (choices c d v w x y h p q) = truth-same v w p

  pub some-within : (v w : Cases) → Within v w → Within (some_of s v) (some_of b w)
  some-within v w h =
      subst (λ (z : Bool). Within (some_of s v) (if z then some (truth (condition_of b w)) else continued some w)) (truth-same v w h) (by (is_truth s v))
    where
      by : (z : Bool) → Within (if z then some (truth (condition_of s v)) else continued some v) (if z then some (truth (condition_of b w)) else continued some w)
      by true = somes (truth (condition_of s v)) (truth (condition_of b w)) (truths (condition_of s v) (condition_of b w) (condition-less v w h))
      by false = continued-within (λ x. some x) (λ x. some x) (λ x y i. somes x y i) v w h

  pub equal-less : (v w x y : Cases) → Within v w → Within x y → LessCondition (are_equal s v x) (are_equal b w y)
  equal-less v w x y h k =
      let first : (is_truth s v || is_truth s x) ≡ (is_truth b w || is_truth s x) = ap (λ z. z || is_truth s x) (truth-same v w h) in
      let second : (is_truth b w || is_truth s x) ≡ (is_truth b w || is_truth b y) = ap (λ z. is_truth b w || z) (truth-same x y k) in
      subst (λ (z : Bool). LessCondition (are_equal s v x) (if z then same_condition (condition_of b w) (condition_of b y) else same_term b w y))
      (first ∙ second) (by (is_truth s v || is_truth s x))
    where
      by : (z : Bool)
          → LessCondition (if z then same_condition (condition_of s v) (condition_of s x) else same_term s v x) (if z then same_condition (condition_of b w) (condition_of b y) else same_term b w y)
      by true = same-less (condition_of s v) (condition_of b w) (condition_of s x) (condition_of b y) (condition-less v w h) (condition-less x y k)
      by false = same_term-less v w x y h k

  pub compared-less : (op : CmpOp) (v w x y : Cases) → Within v w → Within x y → LessCondition (compared s op v x) (compared b op w y)
  compared-less Eq v w x y h k sign a sign' a' = equal-less v w x y h k sign a sign' a'
  compared-less Ne v w x y h k sign a sign' a' = equal-less v w x y h k (not sign) a (not sign') a'
  compared-less Lt v w x y h k sign a sign' a' = less_term-less v w x y h k sign a sign' a'
  compared-less Le v w x y h k sign a sign' a' = less_term-less x y v w k h (not sign) a (not sign') a'
  compared-less Gt v w x y h k sign a sign' a' = less_term-less x y v w k h sign a sign' a'
  compared-less Ge v w x y h k sign a sign' a' = less_term-less v w x y h k (not sign) a (not sign') a'

  -- ---- scenes

  abbrev pub LessScene : Scene → Scene → Type 0
  LessScene [] [] = Unit {0}
  LessScene [] (w ∷ ws) = ⊥
  LessScene (v ∷ vs) [] = ⊥
  LessScene (v ∷ vs) (w ∷ ws) = Within v w × LessScene vs ws

  pub scene-and : (vs ws : Scene) (v w : Cases) → LessScene vs ws → Within v w → LessScene (vs ++ v ∷ []) (ws ++ w ∷ [])
  scene-and [] [] v w h k = (k, tt)
  scene-and [] (y ∷ ws) v w h k = absurd h
  scene-and (x ∷ vs) [] v w h k = absurd h
  scene-and (x ∷ vs) (y ∷ ws) v w h k = (h.0, scene-and vs ws v w h.1 k)

  pub scene-at : (vs ws : Scene) → LessScene vs ws → (depth : ℕ) → Within (slice_index_or vs depth none) (slice_index_or ws depth none)
  scene-at [] [] h depth = nones
  scene-at [] (y ∷ ws) h depth = absurd h
  scene-at (x ∷ vs) [] h depth = absurd h
  scene-at (x ∷ vs) (y ∷ ws) h zero = h.0
  scene-at (x ∷ vs) (y ∷ ws) h (suc depth) = scene-at vs ws h.1 depth
