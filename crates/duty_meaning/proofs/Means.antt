-- Which cases mean a value over a structure that shows a database, where the variables of the quantifiers above have these elements.
use Rattle.std.proofs.Common.{◌≡◌, ℕ, zero, suc, Bool, true, false, List, [], ◌∷◌, ◌++◌, length, refl, ap, sym, ◌∙◌, subst, ◌⊎◌, inl, inr}
use Rattle.std.specs.Prelude.{Option, Some, ℤ, ◌==◌, slice_get, slice_index_or}
use Rattle.std.specs.List.{list_any}
use Rattle.std.specs.Option.{option_map_or, option_or}
use Rattle.std.proofs.lemmas.List.{append_assoc, append-nil}
use Rattle.type_schema.specs.declared.types.TBase.{TBase}
use Rattle.type_schema.specs.declared.types.TBase.TheVariants as base
use Rattle.type_schema.specs.declared.types.TTy.{TTy}
use Rattle.type_schema.specs.declared.types.TTy.TheVariants.{Plain, Set, Opt}
use Rattle.type_schema.specs.Schema.{Schema, type_of, removed_type}
use Rattle.type_schema.specs.Typing.{Scope}
use Rattle.data_meaning.specs.declared.principals.Principal.{Principal}
use Rattle.data_meaning.specs.declared.principals.Principal.TheVariants as who
use Rattle.data_meaning.specs.Values.{Value, Flag, Num, Str, Id, Nothing, Just}
use Rattle.data_meaning.specs.Database.{Database, has_record}
use Rattle.data_meaning.specs.Meaning.{Env, same_truth, truth_of, set_of}
use Rattle.form_formula.specs.declared.structure.SVal.{SVal}
use Rattle.form_formula.specs.declared.structure.SVal.TheVariants as sval
use Rattle.form_formula.specs.declared.structure.Structure.{Structure}
use Rattle.form_formula.specs.Trees.{Term, app, has}
use Rattle.form_formula.specs.Truth.{value_of}
use Rattle.form_formula.specs.Truth as formula
use Rattle.duty_meaning.specs.Structures.{function_of, relation_of, element_of}
use Rattle.duty_meaning.specs.Cases.{Condition, atom, Cases, at_term, held, truth, among, none, some, choice, is_present, is_truth_type, holds_truth, is_truth}
use Rattle.duty_meaning.specs.Formulas.{Who, static, record_at, of_each_kind, Scene}

-- ---- more variables

abbrev pub IsPrefix : List ℕ → List ℕ → Type 0
IsPrefix xs zs = (ys : List ℕ) × (zs ≡ xs ++ ys)

pub prefix-itself : (xs : List ℕ) → IsPrefix xs xs
prefix-itself xs = ([], sym (append-nil xs))

pub prefix-more : (xs : List ℕ) (x : ℕ) → IsPrefix xs (xs ++ x ∷ [])
prefix-more xs x = (x ∷ [], refl)

pub prefix-along : (xs ys zs : List ℕ) → IsPrefix xs ys → IsPrefix ys zs → IsPrefix xs zs
prefix-along xs ys zs p q = (p.0 ++ q.0, q.1 ∙ ap (λ l. l ++ q.0) p.1 ∙ append_assoc xs p.0 q.0)

module _ (b : Schema) where
  -- the cases have the type
  abbrev pub HasType : TTy → Cases → Type 0
  HasType t (at_term u) = (p : TBase) × (t ≡ Plain p) × (is_truth_type b t ≡ false)
  HasType t (held m f u) = holds_truth b m f ≡ is_truth_type b t
  HasType t (truth c) = t ≡ Plain base.Bool
  HasType t (among k) = (n : ℕ) × (t ≡ Set n)
  HasType t none = (p : TBase) × (t ≡ Opt p)
  HasType t (some c) = (p : TBase) × (t ≡ Opt p) × HasType (Plain p) c
  HasType t (choice c x y) = HasType t x × HasType t y

  -- the type of a field tells whether it holds truth values
  pub truth-of-type : (m f : ℕ) (t : TTy) → type_of b m f ≡ Some t → holds_truth b m f ≡ is_truth_type b t
  truth-of-type m f t h = ap (λ o. option_map_or (is_truth_type b) (option_or o (removed_type b m f)) false) h

  -- the first end tells whether a value is a truth value
  pub shows-truth : (p : TBase) (c : Cases) → HasType (Plain p) c → is_truth b c ≡ is_truth_type b (Plain p)
  shows-truth p (at_term u) h = sym h.2
  shows-truth p (held m f u) h = h
  shows-truth p (truth c) h = sym (ap (is_truth_type b) h)
  shows-truth p (among k) h = let never = h.1 in cc
  shows-truth p none h = let never = h.1 in cc
  shows-truth p (some c) h = let never = h.1 in cc
  shows-truth p (choice c x y) h = shows-truth p x h.0

  pub truth-type : (p : TBase) → is_truth_type b (Plain p) ≡ true → p ≡ base.Bool
  truth-type base.Bool e = refl
  truth-type base.Int e = cc
  truth-type base.Text e = cc
  truth-type (base.Id m) e = cc

  pub option-type : (p : TBase) → is_truth_type b (Opt p) ≡ is_truth_type b (Plain p)
  option-type base.Bool = refl
  option-type base.Int = refl
  option-type base.Text = refl
  option-type (base.Id m) = refl

  abbrev pub AreTyped : Scope → Scene → Type 0
  AreTyped [] [] = Unit {0}
  AreTyped [] (c ∷ scene) = ⊥
  AreTyped (t ∷ scope) [] = ⊥
  AreTyped (t ∷ scope) (c ∷ scene) = HasType t c × AreTyped scope scene

  pub typed-at : (scope : Scope) (scene : Scene) (depth : ℕ) (t : TTy) → AreTyped scope scene → slice_get scope depth ≡ Some t
      → HasType t (slice_index_or scene depth none)
  typed-at [] [] depth t h e = cc
  typed-at [] (c ∷ scene) depth t h e = absurd h
  typed-at (u ∷ scope) [] depth t h e = absurd h
  typed-at (u ∷ scope) (c ∷ scene) zero t h e = let same : u ≡ t = cc in subst (λ (k : TTy). HasType k c) same h.0
  typed-at (u ∷ scope) (c ∷ scene) (suc depth) t h e = typed-at scope scene depth t h.1 e

  pub typed-more : (scope : Scope) (scene : Scene) (t : TTy) (c : Cases) → AreTyped scope scene → HasType t c → AreTyped (scope ++ t ∷ []) (scene ++ c ∷ [])
  typed-more [] [] t c h k = (k, tt)
  typed-more [] (e ∷ scene) t c h k = absurd h
  typed-more (u ∷ scope) [] t c h k = absurd h
  typed-more (u ∷ scope) (e ∷ scene) t c h k = (h.0, typed-more scope scene t c h.1 k)

module _ (b : Schema) (st : Structure) (d : Database) where
  -- a value of a base type as what a function has
  abbrev pub IsEntry : TBase → Value → Option SVal → Type 0
  IsEntry base.Bool v e = (x : Bool) × (v ≡ Flag x) × (e ≡ Some (sval.Flag x))
  IsEntry base.Int v e = (n : ℤ) × (v ≡ Num n) × (e ≡ Some (sval.Num n))
  IsEntry base.Text v e = (bytes : List ℕ) × (v ≡ Str bytes) × (e ≡ Some (sval.Str bytes))
  IsEntry (base.Id m) v e = (id : ℕ) × (v ≡ Id id) × (has_record d m id ≡ true) × (e ≡ Some (sval.Rec (element_of d m id)))

  abbrev pub IsTermOf : List ℕ → TBase → Value → Term → Type 0
  IsTermOf xs p v u = (zs : List ℕ) → IsPrefix xs zs → IsEntry p v (value_of st zs u)

  abbrev pub IsConditionOf : List ℕ → Bool → Condition → Type 0
  IsConditionOf xs x c = (zs : List ℕ) → IsPrefix xs zs → (sign : Bool) → formula.truth st zs (c sign (length zs)) ≡ same_truth sign x

  -- who is in the set of ids of records of the model
  abbrev pub AreMembers : List ℕ → ℕ → Value → (Term → Condition) → Type 0
  AreMembers xs n v k =
      (zs : List ℕ) → IsPrefix xs zs → (id : ℕ) (u : Term) → IsTermOf zs (base.Id n) (Id id) u → (sign : Bool)
      → formula.truth st zs (k u sign (length zs)) ≡ same_truth sign (list_any (λ i. i == id) (set_of v))

  abbrev pub HoldsField : List ℕ → TTy → Value → ℕ → ℕ → Term → Type 0
  HoldsField xs (Plain p) v m f u = IsTermOf xs p v (app (function_of b m f) u)
  HoldsField xs (Set n) v m f u = AreMembers xs n v (λ w sign above. atom sign (has (relation_of b m f) u w))
  HoldsField xs (Opt p) v m f u =
      ((v ≡ Nothing) × IsConditionOf xs false (is_present b m f u))
      ⊎ ((w : Value) × (v ≡ Just w) × IsConditionOf xs true (is_present b m f u) × IsTermOf xs p w (app (function_of b m f) u))

  abbrev pub Means : List ℕ → TTy → Value → Cases → Type 0
  Means xs t v (at_term u) = (p : TBase) × (t ≡ Plain p) × (is_truth_type b (Plain p) ≡ false) × IsTermOf xs p v u
  Means xs t v (held m f u) = HoldsField xs t v m f u
  Means xs t v (truth c) = (t ≡ Plain base.Bool) × (v ≡ Flag (truth_of v)) × IsConditionOf xs (truth_of v) c
  Means xs t v (among k) = (n : ℕ) × (t ≡ Set n) × AreMembers xs n v k
  Means xs t v none = (p : TBase) × (t ≡ Opt p) × (v ≡ Nothing)
  Means xs t v (some c) = (p : TBase) × (t ≡ Opt p) × ((w : Value) × (v ≡ Just w) × Means xs (Plain p) w c)
  Means xs t v (choice c x y) = (taken : Bool) × IsConditionOf xs taken c × (taken ≡ true → Means xs t v x) × (taken ≡ false → Means xs t v y)

  -- ---- where there are more variables

  pub term-more : (xs zs : List ℕ) (p : TBase) (v : Value) (u : Term) → IsPrefix xs zs → IsTermOf xs p v u → IsTermOf zs p v u
  term-more xs zs p v u q h = λ ws r. h ws (prefix-along xs zs ws q r)

  condition-more : (xs zs : List ℕ) (x : Bool) (c : Condition) → IsPrefix xs zs → IsConditionOf xs x c → IsConditionOf zs x c
  condition-more xs zs x c q h = λ ws r. h ws (prefix-along xs zs ws q r)

  members-more : (xs zs : List ℕ) (n : ℕ) (v : Value) (k : Term → Condition) → IsPrefix xs zs → AreMembers xs n v k → AreMembers zs n v k
  members-more xs zs n v k q h = λ ws r. h ws (prefix-along xs zs ws q r)

  field-more : (xs zs : List ℕ) (t : TTy) (v : Value) (m f : ℕ) (u : Term) → IsPrefix xs zs → HoldsField xs t v m f u → HoldsField zs t v m f u
  field-more xs zs (Plain p) v m f u q h = λ ws r. h ws (prefix-along xs zs ws q r)
  field-more xs zs (Set n) v m f u q h = λ ws r. h ws (prefix-along xs zs ws q r)
  field-more xs zs (Opt p) v m f u q h =
      elim h [
        | inl is ↦ inl (is.0, λ ws r. is.1 ws (prefix-along xs zs ws q r))
        | inr is ↦ inr (is.0, is.1, λ ws r. is.2 ws (prefix-along xs zs ws q r), λ ws r. is.3 ws (prefix-along xs zs ws q r))
      ]

  pub means-more : (c : Cases) (xs zs : List ℕ) (t : TTy) (v : Value) → IsPrefix xs zs → Means xs t v c → Means zs t v c
  means-more (at_term u) xs zs t v q h = (h.0, h.1, h.2, λ ws r. h.3 ws (prefix-along xs zs ws q r))
  means-more (held m f u) xs zs t v q h = field-more xs zs t v m f u q h
  means-more (truth c) xs zs t v q h = (h.0, h.1, λ ws r. h.2 ws (prefix-along xs zs ws q r))
  means-more (among k) xs zs t v q h = (h.0, h.1, λ ws r. h.2 ws (prefix-along xs zs ws q r))
  means-more none xs zs t v q h = h
  means-more (some c) xs zs t v q h = (h.0, h.1, (h.2.0, h.2.1, means-more c xs zs (Plain h.0) h.2.0 q h.2.2))
  means-more (choice c x y) xs zs t v q h = (
    h.0,
    λ ws r. h.1 ws (prefix-along xs zs ws q r),
    λ e. means-more x xs zs t v q (h.2 e),
    λ e. means-more y xs zs t v q (h.3 e),
  )

  -- ---- variables

  abbrev pub Stands : List ℕ → Scope → Env → Scene → Type 0
  Stands xs [] [] [] = Unit {0}
  Stands xs [] [] (c ∷ scene) = ⊥
  Stands xs [] (v ∷ env) scene = ⊥
  Stands xs (t ∷ scope) [] scene = ⊥
  Stands xs (t ∷ scope) (v ∷ env) [] = ⊥
  Stands xs (t ∷ scope) (v ∷ env) (c ∷ scene) = Means xs t v c × HasType b t c × Stands xs scope env scene

  pub stands-at : (xs : List ℕ) (scope : Scope) (env : Env) (scene : Scene) (depth : ℕ) (t : TTy) → Stands xs scope env scene
      → slice_get scope depth ≡ Some t → Means xs t (slice_index_or env depth Nothing) (slice_index_or scene depth none)
  stands-at xs [] [] [] depth t h e = cc
  stands-at xs [] [] (c ∷ scene) depth t h e = absurd h
  stands-at xs [] (v ∷ env) scene depth t h e = absurd h
  stands-at xs (u ∷ scope) [] scene depth t h e = absurd h
  stands-at xs (u ∷ scope) (v ∷ env) [] depth t h e = absurd h
  stands-at xs (u ∷ scope) (v ∷ env) (c ∷ scene) zero t h e = let same : u ≡ t = cc in subst (λ (k : TTy). Means xs k v c) same h.0
  stands-at xs (u ∷ scope) (v ∷ env) (c ∷ scene) (suc depth) t h e = stands-at xs scope env scene depth t h.2 e

  pub stands-typed : (xs : List ℕ) (scope : Scope) (env : Env) (scene : Scene) → Stands xs scope env scene → AreTyped b scope scene
  stands-typed xs [] [] [] h = tt
  stands-typed xs [] [] (c ∷ scene) h = absurd h
  stands-typed xs [] (v ∷ env) scene h = absurd h
  stands-typed xs (t ∷ scope) [] scene h = absurd h
  stands-typed xs (t ∷ scope) (v ∷ env) [] h = absurd h
  stands-typed xs (t ∷ scope) (v ∷ env) (c ∷ scene) h = (h.1, stands-typed xs scope env scene h.2)

  pub stands-more : (xs zs : List ℕ) (scope : Scope) (env : Env) (scene : Scene) → IsPrefix xs zs → Stands xs scope env scene → Stands zs scope env scene
  stands-more xs zs [] [] [] q h = tt
  stands-more xs zs [] [] (c ∷ scene) q h = absurd h
  stands-more xs zs [] (v ∷ env) scene q h = absurd h
  stands-more xs zs (t ∷ scope) [] scene q h = absurd h
  stands-more xs zs (t ∷ scope) (v ∷ env) [] q h = absurd h
  stands-more xs zs (t ∷ scope) (v ∷ env) (c ∷ scene) q h = (means-more c xs zs t v q h.0, h.1, stands-more xs zs scope env scene q h.2)

  pub stands-and : (xs : List ℕ) (scope : Scope) (env : Env) (scene : Scene) (t : TTy) (v : Value) (c : Cases)
      → Stands xs scope env scene → Means xs t v c → HasType b t c → Stands xs (scope ++ t ∷ []) (env ++ v ∷ []) (scene ++ c ∷ [])
  stands-and xs [] [] [] t v c h k l = (k, l, tt)
  stands-and xs [] [] (e ∷ scene) t v c h k l = absurd h
  stands-and xs [] (w ∷ env) scene t v c h k l = absurd h
  stands-and xs (u ∷ scope) [] scene t v c h k l = absurd h
  stands-and xs (u ∷ scope) (w ∷ env) [] t v c h k l = absurd h
  stands-and xs (u ∷ scope) (w ∷ env) (e ∷ scene) t v c h k l = (h.0, h.1, stands-and xs scope env scene t v c h.2 k l)

  -- ---- principals

  abbrev pub IsWho : List ℕ → Principal → Who → Type 0
  IsWho xs (who.Static n) (static k) = n ≡ k
  IsWho xs (who.Static n) (record_at m u) = ⊥
  IsWho xs (who.Static n) (of_each_kind u) = ⊥
  IsWho xs (who.Rec m id) (static k) = ⊥
  IsWho xs (who.Rec m id) (record_at n u) = (m ≡ n) × IsTermOf xs (base.Id m) (Id id) u
  IsWho xs (who.Rec m id) (of_each_kind u) = ⊥

  pub who-more : (xs zs : List ℕ) (q : Principal) (w : Who) → IsPrefix xs zs → IsWho xs q w → IsWho zs q w
  who-more xs zs (who.Static n) (static k) p h = h
  who-more xs zs (who.Static n) (record_at m u) p h = h
  who-more xs zs (who.Static n) (of_each_kind u) p h = h
  who-more xs zs (who.Rec m id) (static k) p h = h
  who-more xs zs (who.Rec m id) (record_at n u) p h = (h.0, λ ws r. h.1 ws (prefix-along xs zs ws p r))
  who-more xs zs (who.Rec m id) (of_each_kind u) p h = h
