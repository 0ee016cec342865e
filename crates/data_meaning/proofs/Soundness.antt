-- A well typed expression has a value of its type.
use Rattle.std.proofs.Common.{◌≡◌, ℕ, zero, suc, Bool, true, false, [], ◌∷◌, ◌++◌, refl, sym, subst, inl, inr}
use Rattle.std.specs.Prelude.{Some, slice_get, slice_index_or, if◌then◌else◌}
use Rattle.type_schema.specs.declared.types.TBase.{TBase}
use Rattle.type_schema.specs.declared.types.TBase.TheVariants as base
use Rattle.type_schema.specs.declared.types.TTy.{TTy}
use Rattle.type_schema.specs.declared.types.TTy.TheVariants.{Plain, Opt}
use Rattle.type_schema.specs.Trees.{Expr, flag, num, str, var, nothing, just, get, equal, iff, less, within, negation, both, either, if_expr, match_expr}
use Rattle.type_schema.specs.Schema.{Schema}
use Rattle.type_schema.specs.Typing.{Scope, IsExpr}
use Rattle.data_meaning.specs.Values.{Value, Flag, Num, Str, Id, Nothing, Just, ids_in}
use Rattle.data_meaning.specs.Database.{Database, IsDatabase, IsBaseIntact, AreThere, field_at}
use Rattle.data_meaning.proofs.Lookup.{typed}
use Rattle.data_meaning.specs.Meaning.{Env, truth_of, id_of, taken_apart, value_of}
use Rattle.data_meaning.specs.Sound.{IsHeld, AreHeld, ValuesAreTyped}

pub held-more : (d : Database) (scope : Scope) (env : Env) (t : TTy) (v : Value) → AreHeld d scope env → IsHeld d t v → AreHeld d (scope ++ t ∷ []) (env ++ v ∷ [])
held-more d [] [] t v h k = (k, tt)
held-more d [] (w ∷ env) t v h k = absurd h
held-more d (u ∷ scope) [] t v h k = absurd h
held-more d (u ∷ scope) (w ∷ env) t v h k = (h.0, held-more d scope env t v h.1 k)

pub held-at : (d : Database) (scope : Scope) (env : Env) (depth : ℕ) (t : TTy) → AreHeld d scope env → slice_get scope depth ≡ Some t
    → IsHeld d t (slice_index_or env depth Nothing)
held-at d [] [] depth t h e = cc
held-at d [] (v ∷ env) depth t h e = absurd h
held-at d (u ∷ scope) [] depth t h e = absurd h
held-at d (u ∷ scope) (v ∷ env) zero t h e = let same : u ≡ t = cc in subst (λ (k : TTy). IsHeld d k v) same h.0
held-at d (u ∷ scope) (v ∷ env) (suc depth) t h e = held-at d scope env depth t h.1 e

held-flag : (d : Database) (t : TTy) (b : Bool) → t ≡ Plain base.Bool → IsHeld d t (Flag b)
held-flag d t b e = subst (λ (k : TTy). IsHeld d k (Flag b)) (sym e) ((b, refl), tt)

held-branch : (d : Database) (t : TTy) (b : Bool) (v w : Value) → IsHeld d t v → IsHeld d t w → IsHeld d t (if b then v else w)
held-branch d t true v w h k = h
held-branch d t false v w h k = k

-- the value in an option
held-taken : (d : Database) (b : TBase) (t : TTy) (u v : Value) (w : Value → Value) → IsHeld d (Opt b) u → IsHeld d t v
    → ((x : Value) → IsHeld d (Plain b) x → IsHeld d t (w x)) → IsHeld d t (taken_apart u v w)
held-taken d b t u v w h none some =
    elim h.0 [
      | inl is ↦ subst (λ (k : Value). IsHeld d t (taken_apart k v w)) (sym is) none
      | inr is ↦
          let intact : IsBaseIntact d b (ids_in is.0) = subst (λ (k : Value). IsBaseIntact d b (ids_in k)) is.1 h.1 in
          subst (λ (k : Value). IsHeld d t (taken_apart k v w)) (sym is.1) (some is.0 (is.2, intact))
    ]

module _ (s : Schema) (d : Database) (is : IsDatabase s d) where
  pub held : (x : Expr) (scope : Scope) (env : Env) → AreHeld d scope env → (t : TTy) → IsExpr s scope t x → IsHeld d t (value_of d env x)
  held (flag b) scope env h t e = held-flag d t b e
  held (num n) scope env h t e = subst (λ (k : TTy). IsHeld d k (Num n)) (sym e.0) ((n, refl, e.1), tt)
  held (str bytes) scope env h t e = subst (λ (k : TTy). IsHeld d k (Str bytes)) (sym e.0) ((bytes, refl, e.1), tt)
  held (var depth name) scope env h t e = held-at d scope env depth t h e
  held nothing scope env h t e = subst (λ (k : TTy). IsHeld d k Nothing) (sym e.1) (inl refl, none-intact e.0)
    where
      none-intact : (b : TBase) → IsBaseIntact d b []
      none-intact base.Bool = tt
      none-intact base.Int = tt
      none-intact base.Text = tt
      none-intact (base.Id m) = tt
  held (just x) scope env h t e =
      let one = held x scope env h (Plain e.0) e.2 in
      subst (λ (k : TTy). IsHeld d k (Just (value_of d env x))) (sym e.1) (inr (value_of d env x, refl, one.0), one.1)
  held (get x m f) scope env h t e =
      let one = held x scope env h (Plain (base.Id m)) e.1 in
      let value : value_of d env x ≡ Id one.0.0 = one.0.1 in
      let there : AreThere d m (one.0.0 ∷ []) = subst (λ (v : Value). AreThere d m (ids_in v)) value one.1 in
      subst (λ (v : Value). IsHeld d t (field_at d m (id_of v) f)) (sym value) (typed s d is m f one.0.0 t e.0 there.0)
  held (equal a b op) scope env h t e = held-flag d t _ e.0
  held (iff a b op) scope env h t e = held-flag d t _ e.0
  held (less a b op) scope env h t e = held-flag d t _ e.0
  held (within x m set) scope env h t e = held-flag d t _ e.0
  held (negation x) scope env h t e = held-flag d t _ e.0
  held (both a b) scope env h t e = held-flag d t _ e.0
  held (either a b) scope env h t e = held-flag d t _ e.0
  held (if_expr c a b) scope env h t e =
      held-branch d t (truth_of (value_of d env c)) _ _ (held a scope env h t e.1) (held b scope env h t e.2)
  held (match_expr x a name b) scope env h t e =
      held-taken d e.0 t (value_of d env x) (value_of d env a) (λ v. value_of d (env ++ v ∷ []) b) (held x scope env h (Opt e.0) e.1) (held a scope env h t e.2)
      (λ v k. held b (scope ++ Plain e.0 ∷ []) (env ++ v ∷ []) (held-more d scope env (Plain e.0) v h k) t e.3)

pub values-typed : ValuesAreTyped
values-typed s d is scope env h t x e = held s d is x scope env h t e
