-- Databases that agree on the fields and models of a schema give what is typed over it the same meaning.
use Rattle.std.proofs.Common.{◌≡◌, ℕ, Bool, not, ◌&&◌, ◌||◌, List, [], ◌∷◌, ◌++◌, refl, ap, ◌∙◌}
use Rattle.std.specs.Prelude.{Some, if◌then◌else◌}
use Rattle.std.specs.List.{list_any}
use Rattle.type_schema.specs.declared.types.TTy.{TTy}
use Rattle.type_schema.specs.Trees.{Expr, flag, num, str, var, nothing, just, get, equal, iff, less, within, negation, both, either, if_expr, match_expr, SetExpr, everyone, nobody, listed, union, minus, find, path, mapped, flat_mapped, if_set, match_set, Items, no_items, static_item, record_item, Filters, no_filters, filter_and, Policy, to_all, to_none, by_record}
use Rattle.type_schema.specs.Schema.{Schema, type_of}
use Rattle.type_schema.specs.Typing.{HasModel, Scope, Content, IsExpr, IsSet, AreItems, AreFilters, IsPolicy}
use Rattle.data_meaning.specs.declared.principals.Principal.{Principal}
use Rattle.data_meaning.specs.declared.principals.Principal.TheVariants.{Rec}
use Rattle.data_meaning.specs.Values.{Value, Flag, Num, Str, Id, Ids, Nothing, Just}
use Rattle.data_meaning.specs.Database.{Database, ids_of, field_at}
use Rattle.data_meaning.specs.Meaning.{Env, truth_of, id_of, set_of, are_equal, same_truth, is_less, passes, taken_apart, is_record, is_among, is_static, id_of_record, value_of, member, is_listed, meets, allows}

pub record Agree (s : Schema) (d e : Database) : Type 0 where
  pub fields : (m f id : ℕ) (t : TTy) → type_of s m f ≡ Some t → field_at d m id f ≡ field_at e m id f
  pub models : (m : ℕ) → HasModel s m → ids_of d m ≡ ids_of e m

pub ap2 : {A B C : Type 0} (f : A → B → C) {a a' : A} {b b' : B} → a ≡ a' → b ≡ b' → f a b ≡ f a' b'
ap2 f {a} {a'} {b} {b'} p q = ap (λ x. f x b) p ∙ ap (λ y. f a' y) q

taken-same : {A : Type 0} (v : Value) (x x' : A) (k k' : Value → A) → x ≡ x' → ((w : Value) → k w ≡ k' w) → taken_apart v x k ≡ taken_apart v x' k'
taken-same (Flag b) x x' k k' p q = p
taken-same (Num n) x x' k k' p q = p
taken-same (Str bytes) x x' k k' p q = p
taken-same (Id id) x x' k k' p q = p
taken-same (Ids ids) x x' k k' p q = p
taken-same Nothing x x' k k' p q = p
taken-same (Just w) x x' k k' p q = q w

pub any-same : {A : Type 0} (p p' : A → Bool) (xs : List A) → ((x : A) → p x ≡ p' x) → list_any p xs ≡ list_any p' xs
any-same p p' [] e = refl
any-same p p' (x ∷ xs) e = ap2 (λ a b. a || b) (e x) (any-same p p' xs e)

module _ (s : Schema) (d e : Database) (a : Agree s d e) where
  mutual
    same-value : (scope : Scope) (t : TTy) (x : Expr) → IsExpr s scope t x → (env : Env) → value_of d env x ≡ value_of e env x
    same-value scope t (flag b) h env = refl
    same-value scope t (num n) h env = refl
    same-value scope t (str bytes) h env = refl
    same-value scope t (var depth name) h env = refl
    same-value scope t nothing h env = refl
    same-value scope t (just x) h env = ap (λ v. Just v) (same-value scope _ x h.2 env)
    same-value scope t (get x m f) h env =
        ap (λ v. field_at d m (id_of v) f) (same-value scope _ x h.1 env) ∙ a.fields m f (id_of (value_of e env x)) t h.0
    same-value scope t (equal x y op) h env =
        ap2 (λ v w. Flag (are_equal v w)) (same-value scope _ x h.1.2 env) (same-value scope _ y h.1.3 env)
    same-value scope t (iff x y op) h env =
        ap2 (λ v w. Flag (same_truth (truth_of v) (truth_of w))) (same-value scope _ x h.1 env) (same-value scope _ y h.2 env)
    same-value scope t (less x y op) h env =
        ap2 (λ v w. Flag (is_less v w)) (same-value scope _ x h.1 env) (same-value scope _ y h.2 env)
    same-value scope t (within x m set) h env =
        ap (λ v. Flag (member d env set (Rec m (id_of v)))) (same-value scope _ x h.1 env)
        ∙ ap (λ b. Flag b) (same-member scope _ set h.2 env (Rec m (id_of (value_of e env x))))
    same-value scope t (negation x) h env = ap (λ v. Flag (not (truth_of v))) (same-value scope _ x h.1 env)
    same-value scope t (both x y) h env =
        ap2 (λ v w. Flag (truth_of v && truth_of w)) (same-value scope _ x h.1 env) (same-value scope _ y h.2 env)
    same-value scope t (either x y) h env =
        ap2 (λ v w. Flag (truth_of v || truth_of w)) (same-value scope _ x h.1 env) (same-value scope _ y h.2 env)
    same-value scope t (if_expr c x y) h env =
        ap (λ v. if truth_of v then value_of d env x else value_of d env y) (same-value scope _ c h.0 env)
        ∙ ap2 (λ v w. if truth_of (value_of e env c) then v else w) (same-value scope t x h.1 env) (same-value scope t y h.2 env)
    same-value scope t (match_expr x y name z) h env =
        ap (λ v. taken_apart v (value_of d env y) (λ w. value_of d (env ++ w ∷ []) z)) (same-value scope _ x h.1 env)
        ∙ taken-same (value_of e env x) _ _ _ _ (same-value scope t y h.2 env) (λ w. same-value _ t z h.3 (env ++ w ∷ []))

    same-member : (scope : Scope) (w : Content) (x : SetExpr) → IsSet s scope w x → (env : Env) (q : Principal) → member d env x q ≡ member e env x q
    same-member scope w everyone h env q = refl
    same-member scope w nobody h env q = refl
    same-member scope w (listed items) h env q = same-listed scope w items h env q
    same-member scope w (union x y) h env q = ap2 (λ u v. u || v) (same-member scope w x h.0 env q) (same-member scope w y h.1 env q)
    same-member scope w (minus x y) h env q = ap2 (λ u v. u && not v) (same-member scope w x h.0 env q) (same-member scope w y h.1 env q)
    same-member scope w (find m filters) h env q =
        ap2 (λ u v. u && v) (ap (λ ids. is_among m ids q) (a.models m h.1)) (same-meets scope m filters h.2 env (id_of_record q))
    same-member scope w (path m x) h env q = ap (λ v. is_among m (set_of v) q) (same-value scope _ x h.1 env)
    same-member scope w (mapped set n name m x) h env q =
        ap (list_any (λ y. member d env set (Rec n y) && is_record m (value_of d (env ++ Id y ∷ []) x) q)) (a.models n h.1)
        ∙ any-same _ _ (ids_of e n) (λ y.
        ap2 (λ u v. u && is_record m v q) (same-member scope _ set h.2 env (Rec n y)) (same-value _ _ x h.3 (env ++ Id y ∷ [])))
    same-member scope w (flat_mapped set n name body) h env q =
        ap (list_any (λ y. member d env set (Rec n y) && member d (env ++ Id y ∷ []) body q)) (a.models n h.0)
        ∙ any-same _ _ (ids_of e n) (λ y.
        ap2 (λ u v. u && v) (same-member scope _ set h.1 env (Rec n y)) (same-member _ w body h.2 (env ++ Id y ∷ []) q))
    same-member scope w (if_set c x y) h env q =
        ap (λ v. if truth_of v then member d env x q else member d env y q) (same-value scope _ c h.0 env)
        ∙ ap2 (λ u v. if truth_of (value_of e env c) then u else v) (same-member scope w x h.1 env q) (same-member scope w y h.2 env q)
    same-member scope w (match_set x y name z) h env q =
        ap (λ v. taken_apart v (member d env y q) (λ u. member d (env ++ u ∷ []) z q)) (same-value scope _ x h.1 env)
        ∙ taken-same (value_of e env x) _ _ _ _ (same-member scope w y h.2 env q) (λ u. same-member _ w z h.3 (env ++ u ∷ []) q)

    same-listed : (scope : Scope) (w : Content) (x : Items) → AreItems s scope w x → (env : Env) (q : Principal) → is_listed d env x q ≡ is_listed e env x q
    same-listed scope w no_items h env q = refl
    same-listed scope w (static_item n items) h env q = ap (λ b. is_static n q || b) (same-listed scope w items h.2 env q)
    same-listed scope w (record_item m x items) h env q =
        ap2 (λ v b. is_record m v q || b) (same-value scope _ x h.1 env) (same-listed scope w items h.2 env q)

    same-meets : (scope : Scope) (m : ℕ) (x : Filters) → AreFilters s scope m x → (env : Env) (id : ℕ) → meets d env m x id ≡ meets e env m x id
    same-meets scope m no_filters h env id = refl
    same-meets scope m (filter_and f op x filters) h env id =
        ap (λ u. passes op u (value_of d env x) && meets d env m filters id) (a.fields m f id h.0.0 h.0.2)
        ∙ ap2 (λ v b. passes op (field_at e m id f) v && b) (same-value scope _ x h.0.4 env) (same-meets scope m filters h.1 env id)

  pub same-allows : (m : ℕ) (p : Policy) → IsPolicy s m p → (id : ℕ) (q : Principal) → allows d p id q ≡ allows e p id q
  same-allows m to_all h id q = refl
  same-allows m to_none h id q = refl
  same-allows m (by_record name set) h id q = same-member _ _ set h (Id id ∷ []) q
