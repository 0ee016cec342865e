-- What is numbered anew means on the database numbered anew what it meant before.
use Rattle.std.proofs.Common.{◌≡◌, ◌==◌, ℕ, not, ◌&&◌, ◌||◌, List, [], ◌∷◌, ◌++◌, refl, ap, ◌∙◌}
use Rattle.std.specs.Prelude.{Option, Some, None, IsTrue, is_some, if◌then◌else◌, false}
use Rattle.std.specs.List.{list_any}
use Rattle.std.specs.Option.{option_map_or}
use Rattle.type_schema.specs.declared.types.TTy.{TTy}
use Rattle.type_schema.specs.Trees.{Expr, flag, num, str, var, nothing, just, get, equal, iff, less, within, negation, both, either, if_expr, match_expr, SetExpr, everyone, nobody, listed, union, minus, find, path, mapped, flat_mapped, if_set, match_set, Items, no_items, static_item, record_item, Filters, no_filters, filter_and, Policy, to_all, to_none, by_record}
use Rattle.type_schema.specs.Schema.{ModelInfo, Schema, model_of, static_of}
use Rattle.type_schema.specs.Typing.{HasModel, Scope, Content, principals, records, IsExpr, IsSet, AreItems, AreFilters, IsPolicy, MayHold}
use Rattle.data_meaning.specs.declared.principals.Principal.{Principal}
use Rattle.data_meaning.specs.declared.principals.Principal.TheVariants.{Static, Rec}
use Rattle.data_meaning.specs.Values.{Value, Flag, Num, Str, Id, Ids, Nothing, Just}
use Rattle.data_meaning.specs.Database.{Database, ids_of, field_at}
use Rattle.data_meaning.specs.Meaning.{Env, truth_of, id_of, set_of, are_equal, same_truth, is_less, passes, taken_apart, is_record, is_among, is_static, id_of_record, value_of, member, is_listed, meets, allows}
use Rattle.data_meaning.proofs.Agreement.{ap2, any-same}
use Rattle.data_records.specs.Renumbered.{new_field, new_model, renumbered}
use Rattle.type_anew.specs.Policies.{new_static, renumbered_principal, renumbered_expr, renumbered_set, renumbered_items, renumbered_filters, renumbered_policy}
use Rattle.type_anew.proofs.Places.{same-model, same-static}
use Rattle.type_anew.proofs.Lookup.{field-moved, ids-moved}

taken-same : {A : Type 0} (v : Value) (x x' : A) (k k' : Value → A) → x ≡ x' → ((w : Value) → k w ≡ k' w) → taken_apart v x k ≡ taken_apart v x' k'
taken-same (Flag b) x x' k k' p q = p
taken-same (Num n) x x' k k' p q = p
taken-same (Str bytes) x x' k k' p q = p
taken-same (Id id) x x' k k' p q = p
taken-same (Ids ids) x x' k k' p q = p
taken-same Nothing x x' k k' p q = p
taken-same (Just w) x x' k k' p q = q w

module _ (s : Schema) where
  record-same : (m : ℕ) → HasModel s m → (v : Value) (q : Principal) → is_record (new_model s.models m) v (renumbered_principal s q) ≡ is_record m v q
  record-same m has v (Static n) = refl
  record-same m has v (Rec n id) = ap (λ b. b && (id == id_of v)) (same-model s.models n m has)

  among-same : (m : ℕ) → HasModel s m → (ids : List ℕ) (q : Principal) → is_among (new_model s.models m) ids (renumbered_principal s q) ≡ is_among m ids q
  among-same m has ids (Static n) = refl
  among-same m has ids (Rec n id) = ap (λ b. b && list_any (λ i. i == id) ids) (same-model s.models n m has)

  static-same : (n : ℕ) → IsTrue (is_some (static_of s n)) → (q : Principal) → is_static (new_static s n) (renumbered_principal s q) ≡ is_static n q
  static-same n has (Static k) = same-static s k n has
  static-same n has (Rec m id) = refl

  id-same : (q : Principal) → id_of_record (renumbered_principal s q) ≡ id_of_record q
  id-same (Static n) = refl
  id-same (Rec m id) = refl

  held-there : (w : Content) (m : ℕ) → MayHold s w m → HasModel s m
  held-there principals m may = marked (model_of s m) may
    where
      marked : (o : Option ModelInfo) → IsTrue (option_map_or (λ (i : ModelInfo). i.principal) o false) → IsTrue (is_some o)
      marked None may = absurd (cc may)
      marked (Some i) may = refl
  held-there (records n) m may = may.0

module _ (s : Schema) (d : Database) where
  mutual
    value-means : (scope : Scope) (t : TTy) (x : Expr) → IsExpr s scope t x → (env : Env) → value_of (renumbered s d) env (renumbered_expr s x) ≡ value_of d env x
    value-means scope t (flag b) h env = refl
    value-means scope t (num n) h env = refl
    value-means scope t (str bytes) h env = refl
    value-means scope t (var depth name) h env = refl
    value-means scope t nothing h env = refl
    value-means scope t (just x) h env = ap (λ v. Just v) (value-means scope _ x h.2 env)
    value-means scope t (get x m f) h env =
        ap (λ v. field_at (renumbered s d) (new_model s.models m) (id_of v) (new_field s.models m f)) (value-means scope _ x h.1 env)
        ∙ field-moved s d m f (id_of (value_of d env x)) t h.0
    value-means scope t (equal x y op) h env =
        ap2 (λ v w. Flag (are_equal v w)) (value-means scope _ x h.1.2 env) (value-means scope _ y h.1.3 env)
    value-means scope t (iff x y op) h env =
        ap2 (λ v w. Flag (same_truth (truth_of v) (truth_of w))) (value-means scope _ x h.1 env) (value-means scope _ y h.2 env)
    value-means scope t (less x y op) h env =
        ap2 (λ v w. Flag (is_less v w)) (value-means scope _ x h.1 env) (value-means scope _ y h.2 env)
    value-means scope t (within x m set) h env =
        ap (λ v. Flag (member (renumbered s d) env (renumbered_set s set) (Rec (new_model s.models m) (id_of v)))) (value-means scope _ x h.1 env)
        ∙ ap (λ b. Flag b) (member-means scope _ set h.2 env (Rec m (id_of (value_of d env x))))
    value-means scope t (negation x) h env = ap (λ v. Flag (not (truth_of v))) (value-means scope _ x h.1 env)
    value-means scope t (both x y) h env =
        ap2 (λ v w. Flag (truth_of v && truth_of w)) (value-means scope _ x h.1 env) (value-means scope _ y h.2 env)
    value-means scope t (either x y) h env =
        ap2 (λ v w. Flag (truth_of v || truth_of w)) (value-means scope _ x h.1 env) (value-means scope _ y h.2 env)
    value-means scope t (if_expr c x y) h env =
        ap (λ v. if truth_of v then value_of (renumbered s d) env (renumbered_expr s x) else value_of (renumbered s d) env (renumbered_expr s y)) (value-means scope _ c h.0 env)
        ∙ ap2 (λ v w. if truth_of (value_of d env c) then v else w) (value-means scope t x h.1 env) (value-means scope t y h.2 env)
    value-means scope t (match_expr x y name z) h env =
        ap (λ v. taken_apart v (value_of (renumbered s d) env (renumbered_expr s y)) (λ w. value_of (renumbered s d) (env ++ w ∷ []) (renumbered_expr s z))) (value-means scope _ x h.1 env)
        ∙ taken-same (value_of d env x) _ _ _ _ (value-means scope t y h.2 env) (λ w. value-means _ t z h.3 (env ++ w ∷ []))

    member-means : (scope : Scope) (w : Content) (x : SetExpr) → IsSet s scope w x → (env : Env) (q : Principal)
        → member (renumbered s d) env (renumbered_set s x) (renumbered_principal s q) ≡ member d env x q
    member-means scope w everyone h env q = refl
    member-means scope w nobody h env q = refl
    member-means scope w (listed items) h env q = listed-means scope w items h env q
    member-means scope w (union x y) h env q = ap2 (λ u v. u || v) (member-means scope w x h.0 env q) (member-means scope w y h.1 env q)
    member-means scope w (minus x y) h env q = ap2 (λ u v. u && not v) (member-means scope w x h.0 env q) (member-means scope w y h.1 env q)
    member-means scope w (find m filters) h env q =
        ap2 (λ u v. u && v)
        (ap (λ ids. is_among (new_model s.models m) ids (renumbered_principal s q)) (ids-moved s d m h.1) ∙ among-same s m h.1 (ids_of d m) q)
        (ap (meets (renumbered s d) env (new_model s.models m) (renumbered_filters s m filters)) (id-same s q) ∙ meets-means scope m filters h.2 env (id_of_record q))
    member-means scope w (path m x) h env q =
        ap (λ v. is_among (new_model s.models m) (set_of v) (renumbered_principal s q)) (value-means scope _ x h.1 env)
        ∙ among-same s m (held-there s w m h.0) (set_of (value_of d env x)) q
    member-means scope w (mapped set n name m x) h env q =
        ap (list_any (λ y. member (renumbered s d) env (renumbered_set s set) (Rec (new_model s.models n) y)
        && is_record (new_model s.models m) (value_of (renumbered s d) (env ++ Id y ∷ []) (renumbered_expr s x)) (renumbered_principal s q))) (ids-moved s d n h.1)
        ∙ any-same _ _ (ids_of d n) (λ y.
        ap2 (λ u v. u && v) (member-means scope _ set h.2 env (Rec n y))
        (ap (λ v. is_record (new_model s.models m) v (renumbered_principal s q)) (value-means _ _ x h.3 (env ++ Id y ∷ []))
        ∙ record-same s m (held-there s w m h.0) (value_of d (env ++ Id y ∷ []) x) q))
    member-means scope w (flat_mapped set n name body) h env q =
        ap (list_any (λ y. member (renumbered s d) env (renumbered_set s set) (Rec (new_model s.models n) y)
        && member (renumbered s d) (env ++ Id y ∷ []) (renumbered_set s body) (renumbered_principal s q))) (ids-moved s d n h.0)
        ∙ any-same _ _ (ids_of d n) (λ y.
        ap2 (λ u v. u && v) (member-means scope _ set h.1 env (Rec n y)) (member-means _ w body h.2 (env ++ Id y ∷ []) q))
    member-means scope w (if_set c x y) h env q =
        ap (λ v. if truth_of v then member (renumbered s d) env (renumbered_set s x) (renumbered_principal s q) else member (renumbered s d) env (renumbered_set s y) (renumbered_principal s q)) (value-means scope _ c h.0 env)
        ∙ ap2 (λ u v. if truth_of (value_of d env c) then u else v) (member-means scope w x h.1 env q) (member-means scope w y h.2 env q)
    member-means scope w (match_set x y name z) h env q =
        ap (λ v. taken_apart v (member (renumbered s d) env (renumbered_set s y) (renumbered_principal s q)) (λ u. member (renumbered s d) (env ++ u ∷ []) (renumbered_set s z) (renumbered_principal s q))) (value-means scope _ x h.1 env)
        ∙ taken-same (value_of d env x) _ _ _ _ (member-means scope w y h.2 env q) (λ u. member-means _ w z h.3 (env ++ u ∷ []) q)

    listed-means : (scope : Scope) (w : Content) (x : Items) → AreItems s scope w x → (env : Env) (q : Principal)
        → is_listed (renumbered s d) env (renumbered_items s x) (renumbered_principal s q) ≡ is_listed d env x q
    listed-means scope w no_items h env q = refl
    listed-means scope w (static_item n items) h env q = ap2 (λ u v. u || v) (static-same s n h.1 q) (listed-means scope w items h.2 env q)
    listed-means scope w (record_item m x items) h env q =
        ap2 (λ u v. u || v)
        (ap (λ v. is_record (new_model s.models m) v (renumbered_principal s q)) (value-means scope _ x h.1 env) ∙ record-same s m (held-there s w m h.0) (value_of d env x) q)
        (listed-means scope w items h.2 env q)

    meets-means : (scope : Scope) (m : ℕ) (x : Filters) → AreFilters s scope m x → (env : Env) (id : ℕ)
        → meets (renumbered s d) env (new_model s.models m) (renumbered_filters s m x) id ≡ meets d env m x id
    meets-means scope m no_filters h env id = refl
    meets-means scope m (filter_and f op x filters) h env id =
        ap2 (λ u v. u && v)
        (ap2 (λ u v. passes op u v) (field-moved s d m f id h.0.0 h.0.2) (value-means scope _ x h.0.4 env))
        (meets-means scope m filters h.1 env id)

  pub policy-means : (m : ℕ) (p : Policy) → IsPolicy s m p → (id : ℕ) (q : Principal) → allows (renumbered s d) (renumbered_policy s p) id (renumbered_principal s q) ≡ allows d p id q
  policy-means m to_all h id q = refl
  policy-means m to_none h id q = refl
  policy-means m (by_record name set) h id q = member-means _ _ set h (Id id ∷ []) q
