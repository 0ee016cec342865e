-- The steps of loops over items, filters and ids, and the sets that are mapped.
use Rattle.std.proofs.Common.{◌≡◌, ℕ, ◌≤◌, Bool, true, false, ◌||◌, ◌&&◌, List, [], ◌∷◌, ◌++◌, refl, ap, sym, ◌∙◌, cond, subst, length, map, take}
use Rattle.std.specs.Prelude.{filter, Result, IfOk}
use Rattle.std.specs.List.{list_any}
use Rattle.std.proofs.lemmas.List.{take_all}
use Rattle.type_schema.specs.declared.trees.TExpr.{TExpr}
use Rattle.type_schema.specs.declared.trees.TSet.{TSet}
use Rattle.type_schema.specs.declared.trees.TSet.TheVariants as s
use Rattle.type_schema.specs.Views.{expr_of, set_of}
use Rattle.data_meaning.specs.declared.principals.Principal.{Principal}
use Rattle.data_meaning.specs.declared.principals.Principal.TheVariants.{Rec}
use Rattle.data_meaning.specs.Values.{Id}
use Rattle.data_meaning.specs.Database.{Record, Database, records_of, ids_of}
use Rattle.data_records.specs.declared.record.Record as code_record
use Rattle.data_records.specs.Views.{record_data}
use Rattle.data_meaning.specs.Meaning.{Env, value_of, member, is_record}
use Rattle.data_members.proofs.Levels.{MapS_is, FlatS_is}

pub any-filtered : {A : Type 0} (p q : A → Bool) (xs : List A) → list_any q (filter p xs) ≡ list_any (λ x. p x && q x) xs
any-filtered p q [] = refl
any-filtered {A} p q (x ∷ xs) =
    elim (p x) as (λ (b : Bool). list_any q (cond b (x ∷ filter p xs) (filter p xs)) ≡ ((b && q x) || list_any (λ y. p y && q y) xs)) [
      | true ↦ ap (λ z. q x || z) (any-filtered p q xs)
      | false ↦ any-filtered p q xs
    ]

pub ids-seen : (rs : List code_record.Record) → map (λ (r : Record). r.id) (map record_data rs) ≡ map (λ r. r.id) rs
ids-seen [] = refl
ids-seen (r ∷ rs) = ap (λ ids. r.id ∷ ids) (ids-seen rs)

module _ (d : Database) (env : Env) where
  abbrev sources : TSet → ℕ → List ℕ
  sources set n = filter (λ y. member d env (set_of set) (Rec n y)) (ids_of d n)

  -- all ids of the model are gone through
  pub within-done : (set : TSet) (m : ℕ) (found : List ℕ) (rs : List code_record.Record) (i : ℕ)
      → found ≡ filter (λ y. member d env (set_of set) (Rec m y)) (map (λ r. r.id) (take i rs)) → length rs ≤ i → map record_data rs ≡ records_of d m
      → found ≡ filter (λ y. member d env (set_of set) (Rec m y)) (ids_of d m)
  within-done set m found rs i so_far all same =
      let ids : map (λ r. r.id) (take i rs) ≡ ids_of d m = ap (map (λ r. r.id)) (take_all i rs all) ∙ sym (ids-seen rs) ∙ ap (map (λ (r : Record). r.id)) same in
      so_far ∙ ap (filter (λ y. member d env (set_of set) (Rec m y))) ids

  pub mapped-from : {E : Type 0} (who : Principal) (inner source whole : TSet) (n : ℕ) (x : List ℕ) (m : ℕ) (e : TExpr) (ids : List ℕ) (r : Result Bool E)
      → inner ≡ source → whole ≡ s.MapS source n x m e → ids ≡ filter (λ y. member d env (set_of inner) (Rec n y)) (ids_of d n)
      → IfOk r (λ b. b ≡ list_any (λ y. is_record m (value_of d (env ++ Id y ∷ []) (expr_of e)) who) ids)
      → IfOk r (λ b. b ≡ member d env (set_of whole) who)
  mapped-from who inner source whole n x m e ids r same is found h =
      let image : ℕ → Bool = λ y. is_record m (value_of d (env ++ Id y ∷ []) (expr_of e)) who in
      let goes : list_any image ids ≡ member d env (set_of whole) who
      = ap (list_any image) (found ∙ ap (λ u. sources u n) same) ∙ any-filtered (λ y. member d env (set_of source) (Rec n y)) image (ids_of d n)
      ∙ sym (ap (λ u. member d env u who) (ap set_of is ∙ MapS_is source n x m e)) in
      subst (λ z. IfOk r (λ b. b ≡ z)) goes h

  pub flat_mapped-from : {E : Type 0} (who : Principal) (inner source inner_body body whole : TSet) (n : ℕ) (x : List ℕ) (ids : List ℕ) (r : Result Bool E)
      → inner ≡ source → inner_body ≡ body → whole ≡ s.FlatS source n x body → ids ≡ filter (λ y. member d env (set_of inner) (Rec n y)) (ids_of d n)
      → IfOk r (λ b. b ≡ list_any (λ y. member d (env ++ Id y ∷ []) (set_of inner_body) who) ids)
      → IfOk r (λ b. b ≡ member d env (set_of whole) who)
  flat_mapped-from who inner source inner_body body whole n x ids r same same_body is found h =
      let image : TSet → ℕ → Bool = λ u y. member d (env ++ Id y ∷ []) (set_of u) who in
      let goes : list_any (image inner_body) ids ≡ member d env (set_of whole) who
      = ap (λ u. list_any (image u) ids) same_body ∙ ap (list_any (image body)) (found ∙ ap (λ u. sources u n) same)
      ∙ any-filtered (λ y. member d env (set_of source) (Rec n y)) (image body) (ids_of d n)
      ∙ sym (ap (λ u. member d env u who) (ap set_of is ∙ FlatS_is source n x body)) in
      subst (λ z. IfOk r (λ b. b ≡ z)) goes h
