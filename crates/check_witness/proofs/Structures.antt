-- The structure of the database of a structure is that structure.
use Rattle.std.proofs.Common.{◌≡◌, ℕ, suc, ◌<◌, Bool, true, false, not, ◌&&◌, List, [], length, refl, ap, sym, ◌∙◌, arith}
use Rattle.std.specs.Prelude.{Option, Some, None, map, filter, ◌==◌, slice_get, slice_index_or}
use Rattle.std.specs.List.{flat_map, range_with_len, AllByRecursion, list_any}
use Rattle.std.specs.Option.{option_map_or}
use Rattle.type_schema.specs.declared.types.TBase.{TBase}
use Rattle.type_schema.specs.declared.types.TBase.TheVariants as base
use Rattle.type_schema.specs.declared.types.TTy.{TTy}
use Rattle.type_schema.specs.declared.types.TTy.TheVariants.{Plain, Set, Opt}
use Rattle.type_schema.specs.Schema.{ModelInfo, Schema}
use Rattle.type_schema.specs.Proper.{model_numbers}
use Rattle.data_meaning.specs.Values.{Nothing, Just}
use Rattle.data_meaning.specs.Database.{Database, ids_of, field_at}
use Rattle.data_meaning.specs.Meaning.{set_of}
use Rattle.data_meaning.proofs.Agreement.{ap2}
use Rattle.data_meaning.proofs.Tests.{not-true}
use Rattle.form_formula.specs.declared.structure.FunSig.{FunSig}
use Rattle.form_formula.specs.declared.structure.Signature.{Signature}
use Rattle.form_formula.specs.declared.structure.SVal.{SVal}
use Rattle.form_formula.specs.declared.structure.SVal.TheVariants as sval
use Rattle.form_formula.specs.declared.structure.Structure.{Structure}
use Rattle.form_formula.specs.Over.{IsFunction}
use Rattle.form_formula.specs.Truth.{size_of, elements, entry, relates}
use Rattle.form_terms.specs.Structures.{IsValueOf, IsEntryOf}
use Rattle.duty_meaning.specs.Structures.{Place, places_in, is_set, is_optional, functions_of, relations_of, sort_of, function_of, relation_of, base_range, range_of, base_target, target_of, function_signature, relation_signature, element_of, entry_of, entries_of, pairs_of, structure_of}
use Rattle.check_witness.specs.Built.{value_at, built_value, built}
use Rattle.check_witness.specs.Back.{IsBuildable, IsRising, StructuresComeBack, BuiltDatabasesTellTheTruth}
use Rattle.check_witness.proofs.Lists.{all-filter, all-or, all-range, all-recursive, at-map, past-end, map-by-place, map-same, map-twice, map-long, index-at, none-past, flat-next, number-place, range-at, range-long}
use Rattle.check_witness.proofs.Places.{function-stands, relation-stands, function-at, relation-at, passes-at}
use Rattle.check_witness.proofs.Looked.{ids-built, element-built, field-built}
use Rattle.check_witness.proofs.Rising.{Pair, In, all-in, in-any, any-in, one-list, row, rows, related-in, rows-rise, rows-related}
use Rattle.check_witness.proofs.Truths.{same-truth}

abbrev pub signature_at : Schema → ℕ → TTy → FunSig
signature_at s m ty = record { from = sort_of s m; to = range_of s ty; partial = is_optional ty }

pub both-ways : (a b : Bool) → (a ≡ true → b ≡ true) → (b ≡ true → a ≡ true) → a ≡ b
both-ways true b to back = sym (to refl)
both-ways false true to back = back refl
both-ways false false to back = refl

abbrev made : List ℕ → List (List (Option SVal)) → List (List Pair) → Structure
made sizes funs sets = record { sizes = sizes; funs = funs; sets = sets }

module _ (s : Schema) (g : Signature) (st : Structure) (is : IsBuildable s g st) where
  abbrev d : Database
  d = built s st

  pub sizes : length st.sizes ≡ length s.models
  sizes = is.structure.sizes ∙ is.signature.sorts

  pub sizes-back : map (λ m. length (ids_of d m)) (model_numbers s.models) ≡ st.sizes
  sizes-back =
      map-by-place (λ m. length (ids_of d m)) 0 (model_numbers s.models) st.sizes (sizes ∙ sym (map-long (λ (u : ModelInfo). u.number) s.models))
      (λ k m e.
      ap length (ids-built s st sizes m) ∙ range-long (size_of st (sort_of s m)) 1
      ∙ ap (λ n. slice_index_or st.sizes n 0) (number-place (model_numbers s.models) is.models k m e))

  -- ---- functions

  base-back : (b : TBase) (v : SVal) → IsValueOf st (base_range s b) v → entry_of d (base_target b) (value_at v) ≡ Some v
  base-back base.Bool (sval.Rec x) h = absurd h
  base-back base.Bool (sval.Flag b) h = refl
  base-back base.Bool (sval.Num n) h = absurd h
  base-back base.Bool (sval.Str t) h = absurd h
  base-back base.Int (sval.Rec x) h = absurd h
  base-back base.Int (sval.Flag b) h = absurd h
  base-back base.Int (sval.Num n) h = refl
  base-back base.Int (sval.Str t) h = absurd h
  base-back base.Text (sval.Rec x) h = absurd h
  base-back base.Text (sval.Flag b) h = absurd h
  base-back base.Text (sval.Num n) h = absurd h
  base-back base.Text (sval.Str t) h = refl
  base-back (base.Id m) (sval.Rec x) h = ap (λ y. Some (sval.Rec y)) (element-built s st sizes m x h)
  base-back (base.Id m) (sval.Flag b) h = absurd h
  base-back (base.Id m) (sval.Num n) h = absurd h
  base-back (base.Id m) (sval.Str t) h = absurd h

  entry-back : (m f : ℕ) (ty : TTy) (x : ℕ) → is_set ty ≡ false → (o : Option SVal) → entry st (function_of s m f) x ≡ o
      → IsEntryOf st (signature_at s m ty) o → entry_of d (target_of ty) (built_value s st m f ty x) ≡ o
  entry-back m f (Plain b) x plain None here h = cc
  entry-back m f (Plain b) x plain (Some v) here h =
      ap (λ o. entry_of d (base_target b) (option_map_or value_at o Nothing)) here ∙ base-back b v h
  entry-back m f (Set n) x plain o here h = cc
  entry-back m f (Opt b) x plain None here h = ap (λ o. entry_of d (base_target b) (option_map_or (λ v. Just (value_at v)) o Nothing)) here
  entry-back m f (Opt b) x plain (Some v) here h =
      ap (λ o. entry_of d (base_target b) (option_map_or (λ v. Just (value_at v)) o Nothing)) here ∙ base-back b v h

  pub function-there : (k : ℕ) (p : Place) → slice_get (functions_of s) k ≡ Some p → IsFunction g k (function_signature s p)
  function-there k p e = ap (λ funs. slice_get funs k) is.signature.functions ∙ at-map (function_signature s) (functions_of s) k p e

  entries-back : (k : ℕ) (p : Place) → slice_get (functions_of s) k ≡ Some p → entries_of d p ≡ slice_index_or st.funs k []
  entries-back k p e =
      let stands = function-stands s is.models is.fields k p e in
      let n : ℕ = size_of st (sort_of s p.model) in
      let there = function-there k p e in
      let no-set : is_set p.field.ty ≡ false
      = not-true (is_set p.field.ty) (passes-at (λ (u : Place). not (is_set u.field.ty)) (flat_map places_in s.models) k p e) in
      let hold : ℕ → Option SVal = λ id. entry_of d (target_of p.field.ty) (field_at d p.model id p.field.number) in
      ap (map hold) (ids-built s st sizes p.model)
      ∙ map-by-place hold None (range_with_len 1 n) (slice_index_or st.funs k [])
      (is.structure.places k (function_signature s p) there ∙ sym (range-long n 1))
      (λ j id at.
      let one = range-at n 1 j id at in
      let number : id ≡ suc j = omega (arith, one.0) in
      ap hold number
      ∙ ap (entry_of d (target_of p.field.ty)) (field-built s st p.model stands.info p.field j stands.model stands.field one.1)
      ∙ entry-back p.model p.field.number p.field.ty j no-set (slice_index_or (slice_index_or st.funs k []) j None)
      (ap (λ h. entry st h j) (function-at s is.models is.fields k p e)) (is.structure.values k (function_signature s p) j there one.1))

  functions-back : map (entries_of d) (functions_of s) ≡ st.funs
  functions-back =
      map-by-place (entries_of d) [] (functions_of s) st.funs
      (is.structure.functions ∙ ap length is.signature.functions ∙ map-long (function_signature s) (functions_of s)) entries-back

  -- ---- set relations

  set-built : (m f : ℕ) (ty : TTy) (x : ℕ) → is_set ty ≡ true
      → set_of (built_value s st m f ty x) ≡ map suc (filter (relates st (relation_of s m f) x) (elements st (sort_of s (target_of ty))))
  set-built m f (Plain b) x is-set = cc
  set-built m f (Set n) x is-set = refl
  set-built m f (Opt b) x is-set = cc

  relation-there : (k : ℕ) (p : Place) → slice_get (relations_of s) k ≡ Some p → slice_get g.sets k ≡ Some (relation_signature s p)
  relation-there k p e = ap (λ sets. slice_get sets k) is.signature.relations ∙ at-map (relation_signature s) (relations_of s) k p e

  abbrev from-size : Place → ℕ
  from-size p = size_of st (sort_of s p.model)

  abbrev to-size : Place → ℕ
  to-size p = size_of st (sort_of s (target_of p.field.ty))

  row-back : (k : ℕ) (p : Place) → slice_get (relations_of s) k ≡ Some p → (x : ℕ) → x < from-size p
      → map (λ other. (element_of d p.model (suc x), element_of d (target_of p.field.ty) other)) (set_of (field_at d p.model (suc x) p.field.number))
      ≡ row (relates st k) (to-size p) x
  row-back k p e x below =
      let stands = relation-stands s is.models is.fields k p e in
      let is-set : is_set p.field.ty ≡ true = passes-at (λ (u : Place). is_set u.field.ty) (flat_map places_in s.models) k p e in
      let pair : ℕ → Pair = λ other. (element_of d p.model (suc x), element_of d (target_of p.field.ty) other) in
      let members : List ℕ = filter (relates st k x) (range_with_len 0 (to-size p)) in
      ap (λ v. map pair (set_of v)) (field-built s st p.model stands.info p.field x stands.model stands.field below)
      ∙ ap (map pair) (set-built p.model p.field.number p.field.ty x is-set
      ∙ ap (λ r. map suc (filter (relates st r x) (elements st (sort_of s (target_of p.field.ty))))) (relation-at s is.models is.fields k p e))
      ∙ map-twice pair suc members
      ∙ map-same (λ y. pair (suc y)) (λ y. (x, y)) members
      (all-filter (λ y. pair (suc y) ≡ (x, y)) (relates st k x) (range_with_len 0 (to-size p))
      (all-range (λ y. pair (suc y) ≡ (x, y)) (to-size p) 0
      (λ y low high.
      let within : y < to-size p = omega (arith, high) in
      ap2 (λ a b. (a, b)) (element-built s st sizes p.model x below) (element-built s st sizes (target_of p.field.ty) y within))))

  rows-back : (k : ℕ) (p : Place) → slice_get (relations_of s) k ≡ Some p → pairs_of d p ≡ rows (relates st k) (to-size p) 0 (from-size p)
  rows-back k p e =
      let f : ℕ → List Pair = λ id. map (λ other. (element_of d p.model id, element_of d (target_of p.field.ty) other)) (set_of (field_at d p.model id p.field.number)) in
      ap (flat_map f) (ids-built s st sizes p.model)
      ∙ flat-next f (row (relates st k) (to-size p)) (from-size p) 0
      (λ x low high. let below : x < from-size p = omega (arith, high) in row-back k p e x below)

  pair-within : (k : ℕ) (p : Place) → slice_get (relations_of s) k ≡ Some p → (x : Pair) → In (slice_index_or st.sets k []) x
      → (x.0 < from-size p) × (x.1 < to-size p)
  pair-within k p e x i =
      let P : Pair → Type 0 = λ q. (q.0 < from-size p) × (q.1 < to-size p) in
      all-in P (slice_index_or st.sets k []) x
      (all-recursive P (slice_index_or st.sets k []) (is.structure.pairs k (relation_signature s p) (relation-there k p e))) i

  into-rows : (k : ℕ) (p : Place) → slice_get (relations_of s) k ≡ Some p → (x : Pair) → In (slice_index_or st.sets k []) x
      → In (rows (relates st k) (to-size p) 0 (from-size p)) x
  into-rows k p e x i =
      let within = pair-within k p e x i in
      related-in (relates st k) (to-size p) (from-size p) x.0 x.1 within.0 within.1 (in-any (slice_index_or st.sets k []) x.0 x.1 i)

  from-rows : (k : ℕ) (p : Place) → (x : Pair) → In (rows (relates st k) (to-size p) 0 (from-size p)) x → relates st k x.0 x.1 ≡ true
  from-rows k p x i =
      all-in (λ (q : Pair). relates st k q.0 q.1 ≡ true) (rows (relates st k) (to-size p) 0 (from-size p)) x (rows-related (relates st k) (to-size p) (from-size p) 0) i

  pairs-back : AllByRecursion IsRising st.sets → (k : ℕ) (p : Place) → slice_get (relations_of s) k ≡ Some p → pairs_of d p ≡ slice_index_or st.sets k []
  pairs-back rising k p e =
      rows-back k p e
      ∙ one-list (rows (relates st k) (to-size p) 0 (from-size p)) (slice_index_or st.sets k []) (rows-rise (relates st k) (to-size p) (from-size p) 0)
      (all-or IsRising st.sets k [] rising tt)
      (λ x i. any-in (slice_index_or st.sets k []) x.0 x.1 (from-rows k p x i))
      (into-rows k p e)

  relations-back : AllByRecursion IsRising st.sets → map (pairs_of d) (relations_of s) ≡ st.sets
  relations-back rising =
      map-by-place (pairs_of d) [] (relations_of s) st.sets
      (is.structure.relations ∙ ap length is.signature.relations ∙ map-long (relation_signature s) (relations_of s)) (pairs-back rising)

  pub back : AllByRecursion IsRising st.sets → structure_of s d ≡ st
  back rising =
      ap (λ ns. made ns (map (entries_of d) (functions_of s)) (map (pairs_of d) (relations_of s))) sizes-back
      ∙ ap2 (made st.sizes) functions-back (relations-back rising)

  -- ---- in whatever order pairs stand

  related-back : (r x y : ℕ) → relates (structure_of s d) r x y ≡ relates st r x y
  related-back r x y =
      elim (slice_get (relations_of s) r) as (λ (o : Option Place). slice_get (relations_of s) r ≡ o → relates (structure_of s d) r x y ≡ relates st r x y) [
        | None ↦ λ e.
            let past = none-past (relations_of s) r e in
            let same = map-long (pairs_of d) (relations_of s) in
            let long = is.structure.relations ∙ ap length is.signature.relations ∙ map-long (relation_signature s) (relations_of s) in
            ap (list_any (λ (q : Pair). (q.0 == x) && (q.1 == y)))
            (past-end (map (pairs_of d) (relations_of s)) r [] (omega (arith, past, same)) ∙ sym (past-end st.sets r [] (omega (arith, past, long))))
        | Some p ↦ λ e.
            let there : slice_index_or (map (pairs_of d) (relations_of s)) r [] ≡ rows (relates st r) (to-size p) 0 (from-size p)
            = index-at (map (pairs_of d) (relations_of s)) r (pairs_of d p) [] (at-map (pairs_of d) (relations_of s) r p e) ∙ rows-back r p e in
            ap (list_any (λ (q : Pair). (q.0 == x) && (q.1 == y))) there
            ∙ both-ways _ _
            (λ h. from-rows r p (x, y) (any-in (rows (relates st r) (to-size p) 0 (from-size p)) x y h))
            (λ h. in-any (rows (relates st r) (to-size p) 0 (from-size p)) x y (into-rows r p e (x, y) (any-in (slice_index_or st.sets r []) x y h)))
      ] refl

pub come-back : StructuresComeBack
come-back s g st is rising = back s g st is rising

pub tell-the-truth : BuiltDatabasesTellTheTruth
tell-the-truth s g st is env f =
    same-truth (structure_of s (built s st)) st (sizes-back s g st is) (functions-back s g st is) (related-back s g st is) env f
