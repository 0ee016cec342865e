-- The structure of a start database has what the signature names.
use Rattle.std.proofs.Common.{◌≡◌, ℕ, zero, suc, ◌<◌, Bool, true, false, not, ◌||◌, List, [], ◌∷◌, length, refl, ap, sym, ◌∙◌, subst, arith, cond, inl, inr}
use Rattle.std.specs.Prelude.{Option, Some, None, map, filter, ◌==◌, slice_get, slice_index_or, flat_map}
use Rattle.std.specs.List.{list_any, All, AllByRecursion}
use Rattle.std.proofs.lemmas.Bool.{eq-eqb}
use Rattle.std.proofs.lemmas.List.{length-map}
use Rattle.std.proofs.lemmas.List.Elements.{All-nil, All-cons, All-append}
use Rattle.type_schema.specs.declared.types.TBase.{TBase}
use Rattle.type_schema.specs.declared.types.TBase.TheVariants as base
use Rattle.type_schema.specs.declared.types.TTy.{TTy}
use Rattle.type_schema.specs.declared.types.TTy.TheVariants.{Plain, Set, Opt}
use Rattle.type_schema.specs.Schema.{Schema}
use Rattle.type_schema.specs.Typing.{HasModel, IsBase, IsType}
use Rattle.type_schema.specs.Proper.{model_numbers}
use Rattle.type_schema.specs.Script.{Script, IsScript}
use Rattle.data_meaning.specs.Values.{Value, IsBaseValueOf, IsValueOf, ids_in}
use Rattle.data_meaning.specs.Database.{Database, ids_of, has_record, field_at, AreThere, IsBaseIntact, IsIntact}
use Rattle.data_meaning.proofs.Lookup.{typed}
use Rattle.data_meaning.specs.Meaning.{set_of}
use Rattle.data_meaning.specs.Gain.{IsStart}
use Rattle.form_formula.specs.declared.structure.FunSig.{FunSig}
use Rattle.form_formula.specs.declared.structure.SetSig.{SetSig}
use Rattle.form_formula.specs.declared.structure.Signature.{Signature}
use Rattle.form_formula.specs.declared.structure.SVal.{SVal}
use Rattle.form_formula.specs.declared.structure.SVal.TheVariants as sval
use Rattle.form_formula.specs.declared.structure.Structure.{Structure}
use Rattle.form_formula.specs.Truth.{size_of, entry}
use Rattle.form_terms.specs.Structures as shape
use Rattle.duty_meaning.specs.Structures.{before, Place, places_in, is_set, functions_of, relations_of, sort_of, base_range, range_of, base_target, is_optional, target_of, function_signature, relation_signature, element_of, entry_of, entries_of, pairs_of, structure_of}
use Rattle.duty_meaning.specs.Over.{IsSignatureOf}
use Rattle.duty_meaning.specs.Shapes.{StructuresAreOver, UnsatisfiedSecure}
use Rattle.duty_meaning.proofs.Starting.{sorted}
use Rattle.duty_meaning.proofs.Failing.{secure_where_false}
use Rattle.duty_meaning.proofs.Fitting.{numbers-length, HasType, IsThere, start-places}

-- ---- lists

kept-all : {X : Type 0} (P : X → Type 0) (keep : X → Bool) (xs : List X) → AllByRecursion P xs → AllByRecursion (λ x. P x × (keep x ≡ true)) (filter keep xs)
kept-all P keep [] h = tt
kept-all {X} P keep (x ∷ xs) h =
    let rest = kept-all P keep xs h.1 in
    elim (keep x) as (λ (u : Bool). keep x ≡ u → AllByRecursion (λ y. P y × (keep y ≡ true)) (cond u (x ∷ filter keep xs) (filter keep xs))) [
      | true ↦ λ here. ((h.0, here), rest)
      | false ↦ λ here. rest
    ] refl

-- what stands at a place of two lists that are made of one
record At {X Y Z : Type 0} (P : X → Type 0) (g : X → Y) (h : X → Z) (xs : List X) (k : ℕ) (y : Y) (z : Z) : Type 0 where
  pub item : X
  pub passes : P item
  pub first : g item ≡ y
  pub second : slice_index_or (map h xs) k z ≡ h item

at-place : {X Y Z : Type 0} (P : X → Type 0) (g : X → Y) (h : X → Z) (xs : List X) → AllByRecursion P xs → (k : ℕ) (y : Y) (z : Z) → slice_get (map g xs) k ≡ Some y → At P g h xs k y z
at-place P g h [] all k y z e = cc
at-place P g h (x ∷ xs) all zero y z e = record { item = x; passes = all.0; first = (let same : g x ≡ y = cc in same); second = refl }
at-place P g h (x ∷ xs) all (suc k) y z e =
    let rest = at-place P g h xs all.1 k y z e in
    record { item = rest.item; passes = rest.passes; first = rest.first; second = rest.second }

-- the record that is an element
record Element {Z : Type 0} (h : ℕ → Z) (ids : List ℕ) (x : ℕ) (z : Z) : Type 0 where
  pub id : ℕ
  pub there : list_any (λ i. i == id) ids ≡ true
  pub held : slice_index_or (map h ids) x z ≡ h id

element-at : {Z : Type 0} (h : ℕ → Z) (ids : List ℕ) (x : ℕ) (z : Z) → x < length ids → Element h ids x z
element-at h [] x z less = absurd (omega (arith, less))
element-at h (i ∷ ids) zero z less = record { id = i; there = ap (λ u. u || list_any (λ j. j == i) ids) (eq-eqb i i refl); held = refl }
element-at h (i ∷ ids) (suc x) z less =
    let rest = element-at h ids x z (omega (arith, less)) in
    record {
      id = rest.id;
      there = elim (i == rest.id) as (λ (u : Bool). (u || list_any (λ j. j == rest.id) ids) ≡ true) [ true ↦ refl | false ↦ rest.there ];
      held = rest.held;
    }

any-before : (id : ℕ) (ids : List ℕ) → list_any (λ i. i == id) ids ≡ true → before (λ i. i == id) ids < length ids
any-before id [] h = cc
any-before id (i ∷ ids) h =
    elim (i == id) as (λ (u : Bool). (u || list_any (λ j. j == id) ids) ≡ true → cond u 0 (suc (before (λ j. j == id) ids)) < suc (length ids)) [
      | true ↦ λ e. omega arith
      | false ↦ λ e. let less = any-before id ids e in omega (arith, less)
    ] h

all-flat : {X : Type 0} (P : X → Type 0) (f : ℕ → List X) (all ids : List ℕ) → ((id : ℕ) → list_any (λ i. i == id) ids ≡ true → list_any (λ i. i == id) all ≡ true)
    → ((id : ℕ) → list_any (λ i. i == id) all ≡ true → All P (f id)) → All P (flat_map f ids)
all-flat P f all [] among each = All-nil P
all-flat P f all (i ∷ ids) among each =
    All-append P (f i) (flat_map f ids) (each i (among i (ap (λ u. u || list_any (λ j. j == i) ids) (eq-eqb i i refl))))
    (all-flat P f all ids
    (λ id h. among id (elim (i == id) as (λ (u : Bool). (u || list_any (λ j. j == id) ids) ≡ true) [ true ↦ refl | false ↦ h ]))
    each)

-- ---- values

module _ (b : Schema) (d : Database) (sizes : (m : ℕ) → HasModel b m → size_of (structure_of b d) (sort_of b m) ≡ length (ids_of d m)) where
  abbrev st : Structure
  st = structure_of b d

  element-below : (m id : ℕ) → HasModel b m → has_record d m id ≡ true → element_of d m id < size_of st (sort_of b m)
  element-below m id model there = let less = any-before id (ids_of d m) there in omega (arith, less, sizes m model)

  -- a value of a range, as what a function has
  record Fits (p : TBase) (v : Value) : Type 0 where
    pub value : SVal
    pub is : entry_of d (base_target p) v ≡ Some value
    pub fits : shape.IsValueOf st (base_range b p) value

  base-fits : (p : TBase) → IsBase b p → (v : Value) → IsBaseValueOf p v → IsBaseIntact d p (ids_in v) → Fits p v
  base-fits base.Bool model v h k = record { value = sval.Flag h.0; is = ap (entry_of d 0) h.1; fits = tt }
  base-fits base.Int model v h k = record { value = sval.Num h.0; is = ap (entry_of d 0) h.1; fits = h.2 }
  base-fits base.Text model v h k = record { value = sval.Str h.0; is = ap (entry_of d 0) h.1; fits = h.2 }
  base-fits (base.Id m) model v h k =
      let there : AreThere d m (h.0 ∷ []) = subst (λ (w : Value). AreThere d m (ids_in w)) h.1 k in
      record { value = sval.Rec (element_of d m h.0); is = ap (entry_of d m) h.1; fits = element-below m h.0 model there.0 }

  abbrev signature_at : ℕ → TTy → FunSig
  signature_at n ty = record { from = sort_of b n; to = range_of b ty; partial = is_optional ty }

  entry-fits : (n : ℕ) (ty : TTy) → is_set ty ≡ false → IsType b ty → (v : Value) → IsValueOf ty v → IsIntact d ty v
      → shape.IsEntryOf st (signature_at n ty) (entry_of d (target_of ty) v)
  entry-fits n (Plain p) no_set model v h k =
      let one = base-fits p model v h k in
      subst (λ (o : Option SVal). shape.IsEntryOf st (signature_at n (Plain p)) o) (sym one.is) one.fits
  entry-fits n (Set m) no_set model v h k = cc
  entry-fits n (Opt p) no_set model v h k =
      elim h [
        | inl none ↦ subst (λ (o : Option SVal). shape.IsEntryOf st (signature_at n (Opt p)) o) (sym (ap (entry_of d (base_target p)) none)) refl
        | inr some ↦
            let one = base-fits p model some.0 some.2 (subst (λ (x : Value). IsBaseIntact d p (ids_in x)) some.1 k) in
            subst (λ (o : Option SVal). shape.IsEntryOf st (signature_at n (Opt p)) o) (sym (ap (entry_of d (base_target p)) some.1 ∙ one.is)) one.fits
      ]

  abbrev Inside : ℕ → ℕ → (ℕ × ℕ) → Type 0
  Inside m n pair = (pair.0 < size_of st (sort_of b m)) × (pair.1 < size_of st (sort_of b n))

  -- the pairs of a record with others that are there
  others-fit : (m n x : ℕ) → HasModel b n → x < size_of st (sort_of b m) → (others : List ℕ) → AreThere d n others
      → All (Inside m n) (map (λ other. (x, element_of d n other)) others)
  others-fit m n x model below [] there = All-nil (Inside m n)
  others-fit m n x model below (other ∷ others) there =
      let one : Inside m n (x, element_of d n other) = (below, element-below n other model there.0) in
      All-cons (Inside m n) (x, element_of d n other) (map (λ other. (x, element_of d n other)) others) one (others-fit m n x model below others there.1)

  pairs-fit : (m : ℕ) (ty : TTy) → is_set ty ≡ true → HasModel b m → IsType b ty → (id : ℕ) → has_record d m id ≡ true → (v : Value) → IsValueOf ty v → IsIntact d ty v
      → All (Inside m (target_of ty)) (map (λ other. (element_of d m id, element_of d (target_of ty) other)) (set_of v))
  pairs-fit m (Plain p) set model other id there v h k = cc
  pairs-fit m (Opt p) set model other id there v h k = cc
  pairs-fit m (Set n) set model other id there v h k =
      let ids : AreThere d n (set_of v) = subst (λ (w : Value). AreThere d n (set_of w)) (sym h.1) (subst (λ (w : Value). AreThere d n (ids_in w)) h.1 k) in
      others-fit m n (element_of d m id) other (element-below m id model there) (set_of v) ids

module _ (t : Script) (is : IsScript t) (g : Signature) (of : IsSignatureOf t.start g) (d : Database) (start : IsStart t d) where
  abbrev b : Schema
  b = t.start

  abbrev IsFunctionPlace : Place → Type 0
  IsFunctionPlace p = IsThere b p × (not (is_set p.field.ty) ≡ true)

  abbrev IsRelationPlace : Place → Type 0
  IsRelationPlace p = IsThere b p × (is_set p.field.ty ≡ true)

  function-places : AllByRecursion IsFunctionPlace (functions_of b)
  function-places = kept-all (IsThere b) (λ (p : Place). not (is_set p.field.ty)) (flat_map places_in b.models) (start-places t is)

  relation-places : AllByRecursion IsRelationPlace (relations_of b)
  relation-places = kept-all (IsThere b) (λ (p : Place). is_set p.field.ty) (flat_map places_in b.models) (start-places t is)

  function-at : (h : ℕ) (sig : FunSig) → slice_get g.funs h ≡ Some sig → At IsFunctionPlace (function_signature b) (entries_of d) (functions_of b) h sig []
  function-at h sig e =
      at-place IsFunctionPlace (function_signature b) (entries_of d) (functions_of b) function-places h sig [] (ap (λ l. slice_get l h) (sym of.functions) ∙ e)

  relation-at : (r : ℕ) (sig : SetSig) → slice_get g.sets r ≡ Some sig → At IsRelationPlace (relation_signature b) (pairs_of d) (relations_of b) r sig []
  relation-at r sig e =
      at-place IsRelationPlace (relation_signature b) (pairs_of d) (relations_of b) relation-places r sig [] (ap (λ l. slice_get l r) (sym of.relations) ∙ e)

  not-set : (u : Bool) → not u ≡ true → u ≡ false
  not-set true e = cc
  not-set false e = refl

  places-fit : (h : ℕ) (sig : FunSig) → slice_get g.funs h ≡ Some sig → length (slice_index_or (structure_of b d).funs h []) ≡ size_of (structure_of b d) sig.from
  places-fit h sig e =
      let at = function-at h sig e in
      let p : Place = at.item in
      let there : IsThere b p = at.passes.0 in
      ap length at.second
      ∙ length-map (ids_of d p.model) (λ id. entry_of d (target_of p.field.ty) (field_at d p.model id p.field.number))
      ∙ sym (sorted b d start.over p.model there.0)
      ∙ ap (λ (s : FunSig). size_of (structure_of b d) s.from) at.first

  values-fit : (h : ℕ) (sig : FunSig) (x : ℕ) → slice_get g.funs h ≡ Some sig → x < size_of (structure_of b d) sig.from → shape.IsEntryOf (structure_of b d) sig (entry (structure_of b d) h x)
  values-fit h sig x e below =
      let at = function-at h sig e in
      let p : Place = at.item in
      let there : IsThere b p = at.passes.0 in
      let has : HasType b p.model p.field = there.1 in
      let low : x < length (ids_of d p.model)
      = subst (λ (n : ℕ). x < n) (sym (ap (λ (s : FunSig). size_of (structure_of b d) s.from) at.first) ∙ sorted b d start.over p.model there.0) below in
      let one = element-at (λ id. entry_of d (target_of p.field.ty) (field_at d p.model id p.field.number)) (ids_of d p.model) x None low in
      let held = typed b d start.over p.model p.field.number one.id p.field.ty has.1 one.there in
      let fits = entry-fits b d (sorted b d start.over) p.model p.field.ty (not-set (is_set p.field.ty) at.passes.1) has.0
      (field_at d p.model one.id p.field.number) held.0 held.1 in
      let found : entry (structure_of b d) h x ≡ entry_of d (target_of p.field.ty) (field_at d p.model one.id p.field.number)
      = ap (λ table. slice_index_or table x None) at.second ∙ one.held in
      subst (λ (s : FunSig). shape.IsEntryOf (structure_of b d) s (entry (structure_of b d) h x)) at.first
      (subst (λ (o : Option SVal). shape.IsEntryOf (structure_of b d) (function_signature b p) o) (sym found) fits)

  pairs-there : (r : ℕ) (sig : SetSig) → slice_get g.sets r ≡ Some sig
      → All (λ (p : ℕ × ℕ). (p.0 < size_of (structure_of b d) sig.from) × (p.1 < size_of (structure_of b d) sig.to)) (slice_index_or (structure_of b d).sets r [])
  pairs-there r sig e =
      let at = relation-at r sig e in
      let p : Place = at.item in
      let there : IsThere b p = at.passes.0 in
      let has : HasType b p.model p.field = there.1 in
      let Holds : SetSig → (ℕ × ℕ) → Type 0 = λ s pair. (pair.0 < size_of (structure_of b d) s.from) × (pair.1 < size_of (structure_of b d) s.to) in
      let each : All (Holds (relation_signature b p)) (pairs_of d p)
      = all-flat (Holds (relation_signature b p))
      (λ id. map (λ other. (element_of d p.model id, element_of d (target_of p.field.ty) other)) (set_of (field_at d p.model id p.field.number)))
      (ids_of d p.model) (ids_of d p.model) (λ id h. h) (λ id here.
      let held = typed b d start.over p.model p.field.number id p.field.ty has.1 here in
      pairs-fit b d (sorted b d start.over) p.model p.field.ty at.passes.1 there.0 has.0 id here (field_at d p.model id p.field.number) held.0 held.1) in
      subst (λ (s : SetSig). All (Holds s) (slice_index_or (structure_of b d).sets r [])) at.first
      (subst (λ (l : List (ℕ × ℕ)). All (Holds (relation_signature b p)) l) (sym at.second) each)

pub structures_are_over : StructuresAreOver
structures_are_over t is g of d start =
    let b : Schema = t.start in
    record {
      sizes = length-map (model_numbers b.models) (λ m. length (ids_of d m)) ∙ numbers-length b.models ∙ sym of.sorts;
      functions =
          length-map (functions_of b) (entries_of d) ∙ sym (length-map (functions_of b) (function_signature b))
          ∙ ap (λ (l : List FunSig). length l) (sym of.functions);
      relations =
          length-map (relations_of b) (pairs_of d) ∙ sym (length-map (relations_of b) (relation_signature b))
          ∙ ap (λ (l : List SetSig). length l) (sym of.relations);
      places = places-fit t is g of d start;
      values = values-fit t is g of d start;
      pairs = pairs-there t is g of d start;
    }

pub unsatisfied_secure : UnsatisfiedSecure
unsatisfied_secure t is g of never =
    secure_where_false t is (λ duty member d start. never duty member (structure_of t.start d) (structures_are_over t is g of d start))
