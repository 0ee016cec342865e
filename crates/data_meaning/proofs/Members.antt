-- What is in a set of records of a model is such a record, and is there.
use Rattle.std.proofs.Common.{◌≡◌, ℕ, Bool, true, false, ◌||◌, List, [], ◌∷◌, ◌++◌, refl, ap, sym, ◌∙◌, subst, arith, inl, inr}
use Rattle.std.specs.Prelude.{Option, Some, None, map, is_some, ◌==◌, if◌then◌else◌}
use Rattle.std.specs.List.{list_any}
use Rattle.std.specs.Option.{option_map_or}
use Rattle.std.proofs.lemmas.Bool.{eqb-true, eq-eqb}
use Rattle.type_schema.specs.declared.types.TBase.TheVariants as base
use Rattle.type_schema.specs.declared.types.TTy.TheVariants.{Plain, Set, Opt}
use Rattle.type_schema.specs.Trees.{Expr, SetExpr, everyone, nobody, listed, union, minus, path, mapped, flat_mapped, if_set, match_set, Items, no_items, static_item, record_item}
use Rattle.type_schema.specs.Trees as tree
use Rattle.type_schema.specs.Schema.{ModelInfo, Schema, model_of}
use Rattle.type_schema.specs.Typing.{Scope, HasModel, records, IsSet, AreItems}
use Rattle.data_meaning.specs.declared.principals.Principal.{Principal}
use Rattle.data_meaning.specs.declared.principals.Principal.TheVariants.{Static, Rec}
use Rattle.data_meaning.specs.Values.{Value, Id, Ids, ids_in, IsId}
use Rattle.data_meaning.specs.Database.{Record, Table, Database, table_of, records_of, ids_of, has_record, AreThere, IsBaseIntact, IsRecordIn, HasTable, IsDatabase}
use Rattle.data_meaning.proofs.Finds.{find-holds, find-among}
use Rattle.data_meaning.proofs.Lookup.{record-found}
use Rattle.data_meaning.specs.Meaning.{Env, truth_of, id_of, set_of, taken_apart, is_record, is_among, value_of, member, is_listed}
use Rattle.data_meaning.specs.Sound.{IsHeld, AreHeld, IsRecordThere, MembersAreThere}
use Rattle.data_meaning.proofs.Tests.{and-left, and-right, or-true}
use Rattle.data_meaning.proofs.Soundness.{held-more, held}

-- an element that passes
some-passes : (p : ℕ → Bool) (xs : List ℕ) → list_any p xs ≡ true → (x : ℕ) × (p x ≡ true) × (list_any (λ i. i == x) xs ≡ true)
some-passes p [] h = cc
some-passes p (y ∷ xs) h =
    elim (or-true (p y) _ h) [
      | inl here ↦ (y, here, ap (λ b. b || list_any (λ i. i == y) xs) (eq-eqb y y refl))
      | inr later ↦
          let x = some-passes p xs later in
          (x.0, x.1, (elim (y == x.0) as (λ (b : Bool). (b || list_any (λ i. i == x.0) xs) ≡ true) [ true ↦ refl | false ↦ x.2 ]))
    ]

-- one of ids that are there
one-there : (d : Database) (m : ℕ) (ids : List ℕ) (id : ℕ) → AreThere d m ids → list_any (λ i. i == id) ids ≡ true → has_record d m id ≡ true
one-there d m [] id all h = cc
one-there d m (i ∷ ids) id all h =
    elim (i == id) as (λ (b : Bool). (i == id) ≡ b → (b || list_any (λ j. j == id) ids) ≡ true → has_record d m id ≡ true) [
      | true ↦ λ is e. subst (λ (k : ℕ). has_record d m k ≡ true) (eqb-true _ _ is) all.0
      | false ↦ λ is e. one-there d m ids id all.1 e
    ] refl h

among-there : (d : Database) (m : ℕ) (ids : List ℕ) (q : Principal) → AreThere d m ids → is_among m ids q ≡ true → IsRecordThere d m q
among-there d m ids (Static n) all h = cc
among-there d m ids (Rec n id) all h = (eqb-true n m (and-left _ _ h), one-there d m ids id all (and-right (n == m) _ h))

record-there : (d : Database) (m : ℕ) (v : Value) (q : Principal) → IsHeld d (Plain (base.Id m)) v → is_record m v q ≡ true → IsRecordThere d m q
record-there d m v (Static n) h e = cc
record-there d m v (Rec n id) h e =
    let value : v ≡ Id h.0.0 = h.0.1 in
    let there : AreThere d m (h.0.0 ∷ []) = subst (λ (w : Value). AreThere d m (ids_in w)) value h.1 in
    let same : id ≡ h.0.0 = eqb-true _ _ (and-right (n == m) _ e) ∙ ap id_of value in
    (eqb-true n m (and-left _ _ e), subst (λ (k : ℕ). has_record d m k ≡ true) (sym same) there.0)

pub all-there : (d : Database) (m : ℕ) (ids : List ℕ) → ((id : ℕ) → list_any (λ i. i == id) ids ≡ true → has_record d m id ≡ true) → AreThere d m ids
all-there d m [] each = tt
all-there d m (i ∷ ids) each = (
  each i (ap (λ b. b || list_any (λ j. j == i) ids) (eq-eqb i i refl)),
  all-there d m ids (λ id h. each id (elim (i == id) as (λ (b : Bool). (b || list_any (λ j. j == id) ids) ≡ true) [ true ↦ refl | false ↦ h ])),
)

-- the id of a record that is there, as a value
pub id-held : (s : Schema) (d : Database) → IsDatabase s d → (n id : ℕ) → HasModel s n → has_record d n id ≡ true → IsHeld d (Plain (base.Id n)) (Id id)
id-held s d is n id model there =
    elim (model_of s n) as (λ (o : Option ModelInfo). model_of s n ≡ o → is_some o ≡ true → IsHeld d (Plain (base.Id n)) (Id id)) [
      | None ↦ λ here e. cc
      | Some i ↦ λ here e.
          let table = find-among (HasTable d) (λ (u : ModelInfo). u.number == n) s.models i is.tables here in
          let number : i.number ≡ n = eqb-true _ _ (find-holds (λ (u : ModelInfo). u.number == n) s.models i here) in
          let at : table_of d n ≡ Some table.0 = ap (table_of d) (sym number) ∙ table.1 in
          let rows : records_of d n ≡ table.0.records = ap (λ o. option_map_or (λ (u : Table). u.records) o []) at in
          let r = record-found id table.0.records (ap (λ rs. list_any (λ k. k == id) (map (λ (u : Record). u.id) rs)) (sym rows) ∙ there) in
          let inside = find-among (IsRecordIn d i table.0.next) (λ (u : Record). u.id == id) table.0.records r.0 table.2.records r.1 in
          let same : r.0.id ≡ id = eqb-true _ _ (find-holds (λ (u : Record). u.id == id) table.0.records r.0 r.1) in
          let within : IsId id = (omega (arith, inside.first, same), omega (arith, inside.given, same, table.2.last)) in
          ((id, refl, within), (there, tt))
    ] refl model

module _ (s : Schema) (d : Database) (is : IsDatabase s d) where
  mutual
    there : (x : SetExpr) (scope : Scope) (env : Env) → AreHeld d scope env → (m : ℕ) → IsSet s scope (records m) x
        → (q : Principal) → member d env x q ≡ true → IsRecordThere d m q
    there everyone scope env h m e q k = cc
    there nobody scope env h m e q k = cc
    there (listed items) scope env h m e q k = listed-there items scope env h m e q k
    there (union a b) scope env h m e q k =
        elim (or-true _ _ k) [
          | inl one ↦ there a scope env h m e.0 q one
          | inr other ↦ there b scope env h m e.1 q other
        ]
    there (minus a b) scope env h m e q k = there a scope env h m e.0 q (and-left _ _ k)
    there (tree.find n _) scope env h m e q k =
        subst (λ (i : ℕ). IsRecordThere d i q) e.0.1 (among-there d n (ids_of d n) q (all-there d n (ids_of d n) (λ id u. u)) (and-left _ _ k))
    there (path n x) scope env h m e q k =
        let one = held s d is x scope env h (Set n) e.1 in
        let value : value_of d env x ≡ Ids one.0.0 = one.0.1 in
        let all : AreThere d n one.0.0 = subst (λ (v : Value). AreThere d n (ids_in v)) value one.1 in
        subst (λ (i : ℕ). IsRecordThere d i q) e.0.1 (among-there d n one.0.0 q all (ap (λ v. is_among n (set_of v) q) (sym value) ∙ k))
    there (mapped set n name o x) scope env h m e q k =
        let y = some-passes _ (ids_of d n) k in
        let more = held-more d scope env (Plain (base.Id n)) (Id y.0) h (id-held s d is n y.0 e.1 y.2) in
        let one = held s d is x (scope ++ Plain (base.Id n) ∷ []) (env ++ Id y.0 ∷ []) more (Plain (base.Id o)) e.3 in
        subst (λ (i : ℕ). IsRecordThere d i q) e.0.1 (record-there d o (value_of d (env ++ Id y.0 ∷ []) x) q one (and-right (member d env set (Rec n y.0)) _ y.1))
    there (flat_mapped set n name body) scope env h m e q k =
        let y = some-passes _ (ids_of d n) k in
        let more = held-more d scope env (Plain (base.Id n)) (Id y.0) h (id-held s d is n y.0 e.0 y.2) in
        there body (scope ++ Plain (base.Id n) ∷ []) (env ++ Id y.0 ∷ []) more m e.2 q (and-right (member d env set (Rec n y.0)) _ y.1)
    there (if_set c a b) scope env h m e q k =
        elim (truth_of (value_of d env c)) as (λ (t : Bool). (if t then member d env a q else member d env b q) ≡ true → IsRecordThere d m q) [
          | true ↦ λ u. there a scope env h m e.1 q u
          | false ↦ λ u. there b scope env h m e.2 q u
        ] k
    there (match_set x a name b) scope env h m e q k =
        let one = held s d is x scope env h (Opt e.0) e.1 in
        (elim one.0 as (λ _. taken_apart (value_of d env x) (member d env a q) (λ v. member d (env ++ v ∷ []) b q) ≡ true → IsRecordThere d m q) [
          | inl none ↦ λ u.
              there a scope env h m e.2 q (ap (λ w. taken_apart w (member d env a q) (λ v. member d (env ++ v ∷ []) b q)) (sym none) ∙ u)
          | inr some ↦ λ u.
              let intact : IsBaseIntact d e.0 (ids_in some.0) = subst (λ (w : Value). IsBaseIntact d e.0 (ids_in w)) some.1 one.1 in
              let more = held-more d scope env (Plain e.0) some.0 h (some.2, intact) in
              there b (scope ++ Plain e.0 ∷ []) (env ++ some.0 ∷ []) more m e.3 q
              (ap (λ w. taken_apart w (member d env a q) (λ v. member d (env ++ v ∷ []) b q)) (sym some.1) ∙ u)
        ]) k

    listed-there : (x : Items) (scope : Scope) (env : Env) → AreHeld d scope env → (m : ℕ) → AreItems s scope (records m) x
        → (q : Principal) → is_listed d env x q ≡ true → IsRecordThere d m q
    listed-there no_items scope env h m e q k = cc
    listed-there (static_item n items) scope env h m e q k = let never = e.0 in cc
    listed-there (record_item n x items) scope env h m e q k =
        elim (or-true _ _ k) [
          | inl here ↦ subst (λ (i : ℕ). IsRecordThere d i q) e.0.1 (record-there d n (value_of d env x) q (held s d is x scope env h (Plain (base.Id n)) e.1) here)
          | inr later ↦ listed-there items scope env h m e.2 q later
        ]

pub members-there : MembersAreThere
members-there s d is scope env h m x e q k = there s d is x scope env h m e q k
