-- Lists of principals, and the sets that they are gathered from.
use Rattle.std.proofs.Common.{◌≡◌, ℕ, zero, suc, ◌<◌, Bool, true, false, not, ◌||◌, ◌&&◌, List, [], ◌∷◌, ◌++◌, refl, ap, sym, ◌∙◌, cond, arith, get_or, length, map}
use Rattle.std.specs.Prelude.{filter, Option, Some, None, Result, Ok, Err, IfOk, Contains, ◌==◌}
use Rattle.std.specs.List.{list_any}
use Rattle.std.specs.Option.{option_map}
use Rattle.std.specs.declared.cmp.Ordering.{Ordering}
use Rattle.std.proofs.lemmas.Bool.{eqb-true, eq-eqb}
use Rattle.type_schema.specs.Trees.{Filters, find}
use Rattle.data_meaning.specs.declared.principals.Principal.{Principal}
use Rattle.data_meaning.specs.declared.principals.Principal.TheVariants.{Static, Rec}
use Rattle.data_meaning.specs.Values.{Value}
use Rattle.data_meaning.specs.Database.{Database, ids_of}
use Rattle.data_meaning.specs.Meaning.{Env, id_of, is_among, is_record, member, meets, same_truth, taken_apart}
use Rattle.data_members.specs.Sets.{is_one_of, is_principal}
use Rattle.data_members.specs.Touching.{IsSetOf}
use Rattle.data_members.specs.Variables.{content_of}
use Rattle.data_members.proofs.Loops.{any-filtered}
use Rattle.data_members.proofs.CellReads.{taken-some, taken-none}

-- an answer that is told by another test
pub told-by : {T E : Type 0} (r : Result T E) (f : T → Principal → Bool) (a b : Principal → Bool) → ((q : Principal) → a q ≡ b q)
    → IfOk r (λ t. (q : Principal) → f t q ≡ a q) → IfOk r (λ t. (q : Principal) → f t q ≡ b q)
told-by (Ok t) f a b same h = λ q. h q ∙ same q
told-by (Err e) f a b same h = tt

-- ---- truth values

pub or-assoc : (a b c : Bool) → ((a || b) || c) ≡ (a || (b || c))
or-assoc true b c = refl
or-assoc false b c = refl

or-none : (a : Bool) → (a || false) ≡ a
or-none true = refl
or-none false = refl

pub not-less : (a b : Bool) → not (b && not a) ≡ (a || not b)
not-less true true = refl
not-less true false = refl
not-less false true = refl
not-less false false = refl

pub not-less-other : (a b : Bool) → not (a && not b) ≡ (not a || b)
not-less-other true true = refl
not-less-other true false = refl
not-less-other false true = refl
not-less-other false false = refl

pub not-both : (a b : Bool) → not (a && b) ≡ (not a || not b)
not-both true b = refl
not-both false b = refl

pub without : (a b : Bool) → not (not a || b) ≡ (a && not b)
without true b = refl
without false b = refl

eq-flips : (a b : ℕ) → (a == b) ≡ (b == a)
eq-flips a b =
    elim (a == b) as (λ (x : Bool). (a == b) ≡ x → x ≡ (b == a)) [
      | true ↦ λ is. sym (eq-eqb b a (sym (eqb-true _ _ is)))
      | false ↦ λ is. elim (b == a) as (λ (y : Bool). (b == a) ≡ y → false ≡ y) [
        | true ↦ λ there. let same : (a == b) ≡ true = eq-eqb a b (sym (eqb-true _ _ there)) in cc
        | false ↦ λ there. refl
      ] refl
    ] refl

-- ---- one principal

pub is-itself : (p : Principal) → is_principal p p ≡ true
is-itself (Static n) = eq-eqb n n refl
is-itself (Rec m id) = ap (λ b. b && (id == id)) (eq-eqb m m refl) ∙ eq-eqb id id refl

pub is-same : (p q : Principal) → is_principal p q ≡ true → p ≡ q
is-same (Static n) (Static k) h = ap Static (sym (eqb-true k n h))
is-same (Static n) (Rec m id) h = cc
is-same (Rec m id) (Static k) h = cc
is-same (Rec m id) (Rec n k) h =
    elim (n == m) as (λ (b : Bool). (n == m) ≡ b → (b && (k == id)) ≡ true → Rec m id ≡ Rec n k) [
      | true ↦ λ is e. ap (λ i. Rec m i) (sym (eqb-true k id e)) ∙ ap (λ j. Rec j k) (sym (eqb-true n m is))
      | false ↦ λ is e. cc
    ] refl h

-- only the id of the value tells
pub record-by-id : (m : ℕ) (v : Value) (q : Principal) → is_principal (Rec m (id_of v)) q ≡ is_record m v q
record-by-id m v (Static n) = refl
record-by-id m v (Rec n id) = refl

-- ---- lists

pub any-append : {A : Type 0} (p : A → Bool) (xs ys : List A) → list_any p (xs ++ ys) ≡ (list_any p xs || list_any p ys)
any-append p [] ys = refl
any-append p (x ∷ xs) ys = ap (λ b. p x || b) (any-append p xs ys) ∙ sym (or-assoc (p x) (list_any p xs) (list_any p ys))

pub one-filtered : (test : Principal → Bool) (ps : List Principal) (q : Principal) → is_one_of (filter test ps) q ≡ (is_one_of ps q && test q)
one-filtered test [] q = refl
one-filtered test (p ∷ ps) q =
    elim (is_principal p q) as (λ (b : Bool). is_principal p q ≡ b → is_one_of (cond (test p) (p ∷ filter test ps) (filter test ps)) q ≡ ((b || is_one_of ps q) && test q)) [
      | true ↦ λ is.
          let same : p ≡ q = is-same p q is in
          elim (test p) as (λ (b : Bool). test p ≡ b → is_one_of (cond b (p ∷ filter test ps) (filter test ps)) q ≡ test q) [
            | true ↦ λ passes. ap (λ b. b || is_one_of (filter test ps) q) is ∙ sym passes ∙ ap test same
            | false ↦ λ fails.
                let none : test q ≡ false = ap test (sym same) ∙ fails in
                one-filtered test ps q ∙ ap (λ b. is_one_of ps q && b) none ∙ and-none (is_one_of ps q) ∙ sym none
          ] refl
      | false ↦ λ is.
          elim (test p) as (λ (b : Bool). is_one_of (cond b (p ∷ filter test ps) (filter test ps)) q ≡ (is_one_of ps q && test q)) [
            | true ↦ ap (λ b. b || is_one_of (filter test ps) q) is ∙ one-filtered test ps q
            | false ↦ one-filtered test ps q
          ]
    ] refl
  where
    and-none : (a : Bool) → (a && false) ≡ false
    and-none true = refl
    and-none false = refl

-- records of a model by their ids
pub among-ids : (m : ℕ) (ids : List ℕ) (q : Principal) → is_one_of (map (λ y. Rec m y) ids) q ≡ is_among m ids q
among-ids m [] (Static n) = refl
among-ids m (i ∷ ids) (Static n) = among-ids m ids (Static n)
among-ids m [] (Rec n id) = elim (n == m) as (λ (b : Bool). false ≡ (b && false)) [ true ↦ refl | false ↦ refl ]
among-ids m (i ∷ ids) (Rec n id) =
    ap (λ b. ((n == m) && b) || is_one_of (map (λ y. Rec m y) ids) (Rec n id)) (eq-flips id i)
    ∙ ap (λ b. ((n == m) && (i == id)) || b) (among-ids m ids (Rec n id)) ∙ sides (n == m) (i == id) (list_any (λ j. j == id) ids)
  where
    sides : (a b c : Bool) → ((a && b) || (a && c)) ≡ (a && (b || c))
    sides true b c = refl
    sides false b c = refl

any-none : (ids : List ℕ) (p : ℕ → Bool) (i : ℕ) → p i ≡ false → list_any (λ y. p y && (y == i)) ids ≡ false
any-none [] p i fails = refl
any-none (y ∷ ids) p i fails =
    elim (y == i) as (λ (b : Bool). (y == i) ≡ b → ((p y && b) || list_any (λ z. p z && (z == i)) ids) ≡ false) [
      | true ↦ λ is. ap (λ b. (b && true) || list_any (λ z. p z && (z == i)) ids) (ap p (eqb-true y i is) ∙ fails) ∙ any-none ids p i fails
      | false ↦ λ is. elim (p y) as (λ (b : Bool). ((b && false) || list_any (λ z. p z && (z == i)) ids) ≡ false) [ true ↦ any-none ids p i fails | false ↦ any-none ids p i fails ]
    ] refl

any-all : (ids : List ℕ) (p : ℕ → Bool) (i : ℕ) → p i ≡ true → list_any (λ y. p y && (y == i)) ids ≡ list_any (λ y. y == i) ids
any-all [] p i passes = refl
any-all (y ∷ ids) p i passes =
    elim (y == i) as (λ (b : Bool). (y == i) ≡ b → ((p y && b) || list_any (λ z. p z && (z == i)) ids) ≡ (b || list_any (λ z. z == i) ids)) [
      | true ↦ λ is. ap (λ b. (b && true) || list_any (λ z. p z && (z == i)) ids) (ap p (eqb-true y i is) ∙ passes)
      | false ↦ λ is. elim (p y) as (λ (b : Bool). ((b && false) || list_any (λ z. p z && (z == i)) ids) ≡ list_any (λ z. z == i) ids) [ true ↦ any-all ids p i passes | false ↦ any-all ids p i passes ]
    ] refl

-- the ids that pass, of a list
pub any-at : (ids : List ℕ) (p : ℕ → Bool) (i : ℕ) → list_any (λ y. y == i) (filter p ids) ≡ (list_any (λ y. y == i) ids && p i)
any-at ids p i =
    any-filtered p (λ y. y == i) ids
    ∙ elim (p i) as (λ (b : Bool). p i ≡ b → list_any (λ y. p y && (y == i)) ids ≡ (list_any (λ y. y == i) ids && b)) [
      | true ↦ λ passes. any-all ids p i passes ∙ sym (and-true (list_any (λ y. y == i) ids))
      | false ↦ λ fails. any-none ids p i fails ∙ sym (and-false (list_any (λ y. y == i) ids))
    ] refl
  where
    and-true : (a : Bool) → (a && true) ≡ a
    and-true true = refl
    and-true false = refl

    and-false : (a : Bool) → (a && false) ≡ false
    and-false true = refl
    and-false false = refl

module _ (d : Database) (env : Env) where
  -- the records that are found
  pub found-gathered : (m : ℕ) (filters : Filters) (q : Principal)
      → is_one_of (map (λ y. Rec m y) (filter (λ y. member d env (find m filters) (Rec m y)) (ids_of d m))) q ≡ member d env (find m filters) q
  found-gathered m filters q = among-ids m (filter (λ y. member d env (find m filters) (Rec m y)) (ids_of d m)) q ∙ each q
    where
      same-side : (a b : Bool) → ((true && a) && b) ≡ (a && b)
      same-side true b = refl
      same-side false b = refl

      twice : (a b : Bool) → (a && (a && b)) ≡ (a && b)
      twice true b = refl
      twice false b = refl

      each : (q : Principal) → is_among m (filter (λ y. member d env (find m filters) (Rec m y)) (ids_of d m)) q ≡ member d env (find m filters) q
      each (Static n) = refl
      each (Rec n i) =
          elim (n == m) as (λ (b : Bool). (b && list_any (λ y. y == i) (filter (λ y. member d env (find m filters) (Rec m y)) (ids_of d m)))
          ≡ ((b && list_any (λ y. y == i) (ids_of d m)) && meets d env m filters i)) [
            | true ↦
                any-at (ids_of d m) (λ y. member d env (find m filters) (Rec m y)) i
                ∙ ap (λ b. list_any (λ y. y == i) (ids_of d m) && ((b && list_any (λ y. y == i) (ids_of d m)) && meets d env m filters i)) (eq-eqb m m refl)
                ∙ twice (list_any (λ y. y == i) (ids_of d m)) (meets d env m filters i)
            | false ↦ refl
          ]

  -- the images of the records in a source
  pub images-gathered : (m : ℕ) (value : ℕ → Value) (ys : List ℕ) (q : Principal)
      → is_one_of (map (λ y. Rec m y) (map (λ y. id_of (value y)) ys)) q ≡ list_any (λ y. is_record m (value y) q) ys
  images-gathered m value [] q = refl
  images-gathered m value (y ∷ ys) q =
      ap (λ b. b || is_one_of (map (λ y. Rec m y) (map (λ z. id_of (value z)) ys)) q) (record-by-id m (value y) q)
      ∙ ap (λ b. is_record m (value y) q || b) (images-gathered m value ys q)

-- ---- a list and a set of the same elements

one-at : (ps : List Principal) (q : Principal) (k : ℕ) → k < length ps → get_or ps k q ≡ q → is_one_of ps q ≡ true
one-at [] q k below at = absurd (omega arith)
one-at (p ∷ ps) q zero below at = ap (λ b. b || is_one_of ps q) (ap (λ u. is_principal p u) (sym at) ∙ is-itself p)
one-at (p ∷ ps) q (suc k) below at = ap (λ b. is_principal p q || b) (one-at ps q k (omega arith) at) ∙ or-true (is_principal p q)
  where
    or-true : (a : Bool) → (a || true) ≡ true
    or-true true = refl
    or-true false = refl

pub one-if-contained : (ps : List Principal) (q : Principal) → Contains ps q → is_one_of ps q ≡ true
one-if-contained ps q h = one-at ps q h.0 h.1 h.2

pub contained-if-one : (ps : List Principal) (q : Principal) → is_one_of ps q ≡ true → Contains ps q
contained-if-one [] q h = cc
contained-if-one (p ∷ ps) q h =
    elim (is_principal p q) as (λ (b : Bool). is_principal p q ≡ b → (b || is_one_of ps q) ≡ true → Contains (p ∷ ps) q) [
      | true ↦ λ is e. (0, omega arith, is-same p q is)
      | false ↦ λ is e. let rest = contained-if-one ps q e in (suc rest.0, omega (arith, rest.1), rest.2)
    ] refl h

pub same-members : {compare : Principal → Principal → Ordering} (set all : List Principal) → IsSetOf compare set all → (q : Principal) → is_one_of set q ≡ is_one_of all q
same-members set all is q =
    elim (is_one_of all q) as (λ (b : Bool). is_one_of all q ≡ b → is_one_of set q ≡ b) [
      | true ↦ λ h. one-if-contained set q (is.holds q (contained-if-one all q h))
      | false ↦ λ h. elim (is_one_of set q) as (λ (b : Bool). is_one_of set q ≡ b → b ≡ false) [
        | true ↦ λ k. let there : is_one_of all q ≡ true = one-if-contained all q (is.no_more q (contained-if-one set q k)) in cc
        | false ↦ λ k. refl
      ] refl
    ] refl

-- ---- options taken apart

module _ {X : Type 0} (body : Env → Bool) (env : Env) (v : Value) (data_of : X → Env) (o : Option X) (none : Bool) where
  pub some-taken : (x : X) → option_map data_of o ≡ option_map (λ w. env ++ w ∷ []) (content_of v) → o ≡ Some x → body (data_of x) ≡ taken_apart v none (λ w. body (env ++ w ∷ []))
  some-taken x inner is = taken-some v none body env (data_of x) (ap (option_map data_of) (sym is) ∙ inner)

  pub none-taken : option_map data_of o ≡ option_map (λ w. env ++ w ∷ []) (content_of v) → o ≡ None → none ≡ taken_apart v none (λ w. body (env ++ w ∷ []))
  none-taken inner is = taken-none v none (λ w. body (env ++ w ∷ [])) env (ap (option_map data_of) (sym is) ∙ inner)

-- ---- a sum where one side holds all but some

pub all-but-less : (ps qs left : List Principal) → left ≡ filter (λ p. same_truth false (is_one_of ps p)) qs → (q : Principal) → not (is_one_of left q) ≡ (is_one_of ps q || not (is_one_of qs q))
all-but-less ps qs left is q =
    ap (λ us. not (is_one_of us q)) is ∙ ap not (one-filtered (λ p. same_truth false (is_one_of ps p)) qs q) ∙ not-less (is_one_of ps q) (is_one_of qs q)

pub all-but-other : (ps qs left : List Principal) → left ≡ filter (λ p. same_truth false (is_one_of qs p)) ps → (q : Principal) → not (is_one_of left q) ≡ (not (is_one_of ps q) || is_one_of qs q)
all-but-other ps qs left is q =
    ap (λ us. not (is_one_of us q)) is ∙ ap not (one-filtered (λ p. same_truth false (is_one_of qs p)) ps q) ∙ not-less-other (is_one_of ps q) (is_one_of qs q)

pub all-but-both : (ps qs left : List Principal) → left ≡ filter (λ p. same_truth true (is_one_of qs p)) ps → (q : Principal) → not (is_one_of left q) ≡ (not (is_one_of ps q) || not (is_one_of qs q))
all-but-both ps qs left is q =
    ap (λ us. not (is_one_of us q)) is ∙ ap not (one-filtered (λ p. same_truth true (is_one_of qs p)) ps q) ∙ not-both (is_one_of ps q) (is_one_of qs q)
