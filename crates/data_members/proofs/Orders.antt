-- Sorted lists without repeats.
use Rattle.std.proofs.Common.{◌≡◌, ℕ, Bool, true, false, ◌&&◌, List, [], refl, ap, sym, ◌∙◌, subst}
use Rattle.std.specs.Prelude.{Contains, ◌==◌}
use Rattle.std.specs.Cmp.{IsTotalOrder, IsEquivalence, tied_then, unsigned_ties}
use Rattle.std.specs.List.Sorted.{IsPermutation, IsSorted, IsStrictlySortedBy}
use Rattle.std.specs.List.{dedup}
use Rattle.std.specs.Ordering.{nat_cmp, eq_by_cmp, is_eq, ordering_then}
use Rattle.std.specs.declared.cmp.Ordering.{Ordering}
use Rattle.std.specs.declared.cmp.Ordering.TheVariants.{Less, Equal, Greater}
use Rattle.std.proofs.lemmas.Bool.{eqb-true}
use Rattle.std.proofs.lemmas.Cmp.{nat_cmp_total, on_total, then_total, eq_by_cmp_equiv}
use Rattle.std.proofs.lemmas.List.Kept.{Contains-dedup, Contains-from_dedup, IsStrictlySortedBy-dedup}
use Rattle.std.proofs.lemmas.List.Sorted.{Contains-permutation, IsPermutation-sym}
use Rattle.data_meaning.specs.declared.principals.Principal.{Principal}
use Rattle.data_meaning.specs.declared.principals.Principal.TheVariants.{Static, Rec}
use Rattle.data_meaning.specs.declared.cells.Cell.{Cell}
use Rattle.data_meaning.specs.Meaning.{id_of_record}
use Rattle.data_members.specs.Sets.{number, principal_cmp, rank}
use Rattle.data_members.specs.Touching.{IsSetOf, cell_cmp}

pub cells-total : IsTotalOrder cell_cmp
cells-total = then_total (then_total (on_total (λ (c : Cell). c.model) nat_cmp_total) (on_total (λ (c : Cell). c.id) nat_cmp_total)) (on_total (λ (c : Cell). c.field) nat_cmp_total)

pub principals-total : IsTotalOrder principal_cmp
principals-total = then_total (then_total (on_total rank nat_cmp_total) (on_total number nat_cmp_total)) (on_total id_of_record nat_cmp_total)

-- what a sort and a `dedup` leave
pub set-left : {X : Type 0} {R : X → X → Ordering} (o : IsTotalOrder R) {E : X → X → Bool} (ties : (x y : X) → E x y ≡ eq_by_cmp R x y)
    (same : (x y : X) → E x y ≡ true → x ≡ y) (old sorted new : List X) → IsPermutation old sorted → IsSorted R sorted → new ≡ dedup E sorted → IsSetOf R new old
set-left {X} {R} o {E} ties same old sorted new moved up is =
    let laws = eq_by_cmp_equiv o in
    let equal : IsEquivalence E = record {
      refl = λ x. ties x x ∙ laws.refl x;
      symm = λ x y. ties x y ∙ laws.symm x y ∙ sym (ties y x);
      congr = λ x y z h. ties x z ∙ laws.congr x y z (sym (ties x y) ∙ h) ∙ sym (ties y z);
    } in
    record {
      rising = subst (IsStrictlySortedBy R) (sym is) (IsStrictlySortedBy-dedup o ties sorted up);
      holds = λ x h. subst (λ (xs : List X). Contains xs x) (sym is) (Contains-dedup equal same sorted x (Contains-permutation old sorted x moved h));
      no_more = λ x h. Contains-permutation sorted old x (IsPermutation-sym old sorted moved) (Contains-from_dedup E sorted x (subst (λ (xs : List X). Contains xs x) is h));
    }

pub none-rise : {X : Type 0} (R : X → X → Ordering) → IsStrictlySortedBy R []
unfolding IsStrictlySortedBy
none-rise R = tt

-- ---- equal cells

and-true : (a b : Bool) → (a && b) ≡ true → (a ≡ true) × (b ≡ true)
and-true true b h = (refl, h)
and-true false b h = cc

abbrev pub cell_eq : Cell → Cell → Bool
cell_eq x y = (x.model == y.model) && ((x.id == y.id) && (x.field == y.field))

three-tied : (a b c a' b' c' : ℕ) → (((a == a') && (b == b')) && (c == c')) ≡ is_eq (ordering_then (ordering_then (nat_cmp a a') (nat_cmp b b')) (nat_cmp c c'))
three-tied a b c a' b' c' =
    ap (λ u. u && (c == c')) (ap (λ u. u && (b == b')) (unsigned_ties a a') ∙ ap (λ u. is_eq (nat_cmp a a') && u) (unsigned_ties b b') ∙ tied_then (nat_cmp a a') (nat_cmp b b'))
    ∙ ap (λ u. is_eq (ordering_then (nat_cmp a a') (nat_cmp b b')) && u) (unsigned_ties c c')
    ∙ tied_then (ordering_then (nat_cmp a a') (nat_cmp b b')) (nat_cmp c c')

and-assoc : (a b c : Bool) → (a && (b && c)) ≡ ((a && b) && c)
and-assoc true b c = refl
and-assoc false b c = refl

pub cells-tied : (x y : Cell) → cell_eq x y ≡ eq_by_cmp cell_cmp x y
cells-tied x y = and-assoc (x.model == y.model) (x.id == y.id) (x.field == y.field) ∙ three-tied x.model x.id x.field y.model y.id y.field

pub cells-same : (x y : Cell) → cell_eq x y ≡ true → x ≡ y
cells-same x y h =
    let first = and-true (x.model == y.model) ((x.id == y.id) && (x.field == y.field)) h in
    let rest = and-true (x.id == y.id) (x.field == y.field) first.1 in
    ap (λ m. record { model = m; id = x.id; field = x.field }) (eqb-true x.model y.model first.0)
    ∙ ap (λ i. record { model = y.model; id = i; field = x.field }) (eqb-true x.id y.id rest.0)
    ∙ ap (λ f. record { model = y.model; id = y.id; field = f }) (eqb-true x.field y.field rest.1)

-- ---- equal principals

-- what `==` says of two principals, by their variants
pub record IsEquality (equal : Principal → Principal → Bool) : Type 0 where
  pub statics : (n k : ℕ) → equal (Static n) (Static k) ≡ (n == k)
  pub static_record : (n m id : ℕ) → equal (Static n) (Rec m id) ≡ false
  pub record_static : (m id n : ℕ) → equal (Rec m id) (Static n) ≡ false
  pub records : (m i n j : ℕ) → equal (Rec m i) (Rec n j) ≡ ((m == n) && (i == j))

module _ (equal : Principal → Principal → Bool) (is : IsEquality equal) where
  pub principals-tied : (p q : Principal) → equal p q ≡ eq_by_cmp principal_cmp p q
  principals-tied (Static n) (Static k) = is.statics n k ∙ unsigned_ties n k ∙ with-zero (nat_cmp n k)
    where
      with-zero : (o : Ordering) → is_eq o ≡ is_eq (ordering_then o Equal)
      with-zero Less = refl
      with-zero Equal = refl
      with-zero Greater = refl
  principals-tied (Static n) (Rec m id) = is.static_record n m id
  principals-tied (Rec m id) (Static n) = is.record_static m id n
  principals-tied (Rec m i) (Rec n j) =
      is.records m i n j ∙ ap (λ u. u && (i == j)) (unsigned_ties m n) ∙ ap (λ u. is_eq (nat_cmp m n) && u) (unsigned_ties i j) ∙ tied_then (nat_cmp m n) (nat_cmp i j)

  pub principals-same : (p q : Principal) → equal p q ≡ true → p ≡ q
  principals-same (Static n) (Static k) h = ap Static (eqb-true n k (sym (is.statics n k) ∙ h))
  principals-same (Static n) (Rec m id) h = let e = is.static_record n m id in cc
  principals-same (Rec m id) (Static n) h = let e = is.record_static m id n in cc
  principals-same (Rec m i) (Rec n j) h =
      let parts = and-true (m == n) (i == j) (sym (is.records m i n j) ∙ h) in
      ap (λ k. Rec k i) (eqb-true m n parts.0) ∙ ap (λ k. Rec n k) (eqb-true i j parts.1)
