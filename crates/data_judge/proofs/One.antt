-- Trees write one database.
use Rattle.std.proofs.Common.{◌≡◌, ◌∙◌, sym, ◌⊎◌, inl, inr, ℕ, ◌<◌, List, [], ◌∷◌, map, refl, ap, subst, arith}
use Rattle.std.specs.Prelude.{Option, Some, None}
use Rattle.std.specs.List.{AllByRecursion}
use Rattle.std.specs.List.Sorted.{IsPermutation, IsStrictlySortedBy, IsStrictlyIncreasing}
use Rattle.std.specs.Ordering.{nat_cmp}
use Rattle.std.specs.declared.cmp.Ordering.TheVariants.{Less}
use Rattle.std.proofs.lemmas.List.Sorted.{IsPermutation-sym, IsPermutation-trans}
use Rattle.std.proofs.lemmas.Map.Keys.{sorted_from_strictly_increasing}
use Rattle.std.proofs.lemmas.Bool.Decides.{nat_tests}
use Rattle.type_schema.specs.Schema.{ModelInfo, Schema}
use Rattle.data_meaning.specs.Database.{Record, Table, Database}
use Rattle.data_tree.specs.declared.tables.TableLit.{TableLit}
use Rattle.data_judge.specs.declared.fault.Refusal.{Refusal}
use Rattle.data_judge.specs.declared.fault.Refusal.TheVariants as refusal
use Rattle.data_judge.specs.declared.limits.Limits.{Limits}
use Rattle.data_judge.specs.Limits.{excess}
use Rattle.data_judge.specs.References.{lost}
use Rattle.data_judge.specs.Meaning.{Holds, AreHeld, records_for}
use Rattle.data_judge.specs.Judged.{Writes, IsGiven, IsRefusedFor}
use Rattle.data_judge.proofs.Held.{all-moved}

-- ---- lists that rise and have the same elements

abbrev Mem : {A : Type 0} → List A → A → Type 0
Mem [] x = ⊥
Mem (y ∷ ys) x = (x ≡ y) ⊎ Mem ys x

mem-more : {A : Type 0} (y : A) (ys xs : List A) → AllByRecursion (Mem ys) xs → AllByRecursion (Mem (y ∷ ys)) xs
mem-more y ys [] all = tt
mem-more y ys (x ∷ xs) all = (inr all.0, mem-more y ys xs all.1)

mem-all : {A : Type 0} (xs : List A) → AllByRecursion (Mem xs) xs
mem-all [] = tt
mem-all (x ∷ xs) = (inl refl, mem-more x xs xs (mem-all xs))

module _ {A : Type 0} (key : A → ℕ) where
  abbrev Rising : List A → Type 0
  Rising [] = Unit {0}
  Rising (x ∷ xs) = AllByRecursion (λ y. key x < key y) xs × Rising xs

  above : (ys : List A) (x y : A) → AllByRecursion (λ z. key y < key z) ys → Mem ys x → key y < key x
  above [] x y all mem = absurd mem
  above (z ∷ ys) x y all (inl e) = let less : key y < key z = all.0 in omega (arith, less, ap key e)
  above (z ∷ ys) x y all (inr mem) = above ys x y all.1 mem

  not-first : (y : A) (ys xs : List A) → AllByRecursion (λ z. key y < key z) xs → AllByRecursion (Mem (y ∷ ys)) xs → AllByRecursion (Mem ys) xs
  not-first y ys [] less mem = tt
  not-first y ys (x ∷ xs) less (inl e, mem) = let l : key y < key x = less.0 in absurd (omega (arith, l, ap key e))
  not-first y ys (x ∷ xs) less (inr m, mem) = (m, not-first y ys xs less.1 mem)

  heads : (x y : A) (xs ys : List A) → Rising (x ∷ xs) → Rising (y ∷ ys) → Mem (y ∷ ys) x → Mem (x ∷ xs) y → x ≡ y
  heads x y xs ys r s (inl e) n = e
  heads x y xs ys r s (inr m) (inl e) = sym e
  heads x y xs ys r s (inr m) (inr n) =
      let a : key y < key x = above ys x y s.0 m in
      let b : key x < key y = above xs y x r.0 n in
      absurd (omega (arith, a, b))

  rising-same : (xs ys : List A) → Rising xs → Rising ys → AllByRecursion (Mem ys) xs → AllByRecursion (Mem xs) ys → xs ≡ ys
  rising-same [] [] r s m n = refl
  rising-same [] (y ∷ ys) r s m n = absurd n.0
  rising-same (x ∷ xs) [] r s m n = absurd m.0
  rising-same (x ∷ xs) (y ∷ ys) r s m n =
      let same : x ≡ y = heads x y xs ys r s m.0 n.0 in
      let fore : AllByRecursion (λ z. key y < key z) xs = subst (λ w. AllByRecursion (λ z. key w < key z) xs) same r.0 in
      let back : AllByRecursion (λ z. key x < key z) ys = subst (λ w. AllByRecursion (λ z. key w < key z) ys) (sym same) s.0 in
      let rest = rising-same xs ys r.1 s.1 (not-first y ys xs fore m.1) (not-first x xs ys back n.1) in
      ap (λ w. w ∷ xs) same ∙ ap (λ zs. y ∷ zs) rest

  less-of : (a b : ℕ) → nat_cmp a b ≡ Less → a < b
  less-of a b e = grind (arith, nat_tests, e)

  fore-of : (x : A) (xs : List A) → AllByRecursion (λ b. nat_cmp (key x) b ≡ Less) (map key xs) → AllByRecursion (λ y. key x < key y) xs
  fore-of x [] all = tt
  fore-of x (y ∷ xs) all = (less-of (key x) (key y) all.0, fore-of x xs all.1)

  rising-of : (xs : List A) → IsStrictlySortedBy nat_cmp (map key xs) → Rising xs
  unfolding IsStrictlySortedBy
  rising-of [] sorted = tt
  rising-of (x ∷ xs) sorted = (fore-of x xs sorted.0, rising-of xs sorted.1)

  pub permutation-same : (xs ys : List A) → IsPermutation xs ys → IsStrictlyIncreasing (map key xs) → IsStrictlyIncreasing (map key ys) → xs ≡ ys
  permutation-same xs ys moved r s =
      rising-same xs ys (rising-of xs (sorted_from_strictly_increasing (map key xs) r)) (rising-of ys (sorted_from_strictly_increasing (map key ys) s))
      (all-moved (Mem ys) ys xs (IsPermutation-sym xs ys moved) (mem-all ys)) (all-moved (Mem xs) xs ys moved (mem-all xs))

-- ---- databases

one-table : (ts : List TableLit) (m : ModelInfo) (t u : Table) → Holds ts m t → Holds ts m u → t ≡ u
one-table ts m t u h k =
    let records : t.records ≡ u.records =
    permutation-same (λ (r : Record). r.id) t.records u.records (IsPermutation-trans t.records (records_for ts m) u.records (IsPermutation-sym (records_for ts m) t.records h.records) k.records) h.rising k.rising in
    let model : t.model ≡ u.model = h.model ∙ sym k.model in
    let next : t.next ≡ u.next = h.next ∙ sym k.next in
    ap (λ (n : ℕ). let v : Table = record { model = n; next = t.next; records = t.records } in v) model
    ∙ ap (λ (n : ℕ). let v : Table = record { model = u.model; next = n; records = t.records } in v) next
    ∙ ap (λ (rs : List Record). let v : Table = record { model = u.model; next = u.next; records = rs } in v) records

one-held : (ts : List TableLit) (ms : List ModelInfo) (d e : List Table) → AreHeld ts ms d → AreHeld ts ms e → d ≡ e
one-held ts [] [] [] h k = refl
one-held ts [] [] (u ∷ e) h k = absurd k
one-held ts [] (t ∷ d) e h k = absurd h
one-held ts (m ∷ ms) [] e h k = absurd h
one-held ts (m ∷ ms) (t ∷ d) [] h k = absurd k
one-held ts (m ∷ ms) (t ∷ d) (u ∷ e) h k = ap (λ x. x ∷ d) (one-table ts m t u h.0 k.0) ∙ ap (λ xs. u ∷ xs) (one-held ts ms d e h.1 k.1)

pub one-database : (s : Schema) (ts : List TableLit) (d e : Database) → Writes s ts d → Writes s ts e → d ≡ e
one-database s ts d e w v = one-held ts s.models d e w.held v.held

no-some : {A : Type 0} {o : Option A} {x : A} → o ≡ None → o ≡ Some x → ⊥
no-some {A} {o} {x} none some = let e : None ≡ Some x = sym none ∙ some in cc

some-same : {A : Type 0} {o : Option A} {x y : A} → o ≡ Some x → o ≡ Some y → x ≡ y
some-same {A} {o} {x} {y} e f = let g : Some x ≡ Some y = sym e ∙ f in cc

module _ (limits : Limits) (s : Schema) (ts : List TableLit) where
  pub given-not-refused : (d : Database) (r : Refusal) → (r ≡ refusal.OutOfMemory → ⊥) → IsGiven limits s ts d → IsRefusedFor limits s ts r → ⊥
  given-not-refused d (refusal.Broken f) memory g r = no-some g.reads.writes.sound r
  given-not-refused d (refusal.Dangling at) memory g (e, w, r) =
      no-some (subst (λ x. lost s x ts ≡ None) (one-database s ts d e g.reads.writes w) g.reads.found) r
  given-not-refused d (refusal.Full what) memory g (e, w, r) =
      no-some (subst (λ x. excess limits x ≡ None) (one-database s ts d e g.reads.writes w.writes) g.within) r
  given-not-refused d refusal.OutOfMemory memory g r = memory refl

  pub one-refusal : (r q : Refusal) → (r ≡ refusal.OutOfMemory → ⊥) → (q ≡ refusal.OutOfMemory → ⊥) → IsRefusedFor limits s ts r → IsRefusedFor limits s ts q → r ≡ q
  one-refusal (refusal.Broken f) (refusal.Broken g) mr mq r q = ap refusal.Broken (some-same r q)
  one-refusal (refusal.Broken f) (refusal.Dangling at) mr mq r (e, w, q) = absurd (no-some w.sound r)
  one-refusal (refusal.Broken f) (refusal.Full what) mr mq r (e, w, q) = absurd (no-some w.writes.sound r)
  one-refusal (refusal.Broken f) refusal.OutOfMemory mr mq r q = absurd (mq refl)
  one-refusal (refusal.Dangling at) (refusal.Broken g) mr mq (d, v, r) q = absurd (no-some v.sound q)
  one-refusal (refusal.Dangling at) (refusal.Dangling by) mr mq (d, v, r) (e, w, q) =
      ap refusal.Dangling (some-same (subst (λ x. lost s x ts ≡ Some at) (one-database s ts d e v w) r) q)
  one-refusal (refusal.Dangling at) (refusal.Full what) mr mq (d, v, r) (e, w, q) =
      absurd (no-some w.found (subst (λ x. lost s x ts ≡ Some at) (one-database s ts d e v w.writes) r))
  one-refusal (refusal.Dangling at) refusal.OutOfMemory mr mq r q = absurd (mq refl)
  one-refusal (refusal.Full what) (refusal.Broken g) mr mq (d, v, r) q = absurd (no-some v.writes.sound q)
  one-refusal (refusal.Full what) (refusal.Dangling by) mr mq (d, v, r) (e, w, q) =
      absurd (no-some v.found (subst (λ x. lost s x ts ≡ Some by) (one-database s ts e d w v.writes) q))
  one-refusal (refusal.Full what) (refusal.Full other) mr mq (d, v, r) (e, w, q) =
      ap refusal.Full (some-same (subst (λ x. excess limits x ≡ Some what) (one-database s ts d e v.writes w.writes) r) q)
  one-refusal (refusal.Full what) refusal.OutOfMemory mr mq r q = absurd (mq refl)
  one-refusal refusal.OutOfMemory q mr mq r o = absurd (mr refl)
