-- A set that is written rising is that set, with nothing wrong.
use Rattle.std.proofs.Common.{◌≡◌, ℕ, true, false, List, [], ◌∷◌, ◌++◌, refl, sym, ◌∙◌, ap, subst, append_assoc, append-nil}
use Rattle.std.specs.Prelude.{None, Some, nat_eq}
use Rattle.std.specs.List.{AllByRecursion, AllZip, IsDistinct, fold}
use Rattle.data_meaning.specs.Database.{Database, AreThere, has_record}
use Rattle.data_tree.specs.declared.literals.WrittenId.{WrittenId}
use Rattle.data_tree.specs.declared.literals.Lit.{Lit}
use Rattle.data_judge.specs.First.{first_behind}
use Rattle.data_judge.specs.Faults.{has, item_fault, items_fault}
use Rattle.data_judge.specs.Meaning.{id_in, ids_of, layer_id, with_item, with_number}
use Rattle.data_judge.specs.References.{id_lost, items_lost}
use Rattle.data_judge.proofs.Tests.{has-with}
use Rattle.data_read.specs.Spelled.{IsIdLitOf}
use Rattle.data_read.proofs.Rising.{AreBelow, Rises, below-more, none-below, put-last, rising-apart}

-- an id among those of a set
record IsItem (id : ℕ) (l : Lit) : Type 0 where
  written : WrittenId
  number : written.number ≡ id
  is : id_in l ≡ Some written

item-of : (id : ℕ) (l : Lit) → IsIdLitOf id l → IsItem id l
item-of id l (i, at, number, is) = record { written = i; number = number; is = ap layer_id is }

with-it : (ns : List ℕ) (id : ℕ) (l : Lit) → IsItem id l → with_item ns l ≡ with_number ns id
with-it ns id l h = rw (h.is, h.number) refl

-- ---- which ids they are

items-put : (ns ids : List ℕ) (items : List Lit) → AllZip IsIdLitOf ids items → Rises ids → AreBelow ns ids → fold with_item ns items ≡ ns ++ ids
items-put ns [] [] zip rise below = sym (append-nil ns)
items-put ns [] (l ∷ items) zip rise below = absurd zip
items-put ns (id ∷ ids) [] zip rise below = absurd zip
items-put ns (id ∷ ids) (l ∷ items) zip rise below =
    let one = with-it ns id l (item-of id l zip.0) ∙ put-last ns id below.0 in
    ap (λ z. fold with_item z items) one ∙ items-put (ns ++ id ∷ []) ids items zip.1 rise.1 (below-more ns id ids below.1 rise.0) ∙ append_assoc ns (id ∷ []) ids

pub items-are : (ids : List ℕ) (items : List Lit) → AllZip IsIdLitOf ids items → Rises ids → ids_of items ≡ ids
items-are ids items zip rise = items-put [] ids items zip rise (none-below ids)

-- ---- none stands twice

-- no id was seen
abbrev AreNew : List ℕ → List ℕ → Type 0
AreNew ns ids = AllByRecursion (λ id. has ns id ≡ false) ids

new-more : (ns : List ℕ) (n : ℕ) (ids : List ℕ) → AreNew ns ids → AllByRecursion (λ id. nat_eq n id ≡ false) ids → AreNew (with_number ns n) ids
new-more ns n [] new apart = tt
new-more ns n (id ∷ ids) new apart = (has-with ns n id ∙ rw (apart.0, new.0) refl, new-more ns n ids new.1 apart.1)

item-sound : (ns : List ℕ) (id : ℕ) (l : Lit) → IsItem id l → has ns id ≡ false → item_fault ns l ≡ None
item-sound ns id l h new = rw (h.is, h.number, new) refl

items-apart : (ns ids : List ℕ) (items : List Lit) → AllZip IsIdLitOf ids items → IsDistinct nat_eq ids → AreNew ns ids → first_behind item_fault with_item ns items ≡ None
unfolding IsDistinct
items-apart ns [] [] zip apart new = refl
items-apart ns [] (l ∷ items) zip apart new = absurd zip
items-apart ns (id ∷ ids) [] zip apart new = absurd zip
items-apart ns (id ∷ ids) (l ∷ items) zip apart new =
    let h = item-of id l zip.0 in
    rw (item-sound ns id l h new.0, with-it ns id l h) (items-apart (with_number ns id) ids items zip.1 apart.1 (new-more ns id ids new.1 apart.0))

all-new : (ids : List ℕ) → AreNew [] ids
all-new [] = tt
all-new (id ∷ ids) = (refl, all-new ids)

pub items-sound : (ids : List ℕ) (items : List Lit) → AllZip IsIdLitOf ids items → Rises ids → items_fault items ≡ None
items-sound ids items zip rise = items-apart [] ids items zip (rising-apart ids rise) (all-new ids)

-- ---- none is lost

module _ (d : Database) (m : ℕ) where
  pub id-kept : (i : WrittenId) → has_record d m i.number ≡ true → id_lost d m (Some i) ≡ None
  id-kept i there = rw there refl

  item-kept : (id : ℕ) (l : Lit) → IsItem id l → has_record d m id ≡ true → id_lost d m (id_in l) ≡ None
  item-kept id l h there = ap (id_lost d m) h.is ∙ id-kept h.written (subst (λ n. has_record d m n ≡ true) (sym h.number) there)

  pub items-kept : (ids : List ℕ) (items : List Lit) → AllZip IsIdLitOf ids items → AreThere d m ids → items_lost d m items ≡ None
  items-kept [] [] zip there = refl
  items-kept [] (l ∷ items) zip there = absurd zip
  items-kept (id ∷ ids) [] zip there = absurd zip
  items-kept (id ∷ ids) (l ∷ items) zip there = rw (item-kept id l (item-of id l zip.0) there.0) (items-kept ids items zip.1 there.1)
