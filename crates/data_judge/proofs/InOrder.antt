-- What is written in order: the names are those of the fields at their places, and ids that rise are a set as they stand.
use Rattle.std.proofs.Common.{◌≡◌, ◌∙◌, sym, ℕ, zero, suc, ◌+◌, ◌<◌, ◌≤◌, Bool, true, false, ◌||◌, cond, List, [], ◌∷◌, ◌++◌, map, refl, ap, subst, arith, append_assoc}
use Rattle.std.specs.Prelude.{Option, Some, None, Result, IfOk, ◌==◌, nat_lt, if◌then◌else◌, slice_get}
use Rattle.std.specs.Option.{option_or}
use Rattle.std.specs.List.{AllByRecursion, IsDistinct, find, fold, list_any}
use Rattle.std.specs.Str.{bytes_eq}
use Rattle.std.proofs.lemmas.Bool.{le-ltb, ne_eqb}
use Rattle.std.proofs.lemmas.List.{append-nil}
use Rattle.std.proofs.lemmas.Slice.Eq.{bytes_eq-Decides}
use Rattle.type_schema.specs.Schema.{FieldInfo, ModelInfo, Schema}
use Rattle.type_schema.specs.Proper.{AreProperFields, IsProper}
use Rattle.data_meaning.specs.Database.{Slot}
use Rattle.data_tree.specs.declared.literals.WrittenId.{WrittenId}
use Rattle.data_tree.specs.declared.literals.Lit.{Lit}
use Rattle.data_tree.specs.declared.tables.FieldLit.{FieldLit}
use Rattle.data_judge.specs.declared.fault.Fault.{Fault}
use Rattle.data_judge.specs.declared.fault.Fault.TheVariants as fault
use Rattle.data_judge.specs.Faults.{has, item_fault, items_fault, field_named, field_fault, model_named, are_given, row_fault, value_fault}
use Rattle.data_judge.specs.First.{first_behind, pushed}
use Rattle.data_judge.specs.InOrder.{AreApart, AreApartEach, IdsRiseFrom, are_in_order, first_paired, numbers_in, slots_paired}
use Rattle.data_judge.specs.Meaning.{id_in, ids_of, slot_of, value_of, with_item, with_number}
use Rattle.data_judge.proofs.Sets.{all-with}
use Rattle.data_judge.proofs.Standard.{all-found, bytes-same, finds-all}
use Rattle.data_judge.proofs.Tests.{both, either-false}

-- ---- lists

or-none : {A : Type 0} (o : Option A) → option_or o None ≡ o
or-none None = refl
or-none (Some x) = refl

or-true : (a : Bool) → a || true ≡ true
or-true true = refl
or-true false = refl

any-there : {A : Type 0} (p : A → Bool) (before after : List A) (x : A) → p x ≡ true → list_any p (before ++ x ∷ after) ≡ true
any-there p [] after x passes = ap (λ b. b || list_any p after) passes
any-there p (y ∷ before) after x passes = ap (λ b. p y || b) (any-there p before after x passes) ∙ or-true (p y)

any-nowhere : {A : Type 0} (p : A → Bool) (before : List A) (x : A) → list_any p before ≡ false → p x ≡ false → list_any p (before ++ x ∷ []) ≡ false
any-nowhere p [] x none fails = ap (λ b. b || false) fails
any-nowhere p (y ∷ before) x none fails =
    let parts = either-false (p y) (list_any p before) none in
    ap (λ b. b || list_any p (before ++ x ∷ [])) parts.0 ∙ any-nowhere p before x parts.1 fails

find-there : {A : Type 0} (p : A → Bool) (before after : List A) (x : A) → list_any p before ≡ false → p x ≡ true → find p (before ++ x ∷ after) ≡ Some x
find-there p [] after x none passes = ap (λ b. cond b (Some x) (find p after)) passes
find-there p (y ∷ before) after x none passes =
    let parts = either-false (p y) (list_any p before) none in
    ap (λ b. cond b (Some y) (find p (before ++ x ∷ after))) parts.0 ∙ find-there p before after x parts.1 passes

-- answers that are told by another equation
pub told : {T E : Type 0} (r : Result T E) (x y : T) → x ≡ y → IfOk r (λ t. t ≡ x) → IfOk r (λ t. t ≡ y)
told r x y same h = subst (λ z. IfOk r (λ t. t ≡ z)) same h

-- ---- fields in order

abbrev named : List ℕ → FieldLit → Bool
named name w = bytes_eq w.name.name name

-- none of the fields is written so far
abbrev AreFresh : List FieldLit → List FieldInfo → Type 0
AreFresh before fs = AllByRecursion (λ (f : FieldInfo). list_any (named f.name) before ≡ false) fs

fresh-at-first : (fs : List FieldInfo) → AreFresh [] fs
fresh-at-first [] = tt
fresh-at-first (f ∷ fs) = (refl, fresh-at-first fs)

fresher : (before : List FieldLit) (w : FieldLit) (f : FieldInfo) (fs : List FieldInfo) → w.name.name ≡ f.name
    → AllByRecursion (λ k. bytes_eq f.name k ≡ false) (map (λ (g : FieldInfo). g.name) fs) → AreFresh before fs → AreFresh (before ++ w ∷ []) fs
fresher before w f [] is apart fresh = tt
fresher before w f (g ∷ fs) is apart fresh =
    (any-nowhere (named g.name) before w fresh.0 (ap (λ n. bytes_eq n g.name) is ∙ apart.0), fresher before w f fs is apart.1 fresh.1)

-- each field is the one of its name
abbrev AreNamed : List FieldInfo → List FieldInfo → Type 0
AreNamed fields fs = AllByRecursion (λ (f : FieldInfo). field_named fields f.name ≡ Some f) fs

record IsNext (f : FieldInfo) (fs : List FieldInfo) (w : FieldLit) (ws : List FieldLit) : Type 0 where
  name : w.name.name ≡ f.name
  rest : are_in_order fs ws ≡ true

is-next : (f : FieldInfo) (fs : List FieldInfo) (w : FieldLit) (ws : List FieldLit) → are_in_order (f ∷ fs) (w ∷ ws) ≡ true → IsNext f fs w ws
is-next f fs w ws e =
    let parts = both (bytes_eq w.name.name f.name) (are_in_order fs ws) e in
    record { name = (bytes_eq-Decides w.name.name f.name).0 parts.0; rest = parts.1 }

no-field : {P : Type 0} (w : FieldLit) (ws : List FieldLit) → are_in_order [] (w ∷ ws) ≡ true → P
no-field w ws e = let no : false ≡ true = e in cc

no-value : {P : Type 0} (f : FieldInfo) (fs : List FieldInfo) → are_in_order (f ∷ fs) [] ≡ true → P
no-value f fs e = let no : false ≡ true = e in cc

abbrev value_fault_in : FieldInfo → FieldLit → Option Fault
value_fault_in f w = value_fault f.ty w.value

fields-in-order : (fields fs : List FieldInfo) (before ws : List FieldLit) → AreNamed fields fs → AreFresh before fs → AreApart fs → are_in_order fs ws ≡ true
    → first_behind (field_fault fields) pushed before ws ≡ first_paired value_fault_in fs ws
unfolding IsDistinct
fields-in-order fields [] before [] are fresh apart e = refl
fields-in-order fields [] before (w ∷ ws) are fresh apart e = no-field w ws e
fields-in-order fields (f ∷ fs) before [] are fresh apart e = no-value f fs e
fields-in-order fields (f ∷ fs) before (w ∷ ws) are fresh apart e =
    let next = is-next f fs w ws e in
    let found : field_named fields w.name.name ≡ Some f = ap (field_named fields) next.name ∙ are.0 in
    let new : list_any (named w.name.name) before ≡ false = ap (λ n. list_any (named n) before) next.name ∙ fresh.0 in
    let one : field_fault fields before w ≡ value_fault f.ty w.value = rw (found, new) refl in
    ap (λ o. option_or o (first_behind (field_fault fields) pushed (pushed before w) ws)) one
    ∙ ap (λ o. option_or (value_fault f.ty w.value) o)
    (fields-in-order fields fs (pushed before w) ws are.1 (fresher before w f fs next.name apart.0 fresh.1) apart.1 next.rest)

given-in-order : (fs : List FieldInfo) (before ws : List FieldLit) → are_in_order fs ws ≡ true → are_given fs (before ++ ws) ≡ true
given-in-order [] before ws e = refl
given-in-order (f ∷ fs) before [] e = no-value f fs e
given-in-order (f ∷ fs) before (w ∷ ws) e =
    let next = is-next f fs w ws e in
    let here : list_any (named f.name) (before ++ w ∷ ws) ≡ true = any-there (named f.name) before ws w (ap (λ n. bytes_eq n f.name) next.name ∙ bytes-same f.name) in
    let later : are_given fs (before ++ w ∷ ws) ≡ true
    = ap (are_given fs) (sym (append_assoc before (w ∷ []) ws)) ∙ given-in-order fs (before ++ w ∷ []) ws next.rest in
    rw (here, later) refl

slots-in-order : (fs : List FieldInfo) (before ws : List FieldLit) → AreFresh before fs → AreApart fs → are_in_order fs ws ≡ true
    → map (slot_of (before ++ ws)) fs ≡ slots_paired fs ws
unfolding IsDistinct
slots-in-order [] before ws fresh apart e = refl
slots-in-order (f ∷ fs) before [] fresh apart e = no-value f fs e
slots-in-order (f ∷ fs) before (w ∷ ws) fresh apart e =
    let next = is-next f fs w ws e in
    let found : find (named f.name) (before ++ w ∷ ws) ≡ Some w
    = find-there (named f.name) before ws w fresh.0 (ap (λ n. bytes_eq n f.name) next.name ∙ bytes-same f.name) in
    let made : Slot = record { field = f.number; value = value_of w.value } in
    let one : slot_of (before ++ w ∷ ws) f ≡ made = rw found refl in
    ap (λ s. s ∷ map (slot_of (before ++ w ∷ ws)) fs) one
    ∙ ap (λ ss. made ∷ ss)
    (ap (λ all. map (slot_of all) fs) (sym (append_assoc before (w ∷ []) ws))
    ∙ slots-in-order fs (before ++ w ∷ []) ws (fresher before w f fs next.name apart.0 fresh.1) apart.1 next.rest)

module _ (fields : List FieldInfo) (ws : List FieldLit) (apart : AreApart fields) (e : are_in_order fields ws ≡ true) where
  all-named : AreNamed fields fields
  all-named = finds-all bytes_eq bytes-same (λ (f : FieldInfo). f.name) fields apart

  pub row-in-order : (close : ℕ) → first_paired value_fault_in fields ws ≡ row_fault fields ws close
  row-in-order close =
      sym (
      ap (λ b. option_or (first_behind (field_fault fields) pushed [] ws) (if b then None else Some (fault.Absent close))) (given-in-order fields [] ws e)
      ∙ or-none (first_behind (field_fault fields) pushed [] ws) ∙ fields-in-order fields fields [] ws all-named (fresh-at-first fields) apart e)

  pub written-in-order : slots_paired fields ws ≡ map (slot_of ws) fields
  written-in-order = sym (slots-in-order fields [] ws (fresh-at-first fields) apart e)

all-at : {A : Type 0} (P : A → Type 0) (xs : List A) (i : ℕ) (x : A) → AllByRecursion P xs → slice_get xs i ≡ Some x → P x
all-at P [] i x all e = cc
all-at P (y ∷ xs) zero x all e = let one : y ≡ x = cc in subst P one all.0
all-at P (y ∷ xs) (suc i) x all e = all-at P xs i x all.1 e

-- where no two fields have one name, one with the name is the one of the name
pub named-at : (fields : List FieldInfo) (i : ℕ) (f : FieldInfo) (name : List ℕ) → AreApart fields → slice_get fields i ≡ Some f
    → bytes_eq f.name name ≡ true → field_named fields name ≡ Some f
named-at fields i f name apart here passes =
    let is : f.name ≡ name = (bytes_eq-Decides f.name name).0 passes in
    let all = finds-all bytes_eq bytes-same (λ (g : FieldInfo). g.name) fields apart in
    ap (field_named fields) (sym is) ∙ all-at (λ (g : FieldInfo). field_named fields g.name ≡ Some g) fields i f all here

fields-apart : (next : ℕ) (models : List ModelInfo) → AllByRecursion (AreProperFields next) models → AreApartEach models
fields-apart next [] all = tt
fields-apart next (m ∷ models) all = (all.0.names, fields-apart next models all.1)

-- the names of a proper schema
pub proper-apart : (s : Schema) → IsProper s → AreApartEach s.models
proper-apart s proper = fields-apart s.next_field s.models proper.fields

pub model-apart : (models : List ModelInfo) (name : List ℕ) (m : ModelInfo) → AreApartEach models → model_named models name ≡ Some m → AreApart m.fields
model-apart models name m all is = all-found (λ (k : ModelInfo). AreApart k.fields) (λ (k : ModelInfo). bytes_eq k.name name) models m all is

-- ---- ids that rise

has-not : (n : ℕ) (ns : List ℕ) → AllByRecursion (λ k. k < n) ns → has ns n ≡ false
has-not n [] below = refl
has-not n (k ∷ ns) below =
    let less : k < n = below.0 in
    ap (λ b. b || has ns n) (ne_eqb k n (λ e. omega (arith, e, less))) ∙ has-not n ns below.1

below-all : (n m : ℕ) (ns : List ℕ) → n ≤ m → AllByRecursion (λ k. k < n) ns → AllByRecursion (λ k. k < m) ns
below-all n m [] le below = tt
below-all n m (k ∷ ns) le below = (let less : k < n = below.0 in omega (arith, less, le), below-all n m ns le below.1)

pub item-seen : (seen : List ℕ) (l : Lit) (i : WrittenId) → id_in l ≡ Some i → with_item seen l ≡ with_number seen i.number
item-seen seen l i is = rw is refl

sound-rising : (least : ℕ) (seen : List ℕ) (items : List Lit) → AllByRecursion (λ k. k < least) seen → IdsRiseFrom least items
    → first_behind item_fault with_item seen items ≡ None
sound-rising least seen [] below up = refl
sound-rising least seen (l ∷ items) below (next, (i, is, low, above), later) =
    let under = below-all least i.number seen low below in
    let new : has seen i.number ≡ false = has-not i.number seen under in
    let one : item_fault seen l ≡ None = rw (is, new) refl in
    let all : AllByRecursion (λ k. k < next) (with_number seen i.number)
    = rw above (all-with (λ k. k < i.number + 1) seen i.number (below-all i.number (i.number + 1) seen (omega arith) under) (omega arith)) in
    ap (λ o. option_or o (first_behind item_fault with_item (with_item seen l) items)) one
    ∙ ap (λ ns. first_behind item_fault with_item ns items) (item-seen seen l i is)
    ∙ sound-rising next (with_number seen i.number) items all later

pub rising-sound : (items : List Lit) → IdsRiseFrom 0 items → items_fault items ≡ None
rising-sound items up = sound-rising 0 [] items tt up

-- a number above those of a set goes to its end
with-last : (ns : List ℕ) (n : ℕ) → AllByRecursion (λ k. k < n) ns → with_number ns n ≡ ns ++ n ∷ []
with-last [] n below = refl
with-last (k ∷ ns) n below =
    let less : k < n = below.0 in
    let lower : nat_lt n k ≡ false = le-ltb n k (omega (arith, less)) in
    let other : (n == k) ≡ false = ne_eqb n k (λ e. omega (arith, e, less)) in
    rw (lower, other, with-last ns n below.1) refl

numbers-rising : (least : ℕ) (seen : List ℕ) (items : List Lit) → AllByRecursion (λ k. k < least) seen → IdsRiseFrom least items
    → fold with_item seen items ≡ seen ++ numbers_in items
numbers-rising least seen [] below up = sym (append-nil seen)
numbers-rising least seen (l ∷ items) below (next, (i, is, low, above), later) =
    let under = below-all least i.number seen low below in
    let all : AllByRecursion (λ k. k < next) (with_number seen i.number)
    = rw above (all-with (λ k. k < i.number + 1) seen i.number (below-all i.number (i.number + 1) seen (omega arith) under) (omega arith)) in
    let one : numbers_in (l ∷ items) ≡ i.number ∷ numbers_in items = rw is refl in
    ap (λ ns. fold with_item ns items) (item-seen seen l i is) ∙ numbers-rising next (with_number seen i.number) items all later
    ∙ ap (λ ns. ns ++ numbers_in items) (with-last seen i.number under) ∙ append_assoc seen (i.number ∷ []) (numbers_in items) ∙ ap (λ ns. seen ++ ns) (sym one)

pub rising-numbers : (items : List Lit) → IdsRiseFrom 0 items → numbers_in items ≡ ids_of items
rising-numbers items up = sym (numbers-rising 0 [] items tt up)
