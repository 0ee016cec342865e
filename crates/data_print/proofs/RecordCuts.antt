-- Where the text of a record ends, and that of the records of a table.
use Rattle.std.proofs.Common.{◌≡◌, ℕ, ◌+◌, ◌≤◌, false, List, [], ◌∷◌, ◌++◌, refl, sym, ◌∙◌, ap, cond, arith, append_assoc, append-nil, codes}
use Rattle.std.specs.Prelude.{Some, ◌==◌, nat_eq}
use Rattle.std.specs.List.{find, flat_map, join_by, concat, AllByRecursion, IsDistinct}
use Rattle.std.specs.Option.{option_map_or}
use Rattle.std.proofs.lemmas.Bool.{eq-eqb}
use Rattle.type_schema.specs.Schema.{FieldInfo, ModelInfo}
use Rattle.type_schema.specs.Proper.{field_numbers}
use Rattle.data_meaning.specs.Values.{Value, Nothing, last_id}
use Rattle.data_meaning.specs.Database.{Slot, Record, Database, AreSlots, IsRecordIn}
use Rattle.data_print.specs.Texts.{id_text, value_text, record_text}
use Rattle.data_print.proofs.Cuts.{cancel, both, front, Stops, id-cut}
use Rattle.data_print.proofs.ValueCuts.{value-cut}

abbrev held : List Slot → ℕ → Value
held slots f = option_map_or (λ (slot : Slot). slot.value) (find (λ (slot : Slot). slot.field == f) slots) Nothing

abbrev named : List Slot → FieldInfo → List ℕ
named slots f = concat (f.name ∷ codes ": " ∷ value_text (held slots f.number) ∷ [])

-- fields behind the first
abbrev more : List Slot → List FieldInfo → List ℕ
more slots = flat_map (λ f. codes ", " ++ named slots f)

abbrev made-slot : ℕ → Value → Slot
made-slot f v = record { field = f; value = v }

abbrev made-record : ℕ → List Slot → Record
made-record i slots = record { id = i; slots = slots }

same-slot : (a b : Slot) → a.field ≡ b.field → a.value ≡ b.value → a ≡ b
same-slot a b e f = ap (λ n. made-slot n a.value) e ∙ ap (made-slot b.field) f

same-record : (a b : Record) → a.id ≡ b.id → a.slots ≡ b.slots → a ≡ b
same-record a b e f = ap (λ n. made-record n a.slots) e ∙ ap (made-record b.id) f

held-first : (a : Slot) (us : List Slot) (f : ℕ) → a.field ≡ f → held (a ∷ us) f ≡ a.value
held-first a us f e = ap (λ b. option_map_or (λ (slot : Slot). slot.value) (cond b (Some a) (find (λ (slot : Slot). slot.field == f) us)) Nothing) (eq-eqb a.field f e)

held-later : (a : Slot) (us : List Slot) (n g : ℕ) → a.field ≡ n → nat_eq n g ≡ false → held (a ∷ us) g ≡ held us g
held-later a us n g e other =
    ap (λ b. option_map_or (λ (slot : Slot). slot.value) (cond b (Some a) (find (λ (slot : Slot). slot.field == g) us)) Nothing)
    (ap (λ k. k == g) e ∙ other)

more-later : (a : Slot) (us : List Slot) (n : ℕ) (fs : List FieldInfo) → a.field ≡ n → AllByRecursion (λ k. nat_eq n k ≡ false) (field_numbers fs) → more (a ∷ us) fs ≡ more us fs
more-later a us n [] e others = refl
more-later a us n (f ∷ fs) e others =
    ap (λ v. (codes ", " ++ concat (f.name ∷ codes ": " ∷ value_text v ∷ [])) ++ more (a ∷ us) fs) (held-later a us n f.number e others.0)
    ∙ ap (λ z. (codes ", " ++ named us f) ++ z) (more-later a us n fs e others.1)

spread : (n v m t : List ℕ) → ((n ++ (codes ": " ++ (v ++ []))) ++ m) ++ t ≡ n ++ (codes ": " ++ (v ++ (m ++ t)))
spread n v m t = simp (append_assoc, append-nil)

spread-field : (f : FieldInfo) (slots : List Slot) (fs : List FieldInfo) (v : Value) (m t : List ℕ) → held slots f.number ≡ v → more slots fs ≡ m
    → (named slots f ++ more slots fs) ++ t ≡ f.name ++ (codes ": " ++ (value_text v ++ (m ++ t)))
spread-field f slots fs v m t hv hm =
    ap (λ w. (concat (f.name ∷ codes ": " ∷ value_text w ∷ []) ++ more slots fs) ++ t) hv
    ∙ ap (λ z. (concat (f.name ∷ codes ": " ∷ value_text v ∷ []) ++ z) ++ t) hm ∙ spread f.name (value_text v) m t

stops-more : (slots : List Slot) (fs : List FieldInfo) (r : List ℕ) → Stops (more slots fs ++ 125 ∷ r)
stops-more slots [] r = omega arith
stops-more slots (f ∷ fs) r = omega arith

module _ (d e : Database) where
  -- from a field on, where what is behind it is told
  first-cut : (f : FieldInfo) (fs : List FieldInfo) (a b : Slot) (us ws : List Slot) (r s : List ℕ) → IsDistinct nat_eq (field_numbers (f ∷ fs))
      → AreSlots d (f ∷ fs) (a ∷ us) → AreSlots e (f ∷ fs) (b ∷ ws)
      → (more us fs ++ 125 ∷ r ≡ more ws fs ++ 125 ∷ s → (us ≡ ws) × (r ≡ s))
      → (named (a ∷ us) f ++ more (a ∷ us) fs) ++ 125 ∷ r ≡ (named (b ∷ ws) f ++ more (b ∷ ws) fs) ++ 125 ∷ s → (a ∷ us ≡ b ∷ ws) × (r ≡ s)
  unfolding IsDistinct
  first-cut f fs a b us ws r s apart ia ib later same =
      let left = spread-field f (a ∷ us) fs a.value (more us fs) (125 ∷ r) (held-first a us f.number ia.0.0) (more-later a us f.number fs ia.0.0 apart.0) in
      let right = spread-field f (b ∷ ws) fs b.value (more ws fs) (125 ∷ s) (held-first b ws f.number ib.0.0) (more-later b ws f.number fs ib.0.0 apart.0) in
      let whole = sym left ∙ same ∙ right in
      let inner = cancel (codes ": ") (value_text a.value ++ (more us fs ++ 125 ∷ r)) (value_text b.value ++ (more ws fs ++ 125 ∷ s))
      (cancel f.name (codes ": " ++ (value_text a.value ++ (more us fs ++ 125 ∷ r))) (codes ": " ++ (value_text b.value ++ (more ws fs ++ 125 ∷ s))) whole) in
      let cut = value-cut f.ty a.value b.value (more us fs ++ 125 ∷ r) (more ws fs ++ 125 ∷ s) ia.0.1 ib.0.1 (stops-more us fs r) (stops-more ws fs s) inner in
      let rest = later cut.1 in
      (both a b us ws (same-slot a b (ia.0.0 ∙ sym ib.0.0) cut.0) rest.0, rest.1)

  more-cut : (fs : List FieldInfo) (us ws : List Slot) (r s : List ℕ) → IsDistinct nat_eq (field_numbers fs) → AreSlots d fs us → AreSlots e fs ws
      → more us fs ++ 125 ∷ r ≡ more ws fs ++ 125 ∷ s → (us ≡ ws) × (r ≡ s)
  unfolding IsDistinct
  more-cut [] [] [] r s apart ia ib same = (refl, cancel (125 ∷ []) r s same)
  more-cut [] [] (b ∷ ws) r s apart ia ib same = absurd ib
  more-cut [] (a ∷ us) ws r s apart ia ib same = absurd ia
  more-cut (f ∷ fs) [] ws r s apart ia ib same = absurd ia
  more-cut (f ∷ fs) (a ∷ us) [] r s apart ia ib same = absurd ib
  more-cut (f ∷ fs) (a ∷ us) (b ∷ ws) r s apart ia ib same =
      first-cut f fs a b us ws r s apart ia ib (λ h. more-cut fs us ws r s apart.1 ia.1 ib.1 h)
      (cancel (codes ", ") ((named (a ∷ us) f ++ more (a ∷ us) fs) ++ 125 ∷ r) ((named (b ∷ ws) f ++ more (b ∷ ws) fs) ++ 125 ∷ s) same)

  slots-cut : (fs : List FieldInfo) (us ws : List Slot) (r s : List ℕ) → IsDistinct nat_eq (field_numbers fs) → AreSlots d fs us → AreSlots e fs ws
      → join_by (named us) (codes ", ") fs ++ 125 ∷ r ≡ join_by (named ws) (codes ", ") fs ++ 125 ∷ s → (us ≡ ws) × (r ≡ s)
  unfolding IsDistinct
  slots-cut [] [] [] r s apart ia ib same = (refl, cancel (125 ∷ []) r s same)
  slots-cut [] [] (b ∷ ws) r s apart ia ib same = absurd ib
  slots-cut [] (a ∷ us) ws r s apart ia ib same = absurd ia
  slots-cut (f ∷ fs) [] ws r s apart ia ib same = absurd ia
  slots-cut (f ∷ fs) (a ∷ us) [] r s apart ia ib same = absurd ib
  slots-cut (f ∷ fs) (a ∷ us) (b ∷ ws) r s apart ia ib same =
      first-cut f fs a b us ws r s apart ia ib (λ h. more-cut fs us ws r s apart.1 ia.1 ib.1 h) same

  line : (a b c d t : List ℕ) → (a ++ (b ++ (c ++ (d ++ 125 ∷ 10 ∷ [])))) ++ t ≡ a ++ (b ++ (c ++ (d ++ 125 ∷ 10 ∷ t)))
  line a b c d t = simp append_assoc

  pub record-cut : (m : ModelInfo) (k n : ℕ) (p q : Record) (r s : List ℕ) → IsDistinct nat_eq (field_numbers m.fields) → k ≤ last_id + 1 → n ≤ last_id + 1
      → IsRecordIn d m k p → IsRecordIn e m n q → record_text m p ++ r ≡ record_text m q ++ s → (p ≡ q) × (r ≡ s)
  record-cut m k n p q r s apart bk bn ip iq same =
      let jp = join_by (named p.slots) (codes ", ") m.fields in
      let jq = join_by (named q.slots) (codes ", ") m.fields in
      let whole = sym (line (codes "  ") (id_text p.id) (codes " {") jp r) ∙ same ∙ line (codes "  ") (id_text q.id) (codes " {") jq s in
      let ids = id-cut p.id q.id (codes " {" ++ (jp ++ 125 ∷ 10 ∷ r)) (codes " {" ++ (jq ++ 125 ∷ 10 ∷ s)) (omega (arith, ip.given, bk)) (omega (arith, iq.given, bn))
      (omega arith) (omega arith)
      (cancel (codes "  ") (id_text p.id ++ (codes " {" ++ (jp ++ 125 ∷ 10 ∷ r))) (id_text q.id ++ (codes " {" ++ (jq ++ 125 ∷ 10 ∷ s))) whole) in
      let cut = slots-cut m.fields p.slots q.slots (10 ∷ r) (10 ∷ s) apart ip.slots iq.slots (cancel (codes " {") (jp ++ 125 ∷ 10 ∷ r) (jq ++ 125 ∷ 10 ∷ s) ids.1) in
      (same-record p q ids.0 cut.0, cancel (10 ∷ []) r s cut.1)

  pub records-cut : (m : ModelInfo) (k n : ℕ) (ps qs : List Record) (r s : List ℕ) → IsDistinct nat_eq (field_numbers m.fields) → k ≤ last_id + 1 → n ≤ last_id + 1
      → AllByRecursion (IsRecordIn d m k) ps → AllByRecursion (IsRecordIn e m n) qs
      → flat_map (record_text m) ps ++ 125 ∷ r ≡ flat_map (record_text m) qs ++ 125 ∷ s → (ps ≡ qs) × (r ≡ s)
  records-cut m k n [] [] r s apart bk bn ip iq same = (refl, cancel (125 ∷ []) r s same)
  records-cut m k n [] (q ∷ qs) r s apart bk bn ip iq same = let h : 125 ≡ 32 = ap front same in absurd (omega (arith, h))
  records-cut m k n (p ∷ ps) [] r s apart bk bn ip iq same = let h : 32 ≡ 125 = ap front same in absurd (omega (arith, h))
  records-cut m k n (p ∷ ps) (q ∷ qs) r s apart bk bn ip iq same =
      let cut = record-cut m k n p q (flat_map (record_text m) ps ++ 125 ∷ r) (flat_map (record_text m) qs ++ 125 ∷ s) apart bk bn ip.0 iq.0
      (sym (append_assoc (record_text m p) (flat_map (record_text m) ps) (125 ∷ r)) ∙ same ∙ append_assoc (record_text m q) (flat_map (record_text m) qs) (125 ∷ s)) in
      let rest = records-cut m k n ps qs r s apart bk bn ip.1 iq.1 cut.1 in
      (both p q ps qs cut.0 rest.0, rest.1)
