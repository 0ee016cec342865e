-- Why a row is refused.
use Rattle.std.proofs.Common.{◌≡◌, ◌≤◌, ◌<◌, ℕ, Bool, true, false, List, [], ◌∷◌, Option, None, Some, refl, ap, ◌∙◌, subst, cond, inl, inr}
use Rattle.std.specs.Prelude.{◌==◌, ◌-◌, not, nat_eq, nat_le, nat_lt, is_none, is_some, Result, Ok, Err, if◌then◌else◌}
use Rattle.std.specs.List.{AllByRecursion, IsDistinct, find}
use Rattle.std.specs.Option.{option_map, option_map_or, option_or}
use Rattle.std.proofs.lemmas.Bool.{eq-eqb, eqb-true, le-leb, le-ltb, lt-leb, lt-ltb}
use Rattle.data_tree.specs.declared.tables.FieldLit.{FieldLit}
use Rattle.type_schema.specs.Schema.{FieldInfo, ModelInfo, field_in}
use Rattle.type_schema.specs.Proper.{field_numbers}
use Rattle.data_meaning.specs.Values.{Value, last_id}
use Rattle.data_meaning.specs.Database.{Database}
use Rattle.data_judge.specs.Faults.{field_named}
use Rattle.data_judge.specs.Named.{field_value, put_before, row_named}
use Rattle.data_records.specs.Inserted.{IsAdmitted, is_there_or_next, next_of}
use Rattle.data_records.specs.Room.{HasRoom, most_records, most_weight, record_count, row_weight, total_weight}
use Rattle.data_records.specs.Rows.{AreAllThere, AreShaped, IsFirstDangling, IsFirstWrong}
use Rattle.data_records.specs.Shape.{There}
use Rattle.door_meaning.specs.declared.reply.Fullness.TheVariants as full
use Rattle.door_meaning.specs.Records.{first_dangling, first_unknown, make_refusal}
use Rattle.door_meaning.specs.Replies.{Reply, Dangling, Full, IdsSpent, Unknown}
use Rattle.door_judge.proofs.Refusals.{not-within}

-- ---- names

abbrev names_none : List FieldInfo → FieldLit → Bool
names_none fields w = is_none (field_named fields w.name.name)

pub unknown-none : (fields : List FieldInfo) (ws : List FieldLit) → find (names_none fields) ws ≡ None → first_unknown fields ws ≡ None
unknown-none fields [] none = refl
unknown-none fields (w ∷ ws) none =
    elim (field_named fields w.name.name) as (λ (o : Option FieldInfo). cond (is_none o) (Some w) (find (names_none fields) ws) ≡ None
    → option_map_or (λ (f : FieldInfo). first_unknown fields ws) o (Some (Unknown w.name.at)) ≡ None) [
      | None ↦ λ h. cc
      | Some f ↦ λ h. unknown-none fields ws h
    ] none

pub unknown-some : (fields : List FieldInfo) (ws : List FieldLit) (v : FieldLit) → find (names_none fields) ws ≡ Some v → first_unknown fields ws ≡ Some (Unknown v.name.at)
unknown-some fields [] v found = cc
unknown-some fields (w ∷ ws) v found =
    elim (field_named fields w.name.name) as (λ (o : Option FieldInfo). cond (is_none o) (Some w) (find (names_none fields) ws) ≡ Some v
    → option_map_or (λ (f : FieldInfo). first_unknown fields ws) o (Some (Unknown w.name.at)) ≡ Some (Unknown v.name.at)) [
      | None ↦ λ h. let same : w ≡ v = cc in ap (λ (u : FieldLit). Some (Unknown u.name.at)) same
      | Some f ↦ λ h. unknown-some fields ws v h
    ] found

-- ---- values

put-err : (v : Value) (r : Result (List Value) ℕ) (f : ℕ) → put_before v r ≡ Err f → r ≡ Err f
put-err v (Ok row) f e = cc
put-err v (Err g) f e = e

-- a field without a value is one of the fields
pub err-known : (m own : ℕ) (ws : List FieldLit) (fields : List FieldInfo) (f : ℕ) → row_named m own ws fields ≡ Err f → is_some (field_in fields f) ≡ true
err-known m own ws [] f e = cc
err-known m own ws (g ∷ fields) f e =
    elim (field_value m own ws g) as (λ (o : Option Value). option_map_or (λ v. put_before v (row_named m own ws fields)) o (Err g.number) ≡ Err f → is_some (field_in (g ∷ fields) f) ≡ true) [
      | None ↦ λ h. let same : g.number ≡ f = cc in ap (λ (b : Bool). is_some (cond b (Some g) (field_in fields f))) (eq-eqb g.number f same)
      | Some v ↦ λ h.
          let rest = err-known m own ws fields f (put-err v (row_named m own ws fields) f h) in
          elim (g.number == f) as (λ (b : Bool). is_some (cond b (Some g) (field_in fields f)) ≡ true) [
            | true ↦ refl
            | false ↦ rest
          ]
    ] e

pub shaped-not_wrong : (fields : List FieldInfo) (row : List Value) (n : ℕ) → AreShaped fields row → IsFirstWrong fields row n → ⊥
shaped-not_wrong [] [] n shaped wrong = wrong
shaped-not_wrong [] (v ∷ row) n shaped wrong = wrong
shaped-not_wrong (f ∷ fields) [] n shaped wrong = wrong
shaped-not_wrong (f ∷ fields) (v ∷ row) n shaped (inl here) = here.0 shaped.0
shaped-not_wrong (f ∷ fields) (v ∷ row) n shaped (inr later) = shaped-not_wrong fields row n shaped.1 later.1

-- ---- what they name

pub there-none : (there : There) (fields : List FieldInfo) (row : List Value) → AreAllThere there fields row → first_dangling there fields row ≡ None
there-none there [] row all = refl
there-none there (f ∷ fields) [] all = refl
there-none there (f ∷ fields) (v ∷ row) all =
    ap (λ (o : Option ℕ). option_or (option_map (λ id. Dangling f.name id) o) (first_dangling there fields row)) all.0 ∙ there-none there fields row all.1

abbrev IsNamedAs : There → List FieldInfo → List Value → (n id : ℕ) → FieldInfo → Type 0
IsNamedAs there fields row n id f = (field_in fields n ≡ Some f) × (first_dangling there fields row ≡ Some (Dangling f.name id))

apart-from : (g : FieldInfo) (fields : List FieldInfo) (n : ℕ) (f : FieldInfo) → AllByRecursion (λ k. nat_eq g.number k ≡ false) (field_numbers fields) → field_in fields n ≡ Some f → (g.number == n) ≡ false
apart-from g [] n f apart found = cc
apart-from g (h ∷ fields) n f apart found =
    elim (h.number == n) as (λ (b : Bool). (h.number == n) ≡ b → cond b (Some h) (field_in fields n) ≡ Some f → (g.number == n) ≡ false) [
      | true ↦ λ is e. subst (λ k. nat_eq g.number k ≡ false) (eqb-true h.number n is) apart.0
      | false ↦ λ is e. apart-from g fields n f apart.1 e
    ] refl found

pub dangling-named : (there : There) (fields : List FieldInfo) (row : List Value) (n id : ℕ) → IsDistinct nat_eq (field_numbers fields) → IsFirstDangling there fields row n id
    → (f : FieldInfo) × IsNamedAs there fields row n id f
unfolding IsDistinct
dangling-named there [] [] n id apart first = absurd first
dangling-named there [] (v ∷ row) n id apart first = absurd first
dangling-named there (f ∷ fields) [] n id apart first = absurd first
dangling-named there (f ∷ fields) (v ∷ row) n id apart (inl here) = (
  f,
  (
    ap (λ (b : Bool). cond b (Some f) (field_in fields n)) (eq-eqb f.number n here.1),
    ap (λ (o : Option ℕ). option_or (option_map (λ i. Dangling f.name i) o) (first_dangling there fields row)) here.0,
  ),
)
dangling-named there (f ∷ fields) (v ∷ row) n id apart (inr later) =
    let rest = dangling-named there fields row n id apart.1 later.1 in (
      rest.0,
      (
        ap (λ (b : Bool). cond b (Some f) (field_in fields n)) (apart-from f fields n rest.0 apart.0 rest.1.0) ∙ rest.1.0,
        ap (λ (o : Option ℕ). option_or (option_map (λ i. Dangling f.name i) o) (first_dangling there fields row)) later.0 ∙ rest.1.1,
      ),
    )

-- ---- how much there is

module _ (d : Database) (m : ModelInfo) (row : List Value) where
  abbrev asked : Option Reply → (records weight ids : Bool) → Option Reply
  asked o records weight ids =
      option_or o (if records then Some (Full full.Records) else (if not weight then Some (Full full.Weight) else (if ids then Some IdsSpent else None)))

  abbrev dangling : Option Reply
  dangling = first_dangling (is_there_or_next d m.number) m.fields row

  abbrev records : Bool
  records = nat_le most_records (record_count d)

  abbrev weight : Bool
  weight = nat_le (row_weight row) (most_weight - total_weight d)

  abbrev ids : Bool
  ids = nat_lt last_id (next_of d m.number)

  pub refuses-dangling : (reply : Reply) → first_dangling (is_there_or_next d m.number) m.fields row ≡ Some reply → make_refusal d m row ≡ Some reply
  refuses-dangling reply is = ap (λ o. asked o records weight ids) is

  pub refuses-records : AreAllThere (is_there_or_next d m.number) m.fields row → most_records ≤ record_count d → make_refusal d m row ≡ Some (Full full.Records)
  refuses-records all many =
      ap (λ o. asked o records weight ids) (there-none (is_there_or_next d m.number) m.fields row all) ∙ ap (λ b. asked None b weight ids) (le-leb most_records (record_count d) many)

  pub refuses-weight : AreAllThere (is_there_or_next d m.number) m.fields row → record_count d < most_records → (HasRoom d (row_weight row) → ⊥)
      → make_refusal d m row ≡ Some (Full full.Weight)
  refuses-weight all few much =
      ap (λ o. asked o records weight ids) (there-none (is_there_or_next d m.number) m.fields row all) ∙ ap (λ b. asked None b weight ids) (lt-leb most_records (record_count d) few)
      ∙ ap (λ b. asked None false b ids) (not-within (row_weight row) (most_weight - total_weight d) much)

  pub refuses-ids : AreAllThere (is_there_or_next d m.number) m.fields row → record_count d < most_records → HasRoom d (row_weight row) → last_id < next_of d m.number
      → make_refusal d m row ≡ Some IdsSpent
  refuses-ids all few room spent =
      ap (λ o. asked o records weight ids) (there-none (is_there_or_next d m.number) m.fields row all) ∙ ap (λ b. asked None b weight ids) (lt-leb most_records (record_count d) few)
      ∙ ap (λ b. asked None false b ids) (le-leb (row_weight row) (most_weight - total_weight d) room) ∙ ap (λ b. asked None false true b) (lt-ltb last_id (next_of d m.number) spent)

  pub refuses-nothing : IsAdmitted m d row → make_refusal d m row ≡ None
  refuses-nothing admitted =
      ap (λ o. asked o records weight ids) (there-none (is_there_or_next d m.number) m.fields row admitted.there)
      ∙ ap (λ b. asked None b weight ids) (lt-leb most_records (record_count d) admitted.fewer)
      ∙ ap (λ b. asked None false b ids) (le-leb (row_weight row) (most_weight - total_weight d) admitted.room)
      ∙ ap (λ b. asked None false true b) (le-ltb last_id (next_of d m.number) admitted.unspent)
