-- Why a field may not hold a value.
use Rattle.std.proofs.Common.{◌≡◌, ◌≤◌, ℕ, ◌+◌, Bool, true, false, Option, None, Some, refl, ap, ◌∙◌}
use Rattle.std.specs.Prelude.{◌-◌, nat_le, if◌then◌else◌}
use Rattle.std.specs.Option.{option_map, option_or}
use Rattle.std.proofs.lemmas.Bool.{le-leb, leb-true}
use Rattle.type_schema.specs.Schema.{FieldInfo, ModelInfo}
use Rattle.data_meaning.specs.Values.{Value}
use Rattle.data_meaning.specs.Database.{Database, field_at, has_record}
use Rattle.data_records.specs.Changed.{HasRoomFor, IsFitting}
use Rattle.data_records.specs.Room.{most_weight, total_weight, weight_of}
use Rattle.data_records.specs.Shape.{dangling_in}
use Rattle.door_meaning.specs.declared.reply.Fullness.TheVariants as full
use Rattle.door_meaning.specs.Records.{set_refusal}
use Rattle.door_meaning.specs.Replies.{Reply, Dangling, Full}

pub not-within : (a b : ℕ) → (a ≤ b → ⊥) → nat_le a b ≡ false
not-within a b above =
    elim (nat_le a b) as (λ (c : Bool). nat_le a b ≡ c → c ≡ false) [
      | true ↦ λ is. absurd (above (leb-true a b is))
      | false ↦ λ is. refl
    ] refl

module _ (d : Database) (m : ModelInfo) (f : FieldInfo) (id : ℕ) (v : Value) where
  abbrev room : Bool
  room = nat_le (weight_of v) (weight_of (field_at d m.number id f.number) + (most_weight - total_weight d))

  abbrev asked : Option ℕ → Bool → Option Reply
  asked o b = option_or (option_map (λ i. Dangling f.name i) o) (if b then None else Some (Full full.Weight))

  pub set-dangling : (i : ℕ) → dangling_in (has_record d) f.ty v ≡ Some i → set_refusal d m f id v ≡ Some (Dangling f.name i)
  set-dangling i is = ap (λ o. asked o room) is

  pub set-heavy : dangling_in (has_record d) f.ty v ≡ None → (HasRoomFor d (field_at d m.number id f.number) v → ⊥) → set_refusal d m f id v ≡ Some (Full full.Weight)
  set-heavy none much =
      ap (λ o. asked o room) none
      ∙ ap (λ b. asked None b) (not-within (weight_of v) (weight_of (field_at d m.number id f.number) + (most_weight - total_weight d)) much)

  pub set-fits : IsFitting d m.number id f v → set_refusal d m f id v ≡ None
  set-fits fits =
      ap (λ o. asked o room) fits.there
      ∙ ap (λ b. asked None b) (le-leb (weight_of v) (weight_of (field_at d m.number id f.number) + (most_weight - total_weight d)) fits.room)
