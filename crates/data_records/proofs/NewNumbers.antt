-- The places of models and fields.
use Rattle.std.proofs.Common.{◌≡◌, ◌==◌, ℕ, ◌+◌, ◌≤◌, Bool, true, false, List, [], ◌∷◌, refl, ap, sym, ◌∙◌, cond, arith, length, map, not}
use Rattle.std.specs.Prelude.{Some, None, position}
use Rattle.std.specs.List.{position_or_len}
use Rattle.std.proofs.Math.Dec.{ltb}
use Rattle.std.proofs.lemmas.Bool.{ltb-false}
use Rattle.type_schema.specs.declared.schemas.FieldInfo as code_field
use Rattle.type_schema.specs.declared.schemas.ModelInfo as code_model
use Rattle.type_schema.specs.Schema.{FieldInfo, ModelInfo}
use Rattle.type_schema.specs.SchemaViews.{field_info_of, model_info_of}
use Rattle.data_records.specs.Renumbered.{new_model, place_of_field}

pub place-seen : {X Y : Type 0} (p : Y → Bool) (f : X → Y) (xs : List X) → position_or_len p (map f xs) ≡ position_or_len (λ x. p (f x)) xs
place-seen p f [] = refl
place-seen p f (x ∷ xs) = ap (λ n. cond (not (p (f x))) (1 + n) 0) (place-seen p f xs)

pub place-within : {X : Type 0} (p : X → Bool) (xs : List X) → position_or_len p xs ≤ length xs
place-within p [] = omega arith
place-within p (x ∷ xs) = go (place-within p xs) (p x)
  where
    go : position_or_len p xs ≤ length xs → (b : Bool) → cond (not b) (1 + position_or_len p xs) 0 ≤ length (x ∷ xs)
    go rest true = omega arith
    go rest false = omega (arith, rest)

pub place-some : {X : Type 0} (p : X → Bool) (xs : List X) (i : ℕ) → position p xs ≡ Some i → i ≡ position_or_len p xs
place-some p xs i e = go (ltb (position_or_len p xs) (length xs)) e
  where
    go : (b : Bool) → cond b (Some (position_or_len p xs)) None ≡ Some i → i ≡ position_or_len p xs
    go true h = cc
    go false h = cc

pub place-none : {X : Type 0} (p : X → Bool) (xs : List X) → position p xs ≡ None → length xs ≡ position_or_len p xs
place-none p xs e = go (ltb (position_or_len p xs) (length xs)) refl e
  where
    go : (b : Bool) → ltb (position_or_len p xs) (length xs) ≡ b → cond b (Some (position_or_len p xs)) None ≡ None → length xs ≡ position_or_len p xs
    go true t h = cc
    go false f h = omega (arith, ltb-false (position_or_len p xs) (length xs) f, place-within p xs)

pub model-some : (ms : List code_model.ModelInfo) (m i : ℕ) → Some i ≡ position (λ info. info.number == m) ms → i ≡ new_model (map model_info_of ms) m
model-some ms m i e = place-some (λ info. info.number == m) ms i (sym e) ∙ sym (place-seen (λ (info : ModelInfo). info.number == m) model_info_of ms)

pub model-none : (ms : List code_model.ModelInfo) (m : ℕ) → None ≡ position (λ info. info.number == m) ms → length ms ≡ new_model (map model_info_of ms) m
model-none ms m e = place-none (λ info. info.number == m) ms (sym e) ∙ sym (place-seen (λ (info : ModelInfo). info.number == m) model_info_of ms)

pub field-some : (before : ℕ) (fs : List code_field.FieldInfo) (f i : ℕ) → Some i ≡ position (λ info. info.number == f) fs → before + i ≡ before + place_of_field (map field_info_of fs) f
field-some before fs f i e =
    ap (λ n. before + n) (place-some (λ info. info.number == f) fs i (sym e) ∙ sym (place-seen (λ (info : FieldInfo). info.number == f) field_info_of fs))

pub field-none : (before : ℕ) (fs : List code_field.FieldInfo) (f : ℕ) → None ≡ position (λ info. info.number == f) fs
    → before + length fs ≡ before + place_of_field (map field_info_of fs) f
field-none before fs f e =
    ap (λ n. before + n) (place-none (λ info. info.number == f) fs (sym e) ∙ sym (place-seen (λ (info : FieldInfo). info.number == f) field_info_of fs))

pub place-below : {X : Type 0} (p : X → Bool) (xs : List X) (i : ℕ) → Some i ≡ position p xs → i ≤ length xs
place-below p xs i e = omega (arith, place-some p xs i (sym e), place-within p xs)
