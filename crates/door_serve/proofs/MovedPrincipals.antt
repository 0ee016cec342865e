-- Principals under the numbers of a schema numbered anew.
use Rattle.std.proofs.Common.{◌≡◌, ◌==◌, ℕ, zero, suc, ◌<◌, Bool, true, false, List, [], ◌∷◌, ◌++◌, Option, None, Some, refl, ap, sym, ◌∙◌, cond, map, is_some, length, take, drop, get_or, set, arith, ◌+◌, length-set}
use Rattle.std.specs.Prelude.{position, ◌||◌}
use Rattle.std.specs.List.{find, list_any, position_or_len}
use Rattle.std.specs.Option.{option_map_or}
use Rattle.type_schema.specs.declared.schemas.StaticInfo as code_static
use Rattle.type_schema.specs.declared.schemas.ModelInfo as code_model
use Rattle.type_schema.specs.declared.schemas.Schema as code
use Rattle.type_schema.specs.Schema.{StaticInfo, ModelInfo, Schema}
use Rattle.type_schema.specs.SchemaViews.{model_info_of, schema_of, static_info_of}
use Rattle.data_meaning.specs.declared.principals.Principal.{Principal}
use Rattle.data_meaning.specs.declared.principals.Principal.TheVariants.{Static, Rec}
use Rattle.data_records.proofs.NewNumbers.{place-seen, place-some}
use Rattle.door_meaning.specs.declared.session.Session.{Session}
use Rattle.door_meaning.specs.Migrates.{moved_principal, moved_session}
use Rattle.door_judge.proofs.Places.{nowhere, somewhere}

module _ {X Y : Type 0} (p : Y → Bool) (f : X → Y) where
  -- one is found where one of those that they stand for passes
  pub found-seen : (xs : List X) → is_some (find p (map f xs)) ≡ list_any (λ x. p (f x)) xs
  found-seen [] = refl
  found-seen (x ∷ xs) =
      elim (p (f x)) as (λ (b : Bool). is_some (cond b (Some (f x)) (find p (map f xs))) ≡ (b || list_any (λ y. p (f y)) xs)) [
        | true ↦ refl
        | false ↦ found-seen xs
      ]

  found : (xs : List X) (i : ℕ) → Some i ≡ position (λ x. p (f x)) xs → is_some (find p (map f xs)) ≡ true
  found xs i e = found-seen xs ∙ somewhere (λ x. p (f x)) xs i (sym e)

  not-found : (xs : List X) → None ≡ position (λ x. p (f x)) xs → is_some (find p (map f xs)) ≡ false
  not-found xs e = found-seen xs ∙ nowhere (λ x. p (f x)) xs (sym e)

  placed : (xs : List X) (i : ℕ) → Some i ≡ position (λ x. p (f x)) xs → position_or_len p (map f xs) ≡ i
  placed xs i e = place-seen p f xs ∙ sym (place-some (λ x. p (f x)) xs i (sym e))

pub static-some : (s : code.Schema) (n i m : ℕ) (xs : List code_static.StaticInfo) → m ≡ n → xs ≡ s.statics → Some i ≡ position (λ (info : code_static.StaticInfo). info.number == m) xs
    → Some (Static i) ≡ moved_principal (schema_of s) (Static n)
static-some s n i m xs same all e =
    let p : StaticInfo → Bool = λ info. info.number == n in
    let at : Some i ≡ position (λ (info : code_static.StaticInfo). info.number == n) s.statics =
    e ∙ ap (λ (k : ℕ). position (λ (info : code_static.StaticInfo). info.number == k) xs) same ∙ ap (position (λ (info : code_static.StaticInfo). info.number == n)) all in
    sym (ap (λ (b : Bool). cond b (Some (Static (position_or_len p (map static_info_of s.statics)))) None) (found p static_info_of s.statics i at)
    ∙ ap (λ (k : ℕ). Some (Static k)) (placed p static_info_of s.statics i at))

pub static-none : (s : code.Schema) (n m : ℕ) (xs : List code_static.StaticInfo) → m ≡ n → xs ≡ s.statics → None ≡ position (λ (info : code_static.StaticInfo). info.number == m) xs
    → None ≡ moved_principal (schema_of s) (Static n)
static-none s n m xs same all e =
    let p : StaticInfo → Bool = λ info. info.number == n in
    let at : None ≡ position (λ (info : code_static.StaticInfo). info.number == n) s.statics =
    e ∙ ap (λ (k : ℕ). position (λ (info : code_static.StaticInfo). info.number == k) xs) same ∙ ap (position (λ (info : code_static.StaticInfo). info.number == n)) all in
    sym (ap (λ (b : Bool). cond b (Some (Static (position_or_len p (map static_info_of s.statics)))) None) (not-found p static_info_of s.statics at))

pub record-some : (s : code.Schema) (n id i m : ℕ) (xs : List code_model.ModelInfo) → m ≡ n → xs ≡ s.models → Some i ≡ position (λ (info : code_model.ModelInfo). info.number == m) xs
    → Some (Rec i id) ≡ moved_principal (schema_of s) (Rec n id)
record-some s n id i m xs same all e =
    let p : ModelInfo → Bool = λ info. info.number == n in
    let at : Some i ≡ position (λ (info : code_model.ModelInfo). info.number == n) s.models =
    e ∙ ap (λ (k : ℕ). position (λ (info : code_model.ModelInfo). info.number == k) xs) same ∙ ap (position (λ (info : code_model.ModelInfo). info.number == n)) all in
    sym (ap (λ (b : Bool). cond b (Some (Rec (position_or_len p (map model_info_of s.models)) id)) None) (found p model_info_of s.models i at)
    ∙ ap (λ (k : ℕ). Some (Rec k id)) (placed p model_info_of s.models i at))

pub record-none : (s : code.Schema) (n id m : ℕ) (xs : List code_model.ModelInfo) → m ≡ n → xs ≡ s.models → None ≡ position (λ (info : code_model.ModelInfo). info.number == m) xs
    → None ≡ moved_principal (schema_of s) (Rec n id)
record-none s n id m xs same all e =
    let p : ModelInfo → Bool = λ info. info.number == n in
    let at : None ≡ position (λ (info : code_model.ModelInfo). info.number == n) s.models =
    e ∙ ap (λ (k : ℕ). position (λ (info : code_model.ModelInfo). info.number == k) xs) same ∙ ap (position (λ (info : code_model.ModelInfo). info.number == n)) all in
    sym (ap (λ (b : Bool). cond b (Some (Rec (position_or_len p (map model_info_of s.models)) id)) None) (not-found p model_info_of s.models at))

-- the first ones are changed, so many
abbrev pub first-changed : {A : Type 0} → (A → A) → ℕ → List A → List A
first-changed f n xs = map f (take n xs) ++ drop n xs

-- one more is changed
pub first-changed-more : {A : Type 0} (f : A → A) (xs : List A) (i : ℕ) (d : A) → i < length xs → set (first-changed f i xs) i (f (get_or (first-changed f i xs) i d)) ≡ first-changed f (suc i) xs
first-changed-more f [] i d within = absurd (omega arith)
first-changed-more f (x ∷ xs) zero d within = refl
first-changed-more f (x ∷ xs) (suc i) d within = ap (λ l. f x ∷ l) (first-changed-more f xs i d (omega arith))

pub first-changed-all : {A : Type 0} (f : A → A) (xs : List A) → first-changed f (length xs) xs ≡ map f xs
first-changed-all f [] = refl
first-changed-all f (x ∷ xs) = ap (λ l. f x ∷ l) (first-changed-all f xs)

-- one more session has its principal's new number
pub moved-more : (s : Schema) (xs ys zs given : List Session) (i : ℕ) (x : Session) (who : Option Principal) → ys ≡ first-changed (moved_session s) i xs → length ys ≡ length xs → given ≡ ys → i < length xs
    → who ≡ option_map_or (moved_principal s) (get_or given i x).who None → zs ≡ set ys i (record { name = (get_or ys i x).name; who = who; version = (get_or ys i x).version })
    → (zs ≡ first-changed (moved_session s) (i + 1) xs) × (length zs ≡ length xs)
moved-more s xs ys zs given i x who so_far size same within is changed =
    let f : Session → Session = moved_session s in
    let who_is : who ≡ option_map_or (moved_principal s) (get_or ys i x).who None = is ∙ ap (λ (l : List Session). option_map_or (moved_principal s) (get_or l i x).who None) same in
    let now : zs ≡ set ys i (f (get_or ys i x)) = changed ∙ ap (λ (w : Option Principal). set ys i (record { name = (get_or ys i x).name; who = w; version = (get_or ys i x).version })) who_is in
    let sized : length (set ys i (f (get_or ys i x))) ≡ length ys = simp length-set in
    let next : suc i ≡ i + 1 = omega arith in (
      now ∙ ap (λ (l : List Session). set l i (f (get_or l i x))) so_far ∙ first-changed-more f xs i x within ∙ ap (λ (n : ℕ). first-changed f n xs) next,
      ap length now ∙ sized ∙ size,
    )
