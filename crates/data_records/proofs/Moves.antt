-- Lists whose elements lose a field or get one more.
use Rattle.std.proofs.Common.{◌≡◌, ℕ, zero, suc, ◌-◌, ◌<◌, ◌≤◌, Bool, true, false, List, [], ◌∷◌, ◌++◌, refl, ap, ◌∙◌, arith, cond, get_or, set, length, map, take}
use Rattle.std.specs.Prelude.{filter, Result, Ok, Err, OnOk, OnErr, is_err}
use Rattle.data_meaning.specs.Values.{Value}
use Rattle.data_meaning.specs.Database.{Record}
use Rattle.data_records.specs.declared.record.Record as code_record
use Rattle.data_records.specs.Moved.{with_slot, with_slots}
use Rattle.data_records.specs.TakenBack.{without_last, without_last_in, taken_back}
use Rattle.data_records.specs.Views.{record_data}

-- a filter of a list that another list is made from
pub filter-seen : {X Y : Type 0} (seen : X → Y) (p : Y → Bool) (xs : List X) → map seen (filter (λ x. p (seen x)) xs) ≡ filter p (map seen xs)
filter-seen seen p [] = refl
filter-seen seen p (x ∷ xs) =
    elim (p (seen x)) as (λ (b : Bool). map seen (cond b (x ∷ filter (λ y. p (seen y)) xs) (filter (λ y. p (seen y)) xs)) ≡ cond b (seen x ∷ filter p (map seen xs)) (filter p (map seen xs))) [
      | true ↦ ap (λ ys. seen x ∷ ys) (filter-seen seen p xs)
      | false ↦ filter-seen seen p xs
    ]

-- ---- the last value

pub last-off : {X Y : Type 0} (seen : X → Y) (xs : List X) → map seen (take (length xs - 1) xs) ≡ without_last (map seen xs)
last-off seen [] = refl
last-off seen (x ∷ []) = refl
last-off seen (x ∷ (y ∷ xs)) =
    let n : length (x ∷ (y ∷ xs)) - 1 ≡ suc (length (y ∷ xs) - 1) = omega arith in
    ap (λ k. map seen (take k (x ∷ (y ∷ xs)))) n ∙ ap (λ ys. seen x ∷ ys) (last-off seen (y ∷ xs))

pub without-push : {A : Type 0} (xs : List A) (x : A) → without_last (xs ++ x ∷ []) ≡ xs
without-push [] x = refl
without-push (y ∷ []) x = refl
without-push (y ∷ (z ∷ xs)) x = ap (λ ys. y ∷ ys) (without-push (z ∷ xs) x)

back-off : (f : ℕ) (v : Value) (r : Record) → without_last_in (with_slot f v r) ≡ r
back-off f v r = ap (λ us. record { id = r.id; slots = us }) (without-push r.slots (record { field = f; value = v }))

-- ---- records behind the first so many

pub none-back : (rs : List Record) (n : ℕ) → length rs ≤ n → taken_back n rs ≡ rs
none-back [] zero past = refl
none-back [] (suc n) past = refl
none-back (r ∷ rs) zero past = absurd (omega arith)
none-back (r ∷ rs) (suc n) past = ap (λ us. r ∷ us) (none-back rs n (omega arith))

-- with one more that gave its last value
pub one-back : (rs : List code_record.Record) (n : ℕ) (u d : code_record.Record) → n < length rs → record_data u ≡ without_last_in (record_data (get_or rs n d))
    → taken_back (suc n) (map record_data (set rs n u)) ≡ taken_back n (map record_data rs)
one-back [] n u d below is = absurd (omega arith)
one-back (r ∷ rs) zero u d below is = ap (λ v. v ∷ map without_last_in (map record_data rs)) is
one-back (r ∷ rs) (suc n) u d below is = ap (λ us. record_data r ∷ us) (one-back rs n u d (omega arith) is)

-- with one more that got a value
pub one-on : (rs : List code_record.Record) (n f : ℕ) (v : Value) (u d : code_record.Record) → n < length rs → record_data u ≡ with_slot f v (record_data (get_or rs n d))
    → taken_back n (map record_data (set rs n u)) ≡ taken_back (suc n) (map record_data rs)
one-on [] n f v u d below is = absurd (omega arith)
one-on (r ∷ rs) zero f v u d below is = ap (λ w. w ∷ map without_last_in (map record_data rs)) (ap without_last_in is ∙ back-off f v (record_data r))
one-on (r ∷ rs) (suc n) f v u d below is = ap (λ us. record_data r ∷ us) (one-on rs n f v u d (omega arith) is)

-- ---- values in their order, the last one first

pub last-on : (f : ℕ) (vs : List Value) (v : Value) (rs : List code_record.Record) (n : ℕ) (u d : code_record.Record) → n ≡ length vs → n < length rs
    → record_data u ≡ with_slot f v (record_data (get_or rs n d)) → with_slots f vs (map record_data (set rs n u)) ≡ with_slots f (vs ++ v ∷ []) (map record_data rs)
last-on f vs v [] n u d same below is = absurd (omega arith)
last-on f [] v (r ∷ rs) zero u d same below is = ap (λ w. w ∷ map record_data rs) is
last-on f [] v (r ∷ rs) (suc n) u d same below is = absurd (omega arith)
last-on f (w ∷ vs) v (r ∷ rs) zero u d same below is = absurd (omega arith)
last-on f (w ∷ vs) v (r ∷ rs) (suc n) u d same below is = ap (λ us. with_slot f w (record_data r) ∷ us) (last-on f vs v rs n u d (omega arith) (omega arith) is)

-- ---- answers

pub on-ok : {T E P : Type 0} (r : Result T E) → is_err r ≡ false → OnOk r P → P
on-ok (Ok x) e p = p
on-ok (Err x) e p = cc

pub on-error : {T E P : Type 0} (r : Result T E) → is_err r ≡ true → OnErr r P → P
on-error (Ok x) e p = cc
on-error (Err x) e p = p
