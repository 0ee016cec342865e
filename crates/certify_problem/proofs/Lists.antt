-- Lists by their places.
use Rattle.std.proofs.Common.{◌≡◌, ◌≢◌, ℕ, zero, suc, ◌+◌, ◌<◌, List, [], ◌∷◌, ◌++◌, Option, Some, None, Result, Ok, Err, IfOk, refl, sym, ◌∙◌, ap, arith, map, slice_get, replicate, All, append_assoc}
use Rattle.std.specs.Prelude.{AllPairs}
use Rattle.std.specs.List.{range_with_len}
use Rattle.std.specs.Option.{option_flatten, option_map}
use Rattle.std.proofs.lemmas.List.Kept.{AllPairs-cons}
use Rattle.form_terms.proofs.Kept.{All-from}
use Rattle.form_terms.proofs.Lists.{range-within}

-- what holds of an answer, where it holds of what was given
pub ok_too : {T E : Type 0} (r : Result T E) (P Q : T → Type 0) → ((x : T) → P x → Q x) → IfOk r P → IfOk r Q
ok_too (Ok x) P Q h k = h x k
ok_too (Err e) P Q h k = tt

pub slice_map : {X Y : Type 0} (f : X → Y) (xs : List X) (k : ℕ) → slice_get (map f xs) k ≡ option_map f (slice_get xs k)
slice_map f [] k = refl
slice_map f (x ∷ xs) zero = refl
slice_map f (x ∷ xs) (suc k) = slice_map f xs k

-- what is there stands in front of what was put behind
flat_none : {X : Type 0} (gap k : ℕ) (x : X) → option_flatten (slice_get (replicate gap None) k) ≡ Some x → ⊥
flat_none zero k x e = cc
flat_none (suc gap) zero x e = cc
flat_none (suc gap) (suc k) x e = flat_none gap k x e

pub flat_own : {X : Type 0} (own : List (Option X)) (gap k : ℕ) (x : X) → option_flatten (slice_get (own ++ replicate gap None) k) ≡ Some x → slice_get own k ≡ Some (Some x)
flat_own [] gap k x e = absurd (flat_none gap k x e)
flat_own (o ∷ own) gap zero x e = ap (λ o. Some o) e
flat_own (o ∷ own) gap (suc k) x e = flat_own own gap k x e

range_split : (i m n : ℕ) → range_with_len i (m + n) ≡ range_with_len i m ++ range_with_len (i + m) n
range_split i zero n = let none : i + 0 ≡ i = omega arith in let less : 0 + n ≡ n = omega arith in ap (range_with_len i) less ∙ sym (ap (λ k. range_with_len k n) none)
range_split i (suc m) n =
    let next : suc m + n ≡ suc (m + n) = omega arith in
    let moved : i + 1 + m ≡ i + suc m = omega arith in
    ap (range_with_len i) next ∙ ap (λ ks. i ∷ ks) (range_split (i + 1) m n ∙ ap (λ k. range_with_len (i + 1) m ++ range_with_len k n) moved)

pub range_more : (i n : ℕ) → range_with_len i (n + 1) ≡ range_with_len i n ++ (i + n) ∷ []
range_more i n = range_split i n 1

replicate_more : {X : Type 0} (x : X) (n : ℕ) → replicate (suc n) x ≡ replicate n x ++ x ∷ []
replicate_more x zero = refl
replicate_more x (suc n) = ap (λ xs. x ∷ xs) (replicate_more x n)

-- one more behind the others
pub padded_more : {X : Type 0} (x : X) (first old new : List X) (gap : ℕ) → new ≡ old ++ x ∷ [] → old ≡ first ++ replicate gap x → new ≡ first ++ replicate (suc gap) x
padded_more x first old new gap e h =
    e ∙ (ap (λ xs. xs ++ x ∷ []) h ∙ (append_assoc first (replicate gap x) (x ∷ []) ∙ ap (λ xs. first ++ xs) (sym (replicate_more x gap))))

-- numbers from one on are below their end, and pairwise different
pub fixed_in : (t x : ℕ) → All (λ f. f < t + x) (range_with_len t x)
fixed_in t x = All-from (λ f. f < t + x) (range_with_len t x) (λ f there. (range-within t x f there).1)

pub fixed_once : (t x : ℕ) → AllPairs (λ f h. f ≢ h) (range_with_len t x)
fixed_once t zero = λ i j d lt within. absurd (omega arith)
fixed_once t (suc x) =
    AllPairs-cons (λ f h. f ≢ h) t (range_with_len (t + 1) x)
    (All-from (λ h. t ≢ h) (range_with_len (t + 1) x) (λ h there e. let k = range-within (t + 1) x h there in omega (arith, k.0, e))) (fixed_once (t + 1) x)
