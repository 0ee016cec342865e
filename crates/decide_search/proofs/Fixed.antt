-- Numbers from one on.
use Rattle.std.proofs.Common.{◌≢◌, ℕ, zero, suc, ◌+◌, ◌<◌, arith, All}
use Rattle.std.specs.Prelude.{AllPairs}
use Rattle.std.specs.List.{range_with_len}
use Rattle.std.proofs.lemmas.List.Kept.{AllPairs-cons}
use Rattle.form_terms.proofs.Kept.{All-from}
use Rattle.form_terms.proofs.Lists.{range-within}

-- they are below their end
pub fixed_in : (t x : ℕ) → All (λ f. f < t + x) (range_with_len t x)
fixed_in t x = All-from (λ f. f < t + x) (range_with_len t x) (λ f there. (range-within t x f there).1)

-- and pairwise different
pub fixed_once : (t x : ℕ) → AllPairs (λ f h. f ≢ h) (range_with_len t x)
fixed_once t zero = λ i j d lt within. absurd (omega arith)
fixed_once t (suc x) =
    AllPairs-cons (λ f h. f ≢ h) t (range_with_len (t + 1) x)
    (All-from (λ h. t ≢ h) (range_with_len (t + 1) x) (λ h there e. let k = range-within (t + 1) x h there in omega (arith, k.0, e))) (fixed_once (t + 1) x)
