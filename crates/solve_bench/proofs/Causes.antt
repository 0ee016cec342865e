-- Why numbers are refused, from why one of them is.
use Rattle.std.proofs.Common.{ℕ, ◌<◌, List, length, get_or, ℤ, pos}
use Rattle.std.specs.List.{Any}
use Rattle.std.proofs.lemmas.List.{get_or_default}
use Rattle.solve_bench.specs.declared.refusal.Refusal.{Refusal}
use Rattle.solve_bench.specs.declared.refusal.Refusal.TheVariants.{NoHeader, TooManyVariables, TooManyNumbers, NoNumber, UnknownVariable, NoEnd, OtherCount, OutOfMemory}
use Rattle.solve_bench.specs.Causes.{IsUnknown, IsCauseAt, IsCause}

some_at : (P : ℤ → Type 0) (numbers : List ℤ) (k : ℕ) → k < length numbers → P (get_or numbers k (pos 0)) → Any P numbers
some_at P numbers k l h = let n = get_or numbers k (pos 0) in (k, n, l, get_or_default numbers k n (pos 0) l, h)

pub cause_from : (vars : ℕ) (numbers : List ℤ) (k : ℕ) → k < length numbers → (e : Refusal) → IsCauseAt vars (get_or numbers k (pos 0)) e → IsCause vars numbers e
cause_from vars numbers k l NoHeader h = h
cause_from vars numbers k l TooManyVariables h = h
cause_from vars numbers k l TooManyNumbers h = h
cause_from vars numbers k l NoNumber h = h
cause_from vars numbers k l UnknownVariable h = some_at (IsUnknown vars) numbers k l h
cause_from vars numbers k l NoEnd h = absurd h
cause_from vars numbers k l OtherCount h = h
cause_from vars numbers k l OutOfMemory h = h
