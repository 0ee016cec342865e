-- Tests and what they are true of.
use Rattle.std.proofs.Common.{◌≡◌, ℕ, Bool, true, false, ◌&&◌, List, [], ◌∷◌, refl, arith}
use Rattle.std.specs.Prelude.{Option, Some, None, nat_lt, ◌==◌, ◌||◌, if◌then◌else◌}
use Rattle.std.specs.Option.{option_or}
use Rattle.data_judge.specs.Faults.{has}
use Rattle.data_judge.specs.Meaning.{with_number}

pub or-none : {A : Type 0} (a b : Option A) → option_or a b ≡ None → (a ≡ None) × (b ≡ None)
or-none None b e = (refl, e)
or-none (Some x) b e = cc

pub both : (a b : Bool) → a && b ≡ true → (a ≡ true) × (b ≡ true)
both true b e = (refl, e)
both false b e = cc

pub either-false : (a b : Bool) → a || b ≡ false → (a ≡ false) × (b ≡ false)
either-false true b e = cc
either-false false b e = (refl, e)

-- where a test chooses nothing, it is the one or the other
pub chosen-else : {A : Type 0} (b : Bool) (x : A) (o : Option A) → (if b then Some x else o) ≡ None → (b ≡ false) × (o ≡ None)
chosen-else true x o e = cc
chosen-else false x o e = (refl, e)

pub chosen-then : {A : Type 0} (b : Bool) (x : A) (o : Option A) → (if b then o else Some x) ≡ None → (b ≡ true) × (o ≡ None)
chosen-then true x o e = (refl, e)
chosen-then false x o e = cc

or-twice : (a b : Bool) → a || b ≡ a || (a || b)
or-twice true b = refl
or-twice false b = refl

or-over : (a b c : Bool) → a || (b || c) ≡ b || (a || c)
or-over true true c = refl
or-over true false c = refl
or-over false true c = refl
or-over false false c = refl

pub same-number : (a b : ℕ) → (a == b) ≡ true → a ≡ b
same-number a b e = grind (arith, e)

pub has-with : (ns : List ℕ) (n q : ℕ) → has (with_number ns n) q ≡ (n == q) || has ns q
has-with [] n q = refl
has-with (x ∷ ns) n q =
    elim (nat_lt n x) as (λ (b : Bool). nat_lt n x ≡ b → has (with_number (x ∷ ns) n) q ≡ (n == q) || has (x ∷ ns) q) [
      | true ↦ λ e. rw e refl
      | false ↦ λ e.
          elim (n == x) as (λ (c : Bool). (n == x) ≡ c → has (with_number (x ∷ ns) n) q ≡ (n == q) || has (x ∷ ns) q) [
            | true ↦ λ f. rw (e, f, same-number n x f) (or-twice (x == q) (has ns q))
            | false ↦ λ f. rw (e, f, has-with ns n q) (or-over (x == q) (n == q) (has ns q))
          ] refl
    ] refl
