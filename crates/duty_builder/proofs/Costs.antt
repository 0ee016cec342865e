-- What values count as, as sizes of formulas; and what is spent.
use Rattle.std.proofs.Common.{◌≡◌, ℕ, suc, ◌+◌, ◌-◌, ◌<◌, ◌≤◌, ap, subst, sym, ◌∙◌, arith}
use Rattle.std.proofs.lemmas.List.Sums.{sum_by-cons}
use Rattle.std.specs.Prelude.{Result, Ok, Err, map}
use Rattle.std.specs.List.{range_with_len}
use Rattle.type_schema.specs.Schema.{Schema}
use Rattle.type_schema.specs.Trees.{Init}
use Rattle.form_formula.specs.Trees.{Formula}
use Rattle.duty_meaning.specs.Sizes.{size, end_size, value_size, row, other}
use Rattle.duty_meaning.specs.Cases.{Cases, at_term, held, truth, among, none, some, choice, at_ends}
use Rattle.duty_meaning.specs.Formulas.{Written}
use Rattle.duty_meaning.specs.Reach.{init_reach}
use Rattle.duty_writer.specs.declared.make_err.MakeErr.{MakeErr}
use Rattle.duty_writer.specs.declared.make_err.MakeErr.TheVariants.{Full, OutOfMemory}
use Rattle.duty_writer.specs.declared.writer.Writer.{Writer}
use Rattle.duty_writer.specs.Made.{MakesFor, IsCause}
use Rattle.duty_builder.specs.Values.{end_formula}
use Rattle.duty_builder.specs.Spending.{Spends, use_sizes}

size-end : (s : Schema) (v : Cases) → size (end_formula s 2 v) ≡ end_size s v
size-end s (at_term t) = omega arith
size-end s (held m f t) = omega arith
size-end s (truth c) = omega arith
size-end s (among members) = omega arith
size-end s none = omega arith
size-end s (some v) = size-end s v
size-end s (choice c a b) = omega arith

-- the formula of a value is as large as the value counts as
pub size-cost : (s : Schema) (v : Cases) → size (at_ends 2 (end_formula s 2) v) ≡ value_size s v
size-cost s (at_term t) = size-end s (at_term t)
size-cost s (held m f t) = size-end s (held m f t)
size-cost s (truth c) = size-end s (truth c)
size-cost s (among members) = size-end s (among members)
size-cost s none = size-end s none
size-cost s (some v) = size-end s (some v)
size-cost s (choice c a b) = omega (arith, size-cost s a, size-cost s b)

-- a formula that was made was paid
pub made_spent : (cost cost' : ℕ) (old new : Writer) (f : Formula) (r : Result ℕ MakeErr) → cost ≡ cost' → MakesFor cost old r new f → Spends cost' old r new
made_spent cost cost' old new f (Ok id) same h = omega (arith, h.left)
made_spent cost cost' old new f (Err e) same h = let P : ℕ → Type 0 = λ n. MakesFor n old (Err e) new f in subst P same h

pub spends_same : {A : Type 0} (cost cost' : ℕ) (old new : Writer) (r : Result A MakeErr) → cost ≡ cost' → Spends cost old r new → Spends cost' old r new
spends_same cost cost' old new r same h = let P : ℕ → Type 0 = λ n. Spends n old r new in subst P same h

cause_after : (cost rest all : ℕ) (old mid : Writer) (e : MakeErr) → old.left + rest ≡ mid.left + all → cost ≤ rest → IsCause cost mid e → IsCause all old e
cause_after cost rest all old mid Full left le h = omega arith
cause_after cost rest all old mid OutOfMemory left le h = tt

-- what is too large for what is left is too large for all
pub spends_stop : {A : Type 0} (cost rest all : ℕ) (old mid new : Writer) (r : Result A MakeErr) (d e : MakeErr) → r ≡ Err d → d ≡ e
    → old.left + rest ≡ mid.left + all → cost ≤ rest → IsCause cost mid e → Spends all old r new
spends_stop {A = A} cost rest all old mid new r d e is same left le h =
    let P : Result A MakeErr → Type 0 = λ x. Spends all old x new in
    let Q : MakeErr → Type 0 = λ x. IsCause all old x in
    subst P (sym is) (subst Q (sym same) (cause_after cost rest all old mid e left le h))

-- one part after another
pub spends_later : {A : Type 0} (cost more : ℕ) (old mid new : Writer) (r : Result A MakeErr) → old.left ≡ mid.left + cost → Spends more mid r new → Spends (cost + more) old r new
spends_later cost more old mid new (Ok v) left h = omega arith
spends_later cost more old mid new (Err e) left h = cause_after more more (cost + more) old mid e (omega arith) (omega arith) h

-- one use of a field, and the others
pub next_use : (s : Schema) (written : Written) (init : Init) (from count left : ℕ) → left ≡ count - from → from < count
    → use_sizes s written init from left ≡ size (init_reach s written other init row from 2) + use_sizes s written init (from + 1) (count - (from + 1))
next_use s written init from count left is less =
    let e : left ≡ suc (count - (from + 1)) = omega arith in
    let uses : ℕ → ℕ = λ number. size (init_reach s written other init row number 2) in
    ap (use_sizes s written init from) e ∙ sum_by-cons (λ n. n) (uses from) (map uses (range_with_len (from + 1) (count - (from + 1))))
