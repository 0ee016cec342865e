-- What is taken off.
use Rattle.std.proofs.Common.{◌≡◌, ℕ, ◌+◌, ◌≤◌, List, [], ◌∷◌, length, sym, ◌∙◌, subst, arith}
use Rattle.std.specs.Prelude.{Result, Ok, Err, fold}
use Rattle.form_formula.specs.Trees.{Term, Formula, bound, num, str, app}
use Rattle.duty_meaning.specs.Sizes.{term_size}
use Rattle.duty_writer.specs.declared.make_err.MakeErr.{MakeErr}
use Rattle.duty_writer.specs.declared.make_err.MakeErr.TheVariants.{Full, OutOfMemory}
use Rattle.duty_writer.specs.declared.writer.Writer.{Writer}
use Rattle.duty_writer.specs.Made.{IsCause, IsPaid, Pays, MakesFor}

pub cause_more : (a b : ℕ) (w : Writer) (e : MakeErr) → a ≤ b → IsCause a w e → IsCause b w e
cause_more a b w Full le h = omega arith
cause_more a b w OutOfMemory le h = tt

pub term_positive : (t : Term) → 1 ≤ term_size t
term_positive (bound sort depth) = omega arith
term_positive (num n) = omega arith
term_positive (str bytes) = omega arith
term_positive (app f t) = omega arith

-- what is too large for a part is too large for the whole
pub pays_stop : {A : Type 0} (a b : ℕ) (w new : Writer) (r : Result A MakeErr) (d e : MakeErr) → r ≡ Err d → d ≡ e → a ≤ b → IsCause a w e → Pays b w r new
pays_stop {A = A} a b w new r d e is same le h =
    let P : Result A MakeErr → Type 0 = λ x. Pays b w x new in
    let Q : MakeErr → Type 0 = λ x. IsCause b w x in
    subst P (sym is) (subst Q (sym same) (cause_more a b w e le h))

pub made_stop : (a b : ℕ) (w new : Writer) (f : Formula) (r : Result ℕ MakeErr) (d e : MakeErr) → r ≡ Err d → d ≡ e → a ≤ b → IsCause a w e → MakesFor b w r new f
made_stop a b w new f r d e is same le h =
    let P : Result ℕ MakeErr → Type 0 = λ x. MakesFor b w x new f in
    let Q : MakeErr → Type 0 = λ x. IsCause b w x in
    subst P (sym is) (subst Q (sym same) (cause_more a b w e le h))

-- a node for each function
pub size-chain : (functions : List ℕ) (t : Term) → term_size (fold (λ u f. app f u) t functions) ≡ length functions + term_size t
size-chain [] t = omega arith
size-chain (f ∷ functions) t = omega (arith, size-chain functions (app f t))

-- what is paid after something else
pub pays_later : {A : Type 0} (a b whole : ℕ) (old mid new : Writer) (r : Result A MakeErr) → whole ≡ a + b → IsPaid a old mid → Pays b mid r new → Pays whole old r new
pays_later a b whole old mid new (Ok v) is first h = record { left = omega (arith, first.left, h.left); arena = h.arena ∙ first.arena; mode = h.mode ∙ first.mode }
pays_later a b whole old mid new (Err e) is first h = later a b whole old mid e is first.left h
  where
    later : (a b whole : ℕ) (old mid : Writer) (e : MakeErr) → whole ≡ a + b → old.left ≡ mid.left + a → IsCause b mid e → IsCause whole old e
    later a b whole old mid Full is left h = omega arith
    later a b whole old mid OutOfMemory is left h = tt
