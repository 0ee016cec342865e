-- Numbers of functions and set relations, which only matter where formulas are written.
use Rattle.std.proofs.Common.{◌≡◌, ℕ, Bool, true, false, refl, ap}
use Rattle.std.specs.Prelude.{Result}
use Rattle.form_formula.specs.Trees.{Term, Formula, flag, has, present}
use Rattle.duty_meaning.specs.Sizes.{size}
use Rattle.duty_meaning.specs.Cases.{atom}
use Rattle.duty_writer.specs.declared.make_err.MakeErr.{MakeErr}
use Rattle.duty_writer.specs.declared.writer.Mode.TheVariants.{Build}
use Rattle.duty_writer.specs.declared.writer.Writer.{Writer}
use Rattle.duty_writer.specs.Made.{Makes}
use Rattle.duty_writer.proofs.Joining.{made_as}

pub made_for : (f : ℕ → Formula) (old new : Writer) (r : Result ℕ MakeErr) (a b : ℕ) → size (f a) ≡ size (f b) → (old.mode ≡ Build → a ≡ b)
    → Makes old r new (f a) → Makes old r new (f b)
made_for f old new r a b sizes same made = made_as (size (f a)) (size (f b)) old new (f a) (f b) r (λ build. ap f (same build)) sizes made

pub size-flag : (sign : Bool) (a b : ℕ) (t : Term) → size (atom sign (flag a t)) ≡ size (atom sign (flag b t))
size-flag true a b t = refl
size-flag false a b t = refl

pub size-present : (sign : Bool) (a b : ℕ) (t : Term) → size (atom sign (present a t)) ≡ size (atom sign (present b t))
size-present true a b t = refl
size-present false a b t = refl

pub size-has : (sign : Bool) (a b : ℕ) (t u : Term) → size (atom sign (has a t u)) ≡ size (atom sign (has b t u))
size-has true a b t u = refl
size-has false a b t u = refl
