-- Places of uses, form by form.
use Rattle.std.proofs.Common.{◌≡◌, ℕ, ◌-◌, Bool, true, false, refl, ap, ◌∙◌, nat_lt, subst}
use Rattle.std.specs.Prelude.{if◌then◌else◌, Result, Ok, Err, IfOk}
use Rattle.type_schema.specs.declared.trees.TExpr.{TExpr}
use Rattle.type_schema.specs.declared.trees.TSet.{TSet}
use Rattle.type_schema.specs.Trees.{Expr, SetExpr}
use Rattle.type_schema.specs.Views.{expr_of, set_of}
use Rattle.type_schema.specs.Schema.{Schema}
use Rattle.form_formula.specs.Trees.{Term, Formula}
use Rattle.duty_meaning.specs.Formulas.{Scene, Written}
use Rattle.duty_meaning.specs.Reach.{in_parts}
use Rattle.duty_builder.specs.declared.places.Place.{Place}
use Rattle.duty_builder.specs.Places.{place_data, IsIn, IsInSet}
use Rattle.duty_builder.proofs.Walks.{ap2}

module _ (s : Schema) (written : Written) (y : Term) (env : Scene) (above : ℕ) where
  abbrev data_of : Place → Formula
  data_of p = place_data s written y env p above

  push : (b : Bool) (first second : Place) → data_of (if b then first else second) ≡ (if b then data_of first else data_of second)
  push true first second = refl
  push false first second = refl

  -- a place in one of two parts
  pub in_two : (number count size : ℕ) (p first second : Place) (f g : ℕ → Formula) → p ≡ (if nat_lt number count then first else second) → count ≡ size
      → data_of first ≡ f number → data_of second ≡ g (number - count) → data_of p ≡ in_parts size f g number
  in_two number count size p first second f g is same one two =
      ap data_of is ∙ (push (nat_lt number count) first second
      ∙ (ap2 (λ a b. if nat_lt number count then a else b) one two
      ∙ ap (λ k. if nat_lt number k then f number else g (number - k)) same))

  -- and in one of three
  pub in_three : (number count size more size' rest last : ℕ) (p first q second third : Place) (f g h : ℕ → Formula)
      → p ≡ (if nat_lt number count then first else q) → q ≡ (if nat_lt rest more then second else third) → count ≡ size → more ≡ size'
      → rest ≡ number - count → last ≡ rest - more → data_of first ≡ f number → data_of second ≡ g rest → data_of third ≡ h last
      → data_of p ≡ in_parts size f (in_parts size' g h) number
  in_three number count size more size' rest last p first q second third f g h is later same same' left left' one two three =
      in_two number count size p first q f (in_parts size' g h) is same one
      (in_two rest more size' q second third g h later same' two (three ∙ ap h left') ∙ ap (in_parts size' g h) left)

pub ok_as : {A E : Type 0} (r : Result A E) (P Q : A → Type 0) → ((x : A) → P x → Q x) → IfOk r P → IfOk r Q
ok_as (Ok x) P Q go h = go x h
ok_as (Err e) P Q go h = tt

-- a place in an expression, by its form
pub in_form : (place : Place) (e : TExpr) (x : Expr) (number : ℕ) → x ≡ expr_of e → IsIn place x number → IsIn place (expr_of e) number
in_form place e x number is h = let P : Expr → Type 0 = λ x. IsIn place x number in subst P is h

pub in_set_form : (place : Place) (e : TSet) (x : SetExpr) (number : ℕ) → x ≡ set_of e → IsInSet place x number → IsInSet place (set_of e) number
in_set_form place e x number is h = let P : SetExpr → Type 0 = λ x. IsInSet place x number in subst P is h
