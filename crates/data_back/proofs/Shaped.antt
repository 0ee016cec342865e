-- A value of a type is one of its shape whose ids are ids.
use Rattle.std.proofs.Common.{◌≡◌, sym, subst, inl, inr}
use Rattle.std.specs.Prelude.{◌↔◌}
use Rattle.std.specs.List.{AllByRecursion}
use Rattle.type_schema.specs.declared.types.TBase.{TBase}
use Rattle.type_schema.specs.declared.types.TBase.TheVariants as base
use Rattle.type_schema.specs.declared.types.TTy.{TTy}
use Rattle.type_schema.specs.declared.types.TTy.TheVariants.{Plain, Set, Opt}
use Rattle.data_meaning.specs.Values.{Value, IsId, IsBaseValueOf, IsValueOf, ids_in}
use Rattle.data_records.specs.Shape.{IsBaseShape, IsShape}

abbrev HasIds : Value → Type 0
HasIds v = AllByRecursion IsId (ids_in v)

base-value : (b : TBase) (v : Value) → IsBaseShape b v → HasIds v → IsBaseValueOf b v
base-value base.Bool v shape ids = shape
base-value base.Int v shape ids = shape
base-value base.Text v shape ids = shape
base-value (base.Id m) v shape ids = (shape.0, shape.1, (subst HasIds shape.1 ids).0)

base-shape : (b : TBase) (v : Value) → IsBaseValueOf b v → IsBaseShape b v × HasIds v
base-shape base.Bool v is = (is, subst HasIds (sym is.1) tt)
base-shape base.Int v is = (is, subst HasIds (sym is.1) tt)
base-shape base.Text v is = (is, subst HasIds (sym is.1) tt)
base-shape (base.Id m) v is = ((is.0, is.1), subst HasIds (sym is.1) (is.2, tt))

value : (t : TTy) (v : Value) → IsShape t v → HasIds v → IsValueOf t v
value (Plain b) v shape ids = base-value b v shape ids
value (Set m) v shape ids = (shape.0, shape.1, shape.2, subst HasIds shape.1 ids)
value (Opt b) v shape ids =
    elim shape [
      | inl none ↦ inl none
      | inr some ↦ inr (some.0, some.1, base-value b some.0 some.2 (subst HasIds some.1 ids))
    ]

shape : (t : TTy) (v : Value) → IsValueOf t v → IsShape t v × HasIds v
shape (Plain b) v is = base-shape b v is
shape (Set m) v is = ((is.0, is.1, is.2), subst HasIds (sym is.1) is.3)
shape (Opt b) v is =
    elim is [
      | inl none ↦ (inl none, subst HasIds (sym none) tt)
      | inr some ↦ let one = base-shape b some.0 some.2 in (inr (some.0, some.1, one.0), subst HasIds (sym some.1) one.1)
    ]

pub shaped : (t : TTy) (v : Value) → (IsShape t v × HasIds v) ↔ IsValueOf t v
shaped t v = (λ both. value t v both.0 both.1, λ is. shape t v is)
