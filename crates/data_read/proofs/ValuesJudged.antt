-- What is written for a value of a type is that value, with nothing wrong.
use Rattle.std.proofs.Common.{◌≡◌, ℕ, ℤ, Bool, true, List, [], ◌∷◌, inl, inr, refl, sym, ◌∙◌, ap, subst}
use Rattle.std.specs.Prelude.{Option, None, Some, option_and_then}
use Rattle.std.specs.List.Sorted.{IsStrictlyIncreasing}
use Rattle.type_schema.specs.declared.types.TBase.{TBase}
use Rattle.type_schema.specs.declared.types.TBase.TheVariants as base
use Rattle.type_schema.specs.declared.types.TTy.{TTy}
use Rattle.type_schema.specs.declared.types.TTy.TheVariants.{Plain, Set, Opt}
use Rattle.data_meaning.specs.Values.{Value, Flag, Num, Str, Id, Ids, Nothing, Just, IsBaseValueOf, IsValueOf, ids_in}
use Rattle.data_meaning.specs.Database.{Database, AreThere, IsBaseIntact, IsIntact, has_record}
use Rattle.data_records.specs.Shape as shape
use Rattle.data_tree.specs.declared.literals.Lit.{Lit, out-Lit}
use Rattle.data_tree.specs.declared.literals.Lit.TheOpen.{Lit-F}
use Rattle.data_judge.specs.Faults.{is_base, option_fault, set_fault, value_fault}
use Rattle.data_judge.specs.Meaning.{id_in, layer_id, layer_value, plain_value, value_of}
use Rattle.data_judge.specs.References.{id_lost, layer_lost, value_lost}
use Rattle.data_read.specs.Spelled.{IsIdLitOf, IsLitOf}
use Rattle.data_read.proofs.Rising.{rises}
use Rattle.data_read.proofs.SetsJudged.{id-kept, items-are, items-kept, items-sound}

module _ (d : Database) where
  -- a value of a base type, by itself and in an option
  record IsBaseFine (b : TBase) (v : Value) (l : Lit) : Type 0 where
    plain : plain_value (out-Lit l) ≡ v
    value : value_of l ≡ v
    fits : is_base b (out-Lit l) ≡ true
    kept : option_and_then (λ m. layer_lost d m (out-Lit l)) (shape.base_model b) ≡ None
    inner : option_and_then (λ m. id_lost d m (id_in l)) (shape.base_model b) ≡ None

  flag-fine : (b : Bool) (l : Lit) → IsLitOf (Flag b) l → IsBaseFine base.Bool (Flag b) l
  flag-fine b l (at, is) = record { plain = ap plain_value is; value = ap layer_value is; fits = ap (is_base base.Bool) is; kept = refl; inner = refl }

  number-fine : (n : ℤ) (l : Lit) → IsLitOf (Num n) l → IsBaseFine base.Int (Num n) l
  number-fine n l (at, is) = record { plain = ap plain_value is; value = ap layer_value is; fits = ap (is_base base.Int) is; kept = refl; inner = refl }

  text-fine : (bytes : List ℕ) (l : Lit) → IsLitOf (Str bytes) l → IsBaseFine base.Text (Str bytes) l
  text-fine bytes l (at, is) = record { plain = ap plain_value is; value = ap layer_value is; fits = ap (is_base base.Text) is; kept = refl; inner = refl }

  id-fine : (m id : ℕ) (l : Lit) → has_record d m id ≡ true → IsIdLitOf id l → IsBaseFine (base.Id m) (Id id) l
  id-fine m id l there (i, at, number, is) =
      let found : id_lost d m (Some i) ≡ None = id-kept d m i (subst (λ n. has_record d m n ≡ true) (sym number) there) in
      record {
        plain = ap plain_value is ∙ ap Id number;
        value = ap layer_value is ∙ ap Id number;
        fits = ap (is_base (base.Id m)) is;
        kept = ap (layer_lost d m) is ∙ found;
        inner = ap (λ z. id_lost d m (layer_id z)) is ∙ found;
      }

  base-fine : (b : TBase) (v : Value) (l : Lit) → IsBaseValueOf b v → IsBaseIntact d b (ids_in v) → IsLitOf v l → IsBaseFine b v l
  base-fine base.Bool v l (b, is) intact h = subst (λ w. IsBaseFine base.Bool w l) (sym is) (flag-fine b l (subst (λ w. IsLitOf w l) is h))
  base-fine base.Int v l (n, is, fits) intact h = subst (λ w. IsBaseFine base.Int w l) (sym is) (number-fine n l (subst (λ w. IsLitOf w l) is h))
  base-fine base.Text v l (bytes, is, fits) intact h = subst (λ w. IsBaseFine base.Text w l) (sym is) (text-fine bytes l (subst (λ w. IsLitOf w l) is h))
  base-fine (base.Id m) v l (id, is, fits) intact h =
      let there : AreThere d m (id ∷ []) = subst (λ w. AreThere d m (ids_in w)) is intact in
      subst (λ w. IsBaseFine (base.Id m) w l) (sym is) (id-fine m id l there.0 (subst (λ w. IsLitOf w l) is h))

  -- ---- a value of any type

  pub record IsFine (t : TTy) (v : Value) (l : Lit) : Type 0 where
    pub value : value_of l ≡ v
    pub sound : value_fault t l ≡ None
    pub kept : value_lost d t l ≡ None

  plain-fine : (b : TBase) (v : Value) (l : Lit) → IsBaseFine b v l → IsFine (Plain b) v l
  plain-fine b v l h = record { value = h.value; sound = rw h.fits refl; kept = h.kept }

  set-fine : (m : ℕ) (ids : List ℕ) (l : Lit) → IsStrictlyIncreasing ids → AreThere d m ids → IsLitOf (Ids ids) l → IsFine (Set m) (Ids ids) l
  set-fine m ids l up there (items, at, zip, is) =
      let rise = rises ids up in
      record {
        value = ap layer_value is ∙ ap Ids (items-are ids items zip rise);
        sound = ap set_fault is ∙ items-sound ids items zip rise;
        kept = ap (layer_lost d m) is ∙ items-kept d m ids items zip there;
      }

  none-kept : (o : Option ℕ) → option_and_then (λ m. layer_lost d m (Lit-F.NoneLit 0)) o ≡ None
  none-kept None = refl
  none-kept (Some m) = refl

  nothing-fine : (b : TBase) (l : Lit) → IsLitOf Nothing l → IsFine (Opt b) Nothing l
  nothing-fine b l (at, is) = record {
    value = ap layer_value is;
    sound = ap (option_fault b) is;
    kept = ap (λ z. option_and_then (λ m. layer_lost d m z) (shape.base_model b)) is ∙ none-kept (shape.base_model b);
  }

  just-fine : (b : TBase) (v : Value) (l : Lit) → IsBaseValueOf b v → IsBaseIntact d b (ids_in v) → IsLitOf (Just v) l → IsFine (Opt b) (Just v) l
  just-fine b v l fits intact (inner, at, written, is) =
      let h = base-fine b v inner fits intact written in
      record {
        value = ap layer_value is ∙ ap Just h.plain;
        sound = ap (option_fault b) is ∙ rw h.fits refl;
        kept = ap (λ z. option_and_then (λ m. layer_lost d m z) (shape.base_model b)) is ∙ h.inner;
      }

  pub value-fine : (t : TTy) (v : Value) (l : Lit) → IsValueOf t v → IsIntact d t v → IsLitOf v l → IsFine t v l
  value-fine (Plain b) v l is intact h = plain-fine b v l (base-fine b v l is intact h)
  value-fine (Set m) v l (ids, is, up, all) intact h =
      subst (λ w. IsFine (Set m) w l) (sym is) (set-fine m ids l up (subst (λ w. AreThere d m (ids_in w)) is intact) (subst (λ w. IsLitOf w l) is h))
  value-fine (Opt b) v l (inl is) intact h = subst (λ w. IsFine (Opt b) w l) (sym is) (nothing-fine b l (subst (λ w. IsLitOf w l) is h))
  value-fine (Opt b) v l (inr (w, is, fits)) intact h =
      subst (λ u. IsFine (Opt b) u l) (sym is) (just-fine b w l fits (subst (λ u. IsBaseIntact d b (ids_in u)) is intact) (subst (λ u. IsLitOf u l) is h))
