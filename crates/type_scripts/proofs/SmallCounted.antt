-- Policies and initialisers over one schema, asked about records and principals, against what their sizes count.
use Rattle.std.proofs.Common.{◌≡◌, ℕ, Bool, true, false, ◌&&◌, List, [], ◌∷◌, refl, arith}
use Rattle.std.specs.Prelude.{Some, fold, ◌==◌, if◌then◌else◌}
use Rattle.std.specs.List.{AllByRecursion}
use Rattle.std.specs.Option.{option_map_or}
use Rattle.type_schema.specs.Schema.{Added, Schema}
use Rattle.type_schema.specs.Uses.{Use, init_uses_of}
use Rattle.form_formula.specs.Trees.{Term}
use Rattle.duty_meaning.specs.Cases.{Cases, held}
use Rattle.duty_meaning.specs.Formulas.{Who, static, record_at, of_each_kind, Written, nothing_written, written_out, with_added, init_cases}
use Rattle.duty_meaning.specs.Sizes.{row, other}
use Rattle.type_scripts.specs.Asked.{policy_uses_of, IsOne, AllowedIsCounted, ReachIsCounted}
use Rattle.type_scripts.proofs.Within.{LessWho, is_static, any_model, each_model, Within, fields}
use Rattle.type_scripts.proofs.WithinSets.{FieldWithin, UseWithin, allowed-less, init-within, init_reach-less}

-- whom an obligation asks about
pub one-who : (q : Who) → IsOne q → LessWho q (of_each_kind other)
one-who (static n) h = is_static n (of_each_kind other)
one-who (record_at m t) h = any_model m t other (omega (arith, h))
one-who (of_each_kind t) h = each_model t other (omega (arith, h))

-- one more field written out
pub added-within : (s b : Schema) (w o : Written) (a : Added) (m f : ℕ) → AllByRecursion (UseWithin s b w o) (init_uses_of a.init)
    → (((a.model == m) && (a.field == f)) ≡ false → FieldWithin s b w o m f) → FieldWithin s b (with_added s w a) (with_added b o a) m f
added-within s b w o a m f uses kept t u e =
    elim ((a.model == m) && (a.field == f)) as (λ (z : Bool). ((a.model == m) && (a.field == f)) ≡ z
    → Within s b (option_map_or (λ (at : Term → Cases). at t) (if z then Some (init_cases s w a.init) else w m f) (held m f t))
    (option_map_or (λ (at : Term → Cases). at u) (if z then Some (init_cases b o a.init) else o m f) (held m f u))) [
      | true ↦ λ is. init-within s b w o a.init uses t u e
      | false ↦ λ is. kept is t u e
    ] refl

module _ (s : Schema) where
  every-use : (w o : Written) → ((m f : ℕ) → FieldWithin s s w o m f) → (uses : List Use) → AllByRecursion (UseWithin s s w o) uses
  every-use w o h [] = tt
  every-use w o h (u ∷ uses) = (h u.model u.field, every-use w o h uses)

  same-written : (added : List Added) (w : Written) → ((m f : ℕ) → FieldWithin s s w w m f) → (m f : ℕ)
      → FieldWithin s s (fold (with_added s) w added) (fold (with_added s) w added) m f
  same-written [] w h m f = h m f
  same-written (a ∷ added) w h m f =
      same-written added (with_added s w a) (λ m f. added-within s s w w a m f (every-use w w h (init_uses_of a.init)) (λ is. h m f)) m f

  itself : (added : List Added) (uses : List Use) → AllByRecursion (UseWithin s s (written_out s added) (written_out s added)) uses
  itself added uses =
      every-use (written_out s added) (written_out s added) (same-written added nothing_written (λ m f t u e. fields m f t u refl e)) uses

pub allowed_is_counted : AllowedIsCounted
allowed_is_counted s added p r q sign above one who =
    allowed-less s s (written_out s added) (written_out s added) p (itself s added (policy_uses_of p)) r row (omega (arith, one)) q (of_each_kind other) (one-who q who) sign above true 2

pub reach_is_counted : ReachIsCounted
reach_is_counted s added init y r number above one two =
    init_reach-less s s (written_out s added) (written_out s added) y other (omega (arith, one)) init (itself s added (init_uses_of init)) r row (omega (arith, two)) number above 2
