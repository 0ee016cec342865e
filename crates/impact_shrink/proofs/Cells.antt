-- Cells in lists.
use Rattle.std.proofs.Common.{◌≡◌, ℕ, zero, suc, Bool, true, false, ◌||◌, ◌&&◌, List, [], ◌∷◌, refl, ap, sym, ◌∙◌, arith, Contains}
use Rattle.std.specs.Prelude.{Option, Some, ◌==◌}
use Rattle.std.specs.Option.{option_map_or}
use Rattle.std.specs.List.{list_any}
use Rattle.std.proofs.lemmas.Bool.{eqb-true, eq-eqb}
use Rattle.data_meaning.specs.declared.cells.Cell.{Cell}
use Rattle.type_schema.specs.Trees.{Init}
use Rattle.data_meaning.specs.Database.{Database}
use Rattle.data_meaning.specs.Touched.{init_touched}
use Rattle.check_witness.specs.Witness.{Witness}
use Rattle.data_members.specs.Touching.{IsSetOf, cell_cmp}
use Rattle.impact_shrink.specs.Judged.{is_same_cell}

pub some-same : {A : Type 0} {x y : A} → Some x ≡ Some y → x ≡ y
some-same h = cc

same-cell : (cell other : Cell) → is_same_cell cell other ≡ true → other ≡ cell
same-cell cell other h =
    let parts = and-three (other.model == cell.model) (other.id == cell.id) (other.field == cell.field) h in
    equal (eqb-true _ _ parts.0) (eqb-true _ _ parts.1) (eqb-true _ _ parts.2)
  where
    and-three : (a b c : Bool) → (a && b && c) ≡ true → (a ≡ true) × (b ≡ true) × (c ≡ true)
    and-three true true true h = (refl, refl, refl)
    and-three true true false h = absurd cc
    and-three true false c h = absurd cc
    and-three false b c h = absurd cc

    equal : other.model ≡ cell.model → other.id ≡ cell.id → other.field ≡ cell.field → other ≡ cell
    equal p q r =
        let made : ℕ → ℕ → ℕ → Cell = λ m i f. record { model = m; id = i; field = f } in
        ap (λ m. made m other.id other.field) p ∙ ap (λ i. made cell.model i other.field) q ∙ ap (λ f. made cell.model cell.id f) r

itself : (cell : Cell) → is_same_cell cell cell ≡ true
itself cell =
    ap (λ b. b && (cell.id == cell.id) && (cell.field == cell.field)) (eq-eqb cell.model cell.model refl)
    ∙ ap (λ b. b && (cell.field == cell.field)) (eq-eqb cell.id cell.id refl) ∙ eq-eqb cell.field cell.field refl

pub any-contains : (cell : Cell) (cells : List Cell) → list_any (is_same_cell cell) cells ≡ true → Contains cells cell
any-contains cell [] h = absurd cc
any-contains cell (x ∷ xs) h =
    elim (is_same_cell cell x) as (λ (b : Bool). is_same_cell cell x ≡ b → (b || list_any (is_same_cell cell) xs) ≡ true → Contains (x ∷ xs) cell) [
      | true ↦ λ is k. (0, omega arith, same-cell cell x is)
      | false ↦ λ is k. let (at, below, here) = any-contains cell xs k in (suc at, omega (arith, below), here)
    ] refl h

pub contains-any : (cell : Cell) (cells : List Cell) → Contains cells cell → list_any (is_same_cell cell) cells ≡ true
contains-any cell [] (at, below, here) = absurd (omega (arith, below))
contains-any cell (x ∷ xs) (zero, below, here) =
    ap (λ b. b || list_any (is_same_cell cell) xs) (ap (is_same_cell cell) here ∙ itself cell)
contains-any cell (x ∷ xs) (suc at, below, here) = or-later (is_same_cell cell x) (list_any (is_same_cell cell) xs) (contains-any cell xs (at, omega (arith, below), here))
  where
    or-later : (a b : Bool) → b ≡ true → (a || b) ≡ true
    or-later true b h = refl
    or-later false b h = h

-- a set has the cells of the list that it is a set of
pub any-of-set : (cell : Cell) (set all : List Cell) → IsSetOf cell_cmp set all → list_any (is_same_cell cell) set ≡ list_any (is_same_cell cell) all
any-of-set cell set all is =
    elim (list_any (is_same_cell cell) set) as (λ (b : Bool). list_any (is_same_cell cell) set ≡ b → b ≡ list_any (is_same_cell cell) all) [
      | true ↦ λ h. sym (contains-any cell all (is.no_more cell (any-contains cell set h)))
      | false ↦ λ h.
          elim (list_any (is_same_cell cell) all) as (λ (b : Bool). list_any (is_same_cell cell) all ≡ b → false ≡ b) [
            | true ↦ λ k. let other : list_any (is_same_cell cell) set ≡ true = contains-any cell set (is.holds cell (any-contains cell all k)) in cc
            | false ↦ λ k. refl
          ] refl
    ] refl

-- what the initialiser touches, by the set of it
pub touches-so : (w : Witness) (after : Database) (cell : Cell) (o : Option Init) (init : Init) (set : List Cell) → Some init ≡ o → IsSetOf cell_cmp set (init_touched after init w.row)
    → list_any (is_same_cell cell) set ≡ option_map_or (λ (i : Init). list_any (is_same_cell cell) (init_touched after i w.row)) o false
touches-so w after cell o init set is all =
    any-of-set cell set (init_touched after init w.row) all ∙ ap (λ (u : Option Init). option_map_or (λ (i : Init). list_any (is_same_cell cell) (init_touched after i w.row)) u false) is
