-- What a `Pair` is about: the literals of two theories in one list, and pairs of their models.
use Rattle.std.specs.Prelude.{ℕ, Bool, true, false, ◌&&◌, List, [], ◌∷◌, refl}
use Rattle.std.specs.Coded.{Coded, code_by, coded×, coded_ℕ, coded_bool, coded_list}
use Rattle.solve_theory.specs.declared.pair.Side.{Side}
use Rattle.solve_theory.specs.declared.pair.Side.TheVariants as side
use Rattle.solve_theory.specs.declared.pair.PairLit.{PairLit}
use Rattle.solve_theory.specs.declared.pair.PairLit.TheVariants.{Left, Right}

-- the two theories, to which of them each literal went, and how many literals there can be
pub record PairState (A B : Type 0) : Type 0 where
  pub left : A
  pub right : B
  pub sides : List Side
  pub capacity : ℕ

abbrev pub is_left : Side → Bool
is_left side.Left = true
is_left side.Right = false

abbrev pub side_by : Bool → Side
side_by true = side.Left
side_by false = side.Right

abbrev pub side_code : Coded Side
side_code = code_by Bool coded_bool is_left side_by (elim [ side.Left ↦ refl | side.Right ↦ refl ])

abbrev pub pair_state_code : {A B : Type 0} → Coded A → Coded B → Coded (PairState A B)
pair_state_code {A} {B} a b =
    code_by (A × (B × (List Side × ℕ))) (coded× a (coded× b (coded× (coded_list side_code) coded_ℕ)))
    (λ p. (p.left, (p.right, (p.sides, p.capacity))))
    (λ p. record { left = p.0; right = p.1.0; sides = p.1.1.0; capacity = p.1.1.1 }) (λ _. refl)

-- the literals of both theories, in the order in which they came
abbrev pub in_order : {L R : Type 0} → List Side → List L → List R → List (PairLit L R)
in_order [] ls rs = []
in_order (side.Left ∷ ss) [] rs = []
in_order (side.Left ∷ ss) (l ∷ ls) rs = Left l ∷ in_order ss ls rs
in_order (side.Right ∷ ss) ls [] = []
in_order (side.Right ∷ ss) ls (r ∷ rs) = Right r ∷ in_order ss ls rs

-- whether the one theory takes a literal that is its own
abbrev pub takes_own : {L R : Type 0} → (L → Bool) → (R → Bool) → PairLit L R → Bool
takes_own f g (Left l) = f l
takes_own f g (Right r) = g r

-- whether a pair is a model of each theory
abbrev pub are_models : {M N : Type 0} → (M → Bool) → (N → Bool) → M × N → Bool
are_models f g m = f m.0 && g m.1

-- whether a pair meets a literal by the part that is the literal's own
abbrev pub meets_own : {M N L R : Type 0} → (M → L → Bool) → (N → R → Bool) → M × N → PairLit L R → Bool
meets_own f g m (Left l) = f m.0 l
meets_own f g m (Right r) = g m.1 r
