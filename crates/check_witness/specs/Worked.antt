-- Worked databases, over the users of the worked formulas: email, age, isAdmin, secret, manager, friends and deputy, in this order.
use Rattle.std.specs.Prelude.{◌≡◌, ℕ, pos, Bool, true, false, List, [], ◌∷◌, None, Some, codes}
use Rattle.data_meaning.specs.Values.{Value, Flag, Num, Str, Id, Ids, Nothing, Just}
use Rattle.data_meaning.specs.Database.{Slot, Database}
use Rattle.form_formula.specs.declared.structure.SVal.TheVariants as sval
use Rattle.form_formula.specs.declared.structure.Structure.{Structure}
use Rattle.duty_meaning.specs.Worked.{start}
use Rattle.check_witness.specs.Built.{built}

-- two users, each the manager of the other, with these friends
abbrev pub managers : List (ℕ × ℕ) → Structure
managers friends = record {
  sizes = 2 ∷ [];
  funs =
      (Some (sval.Str (codes "a")) ∷ Some (sval.Str (codes "b")) ∷ []) ∷ (Some (sval.Num (pos 30)) ∷ Some (sval.Num (pos 20)) ∷ [])
      ∷ (Some (sval.Flag true) ∷ Some (sval.Flag false) ∷ []) ∷ (Some (sval.Str []) ∷ Some (sval.Str []) ∷ [])
      ∷ (Some (sval.Rec 1) ∷ Some (sval.Rec 0) ∷ []) ∷ (None ∷ Some (sval.Rec 0) ∷ []) ∷ [];
  sets = friends ∷ [];
}

abbrev pub nobody : Structure
nobody = record { sizes = 0 ∷ []; funs = [] ∷ [] ∷ [] ∷ [] ∷ [] ∷ [] ∷ []; sets = [] ∷ [] }

abbrev pub slots : List ℕ → ℕ → Bool → ℕ → List ℕ → Value → List Slot
slots email age admin manager friends deputy =
    (record { field = 0; value = Str email }) ∷ (record { field = 1; value = Num (pos age) }) ∷ (record { field = 2; value = Flag admin })
    ∷ (record { field = 3; value = Str [] }) ∷ (record { field = 4; value = Id manager }) ∷ (record { field = 5; value = Ids friends })
    ∷ (record { field = 6; value = deputy }) ∷ []

abbrev pub each_other : Database
each_other = (record {
  model = 0;
  next = 3;
  records =
      (record { id = 1; slots = slots (codes "a") 30 true 2 (2 ∷ []) Nothing })
      ∷ (record { id = 2; slots = slots (codes "b") 20 false 1 (1 ∷ 2 ∷ []) (Just (Id 1)) }) ∷ [];
}) ∷ []

pub record WorkedDatabases : Type 0 where
  pub in_a_cycle : built start (managers ((0, 1) ∷ (1, 0) ∷ (1, 1) ∷ [])) ≡ each_other
  pub in_any_order : built start (managers ((1, 1) ∷ (0, 1) ∷ (1, 0) ∷ (0, 1) ∷ [])) ≡ each_other
  pub of_nobody : built start nobody ≡ (record { model = 0; next = 1; records = [] }) ∷ []
