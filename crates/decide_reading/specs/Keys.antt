-- What the values of terms and of pairs are functions of, where tables are congruent.
use Rattle.std.specs.Prelude.{◌≡◌, ℕ, List, [], ◌∷◌, Option, None, Some, option_and_then, slice_get, unwrap_or}
use Rattle.std.specs.Option.{option_map}
use Rattle.form_formula.specs.declared.structure.SVal.{SVal}
use Rattle.form_formula.specs.declared.structure.SVal.TheVariants.{Rec, Flag, Num, Str}
use Rattle.form_terms.specs.GroundTerms.{GroundTerm, GroundTerms, constant, skolem, field, no_terms, term_and}
use Rattle.ground_terms.specs.declared.node.TermNode.{TermNode}
use Rattle.ground_terms.specs.Nodes.{IsOne, term_of}
use Rattle.form_tables.specs.Vocabulary.{Pair}
use Rattle.decide_models.specs.declared.found.Found.{Found}
use Rattle.decide_reading.specs.declared.keys.Key.{Key}
use Rattle.decide_reading.specs.declared.keys.Key.TheVariants.{Function, Variable}
use Rattle.decide_reading.specs.declared.keys.PairKey.{PairKey}

-- what was found of a numbered term
abbrev pub value_at : Found → ℕ → Option SVal
value_at found id = unwrap_or (slice_get found.values id) None

-- terms have the values that were found of their numbers
abbrev pub HaveValues : List TermNode → Found → (GroundTerm → Option SVal) → Type 0
HaveValues nodes found values = (id : ℕ) → IsOne nodes id → values (term_of nodes id) ≡ value_at found id

-- the class of an element; whatever is no element has one class
abbrev pub class_of : SVal → ℕ
class_of (Rec x) = x
class_of (Flag b) = 0
class_of (Num n) = 0
class_of (Str t) = 0

module _ (values : GroundTerm → Option SVal) where
  -- the classes of what terms have, if all of these have something
  abbrev pub classes_of : GroundTerms → Option (List ℕ)
  classes_of no_terms = Some []
  classes_of (term_and t ts) = option_and_then (λ x. option_map (λ xs. class_of x ∷ xs) (classes_of ts)) (values t)

  -- the function or the variable that a term is, with the classes of its arguments, if these are there
  abbrev pub key_of : GroundTerm → Option Key
  key_of (constant sort) = None
  key_of (skolem number sort ts) = option_map (λ xs. Variable number sort xs) (classes_of ts)
  key_of (field h t) = option_map (λ x. Function h (class_of x)) (values t)

  -- and the set relation of a pair, with the classes of its two terms
  abbrev pub pair_key_of : Pair → Option PairKey
  pair_key_of p =
      option_and_then (λ x. option_map (λ y. record { relation = p.relation; holder = class_of x; member = class_of y }) (values p.member)) (values p.holder)
