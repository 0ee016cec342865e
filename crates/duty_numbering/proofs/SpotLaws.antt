-- The numbers of fields by where they stand.
use Rattle.std.proofs.Common.{◌≡◌, ℕ, suc, Bool, true, false, refl, ap, sym, ◌∙◌, List, [], ◌∷◌, cond}
use Rattle.std.specs.Prelude.{map}
use Rattle.type_schema.specs.Schema.{Schema}
use Rattle.duty_meaning.specs.Structures.{before, Place, is_place, functions_of, relations_of, function_of, relation_of}
use Rattle.type_schema.specs.Proper.{model_numbers}
use Rattle.duty_numbering.specs.declared.spots.Spot.{Spot}
use Rattle.duty_numbering.specs.Numbers.{spot_of, is_spot, Numbers, numbers_of}

-- the numbers that these are the places of
abbrev pub numbers : List ℕ → List Spot → List Spot → Numbers
numbers models functions relations = record { models = models; functions = functions; relations = relations }

pub before-map : {A B : Type 0} → (f : A → B) (test : B → Bool) (xs : List A) → before test (map f xs) ≡ before (λ x. test (f x)) xs
before-map f test [] = refl
before-map f test (x ∷ xs) = ap (λ n. cond (test (f x)) 0 (suc n)) (before-map f test xs)

pub function-number : (n : Numbers) (m f : ℕ) (s : Schema) → n ≡ numbers_of s → before (is_spot m f) n.functions ≡ function_of s m f
function-number n m f s e = ap (λ (n : Numbers). before (is_spot m f) n.functions) e ∙ before-map spot_of (is_spot m f) (functions_of s)

pub relation-number : (n : Numbers) (m f : ℕ) (s : Schema) → n ≡ numbers_of s → before (is_spot m f) n.relations ≡ relation_of s m f
relation-number n m f s e = ap (λ (n : Numbers). before (is_spot m f) n.relations) e ∙ before-map spot_of (is_spot m f) (relations_of s)

pub numbers-same : (s : Schema) (models : List ℕ) (functions relations : List Spot)
    → models ≡ model_numbers s.models → functions ≡ map spot_of (functions_of s) → relations ≡ map spot_of (relations_of s)
    → numbers models functions relations ≡ numbers_of s
numbers-same s models functions relations a b c =
    ap (λ xs. numbers xs functions relations) a ∙ (ap (λ xs. numbers (model_numbers s.models) xs relations) b
    ∙ ap (λ xs. numbers (model_numbers s.models) (map spot_of (functions_of s)) xs) c)
