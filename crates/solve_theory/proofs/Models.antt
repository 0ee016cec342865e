-- What follows from a model of some literals for others, and from the conflict of some for others.
-- So a solver takes a conflict to each assignment that has its literals, in any order and among any others.
use Rattle.std.proofs.Common.{◌≡◌, ℕ, suc, ◌<◌, Bool, List, [], ◌∷◌, ◌++◌, length, take, get_or, subst, zero, Option, Some, None, IsTrue, refl, arith}
use Rattle.std.specs.List.{All, Contains, slice_get, cons_option}
use Rattle.std.proofs.lemmas.List.{length-append}
use Rattle.std.proofs.lemmas.List.Elements.{All-contains, All-weaker, All-take, All-contains_itself, All-cons, All-nil, All-head, All-tail, Contains-append_left}
use Rattle.std.proofs.lemmas.Option.{slice_get_within, slice_get-get_or, get_or_from_slice_get}
use Rattle.solve_theory.specs.Models.{HasModel, IsCore, literals_at}

module _ {M L : Type 0} (models : M → Bool) (meets : M → L → Bool) where
  -- literals that are all among others have a model where the others have one
  pub HasModel-among : (xs ys : List L) → All (Contains xs) ys → HasModel models meets xs → HasModel models meets ys
  HasModel-among xs ys among h = record {
    model = h.model;
    fits = record {
      is_model = h.fits.is_model;
      meets_each =
          All-weaker (Contains xs) (λ l. IsTrue (meets h.model l))
          (λ x c. All-contains (λ l. IsTrue (meets h.model l)) xs x h.fits.meets_each c)
          ys
          among;
    };
  }

  -- so have the first of them
  pub HasModel-take : (n : ℕ) (xs : List L) → HasModel models meets xs → HasModel models meets (take n xs)
  HasModel-take n xs = HasModel-among xs (take n xs) (All-take (Contains xs) n xs (All-contains_itself xs))

  pub HasModel-front : (xs ys : List L) → HasModel models meets (xs ++ ys) → HasModel models meets xs
  HasModel-front xs ys =
      HasModel-among (xs ++ ys) xs
      (All-weaker (Contains xs) (Contains (xs ++ ys)) (λ x. Contains-append_left xs ys x) xs (All-contains_itself xs))

  -- where the literals at some places have no model, no list that has them all has one
  pub IsCore-refutes : (xs : List L) (ps : List ℕ) → IsCore models meets xs ps → (ys : List L) → All (Contains ys) (literals_at xs ps) → ¬ HasModel models meets ys
  IsCore-refutes xs ps core ys among h = core.has_none (HasModel-among ys (literals_at xs ps) among h)

All-cons_option : {X : Type 0} (P : X → Type 0) (o : Option X) (rest : List X) → ((x : X) → o ≡ Some x → P x) → All P rest → All P (cons_option o rest)
All-cons_option P None rest first others = others
All-cons_option P (Some x) rest first others = All-cons P x rest (first x refl) others

-- the literals at some places of a list are in it
pub All-literals_at : {L : Type 0} (xs : List L) (ps : List ℕ) → All (Contains xs) (literals_at xs ps)
All-literals_at xs [] = All-nil (Contains xs)
All-literals_at xs (p ∷ ps) =
    All-cons_option (Contains xs) (slice_get xs p) (literals_at xs ps)
    (λ x e. (p, slice_get_within xs p x e, get_or_from_slice_get xs p x x e))
    (All-literals_at xs ps)

slice_get-append : {X : Type 0} (xs ys : List X) (p : ℕ) → p < length xs → slice_get (xs ++ ys) p ≡ slice_get xs p
slice_get-append [] ys p h = absurd (omega arith)
slice_get-append (x ∷ xs) ys zero h = refl
slice_get-append (x ∷ xs) ys (suc p) h = slice_get-append xs ys p (omega arith)

-- places of a list are places of the same literals in each longer one
pub literals_at-front : {L : Type 0} (xs ys : List L) (ps : List ℕ) → All (λ p. p < length xs) ps → literals_at (xs ++ ys) ps ≡ literals_at xs ps
literals_at-front xs ys [] h = refl
literals_at-front xs ys (p ∷ ps) h =
    let at_p = slice_get-append xs ys p (All-head (λ q. q < length xs) p ps h) in
    let at_rest = literals_at-front xs ys ps (All-tail (λ q. q < length xs) p ps h) in
    cc

-- why some literals have no model is why they have none with others behind them
pub IsCore-front : {M L : Type 0} (models : M → Bool) (meets : M → L → Bool) (xs ys : List L) (ps : List ℕ) → IsCore models meets xs ps → IsCore models meets (xs ++ ys) ps
IsCore-front models meets xs ys ps core = record {
  within = All-weaker (λ p. p < length xs) (λ p. p < length (xs ++ ys)) (λ p h. omega (arith, length-append xs ys)) ps core.within;
  once = core.once;
  has_none = rw (literals_at-front xs ys ps core.within) core.has_none;
}

-- what holds of the literals at some places
pub places_met : {L : Type 0} (P : L → Type 0) (xs : List L) (ps : List ℕ) (d : L) → All (λ p. p < length xs) ps → All P (literals_at xs ps) → All (λ p. P (get_or xs p d)) ps
places_met P xs [] d within met = All-nil (λ p. P (get_or xs p d))
places_met P xs (p ∷ ps) d within met =
    let at_p = slice_get-get_or xs p d (All-head (λ q. q < length xs) p ps within) in
    let both = subst (λ o. All P (cons_option o (literals_at xs ps))) at_p met in
    All-cons (λ q. P (get_or xs q d)) p ps (All-head P (get_or xs p d) (literals_at xs ps) both)
    (places_met P xs ps d (All-tail (λ q. q < length xs) p ps within) (All-tail P (get_or xs p d) (literals_at xs ps) both))

-- a model lasts where the models and the literals stay
pub HasModel-along : {M L : Type 0} (models new : M → Bool) (meets : M → L → Bool) (xs ys : List L) → new ≡ models → ys ≡ xs → HasModel models meets xs → HasModel new meets ys
HasModel-along models new meets xs ys e f h = rw (e, f) h

-- and where the last literals are taken back
pub HasModel-undone : {M L : Type 0} (models new : M → Bool) (meets : M → L → Bool) (xs ys : List L) (n : ℕ) → new ≡ models → ys ≡ take n xs → HasModel models meets xs → HasModel new meets ys
HasModel-undone models new meets xs ys n e f h = HasModel-along models new meets (take n xs) ys e f (HasModel-take models meets n xs h)
