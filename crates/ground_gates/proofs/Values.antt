-- The truth of gates in longer lists of gates.
use Rattle.std.proofs.Common.{◌≡◌, ℕ, suc, zero, ◌<◌, Bool, false, refl, sym, ◌∙◌, List, [], ◌∷◌, ◌++◌, Some, length, take, drop, get_or, ap, rules, arith, length-append, append_assoc}
use Rattle.std.specs.Prelude.{slice_get, fold}
use Rattle.std.proofs.lemmas.List.Sums.{fold-append}
use Rattle.std.proofs.lemmas.List.{get_or_append_left}
use Rattle.std.proofs.lemmas.Option.{same_Some}
use Rattle.std.proofs.Math.Seq.{get_or-append_seam}
use Rattle.ground_gates.specs.declared.gate.Gate.{Gate}
use Rattle.ground_gates.specs.declared.gate.Gate.TheVariants.{Yes, No, Input, Both, Either}
use Rattle.ground_gates.specs.Gates.{gate_value, values_of, value_of, IsPlaced, ArePlaced}

module _ (v : ℕ → Bool) where
  -- gates only add values
  grown : (bs : List Bool) (ys : List Gate) → (more : List Bool) × (fold (λ values gate. values ++ gate_value v values gate ∷ []) bs ys ≡ bs ++ more) × (length more ≡ length ys)
  grown bs [] = ([], search rules, refl)
  grown bs (y ∷ ys) =
      let later = grown (bs ++ gate_value v bs y ∷ []) ys in
      (gate_value v bs y ∷ later.0, later.1 ∙ append_assoc bs (gate_value v bs y ∷ []) later.0, omega (arith, later.2))

  more_values : (xs ys : List Gate) → (more : List Bool) × (values_of v (xs ++ ys) ≡ values_of v xs ++ more) × (length more ≡ length ys)
  unfolding values_of
  more_values xs ys =
      let later = grown (values_of v xs) ys in
      (later.0, fold-append (λ values gate. values ++ gate_value v values gate ∷ []) [] xs ys ∙ later.1, later.2)

  length-values_of : (xs : List Gate) → length (values_of v xs) ≡ length xs
  unfolding values_of
  length-values_of xs = let all = grown [] xs in ap length all.1 ∙ all.2

  values_of-push : (xs : List Gate) (n : Gate) → values_of v (xs ++ n ∷ []) ≡ values_of v xs ++ gate_value v (values_of v xs) n ∷ []
  unfolding values_of
  values_of-push xs n = fold-append (λ values gate. values ++ gate_value v values gate ∷ []) [] xs (n ∷ [])

  -- a gate has in a longer list the value that it had
  pub value_of-front : (xs ys : List Gate) (k : ℕ) → k < length xs → value_of v (xs ++ ys) k ≡ value_of v xs k
  value_of-front xs ys k within =
      let later = more_values xs ys in
      let short : k < length (values_of v xs) = omega (arith, length-values_of xs) in
      ap (λ bs. get_or bs k false) later.1 ∙ get_or_append_left (values_of v xs) later.0 false k short

  pub gate_value-front : (xs ys : List Gate) (n : Gate) → IsPlaced (length xs) n → gate_value v (values_of v (xs ++ ys)) n ≡ gate_value v (values_of v xs) n
  gate_value-front xs ys Yes h = refl
  gate_value-front xs ys No h = refl
  gate_value-front xs ys (Input l) h = refl
  gate_value-front xs ys (Both a b) h = let p = value_of-front xs ys a h.0 in let q = value_of-front xs ys b h.1 in cc
  gate_value-front xs ys (Either a b) h = let p = value_of-front xs ys a h.0 in let q = value_of-front xs ys b h.1 in cc

  split_at : (gates : List Gate) (k : ℕ) (n : Gate) → slice_get gates k ≡ Some n → gates ≡ take k gates ++ n ∷ drop (suc k) gates
  split_at [] k n e = cc
  split_at (m ∷ gates) zero n e = ap (λ x. x ∷ gates) (same_Some m n e)
  split_at (m ∷ gates) (suc k) n e = ap (λ xs. m ∷ xs) (split_at gates k n e)

  length-take_within : (xs : List Gate) (i : ℕ) (x : Gate) → slice_get xs i ≡ Some x → length (take i xs) ≡ i
  length-take_within [] i x e = cc
  length-take_within (y ∷ xs) zero x e = refl
  length-take_within (y ∷ xs) (suc i) x e = ap suc (length-take_within xs i x e)

  placed_at : (n m : ℕ) (g : Gate) → n ≡ m → IsPlaced m g → IsPlaced n g
  placed_at n m Yes e h = tt
  placed_at n m No e h = tt
  placed_at n m (Input l) e h = tt
  placed_at n m (Both a b) e h = (omega (arith, e, h.0), omega (arith, e, h.1))
  placed_at n m (Either a b) e h = (omega (arith, e, h.0), omega (arith, e, h.1))

  -- the value of a gate is by those of its parts
  pub value_of-at : (gates : List Gate) (k : ℕ) (n : Gate) → ArePlaced gates → slice_get gates k ≡ Some n → value_of v gates k ≡ gate_value v (values_of v gates) n
  value_of-at gates k n all e =
      let front : List Gate = take k gates in
      let rest : List Gate = drop (suc k) gates in
      let whole : gates ≡ (front ++ n ∷ []) ++ rest = split_at gates k n e ∙ sym (append_assoc front (n ∷ []) rest) in
      let apart : gates ≡ front ++ n ∷ rest = split_at gates k n e in
      let size : length front ≡ k = length-take_within gates k n e in
      let last : value_of v (front ++ n ∷ []) k ≡ gate_value v (values_of v front) n =
      ap (λ bs. get_or bs k false) (values_of-push front n)
      ∙ (ap (λ i. get_or (values_of v front ++ gate_value v (values_of v front) n ∷ []) i false) (sym (length-values_of front ∙ size))
      ∙ get_or-append_seam (values_of v front) (gate_value v (values_of v front) n) [] false) in
      let within : k < length (front ++ n ∷ []) = omega (arith, length-append front (n ∷ [])) in
      ap (λ xs. value_of v xs k) whole ∙ (value_of-front (front ++ n ∷ []) rest k within
      ∙ (last ∙ (sym (gate_value-front front (n ∷ rest) n (placed_at (length front) k n size (all k n e))) ∙ ap (λ xs. gate_value v (values_of v xs) n) (sym apart))))
