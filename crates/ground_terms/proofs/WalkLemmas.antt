-- Parts of what is pending.
use Rattle.std.proofs.Common.{◌≡◌, ℕ, ◌+◌, ◌≤◌, ◌<◌, suc, zero, refl, sym, ◌∙◌, List, [], ◌∷◌, ◌++◌, length, take, ap, subst, arith, append_assoc, append-nil, length-append, Option, None, map}
use Rattle.std.specs.Option.{option_map}
use Rattle.std.proofs.lemmas.List.{take-append-le}
use Rattle.std.proofs.lemmas.List.Sums.{sum_by-append}
use Rattle.form_formula.specs.declared.node.Node.{Node}
use Rattle.form_formula.specs.declared.node.Node.TheVariants as node
use Rattle.form_formula.specs.Nodes.{IsFormula, IsPlaced, formula_of, formula_part, tree_of, tree_from, trees_of}
use Rattle.form_terms.specs.Parts.{quantifiers, parts, name_of}
use Rattle.form_terms.specs.Parts as tree
use Rattle.form_strata.specs.Visits.{steps_of}
use Rattle.ground_terms.specs.declared.part.Name.{Name}
use Rattle.ground_terms.specs.declared.part.Part.{Part}
use Rattle.ground_terms.specs.declared.walk.Pending.{Pending}
use Rattle.ground_terms.specs.declared.walk.Walk.{Walk}
use Rattle.ground_terms.specs.Matrices.{AddsMatrix, AnyTerm, IsMatrix, terms_below}
use Rattle.ground_terms.specs.Parts.{ground_name, ground_names, AreParts, AreThinned, IsAtomTerm, Thins}
use Rattle.ground_terms.specs.Walk.{name_below, pending_parts, quantifiers_left, all_parts, AreWithin, AreOutside, ArePending, steps_left, IsWalkOf, pending_of, names_of, universal_of, own_parts, own_quantifiers, IsExpansion, IsMatrixStep}
use Rattle.ground_terms.proofs.Matrices.{a-step, parts-of-matrix}
use Rattle.ground_terms.proofs.Thinned.{thins-all, thins-append, thins-map}

pub AreParts-append : (nodes : List Node) (ps qs : List tree.Part) (cs ds : List Part) → AreParts nodes ps cs → AreParts nodes qs ds → AreParts nodes (ps ++ qs) (cs ++ ds)
AreParts-append nodes [] qs [] ds h k = k
AreParts-append nodes [] qs (c ∷ cs) ds h k = absurd h
AreParts-append nodes (p ∷ ps) qs [] ds h k = absurd h
AreParts-append nodes (p ∷ ps) qs (c ∷ cs) ds h k = (h.0, AreParts-append nodes ps qs cs ds h.1 k)

-- names and ground terms
names-append : (xs ys : List (Option Name)) → ground_names (xs ++ ys) ≡ ground_names xs ++ ground_names ys
names-append [] ys = refl
names-append (x ∷ xs) ys = ap (λ ns. option_map ground_name x ∷ ns) (names-append xs ys)

name-below : (number sort : ℕ) (above : List ℕ) → option_map ground_name (name_below number sort above) ≡ name_of number sort above
name-below number sort [] = refl
name-below number sort (s ∷ above) = refl

module _ (nodes : List Node) where
  quantifiers-append : (xs ys : List Pending) → quantifiers_left nodes (xs ++ ys) ≡ quantifiers_left nodes xs + quantifiers_left nodes ys
  quantifiers-append xs ys = sum_by-append (λ p. quantifiers (formula_of nodes p.id)) xs ys

  all_parts-append : (names : List (Option Name)) (above : List ℕ) (number : ℕ) (xs ys : List Pending)
      → all_parts nodes names above number (xs ++ ys) ≡ all_parts nodes names above number ys ++ all_parts nodes names above (number + quantifiers_left nodes ys) xs
  all_parts-append names above number [] ys = sym (append-nil (all_parts nodes names above number ys))
  all_parts-append names above number (x ∷ xs) ys =
      let q : number + quantifiers_left nodes (xs ++ ys) ≡ (number + quantifiers_left nodes ys) + quantifiers_left nodes xs = omega (arith, quantifiers-append xs ys) in
      ap (λ es. es ++ pending_parts nodes names above (number + quantifiers_left nodes (xs ++ ys)) x) (all_parts-append names above number xs ys)
      ∙ (ap (λ n. (all_parts nodes names above number ys ++ all_parts nodes names above (number + quantifiers_left nodes ys) xs) ++ pending_parts nodes names above n x) q
      ∙ append_assoc (all_parts nodes names above number ys) (all_parts nodes names above (number + quantifiers_left nodes ys) xs)
      (pending_parts nodes names above ((number + quantifiers_left nodes ys) + quantifiers_left nodes xs) x))

  -- what is pending does not look at later quantifiers
  all_parts_same : (names names' : List (Option Name)) (above above' : List ℕ) (number q u : ℕ) (xs : List Pending) → AreWithin q u xs
      → ((k : ℕ) → k ≤ q → take k names' ≡ take k names) → ((k : ℕ) → k ≤ u → take k above' ≡ take k above)
      → all_parts nodes names' above' number xs ≡ all_parts nodes names above number xs
  all_parts_same names names' above above' number q u [] w d a = refl
  all_parts_same names names' above above' number q u (x ∷ xs) w d a =
      let later = all_parts_same names names' above above' number q u xs w.2 d a in
      let p = d x.quantifiers w.0 in
      let r = a x.universals w.1 in
      let n : ℕ = number + quantifiers_left nodes xs in
      ap (λ es. es ++ pending_parts nodes names' above' n x) later
      ∙ ap (λ es. all_parts nodes names above number xs ++ es)
      (ap (λ ds. parts n (ground_names ds) (take x.universals above') (formula_of nodes x.id)) p ∙ ap (λ us. parts n (ground_names (take x.quantifiers names)) us (formula_of nodes x.id)) r)

  take_all : {A : Type 0} (xs : List A) → take (length xs) xs ≡ xs
  take_all [] = refl
  take_all (x ∷ xs) = ap (λ ys. x ∷ ys) (take_all xs)

  take_pushed : {A : Type 0} (xs : List A) (x : A) → take (length xs + 1) (xs ++ x ∷ []) ≡ xs ++ x ∷ []
  take_pushed xs x =
      let e : length xs + 1 ≡ length (xs ++ x ∷ []) = omega (arith, length-append xs (x ∷ [])) in
      ap (λ n. take n (xs ++ x ∷ [])) e ∙ take_all (xs ++ x ∷ [])

  -- the parts of a formula below the same quantifiers, and of one below one more
  same_depth : (names : List (Option Name)) (above : List ℕ) (number number' q u a : ℕ) → number ≡ number' → q ≡ length names → u ≡ length above
      → parts number (ground_names (take q (names ++ []))) (take u (above ++ [])) (formula_of nodes a) ≡ parts number' (ground_names names) above (formula_of nodes a)
  same_depth names above number number' q u a n p r =
      ap (λ n. parts n (ground_names (take q (names ++ []))) (take u (above ++ [])) (formula_of nodes a)) n
      ∙ (ap (λ ds. parts number' (ground_names ds) (take u (above ++ [])) (formula_of nodes a)) (ap (λ n. take n (names ++ [])) p ∙ (ap (λ ds. take (length names) ds) (append-nil names) ∙ take_all names))
      ∙ ap (λ us. parts number' (ground_names names) us (formula_of nodes a)) (ap (λ n. take n (above ++ [])) r ∙ (ap (λ us. take (length above) us) (append-nil above) ∙ take_all above)))

  -- the parts of a node are its own and those of what it is made of
  parts_of_node : (names : List (Option Name)) (above : List ℕ) (number : ℕ) (p : Pending) (n : Node) → p.quantifiers ≡ length names → p.universals ≡ length above
      → parts number (ground_names names) above (formula_part (tree_from (trees_of nodes) n))
      ≡ own_parts nodes names above number n
      ++ all_parts nodes (names ++ names_of number above n) (above ++ universal_of n) (number + own_quantifiers n) (pending_of p names above n)
  parts_of_node names above number p (node.Bound sort depth) q u = refl
  parts_of_node names above number p (node.Num n) q u = refl
  parts_of_node names above number p (node.Str t) q u = refl
  parts_of_node names above number p (node.App f t) q u = refl
  parts_of_node names above number p node.Yes q u = refl
  parts_of_node names above number p node.No q u = refl
  parts_of_node names above number p (node.Eq s t) q u = refl
  parts_of_node names above number p (node.Less s t) q u = refl
  parts_of_node names above number p (node.Has f s t) q u = refl
  parts_of_node names above number p (node.Flag f t) q u = refl
  parts_of_node names above number p (node.Present f t) q u = refl
  parts_of_node names above number p (node.Not a) q u = sym (same_depth names above ((number + 0) + 0) number p.quantifiers p.universals a (omega arith) q u)
  parts_of_node names above number p (node.And a b) q u =
      let left = same_depth names above ((number + 0) + 0) number p.quantifiers p.universals a (omega arith) q u in
      let right = same_depth names above ((number + 0) + (0 + quantifiers (formula_of nodes a))) (number + quantifiers (formula_of nodes a)) p.quantifiers p.universals b (omega arith) q u in cc
  parts_of_node names above number p (node.Or a b) q u =
      let left = same_depth names above ((number + 0) + 0) number p.quantifiers p.universals a (omega arith) q u in
      let right = same_depth names above ((number + 0) + (0 + quantifiers (formula_of nodes a))) (number + quantifiers (formula_of nodes a)) p.quantifiers p.universals b (omega arith) q u in cc
  parts_of_node names above number p (node.Exists sort a) q u =
      let name : Option Name = name_below number sort above in
      let sum : (number + 1) + 0 ≡ number + 1 = omega arith in
      let pushed : ground_names (names ++ name ∷ []) ≡ ground_names names ++ name_of number sort above ∷ [] =
      names-append names (name ∷ []) ∙ ap (λ n. ground_names names ++ n ∷ []) (name-below number sort above) in
      ap (λ es. tree.existential (record { number = number; sort = sort; above = above }) ∷ es)
      (sym (ap (λ n. parts n (ground_names (take (length names + 1) (names ++ name ∷ []))) (take (length above) (above ++ [])) (formula_of nodes a)) sum
      ∙ (ap (λ ds. parts (number + 1) (ground_names ds) (take (length above) (above ++ [])) (formula_of nodes a)) (take_pushed names name)
      ∙ (ap (λ ds. parts (number + 1) ds (take (length above) (above ++ [])) (formula_of nodes a)) pushed
      ∙ ap (λ us. parts (number + 1) (ground_names names ++ name_of number sort above ∷ []) us (formula_of nodes a)) (ap (λ us. take (length above) us) (append-nil above) ∙ take_all above)))))
  parts_of_node names above number p (node.Forall sort a) q u =
      let sum : (number + 1) + 0 ≡ number + 1 = omega arith in
      ap (λ es. tree.universal sort ∷ es)
      (sym (ap (λ n. parts n (ground_names (take (length names + 1) (names ++ None ∷ []))) (take (length above + 1) (above ++ sort ∷ [])) (formula_of nodes a)) sum
      ∙ (ap (λ ds. parts (number + 1) (ground_names ds) (take (length above + 1) (above ++ sort ∷ [])) (formula_of nodes a)) (take_pushed names None)
      ∙ (ap (λ ds. parts (number + 1) ds (take (length above + 1) (above ++ sort ∷ [])) (formula_of nodes a)) (names-append names (None ∷ []))
      ∙ ap (λ us. parts (number + 1) (ground_names names ++ None ∷ []) us (formula_of nodes a)) (take_pushed above sort)))))

  -- how many quantifiers a node has
  quantifiers_of_node : (names : List (Option Name)) (above : List ℕ) (p : Pending) (n : Node)
      → quantifiers (formula_part (tree_from (trees_of nodes) n)) ≡ own_quantifiers n + quantifiers_left nodes (pending_of p names above n)
  quantifiers_of_node names above p (node.Bound sort depth) = refl
  quantifiers_of_node names above p (node.Num n) = refl
  quantifiers_of_node names above p (node.Str t) = refl
  quantifiers_of_node names above p (node.App f t) = refl
  quantifiers_of_node names above p node.Yes = refl
  quantifiers_of_node names above p node.No = refl
  quantifiers_of_node names above p (node.Eq s t) = refl
  quantifiers_of_node names above p (node.Less s t) = refl
  quantifiers_of_node names above p (node.Has f s t) = refl
  quantifiers_of_node names above p (node.Flag f t) = refl
  quantifiers_of_node names above p (node.Present f t) = refl
  quantifiers_of_node names above p (node.Not a) = omega arith
  quantifiers_of_node names above p (node.And a b) = omega arith
  quantifiers_of_node names above p (node.Or a b) = omega arith
  quantifiers_of_node names above p (node.Exists sort a) = omega arith
  quantifiers_of_node names above p (node.Forall sort a) = omega arith

  -- a step of a walk takes one from what is left
  fewer_steps : (names : List (Option Name)) (above : List ℕ) (p : Pending) (n : Node)
      → steps_left nodes (pending_of p names above n) < steps_of (formula_part (tree_from (trees_of nodes) n))
  fewer_steps names above p (node.Bound sort depth) = omega arith
  fewer_steps names above p (node.Num n) = omega arith
  fewer_steps names above p (node.Str t) = omega arith
  fewer_steps names above p (node.App f t) = omega arith
  fewer_steps names above p node.Yes = omega arith
  fewer_steps names above p node.No = omega arith
  fewer_steps names above p (node.Eq s t) = omega arith
  fewer_steps names above p (node.Less s t) = omega arith
  fewer_steps names above p (node.Has f s t) = omega arith
  fewer_steps names above p (node.Flag f t) = omega arith
  fewer_steps names above p (node.Present f t) = omega arith
  fewer_steps names above p (node.Not a) = omega arith
  fewer_steps names above p (node.And a b) = omega arith
  fewer_steps names above p (node.Or a b) = omega arith
  fewer_steps names above p (node.Exists sort a) = omega arith
  fewer_steps names above p (node.Forall sort a) = omega arith

  outside_last : (q u : ℕ) (xs : List Pending) (p : Pending) → AreOutside q u (xs ++ p ∷ []) → (q ≤ p.quantifiers) × (u ≤ p.universals)
  outside_last q u [] p h = (h.0, h.1)
  outside_last q u (x ∷ xs) p h = outside_last q u xs p h.2

  pub pending_split : (xs : List Pending) (p : Pending) → ArePending nodes (xs ++ p ∷ []) → ArePending nodes xs × IsFormula nodes p.id × AreWithin p.quantifiers p.universals xs
  pending_split [] p h = (tt, h.0, tt)
  pending_split (x ∷ xs) p h =
      let later = pending_split xs p h.2 in
      let below = outside_last x.quantifiers x.universals xs p h.1 in
      ((h.0, outside_front x.quantifiers x.universals xs h.1, later.0), later.1, (below.0, below.1, later.2))
    where
      outside_front : (q u : ℕ) (xs : List Pending) → AreOutside q u (xs ++ p ∷ []) → AreOutside q u xs
      outside_front q u [] h = tt
      outside_front q u (x ∷ xs) h = (h.0, h.1, outside_front q u xs h.2)

  within_last : (q u : ℕ) (xs : List Pending) (p : Pending) → AreWithin q u (xs ++ p ∷ []) → (p.quantifiers ≤ q) × (p.universals ≤ u)
  within_last q u [] p h = (h.0, h.1)
  within_last q u (x ∷ xs) p h = within_last q u xs p h.2

  within_append : (q u q' u' : ℕ) (xs ys : List Pending) → q ≤ q' → u ≤ u' → AreWithin q u xs → AreWithin q' u' ys → AreWithin q' u' (xs ++ ys)
  within_append q u q' u' [] ys p r h k = k
  within_append q u q' u' (x ∷ xs) ys p r h k = (omega (arith, h.0), omega (arith, h.1), within_append q u q' u' xs ys p r h.2 k)

  outside_append : (q u q' u' : ℕ) (xs ys : List Pending) → q' ≤ q → u' ≤ u → AreOutside q' u' xs → AreOutside q u ys → AreOutside q' u' (xs ++ ys)
  outside_append q u q' u' [] [] p r h k = tt
  outside_append q u q' u' [] (y ∷ ys) p r h k = (omega (arith, k.0), omega (arith, k.1), outside_append q u q' u' [] ys p r tt k.2)
  outside_append q u q' u' (x ∷ xs) ys p r h k = (h.0, h.1, outside_append q u q' u' xs ys p r h.2 k)

  pending_append : (q u : ℕ) (xs ys : List Pending) → ArePending nodes xs → AreWithin q u xs → ArePending nodes ys → AreOutside q u ys → ArePending nodes (xs ++ ys)
  pending_append q u [] ys h w k o = k
  pending_append q u (x ∷ xs) ys h w k o =
      (h.0, outside_append q u x.quantifiers x.universals xs ys w.0 w.1 h.1 o, pending_append q u xs ys h.2 w.2 k o)

  parts_pending : (names : List (Option Name)) (above : List ℕ) (p : Pending) (n : Node) → IsPlaced nodes n → ArePending nodes (pending_of p names above n)
  parts_pending names above p (node.Bound sort depth) h = tt
  parts_pending names above p (node.Num n) h = tt
  parts_pending names above p (node.Str t) h = tt
  parts_pending names above p (node.App f t) h = tt
  parts_pending names above p node.Yes h = tt
  parts_pending names above p node.No h = tt
  parts_pending names above p (node.Eq s t) h = tt
  parts_pending names above p (node.Less s t) h = tt
  parts_pending names above p (node.Has f s t) h = tt
  parts_pending names above p (node.Flag f t) h = tt
  parts_pending names above p (node.Present f t) h = tt
  parts_pending names above p (node.Not a) h = (h, tt, tt)
  parts_pending names above p (node.And a b) h = (h.1, (omega arith, omega arith, tt), (h.0, tt, tt))
  parts_pending names above p (node.Or a b) h = (h.1, (omega arith, omega arith, tt), (h.0, tt, tt))
  parts_pending names above p (node.Exists sort a) h = (h, tt, tt)
  parts_pending names above p (node.Forall sort a) h = (h, tt, tt)

  parts_outside : (names : List (Option Name)) (above : List ℕ) (p : Pending) (n : Node) → p.quantifiers ≡ length names → p.universals ≡ length above
      → AreOutside p.quantifiers p.universals (pending_of p names above n)
  parts_outside names above p (node.Bound sort depth) q u = tt
  parts_outside names above p (node.Num n) q u = tt
  parts_outside names above p (node.Str t) q u = tt
  parts_outside names above p (node.App f t) q u = tt
  parts_outside names above p node.Yes q u = tt
  parts_outside names above p node.No q u = tt
  parts_outside names above p (node.Eq s t) q u = tt
  parts_outside names above p (node.Less s t) q u = tt
  parts_outside names above p (node.Has f s t) q u = tt
  parts_outside names above p (node.Flag f t) q u = tt
  parts_outside names above p (node.Present f t) q u = tt
  parts_outside names above p (node.Not a) q u = (omega arith, omega arith, tt)
  parts_outside names above p (node.And a b) q u = (omega arith, omega arith, (omega arith, omega arith, tt))
  parts_outside names above p (node.Or a b) q u = (omega arith, omega arith, (omega arith, omega arith, tt))
  parts_outside names above p (node.Exists sort a) q u = (omega arith, omega arith, tt)
  parts_outside names above p (node.Forall sort a) q u = (omega arith, omega arith, tt)

  parts_within : (names : List (Option Name)) (above : List ℕ) (number : ℕ) (p : Pending) (n : Node) → p.quantifiers ≡ length names → p.universals ≡ length above
      → AreWithin (length (names ++ names_of number above n)) (length (above ++ universal_of n)) (pending_of p names above n)
  parts_within names above number p n q u =
      let l = length-append names (names_of number above n) in
      let m = length-append above (universal_of n) in
      cases n l m
    where
      cases : (n : Node) → length (names ++ names_of number above n) ≡ length names + length (names_of number above n)
          → length (above ++ universal_of n) ≡ length above + length (universal_of n)
          → AreWithin (length (names ++ names_of number above n)) (length (above ++ universal_of n)) (pending_of p names above n)
      cases (node.Bound sort depth) l m = tt
      cases (node.Num n) l m = tt
      cases (node.Str t) l m = tt
      cases (node.App f t) l m = tt
      cases node.Yes l m = tt
      cases node.No l m = tt
      cases (node.Eq s t) l m = tt
      cases (node.Less s t) l m = tt
      cases (node.Has f s t) l m = tt
      cases (node.Flag f t) l m = tt
      cases (node.Present f t) l m = tt
      cases (node.Not a) l m = (omega arith, omega arith, tt)
      cases (node.And a b) l m = (omega arith, omega arith, (omega arith, omega arith, tt))
      cases (node.Or a b) l m = (omega arith, omega arith, (omega arith, omega arith, tt))
      cases (node.Exists sort a) l m = (omega arith, omega arith, tt)
      cases (node.Forall sort a) l m = (omega arith, omega arith, tt)

  take_take : {A : Type 0} (k n : ℕ) (xs : List A) → k ≤ n → take k (take n xs) ≡ take k xs
  take_take zero n xs h = refl
  take_take (suc k) zero xs h = absurd (omega arith)
  take_take (suc k) (suc n) [] h = refl
  take_take (suc k) (suc n) (x ∷ xs) h = ap (λ ys. x ∷ ys) (take_take k n xs (omega arith))

  length-take : {A : Type 0} (n : ℕ) (xs : List A) → n ≤ length xs → length (take n xs) ≡ n
  length-take zero xs h = refl
  length-take (suc n) [] h = absurd (omega arith)
  length-take (suc n) (x ∷ xs) h = ap suc (length-take n xs (omega arith))

  -- quantifiers above stay where later ones are exchanged
  take_kept : {A : Type 0} (k n : ℕ) (xs more : List A) → k ≤ n → n ≤ length xs → take k (take n xs ++ more) ≡ take k xs
  take_kept k n xs more h l = take-append-le k (take n xs) more (omega (arith, length-take n xs l)) ∙ take_take k n xs h

  -- one step of a walk
  pub walk_step : (total found0 : List tree.Part) (pending0 rest : List Pending) (names0 : List (Option Name)) (above0 : List ℕ) (number : ℕ) (p : Pending) (n : Node)
      → pending0 ≡ rest ++ p ∷ [] → ArePending nodes pending0 → AreWithin (length names0) (length above0) pending0
      → found0 ++ all_parts nodes names0 above0 number pending0 ≡ total
      → tree_of nodes p.id ≡ tree_from (trees_of nodes) n → IsPlaced nodes n
      → let names1 = take p.quantifiers names0 in let above1 = take p.universals above0 in
      ArePending nodes (rest ++ pending_of p names1 above1 n)
      × AreWithin (length (names1 ++ names_of number above1 n)) (length (above1 ++ universal_of n)) (rest ++ pending_of p names1 above1 n)
      × ((found0 ++ own_parts nodes names1 above1 number n)
      ++ all_parts nodes (names1 ++ names_of number above1 n) (above1 ++ universal_of n) (number + own_quantifiers n) (rest ++ pending_of p names1 above1 n) ≡ total)
      × (steps_left nodes (rest ++ pending_of p names1 above1 n) < steps_left nodes pending0)
  walk_step total found0 pending0 rest names0 above0 number p n whole sound within all means placed =
      let P : List Pending → Type 0 = λ xs. ArePending nodes xs in
      let W : List Pending → Type 0 = λ xs. AreWithin (length names0) (length above0) xs in
      let split = pending_split rest p (subst P whole sound) in
      let last = within_last (length names0) (length above0) rest p (subst W whole within) in
      let names1 : List (Option Name) = take p.quantifiers names0 in
      let above1 : List ℕ = take p.universals above0 in
      let names2 : List (Option Name) = names1 ++ names_of number above1 n in
      let above2 : List ℕ = above1 ++ universal_of n in
      let later_parts : List Pending = pending_of p names1 above1 n in
      let q : p.quantifiers ≡ length names1 = sym (length-take p.quantifiers names0 last.0) in
      let u : p.universals ≡ length above1 = sym (length-take p.universals above0 last.1) in
      let own : List tree.Part = own_parts nodes names1 above1 number n in
      let m1 : ℕ = number + own_quantifiers n in
      let m2 : ℕ = number + (0 + quantifiers (formula_of nodes p.id)) in
      let E1 : List tree.Part = all_parts nodes names2 above2 m1 later_parts in
      let E2 : List tree.Part = all_parts nodes names2 above2 m2 rest in
      let of_p : pending_parts nodes names0 above0 (number + 0) p ≡ own ++ E1 =
      ap (λ k. parts k (ground_names names1) above1 (formula_of nodes p.id)) (add_none number)
      ∙ (ap (λ tree. parts number (ground_names names1) above1 (formula_part tree)) means ∙ parts_of_node names1 above1 number p n q u) in
      let of_rest : E2 ≡ all_parts nodes names0 above0 m2 rest =
      all_parts_same names0 names2 above0 above2 m2 p.quantifiers p.universals rest split.2
      (λ k h. take_kept k p.quantifiers names0 (names_of number above1 n) h last.0)
      (λ k h. take_kept k p.universals above0 (universal_of n) h last.1) in
      let of_all : all_parts nodes names0 above0 number pending0 ≡ (own ++ E1) ++ E2 =
      ap (λ xs. all_parts nodes names0 above0 number xs) whole
      ∙ (all_parts-append names0 above0 number rest (p ∷ [])
      ∙ (ap (λ es. es ++ all_parts nodes names0 above0 m2 rest) of_p ∙ ap (λ es. (own ++ E1) ++ es) (sym of_rest))) in
      let size : quantifiers (formula_of nodes p.id) ≡ own_quantifiers n + quantifiers_left nodes later_parts =
      ap (λ tree. quantifiers (formula_part tree)) means ∙ quantifiers_of_node names1 above1 p n in
      let counted : m1 + quantifiers_left nodes later_parts ≡ m2 = omega arith in
      let l = length-append names1 (names_of number above1 n) in
      let m = length-append above1 (universal_of n) in
      let steps : steps_left nodes pending0 ≡ steps_left nodes rest + steps_of (formula_of nodes p.id) =
      ap (λ xs. steps_left nodes xs) whole ∙ (sum_by-append (λ p. steps_of (formula_of nodes p.id)) rest (p ∷ []) ∙ one_more (steps_left nodes rest) (steps_of (formula_of nodes p.id))) in
      let later = sum_by-append (λ p. steps_of (formula_of nodes p.id)) rest later_parts in
      let fewer = fewer_steps names1 above1 p n in
      let means_steps : steps_of (formula_of nodes p.id) ≡ steps_of (formula_part (tree_from (trees_of nodes) n)) = ap (λ tree. steps_of (formula_part tree)) means in (
        pending_append p.quantifiers p.universals rest later_parts split.0 split.2 (parts_pending names1 above1 p n placed) (parts_outside names1 above1 p n q u),
        within_append p.quantifiers p.universals (length names2) (length above2) rest later_parts (omega arith) (omega arith) split.2 (parts_within names1 above1 number p n q u),
        ap (λ es. (found0 ++ own) ++ es) (all_parts-append names2 above2 m1 rest later_parts ∙ ap (λ k. E1 ++ all_parts nodes names2 above2 k rest) counted)
            ∙ (append_assoc found0 own (E1 ++ E2)
            ∙ (ap (λ es. found0 ++ es) (sym (append_assoc own E1 E2)) ∙ (ap (λ es. found0 ++ es) (sym of_all) ∙ all))),
        omega arith,
      )
    where
      one_more : (a b : ℕ) → a + (0 + b) ≡ a + b
      one_more a b = omega arith

      add_none : (a : ℕ) → a + 0 ≡ a
      add_none a = omega arith

module _ (nodes : List Node) where
  -- what is left where a formula without quantifiers is taken out
  matrix_left : (total found0 : List tree.Part) (pending0 rest : List Pending) (names0 : List (Option Name)) (above0 : List ℕ) (number : ℕ) (p : Pending)
      → pending0 ≡ rest ++ p ∷ [] → ArePending nodes pending0 → AreWithin (length names0) (length above0) pending0
      → found0 ++ all_parts nodes names0 above0 number pending0 ≡ total → IsMatrix nodes p.id
      → let names1 = take p.quantifiers names0 in let above1 = take p.universals above0 in
      ArePending nodes rest × AreWithin (length names1) (length above1) rest
      × ((found0 ++ map (tree.atom_term (ground_names names1)) (terms_below nodes p.id)) ++ all_parts nodes names1 above1 number rest ≡ total)
      × (steps_left nodes rest < steps_left nodes pending0)
  matrix_left total found0 pending0 rest names0 above0 number p whole sound within all is =
      let P : List Pending → Type 0 = λ xs. ArePending nodes xs in
      let W : List Pending → Type 0 = λ xs. AreWithin (length names0) (length above0) xs in
      let split = pending_split nodes rest p (subst P whole sound) in
      let last = within_last nodes (length names0) (length above0) rest p (subst W whole within) in
      let names1 : List (Option Name) = take p.quantifiers names0 in
      let above1 : List ℕ = take p.universals above0 in
      let q : length names1 ≡ p.quantifiers = length-take nodes p.quantifiers names0 last.0 in
      let u : length above1 ≡ p.universals = length-take nodes p.universals above0 last.1 in
      let plain = is.plain in
      let own : List tree.Part = map (tree.atom_term (ground_names names1)) (terms_below nodes p.id) in
      let m2 : ℕ = number + (0 + quantifiers (formula_of nodes p.id)) in
      let same : m2 ≡ number = omega arith in
      let E : List tree.Part = all_parts nodes names1 above1 number rest in
      let of_p : pending_parts nodes names0 above0 (number + 0) p ≡ own = parts-of-matrix (number + 0) (ground_names names1) above1 (formula_of nodes p.id) plain in
      let of_rest : E ≡ all_parts nodes names0 above0 m2 rest =
      all_parts_same nodes names0 names1 above0 above1 number p.quantifiers p.universals rest split.2
      (λ k h. take_take nodes k p.quantifiers names0 h) (λ k h. take_take nodes k p.universals above0 h)
      ∙ ap (λ n. all_parts nodes names0 above0 n rest) (sym same) in
      let of_all : all_parts nodes names0 above0 number pending0 ≡ own ++ E =
      ap (λ xs. all_parts nodes names0 above0 number xs) whole
      ∙ (all_parts-append nodes names0 above0 number rest (p ∷ [])
      ∙ (ap (λ es. es ++ all_parts nodes names0 above0 m2 rest) of_p ∙ ap (λ es. own ++ es) (sym of_rest))) in
      let one = a-step (formula_of nodes p.id) in
      let steps : steps_left nodes pending0 ≡ steps_left nodes rest + (0 + steps_of (formula_of nodes p.id)) =
      ap (λ xs. steps_left nodes xs) whole ∙ sum_by-append (λ p. steps_of (formula_of nodes p.id)) rest (p ∷ []) in (
        split.0,
        along2 (λ a b. AreWithin a b rest) p.quantifiers (length names1) p.universals (length above1) (sym q) (sym u) split.2,
        append_assoc found0 own E ∙ (ap (λ es. found0 ++ es) (sym of_all) ∙ all),
        omega arith,
      )
    where
      along2 : (Q : ℕ → ℕ → Type 0) (a a' b b' : ℕ) → a ≡ a' → b ≡ b' → Q a b → Q a' b'
      along2 Q a a' b b' e f h = subst (λ y. Q a' y) f (subst (λ x. Q x b) e h)

along : (Q : List Pending → List (Option Name) → List ℕ → ℕ → Type 0) (a a' : List Pending) (b b' : List (Option Name)) (c c' : List ℕ) (d d' : ℕ)
    → a ≡ a' → b ≡ b' → c ≡ c' → d ≡ d' → Q a b c d → Q a' b' c' d'
along Q a a' b b' c c' d d' p q r t h =
    let A : List Pending → Type 0 = λ a. Q a b c d in
    let B : List (Option Name) → Type 0 = λ b. Q a' b c d in
    let C : List ℕ → Type 0 = λ c. Q a' b' c d in
    let D : ℕ → Type 0 = λ d. Q a' b' c' d in
    subst D t (subst C r (subst B q (subst A p h)))

-- more parts
thinned_more : (nodes : List Node) (found own kept : List tree.Part) (cs more cs2 : List Part) → AreThinned nodes found cs → Thins IsAtomTerm own kept → AreParts nodes kept more → cs2 ≡ cs ++ more
    → AreThinned nodes (found ++ own) cs2
thinned_more nodes found own kept cs more cs2 h thins are e = (
  h.0 ++ kept,
  thins-append IsAtomTerm found own h.0 kept h.1 thins,
  subst (λ (xs : List Part). AreParts nodes (h.0 ++ kept) xs) (sym e) (AreParts-append nodes h.0 kept cs more h.2 are),
)

-- one step of a walk: the formula that was pending last is taken out, what stands below it is forgotten, and its node is expanded
pub walk_expanded : (nodes : List Node) (total : List tree.Part) (w0 w1 w2 : Walk) (p : Pending) (n : Node)
    → w0.pending.items ≡ w1.pending.items ++ p ∷ [] → IsWalkOf nodes total w0
    → w1.names.items ≡ take p.quantifiers w0.names.items → w1.above.items ≡ take p.universals w0.above.items → w1.number ≡ w0.number → w1.parts.items ≡ w0.parts.items
    → tree_of nodes p.id ≡ tree_from (trees_of nodes) n → IsPlaced nodes n → IsExpansion nodes p n w1 w2
    → IsWalkOf nodes total w2 × (steps_left nodes w2.pending.items < steps_left nodes w0.pending.items)
walk_expanded nodes total w0 w1 w2 p n e w d a k f means placed x =
    let names1 : List (Option Name) = take p.quantifiers w0.names.items in
    let above1 : List ℕ = take p.universals w0.above.items in
    let own : List tree.Part = own_parts nodes names1 above1 w0.number n in
    let R : List Pending → List (Option Name) → List ℕ → ℕ → Type 0 =
    λ pending names above number.
    ArePending nodes pending × AreWithin (length names) (length above) pending × ((w.found ++ own) ++ all_parts nodes names above number pending ≡ total)
    × (steps_left nodes pending < steps_left nodes w0.pending.items) in
    let S : List Pending → List (Option Name) → List ℕ → ℕ → Type 0 =
    λ rest names above number.
    R (rest ++ pending_of p names above n) (names ++ names_of number above n) (above ++ universal_of n) (number + own_quantifiers n) in
    let step : S w1.pending.items names1 above1 w0.number =
    walk_step nodes total w.found w0.pending.items w1.pending.items w0.names.items w0.above.items w0.number p n e w.sound w.within w.whole means placed in
    let now = along S _ w1.pending.items _ w1.names.items _ w1.above.items _ w1.number refl (sym d) (sym a) (sym k) step in
    let done = along R _ w2.pending.items _ w2.names.items _ w2.above.items _ w2.number (sym x.pending) (sym x.names) (sym x.above) (sym x.number) now in
    let O : List Pending → List (Option Name) → List ℕ → ℕ → Type 0 = λ unused names above number. AreParts nodes (own_parts nodes names above number n) x.parts.0 in
    let more : AreParts nodes own x.parts.0 = along O [] [] w1.names.items names1 w1.above.items above1 w1.number w0.number refl d a k x.parts.1 in
    let shown : AreThinned nodes (w.found ++ own) w2.parts.items =
    thinned_more nodes w.found own own w0.parts.items x.parts.0 w2.parts.items w.shown (thins-all IsAtomTerm own) more (x.parts.2 ∙ ap (λ cs. cs ++ x.parts.0) f) in
    (record { sound = done.0; within = done.1; found = w.found ++ own; shown = shown; whole = done.2 }, done.3)

-- or it is without quantifiers, and its parts are found
pub walk_matrix : (nodes : List Node) (total : List tree.Part) (w0 w1 w2 : Walk) (p : Pending)
    → w0.pending.items ≡ w1.pending.items ++ p ∷ [] → IsWalkOf nodes total w0
    → w1.names.items ≡ take p.quantifiers w0.names.items → w1.above.items ≡ take p.universals w0.above.items → w1.number ≡ w0.number → w1.parts.items ≡ w0.parts.items
    → IsMatrixStep nodes p w1 w2
    → IsWalkOf nodes total w2 × (steps_left nodes w2.pending.items < steps_left nodes w0.pending.items)
walk_matrix nodes total w0 w1 w2 p e w d a k f x =
    let names1 : List (Option Name) = take p.quantifiers w0.names.items in
    let above1 : List ℕ = take p.universals w0.above.items in
    let own : List tree.Part = map (tree.atom_term (ground_names names1)) (terms_below nodes p.id) in
    let step = matrix_left nodes total w.found w0.pending.items w1.pending.items w0.names.items w0.above.items w0.number p e w.sound w.within w.whole x.matrix in
    let R : List Pending → List (Option Name) → List ℕ → ℕ → Type 0 =
    λ pending names above number.
    ArePending nodes pending × AreWithin (length names) (length above) pending × ((w.found ++ own) ++ all_parts nodes names above number pending ≡ total)
    × (steps_left nodes pending < steps_left nodes w0.pending.items) in
    let done = along R _ w2.pending.items _ w2.names.items _ w2.above.items _ w2.number (sym x.pending) (sym (x.names ∙ d)) (sym (x.above ∙ a)) (sym (x.number ∙ k)) step in
    let added : AddsMatrix nodes names1 p.id w1.parts.items w2.parts.items = subst (λ (names : List (Option Name)). AddsMatrix nodes names p.id w1.parts.items w2.parts.items) d x.parts in
    let kept : List tree.Part = map (tree.atom_term (ground_names names1)) added.kept in
    let shown : AreThinned nodes (w.found ++ own) w2.parts.items =
    thinned_more nodes w.found own kept w0.parts.items added.more w2.parts.items w.shown
    (thins-map AnyTerm IsAtomTerm (tree.atom_term (ground_names names1)) (λ t. tt) (terms_below nodes p.id) added.kept added.thinned) added.are (added.whole ∙ ap (λ cs. cs ++ added.more) f) in
    (record { sound = done.0; within = done.1; found = w.found ++ own; shown = shown; whole = done.2 }, done.3)

-- the parts that were found, where nothing is left
pub all_found : (nodes : List Node) (total : List tree.Part) (w : Walk) → IsWalkOf nodes total w → w.pending.items ≡ [] → AreThinned nodes total w.parts.items
all_found nodes total w is e =
    let P : List tree.Part → Type 0 = λ ps. AreThinned nodes ps w.parts.items in
    subst P (sym (append-nil is.found) ∙ (ap (λ xs. is.found ++ all_parts nodes w.names.items w.above.items w.number xs) (sym e) ∙ is.whole)) is.shown

pub none_left : {A : Type 0} (xs : List A) → length xs ≡ 0 → xs ≡ []
none_left [] e = refl
none_left (x ∷ xs) e = absurd (omega arith)
