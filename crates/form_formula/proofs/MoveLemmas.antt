-- Steps of an evaluation.
use Rattle.std.proofs.Common.{◌≡◌, ℕ, ◌+◌, ◌*◌, ◌-◌, suc, ◌<◌, Bool, true, false, not, ◌&&◌, ◌||◌, refl, sym, ◌∙◌, List, [], ◌∷◌, ◌++◌, ap, subst, arith, rules, append_assoc, append-nil, take, length, length-append}
use Rattle.std.specs.Prelude.{All, Result, IfOk}
use Rattle.std.specs.declared.alloc.AllocError.{AllocError}
use Rattle.std.proofs.Math.Seq.{take-append_seam, get_or-append_seam}
use Rattle.std.proofs.lemmas.List.{get_or_append_left}
use Rattle.std.specs.List.{list_any, list_all, range_with_len}
use Rattle.std.proofs.lemmas.List.Sums.{sum_by_push}
use Rattle.std.proofs.lemmas.Grind.{common_steps}
use Rattle.form_formula.specs.declared.node.Node.{Node}
use Rattle.form_formula.specs.declared.structure.Structure.{Structure}
use Rattle.form_formula.specs.declared.evaluation.Choice.{Choice}
use Rattle.form_formula.specs.declared.evaluation.Frame.{Frame}
use Rattle.form_formula.specs.declared.evaluation.Frame.TheVariants.{Not, And, Or, Exists, Forall}
use Rattle.form_formula.specs.declared.evaluation.Step.{Step}
use Rattle.form_formula.specs.declared.evaluation.Step.TheVariants.{Seek, Found}
use Rattle.form_formula.specs.Nodes.{IsFormula, formula_of, formula_part, tree_of, tree_from, trees_of}
use Rattle.form_formula.specs.Trees.{Formula, yes, no, equal, less, has, flag, present, negation, both, either, exists, forall}
use Rattle.form_formula.specs.declared.node.Node.TheVariants as node
use Rattle.form_formula.specs.Truth.{truth, size_of}
use Rattle.form_formula.specs.Evaluation.{chosen, elements_from, outcome, step_value, cost, choices_cost, frame_cost, step_cost, IsFrame, IsSound, AreWaiting, IsMove, IsPlain, IsTrialExists, IsTrialForall}

pub chosen-append : (xs ys : List Frame) → chosen (xs ++ ys) ≡ chosen xs ++ chosen ys
chosen-append [] ys = refl
chosen-append (Not ∷ xs) ys = chosen-append xs ys
chosen-append (And a ∷ xs) ys = chosen-append xs ys
chosen-append (Or a ∷ xs) ys = chosen-append xs ys
chosen-append (Exists c ∷ xs) ys = ap (λ zs. c.element ∷ zs) (chosen-append xs ys)
chosen-append (Forall c ∷ xs) ys = ap (λ zs. c.element ∷ zs) (chosen-append xs ys)

All_push : (P : Frame → Type 0) (xs : List Frame) (y : Frame) → All P xs → P y → All P (xs ++ y ∷ [])
All_push P xs y h k = search (rules, common_steps)

-- a choice of this element alone
abbrev pub only : (x body : ℕ) → Frame
only x body = Exists (record { size = x + 1; element = x; body = body })

nothing_left : (x : ℕ) → (x + 1) - (x + 1) ≡ 0
nothing_left x = omega arith

or-false : (b : Bool) → b || false ≡ b
or-false true = refl
or-false false = refl

pub waits_for_one : (nodes : List Node) (frames : List Frame) (elements : List ℕ) (x body : ℕ) → AreWaiting nodes frames elements → IsFormula nodes body
    → AreWaiting nodes (frames ++ only x body ∷ []) (elements ++ x ∷ [])
waits_for_one nodes frames elements x body w f = record {
  frames_sound = All_push (IsFrame nodes) frames (only x body) w.frames_sound (f, omega arith);
  in_step = ap (λ (xs : List ℕ). xs ++ x ∷ []) w.in_step ∙ sym (chosen-append frames (only x body ∷ []));
}

more_one : (k c : ℕ) → (k + 1) * c ≡ k * c + c
more_one k c = omega arith

module _ (s : Structure) (nodes : List Node) where
  pub outcome-append : (env : List ℕ) (xs ys : List Frame) (b : Bool) → outcome s nodes env (xs ++ ys) b ≡ outcome s nodes env xs (outcome s nodes (env ++ chosen xs) ys b)
  outcome-append env [] ys b = ap (λ e. outcome s nodes e ys b) (sym (append-nil env))
  outcome-append env (Not ∷ xs) ys b = ap not (outcome-append env xs ys b)
  outcome-append env (And a ∷ xs) ys b = ap (λ v. v && truth s env (formula_of nodes a)) (outcome-append env xs ys b)
  outcome-append env (Or a ∷ xs) ys b = ap (λ v. v || truth s env (formula_of nodes a)) (outcome-append env xs ys b)
  outcome-append env (Exists c ∷ xs) ys b =
      let rest : Bool = list_any (λ x. truth s (env ++ x ∷ []) (formula_of nodes c.body)) (elements_from c.size (c.element + 1)) in
      ap (λ v. v || rest) (outcome-append (env ++ c.element ∷ []) xs ys b
      ∙ ap (λ e. outcome s nodes (env ++ c.element ∷ []) xs (outcome s nodes e ys b)) (append_assoc env (c.element ∷ []) (chosen xs)))
  outcome-append env (Forall c ∷ xs) ys b =
      let rest : Bool = list_all (λ x. truth s (env ++ x ∷ []) (formula_of nodes c.body)) (elements_from c.size (c.element + 1)) in
      ap (λ v. v && rest) (outcome-append (env ++ c.element ∷ []) xs ys b
      ∙ ap (λ e. outcome s nodes (env ++ c.element ∷ []) xs (outcome s nodes e ys b)) (append_assoc env (c.element ∷ []) (chosen xs)))

  -- a choice that has no other element changes nothing
  no_other : (x body : ℕ) (env : List ℕ) (b : Bool) → outcome s nodes env (only x body ∷ []) b ≡ b
  no_other x body env b =
      let rest : ℕ → Bool = λ n. list_any (λ y. truth s (env ++ y ∷ []) (formula_of nodes body)) (range_with_len (x + 1) n) in
      let none : rest ((x + 1) - (x + 1)) ≡ false = ap rest (nothing_left x) in
      ap (λ v. b || v) none ∙ or-false b

  pub only_kept : (frames : List Frame) (x body : ℕ) → ((b : Bool) → outcome s nodes [] frames b ≡ b)
      → (b : Bool) → outcome s nodes [] (frames ++ only x body ∷ []) b ≡ b
  only_kept frames x body same b =
      outcome-append [] frames (only x body ∷ []) b ∙ (same (outcome s nodes (chosen frames) (only x body ∷ []) b) ∙ no_other x body (chosen frames) b)

  -- nothing more waits
  pub move_same : (frames : List Frame) (elements : List ℕ) (value : Bool) (steps : ℕ) (next : Step) → AreWaiting nodes frames elements → IsSound nodes next
      → step_value s nodes elements next ≡ value → step_cost s nodes next < steps → IsMove s nodes frames value steps frames elements next
  move_same frames elements value steps next w sound same short = record {
    waiting = w;
    sound = sound;
    same = ap (λ e. outcome s nodes [] frames (step_value s nodes e next)) (sym w.in_step) ∙ ap (λ v. outcome s nodes [] frames v) same;
    nearer = omega arith;
  }

  -- one more frame waits
  pub move_in : (frames : List Frame) (elements : List ℕ) (value : Bool) (steps : ℕ) (f : Frame) (next : Step) → AreWaiting nodes frames elements → IsFrame nodes f → IsSound nodes next
      → outcome s nodes elements (f ∷ []) (step_value s nodes (elements ++ chosen (f ∷ [])) next) ≡ value → frame_cost s nodes f + step_cost s nodes next < steps
      → IsMove s nodes frames value steps (frames ++ f ∷ []) (elements ++ chosen (f ∷ [])) next
  move_in frames elements value steps f next w frame sound same short =
      let more : chosen (frames ++ f ∷ []) ≡ elements ++ chosen (f ∷ []) = chosen-append frames (f ∷ []) ∙ ap (λ e. e ++ chosen (f ∷ [])) (sym w.in_step) in
      record {
        waiting = record { frames_sound = All_push (IsFrame nodes) frames f w.frames_sound frame; in_step = sym more };
        sound = sound;
        same =
            ap (λ e. outcome s nodes [] (frames ++ f ∷ []) (step_value s nodes e next)) more
            ∙ (outcome-append [] frames (f ∷ []) (step_value s nodes (elements ++ chosen (f ∷ [])) next)
            ∙ ap (λ v. outcome s nodes [] frames v)
            (ap (λ e. outcome s nodes e (f ∷ []) (step_value s nodes (elements ++ chosen (f ∷ [])) next)) (sym w.in_step) ∙ same));
        nearer = omega (arith, sum_by_push (frame_cost s nodes) frames f);
      }

  -- the elements from one on are that one and those after it
  elements_one : (size element : ℕ) → element < size → elements_from size element ≡ element ∷ elements_from size (element + 1)
  elements_one size element h = let e : size - element ≡ suc (size - (element + 1)) = omega arith in ap (λ n. range_with_len element n) e

  cost_one : (size element body : ℕ) → element < size → choices_cost s nodes size (element + 1) body + cost s nodes (formula_of nodes body) < choices_cost s nodes size element body
  cost_one size element body h =
      let c : ℕ = cost s nodes (formula_of nodes body) + 2 in
      let k : ℕ = size - (element + 1) in
      let e : size - element ≡ k + 1 = omega arith in
      let f : (size - element) * c ≡ k * c + c = ap (λ n. n * c) e ∙ more_one k c in
      omega (arith, f)

  -- the element of a sort that is tried first, for some element and for each
  pub move_exists : (frames : List Frame) (elements : List ℕ) (c : Choice) → AreWaiting nodes frames elements → IsFormula nodes c.body → c.element < c.size
      → IsMove s nodes frames (list_any (λ x. truth s (elements ++ x ∷ []) (formula_of nodes c.body)) (elements_from c.size c.element)) (choices_cost s nodes c.size c.element c.body)
      (frames ++ Exists c ∷ []) (elements ++ c.element ∷ []) (Seek c.body)
  move_exists frames elements c w body there =
      move_in frames elements _ _ (Exists c) (Seek c.body) w (body, there) body
      (ap (λ xs. list_any (λ x. truth s (elements ++ x ∷ []) (formula_of nodes c.body)) xs) (sym (elements_one c.size c.element there)))
      (cost_one c.size c.element c.body there)

  pub move_forall : (frames : List Frame) (elements : List ℕ) (c : Choice) → AreWaiting nodes frames elements → IsFormula nodes c.body → c.element < c.size
      → IsMove s nodes frames (list_all (λ x. truth s (elements ++ x ∷ []) (formula_of nodes c.body)) (elements_from c.size c.element)) (choices_cost s nodes c.size c.element c.body)
      (frames ++ Forall c ∷ []) (elements ++ c.element ∷ []) (Seek c.body)
  move_forall frames elements c w body there =
      move_in frames elements _ _ (Forall c) (Seek c.body) w (body, there) body
      (ap (λ xs. list_all (λ x. truth s (elements ++ x ∷ []) (formula_of nodes c.body)) xs) (sym (elements_one c.size c.element there)))
      (cost_one c.size c.element c.body there)

  -- a move to lists that are these
  pub move_to : (frames : List Frame) (value : Bool) (steps : ℕ) (later later' : List Frame) (elements elements' : List ℕ) (next : Step) → later' ≡ later → elements' ≡ elements
      → IsMove s nodes frames value steps later elements next → IsMove s nodes frames value steps later' elements' next
  move_to frames value steps later later' elements elements' next p q m =
      let P : List Frame → Type 0 = λ fs. IsMove s nodes frames value steps fs elements' next in
      let Q : List ℕ → Type 0 = λ es. IsMove s nodes frames value steps later es next in
      subst P (sym p) (subst Q (sym q) m)

  cost_positive : (f : Formula) → 0 < cost s nodes f
  cost_positive yes = omega arith
  cost_positive no = omega arith
  cost_positive (equal t u) = omega arith
  cost_positive (less t u) = omega arith
  cost_positive (has r t u) = omega arith
  cost_positive (flag f t) = omega arith
  cost_positive (present f t) = omega arith
  cost_positive (negation a) = omega arith
  cost_positive (both a b) = omega arith
  cost_positive (either a b) = omega arith
  cost_positive (exists sort a) = omega arith
  cost_positive (forall sort a) = omega arith

  -- the truth of a formula is known
  pub move_found : (frames : List Frame) (elements : List ℕ) (id : ℕ) (b : Bool) → AreWaiting nodes frames elements → b ≡ truth s elements (formula_of nodes id)
      → IsMove s nodes frames (truth s elements (formula_of nodes id)) (cost s nodes (formula_of nodes id)) frames elements (Found b)
  move_found frames elements id b w e = move_same frames elements _ _ (Found b) w tt e (omega (arith, cost_positive (formula_of nodes id)))

  -- a part is sought, and a frame that chooses nothing waits for it
  move_part : (frames : List Frame) (elements : List ℕ) (id a : ℕ) (f : Frame) (shape : Formula) → AreWaiting nodes frames elements → IsFrame nodes f → IsFormula nodes a
      → chosen (f ∷ []) ≡ [] → formula_of nodes id ≡ shape → outcome s nodes elements (f ∷ []) (truth s elements (formula_of nodes a)) ≡ truth s elements shape
      → frame_cost s nodes f + cost s nodes (formula_of nodes a) < cost s nodes shape
      → IsMove s nodes frames (truth s elements (formula_of nodes id)) (cost s nodes (formula_of nodes id)) (frames ++ f ∷ []) elements (Seek a)
  move_part frames elements id a f shape w frame body none is same short =
      let plain : elements ≡ elements ++ chosen (f ∷ []) = sym (ap (λ xs. elements ++ xs) none ∙ append-nil elements) in
      let P : Formula → Type 0 = λ g. IsMove s nodes frames (truth s elements g) (cost s nodes g) (frames ++ f ∷ []) elements (Seek a) in
      subst P (sym is)
      (move_to frames _ _ (frames ++ f ∷ []) (frames ++ f ∷ []) (elements ++ chosen (f ∷ [])) elements (Seek a) refl plain
      (move_in frames elements (truth s elements shape) (cost s nodes shape) f (Seek a) w frame body
      (ap (λ es. outcome s nodes elements (f ∷ []) (truth s es (formula_of nodes a))) (sym plain) ∙ same) short))

  pub move_not : (frames : List Frame) (elements : List ℕ) (id a : ℕ) → AreWaiting nodes frames elements → IsFormula nodes a → tree_of nodes id ≡ tree_from (trees_of nodes) (node.Not a)
      → IsMove s nodes frames (truth s elements (formula_of nodes id)) (cost s nodes (formula_of nodes id)) (frames ++ Not ∷ []) elements (Seek a)
  move_not frames elements id a w body means =
      move_part frames elements id a Not (negation (formula_of nodes a)) w tt body refl (ap formula_part means) refl (omega arith)

  pub move_and : (frames : List Frame) (elements : List ℕ) (id a b : ℕ) → AreWaiting nodes frames elements → IsFormula nodes a → IsFormula nodes b
      → tree_of nodes id ≡ tree_from (trees_of nodes) (node.And a b)
      → IsMove s nodes frames (truth s elements (formula_of nodes id)) (cost s nodes (formula_of nodes id)) (frames ++ And b ∷ []) elements (Seek a)
  move_and frames elements id a b w left right means =
      move_part frames elements id a (And b) (both (formula_of nodes a) (formula_of nodes b)) w right left refl (ap formula_part means) refl (omega arith)

  pub move_or : (frames : List Frame) (elements : List ℕ) (id a b : ℕ) → AreWaiting nodes frames elements → IsFormula nodes a → IsFormula nodes b
      → tree_of nodes id ≡ tree_from (trees_of nodes) (node.Or a b)
      → IsMove s nodes frames (truth s elements (formula_of nodes id)) (cost s nodes (formula_of nodes id)) (frames ++ Or b ∷ []) elements (Seek a)
  move_or frames elements id a b w left right means =
      move_part frames elements id a (Or b) (either (formula_of nodes a) (formula_of nodes b)) w right left refl (ap formula_part means) refl (omega arith)

  -- a move for a quantifier is one for its body at all elements
  move_whole : (frames later : List Frame) (value : List ℕ → Bool) (steps : ℕ → ℕ) (size : ℕ) (elements : List ℕ) (next : Step)
      → IsMove s nodes frames (value (elements_from size 0)) (steps (size - 0)) later elements next → IsMove s nodes frames (value (range_with_len 0 size)) (steps size) later elements next
  move_whole frames later value steps size elements next m =
      let P : ℕ → Type 0 = λ n. IsMove s nodes frames (value (range_with_len 0 n)) (steps n) later elements next in
      let e : size - 0 ≡ size = omega arith in subst P e m

  pub move_some : (frames later : List Frame) (env elements : List ℕ) (id sort a : ℕ) (next : Step) → tree_of nodes id ≡ tree_from (trees_of nodes) (node.Exists sort a)
      → IsMove s nodes frames (list_any (λ x. truth s (env ++ x ∷ []) (formula_of nodes a)) (elements_from (size_of s sort) 0)) (choices_cost s nodes (size_of s sort) 0 a) later elements next
      → IsMove s nodes frames (truth s env (formula_of nodes id)) (cost s nodes (formula_of nodes id)) later elements next
  move_some frames later env elements id sort a next means m =
      let P : Formula → Type 0 = λ g. IsMove s nodes frames (truth s env g) (cost s nodes g) later elements next in
      subst P (sym (ap formula_part means))
      (move_whole frames later (list_any (λ x. truth s (env ++ x ∷ []) (formula_of nodes a))) (λ n. n * (cost s nodes (formula_of nodes a) + 2) + 1) (size_of s sort) elements next m)

  pub move_each : (frames later : List Frame) (env elements : List ℕ) (id sort a : ℕ) (next : Step) → tree_of nodes id ≡ tree_from (trees_of nodes) (node.Forall sort a)
      → IsMove s nodes frames (list_all (λ x. truth s (env ++ x ∷ []) (formula_of nodes a)) (elements_from (size_of s sort) 0)) (choices_cost s nodes (size_of s sort) 0 a) later elements next
      → IsMove s nodes frames (truth s env (formula_of nodes id)) (cost s nodes (formula_of nodes id)) later elements next
  move_each frames later env elements id sort a next means m =
      let P : Formula → Type 0 = λ g. IsMove s nodes frames (truth s env g) (cost s nodes g) later elements next in
      subst P (sym (ap formula_part means))
      (move_whole frames later (list_all (λ x. truth s (env ++ x ∷ []) (formula_of nodes a))) (λ n. n * (cost s nodes (formula_of nodes a) + 2) + 1) (size_of s sort) elements next m)

All_split : (P : Frame → Type 0) (xs : List Frame) (y : Frame) → All P (xs ++ y ∷ []) → All P xs × P y
All_split P xs y h = (
  (λ k d lt.
      let within : k < length (xs ++ y ∷ []) = omega (arith, length-append xs (y ∷ [])) in
      subst P (get_or_append_left xs (y ∷ []) d k lt) (h k d within)),
  (let within : length xs < length (xs ++ y ∷ []) = omega (arith, length-append xs (y ∷ [])) in
      subst P (get_or-append_seam xs y [] y) (h (length xs) y within)),
)

take_front : (xs : List ℕ) (y : ℕ) → take (length (xs ++ y ∷ []) - 1) (xs ++ y ∷ []) ≡ xs
take_front xs y =
    let e : length (xs ++ y ∷ []) - 1 ≡ length xs = omega (arith, length-append xs (y ∷ [])) in
    ap (λ n. take n (xs ++ y ∷ [])) e ∙ take-append_seam xs (y ∷ [])

module _ (s : Structure) (nodes : List Node) where
  -- what waits without the last frame
  rest_plain : (frames : List Frame) (elements : List ℕ) (f : Frame) → AreWaiting nodes (frames ++ f ∷ []) elements → chosen (f ∷ []) ≡ [] → AreWaiting nodes frames elements × IsFrame nodes f
  rest_plain frames elements f w none =
      let both = All_split (IsFrame nodes) frames f w.frames_sound in
      (record { frames_sound = both.0; in_step = w.in_step ∙ (chosen-append frames (f ∷ []) ∙ (ap (λ xs. chosen frames ++ xs) none ∙ append-nil (chosen frames))) }, both.1)

  pub rest_choice : (frames : List Frame) (elements : List ℕ) (f : Frame) (x : ℕ) → AreWaiting nodes (frames ++ f ∷ []) elements → chosen (f ∷ []) ≡ x ∷ []
      → AreWaiting nodes frames (take (length elements - 1) elements) × IsFrame nodes f
  rest_choice frames elements f x w one =
      let both = All_split (IsFrame nodes) frames f w.frames_sound in
      let whole : elements ≡ chosen frames ++ x ∷ [] = w.in_step ∙ (chosen-append frames (f ∷ []) ∙ ap (λ xs. chosen frames ++ xs) one) in
      (record { frames_sound = both.0; in_step = ap (λ xs. take (length xs - 1) xs) whole ∙ take_front (chosen frames) x }, both.1)

  pub leave_not : (frames : List Frame) (elements : List ℕ) (found : Bool) → AreWaiting nodes (frames ++ Not ∷ []) elements
      → IsMove s nodes frames (outcome s nodes (chosen frames) (Not ∷ []) found) (frame_cost s nodes Not) frames elements (Found (not found))
  leave_not frames elements found w = move_same s nodes frames elements _ _ (Found (not found)) (rest_plain frames elements Not w refl).0 tt refl (omega arith)

  pub leave_and_true : (frames : List Frame) (elements : List ℕ) (a : ℕ) → AreWaiting nodes (frames ++ And a ∷ []) elements
      → IsMove s nodes frames (outcome s nodes (chosen frames) (And a ∷ []) true) (frame_cost s nodes (And a)) frames elements (Seek a)
  leave_and_true frames elements a w =
      let rest = rest_plain frames elements (And a) w refl in
      move_same s nodes frames elements _ _ (Seek a) rest.0 rest.1 (ap (λ es. truth s es (formula_of nodes a)) (rest.0).in_step) (omega arith)

  pub leave_and_false : (frames : List Frame) (elements : List ℕ) (a : ℕ) → AreWaiting nodes (frames ++ And a ∷ []) elements
      → IsMove s nodes frames (outcome s nodes (chosen frames) (And a ∷ []) false) (frame_cost s nodes (And a)) frames elements (Found false)
  leave_and_false frames elements a w = move_same s nodes frames elements _ _ (Found false) (rest_plain frames elements (And a) w refl).0 tt refl (omega arith)

  pub leave_or_true : (frames : List Frame) (elements : List ℕ) (a : ℕ) → AreWaiting nodes (frames ++ Or a ∷ []) elements
      → IsMove s nodes frames (outcome s nodes (chosen frames) (Or a ∷ []) true) (frame_cost s nodes (Or a)) frames elements (Found true)
  leave_or_true frames elements a w = move_same s nodes frames elements _ _ (Found true) (rest_plain frames elements (Or a) w refl).0 tt refl (omega arith)

  pub leave_or_false : (frames : List Frame) (elements : List ℕ) (a : ℕ) → AreWaiting nodes (frames ++ Or a ∷ []) elements
      → IsMove s nodes frames (outcome s nodes (chosen frames) (Or a ∷ []) false) (frame_cost s nodes (Or a)) frames elements (Seek a)
  leave_or_false frames elements a w =
      let rest = rest_plain frames elements (Or a) w refl in
      move_same s nodes frames elements _ _ (Seek a) rest.0 rest.1 (ap (λ es. truth s es (formula_of nodes a)) (rest.0).in_step) (omega arith)

  pub leave_exists_true : (frames : List Frame) (elements : List ℕ) (c : Choice) → AreWaiting nodes (frames ++ Exists c ∷ []) elements
      → IsMove s nodes frames (outcome s nodes (chosen frames) (Exists c ∷ []) true) (frame_cost s nodes (Exists c)) frames (take (length elements - 1) elements) (Found true)
  leave_exists_true frames elements c w =
      move_same s nodes frames (take (length elements - 1) elements) _ _ (Found true) (rest_choice frames elements (Exists c) c.element w refl).0 tt refl (omega arith)

  pub leave_forall_false : (frames : List Frame) (elements : List ℕ) (c : Choice) → AreWaiting nodes (frames ++ Forall c ∷ []) elements
      → IsMove s nodes frames (outcome s nodes (chosen frames) (Forall c ∷ []) false) (frame_cost s nodes (Forall c)) frames (take (length elements - 1) elements) (Found false)
  leave_forall_false frames elements c w =
      move_same s nodes frames (take (length elements - 1) elements) _ _ (Found false) (rest_choice frames elements (Forall c) c.element w refl).0 tt refl (omega arith)

  -- the next element is tried
  pub leave_exists_false : (frames fs : List Frame) (elements es : List ℕ) (c : Choice) (next : Choice) (result : Result Step AllocError) (later : List Frame) (elements' : List ℕ)
      → AreWaiting nodes (frames ++ Exists c ∷ []) elements → fs ≡ frames → es ≡ take (length elements - 1) elements → next ≡ record c { element = c.element + 1 }
      → IsTrialExists fs es next result later elements'
      → IfOk result (IsMove s nodes frames (outcome s nodes (chosen frames) (Exists c ∷ []) false) (frame_cost s nodes (Exists c)) later elements')
  leave_exists_false frames fs elements es c next result later elements' w p q n trial =
      let rest = rest_choice frames elements (Exists c) c.element w refl in
      let A : List Frame → Type 0 = λ fs. IsTrialExists fs es next result later elements' in
      let B : List ℕ → Type 0 = λ es. IsTrialExists frames es next result later elements' in
      let C : Choice → Type 0 = λ next. IsTrialExists frames (take (length elements - 1) elements) next result later elements' in
      let V : List ℕ → Type 0 =
      λ es. IfOk result (IsMove s nodes frames (list_any (λ x. truth s (es ++ x ∷ []) (formula_of nodes c.body)) (elements_from c.size (c.element + 1)))
      (choices_cost s nodes c.size (c.element + 1) c.body) later elements') in
      subst V (rest.0).in_step (subst C n (subst B q (subst A p trial)) s nodes (rest.1).0 rest.0)

  pub leave_forall_true : (frames fs : List Frame) (elements es : List ℕ) (c : Choice) (next : Choice) (result : Result Step AllocError) (later : List Frame) (elements' : List ℕ)
      → AreWaiting nodes (frames ++ Forall c ∷ []) elements → fs ≡ frames → es ≡ take (length elements - 1) elements → next ≡ record c { element = c.element + 1 }
      → IsTrialForall fs es next result later elements'
      → IfOk result (IsMove s nodes frames (outcome s nodes (chosen frames) (Forall c ∷ []) true) (frame_cost s nodes (Forall c)) later elements')
  leave_forall_true frames fs elements es c next result later elements' w p q n trial =
      let rest = rest_choice frames elements (Forall c) c.element w refl in
      let A : List Frame → Type 0 = λ fs. IsTrialForall fs es next result later elements' in
      let B : List ℕ → Type 0 = λ es. IsTrialForall frames es next result later elements' in
      let C : Choice → Type 0 = λ next. IsTrialForall frames (take (length elements - 1) elements) next result later elements' in
      let V : List ℕ → Type 0 =
      λ es. IfOk result (IsMove s nodes frames (list_all (λ x. truth s (es ++ x ∷ []) (formula_of nodes c.body)) (elements_from c.size (c.element + 1)))
      (choices_cost s nodes c.size (c.element + 1) c.body) later elements') in
      subst V (rest.0).in_step (subst C n (subst B q (subst A p trial)) s nodes (rest.1).0 rest.0)

-- what no connective and no quantifier is, is plain
pub plain_else : (n : Node) → ((a : ℕ) → n ≡ node.Not a → ⊥) → ((a b : ℕ) → n ≡ node.And a b → ⊥) → ((a b : ℕ) → n ≡ node.Or a b → ⊥)
    → ((sort a : ℕ) → n ≡ node.Exists sort a → ⊥) → ((sort a : ℕ) → n ≡ node.Forall sort a → ⊥) → IsPlain n
plain_else (node.Bound sort depth) p q r t u = tt
plain_else (node.Num n) p q r t u = tt
plain_else (node.Str x) p q r t u = tt
plain_else (node.App f x) p q r t u = tt
plain_else node.Yes p q r t u = tt
plain_else node.No p q r t u = tt
plain_else (node.Eq x y) p q r t u = tt
plain_else (node.Less x y) p q r t u = tt
plain_else (node.Has f x y) p q r t u = tt
plain_else (node.Flag f x) p q r t u = tt
plain_else (node.Present f x) p q r t u = tt
plain_else (node.Not a) p q r t u = p a refl
plain_else (node.And a b) p q r t u = q a b refl
plain_else (node.Or a b) p q r t u = r a b refl
plain_else (node.Exists sort a) p q r t u = t sort a refl
plain_else (node.Forall sort a) p q r t u = u sort a refl
