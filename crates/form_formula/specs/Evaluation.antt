-- The state of an evaluation: which parts of formulas wait for the truth of another part.
use Rattle.std.specs.Prelude.{◌≡◌, ℕ, ◌+◌, ◌-◌, ◌*◌, ◌<◌, Bool, not, ◌&&◌, ◌||◌, List, [], ◌∷◌, ◌++◌, All, sum_by}
use Rattle.std.specs.List.{list_any, list_all, range_with_len}
use Rattle.std.specs.Prelude.{Result, IfOk}
use Rattle.std.specs.declared.alloc.AllocError.{AllocError}
use Rattle.form_formula.specs.declared.node.Node.{Node}
use Rattle.form_formula.specs.declared.node.Node.TheVariants as node
use Rattle.form_formula.specs.declared.structure.Structure.{Structure}
use Rattle.form_formula.specs.declared.evaluation.Choice.{Choice}
use Rattle.form_formula.specs.declared.evaluation.Frame.{Frame}
use Rattle.form_formula.specs.declared.evaluation.Frame.TheVariants.{Not, And, Or, Exists, Forall}
use Rattle.form_formula.specs.declared.evaluation.Step.{Step}
use Rattle.form_formula.specs.declared.evaluation.Step.TheVariants.{Seek, Found}
use Rattle.form_formula.specs.Trees.{Formula, yes, no, equal, less, has, flag, present, negation, both, either, exists, forall}
use Rattle.form_formula.specs.Nodes.{IsFormula, formula_of}
use Rattle.form_formula.specs.Truth.{truth, size_of}

-- the elements that the frames have chosen, the outermost first
abbrev pub chosen : List Frame → List ℕ
chosen [] = []
chosen (Not ∷ frames) = chosen frames
chosen (And a ∷ frames) = chosen frames
chosen (Or a ∷ frames) = chosen frames
chosen (Exists c ∷ frames) = c.element ∷ chosen frames
chosen (Forall c ∷ frames) = c.element ∷ chosen frames

-- the elements from one on
abbrev pub elements_from : ℕ → ℕ → List ℕ
elements_from size element = range_with_len element (size - element)

module _ (s : Structure) (nodes : List Node) where
  -- the truth of the outermost formula, where the frames wait, the outermost first, and the innermost part is this
  abbrev pub outcome : List ℕ → List Frame → Bool → Bool
  outcome env [] b = b
  outcome env (Not ∷ frames) b = not (outcome env frames b)
  outcome env (And a ∷ frames) b = outcome env frames b && truth s env (formula_of nodes a)
  outcome env (Or a ∷ frames) b = outcome env frames b || truth s env (formula_of nodes a)
  outcome env (Exists c ∷ frames) b =
      outcome (env ++ c.element ∷ []) frames b || list_any (λ x. truth s (env ++ x ∷ []) (formula_of nodes c.body)) (elements_from c.size (c.element + 1))
  outcome env (Forall c ∷ frames) b =
      outcome (env ++ c.element ∷ []) frames b && list_all (λ x. truth s (env ++ x ∷ []) (formula_of nodes c.body)) (elements_from c.size (c.element + 1))

  -- the truth that is sought or was found
  abbrev pub step_value : List ℕ → Step → Bool
  step_value env (Seek id) = truth s env (formula_of nodes id)
  step_value env (Found b) = b

  -- at most so many steps are taken for a formula
  abbrev pub cost : Formula → ℕ
  cost yes = 1
  cost no = 1
  cost (equal t u) = 1
  cost (less t u) = 1
  cost (has r t u) = 1
  cost (flag f t) = 1
  cost (present f t) = 1
  cost (negation a) = cost a + 2
  cost (both a b) = cost a + cost b + 2
  cost (either a b) = cost a + cost b + 2
  cost (exists sort a) = size_of s sort * (cost a + 2) + 1
  cost (forall sort a) = size_of s sort * (cost a + 2) + 1

  -- and for a formula at the elements from one on
  abbrev pub choices_cost : ℕ → ℕ → ℕ → ℕ
  choices_cost size element body = (size - element) * (cost (formula_of nodes body) + 2) + 1

  -- and for a frame

  abbrev pub frame_cost : Frame → ℕ
  frame_cost Not = 1
  frame_cost (And a) = cost (formula_of nodes a) + 1
  frame_cost (Or a) = cost (formula_of nodes a) + 1
  frame_cost (Exists c) = choices_cost c.size (c.element + 1) c.body
  frame_cost (Forall c) = choices_cost c.size (c.element + 1) c.body

  -- and at a step
  abbrev pub step_cost : Step → ℕ
  step_cost (Seek id) = cost (formula_of nodes id)
  step_cost (Found b) = 0

-- the number in a frame is that of a formula, and an element that is chosen is there
abbrev pub IsChoice : List Node → Choice → Type 0
IsChoice nodes c = IsFormula nodes c.body × (c.element < c.size)

abbrev pub IsFrame : List Node → Frame → Type 0
IsFrame nodes Not = Unit {0}
IsFrame nodes (And a) = IsFormula nodes a
IsFrame nodes (Or a) = IsFormula nodes a
IsFrame nodes (Exists c) = IsChoice nodes c
IsFrame nodes (Forall c) = IsChoice nodes c

abbrev pub IsSound : List Node → Step → Type 0
IsSound nodes (Seek id) = IsFormula nodes id
IsSound nodes (Found b) = Unit {0}

-- the frames wait for formulas, and the elements are those that they have chosen
pub record AreWaiting (nodes : List Node) (frames : List Frame) (elements : List ℕ) : Type 0 where
  pub frames_sound : All (IsFrame nodes) frames
  pub in_step : elements ≡ chosen frames

-- what the frames wait for has this value, for which there are so many steps; then these frames wait, at this step
pub record IsMove (s : Structure) (nodes : List Node) (frames : List Frame) (value : Bool) (steps : ℕ) (later : List Frame) (elements : List ℕ) (next : Step) : Type 0 where
  pub waiting : AreWaiting nodes later elements
  pub sound : IsSound nodes next
  pub same : outcome s nodes [] later (step_value s nodes (chosen later) next) ≡ outcome s nodes [] frames value
  pub nearer : sum_by (frame_cost s nodes) later + step_cost s nodes next < sum_by (frame_cost s nodes) frames + steps

-- the node is none whose truth is that of its parts
abbrev pub IsPlain : Node → Type 0
IsPlain (node.Bound sort depth) = Unit {0}
IsPlain (node.Num n) = Unit {0}
IsPlain (node.Str t) = Unit {0}
IsPlain (node.App f t) = Unit {0}
IsPlain node.Yes = Unit {0}
IsPlain node.No = Unit {0}
IsPlain (node.Eq s t) = Unit {0}
IsPlain (node.Less s t) = Unit {0}
IsPlain (node.Has f s t) = Unit {0}
IsPlain (node.Flag f t) = Unit {0}
IsPlain (node.Present f t) = Unit {0}
IsPlain (node.Not a) = ⊥
IsPlain (node.And a b) = ⊥
IsPlain (node.Or a b) = ⊥
IsPlain (node.Exists sort a) = ⊥
IsPlain (node.Forall sort a) = ⊥

-- a quantifier that holds for some, for each element was tried from the choice on, and that was a move in each setting
abbrev pub IsTrialExists : List Frame → List ℕ → Choice → Result Step AllocError → List Frame → List ℕ → Type 0
IsTrialExists frames elements c result later elements' =
    (s : Structure) (nodes : List Node) → IsFormula nodes c.body → AreWaiting nodes frames elements
    → IfOk result (IsMove s nodes frames (list_any (λ x. truth s (elements ++ x ∷ []) (formula_of nodes c.body)) (elements_from c.size c.element))
    (choices_cost s nodes c.size c.element c.body) later elements')

abbrev pub IsTrialForall : List Frame → List ℕ → Choice → Result Step AllocError → List Frame → List ℕ → Type 0
IsTrialForall frames elements c result later elements' =
    (s : Structure) (nodes : List Node) → IsFormula nodes c.body → AreWaiting nodes frames elements
    → IfOk result (IsMove s nodes frames (list_all (λ x. truth s (elements ++ x ∷ []) (formula_of nodes c.body)) (elements_from c.size c.element))
    (choices_cost s nodes c.size c.element c.body) later elements')

-- an element that the frame chose is there
abbrev pub HasElement : Frame → Type 0
HasElement Not = Unit {0}
HasElement (And a) = Unit {0}
HasElement (Or a) = Unit {0}
HasElement (Exists c) = c.element < c.size
HasElement (Forall c) = c.element < c.size

-- the frame that waited last was left with what was found, and that was a move in each setting
abbrev pub IsLeft : List Frame → List ℕ → Frame → Bool → Result Step AllocError → List Frame → List ℕ → Type 0
IsLeft frames elements frame found result later elements' =
    (s : Structure) (nodes : List Node) → AreWaiting nodes (frames ++ frame ∷ []) elements
    → IfOk result (IsMove s nodes frames (outcome s nodes (chosen frames) (frame ∷ []) found) (frame_cost s nodes frame) later elements')
