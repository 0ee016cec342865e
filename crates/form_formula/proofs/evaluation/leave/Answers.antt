use Rattle.std.proofs.Common.{Bool, true, false, not, List, ℕ, [], ◌∷◌, ◌++◌, ◌-◌, take, length, sym, subst}
use Rattle.std.specs.Prelude.{IfOk}
use Rattle.form_formula.specs.declared.evaluation.Frame.{Frame}
use Rattle.form_formula.specs.declared.evaluation.Frame.TheVariants.{And, Or, Exists, Forall}
use Rattle.form_formula.specs.declared.evaluation.Step.TheVariants.{Seek, Found}
use Rattle.form_formula.specs.Evaluation.{chosen, outcome, frame_cost, AreWaiting, IsMove}
use Rattle.form_formula.proofs.MoveLemmas.{move_to, leave_not, leave_and_true, leave_and_false, leave_or_true, leave_or_false, leave_exists_true, leave_exists_false, leave_forall_true, leave_forall_false}
use Rattle.form_formula.proofs.evaluation.leave.Goals as goal

pub returns-in-Not : goal.returns-in-Not
returns-in-Not c s nodes w =
    let frames : List Frame = c.args.waiting.now.frames.items in
    let elements : List ℕ = c.args.waiting.now.elements.items in
    let P : Frame → Bool → Type 0 =
    λ f b. AreWaiting nodes (frames ++ f ∷ []) elements → IsMove s nodes frames (outcome s nodes (chosen frames) (f ∷ []) b) (frame_cost s nodes f) frames elements (Found (not c.args.found)) in
    let F : Frame → Type 0 = λ f. P f c.args.found in
    subst F (sym c.in-Not.is) (leave_not s nodes frames elements c.args.found) w

pub returns-then-found : goal.returns-then-found
returns-then-found c s nodes w =
    let frames : List Frame = c.args.waiting.now.frames.items in
    let elements : List ℕ = c.args.waiting.now.elements.items in
    let P : Frame → Bool → Type 0 =
    λ f b. AreWaiting nodes (frames ++ f ∷ []) elements → IsMove s nodes frames (outcome s nodes (chosen frames) (f ∷ []) b) (frame_cost s nodes f) frames elements (Seek c.in-And.right) in
    let F : Frame → Type 0 = λ f. P f c.args.found in
    let B : Bool → Type 0 = λ b. P (And c.in-And.right) b in
    subst F (sym c.in-And.is) (subst B (sym c.if-found.true) (leave_and_true s nodes frames elements c.in-And.right)) w

pub returns-else-found : goal.returns-else-found
returns-else-found c s nodes w =
    let frames : List Frame = c.args.waiting.now.frames.items in
    let elements : List ℕ = c.args.waiting.now.elements.items in
    let P : Frame → Bool → Type 0 =
    λ f b. AreWaiting nodes (frames ++ f ∷ []) elements → IsMove s nodes frames (outcome s nodes (chosen frames) (f ∷ []) b) (frame_cost s nodes f) frames elements (Found false) in
    let F : Frame → Type 0 = λ f. P f c.args.found in
    let B : Bool → Type 0 = λ b. P (And c.in-And.right) b in
    subst F (sym c.in-And.is) (subst B (sym c.if-found.false) (leave_and_false s nodes frames elements c.in-And.right)) w

pub returns-then-found-2 : goal.returns-then-found-2
returns-then-found-2 c s nodes w =
    let frames : List Frame = c.args.waiting.now.frames.items in
    let elements : List ℕ = c.args.waiting.now.elements.items in
    let P : Frame → Bool → Type 0 =
    λ f b. AreWaiting nodes (frames ++ f ∷ []) elements → IsMove s nodes frames (outcome s nodes (chosen frames) (f ∷ []) b) (frame_cost s nodes f) frames elements (Found true) in
    let F : Frame → Type 0 = λ f. P f c.args.found in
    let B : Bool → Type 0 = λ b. P (Or c.in-Or.right) b in
    subst F (sym c.in-Or.is) (subst B (sym c.if-found-2.true) (leave_or_true s nodes frames elements c.in-Or.right)) w

pub returns-else-found-2 : goal.returns-else-found-2
returns-else-found-2 c s nodes w =
    let frames : List Frame = c.args.waiting.now.frames.items in
    let elements : List ℕ = c.args.waiting.now.elements.items in
    let P : Frame → Bool → Type 0 =
    λ f b. AreWaiting nodes (frames ++ f ∷ []) elements → IsMove s nodes frames (outcome s nodes (chosen frames) (f ∷ []) b) (frame_cost s nodes f) frames elements (Seek c.in-Or.right) in
    let F : Frame → Type 0 = λ f. P f c.args.found in
    let B : Bool → Type 0 = λ b. P (Or c.in-Or.right) b in
    subst F (sym c.in-Or.is) (subst B (sym c.if-found-2.false) (leave_or_false s nodes frames elements c.in-Or.right)) w

pub returns-then-found-3 : goal.returns-then-found-3
returns-then-found-3 c s nodes w =
    let frames : List Frame = c.args.waiting.now.frames.items in
    let elements : List ℕ = c.args.waiting.now.elements.items in
    let P : Frame → Bool → Type 0 =
    λ f b. AreWaiting nodes (frames ++ f ∷ []) elements → IsMove s nodes frames (outcome s nodes (chosen frames) (f ∷ []) b) (frame_cost s nodes f) frames (take (length elements - 1) elements) (Found true) in
    let F : Frame → Type 0 = λ f. P f c.args.found in
    let B : Bool → Type 0 = λ b. P (Exists c.in-Exists.choice) b in
    move_to s nodes frames _ _ _ _ _ _ _ c.forget_element.ensures.frames c.forget_element.ensures.elements
    (subst F (sym c.in-Exists.is) (subst B (sym c.if-found-3.true) (leave_exists_true s nodes frames elements c.in-Exists.choice)) w)

pub returns-else-found-4 : goal.returns-else-found-4
returns-else-found-4 c s nodes w =
    let frames : List Frame = c.args.waiting.now.frames.items in
    let elements : List ℕ = c.args.waiting.now.elements.items in
    let P : Frame → Bool → Type 0 =
    λ f b. AreWaiting nodes (frames ++ f ∷ []) elements → IsMove s nodes frames (outcome s nodes (chosen frames) (f ∷ []) b) (frame_cost s nodes f) frames (take (length elements - 1) elements) (Found false) in
    let F : Frame → Type 0 = λ f. P f c.args.found in
    let B : Bool → Type 0 = λ b. P (Forall c.in-Forall.choice) b in
    move_to s nodes frames _ _ _ _ _ _ _ c.forget_element-in-Forall.ensures.frames c.forget_element-in-Forall.ensures.elements
    (subst F (sym c.in-Forall.is) (subst B (sym c.if-found-4.false) (leave_forall_false s nodes frames elements c.in-Forall.choice)) w)

pub returns-else-found-3 : goal.returns-else-found-3
returns-else-found-3 c s nodes w =
    let frames : List Frame = c.args.waiting.now.frames.items in
    let elements : List ℕ = c.args.waiting.now.elements.items in
    let P : Frame → Bool → Type 0 =
    λ f b. AreWaiting nodes (frames ++ f ∷ []) elements → IfOk c.try_exists.result (IsMove s nodes frames (outcome s nodes (chosen frames) (f ∷ []) b) (frame_cost s nodes f) c.try_exists.new.waiting.frames.items c.try_exists.new.waiting.elements.items) in
    let F : Frame → Type 0 = λ f. P f c.args.found in
    let B : Bool → Type 0 = λ b. P (Exists c.in-Exists.choice) b in
    subst F (sym c.in-Exists.is) (subst B (sym c.if-found-3.false)
    (λ w. leave_exists_false s nodes frames _ elements _ c.in-Exists.choice _ c.try_exists.result _ _ w c.forget_element.ensures.frames c.forget_element.ensures.elements c.next_choice.ensures c.try_exists.ensures)) w

pub returns-then-found-4 : goal.returns-then-found-4
returns-then-found-4 c s nodes w =
    let frames : List Frame = c.args.waiting.now.frames.items in
    let elements : List ℕ = c.args.waiting.now.elements.items in
    let P : Frame → Bool → Type 0 =
    λ f b. AreWaiting nodes (frames ++ f ∷ []) elements → IfOk c.try_forall.result (IsMove s nodes frames (outcome s nodes (chosen frames) (f ∷ []) b) (frame_cost s nodes f) c.try_forall.new.waiting.frames.items c.try_forall.new.waiting.elements.items) in
    let F : Frame → Type 0 = λ f. P f c.args.found in
    let B : Bool → Type 0 = λ b. P (Forall c.in-Forall.choice) b in
    subst F (sym c.in-Forall.is) (subst B (sym c.if-found-4.true)
    (λ w. leave_forall_true s nodes frames _ elements _ c.in-Forall.choice _ c.try_forall.result _ _ w c.forget_element-in-Forall.ensures.frames c.forget_element-in-Forall.ensures.elements c.next_choice-then-found-4.ensures c.try_forall.ensures)) w
