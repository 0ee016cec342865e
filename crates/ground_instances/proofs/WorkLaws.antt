-- The work from its beginning to the gate of the root.
use Rattle.std.proofs.Common.{◌≡◌, ◌⊎◌, ℕ, ◌<◌, Bool, true, sym, ◌∙◌, List, [], Some, length, take, drop, ap, subst, Contains, inl, inr}
use Rattle.std.proofs.lemmas.List.{take-append-drop}
use Rattle.std.proofs.lemmas.List.Elements.{Contains-append_left}
use Rattle.std.specs.Prelude.{◌↔◌}
use Rattle.form_formula.specs.declared.node.Node.{Node}
use Rattle.form_formula.specs.declared.structure.Signature.{Signature}
use Rattle.form_formula.specs.Nodes.{ArePlaced, IsFormula, formula, formula_of}
use Rattle.form_formula.specs.Trees.{Formula}
use Rattle.ground_gates.specs.declared.gate.Gate.{Gate}
use Rattle.ground_gates.specs.Clauses.{HaveInputsBelow}
use Rattle.ground_gates.specs.Gates.{value_of}
use Rattle.form_terms.specs.GroundTerms.{GroundTerm, no_terms}
use Rattle.form_terms.specs.Reading.{Reads}
use Rattle.form_terms.proofs.Lists.{Contains-none}
use Rattle.ground_terms.specs.declared.node.TermNode.{TermNode}
use Rattle.ground_terms.specs.Standing.{AreOnes, AreTermsAt, terms_at}
use Rattle.ground_terms.proofs.Standing.{ones_kept, terms_kept}
use Rattle.ground_instances.specs.declared.shapes.Shape.{Shape}
use Rattle.ground_instances.specs.declared.instance.Instance.{Instance}
use Rattle.ground_instances.specs.declared.instantiation.Instances.{Instances}
use Rattle.ground_instances.specs.declared.board.Board.{Board}
use Rattle.ground_instances.specs.declared.work.Work.{Work}
use Rattle.ground_instances.specs.Boards.{Grows, Means}
use Rattle.ground_instances.specs.GroundAtoms.{GroundAtom, holds_at}
use Rattle.ground_instances.specs.declared.input.Input.{Input as AnInput}
use Rattle.ground_instances.specs.Inputs.{AreInputs, AreInputsOf}
use Rattle.ground_instances.specs.Instances.{IsGate, IsInstanceOf, IsInstance, IsMemo, IsReady, AddsEntry, instance_reading}
use Rattle.ground_instances.specs.Made.{AreInstancesOf, GoesOn, IsWorkFor}
use Rattle.ground_instances.specs.Readings.{reading}
use Rattle.ground_instances.specs.Shapes.{AreShapes, IsShapeOf}
use Rattle.ground_instances.proofs.BoardLaws.{grows_none, means_same}
use Rattle.ground_instances.proofs.InstanceLaws.{read_instance, reading_kept, instance_kept}
use Rattle.ground_instances.proofs.ReadingLaws.{reads_exactly}

module _ (g : Signature) (nodes : List Node) (shapes : List Shape) (listed : List ℕ) where
  -- nothing was made yet
  pub work_begun : (ts : List GroundTerm) (id : ℕ) (shape : Shape) (root : Instance) (before : List TermNode) (work : Work) → IsFormula nodes id → id < length shapes → ArePlaced nodes → AreShapes nodes shapes
      → IsShapeOf (formula (formula_of nodes id)) shape → AreTermsAt before listed ts → IsInstanceOf shape id 0 [] [] before work.board.terms root → work.board.inputs ≡ [] → work.board.gates ≡ [] → work.memo.made.entries ≡ []
      → work.missing.items ≡ [] → IsWorkFor g nodes shapes listed ts (formula_of nodes id) root work
  work_begun ts id shape root before work part within placed shaped shape_is stand h no_inputs no_gates no_entries none =
      let F : ℕ → Type 0 = λ k. IsFormula nodes k in
      let L : ℕ → Type 0 = λ k. k < length shapes in
      let M : List (Instance × ℕ) → Type 0 = λ es. IsMemo g (terms_at work.board.terms listed) nodes shapes work.board es in
      let I : List Instance → Type 0 = λ is. (i : Instance) → Contains is i → IsInstance nodes shapes work.board.terms i in
      let same : terms_at work.board.terms listed ≡ ts = terms_kept before work.board.terms listed h.kept stand.ones ∙ stand.are in
      let H : List Gate → Type 0 = λ gs. HaveInputsBelow (length work.board.inputs) gs in
      let S : List AnInput → Type 0 = λ is. AreInputs work.board.terms is in
      let E : HaveInputsBelow (length work.board.inputs) [] = λ k gate e. cc in
      record {
        ready = record {
          ones = ones_kept before work.board.terms listed h.kept stand.ones;
          memo = subst M (sym no_entries) (λ i gate c. Contains-none (i, gate) c);
          missing = subst I (sym none) (λ i c. Contains-none i c);
          shaped = shaped;
          placed = placed;
        };
        fits = record { part = subst F (sym h.part) part; within = subst L (sym h.part) within; variables = h.variables_list; arguments = h.arguments_list };
        terms = same;
        reads = λ i x.
            ap (λ us. instance_reading g us nodes work.board.terms root i x) (sym same)
            ∙ (read_instance g nodes shapes listed shape id 0 [] [] before work.board.terms root shape_is h stand.ones i x ∙ ap (λ us. reading g us i x 0 [] no_terms (formula_of nodes id)) stand.are);
        below = subst H (sym no_gates) E;
        stand = subst S (sym no_inputs) tt;
      }

  -- one step
  pub work_on : (ts : List GroundTerm) (f : Formula) (root : Instance) (a b : Work) → GoesOn g nodes shapes listed a b → IsWorkFor g nodes shapes listed ts f root a → IsWorkFor g nodes shapes listed ts f root b
  work_on ts f root a b on h = record {
    ready = on.ready;
    fits = instance_kept g nodes shapes listed a.board.terms b.board.terms root on.grows.terms h.fits;
    terms = terms_kept a.board.terms b.board.terms listed on.grows.terms h.ready.ones ∙ h.terms;
    reads = λ i x.
        ap (λ us. instance_reading g us nodes b.board.terms root i x) (sym (terms_kept a.board.terms b.board.terms listed on.grows.terms h.ready.ones ∙ h.terms))
        ∙ (sym (reading_kept g nodes shapes listed a.board.terms b.board.terms root on.grows.terms h.ready.ones h.fits i x) ∙ (ap (λ us. instance_reading g us nodes a.board.terms root i x) h.terms ∙ h.reads i x));
    below = on.grows.below h.below;
    stand = on.grows.stand h.stand;
  }

  -- the gate of the root
  pub work_done : (ts : List GroundTerm) (f : Formula) (root : Instance) (w : Work) (gate : ℕ) (made : Instances) → IsWorkFor g nodes shapes listed ts f root w → Contains w.memo.made.entries (root, gate)
      → made.terms ≡ w.board.terms → made.inputs ≡ w.board.inputs → made.gates ≡ w.board.gates → made.root ≡ gate
      → made.listed.items ≡ listed → AreInstancesOf g nodes f ts made
  work_done ts f root w gate made h c t i e r l =
      let means : Means nodes w.board (instance_reading g (terms_at w.board.terms listed) nodes w.board.terms root) gate = (h.ready.memo root gate c).1 in
      let P : Board → Type 0 = λ b. (gate < length b.gates) × (HaveInputsBelow (length b.inputs) b.gates × AreInputs b.terms b.inputs)
      × ((is_there : GroundTerm → Bool) (holds : GroundAtom → Bool) (v : ℕ → Bool) → AreInputsOf nodes b.terms is_there holds b.inputs v → (value_of v b.gates gate ≡ true) ↔ Reads g is_there (holds_at holds) ts 0 [] no_terms f) in
      let all : P w.board = (
        means.within,
        (h.below, h.stand),
        λ is_there holds v are.
            let value : value_of v w.board.gates gate ≡ reading g ts is_there holds 0 [] no_terms f =
            means.is w.board is_there holds v (grows_none w.board) are ∙ (ap (λ us. instance_reading g us nodes w.board.terms root is_there holds) h.terms ∙ h.reads is_there holds) in
            let exactly = reads_exactly g ts is_there holds f 0 [] no_terms in
            (λ on. exactly.0 (sym value ∙ on), λ reads. value ∙ exactly.1 reads),
      ) in
      let same : w.board ≡ record { terms = made.terms; inputs = made.inputs; gates = made.gates } =
      ap (λ x. record { terms = x; inputs = w.board.inputs; gates = w.board.gates }) (sym t)
      ∙ (ap (λ x. record { terms = made.terms; inputs = x; gates = w.board.gates }) (sym i) ∙ ap (λ x. record { terms = made.terms; inputs = made.inputs; gates = x }) (sym e)) in
      let whole = subst P same all in
      let R : ℕ → Type 0 = λ k. k < length made.gates in
      let Q : ℕ → Type 0 = λ k. (is_there : GroundTerm → Bool) (holds : GroundAtom → Bool) (v : ℕ → Bool) → AreInputsOf nodes made.terms is_there holds made.inputs v → (value_of v made.gates k ≡ true) ↔ Reads g is_there (holds_at holds) ts 0 [] no_terms f in
      let stand : AreTermsAt w.board.terms listed ts = record { ones = h.ready.ones; are = h.terms } in
      let L : List ℕ → Type 0 = λ ids. AreTermsAt w.board.terms ids ts in
      let T : List TermNode → Type 0 = λ terms. AreTermsAt terms made.listed.items ts in
      record { there = subst R (sym r) whole.0; below = whole.1.0; stand = whole.1.1; listed = subst T (sym t) (subst L (sym l) stand); reads = subst Q (sym r) whole.2 }

  -- what is missing are fewer
  pub ready_fewer : (a b : Work) (n : ℕ) → b.board ≡ a.board → b.memo.made.entries ≡ a.memo.made.entries → b.missing.items ≡ take n a.missing.items → IsReady g nodes shapes listed a → IsReady g nodes shapes listed b
  ready_fewer a b n same memo e h =
      let O : Board → Type 0 = λ board. AreOnes board.terms listed in
      let M : List (Instance × ℕ) → Type 0 = λ es. IsMemo g (terms_at b.board.terms listed) nodes shapes b.board es in
      let N : Board → Type 0 = λ board. IsMemo g (terms_at board.terms listed) nodes shapes board a.memo.made.entries in
      let A : Board → Type 0 = λ board. (i : Instance) → Contains (take n a.missing.items) i → IsInstance nodes shapes board.terms i in
      let I : List Instance → Type 0 = λ is. (i : Instance) → Contains is i → IsInstance nodes shapes b.board.terms i in
      let fewer : (i : Instance) → Contains (take n a.missing.items) i → IsInstance nodes shapes a.board.terms i = λ i c.
      let C : List Instance → Type 0 = λ is. Contains is i in
      h.missing i (subst C (take-append-drop n a.missing.items) (Contains-append_left (take n a.missing.items) (drop n a.missing.items) i c)) in
      record {
        ones = subst O (sym same) h.ones;
        memo = subst M (sym memo) (subst N (sym same) h.memo);
        missing = subst I (sym e) (subst A (sym same) fewer);
        shaped = h.shaped;
        placed = h.placed;
      }

  -- a gate is kept for its instance
  pub kept_gate : (w m n : Work) (j : Instance) (gate : ℕ) → n.board ≡ m.board → AddsEntry m.memo.made.entries j gate n.memo.made.entries → n.missing.items ≡ m.missing.items → IsReady g nodes shapes listed w → IsInstance nodes shapes w.board.terms j
      → IsGate g nodes shapes listed w m (instance_reading g (terms_at w.board.terms listed) nodes w.board.terms j) (Some gate) → GoesOn g nodes shapes listed w n
  kept_gate w m n j gate same adds e ready fits made =
      let O : Board → Type 0 = λ board. AreOnes board.terms listed in
      let A : Board → Type 0 = λ board. (i : Instance) → Contains m.missing.items i → IsInstance nodes shapes board.terms i in
      let I : List Instance → Type 0 = λ is. (i : Instance) → Contains is i → IsInstance nodes shapes n.board.terms i in
      let R : Board → Type 0 = λ board. Grows w.board board in
      let N : Board → Type 0 = λ board. IsMemo g (terms_at board.terms listed) nodes shapes board n.memo.made.entries in
      let own : Means nodes m.board (instance_reading g (terms_at m.board.terms listed) nodes m.board.terms j) gate =
      means_same nodes m.board (instance_reading g (terms_at w.board.terms listed) nodes w.board.terms j) (instance_reading g (terms_at m.board.terms listed) nodes m.board.terms j) gate
      (reading_kept g nodes shapes listed w.board.terms m.board.terms j made.grows.terms ready.ones fits) made.means in
      let here : IsInstance nodes shapes m.board.terms j = instance_kept g nodes shapes listed w.board.terms m.board.terms j made.grows.terms fits in
      let P : Instance → ℕ → Type 0 = λ i k. IsInstance nodes shapes m.board.terms i × Means nodes m.board (instance_reading g (terms_at m.board.terms listed) nodes m.board.terms i) k in
      let whole : P j gate = (here, own) in
      let all : IsMemo g (terms_at m.board.terms listed) nodes shapes m.board n.memo.made.entries = λ i other c.
      elim (adds i other c) [
        | inl old ↦ made.ready.memo i other old
        | inr (i_is, other_is) ↦
            let Q : Instance → Type 0 = λ i. P i other in
            let K : ℕ → Type 0 = λ k. P j k in
            subst Q (sym i_is) (subst K (sym other_is) whole)
      ] in
      record {
        ready = record {
          ones = subst O (sym same) made.ready.ones;
          memo = subst N (sym same) all;
          missing = subst I (sym e) (subst A (sym same) made.ready.missing);
          shaped = made.ready.shaped;
          placed = made.ready.placed;
        };
        grows = subst R (sym same) made.grows;
      }

  -- the instance that is made next
  pub last_fits : (w : Work) (root j : Instance) (missing : List Instance) → IsInstance nodes shapes w.board.terms root → IsReady g nodes shapes listed w → missing ≡ w.missing.items → (j ≡ root) ⊎ Contains missing j
      → IsInstance nodes shapes w.board.terms j
  last_fits w root j missing fits ready e (inl same) = let I : Instance → Type 0 = λ i. IsInstance nodes shapes w.board.terms i in subst I (sym same) fits
  last_fits w root j missing fits ready e (inr c) = let C : List Instance → Type 0 = λ is. Contains is j in ready.missing j (subst C e c)
