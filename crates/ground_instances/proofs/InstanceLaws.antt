-- Instances are read as their parts are, and what was made stays right.
use Rattle.std.proofs.Common.{◌≡◌, ℕ, ◌<◌, Bool, true, false, refl, sym, ◌∙◌, List, [], ◌∷◌, ◌++◌, Option, Some, None, length, ap, subst, arith, Contains, inl, inr}
use Rattle.std.proofs.lemmas.List.{length-map}
use Rattle.std.proofs.lemmas.List.Elements.{Contains-append_cases}
use Rattle.form_formula.specs.declared.node.Node.{Node}
use Rattle.form_formula.specs.declared.structure.Signature.{Signature}
use Rattle.form_formula.specs.Nodes.{formula, formula_of, IsFormula}
use Rattle.form_formula.specs.Trees.{Formula}
use Rattle.form_terms.specs.GroundTerms.{GroundTerm, GroundTerms, no_terms, term_and, and_last, list_of}
use Rattle.form_terms.proofs.Lists.{Contains-cons_cases, Contains-none}
use Rattle.ground_terms.specs.declared.node.TermNode.{TermNode}
use Rattle.ground_terms.specs.Nodes.{Extends, term_of, list_of as list_at}
use Rattle.ground_terms.specs.Standing.{AreOnes, terms_at}
use Rattle.ground_terms.proofs.Standing.{ones_kept, terms_kept, list_kept, list_term_kept}
use Rattle.ground_instances.specs.declared.shapes.Shape.{Shape}
use Rattle.ground_instances.specs.declared.instance.Instance.{Instance}
use Rattle.ground_instances.specs.declared.board.Board.{Board}
use Rattle.ground_instances.specs.declared.work.Work.{Work}
use Rattle.ground_instances.specs.Boards.{Grows}
use Rattle.ground_instances.specs.GroundAtoms.{GroundAtom}
use Rattle.ground_instances.specs.Instances.{IsInstanceOf, IsInstance, AreInstances, instance_reading, IsMemo, MayMean, from_list, part_test, IsReady, IsGate, IsJoined, IsThere}
use Rattle.ground_instances.specs.Readings.{reading}
use Rattle.ground_instances.specs.Shapes.{IsShapeOf}
use Rattle.ground_instances.proofs.BoardLaws.{grows_both, means_later, means_same}
use Rattle.ground_instances.proofs.ReadingLaws.{same_reading, free_reading}

abbrev Test : Type 0
Test = (GroundTerm → Bool) → (GroundAtom → Bool) → Bool

pub from_list-list_of : (a : GroundTerms) → from_list (list_of a) ≡ a
from_list-list_of no_terms = refl
from_list-list_of (term_and t ts) = ap (λ us. term_and t us) (from_list-list_of ts)

pub from_list-last : (ts : List GroundTerm) (t : GroundTerm) → from_list (ts ++ t ∷ []) ≡ and_last (from_list ts) t
from_list-last [] t = refl
from_list-last (u ∷ ts) t = ap (λ us. term_and u us) (from_list-last ts t)

-- a part is read as before among more terms
pub test_kept : (g : Signature) (xs ys : List TermNode) (listed : List ℕ) (number : ℕ) (variables arguments : List ℕ) (f : Formula) → Extends xs ys → AreOnes xs listed → AreOnes xs variables → AreOnes xs arguments
    → (i : GroundTerm → Bool) (h : GroundAtom → Bool) → part_test g ys listed number variables arguments f i h ≡ part_test g xs listed number variables arguments f i h
test_kept g xs ys listed number variables arguments f e p q r i h =
    ap (λ ts. reading g ts i h number (terms_at ys variables) (from_list (terms_at ys arguments)) f) (terms_kept xs ys listed e p)
    ∙ (ap (λ ts. reading g (terms_at xs listed) i h number ts (from_list (terms_at ys arguments)) f) (terms_kept xs ys variables e q)
    ∙ ap (λ ts. reading g (terms_at xs listed) i h number (terms_at xs variables) (from_list ts) f) (terms_kept xs ys arguments e r))

module _ (g : Signature) (nodes : List Node) (shapes : List Shape) (listed : List ℕ) where
  -- an instance is read as its part
  pub read_instance : (shape : Shape) (node number : ℕ) (variables arguments : List ℕ) (old new : List TermNode) (i : Instance) → IsShapeOf (formula (formula_of nodes node)) shape
      → IsInstanceOf shape node number variables arguments old new i → AreOnes old listed → (is_there : GroundTerm → Bool) (holds : GroundAtom → Bool)
      → instance_reading g (terms_at new listed) nodes new i is_there holds ≡ part_test g old listed number variables arguments (formula_of nodes node) is_there holds
  read_instance shape node number variables arguments old new i (exists_is, counts, covers) h ones is_there holds =
      let env : List GroundTerm = list_of (list_at new i.variables) in
      let args : GroundTerms = list_at new i.arguments in
      let ts : List GroundTerm = terms_at old listed in
      let env' : List GroundTerm = terms_at old variables in
      let f : Formula = formula_of nodes node in
      ap (λ us. reading g us is_there holds i.number env args (formula_of nodes i.node)) (terms_kept old new listed h.kept ones)
      ∙ (ap (λ n. reading g ts is_there holds i.number env args (formula_of nodes n)) h.part
      ∙ (same_reading g ts is_there holds f i.number env env' args (omega (arith, h.size, length-map variables (term_of old))) (λ k d o. h.same k d (covers k o))
      ∙ below shape.exists refl))
    where
      below : (b : Bool) → shape.exists ≡ b
          → reading g (terms_at old listed) is_there holds i.number (terms_at old variables) (list_at new i.arguments) (formula_of nodes node)
          ≡ reading g (terms_at old listed) is_there holds number (terms_at old variables) (from_list (terms_at old arguments)) (formula_of nodes node)
      below true e =
          ap (λ n. reading g (terms_at old listed) is_there holds n (terms_at old variables) (list_at new i.arguments) (formula_of nodes node)) (h.counted e)
          ∙ ap (λ a. reading g (terms_at old listed) is_there holds number (terms_at old variables) a (formula_of nodes node))
          (sym (from_list-list_of (list_at new i.arguments)) ∙ ap from_list (h.below e))
      below false e =
          free_reading g (terms_at old listed) is_there holds (formula_of nodes node) i.number number (terms_at old variables) (list_at new i.arguments) (from_list (terms_at old arguments)) (sym exists_is ∙ e)

  pub instance_kept : (xs ys : List TermNode) (i : Instance) → Extends xs ys → IsInstance nodes shapes xs i → IsInstance nodes shapes ys i
  instance_kept xs ys i e h = record { part = h.part; within = h.within; variables = list_kept xs ys i.variables e h.variables; arguments = list_kept xs ys i.arguments e h.arguments }

  pub instances_kept : (xs ys : List TermNode) (is : List Instance) → Extends xs ys → AreInstances nodes shapes xs is → AreInstances nodes shapes ys is
  instances_kept xs ys is e h = λ i c. instance_kept xs ys i e (h i c)

  pub reading_kept : (xs ys : List TermNode) (i : Instance) → Extends xs ys → AreOnes xs listed → IsInstance nodes shapes xs i → (is_there : GroundTerm → Bool) (holds : GroundAtom → Bool)
      → instance_reading g (terms_at xs listed) nodes xs i is_there holds ≡ instance_reading g (terms_at ys listed) nodes ys i is_there holds
  reading_kept xs ys i e ones h is_there holds =
      ap (λ ts. reading g ts is_there holds i.number (list_of (list_at xs i.variables)) (list_at xs i.arguments) (formula_of nodes i.node)) (sym (terms_kept xs ys listed e ones))
      ∙ (ap (λ l. reading g (terms_at ys listed) is_there holds i.number (list_of l) (list_at xs i.arguments) (formula_of nodes i.node)) (sym (list_term_kept xs ys i.variables e h.variables))
      ∙ ap (λ l. reading g (terms_at ys listed) is_there holds i.number (list_of (list_at ys i.variables)) l (formula_of nodes i.node)) (sym (list_term_kept xs ys i.arguments e h.arguments)))

  memo_kept : (a b : Board) (entries : List (Instance × ℕ)) → Grows a b → AreOnes a.terms listed → IsMemo g (terms_at a.terms listed) nodes shapes a entries → IsMemo g (terms_at b.terms listed) nodes shapes b entries
  memo_kept a b entries grows ones h = λ i gate c.
      let found = h i gate c in (
        instance_kept a.terms b.terms i grows.terms found.0,
        means_same nodes b (instance_reading g (terms_at a.terms listed) nodes a.terms i) (instance_reading g (terms_at b.terms listed) nodes b.terms i) gate
            (reading_kept a.terms b.terms i grows.terms ones found.0) (means_later nodes a b (instance_reading g (terms_at a.terms listed) nodes a.terms i) gate grows found.1),
      )

  -- the board grew
  pub ready_later : (a b : Work) → Grows a.board b.board → b.memo.made.entries ≡ a.memo.made.entries → b.missing.items ≡ a.missing.items → IsReady g nodes shapes listed a → IsReady g nodes shapes listed b
  ready_later a b grows m e h =
      let P : List (Instance × ℕ) → Type 0 = λ es. IsMemo g (terms_at b.board.terms listed) nodes shapes b.board es in
      let Q : List Instance → Type 0 = λ is. AreInstances nodes shapes b.board.terms is in
      record {
        ones = ones_kept a.board.terms b.board.terms listed grows.terms h.ones;
        memo = subst P (sym m) (memo_kept a.board b.board a.memo.made.entries grows h.ones h.memo);
        missing = subst Q (sym e) (instances_kept a.board.terms b.board.terms a.missing.items grows.terms h.missing);
        shaped = h.shaped;
        placed = h.placed;
      }

  -- one more instance is missing
  pub ready_missing : (a b : Work) (i : Instance) → b.board ≡ a.board → b.memo.made.entries ≡ a.memo.made.entries → b.missing.items ≡ a.missing.items ++ i ∷ [] → IsInstance nodes shapes a.board.terms i
      → IsReady g nodes shapes listed a → IsReady g nodes shapes listed b
  ready_missing a b i same m e here h =
      let P : List (Instance × ℕ) → Board → Type 0 = λ es board. IsMemo g (terms_at board.terms listed) nodes shapes board es in
      let A : Board → Type 0 = λ board. AreInstances nodes shapes board.terms (a.missing.items ++ i ∷ []) in
      let Q : List Instance → Type 0 = λ is. AreInstances nodes shapes b.board.terms is in
      let O : Board → Type 0 = λ board. AreOnes board.terms listed in
      let M : List (Instance × ℕ) → Type 0 = λ es. P es b.board in
      let N : Board → Type 0 = λ board. P a.memo.made.entries board in
      record {
        ones = subst O (sym same) h.ones;
        memo = subst M (sym m) (subst N (sym same) h.memo);
        missing = subst Q (sym e) (subst A (sym same) (λ j c. elim (Contains-append_cases a.missing.items (i ∷ []) j c) [
          | inl old ↦ h.missing j old
          | inr new ↦ elim (Contains-cons_cases i [] j new) [
            | inl q ↦ let I : Instance → Type 0 = λ j. IsInstance nodes shapes a.board.terms j in subst I q here
            | inr none ↦ Contains-none j none
          ]
        ]));
        shaped = h.shaped;
        placed = h.placed;
      }

  -- gates that may have been found
  pub may_later : (a b : Board) (test : Test) (o : Option ℕ) → Grows a b → MayMean nodes a test o → MayMean nodes b test o
  may_later a b test None grows h = tt
  may_later a b test (Some gate) grows h = means_later nodes a b test gate grows h

  pub may_same : (a : Board) (test test' : Test) (o : Option ℕ) → ((i : GroundTerm → Bool) (h : GroundAtom → Bool) → test i h ≡ test' i h) → MayMean nodes a test o → MayMean nodes a test' o
  may_same a test test' None e h = tt
  may_same a test test' (Some gate) e h = means_same nodes a test test' gate e h

  pub may_there : (a : Board) (test : Test) (o : Option ℕ) → MayMean nodes a test o → IsThere a o
  may_there a test None h = tt
  may_there a test (Some gate) h = h.within

  -- a gate for two
  pub joined : (op : Bool → Bool → Bool) (p q test : Test) (w m n : Work) (left right found : Option ℕ) → Grows w.board m.board → IsReady g nodes shapes listed m → MayMean nodes m.board p left → MayMean nodes m.board q right
      → IsJoined m.board n.board op left right found → n.memo.made.entries ≡ m.memo.made.entries → n.missing.items ≡ m.missing.items → ((i : GroundTerm → Bool) (h : GroundAtom → Bool) → op (p i h) (q i h) ≡ test i h)
      → IsGate g nodes shapes listed w n test found
  joined op p q test w m n left right found grows ready l r j memo missing e = record {
    ready = ready_later m n j.grows memo missing ready;
    grows = grows_both w.board m.board n.board grows j.grows;
    means = may_same n.board (λ i h. op (p i h) (q i h)) test found e (j.means nodes p q l r);
  }

  -- a gate that was found from a later board on
  pub from_later : (w m n : Work) (test test' : Test) (found : Option ℕ) → Grows w.board m.board → ((i : GroundTerm → Bool) (h : GroundAtom → Bool) → test i h ≡ test' i h) → IsGate g nodes shapes listed m n test found
      → IsGate g nodes shapes listed w n test' found
  from_later w m n test test' found grows e h = record {
    ready = h.ready;
    grows = grows_both w.board m.board n.board grows h.grows;
    means = may_same n.board test test' found e h.means;
  }

  -- a gate that was found for the instance
  pub found_gate : (w n : Work) (shape : Shape) (node number : ℕ) (variables arguments : List ℕ) (i : Instance) (gate : ℕ) → Grows w.board n.board → n.memo.made.entries ≡ w.memo.made.entries → n.missing.items ≡ w.missing.items
      → IsReady g nodes shapes listed w → IsShapeOf (formula (formula_of nodes node)) shape → IsInstanceOf shape node number variables arguments w.board.terms n.board.terms i → Contains w.memo.made.entries (i, gate)
      → IsGate g nodes shapes listed w n (part_test g w.board.terms listed number variables arguments (formula_of nodes node)) (Some gate)
  found_gate w n shape node number variables arguments i gate grows m e ready s h c =
      let later : IsReady g nodes shapes listed n = ready_later w n grows m e ready in
      let P : List (Instance × ℕ) → Type 0 = λ es. Contains es (i, gate) in
      record {
        ready = later;
        grows = grows;
        means = means_same nodes n.board (instance_reading g (terms_at n.board.terms listed) nodes n.board.terms i) (part_test g w.board.terms listed number variables arguments (formula_of nodes node)) gate
            (read_instance shape node number variables arguments w.board.terms n.board.terms i s h ready.ones) (later.memo i gate (subst P (sym m) c)).1;
      }

  -- the instance that is missing
  pub missing_gate : (w m n : Work) (shape : Shape) (node number : ℕ) (variables arguments : List ℕ) (i : Instance) (test : Test) → Grows w.board m.board → m.memo.made.entries ≡ w.memo.made.entries → m.missing.items ≡ w.missing.items
      → n.board ≡ m.board → n.memo.made.entries ≡ m.memo.made.entries → n.missing.items ≡ m.missing.items ++ i ∷ [] → IsReady g nodes shapes listed w → IsFormula nodes node → node < length shapes
      → IsInstanceOf shape node number variables arguments w.board.terms m.board.terms i → IsGate g nodes shapes listed w n test None
  missing_gate w m n shape node number variables arguments i test grows memo missing same memo' missing' ready part within h =
      let F : ℕ → Type 0 = λ k. IsFormula nodes k in
      let L : ℕ → Type 0 = λ k. k < length shapes in
      let B : Board → Type 0 = λ b. Grows w.board b in
      let here : IsInstance nodes shapes m.board.terms i = record { part = subst F (sym h.part) part; within = subst L (sym h.part) within; variables = h.variables_list; arguments = h.arguments_list } in
      record { ready = ready_missing m n i same memo' missing' here (ready_later w m grows memo missing ready); grows = subst B (sym same) grows; means = tt }
