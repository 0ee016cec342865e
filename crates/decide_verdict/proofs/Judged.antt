-- Verdicts by the terms of a formula.
use Rattle.std.proofs.Common.{◌≡◌, ℕ, Bool, true, false, refl, sym, ◌∙◌, List, [], ◌∷◌, Option, Some, None, Result, Ok, Err, IfOk, ap, subst, inl, inr, Contains}
use Rattle.form_formula.specs.declared.structure.Signature.{Signature}
use Rattle.form_formula.specs.declared.structure.Structure.{Structure}
use Rattle.form_formula.specs.NormalForm.{IsNormal}
use Rattle.form_formula.specs.Over.{IsOver}
use Rattle.form_formula.specs.Trees.{Formula}
use Rattle.form_formula.specs.Truth.{truth, IsEquallyTrue}
use Rattle.form_strata.specs.Order.{IsCycle}
use Rattle.form_strata.specs.SortGraph.{IsStratified, edges_of}
use Rattle.form_terms.specs.Counts.{IsTooLarge, node_count, shallow_node_count, shallow_term_count, term_count}
use Rattle.form_terms.specs.GroundTerms.{GroundTerm}
use Rattle.form_terms.specs.Listing.{Lists}
use Rattle.form_terms.specs.Passing.{IsSatisfiableOver, Passes}
use Rattle.form_terms.specs.Satisfying.{IsSatisfiable, Satisfies, SatisfiesWith, leading_sorts, body_of, leading_elements, AreElements}
use Rattle.form_terms.specs.Structures.{IsStructure}
use Rattle.form_terms.specs.Universe.{IsHerbrandTerm, IsShallowTerm, IsClosedSet}
use Rattle.form_terms.proofs.Completeness.{cut_leading}
use Rattle.form_terms.proofs.CutStructure.{cut_structure}
use Rattle.form_terms.proofs.Stratified.{list_closed, passes_listed}
use Rattle.form_terms.proofs.Whole.{whole_satisfies}
use Rattle.form_terms.proofs.Witnesses.{passes_where_true}
use Rattle.form_tables.specs.Made.{made, made_choice}
use Rattle.form_tables.proofs.Closing.{made_passes}
use Rattle.form_tables.proofs.MadeStructure.{made_structure}
use Rattle.form_tables.proofs.Throughout.{throughout}
use Rattle.ground_problem.specs.Words.{vocabulary_at}
use Rattle.decide_models.specs.Found.{IsFound}
use Rattle.decide_search.specs.declared.tabled.Tabled.{Tabled}
use Rattle.decide_search.specs.Tabled.{IsTabled}
use Rattle.decide_verdict.specs.declared.trying.Tried.{Tried}
use Rattle.decide_verdict.specs.Tried.{IsTriedOver}
use Rattle.decide_verdict.specs.Verdicts.{IsSafe, IsFoundIn, IsTried, IsUnknown, IsTooLargeBy}
use Rattle.decide_verdict.proofs.Forms.{leading_true}

-- the structure of a table by which the formula is read
pub made_tried : (g : Signature) (f : Formula) (terms : List GroundTerm) (closed : Bool) (t : Tabled) (tried : Tried) → IsOver g [] f → IsNormal f → (h : IsTabled g f terms closed t)
    → tried.structure ≡ made g (vocabulary_at t.terms t.words) h.table → tried.picks ≡ leading_elements (made_choice g (vocabulary_at t.terms t.words) h.table) 0 f
    → IsTriedOver g f terms closed tried
made_tried g f terms closed t tried over normal h same picks =
    let v = vocabulary_at t.terms t.words in
    let s = made g v h.table in
    let choice = made_choice g v h.table in
    let structure = made_structure g f terms v h.table over h.words h.consistent in
    let pass = made_passes g f terms v over normal h.words h.table h.consistent h.reads in
    let P : Structure → Type 0 = λ s. IsStructure g s in
    let Q : Structure → Type 0 = λ s. Passes g f (Contains terms) s in
    let R : Structure → Type 0 = λ s. SatisfiesWith g f s tried.picks in
    let S : List ℕ → Type 0 = λ picks. SatisfiesWith g f s picks in
    record {
      structure = subst P (sym same) structure;
      passes = subst Q (sym same) (choice, pass);
      satisfies = λ yes' set.
          let leading = cut_leading g f s choice terms structure set pass.choice over normal pass.holds in
          let whole = whole_satisfies g f s choice terms structure pass.choice (throughout g f terms v h.table over h.words h.consistent (h.within yes'))
          (record { structure = cut_structure g f s choice terms structure pass.choice; elements = leading.0; true_there = leading.1 }) in
          subst R (sym same) (subst S (sym picks) whole);
    }

pub too_large : (g : Signature) (f n : Formula) (terms nodes : ℕ) → IsStratified g n → (terms ≡ term_count g n) × (nodes ≡ node_count g n) × IsTooLarge terms nodes
    → IsTooLargeBy g f n terms nodes
too_large g f n terms nodes stratified h =
    let P : ℕ → Type 0 = λ terms. IsTooLarge terms nodes in
    let Q : ℕ → Type 0 = λ nodes. IsTooLarge (term_count g n) nodes in
    record { stratified = stratified; terms_are = h.0; nodes_are = h.1; over_limit = subst Q h.1 (subst P h.0 h.2) }

-- what holds of an answer, where it holds of what was given
pub ok_too : {T E : Type 0} (r : Result T E) (P Q : T → Type 0) → ((x : T) → P x → Q x) → IfOk r P → IfOk r Q
ok_too (Ok x) P Q h k = h x k
ok_too (Err e) P Q h k = tt

module _ (g : Signature) (f n : Formula) (over : IsOver g [] n) (normal : IsNormal n) (same : IsEquallyTrue n f) where
  -- a structure that satisfies the formula passes the normal form, whatever the terms
  passes_by : (P : GroundTerm → Type 0) (s : Structure) → Satisfies g f s → Passes g n P s
  passes_by P s h = passes_where_true g n P s (same s [] ∙ h.true_there)

  nowhere_by : (P : GroundTerm → Type 0) → (IsSatisfiableOver g n P → ⊥) → IsSatisfiable g f → ⊥
  nowhere_by P none h = none (h.0, h.1.structure, passes_by P h.0 h.1)

  satisfied_by : (s : Structure) (picks : List ℕ) → SatisfiesWith g n s picks → Satisfies g f s
  satisfied_by s picks h = record { structure = h.structure; true_there = sym (same s []) ∙ leading_true s [] picks n h.elements h.true_there }

  -- another structure, with elements of its own
  pub found_too : (s t : Structure) (picks others : List ℕ) → IsFoundIn g f n s picks → SatisfiesWith g n t others → IsFoundIn g f n t others
  found_too s t picks others h leading = record { satisfies = satisfied_by t others leading; leading = leading; within = h.within; shallow_within = h.shallow_within }

  module _ (stratified : IsStratified g n) (terms : List GroundTerm) (lists : Lists (IsHerbrandTerm g n) terms) (within : IsTooLarge (term_count g n) (node_count g n) → ⊥) where
    pub stratified_safe : (IsSatisfiableOver g n (Contains terms) → ⊥) → IsSafe g f n
    stratified_safe none = record {
      nowhere = nowhere_by (Contains terms) none;
      within = λ _. within;
      shallow_within = λ no _. no stratified;
      passes_nowhere = λ no _. no stratified;
    }

    pub stratified_found : (t : Tried) → IsTriedOver g n terms true t → IsFoundIn g f n t.structure t.picks
    stratified_found t h =
        let leading = h.satisfies refl (list_closed g n over stratified terms lists) in
        record { satisfies = satisfied_by t.structure t.picks leading; leading = leading; within = λ _. within; shallow_within = λ no _. no stratified }

  module _ (cyclic : IsStratified g n → ⊥) where
    pub untried : (cycle : List ℕ) → IsCycle (edges_of g n) cycle → IsTooLarge (shallow_term_count g n) (shallow_node_count g n) → IsUnknown g f n cycle None
    untried cycle is_cycle large = record { not_stratified = cyclic; is_cycle = is_cycle; untried = (λ _. large, λ _. refl); is_tried = tt }

    module _ (terms : List GroundTerm) (lists : Lists (IsShallowTerm g n) terms) (within : IsTooLarge (shallow_term_count g n) (shallow_node_count g n) → ⊥) where
      pub shallow_safe : (IsSatisfiableOver g n (Contains terms) → ⊥) → IsSafe g f n
      shallow_safe none = record {
        nowhere = nowhere_by (Contains terms) none;
        within = λ yes _. cyclic yes;
        shallow_within = λ _. within;
        passes_nowhere = λ _ h. none (h.0, h.1, (passes_listed g n (IsShallowTerm g n) h.0 terms lists).1 h.2);
      }

      pub shallow_found : (s : Structure) (picks : List ℕ) → IsStructure g s → AreElements s (leading_sorts n) picks → truth s picks (body_of n) ≡ true → IsFoundIn g f n s picks
      shallow_found s picks structure elements true_there =
          let leading : SatisfiesWith g n s picks = record { structure = structure; elements = elements; true_there = true_there } in
          record { satisfies = satisfied_by s picks leading; leading = leading; within = λ yes _. cyclic yes; shallow_within = λ _. within }

      pub shallow_tried : (cycle : List ℕ) → IsCycle (edges_of g n) cycle → (t : Tried) → IsTriedOver g n terms false t → truth t.structure [] n ≡ false → IsUnknown g f n cycle (Some t.structure)
      shallow_tried cycle is_cycle t h false_there = record {
        not_stratified = cyclic;
        is_cycle = is_cycle;
        untried = (λ e. cc, λ large. absurd (within large));
        is_tried = record {
          structure = h.structure;
          passes = (passes_listed g n (IsShallowTerm g n) t.structure terms lists).0 h.passes;
          fails = λ k. let both : true ≡ false = sym k.true_there ∙ (sym (same t.structure []) ∙ false_there) in cc;
        };
      }
