-- Record terms over a ground term.
use Rattle.std.proofs.Common.{◌≡◌, ℕ, Bool, true, false, cond, refl, sym, ◌∙◌, List, [], ◌∷◌, ◌++◌, ap, subst, append_assoc, append-nil}
use Rattle.std.specs.Prelude.{reverse, is_none}
use Rattle.std.proofs.lemmas.List.{reverse-append}
use Rattle.form_formula.specs.declared.structure.Signature.{Signature}
use Rattle.form_terms.specs.GroundTerms.{GroundTerm, field, target_of}
use Rattle.form_terms.specs.Parts.{if_element}
use Rattle.ground_terms.specs.declared.node.TermNode.{TermNode}
use Rattle.ground_terms.specs.Nodes.{IsOne, term_of}
use Rattle.ground_terms.specs.Codes.{applied_to, record_parts, inner_parts, IsClimb}
use Rattle.ground_terms.specs.Standing.{AreListed}
use Rattle.ground_terms.proofs.Standing.{listed_more, terms_reversed}

module _ (g : Signature) (root : GroundTerm) (functions : List ℕ) where
  pub climb_begun : (old new : List TermNode) (at : ℕ) (before found : List ℕ) → before ≡ [] → IsOne new at → term_of new at ≡ root → AreListed (root ∷ []) old new before found
      → IsClimb g root functions functions old new at found
  climb_begun old new at before found e one is h =
      let P : List ℕ → Type 0 = λ before. AreListed (root ∷ []) old new before found in
      record { done = []; whole = append-nil functions; one = one; is = is; listed = subst P e h }

  pub climb_on : (left less : List ℕ) (f : ℕ) (old mid new : List TermNode) (at next : ℕ) (p q : List ℕ) → left ≡ less ++ f ∷ [] → IsClimb g root functions left old mid at p
      → IsOne new next → term_of new next ≡ field f (term_of mid at) → AreListed (if_element g f (field f (term_of mid at) ∷ [])) mid new p q → IsClimb g root functions less old new next q
  climb_on left less f old mid new at next p q e c one is h =
      let P : GroundTerm → Type 0 = λ t. AreListed (if_element g f (field f t ∷ [])) mid new p q in
      record {
        done = f ∷ c.done;
        whole = sym (append_assoc less (f ∷ []) c.done) ∙ (ap (λ xs. xs ++ c.done) (sym e) ∙ c.whole);
        one = one;
        is = is ∙ ap (field f) c.is;
        listed = listed_more (inner_parts g root c.done) (if_element g f (field f (applied_to g root c.done) ∷ [])) (inner_parts g root (f ∷ c.done)) old mid new [] p q c.listed (subst P c.is h) refl;
      }

  pub climb_done : (left : List ℕ) (old new : List TermNode) (at : ℕ) (found : List ℕ) → left ≡ [] → IsClimb g root functions left old new at found → AreListed (inner_parts g root functions) old new [] found
  climb_done left old new at found e c =
      let P : List ℕ → Type 0 = λ fs. AreListed (inner_parts g root fs) old new [] found in
      subst P (ap (λ xs. xs ++ c.done) (sym e) ∙ c.whole) c.listed

-- the outermost first
reversed : (g : Signature) (t : GroundTerm) (fs : List ℕ) → reverse (inner_parts g t fs) ≡ record_parts g t fs
reversed g t [] = refl
reversed g t (f ∷ fs) =
    reverse-append (inner_parts g t fs) (if_element g f (applied_to g t (f ∷ fs) ∷ []))
    ∙ (ap (λ xs. xs ++ reverse (inner_parts g t fs)) (one (is_none (target_of g f)) (applied_to g t (f ∷ fs))) ∙ ap (λ xs. if_element g f (applied_to g t (f ∷ fs) ∷ []) ++ xs) (reversed g t fs))
  where
    one : (b : Bool) (x : GroundTerm) → reverse (cond b [] (x ∷ [])) ≡ cond b [] (x ∷ [])
    one true x = refl
    one false x = refl

pub chain_reversed : (g : Signature) (t : GroundTerm) (fs gs : List ℕ) (old new : List TermNode) (found before after : List ℕ) → fs ≡ gs → AreListed (inner_parts g t fs) old new [] found
    → after ≡ before ++ reverse found → AreListed (record_parts g t gs) old new before after
chain_reversed g t fs gs old new found before after e h w =
    let P : List GroundTerm → Type 0 = λ ts. AreListed ts old new before after in
    subst P (reversed g t fs ∙ ap (λ fs. record_parts g t fs) e)
    (record { kept = h.kept; ids = reverse h.ids; stand = terms_reversed new h.ids (inner_parts g t fs) h.stand; whole = w ∙ ap (λ xs. before ++ reverse xs) h.whole })
