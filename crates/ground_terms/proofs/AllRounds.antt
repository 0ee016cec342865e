-- Rounds of applying, one after another.
use Rattle.std.proofs.Common.{◌≡◌, ℕ, zero, suc, ◌+◌, ◌-◌, ◌≤◌, refl, sym, ◌∙◌, List, [], ◌++◌, ap, subst, arith, add-one}
use Rattle.std.specs.List.{flat_map}
use Rattle.form_formula.specs.declared.structure.Signature.{Signature}
use Rattle.form_terms.specs.GroundTerms.{GroundTerm}
use Rattle.ground_terms.specs.declared.node.TermNode.{TermNode}
use Rattle.ground_terms.specs.Nodes.{Extends}
use Rattle.ground_terms.specs.declared.part.Part.{Part}
use Rattle.ground_terms.specs.Applying.{fields_of, code_skolems, round_terms, IsRound}
use Rattle.ground_terms.specs.Standing.{terms_at, AreOnes, AreTermsAt, AreListed}
use Rattle.ground_terms.proofs.Standing.{extends_none, extends_both, ones_kept, terms_kept}

module _ (g : Signature) (functions : List ℕ) (parts : List Part) (plain first : List ℕ) where
  pub round_begun : (a : List TermNode) → AreOnes a first → IsRound g functions parts plain first a a 0 first
  round_begun a ones = record { kept = extends_none a; stand = record { ones = ones; are = refl } }

  pub round_on : (a b d : List TermNode) (n : ℕ) (current next : List ℕ) → AreOnes a plain → IsRound g functions parts plain first a b n current
      → AreListed (terms_at b plain ++ (flat_map (fields_of g (terms_at b current)) functions ++ flat_map (code_skolems g (terms_at b current)) parts)) b d [] next
      → IsRound g functions parts plain first a d (n + 1) next
  round_on a b d n current next own r h =
      let T : ℕ → List GroundTerm = λ n. round_terms g functions parts (terms_at a plain) (terms_at a first) n in
      let S : List GroundTerm → List GroundTerm → List GroundTerm = λ ps ts. ps ++ (flat_map (fields_of g ts) functions ++ flat_map (code_skolems g ts) parts) in
      let ids : next ≡ h.ids = h.whole in
      let P : List ℕ → Type 0 = λ ids. AreOnes d ids in
      record {
        kept = extends_both a b d r.kept h.kept;
        stand = record {
          ones = subst P (sym ids) h.stand.ones;
          are =
              ap (λ ids. terms_at d ids) ids
              ∙ (h.stand.are
              ∙ (ap (λ ps. S ps (terms_at b current)) (terms_kept a b plain r.kept own)
              ∙ (ap (λ ts. S (terms_at a plain) ts) r.stand.are ∙ ap (λ k. T k) (sym (add-one n)))));
        };
      }

  -- where a round gives what it began with
  settles : (ps ts : List GroundTerm) (n : ℕ) → round_terms g functions parts ps ts (suc n) ≡ round_terms g functions parts ps ts n → (k : ℕ) → round_terms g functions parts ps ts (k + n) ≡ round_terms g functions parts ps ts n
  settles ps ts n e zero = let z : 0 + n ≡ n = omega arith in ap (λ m. round_terms g functions parts ps ts m) z
  settles ps ts n e (suc k) =
      let z : suc k + n ≡ suc (k + n) = omega arith in
      ap (λ m. round_terms g functions parts ps ts m) z
      ∙ (ap (λ us. ps ++ (flat_map (fields_of g us) functions ++ flat_map (code_skolems g us) parts)) (settles ps ts n e k) ∙ e)

  pub round_settled : (a b d : List TermNode) (n m : ℕ) (current next : List ℕ) → n ≤ m → IsRound g functions parts plain first a b n current → IsRound g functions parts plain first a d (n + 1) next
      → Extends b d → next ≡ current → AreTermsAt d current (round_terms g functions parts (terms_at a plain) (terms_at a first) m)
  round_settled a b d n m current next le r s kept e =
      let T : ℕ → List GroundTerm = λ n. round_terms g functions parts (terms_at a plain) (terms_at a first) n in
      let now : terms_at d current ≡ T n = terms_kept b d current kept r.stand.ones ∙ r.stand.are in
      let again : T (suc n) ≡ T n =
      ap (λ k. T k) (sym (add-one n)) ∙ (sym s.stand.are ∙ (ap (λ ids. terms_at d ids) e ∙ now)) in
      let sum : (m - n) + n ≡ m = omega (arith, le) in
      record {
        ones = ones_kept b d current kept r.stand.ones;
        are = now ∙ (sym (settles (terms_at a plain) (terms_at a first) n again (m - n)) ∙ ap (λ k. T k) sum);
      }
