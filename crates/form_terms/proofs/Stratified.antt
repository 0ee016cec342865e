-- The terms over which a stratified formula is instantiated are a finite list, and it is closed.
use Rattle.std.proofs.Common.{◌≡◌, ◌↔◌, ℕ, zero, suc, ◌+◌, ◌-◌, inl, inr, List, [], ◌∷◌, ◌++◌, subst, arith, Contains}
use Rattle.std.proofs.lemmas.Bool.{cases_lt}
use Rattle.form_formula.specs.declared.structure.Signature.{Signature}
use Rattle.form_formula.specs.declared.structure.Structure.{Structure}
use Rattle.form_formula.specs.Trees.{Formula, yes, no, equal, less, has, flag, present, negation, both, either, exists, forall}
use Rattle.form_formula.specs.NormalForm.{IsNormal}
use Rattle.form_formula.specs.Over.{IsOver}
use Rattle.form_terms.specs.GroundTerms.{GroundTerm}
use Rattle.form_terms.specs.Parts.{quantifiers}
use Rattle.form_terms.specs.Universe.{ArisesWithin, IsHerbrandTerm, IsClosedSet}
use Rattle.form_terms.specs.Listing.{Lists, herbrand_terms}
use Rattle.form_strata.specs.SortGraph.{IsStratified}
use Rattle.form_terms.specs.Structures.{IsStructure}
use Rattle.form_terms.specs.Passing.{Choice, HoldsOver, Passes, PassesWith}
use Rattle.form_terms.specs.Satisfying.{Satisfies}
use Rattle.form_terms.specs.Cut.{cut}
use Rattle.form_terms.proofs.Completeness.{cut_true}
use Rattle.form_terms.proofs.CutStructure.{cut_structure}
use Rattle.form_terms.proofs.Stages.{arises_listed, listed_arises, applied_mapped}
use Rattle.form_terms.proofs.Walks.{settled}

-- fewer terms pass more
pub over_fewer : (g : Signature) (s : Structure) (c : Choice) (P Q : GroundTerm → Type 0) → ((t : GroundTerm) → P t → Q t)
    → (a : Formula) (number : ℕ) (env xs : List ℕ) → HoldsOver g s c Q number env xs a → HoldsOver g s c P number env xs a
over_fewer g s c P Q sub yes number env xs h = h
over_fewer g s c P Q sub no number env xs h = h
over_fewer g s c P Q sub (equal t u) number env xs h = h
over_fewer g s c P Q sub (less t u) number env xs h = h
over_fewer g s c P Q sub (has r t u) number env xs h = h
over_fewer g s c P Q sub (flag f t) number env xs h = h
over_fewer g s c P Q sub (present f t) number env xs h = h
over_fewer g s c P Q sub (negation a) number env xs h = h
over_fewer g s c P Q sub (both a b) number env xs h =
    (over_fewer g s c P Q sub a number env xs h.0, over_fewer g s c P Q sub b (number + quantifiers a) env xs h.1)
over_fewer g s c P Q sub (either a b) number env xs (inl h) = inl (over_fewer g s c P Q sub a number env xs h)
over_fewer g s c P Q sub (either a b) number env xs (inr h) = inr (over_fewer g s c P Q sub b (number + quantifiers a) env xs h)
over_fewer g s c P Q sub (exists sort a) number env xs (x, e, h) = (x, e, over_fewer g s c P Q sub a (number + 1) (env ++ x ∷ []) xs h)
over_fewer g s c P Q sub (forall sort a) number env xs h = λ x within named.
    over_fewer g s c P Q sub a (number + 1) (env ++ x ∷ []) (xs ++ x ∷ []) (h x within (named.0, sub named.0 named.1, named.2, named.3))

module _ (g : Signature) (f : Formula) (over : IsOver g [] f) where
  pub arises_later : (n : ℕ) (t : GroundTerm) → ArisesWithin g f n t → ArisesWithin g f (suc n) t
  arises_later zero t h = inl h
  arises_later (suc n) t (inl first) = inl first
  arises_later (suc n) t (inr applied) = inr (applied_mapped g f over (ArisesWithin g f n) (ArisesWithin g f (suc n)) (arises_later n) t applied)

  arises_after : (n k : ℕ) (t : GroundTerm) → ArisesWithin g f n t → ArisesWithin g f (n + k) t
  arises_after n zero t h = let P : ℕ → Type 0 = λ m. ArisesWithin g f m t in let e : n ≡ n + 0 = omega arith in subst P e h
  arises_after n (suc k) t h =
      let P : ℕ → Type 0 = λ m. ArisesWithin g f m t in
      let e : suc (n + k) ≡ n + suc k = omega arith in
      subst P e (arises_later (n + k) t (arises_after n k t h))

  module _ (stratified : IsStratified g f) where
    no_more : (k : ℕ) (t : GroundTerm) → ArisesWithin g f (g.sorts + k) t → ArisesWithin g f g.sorts t
    no_more zero t h = let P : ℕ → Type 0 = λ m. ArisesWithin g f m t in let e : g.sorts + 0 ≡ g.sorts = omega arith in subst P e h
    no_more (suc k) t h =
        let P : ℕ → Type 0 = λ m. ArisesWithin g f m t in
        let e : g.sorts + suc k ≡ suc (g.sorts + k) = omega arith in
        settled g f over stratified t (next (no_more k) (subst P e h))
      where
        next : ((t : GroundTerm) → ArisesWithin g f (g.sorts + k) t → ArisesWithin g f g.sorts t) → ArisesWithin g f (suc (g.sorts + k)) t → ArisesWithin g f (suc g.sorts) t
        next before (inl first) = inl first
        next before (inr applied) = inr (applied_mapped g f over (ArisesWithin g f (g.sorts + k)) (ArisesWithin g f g.sorts) before t applied)

    pub arises_at_last : (t : GroundTerm) → IsHerbrandTerm g f t → ArisesWithin g f g.sorts t
    arises_at_last t (n, h) =
        let P : ℕ → Type 0 = λ m. ArisesWithin g f m t in
        elim (cases_lt n g.sorts) [
          | inl early ↦ let e : n + (g.sorts - n) ≡ g.sorts = omega (arith, early) in subst P e (arises_after n (g.sorts - n) t h)
          | inr late ↦ let e : n ≡ g.sorts + (n - g.sorts) = omega (arith, late) in no_more (n - g.sorts) t (subst P e h)
        ]

    pub herbrand_listed : (t : GroundTerm) → IsHerbrandTerm g f t → Contains (herbrand_terms g f) t
    herbrand_listed t h = arises_listed g f over g.sorts t (arises_at_last t h)

    pub listed_herbrand : (t : GroundTerm) → Contains (herbrand_terms g f) t → IsHerbrandTerm g f t
    listed_herbrand t c = (g.sorts, listed_arises g f over g.sorts t c)

    -- each list of the terms is closed
    pub list_closed : (terms : List GroundTerm) → Lists (IsHerbrandTerm g f) terms → IsClosedSet g f (Contains terms)
    list_closed terms h = record {
      first = λ t first. h.all t (0, first);
      applied = λ t a. h.all t
          (suc g.sorts, inr (applied_mapped g f over (Contains terms) (ArisesWithin g f g.sorts) (λ t c. arises_at_last t (h.only t c)) t a));
    }

    pub herbrand_closed : IsClosedSet g f (Contains (herbrand_terms g f))
    herbrand_closed = record {
      first = λ t first. herbrand_listed t (0, first);
      applied = λ t a. herbrand_listed t
          (suc g.sorts, inr (applied_mapped g f over (Contains (herbrand_terms g f)) (ArisesWithin g f g.sorts) (listed_arises g f over g.sorts) t a));
    }

    pub cut_satisfies : IsNormal f → (s : Structure) (c : Choice) → IsStructure g s → PassesWith g f (IsHerbrandTerm g f) s c
        → Satisfies g f (cut g s c (herbrand_terms g f))
    cut_satisfies normal s c structure pass = record {
      structure = cut_structure g f s c (herbrand_terms g f) structure pass.choice;
      true_there = cut_true g f s c (herbrand_terms g f) structure herbrand_closed pass.choice over normal
          (over_fewer g s c (Contains (herbrand_terms g f)) (IsHerbrandTerm g f) listed_herbrand f 0 [] [] pass.holds);
    }

-- passing over a list is passing over the set that it lists
pub passes_listed : (g : Signature) (f : Formula) (P : GroundTerm → Type 0) (s : Structure) (terms : List GroundTerm) → Lists P terms
    → Passes g f (Contains terms) s ↔ Passes g f P s
passes_listed g f P s terms h = (
  λ p. (p.0, record { choice = p.1.choice; holds = over_fewer g s p.0 P (Contains terms) h.all f 0 [] [] p.1.holds }),
  λ p. (p.0, record { choice = p.1.choice; holds = over_fewer g s p.0 (Contains terms) P h.only f 0 [] [] p.1.holds }),
)
