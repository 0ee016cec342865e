-- Why a path of equalities, with what forbids that its ends are together, has no model.
use Rattle.std.proofs.Common.{◌≡◌, ◌≢◌, ℕ, ◌<◌, true, List, [], ◌∷◌, ◌++◌, length, get_or, map, Option, Some, None, IsSome, IsTrue, sym, ap, ◌∙◌, subst, refl, arith}
use Rattle.std.specs.List.{All, AllPairs}
use Rattle.std.proofs.lemmas.Bool.{eqb-true, eq-eqb, false≢true}
use Rattle.std.proofs.lemmas.Option.{same_Some, none-some}
use Rattle.std.proofs.lemmas.List.{length-map, length_push}
use Rattle.std.proofs.lemmas.List.Elements.{All-weaker, All-push}
use Rattle.std.proofs.lemmas.List.Quantifiers.{all_pairs_push}
use Rattle.solve_equality.specs.declared.literal.EqualityLit.{EqualityLit}
use Rattle.solve_equality.specs.declared.literal.EqualityLit.TheVariants.{Same, Differ}
use Rattle.solve_equality.specs.declared.entry.Entry.{Entry}
use Rattle.solve_equality.specs.declared.entry.Entry.TheVariants.{Joined, Known, Apart, Failed}
use Rattle.solve_theory.specs.Models.{IsCore, literals_at}
use Rattle.solve_equality.specs.Edges.{pair_at}
use Rattle.solve_equality.specs.Search.{Agree, IsPath}
use Rattle.solve_equality.specs.Equality.{meets_literal, is_classes}
use Rattle.solve_equality.specs.EntryEnds.{literal_of, link_of, same_ends}
use Rattle.solve_equality.specs.Entries.{SaysDifferent, IsForbidden, entry_at}
use Rattle.solve_theory.proofs.Models.{places_met}
use Rattle.solve_theory.proofs.Distinct.{length-le_from_pairs}
use Rattle.solve_equality.proofs.PathLemmas.{All-front, All-last}
use Rattle.solve_equality.proofs.Members.{link_at}
use Rattle.solve_equality.proofs.ClassModels.{same_as, agree_met, forbidden_together}
use Rattle.solve_equality.proofs.EqualityState.{literal_at}

-- a difference links nothing
no_ends : (lit : EqualityLit) (l r : ℕ) → SaysDifferent lit l r → same_ends lit ≡ None
no_ends (Same a b) l r h = absurd h
no_ends (Differ a b) l r h = refl

no_link : (e : Entry) (l r : ℕ) → SaysDifferent (literal_of e) l r → link_of e ≡ None
no_link (Joined j) l r h = absurd h
no_link (Known a b) l r h = absurd h
no_link (Apart a b) l r h = refl
no_link (Failed lit) l r h = no_ends lit l r h

some_none : {X : Type 0} (o : Option X) → IsSome o → o ≡ None → ⊥
some_none None some none = false≢true some
some_none (Some x) some none = none-some x (sym none)

module _ (terms : ℕ) (fixed : List ℕ) (entries : List Entry) (left right : ℕ) (left_in : left < terms) (right_in : right < terms) (path : List ℕ) (is_path : IsPath (map link_of entries) path left right) where
  abbrev lits : List EqualityLit
  lits = map literal_of entries

  path_in : All (λ p. p < length lits) path
  path_in =
      All-weaker (λ p. (p < length (map link_of entries)) × IsSome (pair_at (map link_of entries) p)) (λ p. p < length lits)
      (λ p h. omega (arith, h.0, length-map entries link_of, length-map entries literal_of)) path is_path.edges

  -- a column that meets the literals of the path puts its ends together
  ends_together : (m : List ℕ) → All (λ p. meets_literal m (literal_of (entry_at entries p)) ≡ true) path → get_or m left 0 ≡ get_or m right 0
  ends_together m met =
      let agrees : All (λ p. Agree (same_as m left) (pair_at (map link_of entries) p)) path = λ k d l.
      let p = get_or path k d in
      let p_in : p < length entries = omega (arith, (is_path.edges k d l).0, length-map entries link_of) in
      subst (Agree (same_as m left)) (sym (link_at entries p p_in)) (agree_met m left (entry_at entries p) (met k d l)) in
      let linked = is_path.links (same_as m left) agrees in
      sym (eqb-true (get_or m right 0) (get_or m left 0) (sym linked ∙ eq-eqb (get_or m left 0) (get_or m left 0) refl))

  -- a model of the literals at some places meets the literal of each of these entries
  met_entries : (m : List ℕ) (ps : List ℕ) → All (λ p. p < length lits) ps → All (λ l. IsTrue (meets_literal m l)) (literals_at lits ps) → All (λ p. meets_literal m (literal_of (entry_at entries p)) ≡ true) ps
  met_entries m ps within met = λ k d l.
      let p = get_or ps k d in
      let p_in : p < length entries = omega (arith, within k d l, length-map entries literal_of) in
      ap (meets_literal m) (sym (literal_at entries p (Same 0 0) p_in)) ∙ places_met (λ x. IsTrue (meets_literal m x)) lits ps (Same 0 0) within met k d l

  pub core_fixed : IsForbidden fixed entries left right None → IsCore (is_classes terms fixed) meets_literal lits path
  core_fixed forbidden = record {
    within = path_in;
    once = is_path.once;
    has_none = λ h.
        let same = ends_together h.model (met_entries h.model path path_in h.fits.meets_each) in
        forbidden_together terms fixed entries left right None h.model h.fits.is_model left_in right_in forbidden same (λ k e. absurd (none-some k e));
  }

  module _ (k : ℕ) (forbidden : IsForbidden fixed entries left right (Some k)) where
    all_in : All (λ p. p < length lits) (path ++ k ∷ [])
    all_in = All-push (λ p. p < length lits) path k path_in (omega (arith, forbidden.0, length-map entries literal_of))

    all_once : AllPairs (λ p q. p ≢ q) (path ++ k ∷ [])
    all_once =
        all_pairs_push (λ (p q : ℕ). p ≢ q) path k is_path.once
        (λ i d l e.
        let link = subst (λ p. IsSome (pair_at (map link_of entries) p)) e (is_path.edges i d l).1 in
        let none = link_at entries k forbidden.0 ∙ no_link (entry_at entries k) left right forbidden.1 in
        some_none (pair_at (map link_of entries) k) link none)

    pub core_forbidden : IsCore (is_classes terms fixed) meets_literal lits (path ++ k ∷ [])
    core_forbidden = record {
      within = all_in;
      once = all_once;
      has_none = λ h.
          let met = met_entries h.model (path ++ k ∷ []) all_in h.fits.meets_each in
          let P : ℕ → Type 0 = λ p. meets_literal h.model (literal_of (entry_at entries p)) ≡ true in
          let same = ends_together h.model (All-front P path (k ∷ []) met) in
          forbidden_together terms fixed entries left right (Some k) h.model h.fits.is_model left_in right_in forbidden same
          (λ j e. subst P (same_Some k j e) (All-last P path k met));
    }

    -- there is room for the place of what forbids it
    pub room_for_last : length path < length lits
    room_for_last = omega (arith, length_push path k, length-le_from_pairs (path ++ k ∷ []) (length lits) all_once all_in)
