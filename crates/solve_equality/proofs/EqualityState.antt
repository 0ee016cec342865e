-- What is kept beside the entries of an `Equality`, and what it says of models.
use Rattle.std.proofs.Common.{◌≡◌, ℕ, zero, suc, ◌<◌, true, ◌⊎◌, List, [], ◌∷◌, length, get_or, map, Option, Some, None, sym, ap, ◌∙◌, subst, refl, arith}
use Rattle.std.proofs.Math.Logic.{⊎_elim}
use Rattle.std.proofs.lemmas.Bool.{eqb-true, eq-eqb}
use Rattle.std.proofs.lemmas.Option.{same_Some, none-some}
use Rattle.std.proofs.lemmas.List.{get_or-map, length-map}
use Rattle.solve_equality.specs.declared.literal.EqualityLit.{EqualityLit}
use Rattle.solve_equality.specs.declared.entry.Entry.{Entry}
use Rattle.solve_equality.specs.declared.entry.Entry.TheVariants.{Joined, Known, Apart, Failed}
use Rattle.solve_equality.specs.declared.entry.Failure.{Failure}
use Rattle.solve_theory.specs.Models.{IsModelOf, HasModel}
use Rattle.solve_equality.specs.Visits.{Visited}
use Rattle.solve_equality.specs.Edges.{Graph, pair_at}
use Rattle.solve_equality.specs.Partition.{Parts, class_at, anchor_at, start}
use Rattle.solve_equality.specs.Search.{Agree}
use Rattle.solve_equality.specs.Equality.{Equalities, meets_literal, is_classes}
use Rattle.solve_equality.specs.EmptyClasses.{empty_has_classes}
use Rattle.solve_equality.specs.EntryEnds.{literal_of, link_of}
use Rattle.solve_equality.specs.Entries.{step, AreWithin, IsLawful, AreLawful, IsSettled, IsFailure, IsStanding, IsForbidden, IsSoundEquality, entry_at}
use Rattle.solve_equality.proofs.Classes.{IsGood, IsGood-start, IsGood-after, put_at}
use Rattle.solve_equality.proofs.Members.{link_at}
use Rattle.solve_equality.proofs.ClassModels.{meets_settled, is_classes_from, same_as, agree_met, forbidden_together}

within_entry : (terms : ℕ) (s : Parts) (e : Entry) → IsLawful terms s e → AreWithin terms (literal_of e)
within_entry terms s (Joined j) h = (h.left_in, h.right_in)
within_entry terms s (Known l r) h = (h.0, h.1)
within_entry terms s (Apart l r) h = h
within_entry terms s (Failed x) h = h

pub within_at : (terms : ℕ) (s : Parts) (es : List Entry) (k : ℕ) (d : Entry) → AreLawful terms s es → k < length es → AreWithin terms (literal_of (get_or es k d))
within_at terms s [] k d h l = absurd (omega arith)
within_at terms s (e ∷ es) zero d h l = within_entry terms s e h.0
within_at terms s (e ∷ es) (suc k) d h l = within_at terms (step s e) es k d h.1 (omega arith)

-- the literal of an entry's position
pub literal_at : (entries : List Entry) (k : ℕ) (d : EqualityLit) → k < length entries → get_or (map literal_of entries) k d ≡ literal_of (entry_at entries k)
literal_at entries k d l = get_or-map literal_of entries k (Known 0 0) d l

module _ (entries : List Entry) (room limit terms : ℕ) (fixed : List ℕ) (links gaps : Graph) (parts : Parts) (visits : Visited) (failure : Option Failure) (sound : IsSoundEquality entries room limit terms fixed links gaps parts visits failure) where
  pub good : IsGood terms fixed parts
  good = rw sound.parts_are (IsGood-after terms fixed sound.fixed_in (start terms fixed) entries (IsGood-start terms fixed sound.fixed_in) sound.lawful)

  -- where no literal has failed, the classes are a model
  pub standing_model : ((k : ℕ) → k < length entries → IsSettled (entry_at entries k)) → IsModelOf (is_classes terms fixed) meets_literal (map literal_of entries) parts.classes
  standing_model settled = record {
    is_model =
        is_classes_from terms fixed parts.classes good.classes_len
        (λ a b p q e. same_Some a b (sym (good.anchored a p) ∙ ap (anchor_at parts) e ∙ good.anchored b q));
    meets_each = λ k d l.
        let k_in : k < length entries = omega (arith, length-map entries literal_of) in
        ap (meets_literal parts.classes) (literal_at entries k d k_in)
        ∙ meets_settled parts terms (entry_at entries k) good.classes_len (settled k k_in) (within_at terms (start terms fixed) entries k (Known 0 0) sound.lawful k_in)
        (rw sound.parts_are (put_at terms (start terms fixed) entries k (Known 0 0) (IsGood-start terms fixed sound.fixed_in).classes_len sound.lawful k_in))
        (sound.separated k k_in);
  }

  pub HasModel-standing : ((k : ℕ) → k < length entries → IsSettled (entry_at entries k)) → HasModel (is_classes terms fixed) meets_literal (map literal_of entries)
  HasModel-standing settled = record { model = parts.classes; fits = standing_model settled }

-- a model that meets each literal has the same number at the ends of each link
agree_model : (entries : List Entry) (terms : ℕ) (fixed : List ℕ) (h : HasModel (is_classes terms fixed) meets_literal (map literal_of entries)) (left k : ℕ) → k < length entries → Agree (same_as h.model left) (pair_at (map link_of entries) k)
agree_model entries terms fixed h left k l =
    subst (Agree (same_as h.model left)) (sym (link_at entries k l))
    (agree_met h.model left (entry_at entries k) (ap (meets_literal h.model) (sym (literal_at entries k (literal_of (entry_at entries k)) l)) ∙ h.fits.meets_each k (literal_of (entry_at entries k)) (omega (arith, length-map entries literal_of))))

forbidder_in : (fixed : List ℕ) (entries : List Entry) (left right : ℕ) (by : Option ℕ) (k : ℕ) → by ≡ Some k → IsForbidden fixed entries left right by → k < length entries
forbidder_in fixed entries left right None k e h = absurd (none-some k e)
forbidder_in fixed entries left right (Some j) k e h = subst (λ i. i < length entries) (same_Some j k e) h.0

-- after a failure there is no model
pub no_model : (terms : ℕ) (fixed : List ℕ) (entries : List Entry) (f : Failure) → IsFailure terms fixed entries f → ¬ HasModel (is_classes terms fixed) meets_literal (map literal_of entries)
no_model terms fixed entries f failed h =
    let met : (k : ℕ) → k < length entries → meets_literal h.model (literal_of (entry_at entries k)) ≡ true = λ k l.
    ap (meets_literal h.model) (sym (literal_at entries k (literal_of (entry_at entries k)) l)) ∙ h.fits.meets_each k (literal_of (entry_at entries k)) (omega (arith, length-map entries literal_of)) in
    let linked = failed.linked (same_as h.model f.left) (λ k l. agree_model entries terms fixed h f.left k (omega (arith, length-map entries link_of))) in
    let same : get_or h.model f.right 0 ≡ get_or h.model f.left 0 = eqb-true (get_or h.model f.right 0) (get_or h.model f.left 0) (sym linked ∙ eq-eqb (get_or h.model f.left 0) (get_or h.model f.left 0) refl) in
    forbidden_together terms fixed entries f.left f.right f.forbidden_by h.model h.fits.is_model failed.left_in failed.right_in failed.forbidden (sym same) (λ k e. met k (forbidder_in fixed entries f.left f.right f.forbidden_by k e failed.forbidden))

-- where there is a model, no literal has failed
pub settled_if_model : (terms : ℕ) (fixed : List ℕ) (entries : List Entry) (failure : Option Failure) → IsStanding terms fixed entries failure → HasModel (is_classes terms fixed) meets_literal (map literal_of entries) → failure ≡ None
settled_if_model terms fixed entries None standing h = refl
settled_if_model terms fixed entries (Some f) standing h = absurd (no_model terms fixed entries f standing h)

-- there is a model exactly where no literal has failed
module _ (entries : List Entry) (room limit terms : ℕ) (fixed : List ℕ) (links gaps : Graph) (parts : Parts) (visits : Visited) (failure : Option Failure) (sound : IsSoundEquality entries room limit terms fixed links gaps parts visits failure) where
  pub HasModel-sound : failure ≡ None → HasModel (is_classes terms fixed) meets_literal (map literal_of entries)
  HasModel-sound none = HasModel-standing entries room limit terms fixed links gaps parts visits failure sound (subst (IsStanding terms fixed entries) none sound.standing)

  pub no_model-sound : (f : Failure) → failure ≡ Some f → ¬ HasModel (is_classes terms fixed) meets_literal (map literal_of entries)
  no_model-sound f some = no_model terms fixed entries f (subst (IsStanding terms fixed entries) some sound.standing)

  pub failure_if_none : HasModel (is_classes terms fixed) meets_literal (map literal_of entries) → failure ≡ None
  failure_if_none = settled_if_model terms fixed entries failure sound.standing

  -- the columns have a place for each term and each class
  pub parts_fit : (length parts.classes ≡ terms) × (length parts.anchors ≡ terms) × (gaps.terms ≡ terms) × ((t : ℕ) → t < terms → class_at parts t < terms)
  parts_fit =
      let ok = good entries room limit terms fixed links gaps parts visits failure sound in
      (ok.classes_len, ok.anchors_len, ap (λ (g : Graph). g.terms) sound.gaps_are, ok.in_range)

-- the term and the classes of a planned join are in range
pub plan_fits : (parts : Parts) (terms left right near from into : ℕ) → ((t : ℕ) → t < terms → class_at parts t < terms) → left < terms → right < terms → (near ≡ left) ⊎ (near ≡ right) → class_at parts near ≡ from
    → ((class_at parts left ≡ from) × (class_at parts right ≡ into)) ⊎ ((class_at parts left ≡ into) × (class_at parts right ≡ from)) → (near < terms) × (from < terms) × (into < terms)
plan_fits parts terms left right near from into in_range left_in right_in which near_from ends =
    let near_in : near < terms = ⊎_elim (λ e. subst (λ t. t < terms) (sym e) left_in) (λ e. subst (λ t. t < terms) (sym e) right_in) which in (
      near_in,
      subst (λ t. t < terms) near_from (in_range near near_in),
      ⊎_elim (λ e. subst (λ t. t < terms) e.1 (in_range right right_in)) (λ e. subst (λ t. t < terms) e.0 (in_range left left_in)) ends,
    )

-- with nothing asserted there is a model
pub HasModel-empty : (e : Equalities) → e.literals ≡ [] → HasModel (is_classes e.terms e.fixed) meets_literal e.literals
HasModel-empty e none = rw none (empty_has_classes e.terms e.fixed)
