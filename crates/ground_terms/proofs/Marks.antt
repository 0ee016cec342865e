-- Marks of sorts.
use Rattle.std.proofs.Common.{◌≡◌, ℕ, ◌<◌, ◌≤◌, Bool, true, false, ◌||◌, refl, sym, ◌∙◌, List, [], ◌∷◌, ◌++◌, length, set, ap, subst, arith}
use Rattle.std.specs.Prelude.{◌==◌}
use Rattle.std.specs.List.{list_any}
use Rattle.std.proofs.lemmas.Bool.{eqb-true}
use Rattle.std.proofs.lemmas.List.{get_or-set_same, get_or-set_other}
use Rattle.std.proofs.lemmas.List.Folds.{list_any-append}
use Rattle.form_terms.proofs.Kept.{nat_same}
use Rattle.ground_terms.specs.Codes.{is_marked, AreMarked}

pub or_none : (a : Bool) → a ≡ (a || false)
or_none true = refl
or_none false = refl

pub or_assoc : (a b d : Bool) → ((a || b) || d) ≡ (a || (b || d))
or_assoc true b d = refl
or_assoc false b d = refl

pub or_true : (a : Bool) → true ≡ (a || true)
or_true true = refl
or_true false = refl

pub nothing_marked : (marks : List Bool) → AreMarked [] marks marks
nothing_marked marks = record { size = refl; marked = λ sort h. or_none (is_marked marks sort) }

pub marked_both : (xs ys : List ℕ) (a b d : List Bool) → AreMarked xs a b → AreMarked ys b d → AreMarked (xs ++ ys) a d
marked_both xs ys a b d p q = record {
  size = q.size ∙ p.size;
  marked = λ sort h.
      q.marked sort (omega (arith, h, p.size))
      ∙ (ap (λ x. x || list_any (λ s. s == sort) ys) (p.marked sort h)
      ∙ (or_assoc (is_marked a sort) (list_any (λ s. s == sort) xs) (list_any (λ s. s == sort) ys)
      ∙ ap (λ x. is_marked a sort || x) (sym (list_any-append (λ s. s == sort) xs ys))));
}

-- one place is marked
pub one_marked : (marks : List Bool) (place : ℕ) → place < length marks → length (set marks place true) ≡ length marks → AreMarked (place ∷ []) marks (set marks place true)
one_marked marks place within size = record { size = size; marked = λ sort h. at sort (place == sort) refl }
  where
    at : (sort : ℕ) (b : Bool) → (place == sort) ≡ b → is_marked (set marks place true) sort ≡ (is_marked marks sort || (b || false))
    at sort true e =
        let same : place ≡ sort = eqb-true place sort e in
        let P : ℕ → Type 0 = λ k. is_marked (set marks place true) k ≡ (is_marked marks k || (true || false)) in
        subst P same (get_or-set_same marks place true false within ∙ or_true (is_marked marks place))
    at sort false e =
        get_or-set_other marks place sort true false
        (λ h. let no : true ≡ false = sym (nat_same place) ∙ (ap (λ k. place == k) (sym h) ∙ e) in cc)
        ∙ or_none (is_marked marks sort)

-- a place that is not there
pub none_marked : (marks : List Bool) (place : ℕ) → length marks ≤ place → AreMarked (place ∷ []) marks marks
none_marked marks place beyond = record { size = refl; marked = λ sort h. at sort h (place == sort) refl }
  where
    at : (sort : ℕ) → sort < length marks → (b : Bool) → (place == sort) ≡ b → is_marked marks sort ≡ (is_marked marks sort || (b || false))
    at sort h true e = absurd (omega (arith, h, beyond, eqb-true place sort e))
    at sort h false e = or_none (is_marked marks sort)
